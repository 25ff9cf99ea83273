use Rattle.std.proofs.Common.{◌∙◌}
use Rattle.rv_mem.proofs.WordsLaws.{word-kept}
use Rattle.rv_mem.proofs.words.Words.reserve.Goals as goal

pub returns-in_err-add_page-clause-same : goal.returns-in_err-add_page-clause-same
returns-in_err-add_page-clause-same c = λ w within. c.add_page.ensures.same w within ∙ word-kept _ _ _ _ (λ p low. c.recall.ensures.same p) w within

pub returns-in_ok-add_page-clause-same : goal.returns-in_ok-add_page-clause-same
returns-in_ok-add_page-clause-same c = λ w within. c.add_page.ensures.same w within ∙ word-kept _ _ _ _ (λ p low. c.recall.ensures.same p) w within

pub returns-else-is_none-clause-same : goal.returns-else-is_none-clause-same
returns-else-is_none-clause-same c = λ w within. word-kept _ _ _ _ (λ p low. c.recall.ensures.same p) w within
