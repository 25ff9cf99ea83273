use Rattle.rv_file.proofs.FileLaws.{form-is-grammar}
use Rattle.rv_file.proofs.laws.form_is_grammar.Goals as goal

pub returns : goal.returns
returns c = form-is-grammar
