use Rattle.std.proofs.Common.{◌≡◌, ◌≤◌, ◌+◌, ◌/◌, length, arith, refl, sym, ◌∙◌}
use Rattle.rv_mem.specs.Paged.{page_number}
use Rattle.rv_mem.proofs.WordsLaws.{word-read, word-set, word-others}
use Rattle.rv_mem.proofs.words.Words.exchange.Goals as goal

pub returns-clause-set : goal.returns-clause-set
returns-clause-set c =
    let there : page_number c.args.self.now.directory (c.args.w / 16) ≤ length c.args.self.now.pages.items =
    c.args.self.now.sound.there (c.args.w / 16) (omega (arith, c.requires.in_memory)) in
    let number : page_number c.args.self.now.directory (c.args.w / 16) ≡ c.in-Some.index + 1 = c.in-Some.ensures in
    word-set _ _ _ _ _ _ c.index_mut.result.now _ number (omega (arith, there, number)) refl

pub returns-clause-others : goal.returns-clause-others
returns-clause-others c = λ other within apart.
    let there : page_number c.args.self.now.directory (c.args.w / 16) ≤ length c.args.self.now.pages.items =
    c.args.self.now.sound.there (c.args.w / 16) (omega (arith, c.requires.in_memory)) in
    let number : page_number c.args.self.now.directory (c.args.w / 16) ≡ c.in-Some.index + 1 = c.in-Some.ensures in
    word-others _ _ _ _ _ _ c.index_mut.result.now _ c.args.self.now.sound c.requires.in_memory number (omega (arith, there, number)) c.index_mut.ensures.value refl other within apart
    ∙ refl

pub returns-clause-held : goal.returns-clause-held
returns-clause-held c =
    let there : page_number c.args.self.now.directory (c.args.w / 16) ≤ length c.args.self.now.pages.items =
    c.args.self.now.sound.there (c.args.w / 16) (omega (arith, c.requires.in_memory)) in
    let number : page_number c.args.self.now.directory (c.args.w / 16) ≡ c.in-Some.index + 1 = c.in-Some.ensures in
    sym (word-read c.args.self.now.image c.args.self.now.directory c.args.self.now.pages.items c.args.w c.in-Some.index c.index.result.now number (omega (arith, there, number)) c.index.ensures)
