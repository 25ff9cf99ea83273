use Rattle.std.proofs.Common.{◌≡◌, ◌≤◌, ◌+◌, ◌/◌, length, arith, sym, ◌∙◌}
use Rattle.rv_mem.specs.Paged.{page_number}
use Rattle.rv_mem.proofs.WordsLaws.{word-none, word-read, first-is}
use Rattle.rv_mem.proofs.words.Words.get.Goals as goal

pub returns-in-Some : goal.returns-in-Some
returns-in-Some c =
    let there : page_number c.args.self.now.directory (c.args.w / 16) ≤ length c.args.self.now.pages.items =
    c.args.self.now.sound.there (c.args.w / 16) (omega (arith, c.requires)) in
    let number : page_number c.args.self.now.directory (c.args.w / 16) ≡ c.in-Some.index + 1 = c.in-Some.ensures in
    sym (word-read c.args.self.now.image c.args.self.now.directory c.args.self.now.pages.items c.args.w c.in-Some.index c.index.result.now number (omega (arith, there, number)) c.index.ensures)

pub returns-in-None : goal.returns-in-None
returns-in-None c = first-is _ _ _ c.requires c.word.ensures ∙ sym (word-none _ _ _ _ c.in-None.ensures)
