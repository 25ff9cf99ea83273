use Rattle.std.proofs.Common.{◌≡◌, ◌/◌, length, arith, ◌∙◌}
use Rattle.rv_mem.proofs.BlocksLaws.{number-table, table-read}
use Rattle.rv_mem.proofs.blocks.Blocks.make_table.Goals as goal

pub returns-clause-same : goal.returns-clause-same
returns-clause-same c =
    let told = c.in-Ok.ensures in
    let level : c.in-Ok.table ≡ length c.args.self.now.entries.items / 512 = omega (arith, told, c.len.ensures) in
    let none : c.index.result.now ≡ 0 = grind arith in
    number-table _ _ _ _ c.args.self.now.sound level c.grow.ensures.empty (omega (arith, c.requires.in_memory)) (omega (arith, c.in_ok-grow.ensures.ok))
    (table-read _ _ _ c.args.self.now.sound c.requires.in_memory c.requires.begun c.index.ensures ∙ none)
