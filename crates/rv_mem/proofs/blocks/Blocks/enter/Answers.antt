use Rattle.std.proofs.Common.{◌≡◌, ◌<◌, length}
use Rattle.rv_mem.specs.Blocks.{table_of}
use Rattle.rv_mem.proofs.BlocksLaws.{number-entered, number-others, table-read, length-table}
use Rattle.rv_mem.proofs.blocks.Blocks.enter.Goals as goal

pub returns-clause-entered : goal.returns-clause-entered
returns-clause-entered c =
    let d = c.args.self.now.entries.items in
    let some : 0 < length d = length-table d _ c.requires.made in
    let table : table_of d c.args.block ≡ c.index.result.now = table-read _ _ _ c.args.self.now.sound c.requires.in_memory some c.index.ensures in
    rw (← table) (number-entered _ _ _ c.args.self.now.sound c.requires.in_memory c.requires.made)

pub returns-clause-others : goal.returns-clause-others
returns-clause-others c = λ other within apart.
    let d = c.args.self.now.entries.items in
    let some : 0 < length d = length-table d _ c.requires.made in
    let table : table_of d c.args.block ≡ c.index.result.now = table-read _ _ _ c.args.self.now.sound c.requires.in_memory some c.index.ensures in
    rw (← table) (number-others _ _ _ c.args.self.now.sound c.requires.in_memory c.requires.made other within apart)
