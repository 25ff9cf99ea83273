use Rattle.std.proofs.Common.{◌<◌, length, arith, ◌∙◌}
use Rattle.rv_mem.proofs.BlocksLaws.{number-empty, number-none, number-read, table-read}
use Rattle.rv_mem.proofs.blocks.Blocks.find.Goals as goal

pub returns-then-is_empty : goal.returns-then-is_empty
returns-then-is_empty c = number-empty _ _ (grind arith)

pub returns-then-table-eq0 : goal.returns-then-table-eq0
returns-then-table-eq0 c =
    let some : 0 < length c.args.self.now.entries.items = grind arith in
    number-none _ _ (table-read _ _ _ c.args.self.now.sound c.requires some c.index.ensures ∙ c.if-table-eq0.true)

pub returns-then-number-eq0 : goal.returns-then-number-eq0
returns-then-number-eq0 c =
    let some : 0 < length c.args.self.now.entries.items = grind arith in
    number-read _ _ _ _ c.args.self.now.sound c.requires some c.index.ensures c.if-table-eq0.false c.index-2.ensures ∙ c.if-number-eq0.true

pub returns-else-number-eq0 : goal.returns-else-number-eq0
returns-else-number-eq0 c =
    let some : 0 < length c.args.self.now.entries.items = grind arith in
    let found = number-read _ _ _ _ c.args.self.now.sound c.requires some c.index.ensures c.if-table-eq0.false c.index-2.ensures in
    omega (arith, found)
