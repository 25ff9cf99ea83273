use Rattle.std.proofs.Common.{◌≡◌, ◌+◌, ◌/◌, ◌∙◌, length, refl, arith}
use Rattle.rv_mem.proofs.DirectoryLaws.{number-same, number-leaf}
use Rattle.rv_mem.proofs.levels.Levels.add_leaf.Goals as goal

pub returns-in_err-reserve-clause-same : goal.returns-in_err-reserve-clause-same
returns-in_err-reserve-clause-same c = number-same _ _ _ _ c.reserve.ensures.same (λ k. refl)

pub returns-in_default-clause-same : goal.returns-in_default-clause-same
returns-in_default-clause-same c = number-same _ _ _ _ c.reserve.ensures.same (λ k. refl)

pub returns-in_err-grow-clause-same : goal.returns-in_err-grow-clause-same
returns-in_err-grow-clause-same c = number-same _ _ _ _ c.reserve.ensures.same c.grow.ensures.empty

pub returns-clause-same : goal.returns-clause-same
returns-clause-same c =
    let told = c.in-Ok.ensures in
    let level : c.in-Ok.number ≡ length c.args.self.now.leaves.items / 256 + 1 = omega (arith, told, c.len.ensures) in
    number-leaf c.args.self.now.blocks.entries.items _ c.args.self.now.leaves.items _ c.args.block c.in-Ok.number c.args.self.now.sound level c.requires.absent c.enter.ensures.entered
    (λ q low other. c.enter.ensures.others q low other ∙ c.reserve.ensures.same q low) c.grow.ensures.empty
