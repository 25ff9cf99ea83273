use Rattle.std.proofs.Common.{ℕ, ◌+◌, ◌-◌, ◌++◌, take, drop, replicate, ◌∙◌, ap}
use Rattle.std.specs.Int.{w32, from_le_bytes}
use Rattle.rv_isa.proofs.ByteLists.{part-bytes}
use Rattle.rv_isa.proofs.environment.from_lane.Goals as goal

pub returns : goal.returns
returns c =
    let moved = c.copy_from_slice.ensures.after ∙ ap (λ l. take (c.args.lane + c.args.count - c.args.lane) (drop c.args.lane l)) c.to_le_bytes.ensures in
    part-bytes c.args.word c.args.lane c.args.count c.from_le_bytes.result c.requires
    (c.from_le_bytes.ensures ∙ ap (λ l. from_le_bytes w32 (l ++ drop {A = ℕ} c.args.count (replicate {A = ℕ} 4 0))) moved)
