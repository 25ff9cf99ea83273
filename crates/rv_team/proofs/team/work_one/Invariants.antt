use Rattle.std.proofs.Common.{◌≡◌}
use Rattle.rv_claim.specs.Passes.{IsOf, IsSame, drawn_of, deposited_of}
use Rattle.rv_team.proofs.team.work_one.Given as goal

abbrev pub invariant-loop : goal.invariant-loop
invariant-loop g l =
    (goal.iterator-loop g).can_next l.iterator' × (goal.iterator-loop g).is_finite l.iterator'
    × IsOf l.fn.board l.pass × IsSame l.fn.pass l.pass × (deposited_of l.pass ≡ drawn_of l.pass)
