use Rattle.std.proofs.Common.{◌∙◌, List, ℕ, ap, bytes_eq}
use Rattle.rv_rules.specs.Reading.{digest_of}
use Rattle.rv_judge.proofs.Fronts.{digest-taken}
use Rattle.rv_judge.proofs.sums.states.Goals as goal

pub returns-in-Some : goal.returns-in-Some
returns-in-Some c =
    c.eq.ensures
    ∙ ap (λ (z : List ℕ). bytes_eq z c.args.digest.now.lanes) (c.from_bytes.ensures.lanes ∙ ap digest_of c.in-Some.ensures.cases.same ∙ digest-taken c.args.bytes.now c.requires)
