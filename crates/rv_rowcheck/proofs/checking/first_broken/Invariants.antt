use Rattle.std.proofs.Common.{◌≡◌, drop}
use Rattle.rv_rules.specs.Checks.{first_broken}
use Rattle.rv_rowcheck.proofs.checking.first_broken.Given as goal

-- the checks so far hold, so those that are left decide
abbrev pub invariant-loop-rule : goal.invariant-loop-rule
invariant-loop-rule l = first_broken (drop l.rule-index l.checks) ≡ first_broken l.checks
