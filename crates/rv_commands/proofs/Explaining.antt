-- What explain does, as its plan says.
use Rattle.std.proofs.Common.{◌≡◌, [], ℕ, List, Ok, Err, Result, refl, subst}
use Rattle.rv_base.specs.declared.limits.TheConstants.{RECORD_LIMIT}
use Rattle.rv_base.specs.declared.record.Refusal.{Refusal}
use Rattle.rv_spec.specs.Record.{Parts}
use Rattle.rv_rules.specs.Verdict.{parse}
use Rattle.rv_host.specs.Views.{ShelfView}
use Rattle.rv_plan.specs.Plan.{Outcome, answer}
use Rattle.rv_plan.specs.FileCalls.{IsUnchanged, Performs, PerformsBehind, ReadsWithin, Stops}
use Rattle.rv_plan.specs.declared.faults.Fault.{Fault}
use Rattle.rv_plan.specs.declared.faults.Limited.TheVariants as limited
use Rattle.rv_plan.specs.declared.told.Told.{Told}
use Rattle.rv_plan.proofs.Lemmas.{performs-read, read-stops}
use Rattle.rv_commands.specs.CommandLine.{ExplainWords, explain}
use Rattle.rv_commands.specs.Judging.{TellsOutcome}
use Rattle.rv_commands.specs.Outcome.{explained, plan_of}
use Rattle.rv_commands.proofs.Checking.{told-behind, written-nothing}

pub explain-unread : (w : ExplainWords) (s s' : ShelfView) (f : Fault) → ReadsWithin w.file RECORD_LIMIT limited.Record s s' (Err f) → Stops (plan_of (explain w)) s s' f
explain-unread w s s' f read = read-stops w.file RECORD_LIMIT limited.Record s s' f (λ bytes. answer (explained w.from w.count (parse bytes))) read

explained-writes : (from count : ℕ) (r : Result Parts Refusal) → (explained from count r).writes ≡ []
explained-writes from count (Err r) = refl
explained-writes from count (Ok p) = refl

pub explain-read : (w : ExplainWords) (s s' : ShelfView) (file bytes : List ℕ) (r : Result Told Fault) → ReadsWithin w.file RECORD_LIMIT limited.Record s s' (Ok file) → bytes ≡ file → TellsOutcome (explained w.from w.count (parse bytes)) r
    → Performs (plan_of (explain w)) s s' r
explain-read w s s' file bytes r read same says =
    performs-read w.file RECORD_LIMIT limited.Record s s' s' file (λ contents. answer (explained w.from w.count (parse contents))) r read
    (told-behind (answer o) s' s' o r still (explained-writes w.from w.count (parse file)) told-is done)
  where
    o : Outcome
    o = explained w.from w.count (parse file)

    still : IsUnchanged s' s'
    still = record { files = refl; reads = λ _. refl; writes = λ _. refl }

    told-is : TellsOutcome o r
    told-is = subst (λ b. TellsOutcome (explained w.from w.count (parse b)) r) same says

    done : (told : Told) → r ≡ Ok told → PerformsBehind (answer o) s' s' (Ok told)
    done told it =
        let said : TellsOutcome o (Ok told) = subst (TellsOutcome o) it told-is in
        (o, refl, said.0, said.1, written-nothing s' s' o still (explained-writes w.from w.count (parse file)))
