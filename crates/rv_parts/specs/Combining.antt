-- The verdict on parts, by their summaries (this project's own).
use Rattle.std.specs.Prelude.{ℕ, Bool, true, false, ◌&&◌, ◌==◌, List, [], ◌∷◌, replicate, Option, Some, None, if◌then◌else◌}
use Rattle.rv_base.specs.declared.record.Header.{Header}
use Rattle.rv_base.specs.declared.record.Place.{Place}
use Rattle.rv_base.specs.declared.record.Refusal.{Refusal}
use Rattle.rv_base.specs.declared.record.Verdict.{Verdict}
use Rattle.rv_base.specs.declared.record.Verdict.TheVariants.{Refuse}
use Rattle.rv_base.specs.declared.rules.TheConstants.{SHORT, SHARD_HEAD}
use Rattle.rv_rules.specs.Reading.{first_place}
use Rattle.rv_rules.specs.Sums.{add_lanes, tiny_lanes}
use Rattle.rv_judge.specs.Alone.{ended}
use Rattle.rv_parts.specs.declared.summaries.Summary.{Summary}

abbrev pub are_same : Place → Place → Bool
are_same p q = p.pc == q.pc && p.input == q.input && p.output == q.output

-- what is refused of a part behind a place, by the place that its first shard states
abbrev pub refused_at : ℕ → Place → Option Place → Option Refusal → Option Refusal
refused_at first place None refusal = Some (record { shard = first; row = 0; rule = SHORT })
refused_at first place (Some stated) refusal = if are_same stated place then refusal else Some (record { shard = first; row = 0; rule = SHARD_HEAD })

-- the refusal, or else a verdict
abbrev pub unless_refused : Option Refusal → Verdict → Verdict
unless_refused None v = v
unless_refused (Some r) v = Refuse r

-- The verdict on these parts, behind others: the first answer, or what stands at the end behind a place, with the digests of all that is read and written, behind so many entries of the table, and with bytes behind it or none.
unfoldable pub combined_from : Header → Place → List ℕ → List ℕ → ℕ → Bool → List Summary → Verdict
combined_from h place reads writes entries trailing [] = ended h place (record { reads = reads; writes = writes }) entries trailing
combined_from h place reads writes entries trailing (x ∷ xs) =
    unless_refused (refused_at x.first place x.before x.refusal)
    (combined_from h x.after (add_lanes reads x.reads.lanes) (add_lanes writes x.writes.lanes) x.entries x.trailing xs)

-- the verdict on all parts of a file with this header, for a program
abbrev pub combined : List ℕ → List ℕ → Header → List Summary → Verdict
combined elf input h xs = combined_from h (first_place true tiny_lanes elf input h) (replicate 16 0) (replicate 16 0) 0 false xs
