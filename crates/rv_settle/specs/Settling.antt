-- What settling answers.
use Rattle.std.specs.Prelude.{◌≡◌, ℕ, List, Ok, Err}
use Rattle.rv_base.specs.declared.record.Tuple.{Tuple}
use Rattle.rv_spec.specs.Elf.{image}
use Rattle.rv_spec.specs.Digest.{Lanes}
use Rattle.rv_spec.specs.Multiset.{Same, count}
use Rattle.rv_spec.specs.Record.{Parts, reads, writes}
use Rattle.rv_spec.specs.Conclusion.{IsRecord, IsCollision}
use Rattle.rv_rules.specs.Verdict.{judge}
use Rattle.rv_order.specs.declared.multiset.Differ.{Differ}
use Rattle.rv_order.specs.Order.{IsLeastDiffering}
use Rattle.rv_settle.specs.declared.settling.Settled.{Settled}
use Rattle.rv_settle.specs.declared.settling.Settled.TheVariants.{Run, Collision, Refused}

-- The file is accepted, its two lists of tuples are one multiset, and it is the record of the run, of this many steps.
pub record IsRun (lanes : Lanes) (elf input file : List ℕ) (steps : ℕ) (p : Parts) : Type 0 where
  pub accepted : judge lanes elf input file ≡ Ok p
  pub same : Same (reads p) (writes (image p.header.version elf) p)
  pub steps_are : steps ≡ p.header.steps
  pub record_of_run : IsRecord lanes p.header.version elf input p.header.size p.header.steps p.header.end file

-- The file is accepted, and of the tuples that stand more often in one of its two lists than in the other this is the least, with both counts.
pub record Differs (lanes : Lanes) (elf input file : List ℕ) (d : Differ) (p : Parts) : Type 0 where
  pub accepted : judge lanes elf input file ≡ Ok p
  pub least : IsLeastDiffering (reads p) (writes (image p.header.version elf) p) d.tuple
  pub count_read : d.reads ≡ count d.tuple (reads p)
  pub count_written : d.writes ≡ count d.tuple (writes (image p.header.version elf) p)
  pub collision : IsCollision lanes elf file

-- The three answers. No two can hold of one file, and one does.
abbrev pub IsSettled : Lanes → List ℕ → List ℕ → List ℕ → Settled → Type 0
IsSettled lanes elf input file (Run steps) = (p : Parts) × IsRun lanes elf input file steps p
IsSettled lanes elf input file (Collision d) = (p : Parts) × Differs lanes elf input file d p
IsSettled lanes elf input file (Refused r) = judge lanes elf input file ≡ Err r

-- What is answered on an accepted file of so many steps, by its two lists.
abbrev pub IsDecided : List Tuple → List Tuple → ℕ → Settled → Type 0
IsDecided rs ws steps (Run n) = Same rs ws × (n ≡ steps)
IsDecided rs ws steps (Collision d) = IsLeastDiffering rs ws d.tuple × (d.reads ≡ count d.tuple rs) × (d.writes ≡ count d.tuple ws)
IsDecided rs ws steps (Refused r) = ⊥
