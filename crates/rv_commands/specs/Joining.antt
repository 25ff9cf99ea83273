-- The joining of parts, by what its calls answer.
use Rattle.std.specs.Prelude.{◌≡◌, ◌≤◌, ◌⊎◌, ℕ, suc, ◌+◌, ◌-◌, true, List, [], ◌∷◌, ◌++◌, length, map, Result, Ok, Err, IfOk, ⊤}
use Rattle.std.specs.List.{concat}
use Rattle.rv_base.specs.declared.limits.TheConstants.{RECORD_LIMIT}
use Rattle.rv_spec.specs.Conclusion.{IsCollision}
use Rattle.rv_spec.specs.Digest.{sha_lanes}
use Rattle.rv_spec.specs.Words.{AreBytes}
use Rattle.rv_rules.specs.Checks.{unless_broken}
use Rattle.rv_rules.specs.Reading.{header_checks, header_of}
use Rattle.rv_reading.specs.Judging.{IsFront}
use Rattle.rv_host.specs.Views.{ShelfView}
use Rattle.rv_parts.specs.Cutting.{whole}
use Rattle.rv_parts.specs.Joining.{AreFaultless, Part as PartRead, behind_front}
use Rattle.rv_parts.specs.declared.summaries.Summary.{Summary}
use Rattle.rv_plan.specs.Plan.{answer, refuses}
use Rattle.rv_plan.specs.FileCalls.{PerformsBehind, ReadsWithin, Stops}
use Rattle.rv_plan.specs.declared.faults.Fault.{Fault}
use Rattle.rv_plan.specs.declared.faults.Fault.TheVariants.{Memory, Part}
use Rattle.rv_plan.specs.declared.faults.Limited.TheVariants as limited
use Rattle.rv_plan.specs.declared.told.Told.{Told}
use Rattle.rv_commands.specs.CommandLine.{JoinWords}
use Rattle.rv_commands.specs.Headline.{AreParts, IsRecordOfRun}
use Rattle.rv_commands.specs.Lines.{refused_line}
use Rattle.rv_commands.specs.Outcome.{all_parts, behind_first, denies, parts_from}
use Rattle.rv_commands.specs.Parts.{Joined, Opened, added, added_behind, begun, opened, part_name, with_part}
use Rattle.rv_commands.specs.declared.join.First.{First}
use Rattle.rv_commands.specs.declared.join.First.TheVariants.{Checked, Refused}
use Rattle.rv_commands.specs.declared.join.Joining.{Joining}
use Rattle.rv_commands.specs.declared.join.OpenedPart.{OpenedPart}

abbrev pub opened_of : OpenedPart → Opened
opened_of x = record { head = x.head; front = x.front.now; body = x.body.now }

-- a part behind its front
abbrev pub part_of : Opened → PartRead
part_of x = record { head = x.head; body = x.body }

-- What is kept of the first p of n parts, which have no fault.
pub record IsJoining (n : ℕ) (elf input : List ℕ) (x : Joining) (p : ℕ) (j : Joined) (parts : List PartRead) : Type 0 where
  pub front : x.front ≡ j.front
  pub header : x.header ≡ header_of j.front
  pub shards : x.shards ≡ j.shards
  pub within : j.shards ≤ (header_of j.front).shards
  pub all : p ≡ n → j.shards ≡ (header_of j.front).shards
  pub count : length parts ≡ p
  pub bodies : j.bodies ≡ concat (map (λ q. q.body) parts)
  pub is_front : IsFront j.front
  pub checked : unless_broken 0 0 (header_checks true sha_lanes elf input j.front) (header_of j.front) ≡ Ok (header_of j.front)
  pub front_bytes : AreBytes j.front
  pub body_bytes : AreBytes j.bodies
  -- with parts behind them that have no fault, none has
  pub follow : (qs : List PartRead) (ys : List Summary) → AreFaultless sha_lanes (behind_front elf input j.front) n p j.shards qs ys
      → AreFaultless sha_lanes (behind_front elf input j.front) n 0 0 (parts ++ qs) (x.summaries.items ++ ys)

-- one more part is added, judged alone
abbrev pub AddsPart : ℕ → List ℕ → List ℕ → ℕ → Joined → List PartRead → OpenedPart → Joining → Result Unit Fault → Type 0
AddsPart n elf input p j parts x new (Ok _) =
    let o = opened_of x in (added elf input j o ≡ Ok (with_part j o)) × IsJoining n elf input new (p + 1) (with_part j o) (parts ++ part_of o ∷ [])
AddsPart n elf input p j parts x new (Err (Part number fault)) = (number ≡ p) × (added elf input j (opened_of x) ≡ Err fault)
AddsPart n elf input p j parts x new (Err Memory) = ⊤
AddsPart n elf input p j parts x new (Err _) = ⊥

-- one more part is added, whose front is part 0's
abbrev pub AddsFile : ℕ → List ℕ → List ℕ → ℕ → Joined → List PartRead → List ℕ → Joining → Result Unit Fault → Type 0
AddsFile n elf input p j parts file new (Ok _) =
    (o : Opened) × (opened n p file ≡ Ok o) × (o.front ≡ j.front) × (added_behind elf input j (opened n p file) ≡ Ok (with_part j o))
    × IsJoining n elf input new (p + 1) (with_part j o) (parts ++ part_of o ∷ [])
AddsFile n elf input p j parts file new (Err (Part number fault)) = (number ≡ p) × (added_behind elf input j (opened n p file) ≡ Err fault)
AddsFile n elf input p j parts file new (Err Memory) = ⊤
AddsFile n elf input p j parts file new (Err _) = ⊥

-- one more part is read, or join stops there, however many parts follow
abbrev pub ReadsPart : JoinWords → List ℕ → List ℕ → ℕ → Joining → Joining → ShelfView → ShelfView → Result Unit Fault → Type 0
ReadsPart w elf input p old new before after (Ok u) =
    (file : List ℕ) × ReadsWithin (part_name w.name p) RECORD_LIMIT limited.Record before after (Ok file)
    × ((j : Joined) (parts : List PartRead) → IsJoining w.parts elf input old p j parts → AddsFile w.parts elf input p j parts file new (Ok u))
ReadsPart w elf input p old new before after (Err fault) =
    (j : Joined) (parts : List PartRead) (more : ℕ) → IsJoining w.parts elf input old p j parts → Stops (parts_from w elf input (suc more) p j) before after fault

-- ---- part 0

-- what join does behind part 0's file
abbrev pub BeginsParts : JoinWords → List ℕ → List ℕ → List ℕ → Result First Fault → Type 0
BeginsParts w elf input file (Ok (Checked x)) =
    (o : Opened) × (opened w.parts 0 file ≡ Ok o) × (behind_first w elf input file ≡ parts_from w elf input (w.parts - 1) 1 (with_part (begun o.front) o))
    × IsJoining w.parts elf input x 1 (with_part (begun o.front) o) (part_of o ∷ [])
BeginsParts w elf input file (Ok (Refused r)) = behind_first w elf input file ≡ answer (denies (refused_line r))
BeginsParts w elf input file (Err (Part number fault)) = behind_first w elf input file ≡ answer (refuses (Part number fault))
BeginsParts w elf input file (Err Memory) = ⊤
BeginsParts w elf input file (Err _) = ⊥

abbrev pub ReadsFirst : JoinWords → List ℕ → List ℕ → ShelfView → ShelfView → Result First Fault → Type 0
ReadsFirst w elf input before after (Ok x) =
    (file : List ℕ) × ReadsWithin (part_name w.name 0) RECORD_LIMIT limited.Record before after (Ok file) × BeginsParts w elf input file (Ok x)
ReadsFirst w elf input before after (Err fault) = Stops (all_parts w elf input) before after fault

-- ---- all parts

-- the parts that were read make an accepted file
pub record IsJoined (w : JoinWords) (elf input : List ℕ) (before : ShelfView) : Type 0 where
  pub front : List ℕ
  pub bodies : List (List ℕ)
  pub count : length bodies ≡ w.parts
  pub parts_are : AreParts before.files w.name front 0 bodies
  pub sound : IsRecordOfRun elf input (whole front bodies) ⊎ IsCollision sha_lanes elf (whole front bodies)

-- the parts are joined as the plan says, and success says what they make
pub record JoinsParts (w : JoinWords) (elf input : List ℕ) (before after : ShelfView) (result : Result Told Fault) : Type 0 where
  pub performs : PerformsBehind (all_parts w elf input) before after result
  pub joined : IfOk result (λ told. told.status ≡ 0 → IsJoined w elf input before)
