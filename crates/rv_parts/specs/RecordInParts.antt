-- The parts that a record file is cut into have no fault, and the verdict by their summaries is the verdict on the file (this project's own).
use Rattle.std.specs.Prelude.{◌≡◌, ◌≤◌, ◌<◌, ℕ, ◌+◌, true, false, List, [], ◌∷◌, map, take, drop, None, Some, Ok}
use Rattle.std.specs.List.{range_with_len}
use Rattle.rv_base.specs.declared.layout.TheConstants.{HEADER_BYTES}
use Rattle.rv_spec.specs.Digest.{Lanes}
use Rattle.rv_spec.specs.Elf.{first_fault}
use Rattle.rv_spec.specs.Record.{Parts}
use Rattle.rv_spec.specs.Words.{AreBytes}
use Rattle.rv_rules.specs.Checks.{unless_broken}
use Rattle.rv_rules.specs.Reading.{header_checks, header_of}
use Rattle.rv_rules.specs.Verdict.{parse, verdict}
use Rattle.rv_reading.specs.Judging.{IsFront}
use Rattle.rv_judge.specs.Subject.{Subject}
use Rattle.rv_parts.specs.declared.heads.TheConstants.{PART_HEAD_BYTES}
use Rattle.rv_parts.specs.declared.summaries.Summary.{Summary}
use Rattle.rv_parts.specs.Combining.{combined}
use Rattle.rv_parts.specs.Cutting.{body_of, first_of, front_of, head_of_part, part_bytes}
use Rattle.rv_parts.specs.Heads.{head_in}
use Rattle.rv_parts.specs.Joining.{IsHeadAt, Part}
use Rattle.rv_parts.specs.Summaries.{IsSummary, is_cut}

-- part p of a record that is cut into so many parts
abbrev pub part_of : Parts → ℕ → ℕ → Part
part_of q parts p = record { head = head_of_part q.header.shards parts p; body = body_of q parts p }

-- all parts, in order
abbrev pub all_parts : Parts → ℕ → List Part
all_parts q parts = map (part_of q parts) (range_with_len 0 parts)

-- what the parts of a record are judged against
abbrev pub behind_front_of : List ℕ → List ℕ → Parts → Subject
behind_front_of elf input q = record { elf = elf; input = input; header = q.header; output = q.output }

-- These bytes are a front with the header and the output of the record.
pub record IsFrontOf (q : Parts) (front : List ℕ) : Type 0 where
  pub size : IsFront front
  pub header : header_of front ≡ q.header
  pub output : drop HEADER_BYTES front ≡ q.output

-- the bytes behind the head of a part, and how many of them its front has, by the header there
abbrev pub behind_head : Parts → ℕ → ℕ → List ℕ
behind_head q parts p = drop PART_HEAD_BYTES (part_bytes q parts p)

abbrev pub front_size : List ℕ → ℕ
front_size bytes = HEADER_BYTES + (header_of bytes).length

-- From the bytes of part p its head is read, then the front of the record, and then its body.
pub record IsReadBack (q : Parts) (parts p : ℕ) : Type 0 where
  pub head : head_in (part_bytes q parts p) ≡ Some (head_of_part q.header.shards parts p)
  pub front : take (front_size (behind_head q parts p)) (behind_head q parts p) ≡ front_of q
  pub body : drop (front_size (behind_head q parts p)) (behind_head q parts p) ≡ body_of q parts p

-- Part p of a record, judged for a program and an input, has no fault: its head says which part it is, and that its shards are one at least and begin where those of the part before it end; its front has the header and the output of the record; and it isn't cut.
pub record HasNoFault (lanes : Lanes) (elf input : List ℕ) (q : Parts) (parts p : ℕ) : Type 0 where
  pub read : IsReadBack q parts p
  pub head : IsHeadAt parts p (first_of q.header.shards parts p) (head_of_part q.header.shards parts p)
  pub next : first_of q.header.shards parts p + (head_of_part q.header.shards parts p).count ≡ first_of q.header.shards parts (p + 1)
  pub front : IsFrontOf q (front_of q)
  pub whole : is_cut lanes (behind_front_of elf input q) (head_of_part q.header.shards parts p) (body_of q parts p) ≡ false

-- For every program, also one that the record isn't of: no part of a file of good form that is cut into no more parts than it has shards has a fault.
abbrev pub CutPartsHaveNoFault : Type 0
CutPartsHaveNoFault = (lanes : Lanes) (elf input file : List ℕ) (q : Parts) (parts p : ℕ)
    → AreBytes file → parse file ≡ Ok q → 1 ≤ parts → parts ≤ q.header.shards → p < parts → HasNoFault lanes elf input q parts p

-- these are the summaries of these parts, in order
abbrev pub AreSummaries : Lanes → Subject → List Part → List Summary → Type 0
AreSummaries lanes s [] [] = Unit {0}
AreSummaries lanes s [] (x ∷ xs) = ⊥
AreSummaries lanes s (p ∷ ps) [] = ⊥
AreSummaries lanes s (p ∷ ps) (x ∷ xs) = IsSummary lanes s p.head p.body x × AreSummaries lanes s ps xs

-- For a program without a fault: where a file of good form is cut into no more parts than it has shards, and no check of its front is broken, the verdict by the summaries of all its parts is the verdict on the file.
abbrev pub CutPartsTellVerdict : Type 0
CutPartsTellVerdict = (lanes : Lanes) (elf input file : List ℕ) (q : Parts) (parts : ℕ) (xs : List Summary)
    → AreBytes elf → first_fault elf ≡ None → AreBytes file → parse file ≡ Ok q → 1 ≤ parts → parts ≤ q.header.shards
    → unless_broken 0 0 (header_checks true lanes elf input (front_of q)) (header_of (front_of q)) ≡ Ok q.header
    → AreSummaries lanes (behind_front_of elf input q) (all_parts q parts) xs
    → combined elf input q.header xs ≡ verdict lanes elf input file
