-- The verdict by the summaries of parts without a fault is the verdict on the file that they make (this project's own).
use Rattle.std.specs.Prelude.{◌≡◌, ◌≤◌, ◌<◌, ℕ, ◌+◌, true, List, [], ◌∷◌, length, map, drop, None, Ok}
use Rattle.rv_base.specs.declared.layout.TheConstants.{HEADER_BYTES}
use Rattle.rv_spec.specs.Digest.{Lanes}
use Rattle.rv_spec.specs.Elf.{first_fault}
use Rattle.rv_spec.specs.Words.{AreBytes}
use Rattle.rv_rules.specs.Checks.{unless_broken}
use Rattle.rv_rules.specs.Reading.{header_checks, header_of}
use Rattle.rv_rules.specs.Verdict.{verdict}
use Rattle.rv_reading.specs.Judging.{IsFront}
use Rattle.rv_judge.specs.Subject.{Subject}
use Rattle.rv_parts.specs.declared.heads.PartHead.{PartHead}
use Rattle.rv_parts.specs.declared.summaries.Summary.{Summary}
use Rattle.rv_parts.specs.Combining.{combined}
use Rattle.rv_parts.specs.Cutting.{first_of, head_of_part, whole}
use Rattle.rv_parts.specs.Summaries.{Summarizes}

-- a part, behind its front
pub record Part : Type 0 where
  pub head : PartHead
  pub body : List ℕ

-- The head of part k of n says so, and has shards from shard i on.
pub record IsHeadAt (n k i : ℕ) (head : PartHead) : Type 0 where
  pub number : head.number ≡ k
  pub parts : head.parts ≡ n
  pub first : head.first ≡ i
  pub some : 1 ≤ head.count

-- Of n parts, those from part k on have no fault: their heads are in order and cover the shards from shard i on, and none is cut. These are their summaries.
abbrev pub AreFaultless : Lanes → Subject → ℕ → ℕ → ℕ → List Part → List Summary → Type 0
AreFaultless lanes s n k i [] [] = (k ≡ n) × (i ≡ s.header.shards)
AreFaultless lanes s n k i [] (x ∷ xs) = ⊥
AreFaultless lanes s n k i (p ∷ ps) [] = ⊥
AreFaultless lanes s n k i (p ∷ ps) (x ∷ xs) = IsHeadAt n k i p.head × Summarizes lanes s p.head p.body (Ok x) × AreFaultless lanes s n (k + 1) (i + p.head.count) ps xs

-- what parts with this front are judged against
abbrev pub behind_front : List ℕ → List ℕ → List ℕ → Subject
behind_front elf input front = record { elf = elf; input = input; header = header_of front; output = drop HEADER_BYTES front }

-- For a program without a fault: where no check of the front is broken, and no part has a fault, the verdict by the summaries of the parts is the verdict on the front with all bodies behind it, in order.
abbrev pub SummariesTellVerdict : Type 0
SummariesTellVerdict = (lanes : Lanes) (elf input front : List ℕ) (parts : List Part) (xs : List Summary)
    → AreBytes elf → first_fault elf ≡ None → IsFront front → unless_broken 0 0 (header_checks true lanes elf input front) (header_of front) ≡ Ok (header_of front)
    → AreFaultless lanes (behind_front elf input front) (length parts) 0 0 parts xs
    → combined elf input (header_of front) xs ≡ verdict lanes elf input (whole front (map (λ p. p.body) parts))

-- Cut into no more parts than there are shards, the heads of the parts number them, each has a shard at least, the first begins at the first shard, each other where the one before it ends, and the last ends behind the last shard.
abbrev pub HeadsCover : Type 0
HeadsCover = (n parts : ℕ) → 1 ≤ parts → parts ≤ n
    → (first_of n parts 0 ≡ 0)
    × ((p : ℕ) → p < parts → IsHeadAt parts p (first_of n parts p) (head_of_part n parts p) × (first_of n parts p + (head_of_part n parts p).count ≡ first_of n parts (p + 1)))
    × (first_of n parts parts ≡ n)
