-- Records in parts: the files that split writes, and what join knows of the files that it reads (this project's own).
use Rattle.std.specs.Prelude.{ℕ, ◌+◌, Bool, not, ◌&&◌, ◌||◌, ◌==◌, List, [], ◌∷◌, ◌++◌, length, map, take, drop, decimal, bytes_eq, nat_le, Option, Some, None, Result, Ok, Err, if◌then◌else◌}
use Rattle.std.specs.List.{flat_map, range_with_len}
use Rattle.rv_base.specs.declared.layout.TheConstants.{HEADER_BYTES}
use Rattle.rv_spec.specs.Digest.{sha_lanes}
use Rattle.rv_spec.specs.Record.{Parts}
use Rattle.rv_rules.specs.Reading.{header_of}
use Rattle.rv_file.specs.Front.{front_length}
use Rattle.rv_parts.specs.declared.heads.PartHead.{PartHead}
use Rattle.rv_parts.specs.declared.heads.TheConstants.{PART_HEAD_BYTES}
use Rattle.rv_parts.specs.Cutting.{part_bytes}
use Rattle.rv_parts.specs.Heads.{head_in}
use Rattle.rv_parts.specs.Joining.{behind_front}
use Rattle.rv_parts.specs.Summaries.{is_cut, is_last}
use Rattle.rv_plan.specs.Plan.{Due}
use Rattle.rv_plan.specs.declared.faults.PartFault.{PartFault}
use Rattle.rv_plan.specs.declared.faults.PartFault.TheVariants.{Head, Front, Cover, Cut}

-- the name of part p: a name, a full stop, and p in decimal
abbrev pub part_name : List ℕ → ℕ → List ℕ
part_name name p = name ++ 46 ∷ decimal p

-- ---- the parts that a record is cut into

-- each is due to its name
abbrev pub parts_due : Parts → ℕ → List ℕ → List Due
parts_due q parts name = map (λ p. (part_name name p, part_bytes q parts p)) (range_with_len 0 parts)

-- the number of all bytes that are due
abbrev pub bytes_due : List Due → ℕ
bytes_due due = length (flat_map (λ d. d.1) due)

-- ---- one part

-- the header at the front of the bytes and the output that it states, if they are all there
abbrev pub front_in : List ℕ → Option (List ℕ)
front_in bytes =
    let n = front_length (take HEADER_BYTES bytes) in
    if nat_le HEADER_BYTES (length bytes) && nat_le n (length bytes) then Some (take n bytes) else None

-- the head of part p of so many: it has a shard at least
abbrev pub is_head_of : ℕ → ℕ → PartHead → Bool
is_head_of parts p head = head.number == p && head.parts == parts && not (head.count == 0)

-- A part's head, the front of its record, and its body.
pub record Opened : Type 0 where
  pub head : PartHead
  pub front : List ℕ
  pub body : List ℕ

abbrev pub opened_behind : PartHead → List ℕ → Option (List ℕ) → Result Opened PartFault
opened_behind head bytes None = Err Front
opened_behind head bytes (Some front) = Ok (record { head = head; front = front; body = drop (length front) bytes })

abbrev pub opened_with : ℕ → ℕ → List ℕ → Option PartHead → Result Opened PartFault
opened_with parts p bytes None = Err Head
opened_with parts p bytes (Some head) = if is_head_of parts p head then opened_behind head bytes (front_in bytes) else Err Head

-- a file as part p of so many
abbrev pub opened : ℕ → ℕ → List ℕ → Result Opened PartFault
opened parts p file = opened_with parts p (drop PART_HEAD_BYTES file) (head_in file)

-- ---- parts in order

-- The parts so far: the front of part 0, the shards that they cover, and their bodies, one after another.
pub record Joined : Type 0 where
  pub front : List ℕ
  pub shards : ℕ
  pub bodies : List ℕ

-- before any part but for its front
abbrev pub begun : List ℕ → Joined
begun front = record { front = front; shards = 0; bodies = [] }

-- the file that they make
abbrev pub whole_of : Joined → List ℕ
whole_of j = j.front ++ j.bodies

-- with one more part
abbrev pub with_part : Joined → Opened → Joined
with_part j x = record { front = j.front; shards = j.shards + (x.head).count; bodies = j.bodies ++ x.body }

-- A part's shards are those from a shard on, and none of them is past the last of so many, up to which the last part goes.
abbrev pub follows : PartHead → ℕ → ℕ → Bool
follows head before shards =
    let end = head.first + head.count in
    head.first == before && nat_le end shards && (not (is_last head) || end == shards)

-- with one more part, whose shards follow, and end where it does
abbrev pub added : List ℕ → List ℕ → Joined → Opened → Result Joined PartFault
added elf input j x =
    if not (follows x.head j.shards (header_of j.front).shards) then Err Cover
    else (if is_cut sha_lanes (behind_front elf input j.front) x.head x.body then Err Cut else Ok (with_part j x))

-- with one more part, whose front is that of part 0
abbrev pub added_behind : List ℕ → List ℕ → Joined → Result Opened PartFault → Result Joined PartFault
added_behind elf input j (Err fault) = Err fault
added_behind elf input j (Ok x) = if bytes_eq x.front j.front then added elf input j x else Err Front
