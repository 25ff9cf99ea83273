-- The parts of a record file: which shards each has, and its bytes (this project's own).
use Rattle.std.specs.Prelude.{◌≡◌, ◌≤◌, ℕ, ◌+◌, ◌-◌, ◌*◌, ◌/◌, ◌==◌, List, [], ◌++◌, map, take, drop, if◌then◌else◌}
use Rattle.std.specs.List.{concat, flat_map, range_with_len}
use Rattle.rv_spec.specs.Record.{Parts, header_bytes, shard_bytes, table_bytes}
use Rattle.rv_spec.specs.Grammar.{Spells}
use Rattle.rv_parts.specs.declared.heads.PartHead.{PartHead}
use Rattle.rv_parts.specs.Heads.{head_bytes}

-- the first shard of part p, where n shards are cut into so many parts
abbrev pub first_of : ℕ → ℕ → ℕ → ℕ
first_of n parts p = p * n / parts

abbrev pub count_of : ℕ → ℕ → ℕ → ℕ
count_of n parts p = first_of n parts (p + 1) - first_of n parts p

abbrev pub head_of_part : ℕ → ℕ → ℕ → PartHead
head_of_part n parts p = record { number = p; parts = parts; first = first_of n parts p; count = count_of n parts p }

-- the header and the output of a record
abbrev pub front_of : Parts → List ℕ
front_of q = header_bytes q.header ++ q.output

-- the shards of part p, and in the last part the table
abbrev pub body_of : Parts → ℕ → ℕ → List ℕ
body_of q parts p =
    let n = q.header.shards in
    flat_map shard_bytes (take (count_of n parts p) (drop (first_of n parts p) q.shards)) ++ (if p + 1 == parts then table_bytes q.table else [])

-- the bytes of part p
abbrev pub part_bytes : Parts → ℕ → ℕ → List ℕ
part_bytes q parts p = head_bytes (head_of_part q.header.shards parts p) ++ front_of q ++ body_of q parts p

-- the bodies of all parts
abbrev pub bodies_of : Parts → ℕ → List (List ℕ)
bodies_of q parts = map (body_of q parts) (range_with_len 0 parts)

-- the file that parts with this front and these bodies make: the front, and all bodies in order
abbrev pub whole : List ℕ → List (List ℕ) → List ℕ
whole front bodies = front ++ concat bodies

-- Cut into any number of parts, the front and all bodies in order are the file.
abbrev pub PartsAreFile : Type 0
PartsAreFile = (q : Parts) (file : List ℕ) (parts : ℕ) → Spells q file → 1 ≤ parts → whole (front_of q) (bodies_of q parts) ≡ file
