-- What an accepted file's parts are, beside their form: the interface between the reading of a file and the law of accepted files. It speaks of parts alone, and not of bytes or of how these are read.
use Rattle.std.specs.Prelude.{◌≡◌, ℕ, ◌+◌, ◌*◌, List, [], ◌∷◌, map, None, Ok, ⊤}
use Rattle.sha2.specs.Sha512.{sha512}
use Rattle.rv_base.specs.declared.record.Header.{Header}
use Rattle.rv_base.specs.declared.record.Place.{Place}
use Rattle.rv_spec.specs.Elf.{image}
use Rattle.rv_spec.specs.Trace.{Row}
use Rattle.rv_spec.specs.Tuples.{events, tuple_read, tuple_written}
use Rattle.rv_spec.specs.Digest.{Lanes, digest}
use Rattle.rv_spec.specs.Record.{Shard, Parts, all_rows, reads, writes}
use Rattle.rv_spec.specs.Grammar.{PartsFit, Spells}
use Rattle.rv_spec.specs.Words.{u32_at, AreBytes}
use Rattle.rv_rules.specs.Verdict.{judge}
use Rattle.rv_rules.specs.Reading.{last_of}
use Rattle.rv_rules.specs.RowRules.{row_rule, place_after}

-- the place after some rows
abbrev pub place_through : ℕ → List ℕ → Place → List Row → Place
place_through version input p [] = p
place_through version input p (r ∷ rs) = place_through version input (place_after version r p input) rs

-- no rule is broken by rows from step k and a place on
abbrev pub RowsHold : Header → List ℕ → List ℕ → ℕ → Place → List Row → Type 0
RowsHold h input output k p [] = ⊤
RowsHold h input output k p (r ∷ rs) = (row_rule h.version r k p (last_of h k) input output ≡ None) × RowsHold h input output (k + 1) (place_after h.version r p input) rs

-- a shard whose first row is step number k: its head states the place before it, no row breaks a rule, and the digests are those of its tuples
pub record ShardHolds (lanes : Lanes) (h : Header) (input output : List ℕ) (k : ℕ) (p : Place) (s : Shard) : Type 0 where
  pub pc : s.head.pc ≡ p.pc
  pub taken : s.head.input ≡ p.input
  pub put : s.head.output ≡ p.output
  pub rows : RowsHold h input output k p s.rows
  pub reads : s.reads ≡ digest lanes (map tuple_read (events k s.rows))
  pub writes : s.writes ≡ digest lanes (map tuple_written (events k s.rows))

-- shards from shard i and a place on
abbrev pub ShardsHold : Lanes → Header → List ℕ → List ℕ → ℕ → Place → List Shard → Type 0
ShardsHold lanes h input output i p [] = ⊤
ShardsHold lanes h input output i p (s ∷ ss) = ShardHolds lanes h input output (i * h.size) p s × ShardsHold lanes h input output (i + 1) (place_through h.version input p s.rows) ss

-- the place before the first step: the entry of the ELF file, which is that of its image in every version
abbrev pub entry_place : List ℕ → Place
entry_place elf = record { pc = u32_at elf 24; input = 0; output = 0 }

-- The parts have a spelling, and what they state of the program, the input, the run and the digests holds.
pub record IsAccepted (lanes : Lanes) (elf input : List ℕ) (parts : Parts) : Type 0 where
  pub fit : PartsFit parts
  pub elf_hash : parts.header.elf ≡ sha512 elf
  pub input_hash : parts.header.input ≡ sha512 input
  pub shards : ShardsHold lanes parts.header input parts.output 0 (entry_place elf) parts.shards
  pub taken : (place_through parts.header.version input (entry_place elf) (all_rows parts)).input ≡ parts.header.consumed
  pub put : (place_through parts.header.version input (entry_place elf) (all_rows parts)).output ≡ parts.header.length
  pub balance : digest lanes (reads parts) ≡ digest lanes (writes (image parts.header.version elf) parts)

-- The law of the reading, in both directions: what is judged good is the spelling of accepted parts, and of accepted parts the spelling is judged good.
pub record ReadsAccepted (lanes : Lanes) (elf input : List ℕ) : Type 0 where
  pub accepted : (file : List ℕ) (parts : Parts) → AreBytes file → judge lanes elf input file ≡ Ok parts → Spells parts file × IsAccepted lanes elf input parts
  pub judged : (file : List ℕ) (parts : Parts) → Spells parts file → IsAccepted lanes elf input parts → judge lanes elf input file ≡ Ok parts
