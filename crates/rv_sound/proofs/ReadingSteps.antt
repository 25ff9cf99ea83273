-- The reading of a file against a program, step by step.
use Rattle.std.proofs.Common.{◌≡◌, ℕ, ◌*◌, Bool, true, ◌&&◌, ◌==◌, nat_le, List, [], ◌∷◌, length, take, drop, map, None, Result, refl, bytes_eq}
use Rattle.rv_base.specs.declared.record.Header.{Header}
use Rattle.rv_base.specs.declared.record.Place.{Place}
use Rattle.rv_base.specs.declared.record.Refusal.{Refusal}
use Rattle.rv_base.specs.declared.record.ShardHead.{ShardHead}
use Rattle.rv_spec.specs.Words.{u32_at}
use Rattle.rv_spec.specs.Elf.{image}
use Rattle.rv_spec.specs.Trace.{Row}
use Rattle.rv_spec.specs.Digest.{Lanes, digest}
use Rattle.rv_spec.specs.Tuples.{events, tuple_read, tuple_written}
use Rattle.rv_spec.specs.Record.{Shard, Parts, rows_length, reads, writes}
use Rattle.rv_rules.specs.Checks.{Check, unless_broken, ◌>>=◌}
use Rattle.rv_rules.specs.Reading.{Reading, header_of, head_of, digest_of, same_place, header_checks, read_rows, read_shards, read_entries, read_file}
use Rattle.rv_rules.specs.Verdict.{judge}
use Rattle.rv_file.proofs.Lemmas.{made}
use Rattle.rv_sound.specs.Accepted.{entry_place}

-- what was read, at a place
abbrev pub at_place : {A : Type 0} → Reading A → Place → Reading A
at_place x p = record { part = x.part; place = p; left = x.left }

module _ (lanes : Lanes) (elf input : List ℕ) where
  abbrev pub Rows : ℕ → Header → List ℕ → ℕ → ℕ → Place → List ℕ → Result (Reading (List Row)) Refusal
  Rows n h output i r p bytes = read_rows true lanes elf input n h output i r p bytes

  -- ---- shards

  abbrev pub heads : ℕ → ℕ → Place → List ℕ → Result (List ℕ) Refusal
  heads i n p bytes = unless_broken i 0 ((1, nat_le 32 (length bytes)) ∷ (9, (head_of bytes).index == i && (head_of bytes).rows == n && same_place (head_of bytes) p) ∷ []) (drop 32 bytes)

  abbrev pub digests_hold : Header → ℕ → Reading (List Row) → Bool
  digests_hold h i rows = bytes_eq (digest_of rows.left) (digest lanes (map tuple_read (events (i * h.size) rows.part))) && bytes_eq (digest_of (drop 128 rows.left)) (digest lanes (map tuple_written (events (i * h.size) rows.part)))

  abbrev pub finishes : Header → ℕ → ℕ → ShardHead → Reading (List Row) → Result (Reading Shard) Refusal
  finishes h i n head rows = unless_broken i n ((20, rows_length rows.part == head.bytes) ∷ (1, nat_le 256 (length rows.left)) ∷ (21, digests_hold h i rows) ∷ []) (made head rows)

  abbrev pub Shards : ℕ → Header → List ℕ → ℕ → Place → List ℕ → Result (Reading (List Shard)) Refusal
  Shards n h output i p bytes = read_shards true lanes elf input n h output i p bytes

  -- ---- the file

  abbrev pub end_holds : Parts → Place → Bool
  end_holds parts p = p.input == parts.header.consumed && p.output == parts.header.length

  abbrev pub balances : Parts → Bool
  balances parts = bytes_eq (digest lanes (reads parts)) (digest lanes (writes (image parts.header.version elf) parts))

  abbrev pub last_checks : Parts → Place → List ℕ → List Check
  last_checks parts p left = (25, end_holds parts p) ∷ (26, balances parts) ∷ (27, length left == 0) ∷ []

  abbrev pub from_count : Header → List ℕ → Reading (List Shard) → List ℕ → Result Parts Refusal
  from_count h output shards bytes =
      read_entries (u32_at shards.left 0) h 0 None bytes
      >>= λ entries. unless_broken h.shards (u32_at shards.left 0) (last_checks (record { header = h; output = output; shards = shards.part; table = entries.0 }) shards.place entries.1)
      (record { header = h; output = output; shards = shards.part; table = entries.0 })

  abbrev pub from_shards : Header → List ℕ → Reading (List Shard) → Result Parts Refusal
  from_shards h output shards = unless_broken h.shards 0 ((1, nat_le 4 (length shards.left)) ∷ []) (drop 4 shards.left) >>= from_count h output shards

  abbrev pub from_header : Header → List ℕ → Result Parts Refusal
  from_header h body = Shards h.shards h (take h.length body) 0 (entry_place elf) (drop h.length body) >>= from_shards h (take h.length body)

  -- these steps are the reading of the definition
  pub judged-by-steps : (file : List ℕ) → judge lanes elf input file ≡ (unless_broken 0 0 (header_checks true lanes elf input file) (drop 173 file) >>= from_header (header_of file))
  unfolding read_file
  judged-by-steps file = refl
