-- The piece of what was seen of a shard.
use Rattle.std.proofs.Common.{◌≡◌, ℕ, List, [], ◌∷◌, length, None, Result, Ok, Err, sym, ap, subst, ◌∙◌}
use Rattle.std.specs.Prelude.{nat_le}
use Rattle.rv_base.specs.declared.record.Refusal.{Refusal}
use Rattle.rv_spec.specs.Digest.{Lanes}
use Rattle.rv_spec.specs.Record.{Shard}
use Rattle.rv_rules.specs.Checks.{Check, unless_broken}
use Rattle.rv_rules.specs.Reading.{Reading}
use Rattle.rv_file.specs.Parsing.{behind_shards}
use Rattle.rv_file.proofs.Lemmas.{bind-ok, unless-ok}
use Rattle.rv_book.specs.declared.task.Piece.{Piece}
use Rattle.rv_judge.specs.declared.alone.ShardSeen.{ShardSeen}
use Rattle.rv_judge.specs.Subject.{Subject}
use Rattle.rv_judge.specs.Alone.{SeesShard, can_stand, read_alone, stated}
use Rattle.rv_panel.specs.Pieces.{IsPieceOf, piece_of, shard_piece}
use Rattle.rv_panel.proofs.ShardParts.{shard_read, is-shard-read}

module _ (lanes : Lanes) (s : Subject) where
  -- a shard that was read alone was read at the place that its head states
  read-there : (i : ℕ) (bytes : List ℕ) (x : Reading Shard) → read_alone lanes s i bytes ≡ Ok x → shard_read lanes s.elf s.input s.header s.output i (stated bytes) bytes ≡ Ok x
  read-there i bytes x e =
      let cs : List Check = (1, nat_le 32 (length bytes)) ∷ (9, can_stand (stated bytes) s.input s.output) ∷ [] in
      let a = bind-ok (unless_broken i 0 cs bytes) (shard_read lanes s.elf s.input s.header s.output i (stated bytes)) x e in
      let u = unless-ok i 0 cs bytes a.0 a.1 in
      subst (λ (xs : List ℕ). shard_read lanes s.elf s.input s.header s.output i (stated bytes) xs ≡ Ok x) (sym u.1) a.2

  piece-seen : (i : ℕ) (bytes : List ℕ) (seen : Result ShardSeen Refusal) (p : Piece) → SeesShard lanes s i bytes seen → IsPieceOf i seen p → p ≡ piece_of i (read_alone lanes s i bytes)
  piece-seen i bytes (Ok seen) p sees is =
      let x = sees.0 in
      let k = sees.2 in
      let parts = is-shard-read lanes s.elf s.input s.header s.output i (stated bytes) bytes x (read-there i bytes x sees.1) in
      let read = k.reads ∙ sym parts.reads in
      let written = k.writes ∙ sym parts.writes in
      let after = k.after in
      let same : record { index = i; bytes = []; reads = seen.reads; writes = seen.writes; place = seen.after; fault = None } ≡ piece_of i (Ok x) =
      λ t. record { index = i; bytes = []; reads = record { lanes = read t }; writes = record { lanes = written t }; place = after t; fault = None } in
      is ∙ same ∙ ap (piece_of i) (sym sees.1)
  piece-seen i bytes (Err r) p sees is = is ∙ ap (piece_of i) (sym sees)

  -- the piece of what was seen of a shard is the shard's
  pub shard-seen : (shards : List ℕ) (i : ℕ) (bytes : List ℕ) (seen : Result ShardSeen Refusal) (p : Piece) → bytes ≡ behind_shards i shards → SeesShard lanes s i bytes seen → IsPieceOf i seen p → p ≡ shard_piece lanes s shards i
  shard-seen shards i bytes seen p at sees is = piece-seen i bytes seen p sees is ∙ ap (λ (xs : List ℕ). piece_of i (read_alone lanes s i xs)) at
