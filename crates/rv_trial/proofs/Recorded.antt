-- The record of a run is its parts one after another.
use Rattle.std.proofs.Common.{◌≡◌, ℕ, ◌+◌, ◌*◌, ◌<◌, List, ◌++◌, length, Some, sym, ap, subst, ◌∙◌, arith, length-append}
use Rattle.std.specs.List.{flat_map, range_with_len}
use Rattle.std.specs.Int.{IsInRange, div_ceil}
use Rattle.rv_base.specs.declared.limits.TheConstants.{SHARD_SIZE_LIMIT}
use Rattle.rv_spec.specs.Elf.{Image, image}
use Rattle.rv_spec.specs.Run.{run}
use Rattle.rv_spec.specs.Digest.{sha_lanes}
use Rattle.rv_spec.specs.Record.{header, header_bytes, table_bytes}
use Rattle.rv_spec.specs.Trace.{table}
use Rattle.rv_program.specs.Files.{Files}
use Rattle.rv_book.specs.Journal.{BookState, IsWhole, piece_at}
use Rattle.rv_book.specs.declared.task.Piece.{Piece}
use Rattle.rv_replay.specs.Piece.{shard_piece}
use Rattle.rv_point.specs.PointsState.{PointsState}
use Rattle.rv_point.proofs.Lemmas.{record-is-pieces}
use Rattle.rv_trial.specs.Trials.{shard_rows}
use Rattle.rv_trial.specs.Recording.{IsSurveyed, IsTaskDue, accesses_of, recorded}
use Rattle.rv_trial.proofs.ShardLengths.{shards-length}

abbrev pub piece_due : Files → ℕ → Piece
piece_due f i = shard_piece sha_lanes (image 1 f.elf) f.input shard_rows i

-- the bytes of the first n pieces
abbrev pub pieces_of : Files → ℕ → List ℕ
pieces_of f n = flat_map (λ i. (piece_due f i).bytes) (range_with_len 0 n)

size-within : IsInRange 1 SHARD_SIZE_LIMIT shard_rows
size-within = (omega arith, omega arith)

-- bytes behind others
pub grown : (old new more : List ℕ) (a b : ℕ) → new ≡ old ++ more → a ≡ length old → b ≡ length new → b ≡ a + length more
grown old new more a b is a_is b_is = let same = ap length is in omega (arith, same, length-append old more, a_is, b_is)

module _ (f : Files) (p : PointsState) (survey : IsSurveyed f p) where
  pub count-is : (n : ℕ) → n ≡ div_ceil p.steps p.size → n ≡ div_ceil p.steps shard_rows
  count-is n is = is ∙ ap (div_ceil p.steps) survey.size_is

  pub pieces-length : (n : ℕ) → n ≡ div_ceil p.steps p.size → length (pieces_of f n) ≡ 288 * n + 9 * p.steps + 21 * accesses_of f p
  pieces-length n is =
      let count : n ≡ div_ceil p.steps shard_rows = count-is n is in
      let same : length (pieces_of f n) ≡ length (pieces_of f (div_ceil p.steps shard_rows)) = ap (λ m. length (pieces_of f m)) count in
      let whole : length (pieces_of f (div_ceil p.steps shard_rows)) ≡ 288 * div_ceil p.steps shard_rows + 9 * p.steps + 21 * accesses_of f p =
      shards-length sha_lanes (image 1 f.elf) f.input shard_rows p.steps p.end survey.ends size-within in
      same ∙ whole ∙ ap (λ m. 288 * m + 9 * p.steps + 21 * accesses_of f p) (sym count)

  pub file-is : (front output entries whole : List ℕ) (n : ℕ) → front ≡ header_bytes (header 1 f.elf f.input shard_rows p.steps p.end) → output ≡ (run p.image p.input p.steps).output
      → entries ≡ table_bytes (table p.image p.input p.steps) → n ≡ div_ceil p.steps p.size → whole ≡ front ++ output ++ pieces_of f n ++ entries → whole ≡ recorded f p
  file-is front output entries whole n front-is output-is entries_is n_is whole_is =
      let i : Image = image 1 f.elf in
      let shards : List ℕ = pieces_of f (div_ceil p.steps shard_rows) in
      let first : List ℕ = header_bytes (header 1 f.elf f.input shard_rows p.steps p.end) in
      let put : output ≡ (run i f.input p.steps).output = output-is ∙ ap (λ k. (run k p.input p.steps).output) survey.image_is ∙ ap (λ x. (run i x p.steps).output) survey.input_is in
      let last : entries ≡ table_bytes (table i f.input p.steps) = entries_is ∙ ap (λ k. table_bytes (table k p.input p.steps)) survey.image_is ∙ ap (λ x. table_bytes (table i x p.steps)) survey.input_is in
      whole_is ∙ ap (λ m. front ++ output ++ pieces_of f m ++ entries) (count-is n n_is) ∙ ap (λ x. x ++ output ++ shards ++ entries) front-is ∙ ap (λ x. first ++ x ++ shards ++ entries) put
      ∙ ap (λ x. first ++ (run i f.input p.steps).output ++ shards ++ x) last ∙ sym (record-is-pieces sha_lanes 1 f.elf f.input shard_rows p.steps p.end survey.ends size-within)

-- a whole book of a task that is due has the pieces of the run
pub has-pieces : (f : Files) (p : PointsState) (most : ℕ) (piece : ℕ → Piece) (b : BookState) (m n : ℕ) → IsTaskDue f p most piece → IsWhole piece m b → m ≡ div_ceil p.steps p.size → n ≡ div_ceil p.steps p.size
    → (i : ℕ) → i < n → piece_at b i ≡ Some (piece_due f i)
has-pieces f p most piece b m n due whole m_is n_is i lt = whole.each i (subst (λ k. i < k) (n_is ∙ sym m_is) lt) ∙ ap Some (due.pieces i)
