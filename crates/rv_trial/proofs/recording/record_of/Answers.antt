use Rattle.std.proofs.Common.{◌≡◌, ℕ, ◌<◌, List, ◌++◌, length, Some, ap, ◌∙◌, arith}
use Rattle.rv_book.specs.Journal.{piece_at}
use Rattle.rv_trial.specs.Recording.{accesses_of}
use Rattle.rv_trial.proofs.Recorded.{piece_due, pieces_of, grown, pieces-length, file-is, has-pieces}
use Rattle.rv_trial.proofs.recording.record_of.Goals as goal

pub push_pieces-requires-after_bounds : goal.push_pieces-requires-after_bounds
push_pieces-requires-after_bounds g c κs within = λ i lt.
    (piece_due c.args.program.now i, has-pieces c.args.program.now c.args.points.now _ _ _ _ _ c.requires.due c.in_ok-book.ensures.whole c.shards.ensures.value c.shards-2.ensures.value i lt)

pub overflow_sub-bytes : goal.overflow_sub-bytes
overflow_sub-bytes g c =
    let f = c.args.program.now in
    let each : (i : ℕ) → i < c.shards-2.result → piece_at c.in_ok-book.book i ≡ Some (piece_due f i) =
    has-pieces f c.args.points.now _ _ _ _ _ c.requires.due c.in_ok-book.ensures.whole c.shards.ensures.value c.shards-2.ensures.value in
    let before : c.len-front.result ≡ length c.extend_from_slice-2.new.self.items = omega (arith, c.len-front.ensures, c.extend_from_slice-2.new.self.ok.0) in
    let behind : c.len.result ≡ length c.push_pieces.new.file.items = omega (arith, c.len.ensures, c.push_pieces.new.file.ok.0) in
    let longer = grown _ _ (pieces_of f c.shards-2.result) _ _ (c.in_ok-push_pieces.ensures (piece_due f) each) before behind in
    omega (arith, longer)

pub accesses_within-requires-clause-room : goal.accesses_within-requires-clause-room
accesses_within-requires-clause-room g c =
    let f = c.args.program.now in
    let each : (i : ℕ) → i < c.shards-2.result → piece_at c.in_ok-book.book i ≡ Some (piece_due f i) =
    has-pieces f c.args.points.now _ _ _ _ _ c.requires.due c.in_ok-book.ensures.whole c.shards.ensures.value c.shards-2.ensures.value in
    let before : c.len-front.result ≡ length c.extend_from_slice-2.new.self.items = omega (arith, c.len-front.ensures, c.extend_from_slice-2.new.self.ok.0) in
    let behind : c.len.result ≡ length c.push_pieces.new.file.items = omega (arith, c.len.ensures, c.push_pieces.new.file.ok.0) in
    let longer = grown _ _ (pieces_of f c.shards-2.result) _ _ (c.in_ok-push_pieces.ensures (piece_due f) each) before behind in
    let size = pieces-length f c.args.points.now c.requires.survey c.shards-2.result c.shards-2.ensures.value in
    omega (arith, longer, size, c.shards-2.ensures.value, c.shards-3.ensures.value, c.steps.ensures.value)

pub returns-clause-file : goal.returns-clause-file
returns-clause-file g c =
    let f = c.args.program.now in
    let each : (i : ℕ) → i < c.shards-2.result → piece_at c.in_ok-book.book i ≡ Some (piece_due f i) =
    has-pieces f c.args.points.now _ _ _ _ _ c.requires.due c.in_ok-book.ensures.whole c.shards.ensures.value c.shards-2.ensures.value in
    file-is f c.args.points.now c.requires.survey c.front_of.result c.output.result.now c.deref.result.now _ c.shards-2.result c.front_of.ensures c.output.ensures (c.deref.ensures.value ∙ c.in_ok-table.ensures) c.shards-2.ensures.value
    (c.in_ok-extend_from_slice-3.ensures.items
    ∙ ap (λ (x : List ℕ). x ++ c.deref.result.now)
    (c.in_ok-push_pieces.ensures (piece_due f) each
    ∙ ap (λ (x : List ℕ). x ++ pieces_of f c.shards-2.result)
    (c.in_ok-extend_from_slice-2.ensures.items ∙ ap (λ (x : List ℕ). x ++ c.output.result.now) (c.in_ok-extend_from_slice.ensures.items ∙ ap (λ (x : List ℕ). x ++ c.front_of.result) c.new-file.ensures.items))))

pub returns-clause-accesses : goal.returns-clause-accesses
returns-clause-accesses g c =
    let f = c.args.program.now in
    let each : (i : ℕ) → i < c.shards-2.result → piece_at c.in_ok-book.book i ≡ Some (piece_due f i) =
    has-pieces f c.args.points.now _ _ _ _ _ c.requires.due c.in_ok-book.ensures.whole c.shards.ensures.value c.shards-2.ensures.value in
    let before : c.len-front.result ≡ length c.extend_from_slice-2.new.self.items = omega (arith, c.len-front.ensures, c.extend_from_slice-2.new.self.ok.0) in
    let behind : c.len.result ≡ length c.push_pieces.new.file.items = omega (arith, c.len.ensures, c.push_pieces.new.file.ok.0) in
    let longer = grown _ _ (pieces_of f c.shards-2.result) _ _ (c.in_ok-push_pieces.ensures (piece_due f) each) before behind in
    let size = pieces-length f c.args.points.now c.requires.survey c.shards-2.result c.shards-2.ensures.value in
    c.accesses_within.ensures (accesses_of f c.args.points.now) (omega (arith, longer, size, c.shards-2.ensures.value, c.shards-3.ensures.value, c.steps.ensures.value))
