use Rattle.std.proofs.Common.{◌≡◌, ◌∙◌, ◌+◌, [], ◌∷◌, ◌++◌, List, ℕ, Result, Err, take, drop, get_or, ap, sym, subst, append_assoc, arith}
use Rattle.std.proofs.lemmas.List.{take-append-drop}
use Rattle.std.proofs.lemmas.Result.{err_from_is_err_and}
use Rattle.rv_base.specs.declared.record.Refusal.{Refusal}
use Rattle.rv_judge.specs.Held.{ReadsOn, RefusedOn}
use Rattle.rv_judge.proofs.ReadingOn.{behind}
use Rattle.rv_judge.proofs.WholeFile.{on-and-reads, on-and-refused, refused-more, nothing-held, piece-cut}
use Rattle.rv_judge.proofs.held.Reading.feed.Goals as goal

pub returns-then-is_empty : goal.returns-then-is_empty
returns-then-is_empty g c =
    let lanes = g.L.Lanes.lanes in
    let first = c.args.self.now in
    let cur = c.loop-at.self in
    let piece = c.args.piece.now in
    let k = c.loop-at.at in
    let none = nothing-held cur.buffer.items (sym c.is_empty.ensures ∙ c.if-is_empty.true) in
    let more : ReadsOn lanes cur c.read_on.new.self (cur.buffer.items ++ drop k piece) c.read_on.result =
    subst (λ (z : List ℕ). ReadsOn lanes cur c.read_on.new.self z c.read_on.result) (behind k piece ∙ ap (λ (z : List ℕ). z ++ drop k piece) (sym none)) c.read_on.ensures in
    subst (λ (z : List ℕ). ReadsOn lanes first c.read_on.new.self z c.read_on.result)
    (append_assoc first.buffer.items (take k piece) (drop k piece) ∙ ap (λ (z : List ℕ). first.buffer.items ++ z) (take-append-drop k piece))
    (on-and-reads lanes first cur (first.buffer.items ++ take k piece) (drop k piece) c.loop-at.invariant c.read_on.new.self c.read_on.result more)

pub returns-in_err-take : goal.returns-in_err-take
returns-in_err-take g c =
    let lanes = g.L.Lanes.lanes in
    let first = c.args.self.now in
    let cur = c.loop-at.self in
    let piece = c.args.piece.now in
    let k = c.loop-at.at in
    let r = c.in_err-take.field-0.0 in
    let p = err_from_is_err_and c.from_residual.result c.from_residual.ensures.1 in
    let is : c.from_residual.result ≡ Err r = p.1 ∙ ap (λ (z : Refusal). Err z) p.2 in
    let so_far = on-and-refused lanes first cur (first.buffer.items ++ take k piece) (get_or piece k 0 ∷ []) c.loop-at.invariant r c.in_err-take.ensures in
    let all : RefusedOn lanes first (first.buffer.items ++ piece) r =
    subst (λ (z : List ℕ). RefusedOn lanes first z r) (piece-cut first.buffer.items piece k (omega arith)) (refused-more lanes first ((first.buffer.items ++ take k piece) ++ get_or piece k 0 ∷ []) (drop (k + 1) piece) r so_far) in
    subst (λ (z : Result (Unit {0}) Refusal). ReadsOn lanes first c.take.new.self (first.buffer.items ++ piece) z) (sym is) all
