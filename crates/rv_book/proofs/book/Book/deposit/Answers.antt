use Rattle.std.proofs.Common.{rules, ◌≡◌, ◌<◌, ℕ, List, [], ◌∷◌, ◌++◌, length, set, sym, ap, ◌∙◌, subst, arith, false}
use Rattle.std.specs.Prelude.{Option, Some, None, slice_get}
use Rattle.std.proofs.lemmas.List.FromFn.{length-map-range_with_len}
use Rattle.rv_rules.specs.Sums.{add_lanes}
use Rattle.rv_book.specs.declared.entry.Entry.{Entry}
use Rattle.rv_book.specs.declared.task.Piece.{Piece}
use Rattle.rv_book.specs.Journal.{BookState, entry, with_entry, is_entered, pieces_of}
use Rattle.rv_book.specs.Book.{RepresentsBook}
use Rattle.rv_book.proofs.Entering.{room, enters, not-entered, get-of, none-of, get-below}
use Rattle.rv_book.proofs.book.Book.deposit.Goals as goal

pub push_reserved-requires : goal.push_reserved-requires
push_reserved-requires g c =
    let b = c.self.inside in
    let i : ℕ = c.args.piece.index in
    let x : Piece = c.args.piece in
    let at : slice_get (pieces_of (g.T.Task.piece b.task.now) b.shards) i ≡ Some x = subst (λ (s : BookState). slice_get s.pieces i ≡ Some x) (sym c.self.view_is) c.requires in
    let long = c.self.invariant.0.long in
    let lt : i < length b.slots.items = subst (λ (k : ℕ). i < k) (sym long) (get-below _ i x at) in
    let empty : c.index.result.now ≡ None = none-of _ (sym c.is_some.ensures ∙ c.if-is_some.false) in
    let free : slice_get b.slots.items i ≡ Some None = get-of b.slots.items i _ _ lt c.index.ensures ∙ ap Some empty in
    let n = length-map-range_with_len (g.T.Task.piece b.task.now) 0 b.shards in
    omega (arith, room _ _ _ _ _ c.self.invariant.0 i x free, n, c.self.invariant.1, b.journal.ok.0)

pub invariant_of-self : goal.invariant_of-self
invariant_of-self g c =
    let b = c.self.inside in
    let i : ℕ = c.args.piece.index in
    let x : Piece = c.args.piece in
    let ps : List Piece = pieces_of (g.T.Task.piece b.task.now) b.shards in
    let at : slice_get ps i ≡ Some x = subst (λ (s : BookState). slice_get s.pieces i ≡ Some x) (sym c.self.view_is) c.requires in
    let long = c.self.invariant.0.long in
    let lt : i < length b.slots.items = subst (λ (k : ℕ). i < k) (sym long) (get-below _ i x at) in
    let empty : c.index.result.now ≡ None = none-of _ (sym c.is_some.ensures ∙ c.if-is_some.false) in
    let free : slice_get b.slots.items i ≡ Some None = get-of b.slots.items i _ _ lt c.index.ensures ∙ ap Some empty in
    let k = enters ps _ _ _ _ c.self.invariant.0 i x at c.args.pass free in
    let os : List (Option Piece) = set b.slots.items i (Some x) in
    let es : List Entry = b.journal.items ++ entry c.args.pass i ∷ [] in (
      subst (λ (ws : List ℕ). RepresentsBook ps os c.push_reserved.new.self.items c.add.new.self.lanes ws) (sym c.add-2.ensures.sum)
          (subst (λ (rs : List ℕ). RepresentsBook ps os c.push_reserved.new.self.items rs (add_lanes b.writes.lanes x.writes.lanes)) (sym c.add.ensures.sum)
          (subst (λ (js : List Entry). RepresentsBook ps os js (add_lanes b.reads.lanes x.reads.lanes) (add_lanes b.writes.lanes x.writes.lanes)) (sym c.push_reserved.ensures.items) k)),
      search rules,
      c.self.invariant.2,
    )

pub returns : goal.returns
returns g c =
    let b = c.self.inside in
    let i : ℕ = c.args.piece.index in
    let x : Piece = c.args.piece in
    let ps : List Piece = pieces_of (g.T.Task.piece b.task.now) b.shards in
    let at : slice_get ps i ≡ Some x = subst (λ (s : BookState). slice_get s.pieces i ≡ Some x) (sym c.self.view_is) c.requires in
    let long = c.self.invariant.0.long in
    let lt : i < length b.slots.items = subst (λ (k : ℕ). i < k) (sym long) (get-below _ i x at) in
    let empty : c.index.result.now ≡ None = none-of _ (sym c.is_some.ensures ∙ c.if-is_some.false) in
    let free : slice_get b.slots.items i ≡ Some None = get-of b.slots.items i _ _ lt c.index.ensures ∙ ap Some empty in
    let new = not-entered ps _ _ _ _ c.self.invariant.0 i x at free in (
      subst (λ (s : BookState). is_entered i s.journal ≡ false) c.self.view_is new,
      ap (λ (es : List Entry). let s : BookState = record { pieces = ps; journal = es } in s) c.push_reserved.ensures.items ∙ ap (λ (s : BookState). with_entry s c.args.pass i) c.self.view_is,
    )
