use Rattle.std.proofs.Common.{rules, ◌≡◌, ℕ, List, [], replicate, sym, subst}
use Rattle.std.specs.Prelude.{Option, None}
use Rattle.std.proofs.lemmas.List.FromFn.{length-map-range_with_len}
use Rattle.rv_book.specs.declared.entry.Entry.{Entry}
use Rattle.rv_book.specs.declared.task.Piece.{Piece}
use Rattle.rv_book.specs.Journal.{pieces_of, zeros}
use Rattle.rv_book.specs.Book.{RepresentsBook}
use Rattle.rv_book.proofs.Entering.{begins}
use Rattle.rv_book.proofs.book.Book.open.Goals as goal

pub invariant_of-result : goal.invariant_of-result
invariant_of-result g c =
    let ps : List Piece = pieces_of (g.T.Task.piece c.args.task.now) c.args.n in
    let long = length-map-range_with_len (g.T.Task.piece c.args.task.now) 0 c.args.n in
    let slots : c.in_ok-slots.slots.items ≡ replicate c.args.n None = search rules in
    let entries : c.in_ok-journal.journal.items ≡ [] = search rules in (
      subst (λ (os : List (Option Piece)). RepresentsBook ps os c.in_ok-journal.journal.items c.zero.result.lanes c.zero-2.result.lanes) (sym slots)
          (subst (λ (es : List Entry). RepresentsBook ps (replicate c.args.n None) es c.zero.result.lanes c.zero-2.result.lanes) (sym entries)
          (subst (λ (rs : List ℕ). RepresentsBook ps (replicate c.args.n None) [] rs c.zero-2.result.lanes) (sym c.zero.ensures.zeros)
          (subst (λ (ws : List ℕ). RepresentsBook ps (replicate c.args.n None) [] zeros ws) (sym c.zero-2.ensures.zeros)
          (subst (λ (k : ℕ). RepresentsBook ps (replicate k None) [] zeros zeros) long (begins ps))))),
      search rules,
      c.requires.shards.1,
    )
