-- One event more, and what it does to the lists that the passes drew.
use Rattle.std.proofs.Common.{◌≡◌, ◌≢◌, ℕ, zero, suc, ◌<◌, List, [], ◌∷◌, ◌++◌, length, refl, ap, subst, arith}
use Rattle.std.specs.Prelude.{IsTrue}
use Rattle.rv_book.specs.declared.event.BoardEvent.{BoardEvent}
use Rattle.rv_book.specs.Board.{Board, permitted, board_after, Leads, draw, drawn_by}

pub leads-more : (n : ℕ) (b c : Board) (es : List BoardEvent) (e : BoardEvent) → Leads n b es c → IsTrue (permitted n c e) → Leads n b (es ++ e ∷ []) (board_after c e)
leads-more n b c [] e l ok = (subst (λ d. IsTrue (permitted n d e)) l ok, ap (λ d. board_after d e) l)
leads-more n b c (f ∷ es) e l ok = (l.0, leads-more n (board_after b f) c es e l.1 ok)

pub drawn-here : (ds : List (List ℕ)) (p x : ℕ) → p < length ds → drawn_by (draw ds p x) p ≡ drawn_by ds p ++ x ∷ []
drawn-here [] p x lt = absurd (omega (arith, lt))
drawn-here (d ∷ ds) zero x lt = refl
drawn-here (d ∷ ds) (suc p) x lt = drawn-here ds p x (omega (arith, lt))

pub drawn-else : (ds : List (List ℕ)) (p q x : ℕ) → q ≢ p → drawn_by (draw ds p x) q ≡ drawn_by ds q
drawn-else [] p q x apart = refl
drawn-else (d ∷ ds) zero zero x apart = absurd (apart refl)
drawn-else (d ∷ ds) zero (suc q) x apart = refl
drawn-else (d ∷ ds) (suc p) zero x apart = refl
drawn-else (d ∷ ds) (suc p) (suc q) x apart = drawn-else ds p q x (λ e. apart (ap suc e))
