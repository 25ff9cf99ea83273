-- What seats know, and sums over all that they know.
use Rattle.std.specs.Prelude.{ℕ, zero, suc, ◌+◌, Bool, true, false, cond, ◌&&◌, List, [], ◌∷◌, ◌++◌, Option, Some, None, sum_by, nat_lt, nat_le, ◌==◌}
use Rattle.std.specs.List.{list_any}
use Rattle.rv_book.specs.BoardLaws.{one, times}
use Rattle.rv_book.specs.declared.event.BoardEvent.{BoardEvent}
use Rattle.rv_book.specs.declared.task.Piece.{Piece}
use Rattle.rv_claim.specs.declared.view.Deposit.{Deposit}
use Rattle.rv_claim.specs.declared.view.Lists.{Lists}
use Rattle.rv_claim.specs.declared.view.View.{View}

abbrev pub kept : ℕ → Piece → Deposit
kept p x = record { pass = p; piece = x }

abbrev pub fresh : ℕ → Lists
fresh p = record { number = p; drawn = []; deposited = []; pending = None; seen = [] }

abbrev pub pass_view : Lists → View
pass_view l = record { live = true; own = l; made = 0; gathered = [] }

abbrev pub home_view : ℕ → List Lists → View
home_view made ls = record { live = false; own = fresh 0; made = made; gathered = ls }

abbrev pub spent_view : View
spent_view = home_view 0 []

-- what the steps do to a view, where es are the events that the pass has then seen
abbrev pub draws : Lists → ℕ → List BoardEvent → Lists
draws l x es = record l { drawn = l.drawn ++ x ∷ []; seen = es }

abbrev pub opens : Lists → ℕ → Lists
opens l i = record l { pending = Some i }

abbrev pub fills : Lists → ℕ → List BoardEvent → Lists
fills l i es = record l { deposited = l.deposited ++ i ∷ []; pending = None; seen = es }

abbrev pub with_own : View → Lists → View
with_own v l = record v { own = l }

abbrev pub with_one_more : View → View
with_one_more v = home_view (v.made + 1) v.gathered

abbrev pub with_gathered : View → View → View
with_gathered v o = home_view v.made (v.gathered ++ o.own ∷ [])

-- it has a number that is not below n
abbrev pub is_past : ℕ → List ℕ → Bool
is_past n xs = list_any (λ x. nat_le n x) xs

-- only its last number may be n or more
abbrev pub last_past : ℕ → List ℕ → Bool
last_past n [] = true
last_past n (x ∷ []) = true
last_past n (x ∷ y ∷ ys) = nat_lt x n && last_past n (y ∷ ys)

-- counts, of the lists of one pass
abbrev pub drew : ℕ → Lists → ℕ
drew x l = times x l.drawn

abbrev pub put : ℕ → Lists → ℕ
put i l = times i l.deposited

abbrev pub put_by : ℕ → ℕ → Lists → ℕ
put_by p i l = cond (l.number == p) (put i l) 0

abbrev pub waits_in : ℕ → Option ℕ → ℕ
waits_in i None = 0
waits_in i (Some j) = one (j == i)

abbrev pub waits : ℕ → Lists → ℕ
waits i l = waits_in i l.pending

abbrev pub past : ℕ → Lists → ℕ
past n l = one (is_past n l.drawn)

abbrev pub numbered : ℕ → Lists → ℕ
numbered k l = one (l.number == k)

abbrev pub each_one : Lists → ℕ
each_one l = 1

-- of the passes that a view tells of, and that all views tell of
abbrev pub in_view : (Lists → ℕ) → View → ℕ
in_view f v = cond v.live (f v.own) 0 + sum_by f v.gathered

abbrev pub total : (Lists → ℕ) → List View → ℕ
total f vs = sum_by (in_view f) vs

-- home's view, which the first pass carries
abbrev pub home_views : ℕ → ℕ → List View
home_views zero made = home_view made [] ∷ []
home_views (suc k) made = []
