-- The board (this project's own) from which passes draw numbers, each once, and the journal of those that are done.
use Rattle.std.specs.Prelude.{◌≡◌, ◌≤◌, ℕ, zero, suc, ◌+◌, Bool, not, ◌&&◌, ◌||◌, List, [], ◌∷◌, ◌++◌, length, replicate, IsTrue, nat_lt, nat_le, ◌==◌}
use Rattle.std.specs.List.{list_all, list_any}
use Rattle.rv_book.specs.declared.event.BoardEvent.{BoardEvent}
use Rattle.rv_book.specs.declared.event.BoardEvent.TheVariants.{Claim, Deposit}

-- next is the number drawn next, and each pass has a list of the numbers that it drew
pub record Board : Type 0 where
  pub next : ℕ
  pub drawn : List (List ℕ)
  pub journal : List (ℕ × ℕ)

-- for at least one pass
abbrev pub initial_board : ℕ → Board
initial_board passes = record { next = 0; drawn = replicate passes []; journal = [] }

-- what a pass drew
abbrev pub drawn_by : List (List ℕ) → ℕ → List ℕ
drawn_by [] p = []
drawn_by (d ∷ ds) zero = d
drawn_by (d ∷ ds) (suc p) = drawn_by ds p

-- the lists with x at the end of that of a pass
abbrev pub draw : List (List ℕ) → ℕ → ℕ → List (List ℕ)
draw [] p x = []
draw (d ∷ ds) zero x = (d ++ x ∷ []) ∷ ds
draw (d ∷ ds) (suc p) x = d ∷ draw ds p x

abbrev pub is_in : ℕ → List ℕ → Bool
is_in i xs = list_any (λ x. x == i) xs

abbrev pub is_journaled : ℕ → List (ℕ × ℕ) → Bool
is_journaled i es = list_any (λ e. e.1 == i) es

-- A pass may claim while all that it drew is below n. It may deposit what it drew, once.
unfoldable pub permitted : ℕ → Board → BoardEvent → Bool
permitted n b (Claim p) = nat_lt p (length b.drawn) && list_all (λ x. nat_lt x n) (drawn_by b.drawn p)
permitted n b (Deposit p i) = is_in i (drawn_by b.drawn p) && nat_lt i n && not (is_journaled i b.journal)

unfoldable pub board_after : Board → BoardEvent → Board
board_after b (Claim p) = record b { next = b.next + 1; drawn = draw b.drawn p b.next }
board_after b (Deposit p i) = record b { journal = b.journal ++ (p, i) ∷ [] }

-- the events lead from one board to another, each permitted where it comes
abbrev pub Leads : ℕ → Board → List BoardEvent → Board → Type 0
Leads n b [] c = c ≡ b
Leads n b (e ∷ es) c = IsTrue (permitted n b e) × Leads n (board_after b e) es c

-- what permitted events reach from the opening of a board of at least one pass
abbrev pub Reaches : ℕ → ℕ → List BoardEvent → Board → Type 0
Reaches n passes es b = (1 ≤ passes) × Leads n (initial_board passes) es b

-- each pass drew a number of n or more, and all lesser ones that it drew are in the journal
abbrev pub pass_done : ℕ → Board → List ℕ → Bool
pass_done n b xs = list_any (λ x. nat_le n x) xs && list_all (λ x. nat_le n x || is_journaled x b.journal) xs

unfoldable pub is_done : ℕ → Board → Bool
is_done n b = list_all (pass_done n b) b.drawn
