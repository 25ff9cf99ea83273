-- What the board keeps over every list of permitted events.
use Rattle.std.specs.Prelude.{◌≡◌, ℕ, ◌+◌, ◌<◌, ◌≤◌, Bool, true, cond, List, IsTrue, sum_by, nat_lt, ◌==◌}
use Rattle.std.specs.List.{list_all, range_with_len}
use Rattle.rv_book.specs.declared.event.BoardEvent.{BoardEvent}
use Rattle.rv_book.specs.Board.{Board, Reaches, is_done, drawn_by, is_in, is_journaled}

abbrev pub one : Bool → ℕ
one b = cond b 1 0

-- how often x stands in a list
abbrev pub times : ℕ → List ℕ → ℕ
times x ys = sum_by (λ y. one (y == x)) ys

-- how often x was drawn, over all passes
abbrev pub drawn_times : ℕ → List (List ℕ) → ℕ
drawn_times x ds = sum_by (times x) ds

-- how often the journal names i
abbrev pub entered_times : ℕ → List (ℕ × ℕ) → ℕ
entered_times i es = sum_by (λ e. one (e.1 == i)) es

-- a fact of n, the number of passes and the board, after every list of permitted events
abbrev pub Always : (ℕ → ℕ → Board → Type 0) → Type 0
Always P = (n passes : ℕ) (es : List BoardEvent) (b : Board) → Reaches n passes es b → P n passes b

-- the drawn numbers are those below next, each once
abbrev pub EachDrawnOnce : Type 0
EachDrawnOnce = Always (λ n passes b. (x : ℕ) → drawn_times x b.drawn ≡ one (nat_lt x b.next))

abbrev pub EnteredAtMostOnce : Type 0
EnteredAtMostOnce = Always (λ n passes b. (i : ℕ) → entered_times i b.journal ≤ 1)

-- the journal names a number only for a pass that drew it
abbrev pub EachWasDrawn : Type 0
EachWasDrawn = Always (λ n passes b. list_all (λ e. is_in e.1 (drawn_by b.drawn e.0)) b.journal ≡ true)

abbrev pub NextIsBounded : Type 0
NextIsBounded = Always (λ n passes b. b.next ≤ n + passes)

-- in a done state the journal names each number below n exactly once
abbrev pub DoneNamesAll : Type 0
DoneNamesAll = Always (λ n passes b. IsTrue (is_done n b) → (i : ℕ) → i < n → entered_times i b.journal ≡ 1)

-- What the journal's numbers add to any sum, as that of one lane of their digests, is what those numbers below n add, each once.
abbrev pub EachAddedOnce : Type 0
EachAddedOnce = Always (λ n passes b. (f : ℕ → ℕ) → sum_by (λ e. f e.1) b.journal ≡ sum_by (λ i. cond (is_journaled i b.journal) (f i) 0) (range_with_len 0 n))

-- in a done state they add what all numbers below n add
abbrev pub DoneAddsAll : Type 0
DoneAddsAll = Always (λ n passes b. IsTrue (is_done n b) → (f : ℕ → ℕ) → sum_by (λ e. f e.1) b.journal ≡ sum_by f (range_with_len 0 n))
