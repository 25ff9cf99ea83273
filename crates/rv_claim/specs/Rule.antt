-- The rule of the board's table. Word 0 is the number drawn next, and word i + 1 is the mark of slot i.
-- "All passes" are those of the live views and those whose lists home has gathered. Facts about them all are sums.
use Rattle.std.specs.Prelude.{◌≡◌, ℕ, suc, ◌+◌, ◌-◌, ◌*◌, ◌<◌, ◌≤◌, true, false, List, Option, Some, None, length, slice_index, nat_lt}
use mathlib.Core.Option.{Option as Found, some, none}
use lib.ListN.{get_elem?}
use Rattle.atomic_table.specs.Table.{State}
use Rattle.rv_base.specs.declared.limits.TheConstants.{SHARDS_LIMIT, WORKERS_LIMIT}
use Rattle.rv_book.specs.declared.task.Piece.{Piece}
use Rattle.rv_claim.specs.declared.view.Deposit.{Deposit}
use Rattle.rv_claim.specs.declared.view.Lists.{Lists}
use Rattle.rv_claim.specs.declared.view.View.{View}
use Rattle.rv_claim.specs.Views.{kept, drew, put, put_by, waits, past, numbered, each_one, total, last_past}
use Rattle.rv_book.specs.BoardLaws.{one}

-- Home is the first seat. The passes' numbers are those below the number of passes made, each once.
pub record Numbers (workers : ℕ) (views : List View) : Type 0 where
  pub home : View
  pub at : get_elem? views 0 ≡ some home
  pub quiet : home.live ≡ false
  pub few : home.made ≤ workers
  pub count : total each_one views ≡ home.made
  pub each : (k : ℕ) → total (numbered k) views ≡ one (nat_lt k home.made)

-- Only the last number of a pass may be n or more. Its deposited and pending numbers differ, are below n and were drawn by it.
pub record Fits (n : ℕ) (l : Lists) : Type 0 where
  pub last : last_past n l.drawn ≡ true
  pub taken : (i : ℕ) → put i l + waits i l ≤ drew i l
  pub below : (i : ℕ) → n ≤ i → put i l + waits i l ≡ 0

-- a gathered pass has no pending number
abbrev pub EachFits : ℕ → View → Type 0
EachFits n v = (v.live ≡ true → Fits n v.own) × ((k : ℕ) (l : Lists) → get_elem? v.gathered k ≡ some l → Fits n l × (l.pending ≡ None))

-- A slot that no pass deposited in or has opened is at home and keeps nothing, one that a pass has opened is out, and one that a
-- pass deposited in is at home and keeps that pass's number and the task's piece.
pub record SlotFits (piece : ℕ → Piece) (i : ℕ) (views : List View) (home : Found (Found (Option Deposit))) : Type 0 where
  pub empty : total (put i) views ≡ 0 → total (waits i) views ≡ 0 → home ≡ some (some None)
  pub out : 0 < total (waits i) views → home ≡ some none
  pub full : 0 < total (put i) views → (p : ℕ) × (home ≡ some (some (Some (kept p (piece i))))) × (total (put_by p i) views ≡ 1)

pub record Ruled (piece : ℕ → Piece) (n workers : ℕ) (s : State (Option Deposit) View) : Type 0 where
  pub few : (n ≤ SHARDS_LIMIT) × (workers ≤ WORKERS_LIMIT)
  pub sized : (length s.words ≡ n + 1) × (length s.homes ≡ n)
  pub drawn : (x : ℕ) → total (drew x) s.views ≡ one (nat_lt x (slice_index s.words 0))
  pub past : total (past n) s.views ≡ slice_index s.words 0 - n
  pub numbers : Numbers workers s.views
  pub lists : (seat : ℕ) (v : View) → get_elem? s.views seat ≡ some v → EachFits n v
  pub marks : (i : ℕ) → i < n → slice_index s.words (suc i) ≡ 2 * total (put i) s.views + total (waits i) s.views
  pub slots : (i : ℕ) → i < n → SlotFits piece i s.views (get_elem? s.homes i)
