-- What holds of every instruction that is drawn, where it holds of those of each kind of item.
use Rattle.std.proofs.Common.{ℕ, zero, suc, ◌+◌, ◌<◌, ◌≤◌, Bool, true, false, ◌==◌, nat_lt, if◌then◌else◌, List, [], ◌∷◌, ◌++◌, arith}
use Rattle.std.specs.List.{AllByRecursion}
use Rattle.rv_base.specs.declared.instr.Instr.{Instr}
use Rattle.rv_gen.specs.Draws.{Draw, draw, ◌>>=◌}
use Rattle.rv_gen.specs.Programs.{register_item, immediate_item, upper_item, load_item, store_item, branch_item, call_item, single_item, alone, item_of, item, items, word, filled}

pub draw-below : (n s : ℕ) → 0 < n → (draw n s).0 < n
unfolding draw
draw-below n s some = omega arith

-- it holds of the items of each kind
pub record HoldsOfItems (P : Instr → Type 0) : Type 0 where
  pub register : (s : ℕ) → P (register_item s).0
  pub immediate : (s : ℕ) → P (immediate_item s).0
  pub upper : (s : ℕ) → P (upper_item s).0
  pub load : (s : ℕ) → P (load_item s).0
  pub store : (s : ℕ) → P (store_item s).0
  pub branch : (s : ℕ) → P (branch_item s).0
  pub call : (s : ℕ) → AllByRecursion P (call_item s).0

module _ (P : Instr → Type 0) where
  pub all-append : (is js : List Instr) → AllByRecursion P is → AllByRecursion P js → AllByRecursion P (is ++ js)
  all-append [] js h k = k
  all-append (i ∷ is) js h k = (h.0, all-append is js h.1 k)

  choice-holds : (b : Bool) (x y : Draw Instr) (s : ℕ) → P (x s).0 → P (y s).0 → P ((if b then x else y) s).0
  choice-holds true x y s h k = h
  choice-holds false x y s h k = k

  single-holds : HoldsOfItems P → (k s : ℕ) → P (single_item k s).0
  unfolding single_item
  single-holds kinds k s =
      choice-holds (nat_lt k 6) register_item _ s (kinds.register s)
      (choice-holds (nat_lt k 9) immediate_item _ s (kinds.immediate s)
      (choice-holds (nat_lt k 10) upper_item _ s (kinds.upper s)
      (choice-holds (nat_lt k 12) load_item _ s (kinds.load s) (choice-holds (nat_lt k 14) store_item branch_item s (kinds.store s) (kinds.branch s)))))

  alone-holds : (d : Draw Instr) (s : ℕ) → P (d s).0 → AllByRecursion P (alone d s).0
  unfolding alone ◌>>=◌
  alone-holds d s h = (h, tt)

  item-holds : HoldsOfItems P → (k s : ℕ) → AllByRecursion P (item_of k s).0
  unfolding item_of
  item-holds kinds k s = go (k == 15)
    where
      go : (b : Bool) → AllByRecursion P ((if b then call_item else alone (single_item k)) s).0
      go true = kinds.call s
      go false = alone-holds (single_item k) s (single-holds kinds k s)

  -- of the body
  pub items-hold : HoldsOfItems P → (n s : ℕ) → AllByRecursion P (items n s).0
  unfolding items item ◌>>=◌
  items-hold kinds zero s = tt
  items-hold kinds (suc n) s =
      let k = (draw 16 s).0 in
      let t = (draw 16 s).1 in
      all-append (item_of k t).0 (items n (item_of k t).1).0 (item-holds kinds k t) (items-hold kinds n (item_of k t).1)

  -- of the words that n registers take, from one on
  pub filled-hold : (n r s : ℕ) → ((q t : ℕ) → r ≤ q → q < r + n → AllByRecursion P (word q t).0) → AllByRecursion P (filled n r s).0
  unfolding filled ◌>>=◌
  filled-hold zero r s each = tt
  filled-hold (suc n) r s each =
      all-append (word r s).0 (filled n (r + 1) (word r s).1).0 (each r s (omega arith) (omega arith)) (filled-hold n (r + 1) (word r s).1 (λ q t low high. each q t (omega arith) (omega arith)))
