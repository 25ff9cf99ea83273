-- What the calls of the things in memory do, as the traits say it.
use Rattle.std.proofs.Common.{◌≡◌, ℕ, ◌+◌, ◌-◌, ◌^◌, ◌≤◌, ◌⊎◌, inl, inr, List, ◌++◌, length, take, drop, Option, Some, None, Result, Ok, Err, is_ok, is_some, unwrap_or, subst, OnOk, OnErr, IfOk, IfSome, Bool, true, false, not, ◌&&◌, nat_lt, if◌then◌else◌, refl, sym, ap, ◌∙◌, true≢false, arith, length-take, length-drop}
use Rattle.std.proofs.Math.Seq.{take-append_seam, take-length}
use Rattle.std.specs.Result.{result_ok}
use Rattle.rv_host.specs.declared.Failed.{Failed}
use Rattle.rv_host.specs.Counts.{Counted, Rose, raised, raised_if}
use Rattle.rv_host.specs.Transfers.{Reads, read_count, read_into}

-- ---- answers

pub merged : {T E A : Type 0} (r : Result T E) (new ok err : A) → OnOk r (new ≡ ok) → OnErr r (new ≡ err) → new ≡ (if is_ok r then ok else err)
merged (Ok x) new ok err h k = h
merged (Err x) new ok err h k = k

pub and-true : (b : Bool) → (b && true) ≡ b
and-true true = refl
and-true false = refl

pub on-ok : {T E P : Type 0} (r : Result T E) (done : Bool) → is_ok r ≡ done → (done ≡ true → P) → OnOk r P
on-ok (Ok x) done is f = f (sym is)
on-ok (Err x) done is f = tt

pub on-err : {T E P : Type 0} (r : Result T E) (done : Bool) → is_ok r ≡ done → (done ≡ false → P) → OnErr r P
on-err (Ok x) done is f = tt
on-err (Err x) done is f = f (sym is)

pub if-ok : {T E : Type 0} (r : Result T E) (answer : Option T) {P : T → Type 0} → result_ok r ≡ answer → ((x : T) → answer ≡ Some x → P x) → IfOk r P
if-ok (Ok x) answer is f = f x (sym is)
if-ok (Err x) answer is f = tt

pub failed-not : {T E : Type 0} (r : Result T E) (done : Bool) → is_ok r ≡ done → is_ok r ≡ not (not done)
failed-not r true is = is
failed-not r false is = is

pub failed-none : {T E : Type 0} (r : Result T E) (failed : Bool) (x : T) → result_ok r ≡ (if failed then None else Some x) → is_ok r ≡ not failed
failed-none (Ok y) true x is = absurd (true≢false (ap is_some is))
failed-none (Ok y) false x is = refl
failed-none (Err y) true x is = refl
failed-none (Err y) false x is = absurd (true≢false (sym (ap is_some is)))

pub answered : {T : Type 0} (P : T → Type 0) (failed : Bool) (x y : T) → (if failed then None else Some x) ≡ Some y → (failed ≡ false → P x) → P y
answered P true x y is p = absurd (true≢false (sym (ap is_some is)))
answered P false x y is p = subst P (ap (λ o. unwrap_or o x) is) (p refl)

-- ---- counts

below-raised : (n : ℕ) (b : Bool) → n ≤ (if b then n + 1 else n)
below-raised n true = omega arith
below-raised n false = omega arith

pub count-rose : (n : ℕ) → Rose n (raised n)
count-rose n = grind arith

pub counted-if : {T : Type 0} (r : Result T Failed) (failed : Bool) (before now : ℕ) → is_ok r ≡ not failed → now ≡ raised_if failed before → Counted r before now
counted-if (Ok x) true before now is e = absurd (true≢false is)
counted-if (Ok x) false before now is e = record { never_falls = omega (arith, e); ok_leaves = e }
counted-if (Err x) true before now is e = record { never_falls = rw e (below-raised before (nat_lt before (2 ^ 64 - 1))); ok_leaves = tt }
counted-if (Err x) false before now is e = record { never_falls = omega (arith, e); ok_leaves = tt }

pub counted-same : {T : Type 0} (r : Result T Failed) (before now : ℕ) → now ≡ before → Counted r before now
counted-same (Ok x) before now e = record { never_falls = omega (arith, e); ok_leaves = e }
counted-same (Err x) before now e = record { never_falls = omega (arith, e); ok_leaves = tt }

pub rose-if : {T : Type 0} (r : Result T Failed) (failed : Bool) (before now : ℕ) → is_ok r ≡ not failed → now ≡ raised_if failed before → OnErr r (Rose before now)
rose-if (Ok x) failed before now is e = tt
rose-if (Err x) true before now is e = rw e (count-rose before)
rose-if (Err x) false before now is e = absurd (true≢false (sym is))

-- ---- what is added: f adds bytes to base

module _ {X : Type 0} (f : List ℕ → X) (base : X) where
  pub all-added : (has_memory is_due : Bool) (bytes : List ℕ) (n : ℕ) → (has_memory && not is_due) ≡ true → (if has_memory then f (if is_due then take n bytes else bytes) else base) ≡ f bytes
  all-added true false bytes n done = refl
  all-added true true bytes n done = absurd (true≢false (sym done))
  all-added false is_due bytes n done = absurd (true≢false (sym done))

  pub part-added : (has_memory is_due : Bool) (bytes : List ℕ) (n : ℕ) → let new = if has_memory then f (if is_due then take n bytes else bytes) else base in (new ≡ base) ⊎ ((taken : ℕ) × (new ≡ f (take taken bytes)))
  part-added true true bytes n = inr (n, refl)
  part-added true false bytes n = inr (length bytes, ap f (sym (take-length bytes)))
  part-added false is_due bytes n = inl refl

-- ---- what is read

pub read-is : (file : List ℕ) (at most : ℕ) (into : List ℕ) → (most ≡ 0 → length into ≡ 0) → Reads file at (read_count file at (length into) most) into (read_into file at most into)
read-is file at most into empty =
    let count = read_count file at (length into) most in
    let front = take count (drop at file) in
    let size : length front ≡ count = length-take count (drop at file) ∙ grind (arith, length-drop at file) in
    record {
      bytes = ap (λ n. take n (front ++ drop count into)) (sym size) ∙ take-append_seam front (drop count into);
      none = λ is. grind arith;
    }

pub cap-is : (most : Option ℕ) (size : ℕ) → IfSome most (λ cap. 1 ≤ cap) → unwrap_or most size ≡ 0 → size ≡ 0
cap-is None size above is = is
cap-is (Some most) size above is = absurd (omega arith)

pub read-fits : (file : List ℕ) (at size most : ℕ) → read_count file at size most ≤ size
read-fits file at size most = grind arith
