-- Digests add up over lists, and lists that are one multiset have one digest.
use Rattle.std.proofs.Common.{◌≡◌, ℕ, ◌+◌, ◌%◌, ◌^◌, List, ◌++◌, map, sym, ◌∙◌, ap}
use Rattle.std.specs.Prelude.{sum_by, slice_index}
use Rattle.std.proofs.lemmas.List.Sums.{sum_by-append}
use Rattle.std.proofs.Math.Nat.{add-mod-mod, mod-add-mod}
use Rattle.rv_base.specs.declared.record.Tuple.{Tuple}
use Rattle.rv_spec.specs.Digest.{Lanes, lane_numbers, digest_lane, digest}
use Rattle.rv_rules.specs.Sums.{add_lanes}

-- the remainders of two numbers add up to that of the sum
mod-sum : (a b m : ℕ) → (a + b) % m ≡ (a % m + b % m) % m
mod-sum a b m = sym (mod-add-mod a m (b % m) ∙ add-mod-mod a b m)

pub digest_lane-append : (lanes : Lanes) (xs ys : List Tuple) (j : ℕ) → digest_lane lanes (xs ++ ys) j ≡ (digest_lane lanes xs j + digest_lane lanes ys j) % 2 ^ 64
unfolding digest_lane
digest_lane-append lanes xs ys j =
    let lane : Tuple → ℕ = λ t. slice_index (lanes t) j in
    ap (λ n. n % 2 ^ 64) (sum_by-append lane xs ys) ∙ mod-sum (sum_by lane xs) (sum_by lane ys) (2 ^ 64)

pub digest-append : (lanes : Lanes) (xs ys : List Tuple) → digest lanes (xs ++ ys) ≡ add_lanes (digest lanes xs) (digest lanes ys)
digest-append lanes xs ys = λ i. map (λ j. digest_lane-append lanes xs ys j i) lane_numbers
