-- Sums of lanes, modulo 2 ^ 64.
use Rattle.std.proofs.Common.{◌≡◌, ℕ, ◌+◌, ◌%◌, ◌^◌, List, [], ◌∷◌, ◌++◌, map, sym, ◌∙◌, ap, zero-add}
use Rattle.std.specs.Prelude.{slice_index}
use Rattle.std.proofs.Math.Nat.{add-mod-mod}
use Rattle.rv_base.specs.declared.record.Tuple.{Tuple}
use Rattle.rv_spec.specs.Digest.{Lanes, lane_numbers, digest_lane, digest}
use Rattle.rv_rules.specs.Sums.{add_lanes}
use Rattle.rv_rules.proofs.Lemmas.{digest-append}

reduced : (x n m : ℕ) → (x + n) % m ≡ (x + (0 + n) % m) % m
reduced x n m = ap (λ k. (x + k) % m) (sym (zero-add n)) ∙ sym (add-mod-mod x (0 + n) m)

-- the lanes of a tuple add up as the digest of the tuple alone does
add_lanes-tuple : (lanes : Lanes) (xs : List ℕ) (t : Tuple) → add_lanes xs (lanes t) ≡ add_lanes xs (digest lanes (t ∷ []))
unfolding digest_lane
add_lanes-tuple lanes xs t = λ i. map (λ j. reduced (slice_index xs j) (slice_index (lanes t) j) (2 ^ 64) i) lane_numbers

-- the lanes of one more tuple
digest-snoc : (lanes : Lanes) (ts : List Tuple) (t : Tuple) → add_lanes (digest lanes ts) (lanes t) ≡ digest lanes (ts ++ t ∷ [])
digest-snoc lanes ts t = add_lanes-tuple lanes (digest lanes ts) t ∙ sym (digest-append lanes ts (t ∷ []))

-- a digest with the lanes of one more tuple
pub digest-added : (lanes : Lanes) (ts : List Tuple) (t : Tuple) {old new added : List ℕ} → new ≡ add_lanes old added → added ≡ lanes t → old ≡ digest lanes ts → new ≡ digest lanes (ts ++ t ∷ [])
digest-added lanes ts t sum is_lanes before = sum ∙ (λ i. add_lanes (before i) (is_lanes i)) ∙ digest-snoc lanes ts t
