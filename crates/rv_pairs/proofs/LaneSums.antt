-- Sums of lanes, modulo 2 ^ 64.
use Rattle.std.proofs.Common.{◌≡◌, ℕ, ◌+◌, ◌%◌, ◌^◌, List, [], ◌∷◌, ◌++◌, map, take, sym, ◌∙◌, ap, append-nil, arith}
use Rattle.std.specs.Prelude.{sum_by, slice_index}
use Rattle.std.proofs.lemmas.List.Sums.{sum_by-append}
use Rattle.std.proofs.Math.Nat.{add-mod-mod, mod-add-mod}
use Rattle.rv_base.specs.declared.record.Tuple.{Tuple}
use Rattle.rv_spec.specs.Digest.{Lanes, lane_numbers, digest_lane, digest}
use Rattle.rv_rules.proofs.Lemmas.{digest-append}
use Rattle.rv_pairs.specs.declared.pairing.Pairing.{Pairing}
use Rattle.rv_pairs.specs.Covers.{joined, read_digest, total, with_tuples, written_digest}

-- ---- numbers

more-and-more : (x a b m : ℕ) → ((x + a % m) % m + b % m) % m ≡ (x + (a + b) % m) % m
more-and-more x a b m =
    let swapped : x + a % m + b ≡ x + b + a % m = omega arith in
    let grouped : x + b + a ≡ x + (a + b) = omega arith in
    mod-add-mod (x + a % m) m (b % m)
    ∙ add-mod-mod (x + a % m) b m
    ∙ ap (λ n. n % m) swapped
    ∙ add-mod-mod (x + b) a m
    ∙ ap (λ n. n % m) grouped
    ∙ sym (add-mod-mod x (a + b) m)

more-right : (x y a m : ℕ) → (x + (y + a) % m) % m ≡ ((x + y) % m + a) % m
more-right x y a m =
    let grouped : x + (y + a) ≡ x + y + a = omega arith in
    add-mod-mod x (y + a) m ∙ ap (λ n. n % m) grouped ∙ sym (mod-add-mod (x + y) m a)

more-left : (x y a m : ℕ) → ((x + a) % m + y) % m ≡ ((x + y) % m + a) % m
more-left x y a m =
    let swapped : x + a + y ≡ x + y + a = omega arith in
    mod-add-mod (x + a) m y ∙ ap (λ n. n % m) swapped ∙ sym (mod-add-mod (x + y) m a)

none-more : (x y m : ℕ) → ((x + y) % m + 0) % m ≡ (x + y) % m
none-more x y m =
    let same : x + y + 0 ≡ x + y = omega arith in
    mod-add-mod (x + y) m 0 ∙ ap (λ n. n % m) same

-- ---- sums

module _ (lanes : Lanes) where
  lane : ℕ → Tuple → ℕ
  lane j t = slice_index (lanes t) j

  lanes-more : (sum : List ℕ) (xs ys : List Tuple) (j : ℕ)
      → ((slice_index sum j + digest_lane lanes xs j) % 2 ^ 64 + digest_lane lanes ys j) % 2 ^ 64 ≡ (slice_index sum j + digest_lane lanes (xs ++ ys) j) % 2 ^ 64
  unfolding digest_lane
  lanes-more sum xs ys j =
      more-and-more (slice_index sum j) (sum_by (λ t. slice_index (lanes t) j) xs) (sum_by (λ t. slice_index (lanes t) j) ys) (2 ^ 64)
      ∙ ap (λ n. (slice_index sum j + n % 2 ^ 64) % 2 ^ 64) (sym (sum_by-append (λ t. slice_index (lanes t) j) xs ys))

  pub with-with : (sum : List ℕ) (xs ys : List Tuple) → with_tuples lanes (with_tuples lanes sum xs) ys ≡ with_tuples lanes sum (xs ++ ys)
  unfolding with_tuples
  with-with sum xs ys = λ i. map (λ j. lanes-more sum xs ys j i) lane_numbers

  pub joined-right : (x y : List ℕ) (ts : List Tuple) → joined x (with_tuples lanes y ts) ≡ with_tuples lanes (joined x y) ts
  unfolding with_tuples joined
  joined-right x y ts = λ i. map (λ j. more-right (slice_index x j) (slice_index y j) (digest_lane lanes ts j) (2 ^ 64) i) lane_numbers

  pub joined-left : (x y : List ℕ) (ts : List Tuple) → joined (with_tuples lanes x ts) y ≡ with_tuples lanes (joined x y) ts
  unfolding with_tuples joined
  joined-left x y ts = λ i. map (λ j. more-left (slice_index x j) (slice_index y j) (digest_lane lanes ts j) (2 ^ 64) i) lane_numbers

  none-joined : (x y : List ℕ) → with_tuples lanes (joined x y) [] ≡ joined x y
  unfolding with_tuples joined digest_lane
  none-joined x y = λ i. map (λ j. none-more (slice_index x j) (slice_index y j) (2 ^ 64) i) lane_numbers

  pub with-none : (sum : List ℕ) (ts : List Tuple) → with_tuples lanes (with_tuples lanes sum ts) [] ≡ with_tuples lanes sum ts
  with-none sum ts = with-with sum ts [] ∙ ap (with_tuples lanes sum) (append-nil ts)

  pub joined-with-none : (x y : List ℕ) → with_tuples lanes (joined x y) [] ≡ joined x y
  joined-with-none x y = none-joined x y

  -- lists over which every sum agrees
  lane-alike : (xs ys : List Tuple) → ((f : Tuple → ℕ) → sum_by f xs ≡ sum_by f ys) → (j : ℕ) → digest_lane lanes xs j ≡ digest_lane lanes ys j
  unfolding digest_lane
  lane-alike xs ys same j = ap (λ n. n % 2 ^ 64) (same (λ t. slice_index (lanes t) j))

  pub with-alike : (sum : List ℕ) (xs ys : List Tuple) → ((f : Tuple → ℕ) → sum_by f xs ≡ sum_by f ys) → with_tuples lanes sum xs ≡ with_tuples lanes sum ys
  unfolding with_tuples
  with-alike sum xs ys same = λ i. map (λ j. (slice_index sum j + lane-alike xs ys same j i) % 2 ^ 64) lane_numbers

  pub digest-with : (xs ys : List Tuple) → with_tuples lanes (digest lanes xs) ys ≡ digest lanes (xs ++ ys)
  unfolding with_tuples
  digest-with xs ys = sym (digest-append lanes xs ys)

  -- more tuples behind a list that a sum is the digest of
  pub covers-more : (old new : List ℕ) (xs ys : List Tuple) → new ≡ with_tuples lanes old ys → old ≡ digest lanes xs → new ≡ digest lanes (xs ++ ys)
  covers-more old new xs ys more is = more ∙ ap (λ (z : List ℕ). with_tuples lanes z ys) is ∙ digest-with xs ys

  -- of no tuples
  pub no-tuples : (sum : List ℕ) → sum ≡ digest lanes [] → with_tuples lanes sum [] ≡ digest lanes []
  no-tuples sum is = ap (λ (z : List ℕ). with_tuples lanes z []) is ∙ digest-with [] []

  pub nothing-joined : (x y : List ℕ) → x ≡ digest lanes [] → y ≡ digest lanes [] → joined x y ≡ digest lanes []
  unfolding joined
  nothing-joined x y none nothing = (λ i. joined (none i) (nothing i)) ∙ sym (digest-append lanes [] [])

  -- ---- pairings

  pub read-none : (p : Pairing) → with_tuples lanes (read_digest lanes p) [] ≡ read_digest lanes p
  unfolding read_digest
  read-none p = joined-with-none (total lanes p.reads) (total lanes p.both)

  pub written-none : (p : Pairing) → with_tuples lanes (written_digest lanes p) [] ≡ written_digest lanes p
  unfolding written_digest
  written-none p = with-none (joined (total lanes p.writes) (total lanes p.both)) (take p.count p.waiting)

  -- a tuple more behind a list
  pub step-more : (first before now : List ℕ) (xs ys : List Tuple) (t : Tuple) → before ≡ with_tuples lanes first xs → now ≡ with_tuples lanes before (t ∷ []) → xs ++ t ∷ [] ≡ ys → now ≡ with_tuples lanes first ys
  step-more first before now xs ys t is more same = more ∙ ap (λ (z : List ℕ). with_tuples lanes z (t ∷ [])) is ∙ with-with first xs (t ∷ []) ∙ ap (with_tuples lanes first) same
