-- The segments by rising address, one after another put in its place.
use Rattle.std.proofs.Common.{◌≡◌, ◌⊎◌, ℕ, zero, suc, ◌+◌, ◌-◌, ◌<◌, ◌≤◌, min, max, Bool, false, List, [], ◌∷◌, ◌++◌, length, take, map, get_or, refl, sym, ◌∙◌, ap, subst, arith, inl, inr}
use Rattle.std.specs.List.{All, insert, list_any}
use Rattle.std.proofs.lemmas.Bool.{ltb-false, or_parts, cases_lt, cases_order}
use Rattle.std.proofs.lemmas.List.{get_or-map, map_more, take-map}
use Rattle.std.proofs.lemmas.List.{length-map}
use Rattle.std.proofs.lemmas.List.Edits.{length-insert, get_or-insert_at, get_or-insert_below, get_or-insert_above}
use Rattle.rv_rules.specs.Membership.{In}
use Rattle.rv_spec.specs.Elf.{Segment as Described, overlaps, some_overlap}
use Rattle.rv_elf.specs.declared.segment.Segment.{Segment}
use Rattle.rv_elf.specs.Segments.{described}
use Rattle.rv_elf.specs.Index.{IsIndex, AreRising, AreBegun}

in-left : {A : Type 0} (x : A) (xs ys : List A) → In x xs → In x (xs ++ ys)
in-left x [] ys m = absurd m
in-left x (y ∷ xs) ys (inl e) = inl e
in-left x (y ∷ xs) ys (inr m) = inr (in-left x xs ys m)

in-last : {A : Type 0} (x : A) (xs : List A) → In x (xs ++ x ∷ [])
in-last x [] = inl refl
in-last x (y ∷ xs) = inr (in-last x xs)

in-either : {A : Type 0} (x y : A) (xs : List A) → In x (xs ++ y ∷ []) → In x xs ⊎ (x ≡ y)
in-either x y [] (inl e) = inr e
in-either x y [] (inr m) = absurd m
in-either x y (z ∷ xs) (inl e) = inl (inl e)
in-either x y (z ∷ xs) (inr m) = elim (in-either x y xs m) [ inl k ↦ inl (inr k) | inr e ↦ inr e ]

-- no element of a list passes a test that none passes
pub none-at : {A : Type 0} (p : A → Bool) (xs : List A) (i : ℕ) (d : A) → list_any p xs ≡ false → i < length xs → p (get_or xs i d) ≡ false
none-at p [] i d e h = absurd (omega arith)
none-at p (x ∷ xs) zero d e h = (or_parts (p x) (list_any p xs) e).0
none-at p (x ∷ xs) (suc i) d e h = none-at p xs i d (or_parts (p x) (list_any p xs) e).1 (omega arith)

-- where no two of a list overlap, no segment overlaps an earlier one
pub earlier-apart : (ss : List Described) (i : ℕ) (d t : Described) → some_overlap ss ≡ false → i < length ss → In t (take i ss) → overlaps t (get_or ss i d) ≡ false
earlier-apart [] i d t e h m = absurd (omega arith)
earlier-apart (s ∷ ss) zero d t e h m = absurd m
earlier-apart (s ∷ ss) (suc i) d t e h (inl same) =
    ap (λ z. overlaps z (get_or ss i d)) same ∙ none-at (overlaps s) ss i d (or_parts (list_any (overlaps s) ss) (some_overlap ss) e).0 (omega arith)
earlier-apart (s ∷ ss) (suc i) d t e h (inr m) = earlier-apart ss i d t (or_parts (list_any (overlaps s) ss) (some_overlap ss) e).1 (omega arith) m

-- of two segments that share no address, the one that begins later begins behind the other
behind : (s t : Described) → overlaps s t ≡ false → s.address ≤ t.address → 0 < t.file_size → t.file_size ≤ t.memory_size → s.file_size ≤ s.memory_size
    → s.address + s.file_size ≤ t.address
behind s t e order taking fits s_fits =
    let clear : min (s.address + s.memory_size) (t.address + t.memory_size) ≤ max s.address t.address = ltb-false (max s.address t.address) (min (s.address + s.memory_size) (t.address + t.memory_size)) e in
    omega arith

ahead : (s t : Described) → overlaps s t ≡ false → t.address ≤ s.address → 0 < s.file_size → s.file_size ≤ s.memory_size → t.file_size ≤ t.memory_size
    → t.address + t.file_size ≤ s.address
ahead s t e order taking fits t_fits =
    let clear : min (s.address + s.memory_size) (t.address + t.memory_size) ≤ max s.address t.address = ltb-false (max s.address t.address) (min (s.address + s.memory_size) (t.address + t.memory_size)) e in
    omega arith

-- an index rises
pub rises : (index : List Segment) (loads : List Described) → IsIndex index loads → AreRising index
rises index loads x i j d le h = elim (cases_order i j) [
  | inl same ↦ (let e : (get_or index i d).address ≡ (get_or index j d).address = ap (λ k. (get_or index k d).address) same in omega arith)
  | inr (inl less) ↦ (let e = x.apart i j d less h in omega arith)
  | inr (inr more) ↦ absurd (omega arith)
]

-- one more segment that takes bytes
module _ (index : List Segment) (n : ℕ) (s : Segment) (done : List Described) (x : IsIndex index done) (b : AreBegun index s.address n)
    (taking : 0 < s.file_size) (fits : s.file_size ≤ s.memory_size) (clear : (t : Described) → In t done → overlaps t (described s) ≡ false) where
  at-new : (k : ℕ) (d : Segment) → k ≡ n → get_or (insert index n s) k d ≡ s
  at-new k d e = ap (λ z. get_or (insert index n s) z d) e ∙ get_or-insert_at index n s d b.bound

  at-below : (k : ℕ) (d : Segment) → k < n → get_or (insert index n s) k d ≡ get_or index k d
  at-below k d h = get_or-insert_below index n s d k h b.bound

  at-above : (k : ℕ) (d : Segment) → n < k → get_or (insert index n s) k d ≡ get_or index (k - 1) d
  at-above k d h =
      let e : k ≡ k - 1 + 1 = omega arith in
      ap (λ z. get_or (insert index n s) z d) e ∙ get_or-insert_above index n s d (k - 1) (omega arith) b.bound

  below-new : (i : ℕ) (d : Segment) → i < n → (get_or index i d).address + (get_or index i d).file_size ≤ s.address
  below-new i d h =
      let bound = b.bound in
      let within : i < length index = omega arith in
      behind (described (get_or index i d)) (described s) (clear (described (get_or index i d)) (x.from i d within)) (b.begun i d h) taking fits (x.sized i d within).1

  above-new : (i : ℕ) (d : Segment) → n ≤ i → i < length index → s.address + s.file_size ≤ (get_or index i d).address
  above-new i d h within =
      let later = b.above i d h within in
      ahead (described (get_or index i d)) (described s) (clear (described (get_or index i d)) (x.from i d within)) (omega arith) (x.sized i d within).0 (x.sized i d within).1 fits

  apart : (i j : ℕ) (d : Segment) → i < j → j < length (insert index n s)
      → (get_or (insert index n s) i d).address + (get_or (insert index n s) i d).file_size ≤ (get_or (insert index n s) j d).address
  apart i j d less h =
      let grown : length (insert index n s) ≡ length index + 1 = length-insert index n s b.bound in
      let bound = b.bound in
      elim (cases_order j n) [
        | inl same ↦ rw (at-new j d same, at-below i d (omega arith)) (below-new i d (omega arith))
        | inr (inl low) ↦ rw (at-below j d low, at-below i d (omega arith)) (x.apart i j d less (omega arith))
        | inr (inr high) ↦ elim (cases_order i n) [
          | inl same ↦ rw (at-above j d high, at-new i d same) (above-new (j - 1) d (omega arith) (omega arith))
          | inr (inl low) ↦ rw (at-above j d high, at-below i d low) (x.apart i (j - 1) d (omega arith) (omega arith))
          | inr (inr above) ↦ rw (at-above j d high, at-above i d above) (x.apart (i - 1) (j - 1) d (omega arith) (omega arith))
        ]
      ]

  -- what holds of each segment before, and of the new one, holds of each now
  each : (P : Segment → Type 0) → ((i : ℕ) (d : Segment) → i < length index → P (get_or index i d)) → P s
      → (i : ℕ) (d : Segment) → i < length (insert index n s) → P (get_or (insert index n s) i d)
  each P old new i d h =
      let grown : length (insert index n s) ≡ length index + 1 = length-insert index n s b.bound in
      let bound = b.bound in
      elim (cases_order i n) [
        | inl same ↦ subst P (sym (at-new i d same)) new
        | inr (inl low) ↦ subst P (sym (at-below i d low)) (old i d (omega arith))
        | inr (inr high) ↦ subst P (sym (at-above i d high)) (old (i - 1) d (omega arith))
      ]

  complete : (t : Described) → In t (done ++ described s ∷ []) → 0 < t.file_size
      → (i : ℕ) × (i < length (insert index n s)) × ((d : Segment) → described (get_or (insert index n s) i d) ≡ t)
  complete t m some =
      let grown : length (insert index n s) ≡ length index + 1 = length-insert index n s b.bound in
      let bound = b.bound in
      elim (in-either t (described s) done m) [
        | inr e ↦ (n, (omega arith), λ d. ap described (at-new n d refl) ∙ sym e)
        | inl k ↦ moved (x.complete t k some)
      ]
    where
      moved : ((i : ℕ) × (i < length index) × ((d : Segment) → described (get_or index i d) ≡ t))
          → (i : ℕ) × (i < length (insert index n s)) × ((d : Segment) → described (get_or (insert index n s) i d) ≡ t)
      moved (i, h, e) =
          let grown : length (insert index n s) ≡ length index + 1 = length-insert index n s b.bound in
          elim (cases_lt i n) [
            | inl low ↦ (i, (omega arith), λ d. ap described (at-below i d low) ∙ e d)
            | inr high ↦ (i + 1, (omega arith), λ d. ap described (get_or-insert_above index n s d i high b.bound) ∙ e d)
          ]

  pub index-insert : IsIndex (insert index n s) (done ++ described s ∷ [])
  index-insert = record {
    apart = apart;
    sized = each (λ t. (0 < t.file_size) × (t.file_size ≤ t.memory_size)) x.sized (taking, fits);
    from = each (λ t. In (described t) (done ++ described s ∷ [])) (λ i d h. in-left (described (get_or index i d)) done (described s ∷ []) (x.from i d h)) (in-last (described s) done);
    complete = complete;
  }

-- one more segment that takes none
pub index-same : (index : List Segment) (s : Segment) (done : List Described) → IsIndex index done → s.file_size ≤ 0 → IsIndex index (done ++ described s ∷ [])
index-same index s done x empty = record {
  apart = x.apart;
  sized = x.sized;
  from = λ i d h. in-left (described (get_or index i d)) done (described s ∷ []) (x.from i d h);
  complete = λ t m some. elim (in-either t (described s) done m) [
    | inl k ↦ x.complete t k some
    | inr e ↦ absurd (let same : t.file_size ≡ s.file_size = ap (λ z. z.file_size) e in omega arith)
  ];
}

pub index-none : IsIndex [] []
index-none = record {
  apart = λ i j d h k. absurd (omega arith);
  sized = λ i d h. absurd (omega arith);
  from = λ i d h. absurd (omega arith);
  complete = λ t m some. absurd m;
}

-- ---- a step of the loop that builds the index

module _ (loads : List Segment) (i : ℕ) (d : Segment) (index : List Segment) (h : i < length loads) (x : IsIndex index (map described (take i loads))) where
  pub placed : (n : ℕ) → some_overlap (map described loads) ≡ false → All (λ s. s.file_size ≤ s.memory_size) loads → 0 < (get_or loads i d).file_size
      → AreBegun index (get_or loads i d).address n → IsIndex (insert index n (get_or loads i d)) (map described (take (i + 1) loads))
  placed n apart fits taking b =
      let clear : (t : Described) → In t (map described (take i loads)) → overlaps t (described (get_or loads i d)) ≡ false = λ t m.
      ap (overlaps t) (sym (get_or-map described loads i d (described d) h))
      ∙ earlier-apart (map described loads) i (described d) t apart (let l = length-map loads described in omega arith) (subst (In t) (sym (take-map described i loads)) m) in
      subst (IsIndex (insert index n (get_or loads i d))) (sym (map_more described loads i d h))
      (index-insert index n (get_or loads i d) (map described (take i loads)) x b taking (fits i d h) clear)

  pub left-out : (get_or loads i d).file_size ≤ 0 → IsIndex index (map described (take (i + 1) loads))
  left-out empty = subst (IsIndex index) (sym (map_more described loads i d h)) (index-same index (get_or loads i d) (map described (take i loads)) x empty)

-- no member of a list passes a test that none passes
pub none-in : {A : Type 0} (p : A → Bool) (x : A) (xs : List A) → list_any p xs ≡ false → In x xs → p x ≡ false
none-in p x [] e m = absurd m
none-in p x (y ∷ xs) e (inl same) = ap p same ∙ (or_parts (p y) (list_any p xs) e).0
none-in p x (y ∷ xs) e (inr m) = none-in p x xs (or_parts (p y) (list_any p xs) e).1 m
