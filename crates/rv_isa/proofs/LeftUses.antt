-- What the uses of a step leave in a cell: its value, and the time of its last use.
use Rattle.std.proofs.Common.{◌≡◌, ◌≢◌, ◌⊎◌, ℕ, ◌+◌, ◌<◌, ◌≤◌, max, Bool, true, false, cond, ◌&&◌, ◌==◌, nat_lt, nat_le, List, [], ◌∷◌, ◌++◌, map, filter, fold, Option, Some, None, option_map, unwrap_or, refl, sym, ◌∙◌, ap, ap₂, subst, inl, inr, arith, append-nil, append_assoc}
use Rattle.std.specs.List.{AllByRecursion}
use Rattle.std.specs.Option.{option_or}
use Rattle.std.proofs.lemmas.Simd.{map-map}
use Rattle.std.proofs.lemmas.List.{map-append}
use Rattle.std.proofs.lemmas.Bool.{eqb-true, eqb-false, lt-ltb, le-ltb, le-leb, leb-true}
use Rattle.rv_base.specs.declared.record.Access.{Access}
use Rattle.rv_base.specs.declared.record.Touch.{Touch}
use Rattle.rv_base.specs.declared.record.Tuple.{Tuple}
use Rattle.rv_spec.specs.Decode.{decode_any}
use Rattle.rv_spec.specs.Step.{State, fetch_word, step}
use Rattle.rv_spec.specs.Run.{next_state}
use Rattle.rv_spec.specs.Cells.{value, time_of}
use Rattle.rv_spec.specs.Visits.{Use, step_uses, visit, visits}
use Rattle.rv_spec.specs.Trace.{access, last_use, tuples_left}
use Rattle.rv_rules.specs.Agreement.{touch_of}
use Rattle.rv_rules.specs.Membership.{In}
use Rattle.rv_rules.proofs.Lemmas.{all-in, all-of, in-left, in-right}
use Rattle.rv_mem.specs.Contents.{Contents, value_at, time_at}
use Rattle.rv_mem.specs.Left.{last_touch, value_after, time_after}
use Rattle.rv_mem.specs.Accesses.{access_of, accesses_of}
use Rattle.rv_isa.proofs.Uses.{made}
use Rattle.rv_isa.proofs.Slots.{Rises, slots-rise, all-within, joined}
use Rattle.rv_isa.proofs.EarlierUses.{ReadFirst}
use Rattle.rv_isa.proofs.Frame.{Spares, step-keeps}
use Rattle.rv_isa.proofs.LastUses.{after-kept}

-- ---- the last touch of a cell is that of its last use

abbrev LastIn : ℕ → List Use → Use → Type 0
LastIn c us u = In u us × (u.cell ≡ c) × ((x : Use) → In x us → x.cell ≡ c → x.slot ≤ u.slot)

abbrev Unused : ℕ → List Use → Type 0
Unused c us = (u : Use) → In u us → u.cell ≢ c

module _ (s t : State) where
  abbrev of_use : Use → Touch
  of_use u = touch_of (visit s t u)

  abbrev Found : ℕ → List Use → Option Touch → Type 0
  Found c us o = (Unused c us × (o ≡ None)) ⊎ ((u : Use) × LastIn c us u × (o ≡ Some (of_use u)))

  last-found : (c : ℕ) (us : List Use) (lo hi : ℕ) → Rises lo hi us → Found c us (last_touch (made s t us) c)
  last-found c [] lo hi r = inl ((λ u m. absurd m), refl)
  last-found c (x ∷ xs) lo hi r = go (x.cell == c) refl (last_touch (made s t xs) c) (last-found c xs (x.slot + 1) hi r.1)
    where
      go : (b : Bool) → (x.cell == c) ≡ b → (o : Option Touch) → Found c xs o → Found c (x ∷ xs) (option_or o (cond b (Some (of_use x)) None))
      go b e o (inr l) =
          let u : Use = l.0 in
          let above : x.slot + 1 ≤ u.slot = (all-in (λ v. (x.slot + 1 ≤ v.slot) × (v.slot < hi)) xs (all-within (x.slot + 1) hi xs r.1) u l.1.0).0 in
          inr (
            u,
            (inr l.1.0, l.1.1, λ y m same. elim m [ inl is ↦ omega (arith, above, ap (λ z. z.slot) is) | inr k ↦ l.1.2 y k same ]),
            ap (λ p. option_or p (cond b (Some (of_use x)) None)) l.2,
          )
      go true e o (inl none) =
          inr (
            x,
            (inl refl, eqb-true x.cell c e, λ y m same. elim m [ inl is ↦ omega (arith, ap (λ z. z.slot) is) | inr k ↦ absurd (none.0 y k same) ]),
            ap (λ p. option_or p (Some (of_use x))) none.1,
          )
      go false e o (inl none) =
          inl ((λ u m same. elim m [ inl is ↦ eqb-false x.cell c e (ap (λ z. z.cell) (sym is) ∙ same) | inr k ↦ none.0 u k same ]), ap (λ p. option_or p None) none.1)

-- ---- values

module _ (input : List ℕ) (s : State) where
  abbrev us : List Use
  us = step_uses input s

  abbrev t : State
  t = next_state input s

  pub uses-rise : Rises 1 9 us
  unfolding step_uses
  uses-rise = (omega arith, slots-rise input (decode_any s.version (fetch_word s)) s)

  pub touches-made : map touch_of (visits input s) ≡ made s t us
  unfolding visits
  touches-made = map-map touch_of (visit s t) us

  kept : (c : ℕ) → Spares c us → value t c ≡ value s c
  kept c h = after-kept c s (step input s) (step-keeps input s c h)

  -- after the touches of a step, a cell that held what the state held holds what the next state does
  pub values-left : (c : ℕ) → value_after (map touch_of (visits input s)) c (value s c) ≡ value t c
  values-left c =
      ap (λ (l : List Touch). value_after l c (value s c)) touches-made
      ∙ elim (last-found s t c us 1 9 uses-rise) [
        | inl none ↦ ap (λ o. unwrap_or (option_map (λ (x : Touch). x.new) o) (value s c)) none.1 ∙ sym (kept c (all-of (λ u. 6 ≤ u.slot → u.cell ≢ c) us (λ u m late. none.0 u m)))
        | inr l ↦ ap (λ o. unwrap_or (option_map (λ (x : Touch). x.new) o) (value s c)) l.2 ∙ new l.0 l.1
      ]
    where
      new : (u : Use) → LastIn c us u → (visit s t u).new ≡ value t c
      new u l = elim (nat_le u.slot 5) as (λ b. nat_le u.slot 5 ≡ b → cond b (value s u.cell) (value t u.cell) ≡ value t c) [
        | true ↦ λ e.
            let low : u.slot ≤ 5 = leb-true u.slot 5 e in
            ap (value s) l.1 ∙ sym (kept c (all-of (λ y. 6 ≤ y.slot → y.cell ≢ c) us (λ y m late same. (let less : y.slot ≤ u.slot = l.2 y m same in absurd (omega arith)))))
        | false ↦ λ e. ap (value t) l.1
      ] refl

-- ---- the last use before a time

abbrev is_before : ℕ → ℕ → Tuple → Bool
is_before c bound w = w.cell == c && nat_lt w.time bound

abbrev top : ℕ → ℕ → ℕ → List Tuple → ℕ
top a c bound ws = fold max a (map (λ w. w.time) (filter (is_before c bound) ws))

top-le : (a b c bound : ℕ) (ws : List Tuple) → a ≤ b → AllByRecursion (λ w. w.time ≤ b) ws → top a c bound ws ≤ b
top-le a b c bound [] h each = h
top-le a b c bound (w ∷ ws) h each =
    elim (is_before c bound w) as (λ x. fold max a (map (λ w. w.time) (cond x (w ∷ filter (is_before c bound) ws) (filter (is_before c bound) ws))) ≤ b) [
      | true ↦ top-le (max a w.time) b c bound ws (let less = each.0 in omega arith) each.1
      | false ↦ top-le a b c bound ws h each.1
    ]

top-append : (a c bound : ℕ) (ws xs : List Tuple) → top a c bound (ws ++ xs) ≡ top (top a c bound ws) c bound xs
top-append a c bound [] xs = refl
top-append a c bound (w ∷ ws) xs =
    elim (is_before c bound w) as (λ x. fold max a (map (λ w. w.time) (cond x (w ∷ filter (is_before c bound) (ws ++ xs)) (filter (is_before c bound) (ws ++ xs))))
    ≡ top (fold max a (map (λ w. w.time) (cond x (w ∷ filter (is_before c bound) ws) (filter (is_before c bound) ws)))) c bound xs) [
      | true ↦ top-append (max a w.time) c bound ws xs
      | false ↦ top-append a c bound ws xs
    ]

-- tuples that are not before the time
top-late : (a c bound : ℕ) (ws : List Tuple) → AllByRecursion (λ w. bound ≤ w.time) ws → top a c bound ws ≡ a
top-late a c bound [] late = refl
top-late a c bound (w ∷ ws) late =
    ap (λ b. fold max a (map (λ w. w.time) (cond (w.cell == c && b) (w ∷ filter (is_before c bound) ws) (filter (is_before c bound) ws)))) (le-ltb w.time bound late.0)
    ∙ elim (w.cell == c) as (λ b. fold max a (map (λ w. w.time) (cond (b && false) (w ∷ filter (is_before c bound) ws) (filter (is_before c bound) ws))) ≡ a) [
      | true ↦ top-late a c bound ws late.1
      | false ↦ top-late a c bound ws late.1
    ]

-- one bound is as good as another above all times
top-same : (a c m n : ℕ) (ws : List Tuple) → AllByRecursion (λ w. w.time < m) ws → m ≤ n → top a c n ws ≡ top a c m ws
top-same a c m n [] each h = refl
top-same a c m n (w ∷ ws) each h =
    ap (λ b. fold max a (map (λ w. w.time) (cond (w.cell == c && b) (w ∷ filter (is_before c n) ws) (filter (is_before c n) ws)))) (lt-ltb w.time n (let l = each.0 in omega arith))
    ∙ elim (w.cell == c) as (λ b. fold max a (map (λ w. w.time) (cond (b && true) (w ∷ filter (is_before c n) ws) (filter (is_before c n) ws)))
    ≡ fold max a (map (λ w. w.time) (cond (b && true) (w ∷ filter (is_before c m) ws) (filter (is_before c m) ws)))) [
      | true ↦ top-same (max a w.time) c m n ws each.1 h
      | false ↦ top-same a c m n ws each.1 h
    ]
    ∙ sym (ap (λ b. fold max a (map (λ w. w.time) (cond (w.cell == c && b) (w ∷ filter (is_before c m) ws) (filter (is_before c m) ws)))) (lt-ltb w.time m each.0))

pub use-bound : (ws : List Tuple) (c m n : ℕ) → AllByRecursion (λ w. w.time < m) ws → m ≤ n → last_use ws c n ≡ last_use ws c m
unfolding last_use
use-bound ws c m n each h = top-same 0 c m n ws each h

use-later : (ws xs : List Tuple) (c bound : ℕ) → AllByRecursion (λ w. bound ≤ w.time) xs → last_use (ws ++ xs) c bound ≡ last_use ws c bound
unfolding last_use
use-later ws xs c bound late = top-append 0 c bound ws xs ∙ top-late (top 0 c bound ws) c bound xs late

use-snoc : (ws : List Tuple) (w : Tuple) (c bound : ℕ) → AllByRecursion (λ x. x.time ≤ w.time) ws → w.time < bound → last_use (ws ++ w ∷ []) c bound ≡ cond (w.cell == c) w.time (last_use ws c bound)
unfolding last_use
use-snoc ws w c bound each h =
    let low : top 0 c bound ws ≤ w.time = top-le 0 w.time c bound ws (omega arith) each in
    top-append 0 c bound ws (w ∷ [])
    ∙ ap (λ b. fold max (top 0 c bound ws) (map (λ w. w.time) (cond (w.cell == c && b) (w ∷ []) []))) (lt-ltb w.time bound h)
    ∙ elim (w.cell == c) as (λ b. fold max (top 0 c bound ws) (map (λ w. w.time) (cond (b && true) (w ∷ []) [])) ≡ cond b w.time (top 0 c bound ws)) [
      | true ↦ omega arith
      | false ↦ refl
    ]

-- ---- the last use within a step

pub all-append : {A : Type 0} (P : A → Type 0) (xs ys : List A) → AllByRecursion P xs → AllByRecursion P ys → AllByRecursion P (xs ++ ys)
all-append P [] ys h k = k
all-append P (x ∷ xs) ys h k = (h.0, all-append P xs ys h.1 k)

pub all-weaker : {A : Type 0} (P Q : A → Type 0) (xs : List A) → ((x : A) → P x → Q x) → AllByRecursion P xs → AllByRecursion Q xs
all-weaker P Q [] f h = tt
all-weaker P Q (x ∷ xs) f h = (f x h.0, all-weaker P Q xs f h.1)

module _ (s t : State) (k : ℕ) where
  abbrev left : List Use → List Tuple
  left us = tuples_left k (map (visit s t) us)

  -- the times that are left rise with the slots
  pub left-within : (lo hi : ℕ) (us : List Use) → AllByRecursion (λ u. (lo ≤ u.slot) × (u.slot < hi)) us → AllByRecursion (λ w. (time_of k lo ≤ w.time) × (w.time < time_of k hi)) (left us)
  left-within lo hi [] h = tt
  left-within lo hi (u ∷ us) h = (((let l = h.0.0 in omega arith), (let l = h.0.1 in omega arith)), left-within lo hi us h.1)

  left-append : (us vs : List Use) → left (us ++ vs) ≡ left us ++ left vs
  left-append [] vs = refl
  left-append (u ∷ us) vs = ap (λ (l : List Tuple). record { cell = u.cell; value = (visit s t u).new; time = time_of k u.slot } ∷ l) (left-append us vs)

  after-both : (o p : Option Touch) (d : ℕ) → unwrap_or (option_map (λ (x : Touch). time_of k x.slot) (option_or o p)) d
      ≡ unwrap_or (option_map (λ (x : Touch). time_of k x.slot) o) (unwrap_or (option_map (λ (x : Touch). time_of k x.slot) p) d)
  after-both None p d = refl
  after-both (Some x) p d = refl

  after-one : (b : Bool) (x : Touch) (d : ℕ) → unwrap_or (option_map (λ (x : Touch). time_of k x.slot) (cond b (Some x) None)) d ≡ cond b (time_of k x.slot) d
  after-one true x d = refl
  after-one false x d = refl

  pub times-left : (c bound lo hi : ℕ) (us : List Use) (before : List Tuple) → Rises lo hi us → AllByRecursion (λ w. w.time < time_of k lo) before → time_of k hi ≤ bound
      → last_use (before ++ left us) c bound ≡ time_after k (made s t us) c (last_use before c bound)
  times-left c bound lo hi [] before r earlier h = ap (λ (l : List Tuple). last_use l c bound) (append-nil before)
  times-left c bound lo hi (u ∷ us) before r earlier h =
      let w : Tuple = record { cell = u.cell; value = (visit s t u).new; time = time_of k u.slot } in
      let within : (u.slot + 1 ≤ hi) = above (u.slot + 1) hi us r.1 in
      let from : lo ≤ u.slot = r.0 in
      let all : AllByRecursion (λ x. x.time < time_of k (u.slot + 1)) (before ++ w ∷ []) =
      all-append (λ (x : Tuple). x.time < time_of k (u.slot + 1)) before (w ∷ []) (all-weaker (λ (x : Tuple). x.time < time_of k lo) (λ x. x.time < time_of k (u.slot + 1)) before (λ x g. omega arith) earlier) (omega arith, tt) in
      let last : last_use (before ++ w ∷ []) c bound ≡ cond (u.cell == c) (time_of k u.slot) (last_use before c bound) =
      use-snoc before w c bound (all-weaker (λ (x : Tuple). x.time < time_of k lo) (λ x. x.time ≤ time_of k u.slot) before (λ x g. omega arith) earlier) (omega arith) in
      ap (λ (l : List Tuple). last_use l c bound) (sym (append_assoc before (w ∷ []) (left us)))
      ∙ times-left c bound (u.slot + 1) hi us (before ++ w ∷ []) r.1 all h
      ∙ ap (time_after k (made s t us) c) (last ∙ sym (after-one (u.cell == c) (touch_of (visit s t u)) (last_use before c bound)))
      ∙ sym (after-both (last_touch (made s t us) c) (cond (u.cell == c) (Some (touch_of (visit s t u))) None) (last_use before c bound))
    where
      above : (lo hi : ℕ) (us : List Use) → Rises lo hi us → lo ≤ hi
      above lo hi [] r = r
      above lo hi (u ∷ us) r = omega (arith, r.0, above (u.slot + 1) hi us r.1)

  -- ---- the accesses of a row

  to-higher : (lo mid hi : ℕ) (us : List Use) → mid ≤ hi → Rises lo mid us → Rises lo hi us
  to-higher lo mid hi [] h r = omega arith
  to-higher lo mid hi (u ∷ us) h r = (r.0, to-higher (u.slot + 1) mid hi us h r.1)

  module _ (m : Contents) (before : List Tuple) (earlier : AllByRecursion (λ w. w.time < time_of k 0) before) where
    abbrev Known : Use → Type 0
    Known u = (value_at m u.cell ≡ value s u.cell) × (time_at m u.cell ≡ last_use before u.cell (time_of k 0))

    prev-is : (ps : List Use) (u : Use) (us : List Use) (mid hi : ℕ) → Rises 0 mid ps → Rises mid hi (u ∷ us) → Known u
        → time_after k (made s t ps) u.cell (time_at m u.cell) ≡ last_use (before ++ left (ps ++ u ∷ us)) u.cell (time_of k u.slot)
    prev-is ps u us mid hi p r known =
        let late : AllByRecursion (λ w. time_of k u.slot ≤ w.time) (left (u ∷ us)) =
        all-weaker (λ (w : Tuple). (time_of k u.slot ≤ w.time) × (w.time < time_of k hi)) (λ w. time_of k u.slot ≤ w.time) (left (u ∷ us)) (λ w h. h.0) (left-within u.slot hi (u ∷ us) (all-within u.slot hi (u ∷ us) (omega arith, r.1))) in
        ap (time_after k (made s t ps) u.cell) (known.1 ∙ sym (use-bound before u.cell (time_of k 0) (time_of k u.slot) earlier (omega arith)))
        ∙ sym (times-left u.cell (time_of k u.slot) 0 u.slot ps before (to-higher 0 mid u.slot ps r.0 p) earlier (omega arith))
        ∙ sym (use-later (before ++ left ps) (left (u ∷ us)) u.cell (time_of k u.slot) late)
        ∙ ap (λ (l : List Tuple). last_use l u.cell (time_of k u.slot)) (append_assoc before (left ps) (left (u ∷ us)) ∙ ap (λ (l : List Tuple). before ++ l) (sym (left-append ps (u ∷ us))))

    -- earlier uses of a cell left what they found
    old-is : (ps : List Use) (u : Use) (us : List Use) (mid hi : ℕ) → Rises 0 mid ps → Rises mid hi (u ∷ us) → ReadFirst (ps ++ u ∷ us) → Known u
        → value_after (made s t ps) u.cell (value_at m u.cell) ≡ value s u.cell
    old-is ps u us mid hi p r first known =
        ap (value_after (made s t ps) u.cell) known.0
        ∙ elim (last-found s t u.cell ps 0 mid p) [
          | inl none ↦ ap (λ o. unwrap_or (option_map (λ (x : Touch). x.new) o) (value s u.cell)) none.1
          | inr l ↦
              let v : Use = l.0 in
              let early : v.slot < mid = (all-in (λ w. (0 ≤ w.slot) × (w.slot < mid)) ps (all-within 0 mid ps p) v l.1.0).1 in
              let low : v.slot ≤ 5 = first v u (in-left v ps (u ∷ us) l.1.0) (in-right u ps (u ∷ us) (inl refl)) l.1.1 (omega (arith, early, r.0)) in
              ap (λ o. unwrap_or (option_map (λ (x : Touch). x.new) o) (value s u.cell)) l.2
              ∙ ap (λ b. cond b (value s v.cell) (value t v.cell)) (le-leb v.slot 5 low) ∙ ap (value s) l.1.1
        ]

    rest-are : (ps us : List Use) (mid hi : ℕ) → Rises 0 mid ps → Rises mid hi us → ReadFirst (ps ++ us) → AllByRecursion Known us
        → accesses_of (value_at m) (time_at m) k (made s t ps) (made s t us) ≡ map (access (before ++ left (ps ++ us)) k) (map (visit s t) us)
    rest-are ps [] mid hi p r first known = refl
    rest-are ps (u ∷ us) mid hi p r first known =
        let here : access_of (value_at m) (time_at m) k (made s t ps) (touch_of (visit s t u)) ≡ access (before ++ left (ps ++ u ∷ us)) k (visit s t u) =
        ap₂ (λ old prev. to-access u.slot u.cell old prev (visit s t u).new) (old-is ps u us mid hi p r first known.0) (prev-is ps u us mid hi p r known.0) in
        let passed : made s t ps ++ touch_of (visit s t u) ∷ [] ≡ made s t (ps ++ u ∷ []) = sym (map-append (λ u. touch_of (visit s t u)) ps (u ∷ [])) in
        let whole : (ps ++ u ∷ []) ++ us ≡ ps ++ u ∷ us = append_assoc ps (u ∷ []) us in
        let more : Rises 0 (u.slot + 1) (ps ++ u ∷ []) = joined 0 mid (u.slot + 1) ps (u ∷ []) p (r.0, omega arith) in
        ap₂ (λ x xs. x ∷ xs) here
        (ap (λ (l : List Touch). accesses_of (value_at m) (time_at m) k l (made s t us)) passed ∙ rest-are (ps ++ u ∷ []) us (u.slot + 1) hi more r.1 (subst ReadFirst (sym whole) first) known.1
        ∙ ap (λ (l : List Use). map (access (before ++ left l) k) (map (visit s t) us)) whole)
      where
        to-access : ℕ → ℕ → ℕ → ℕ → ℕ → Access
        to-access slot cell old prev new = record { slot = slot; cell = cell; old = old; prev = prev; new = new }

    pub accesses-are : (us : List Use) (lo hi : ℕ) → Rises lo hi us → ReadFirst us → AllByRecursion Known us → accesses_of (value_at m) (time_at m) k [] (made s t us) ≡ map (access (before ++ left us) k) (map (visit s t) us)
    accesses-are us lo hi r first known = rest-are [] us lo hi (omega arith) r first known
