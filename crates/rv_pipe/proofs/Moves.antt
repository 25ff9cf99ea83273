-- Each step keeps the rule of the pipe's queue.
use Rattle.std.proofs.Common.{◌≡◌, ◌≢◌, ℕ, zero, suc, ◌+◌, ◌<◌, true, ◌&&◌, true≢false, List, [], ◌∷◌, ◌++◌, length, set, sym, refl, ap, ◌∙◌, subst, ⊎_elim, arith}
use Rattle.std.specs.Prelude.{IsTrue, nat_lt, sum_by, ◌==◌}
use Rattle.std.specs.List.{AllByRecursion}
use Rattle.std.proofs.lemmas.Bool.Decides.{nat_tests}
use Rattle.std.proofs.lemmas.List.{map-append}
use Rattle.std.proofs.lemmas.List.Sums.{sum_by-cons, sum_by-append, sum_by_push}
use mathlib.Core.Option.{some, some-injective, some-ne-none}
use lib.ListN.{get_elem?, length-set}
use Rattle.crossbeam_queue.specs.Fifo.{Pushes, Pops, Forks, Merges, Learns, Held}
use Rattle.crossbeam_queue.proofs.Lists.{at_set, at_snoc}
use Rattle.rv_base.specs.declared.limits.TheConstants.{WORKERS_LIMIT}
use Rattle.rv_book.specs.BoardLaws.{one, times}
use Rattle.rv_point.specs.declared.start.ShardStart.{ShardStart}
use Rattle.rv_pipe.specs.declared.event.PipeEvent.TheVariants.{Push, Take}
use Rattle.rv_pipe.specs.declared.view.Hand.{Hand}
use Rattle.rv_pipe.specs.Hands.{whole_hand, spent_hand, pushed_one, took_one, last_part, other_parts, gathered}
use Rattle.rv_pipe.specs.Machine.{Pipe, opened, take_for, front_taken, permitted, pipe_after, Leads}
use Rattle.rv_pipe.specs.MachineLaws.{IsEachOnce}
use Rattle.rv_pipe.specs.Rule.{Kept, IsHandAt, IsAccounted, indices}
use Rattle.rv_pipe.proofs.Machine.{leads-more, taken-adds, length-take_for, each-once}
use Rattle.rv_pipe.proofs.Wider.{wider, length-snoc, one-more-worker}

-- ---- a view at a place

abbrev Hands : ℕ → List Hand → Type 0
Hands pushed views = (seat : ℕ) (v : Hand) → get_elem? views seat ≡ some v → IsHandAt pushed seat v

hands-set : (F : ℕ → Hand → Type 0) (views : List Hand) (p : ℕ) (w : Hand) → F p w → ((j : ℕ) (u : Hand) → j ≢ p → get_elem? views j ≡ some u → F j u) → (j : ℕ) (u : Hand) → get_elem? (set views p w) j ≡ some u → F j u
hands-set F views p w mine others j u e = ⊎_elim (λ (x : (j ≡ p) × (w ≡ u)). subst (λ (y : ℕ × Hand). F y.0 y.1) (λ i. (sym x.0 i, x.1 i)) mine)
    (λ (x : (j ≢ p) × (get_elem? views j ≡ some u)). others j u x.0 x.1) (at_set views p j w u e)

sum-at : (g : Hand → ℕ) (xs : List Hand) (i : ℕ) (x y : Hand) → get_elem? xs i ≡ some x → sum_by g (set xs i y) + g x ≡ sum_by g xs + g y
sum-at g [] i x y at = absurd (some-ne-none x (sym at))
sum-at g (z ∷ zs) zero x y at = let e : g z ≡ g x = ap g (some-injective z x at) in omega (arith, sum_by-cons g y zs, sum_by-cons g z zs)
sum-at g (z ∷ zs) (suc i) x y at = omega (arith, sum_by-cons g z (set zs i y), sum_by-cons g z zs, sum-at g zs i x y at)

there : (xs : List Hand) (i : ℕ) (x : Hand) → get_elem? xs i ≡ some x → i < length xs
there [] i x at = absurd (some-ne-none x (sym at))
there (z ∷ zs) zero x at = omega arith
there (z ∷ zs) (suc i) x at = omega (arith, there zs i x at)

length-map : (items : List ShardStart) → length (indices items) ≡ length items
length-map [] = refl
length-map (s ∷ ss) = ap suc (length-map ss)

each-snoc : (due : ShardStart → Type 0) (items : List ShardStart) (x : ShardStart) → AllByRecursion due items → due x → AllByRecursion due (items ++ x ∷ [])
each-snoc due [] x all is = (is, tt)
each-snoc due (s ∷ ss) x all is = (all.0, each-snoc due ss x all.1 is)

abbrev part : Hand → ℕ
part v = v.parts

abbrev took : ℕ → Hand → ℕ
took x v = times x v.taken

-- ---- the steps

pub begins : (due : ShardStart → Type 0) (waiting : ℕ) → Kept due waiting [] (whole_hand ∷ [])
begins due waiting = record {
  events = [];
  pipe = opened 1;
  reached = refl;
  queue = refl;
  each = tt;
  workers = refl;
  taken = λ x. refl;
  parts = omega (arith, sum_by-cons part whole_hand []);
  hands = at;
}
  where
    at : (seat : ℕ) (v : Hand) → get_elem? (whole_hand ∷ []) seat ≡ some v → IsHandAt 0 seat v
    at zero v e = subst (IsHandAt 0 0) (some-injective whole_hand v e) (record { first = λ _. refl; count = λ _. refl; idle = λ _. refl })
    at (suc j) v e = absurd (some-ne-none v (sym e))

pub pushes : (due : ShardStart → Type 0) (waiting n p : ℕ) (v : Hand) (x : ShardStart) → v.walks ≡ true → 0 < v.parts → x.index ≡ v.pushed → due x → n ≡ waiting → Pushes (Kept due waiting) n p v x (λ w. w ≡ pushed_one v)
unfolding permitted pipe_after
pushes due waiting n p v x walks held next is full items views room k at =
    let w : Hand = pushed_one v in
    let s : Pipe = k.pipe in
    let mine : IsHandAt s.pushed p v = k.hands p v at in
    let few : length s.queue < waiting = omega (arith, room, full, ap length k.queue, length-map items) in
    let ok : IsTrue (permitted waiting s Push) = (let t : nat_lt (length s.queue) waiting ≡ true = grind (arith, nat_tests) in t) in
    let same : length views ≡ length (set views p w) = sym (length-set views p w) in (
      w,
      record {
        events = k.events ++ Push ∷ [];
        pipe = pipe_after s Push;
        reached = subst (λ m. Leads waiting (opened m) (k.events ++ Push ∷ []) (pipe_after s Push)) same (leads-more waiting (opened (length views)) s k.events Push k.reached ok);
        queue = ap (λ q. q ++ s.pushed ∷ []) k.queue ∙ ap (λ j. indices items ++ j ∷ []) (sym (mine.count walks) ∙ sym next) ∙ sym (map-append (λ (y : ShardStart). y.index) items (x ∷ []));
        each = each-snoc due items x k.each is;
        workers = k.workers ∙ same;
        taken = λ y. omega (arith, k.taken y, sum-at (took y) views p v w at);
        parts = omega (arith, k.parts, sum-at part views p v w at);
        hands = hands-set (IsHandAt (s.pushed + 1)) views p w (record { first = mine.first; count = λ _. ap (λ m. m + 1) (mine.count walks); idle = mine.idle })
            (λ j u other e. let theirs = k.hands j u e in record { first = theirs.first; count = λ t. absurd (other (theirs.first t ∙ sym (mine.first walks))); idle = theirs.idle });
      },
      refl,
    )

pub takes : (due : ShardStart → Type 0) (waiting p : ℕ) (v : Hand) → 0 < v.parts → Pops (Kept due waiting) p v (λ x w. due x × (w ≡ took_one v x.index))
unfolding permitted pipe_after
takes due waiting p v held x items views k at =
    let w : Hand = took_one v x.index in
    let s : Pipe = k.pipe in
    let mine : IsHandAt s.pushed p v = k.hands p v at in
    let lt : p < length s.taken = omega (arith, there views p v at, k.workers) in
    let waits : 0 < length s.queue = omega (arith, ap length k.queue, length-map (x ∷ items)) in
    let ok : IsTrue (permitted waiting s (Take p)) = both (length s.queue) p (length s.taken) waits lt in
    let same : length views ≡ length (set views p w) = sym (length-set views p w) in
    let t : Pipe = record { pushed = s.pushed; queue = indices items; taken = take_for s.taken p x.index } in
    let is : pipe_after s (Take p) ≡ t = ap (front_taken s.pushed s.taken p) k.queue in
    let led : Leads waiting (opened (length views)) (k.events ++ Take p ∷ []) t = subst (Leads waiting (opened (length views)) (k.events ++ Take p ∷ [])) is (leads-more waiting (opened (length views)) s k.events (Take p) k.reached ok) in (
      w,
      record {
        events = k.events ++ Take p ∷ [];
        pipe = t;
        reached = subst (λ m. Leads waiting (opened m) (k.events ++ Take p ∷ []) t) same led;
        queue = refl;
        each = k.each.1;
        workers = length-take_for s.taken p x.index ∙ k.workers ∙ same;
        taken = λ y. omega (arith, k.taken y, sum-at (took y) views p v w at, sum_by_push (λ (z : ℕ). one (z == y)) v.taken x.index, taken-adds y x.index s.taken p lt);
        parts = omega (arith, k.parts, sum-at part views p v w at);
        hands = hands-set (IsHandAt s.pushed) views p w (record { first = mine.first; count = mine.count; idle = λ none. absurd (omega (arith, none, held)) })
            (λ j u other e. k.hands j u e);
      },
      (k.each.0, refl),
    )
  where
    both : (a p b : ℕ) → 0 < a → p < b → (nat_lt 0 a && nat_lt p b) ≡ true
    both a p b held lt = let l : nat_lt 0 a ≡ true = grind (arith, nat_tests) in let r : nat_lt p b ≡ true = grind (arith, nat_tests) in ap (λ c. c && nat_lt p b) l ∙ r

pub forks : (due : ShardStart → Type 0) (waiting p : ℕ) (v : Hand) → 1 < v.parts → Forks (Kept due waiting) p v (last_part v) (other_parts v)
forks due waiting p v held items views k at =
    let l : Hand = last_part v in
    let r : Hand = other_parts v in
    let vs : List Hand = set views p l in
    let s : Pipe = k.pipe in
    let mine : IsHandAt s.pushed p v = k.hands p v at in
    let longer : suc (length views) ≡ length (vs ++ r ∷ []) = ap suc (sym (length-set views p l)) ∙ sym (length-snoc vs r) in
    let old : Hands s.pushed vs = hands-set (IsHandAt s.pushed) views p l (record { first = mine.first; count = mine.count; idle = λ none. absurd (omega (arith, none)) }) (λ j u other e. k.hands j u e) in
    record {
      events = k.events;
      pipe = wider s;
      reached = subst (λ m. Leads waiting (opened m) k.events (wider s)) longer (one-more-worker waiting (length views) k.events s k.reached);
      queue = k.queue;
      each = k.each;
      workers = length-snoc s.taken [] ∙ ap suc k.workers ∙ longer;
      taken = λ y. omega (arith, k.taken y, sum-at (took y) views p v l at, sum_by_push (took y) vs r, sum_by_push (times y) s.taken []);
      parts = omega (arith, k.parts, sum-at part views p v l at, sum_by_push part vs r, held);
      hands = λ j u e. ⊎_elim (λ (x : get_elem? vs j ≡ some u). old j u x)
          (λ (is : r ≡ u). subst (IsHandAt s.pushed j) is (record { first = λ t. absurd (true≢false (sym t)); count = λ t. absurd (true≢false (sym t)); idle = λ _. refl })) (at_snoc vs r u j e);
    }

pub forks-whole : (due : ShardStart → Type 0) (waiting p : ℕ) (v : Hand) → v ≡ whole_hand → Forks (Kept due waiting) p v (last_part v) (other_parts v)
forks-whole due waiting p v is = forks due waiting p v (omega (arith, ap part is))

pub merges : (due : ShardStart → Type 0) (waiting p : ℕ) (v : Hand) (other : ℕ) (o : Hand) → Merges (Kept due waiting) p v other o (gathered v o) spent_hand
merges due waiting p v other o items views k at two at' =
    let b : Hand = gathered v o in
    let vs : List Hand = set views p b in
    let ws : List Hand = set vs other spent_hand in
    let s : Pipe = k.pipe in
    let mine : IsHandAt s.pushed p v = k.hands p v at in
    let was : get_elem? views other ≡ some o = ⊎_elim (λ (x : (other ≡ p) × (b ≡ o)). absurd (two x.0)) (λ (x : (other ≢ p) × (get_elem? views other ≡ some o)). x.1) (at_set views p other b o at') in
    let theirs : IsHandAt s.pushed other o = k.hands other o was in
    let same : length views ≡ length ws = sym (length-set views p b) ∙ sym (length-set vs other spent_hand) in
    let now : Hands s.pushed vs = hands-set (IsHandAt s.pushed) views p b (record { first = mine.first; count = mine.count; idle = λ none. none-of v o mine theirs none }) (λ j u apart e. k.hands j u e) in
    record {
      events = k.events;
      pipe = s;
      reached = subst (λ m. Leads waiting (opened m) k.events s) same k.reached;
      queue = k.queue;
      each = k.each;
      workers = k.workers ∙ same;
      taken = λ y. omega (arith, k.taken y, sum-at (took y) views p v b at, sum-at (took y) vs other o spent_hand at', sum_by-append (λ (z : ℕ). one (z == y)) v.taken o.taken);
      parts = omega (arith, k.parts, sum-at part views p v b at, sum-at part vs other o spent_hand at');
      hands = hands-set (IsHandAt s.pushed) vs other spent_hand (record { first = λ t. absurd (true≢false (sym t)); count = λ t. absurd (true≢false (sym t)); idle = λ _. refl }) (λ j u apart e. now j u e);
    }
  where
    none-of : {m i j : ℕ} (v o : Hand) → IsHandAt m i v → IsHandAt m j o → v.parts + o.parts ≡ 0 → v.taken ++ o.taken ≡ []
    none-of v o a b none = ap (λ ts. ts ++ o.taken) (a.idle (omega (arith, none))) ∙ b.idle (omega (arith, none))

-- ---- what is learned

none-took : (x : ℕ) (vs : List Hand) → ((j : ℕ) (u : Hand) → get_elem? vs j ≡ some u → u.parts ≡ 0 → u.taken ≡ []) → sum_by part vs ≡ 0 → sum_by (took x) vs ≡ 0
none-took x [] idle none = refl
none-took x (v ∷ vs) idle none =
    let rest : sum_by part vs ≡ 0 = omega (arith, none, sum_by-cons part v vs) in
    let mine : v.parts ≡ 0 = omega (arith, none, sum_by-cons part v vs) in
    let empty : times x v.taken ≡ 0 = ap (times x) (idle 0 v refl mine) in
    omega (arith, sum_by-cons (took x) v vs, empty, none-took x vs (λ j. idle (suc j)) rest)

-- the walk's pass with all parts knows what every pass took
pub accounts : (due : ShardStart → Type 0) (waiting p : ℕ) (v : Hand) → v.walks ≡ true → v.parts ≡ WORKERS_LIMIT → Learns (Kept due waiting) p v (IsAccounted v)
accounts due waiting p v walks whole items views k at x =
    let s : Pipe = k.pipe in
    let law : IsEachOnce waiting s = each-once waiting (length views) k.events s k.reached in
    let vs : List Hand = set views p spent_hand in
    let idle : (j : ℕ) (u : Hand) → get_elem? vs j ≡ some u → u.parts ≡ 0 → u.taken ≡ [] = hands-set (λ (j : ℕ) (u : Hand). u.parts ≡ 0 → u.taken ≡ []) views p spent_hand (λ _. refl) (λ j u other e. (k.hands j u e).idle) in
    let none : sum_by part vs ≡ 0 = omega (arith, k.parts, whole, sum-at part views p v spent_hand at) in
    let alone : sum_by (took x) views ≡ times x v.taken = omega (arith, sum-at (took x) views p v spent_hand at, none-took x vs idle none) in
    let mine : v.pushed ≡ s.pushed = (k.hands p v at).count walks in
    let first : times x s.queue ≡ times x (indices items) = ap (times x) k.queue in
    let last : one (nat_lt x v.pushed) ≡ one (nat_lt x s.pushed) = ap (λ m. one (nat_lt x m)) mine in
    omega (arith, first, last, alone, k.taken x, law.once x)

-- at an empty queue every start that was pushed was taken
pub settled : (v : Hand) → Held 0 (IsAccounted v) → (x : ℕ) → times x v.taken ≡ one (nat_lt x v.pushed)
settled v h x = by h.0 h.1 (h.2 x)
  where
    by : (items : List ShardStart) → length items ≡ 0 → times x (indices items) + times x v.taken ≡ one (nat_lt x v.pushed) → times x v.taken ≡ one (nat_lt x v.pushed)
    by [] e k = let none : times x (indices []) ≡ 0 = refl in omega (arith, k, none)
    by (s ∷ ss) e k = absurd (omega (arith, e))
