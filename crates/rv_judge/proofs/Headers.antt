-- The header in front of a file, and the checks of it.
use Rattle.std.proofs.Common.{◌≡◌, ◌∙◌, ◌⊎◌, ℕ, ◌+◌, ◌≤◌, Bool, true, false, cond, not, ◌==◌, ◌&&◌, ◌||◌, nat_le, bytes_eq, List, [], ◌∷◌, ◌++◌, length, take, drop, get_or, Option, Some, None, Ok, Err, refl, sym, ap, inl, inr, arith, subst}
use Rattle.std.specs.Int.{is_in_range, div_ceil}
use Rattle.std.proofs.lemmas.Bool.{leb-true, le-leb, eqb-true, and_parts, cases_lt}
use Rattle.std.proofs.lemmas.List.{append-nil, length-take-le, take-take}
use Rattle.sha2.specs.Sha512.{sha512}
use Rattle.rv_base.specs.declared.record.Header.{Header}
use Rattle.rv_base.specs.declared.record.Refusal.{Refusal}
use Rattle.rv_base.specs.declared.record.Verdict.TheVariants.{Refuse}
use Rattle.rv_spec.specs.Digest.{Lanes}
use Rattle.rv_spec.specs.Record.{magic}
use Rattle.rv_rules.specs.Checks.{Check, first_broken, refused_by, unless_broken, ◌>>=◌}
use Rattle.rv_rules.specs.Reading.{header_of, header_checks, number_checks, when_complete}
use Rattle.rv_rules.specs.Verdict.{verdict}
use Rattle.rv_file.specs.Front.{front_length, is_record}
use Rattle.rv_file.proofs.Lemmas.{unless-ok}
use Rattle.rv_reading.specs.Stream.{State, reads}
use Rattle.rv_reading.specs.Machine as machine
use Rattle.rv_reading.specs.Machine.{told, opened, first_phase}
use Rattle.rv_reading.specs.Judging.{IsFront}
use Rattle.rv_reading.proofs.Lemmas.{verdict-is-told, verdict-behind-front, front-stays-refused}
use Rattle.rv_judge.specs.Subject.{Subject, IsChecked, IsWithin, step}
use Rattle.rv_judge.specs.Held.{IsWholeFront}
use Rattle.rv_judge.proofs.Fronts.{header-taken}

-- ---- lists of checks

holds-first : (rule : ℕ) (b : Bool) (cs : List Check) → first_broken ((rule, b) ∷ cs) ≡ None → (b ≡ true) × (first_broken cs ≡ None)
holds-first rule true cs e = (refl, e)
holds-first rule false cs e = absurd cc

holds-both : (cs ds : List Check) → first_broken (cs ++ ds) ≡ None → (first_broken cs ≡ None) × (first_broken ds ≡ None)
holds-both [] ds e = (refl, e)
holds-both ((rule, true) ∷ cs) ds e = holds-both cs ds e
holds-both ((rule, false) ∷ cs) ds e = absurd cc

-- none is of rule 1
abbrev are_others : List Check → Bool
are_others [] = true
are_others (c ∷ cs) = not (c.0 == 1) && are_others cs

-- a refusal by rule 1 comes from behind them
behind-others : (cs ds : List Check) → are_others cs ≡ true → first_broken (cs ++ ds) ≡ Some 1 → (first_broken cs ≡ None) × (first_broken ds ≡ Some 1)
behind-others [] ds e f = (refl, f)
behind-others ((rule, true) ∷ cs) ds e f = behind-others cs ds (and_parts (not (rule == 1)) (are_others cs) e).1 f
behind-others ((rule, false) ∷ cs) ds e f =
    let one : rule ≡ 1 = cc in
    let bad = ap (λ n. not (n == 1)) (sym one) ∙ (and_parts (not (rule == 1)) (are_others cs) e).0 in
    absurd cc

-- ---- numbers

abbrev size_is : Header → Bool
size_is h = is_in_range 1 65536 h.size

abbrev counts_are : Header → Bool
counts_are h = nat_le 1 h.steps && h.shards == div_ceil h.steps h.size && nat_le h.shards 65536

abbrev kind_is : Header → Bool
kind_is h = nat_le h.end.kind 5 && (h.end.kind == 0 || h.end.code == 0)

abbrev length_is : Header → Bool
length_is h = nat_le h.length 67108864

abbrev from_7 : Header → List Check
from_7 h = (7, kind_is h) ∷ (8, length_is h) ∷ []

abbrev from_6 : Header → List Check
from_6 h = (6, counts_are h) ∷ from_7 h

record NumbersHold (h : Header) : Type 0 where
  size : size_is h ≡ true
  counts : counts_are h ≡ true
  kind : kind_is h ≡ true
  long : length_is h ≡ true

numbers-hold : (h : Header) → first_broken (number_checks h) ≡ None → NumbersHold h
numbers-hold h e =
    let five = holds-first 5 (size_is h) (from_6 h) e in
    let six = holds-first 6 (counts_are h) (from_7 h) five.1 in
    let seven = holds-first 7 (kind_is h) ((8, length_is h) ∷ []) six.1 in
    let eight = holds-first 8 (length_is h) [] seven.1 in
    record { size = five.0; counts = six.0; kind = seven.0; long = eight.0 }

pub within-of : (h : Header) → (h.version ≡ 1) ⊎ (h.version ≡ 2) → first_broken (number_checks h) ≡ None → IsWithin h
within-of h version e =
    let is = numbers-hold h e in
    let range = and_parts (nat_le 1 h.size) (nat_le h.size 65536) is.size in
    let shards = and_parts (nat_le 1 h.steps && h.shards == div_ceil h.steps h.size) (nat_le h.shards 65536) is.counts in
    record { version = version; some_rows = leb-true 1 h.size range.0; rows = leb-true h.size 65536 range.1; shards = leb-true h.shards 65536 shards.1 }

pub shards-counted : (h : Header) → first_broken (number_checks h) ≡ None → h.shards ≡ div_ceil h.steps h.size
shards-counted h e =
    let shards = and_parts (nat_le 1 h.steps && h.shards == div_ceil h.steps h.size) (nat_le h.shards 65536) (numbers-hold h e).counts in
    eqb-true h.shards (div_ceil h.steps h.size) (and_parts (nat_le 1 h.steps) (h.shards == div_ceil h.steps h.size) shards.0).1

output-within : (h : Header) → first_broken (number_checks h) ≡ None → nat_le h.length 67108864 ≡ true
output-within h e = (numbers-hold h e).long

pub checked-within : (h : Header) → IsChecked h → IsWithin h
checked-within h is = within-of h (elim (cases_lt h.version 2) [ inl lt ↦ inl (omega (arith, lt, is.version)) | inr le ↦ inr (omega (arith, le, is.version)) ]) is.numbers

one-or-two : (b : Bool) (n : ℕ) → n ≡ cond b 2 1 → (n ≡ 1) ⊎ (n ≡ 2)
one-or-two true n e = inr e
one-or-two false n e = inl e

pub version-of : (file : List ℕ) → ((header_of file).version ≡ 1) ⊎ ((header_of file).version ≡ 2)
version-of file = one-or-two (get_or file 7 0 == 0x32) (header_of file).version refl

-- ---- the checks of a header

module _ (lanes : Lanes) (elf input file : List ℕ) where
  abbrev h : Header
  h = header_of file

  abbrev right : Bool
  right = bytes_eq (take 8 file) (magic h.version)

  abbrev program_is : Bool
  program_is = when_complete true lanes elf input (bytes_eq h.elf (sha512 elf))

  abbrev input_is : Bool
  input_is = when_complete true lanes elf input (bytes_eq h.input (sha512 input))

  abbrev from_4 : List Check
  from_4 = (4, input_is) ∷ number_checks h

  abbrev from_3 : List Check
  from_3 = (3, program_is) ∷ from_4

  abbrev middle : List Check
  middle = (2, right) ∷ from_3

  record MiddleHolds : Type 0 where
    is_right : right ≡ true
    numbers : first_broken (number_checks h) ≡ None

  middle-holds : first_broken middle ≡ None → MiddleHolds
  middle-holds e =
      let two = holds-first 2 right from_3 e in
      let three = holds-first 3 program_is from_4 two.1 in
      let four = holds-first 4 input_is (number_checks h) three.1 in
      record { is_right = two.0; numbers = four.1 }

  abbrev all_there : Bool
  all_there = nat_le (173 + h.length) (length file)

  pub record HasHeader : Type 0 where
    pub long : 173 ≤ length file
    pub is_right : right ≡ true
    pub numbers : first_broken (number_checks h) ≡ None
    pub room : 173 + h.length ≤ length file

  pub has-header : first_broken (header_checks true lanes elf input file) ≡ None → HasHeader
  has-header e =
      let long = holds-first 1 (nat_le 173 (length file)) (middle ++ (1, all_there) ∷ []) e in
      let parts = holds-both middle ((1, all_there) ∷ []) long.1 in
      let mid = middle-holds parts.0 in
      record {
        long = leb-true 173 (length file) long.0;
        is_right = mid.is_right;
        numbers = mid.numbers;
        room = leb-true (173 + h.length) (length file) (holds-first 1 all_there [] parts.1).0;
      }

  pub header-within : first_broken (header_checks true lanes elf input file) ≡ None → IsWithin h
  header-within e = within-of h (version-of file) (has-header e).numbers

  -- ---- header and output, as the header tells how long they are

  record-is : right ≡ true → is_record file ≡ true
  record-is e = go (get_or file 7 0 == 0x32) e
    where
      go : (b : Bool) → bytes_eq (take 8 file) (magic (cond b 2 1)) ≡ true → is_record file ≡ true
      go true f = ap (λ b. bytes_eq (take 8 file) (magic 1) || b) f ∙ or-true (bytes_eq (take 8 file) (magic 1))
        where
          or-true : (b : Bool) → (b || true) ≡ true
          or-true true = refl
          or-true false = refl
      go false f = ap (λ b. b || bytes_eq (take 8 file) (magic 2)) f

  front-is : right ≡ true → first_broken (number_checks h) ≡ None → IsWholeFront file → IsFront file
  front-is e numbers whole =
      let eight : take 8 (take 173 file) ≡ take 8 file = take-take 8 173 file (omega arith) in
      let known : is_record (take 173 file) ≡ true = ap (λ (z : List ℕ). bytes_eq z (magic 1) || bytes_eq z (magic 2)) eight ∙ record-is e in
      whole.1
      ∙ ap (λ (k : Header). cond (is_record (take 173 file) && nat_le k.length 67108864) (173 + k.length) 173) (header-taken file whole.0)
      ∙ (λ i. cond (known i && output-within h numbers i) (173 + h.length) 173)

  not-short : IsWholeFront file → (rule : ℕ) → first_broken (header_checks true lanes elf input file) ≡ Some rule → ¬ (rule ≡ 1)
  not-short whole rule e one =
      let long = ap (λ b. first_broken ((1, b) ∷ (middle ++ (1, all_there) ∷ []))) (sym (le-leb 173 (length file) whole.0)) ∙ e ∙ ap (λ n. Some n) one in
      let parts = behind-others middle ((1, all_there) ∷ []) refl long in
      let mid = middle-holds parts.0 in
      let size = front-is mid.is_right mid.numbers whole in
      let there : all_there ≡ true = le-leb (173 + h.length) (length file) (omega (arith, size)) in
      let none = ap (λ b. first_broken ((1, b) ∷ [])) (sym there) ∙ parts.1 in
      absurd cc

  -- what is refused of a header
  refusal-of : {A : Type 0} (o : Option ℕ) (x : Header) (y : A) (r : Refusal) → refused_by 0 0 o x ≡ Err r → (rule : ℕ) × (o ≡ Some rule) × (rule ≡ r.rule) × (refused_by 0 0 o y ≡ Err r)
  refusal-of None x y r e = absurd cc
  refusal-of (Some rule) x y r e = let same : record { shard = 0; row = 0; rule = rule } ≡ r = cc in (rule, refl, ap (λ (z : Refusal). z.rule) same, ap (λ (z : Refusal). Err z) same)

  pub front-not-short : IsWholeFront file → (r : Refusal) → unless_broken 0 0 (header_checks true lanes elf input file) h ≡ Err r → ¬ (r.rule ≡ 1)
  front-not-short whole r e one =
      let found = refusal-of (first_broken (header_checks true lanes elf input file)) h h r e in
      not-short whole found.0 found.1 (found.2 ∙ one)

  pub front-refuses : IsWholeFront file → (r : Refusal) → unless_broken 0 0 (header_checks true lanes elf input file) h ≡ Err r → (rest : List ℕ) → Refuse r ≡ verdict lanes elf input (file ++ rest)
  front-refuses whole r e rest =
      let found = refusal-of (first_broken (header_checks true lanes elf input file)) h (first_phase true lanes elf input h, nothing) r e in
      sym (verdict-is-told lanes elf input (file ++ rest) ∙ ap (told (header_of (file ++ rest))) (front-stays-refused true lanes elf input file rest r found.3 (front-not-short whole r e)))
    where
      nothing : List ℕ
      nothing = []

  -- a whole file whose header is refused
  pub file-refuses : (r : Refusal) → unless_broken 0 0 (header_checks true lanes elf input file) h ≡ Err r → Refuse r ≡ verdict lanes elf input file
  file-refuses r e =
      let found = refusal-of (first_broken (header_checks true lanes elf input file)) h (drop 173 file) r e in
      sym (verdict-is-told lanes elf input file ∙ ap (λ z. told h (z >>= λ behind. reads (machine.step true lanes elf input h (take h.length behind)) (first_phase true lanes elf input h) (drop h.length behind))) found.3)

  module _ (k : Header) (output : List ℕ) (p : machine.Phase) (e : unless_broken 0 0 (header_checks true lanes elf input file) h ≡ Ok k) (begun : p ≡ first_phase true lanes elf input k) where
    none-broken : first_broken (header_checks true lanes elf input file) ≡ None
    none-broken = (unless-ok 0 0 (header_checks true lanes elf input file) h k e).0

    is-header : h ≡ k
    is-header = (unless-ok 0 0 (header_checks true lanes elf input file) h k e).1

    abbrev reading : Header → List ℕ → machine.Phase → List ℕ → State machine.Phase
    reading x out q bytes = reads (machine.step true lanes elf input x out) q bytes

    pub front-goes : IsWholeFront file → output ≡ drop 173 file → (rest : List ℕ) → told k (reading k output p ([] ++ rest)) ≡ verdict lanes elf input (file ++ rest)
    front-goes whole out rest =
        let has = has-header none-broken in
        let front = front-is has.is_right has.numbers whole in
        let start : State machine.Phase = Ok (first_phase true lanes elf input h, []) in
        let opens : opened true lanes elf input file ≡ start = ap (λ o. refused_by 0 0 o (first_phase true lanes elf input h, [])) none-broken in
        (λ i. told k (reading k (out i) (begun i) ([] ++ rest)))
        ∙ ap (λ (x : Header). told x (reading x (drop 173 file) (first_phase true lanes elf input x) ([] ++ rest))) (sym is-header)
        ∙ sym (verdict-behind-front lanes elf input file rest front ∙ ap (λ (s : State machine.Phase). told h (s >>= λ x. reading h (drop 173 file) x.0 (x.1 ++ rest))) opens)

    pub file-goes : output ≡ take k.length (drop 173 file) → told k (reading k output p (drop k.length (drop 173 file))) ≡ verdict lanes elf input file
    file-goes out =
        sym (verdict-is-told lanes elf input file
        ∙ ap (λ o. told h (refused_by 0 0 o (drop 173 file) >>= λ behind. reading h (take h.length behind) (first_phase true lanes elf input h) (drop h.length behind))) none-broken
        ∙ ap (λ (x : Header). told x (reading x (take x.length (drop 173 file)) (first_phase true lanes elf input x) (drop x.length (drop 173 file)))) is-header
        ∙ (λ i. told k (reading k (sym out i) (sym begun i) (drop k.length (drop 173 file)))))

-- ---- as the code has them

-- a file that begins with its front
pub opened-comes : (lanes : Lanes) (elf input front : List ℕ) (k : Header) (output : List ℕ) (s : Subject) (p : machine.Phase) (held : List ℕ) → IsWholeFront front
    → unless_broken 0 0 (header_checks true lanes elf input front) (header_of front) ≡ Ok k → output ≡ drop 173 front → s ≡ record { elf = elf; input = input; header = k; output = output }
    → p ≡ first_phase true lanes s.elf s.input s.header → held ≡ []
    → (rest : List ℕ) → told s.header (reads (step lanes s) p (held ++ rest)) ≡ verdict lanes elf input (front ++ rest)
opened-comes lanes elf input front k output s p held whole e out is begun none rest =
    (λ i. told (is i).header (reads (step lanes (is i)) p (none i ++ rest)))
    ∙ front-goes lanes elf input front k output p e (begun ∙ ap (λ (z : Subject). first_phase true lanes z.elf z.input z.header) is) whole out rest

-- a whole file
pub whole-comes : (lanes : Lanes) (elf input file : List ℕ) (k : Header) (output shards : List ℕ) (s : Subject) (p : machine.Phase)
    → unless_broken 0 0 (header_checks true lanes elf input file) (header_of file) ≡ Ok k → output ≡ take k.length (drop 173 file) → shards ≡ drop k.length (drop 173 file)
    → s ≡ record { elf = elf; input = input; header = k; output = output } → p ≡ first_phase true lanes s.elf s.input s.header
    → told k (reads (step lanes s) p (shards ++ [])) ≡ verdict lanes elf input file
whole-comes lanes elf input file k output shards s p e out rest is begun =
    (λ i. told k (reads (step lanes (is i)) p (append-nil shards i)))
    ∙ ap (λ (z : List ℕ). told k (reads (step lanes (record { elf = elf; input = input; header = k; output = output })) p z)) rest
    ∙ file-goes lanes elf input file k output p e (begun ∙ ap (λ (z : Subject). first_phase true lanes z.elf z.input z.header) is) out

-- ---- for callers

-- A header that the checks of a front gave is of a known version, and its numbers break no rule.
pub header-checked : (lanes : Lanes) (elf input file : List ℕ) (k : Header) → unless_broken 0 0 (header_checks true lanes elf input file) (header_of file) ≡ Ok k → IsChecked k
header-checked lanes elf input file k e =
    let read = unless-ok 0 0 (header_checks true lanes elf input file) (header_of file) k e in
    let is : IsChecked (header_of file) = record {
      version = elim (version-of file) [ inl one ↦ (omega (arith, one), omega (arith, one)) | inr two ↦ (omega (arith, two), omega (arith, two)) ];
      numbers = (has-header lanes elf input file read.0).numbers;
    } in
    subst (λ (z : Header). IsChecked z) read.1 is

at-least : (b : Bool) (n : ℕ) → 173 ≤ cond b (173 + n) 173
at-least true n = omega arith
at-least false n = omega arith

-- The first bytes of a file, as many as its header tells, are its front.
pub whole-front : (file first : List ℕ) (n : ℕ) → first ≡ take 173 file → n ≡ front_length first → n ≤ length file → IsWholeFront (take n file)
whole-front file first n is size within =
    let least : 173 ≤ n = subst (λ (k : ℕ). 173 ≤ k) (sym size) (at-least (is_record first && nat_le (header_of first).length 67108864) (header_of first).length) in
    let long : length (take n file) ≡ n = length-take-le n file within in
    (omega (arith, long, least), long ∙ size ∙ ap front_length (is ∙ sym (take-take 173 n file least)))
