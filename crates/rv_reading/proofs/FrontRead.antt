-- A file is judged by its header and output, and then by what the machine reads.
use Rattle.std.proofs.Common.{◌≡◌, ℕ, ◌+◌, ◌≤◌, Bool, true, ◌==◌, ◌&&◌, ◌||◌, nat_le, bytes_eq, List, [], ◌∷◌, ◌++◌, length, take, drop, Err, refl, sym, ap, subst, ◌∙◌, arith}
use Rattle.std.specs.Int.{div_ceil, is_in_range}
use Rattle.std.proofs.lemmas.Bool.{le-leb}
use Rattle.std.proofs.lemmas.List.{length-append, length-drop, drop-append-le, take-append-le, take_at, drop_at}
use Rattle.sha2.specs.Sha512.{sha512}
use Rattle.rv_base.specs.declared.record.Header.{Header}
use Rattle.rv_base.specs.declared.record.Refusal.{Refusal}
use Rattle.rv_spec.specs.Digest.{Lanes}
use Rattle.rv_spec.specs.Record.{magic}
use Rattle.rv_rules.specs.Checks.{Check, first_broken, unless_broken, ◌>>=◌}
use Rattle.rv_rules.specs.Reading.{header_of, header_checks, when_complete}
use Rattle.rv_reading.specs.Stream.{State, reads}
use Rattle.rv_reading.specs.Machine.{Phase, step, first_phase, opened, told}
use Rattle.rv_reading.specs.Judging.{IsFront, FrontIsJudged, VerdictBehindFront, RefusedAtFront, FrontStaysRefused}
use Rattle.rv_reading.proofs.CheckLists.{refused-by-err, Keeps, Keeps-append, Keeps-room, Keeps-refusal, Passed, Passed-first_broken, Passed-room, Passed-append}
use Rattle.rv_reading.proofs.Fronts.{header-front}
use Rattle.rv_reading.proofs.Binding.{checks-bind, checks-refuse}
use Rattle.rv_reading.proofs.FileRead.{verdict-is-told}

module _ (complete : Bool) (lanes : Lanes) (elf input : List ℕ) where
  -- the checks of a header but those of rule 1
  abbrev middle : Header → List ℕ → List Check
  middle h first =
      (2, bytes_eq first (magic h.version))
      ∷ (3, when_complete complete lanes elf input (bytes_eq h.elf (sha512 elf)))
      ∷ (4, when_complete complete lanes elf input (bytes_eq h.input (sha512 input)))
      ∷ (5, is_in_range 1 65536 h.size)
      ∷ (6, nat_le 1 h.steps && h.shards == div_ceil h.steps h.size && nat_le h.shards 65536)
      ∷ (7, nat_le h.end.kind 5 && (h.end.kind == 0 || h.end.code == 0))
      ∷ (8, nat_le h.length 67108864)
      ∷ []

  room-same : (n m : ℕ) (xs ys : List ℕ) → n ≤ length xs → m ≡ n → nat_le m (length (xs ++ ys)) ≡ nat_le n (length xs)
  room-same n m xs ys le is = le-leb m (length (xs ++ ys)) (omega (arith, le, is, length-append xs ys)) ∙ sym (le-leb n (length xs) le)

  checks-front : (xs ys : List ℕ) → 173 + (header_of xs).length ≤ length xs → header_checks complete lanes elf input (xs ++ ys) ≡ header_checks complete lanes elf input xs
  checks-front xs ys le =
      let h = header-front xs ys (omega (arith, le)) in
      let first = take-append-le 8 xs ys (omega (arith, le)) in
      let fixed = room-same 173 173 xs ys (omega (arith, le)) refl in
      let whole = room-same (173 + (header_of xs).length) (173 + (header_of (xs ++ ys)).length) xs ys le (ap (λ (z : Header). 173 + z.length) h) in
      λ t. (1, fixed t) ∷ middle (h t) (first t) ++ (1, whole t) ∷ []

  keeps-header : (xs ys : List ℕ) → Keeps (header_checks complete lanes elf input xs) (header_checks complete lanes elf input (xs ++ ys))
  keeps-header xs ys =
      let last : Header → List ℕ → List Check = λ h zs. (1, nat_le (173 + h.length) (length zs)) ∷ [] in
      let rest : List ℕ → List Check = λ zs. middle (header_of zs) (take 8 zs) ++ last (header_of zs) zs in
      Keeps-room 173 173 xs ys (rest xs) (rest (xs ++ ys)) refl (λ le.
      let h = header-front xs ys le in
      let first = take-append-le 8 xs ys (omega (arith, le)) in
      let mid : middle (header_of xs) (take 8 xs) ≡ middle (header_of (xs ++ ys)) (take 8 (xs ++ ys)) = λ t. middle (sym h t) (sym first t) in
      subst (λ (ms : List Check). Keeps (rest xs) (ms ++ last (header_of (xs ++ ys)) (xs ++ ys))) mid
      (Keeps-append (middle (header_of xs) (take 8 xs)) (last (header_of xs) xs) (last (header_of (xs ++ ys)) (xs ++ ys))
      (Keeps-room (173 + (header_of xs).length) (173 + (header_of (xs ++ ys)).length) xs ys [] [] (ap (λ (z : Header). 173 + z.length) (sym h)) (λ _. tt))))

  -- a front has bytes enough for its header and output
  passed-header : (front : List ℕ) → IsFront front → Passed (header_checks complete lanes elf input front)
  passed-header front size =
      let h = header_of front in
      let last : List Check = (1, nat_le (173 + h.length) (length front)) ∷ [] in
      Passed-room 173 front (middle h (take 8 front) ++ last) (omega (arith, size))
      (Passed-append (middle h (take 8 front)) last refl (Passed-room (173 + h.length) front [] (omega (arith, size)) tt))

  pub front-has-room : (front : List ℕ) (r : Refusal) → IsFront front → opened complete lanes elf input front ≡ Err r → ¬ (r.rule ≡ 1)
  front-has-room front r size e one =
      let checks = header_checks complete lanes elf input front in
      let o = refused-by-err 0 0 (first_broken checks) (first_phase complete lanes elf input (header_of front), []) r e in
      Passed-first_broken checks o.0 (passed-header front size) o.1 (ap (λ (z : Refusal). z.rule) o.2 ∙ one)

-- Header and output in front, and then any bytes.
pub front-is-judged : FrontIsJudged
front-is-judged complete lanes elf input front bytes size =
    let h = header-front front bytes (omega (arith, size)) in
    let output = drop 173 front in
    let behind : drop 173 (front ++ bytes) ≡ output ++ bytes = drop-append-le 173 front bytes (omega (arith, size)) in
    let n = (header_of (front ++ bytes)).length in
    let long : length output ≡ n = omega (arith, size, length-drop 173 front, ap (λ (z : Header). z.length) h) in
    let taken : take n (drop 173 (front ++ bytes)) ≡ output = ap (λ (z : List ℕ). take n z) behind ∙ take_at output bytes n long in
    let left : drop n (drop 173 (front ++ bytes)) ≡ bytes = ap (λ (z : List ℕ). drop n z) behind ∙ drop_at output bytes n long in
    let go : Header → List ℕ → List ℕ → State Phase = λ g out rest. reads (step complete lanes elf input g out) (first_phase complete lanes elf input g) rest in
    ap (λ cs. unless_broken 0 0 cs (drop 173 (front ++ bytes)) >>= λ z. go (header_of (front ++ bytes)) (take n z) (drop n z)) (checks-front complete lanes elf input front bytes (omega (arith, size)))
    ∙ checks-bind 0 0 (header_checks complete lanes elf input front) (drop 173 (front ++ bytes)) (first_phase complete lanes elf input (header_of front), [])
    (λ z. go (header_of (front ++ bytes)) (take n z) (drop n z)) (λ x. reads (step complete lanes elf input (header_of front) output) x.0 (x.1 ++ bytes)) (λ t. go (h t) (taken t) (left t))

-- The verdict on a file that begins with this header and output.
pub verdict-behind-front : VerdictBehindFront
verdict-behind-front lanes elf input front bytes size =
    let long : IsFront front = size in
    verdict-is-told lanes elf input (front ++ bytes)
    ∙ (λ t. told (header-front front bytes (let le : 173 ≤ length front = omega (arith, size) in le) t) (front-is-judged true lanes elf input front bytes long t))

-- A file whose header or output is refused is refused so.
pub refused-at-front : RefusedAtFront
refused-at-front complete lanes elf input file r refused =
    let h = header_of file in
    checks-refuse 0 0 (header_checks complete lanes elf input file) (first_phase complete lanes elf input h, []) (drop 173 file)
    (λ z. reads (step complete lanes elf input h (take h.length z)) (first_phase complete lanes elf input h) (drop h.length z)) r refused

-- A front that is refused by another rule than 1 is refused so, whatever follows.
pub front-stays-refused : FrontStaysRefused
front-stays-refused complete lanes elf input front bytes r refused not =
    let file = front ++ bytes in
    refused-at-front complete lanes elf input file r
    (Keeps-refusal 0 0 (header_checks complete lanes elf input front) (header_checks complete lanes elf input file)
    (first_phase complete lanes elf input (header_of front), []) (first_phase complete lanes elf input (header_of file), []) r (keeps-header complete lanes elf input front bytes) refused not)
