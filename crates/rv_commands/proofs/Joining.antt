-- What join does, as its plan says, and what its success says.
use Rattle.std.proofs.Common.{◌≡◌, ◌≤◌, ◌<◌, ℕ, zero, suc, ◌+◌, ◌-◌, Bool, true, false, not, ◌&&◌, ◌||◌, ◌==◌, nat_le, bytes_eq, List, [], ◌∷◌, ◌++◌, length, map, take, drop, Option, Some, None, Ok, Err, Result, IfOk, MatchOption, MatchResult, refl, sym, ap, subst, ◌∙◌, append_assoc, append-nil, length-append, arith, if◌then◌else◌}
use Rattle.std.specs.Borrow.{Bor}
use Rattle.std.specs.List.{concat}
use Rattle.std.proofs.lemmas.Bool.{and_parts, eq-eqb, eqb-false, eqb-true, false_from_ne_true, le-leb, leb-true}
use Rattle.std.proofs.lemmas.List.{length-drop, length-map, length-take-le, map-append, take-append-drop}
use Rattle.rv_base.specs.declared.layout.TheConstants.{HEADER_BYTES}
use Rattle.rv_base.specs.declared.limits.TheConstants.{RECORD_LIMIT}
use Rattle.rv_base.specs.declared.record.Header.{Header}
use Rattle.rv_base.specs.declared.record.Refusal.{Refusal}
use Rattle.rv_base.specs.declared.record.Verdict.{Verdict}
use Rattle.rv_base.specs.declared.record.Verdict.TheVariants.{Refuse}
use Rattle.rv_spec.specs.Digest.{sha_lanes}
use Rattle.rv_spec.specs.Elf.{first_fault}
use Rattle.rv_spec.specs.Words.{AreBytes}
use Rattle.rv_rules.proofs.Lemmas.{append-bytes}
use Rattle.rv_rules.specs.Checks.{unless_broken}
use Rattle.rv_rules.specs.Reading.{header_checks, header_of}
use Rattle.rv_rules.specs.Verdict.{verdict}
use Rattle.rv_file.specs.Front.{front_length, is_record}
use Rattle.rv_file.proofs.Lemmas.{unless-ok}
use Rattle.rv_reading.specs.Judging.{IsFront}
use Rattle.rv_judge.specs.Subject.{IsChecked}
use Rattle.rv_judge.specs.Held.{IsWholeFront}
use Rattle.rv_judge.specs.Conclusions.{IsSound, VerdictsAreSound}
use Rattle.rv_judge.proofs.Lemmas.{header-checked, whole-front, header-taken}
use Rattle.rv_host.specs.Files.{Files}
use Rattle.rv_host.specs.Views.{ShelfView}
use Rattle.rv_parts.specs.declared.heads.PartHead.{PartHead}
use Rattle.rv_parts.specs.declared.heads.TheConstants.{PART_HEAD_BYTES}
use Rattle.rv_parts.specs.declared.summaries.Summary.{Summary}
use Rattle.rv_parts.specs.Alone.{subject_of}
use Rattle.rv_parts.specs.Combining.{combined}
use Rattle.rv_parts.specs.Cutting.{whole}
use Rattle.rv_parts.specs.Heads.{head_in}
use Rattle.rv_parts.specs.Joining.{AreFaultless, Part as PartRead, SummariesTellVerdict, behind_front}
use Rattle.rv_parts.specs.Summaries.{Summarizes, is_cut, is_last}
use Rattle.rv_plan.specs.Plan.{Plan, answer, refuses}
use Rattle.rv_plan.specs.Endings.{IsContents}
use Rattle.rv_plan.specs.FileCalls.{IsUnchanged, Loads, Performs, PerformsBehind, ReadsWithin}
use Rattle.rv_plan.specs.declared.faults.Fault.{Fault}
use Rattle.rv_plan.specs.declared.faults.Fault.TheVariants as fault
use Rattle.rv_plan.specs.declared.faults.PartFault.{PartFault}
use Rattle.rv_plan.specs.declared.faults.PartFault.TheVariants as part
use Rattle.rv_plan.specs.declared.faults.Limited.TheVariants as limited
use Rattle.rv_plan.specs.declared.loading.Loaded.{Loaded}
use Rattle.rv_plan.specs.declared.told.Told.{Told}
use Rattle.rv_plan.proofs.Lemmas.{performs-behind, performs-loaded, performs-read, read-stops}
use Rattle.rv_commands.specs.CommandLine.{JoinWords, join}
use Rattle.rv_commands.specs.Headline.{AreParts, JoinedParts}
use Rattle.rv_commands.specs.Joining.{AddsFile, AddsPart, BeginsParts, IsJoined, IsJoining, JoinsParts, ReadsFirst, ReadsPart, opened_of, part_of}
use Rattle.rv_commands.specs.Judging.{TellsOutcome}
use Rattle.rv_commands.specs.Lines.{refused_line}
use Rattle.rv_commands.specs.Outcome.{all_parts, behind_first, denies, parts_from, plan_of, told_verdict, unless_fault, unless_refused}
use Rattle.rv_commands.specs.Parts.{Joined, Opened, added, added_behind, begun, follows, front_in, is_head_of, opened, opened_behind, opened_with, part_name, whole_of, with_part}
use Rattle.rv_commands.specs.declared.join.First.{First}
use Rattle.rv_commands.specs.declared.join.First.TheVariants.{Checked, Refused}
use Rattle.rv_commands.specs.declared.join.Joining.{Joining}
use Rattle.rv_commands.specs.declared.join.OpenedPart.{OpenedPart}
use Rattle.rv_commands.proofs.Checking.{answered, sound-of, verdict-writes}

-- ---- lists

concat-more : (xs : List (List ℕ)) (y : List ℕ) → concat (xs ++ y ∷ []) ≡ concat xs ++ y
concat-more [] y = append-nil y
concat-more (x ∷ xs) y = ap (λ ys. x ++ ys) (concat-more xs y) ∙ sym (append_assoc x (concat xs) y)

bodies-more : (ps : List PartRead) (p : PartRead) → map (λ (q : PartRead). q.body) (ps ++ p ∷ []) ≡ map (λ (q : PartRead). q.body) ps ++ p.body ∷ []
bodies-more ps p = map-append (λ (q : PartRead). q.body) ps (p ∷ [])

length-bodies : (ps : List PartRead) → length (map (λ (q : PartRead). q.body) ps) ≡ length ps
length-bodies ps = length-map ps (λ (q : PartRead). q.body)

-- ---- one part

pub record IsHead (n p : ℕ) (h : PartHead) : Type 0 where
  pub number : h.number ≡ p
  pub parts : h.parts ≡ n
  pub some : 1 ≤ h.count

not-zero : (n : ℕ) → not (n == 0) ≡ true → 1 ≤ n
not-zero zero e = absurd cc
not-zero (suc n) e = omega arith

pub head-is : (n p : ℕ) (h : PartHead) → is_head_of n p h ≡ true → IsHead n p h
head-is n p h e =
    let two = and_parts (h.number == p && h.parts == n) (not (h.count == 0)) e in
    let one = and_parts (h.number == p) (h.parts == n) two.0 in
    record { number = eqb-true h.number p one.0; parts = eqb-true h.parts n one.1; some = not-zero h.count two.1 }

pub record Follows (h : PartHead) (before shards : ℕ) : Type 0 where
  pub first : h.first ≡ before
  pub within : h.first + h.count ≤ shards
  pub last : is_last h ≡ true → h.first + h.count ≡ shards

pub follows-is : (h : PartHead) (before shards : ℕ) → follows h before shards ≡ true → Follows h before shards
follows-is h before shards e =
    let two = and_parts (h.first == before && nat_le (h.first + h.count) shards) (not (is_last h) || h.first + h.count == shards) e in
    let one = and_parts (h.first == before) (nat_le (h.first + h.count) shards) two.0 in
    record { first = eqb-true h.first before one.0; within = leb-true (h.first + h.count) shards one.1; last = λ last. eqb-true (h.first + h.count) shards (ends (is_last h) (h.first + h.count == shards) last two.1) }
  where
    ends : (b c : Bool) → b ≡ true → (not b || c) ≡ true → c ≡ true
    ends true c is e = e
    ends false c is e = absurd cc

-- what is opened is behind the head
front-taken : (bytes front : List ℕ) (n : ℕ) (b : Bool) → (if b then Some (take n bytes) else None) ≡ Some front → (b ≡ true) × (front ≡ take n bytes)
front-taken bytes front n true e = (refl, sym (some-is e))
  where
    some-is : {x y : List ℕ} → Some x ≡ Some y → x ≡ y
    some-is e = cc
front-taken bytes front n false e = absurd cc

pub record IsFrontOf (bytes front : List ℕ) : Type 0 where
  pub whole : IsWholeFront front
  pub bytes_are : bytes ≡ front ++ drop (length front) bytes

front-of : (bytes front : List ℕ) → front_in bytes ≡ Some front → IsFrontOf bytes front
front-of bytes front e =
    let n : ℕ = front_length (take HEADER_BYTES bytes) in
    let got = front-taken bytes front n (nat_le HEADER_BYTES (length bytes) && nat_le n (length bytes)) e in
    let room : n ≤ length bytes = leb-true n (length bytes) (and_parts (nat_le HEADER_BYTES (length bytes)) (nat_le n (length bytes)) got.0).1 in
    let long : length front ≡ n = ap length got.1 ∙ length-take-le n bytes room in
    record {
      whole = subst IsWholeFront (sym got.1) (whole-front bytes (take HEADER_BYTES bytes) n refl refl room);
      bytes_are = sym (take-append-drop n bytes) ∙ ap (λ xs. xs ++ drop n bytes) (sym got.1) ∙ ap (λ k. front ++ drop k bytes) (sym long);
    }

pub record IsOpened (n p : ℕ) (file : List ℕ) (o : Opened) : Type 0 where
  pub head : is_head_of n p o.head ≡ true
  pub whole : IsWholeFront o.front
  pub behind : drop PART_HEAD_BYTES file ≡ o.front ++ o.body

opened-front : (n p : ℕ) (h : PartHead) (file : List ℕ) (o : Opened) (f : Option (List ℕ)) → is_head_of n p h ≡ true → front_in (drop PART_HEAD_BYTES file) ≡ f → opened_behind h (drop PART_HEAD_BYTES file) f ≡ Ok o → IsOpened n p file o
opened-front n p h file o None is at e = absurd cc
opened-front n p h file o (Some front) is at e =
    let got = front-of (drop PART_HEAD_BYTES file) front at in
    let same : record { head = h; front = front; body = drop (length front) (drop PART_HEAD_BYTES file) } ≡ o = cc in
    subst (IsOpened n p file) same (record { head = is; whole = got.whole; behind = got.bytes_are })

opened-head : (n p : ℕ) (h : PartHead) (file : List ℕ) (o : Opened) (b : Bool) → is_head_of n p h ≡ b → (if b then opened_behind h (drop PART_HEAD_BYTES file) (front_in (drop PART_HEAD_BYTES file)) else Err part.Head) ≡ Ok o → IsOpened n p file o
opened-head n p h file o true is e = opened-front n p h file o (front_in (drop PART_HEAD_BYTES file)) is refl e
opened-head n p h file o false is e = absurd cc

pub opened-is : (n p : ℕ) (file : List ℕ) (o : Opened) → opened n p file ≡ Ok o → IsOpened n p file o
opened-is n p file o e = go (head_in file) e
  where
    go : (h : Option PartHead) → opened_with n p (drop PART_HEAD_BYTES file) h ≡ Ok o → IsOpened n p file o
    go None e = absurd cc
    go (Some h) e = opened-head n p h file o (is_head_of n p h) refl e

-- the front of a file whose header is checked
pub front-is : (front : List ℕ) → IsWholeFront front → HEADER_BYTES + (header_of front).length ≤ length front → IsFront front
front-is front whole room =
    whole.1
    ∙ ap (λ (h : Header). if is_record (take HEADER_BYTES front) && nat_le h.length 67108864 then HEADER_BYTES + h.length else HEADER_BYTES) (header-taken front whole.0)
    ∙ go (is_record (take HEADER_BYTES front) && nat_le (header_of front).length 67108864) refl
  where
    go : (b : Bool) → (is_record (take HEADER_BYTES front) && nat_le (header_of front).length 67108864) ≡ b → (if b then HEADER_BYTES + (header_of front).length else HEADER_BYTES) ≡ HEADER_BYTES + (header_of front).length
    go true e = refl
    go false e =
        let size : length front ≡ HEADER_BYTES = whole.1
        ∙ ap (λ (h : Header). if is_record (take HEADER_BYTES front) && nat_le h.length 67108864 then HEADER_BYTES + h.length else HEADER_BYTES) (header-taken front whole.0)
        ∙ ap (λ b. if b then HEADER_BYTES + (header_of front).length else HEADER_BYTES) e in
        omega (arith, size, room)

-- ---- as the code opens a part

pub front-at : (bytes : List ℕ) (n : ℕ) (r : Option (Bor (List ℕ))) → HEADER_BYTES ≤ length bytes → n ≡ front_length (take HEADER_BYTES bytes) → MatchOption r (length bytes < n) (λ first. (n ≤ length bytes) × (first.now ≡ take n bytes))
    → MatchOption r (front_in bytes ≡ None) (λ f. front_in bytes ≡ Some f.now)
front-at bytes n None long is h =
    let m : ℕ = front_length (take HEADER_BYTES bytes) in
    let short : nat_le m (length bytes) ≡ false = false_from_ne_true (nat_le m (length bytes)) (λ z. absurd (omega (arith, leb-true m (length bytes) z, h, is))) in
    ap (λ b. if b && nat_le m (length bytes) then Some (take m bytes) else None) (le-leb HEADER_BYTES (length bytes) long) ∙ ap (λ b. if true && b then Some (take m bytes) else None) short
front-at bytes n (Some f) long is h =
    let m : ℕ = front_length (take HEADER_BYTES bytes) in
    ap (λ b. if b && nat_le m (length bytes) then Some (take m bytes) else None) (le-leb HEADER_BYTES (length bytes) long)
    ∙ ap (λ b. if true && b then Some (take m bytes) else None) (le-leb m (length bytes) (omega (arith, h.0, is)))
    ∙ ap (λ k. Some (take k bytes)) (sym is) ∙ ap (λ xs. Some xs) (sym h.1)

pub behind-opened : (h : PartHead) (bytes body : List ℕ) (front : Bor (List ℕ)) → front_in bytes ≡ Some front.now → body ≡ drop (length front.now) bytes → opened_behind h bytes (front_in bytes) ≡ Ok (record { head = h; front = front.now; body = body })
behind-opened h bytes body front is same = ap (opened_behind h bytes) is ∙ ap (λ b. Ok (record { head = h; front = front.now; body = b })) (sym same)

pub behind-unopened : (h : PartHead) (bytes : List ℕ) → front_in bytes ≡ None → opened_behind h bytes (front_in bytes) ≡ Err part.Front
behind-unopened h bytes is = ap (opened_behind h bytes) is

pub opened-as : (n p : ℕ) (file bytes : List ℕ) (h : PartHead) (r : Result OpenedPart PartFault) → head_in file ≡ Some h → is_head_of n p h ≡ true → bytes ≡ drop PART_HEAD_BYTES file
    → MatchResult r (λ x. opened_behind h bytes (front_in bytes) ≡ Ok (opened_of x)) (λ f. opened_behind h bytes (front_in bytes) ≡ Err f) → MatchResult r (λ x. opened n p file ≡ Ok (opened_of x)) (λ f. opened n p file ≡ Err f)
opened-as n p file bytes h r head is same m = go r m
  where
    so : opened n p file ≡ opened_behind h bytes (front_in bytes)
    so =
        ap (opened_with n p (drop PART_HEAD_BYTES file)) head
        ∙ ap (λ b. if b then opened_behind h (drop PART_HEAD_BYTES file) (front_in (drop PART_HEAD_BYTES file)) else Err part.Head) is
        ∙ ap (λ xs. opened_behind h xs (front_in xs)) (sym same)

    go : (r : Result OpenedPart PartFault) → MatchResult r (λ x. opened_behind h bytes (front_in bytes) ≡ Ok (opened_of x)) (λ f. opened_behind h bytes (front_in bytes) ≡ Err f) → MatchResult r (λ x. opened n p file ≡ Ok (opened_of x)) (λ f. opened n p file ≡ Err f)
    go (Ok x) e = so ∙ e
    go (Err f) e = so ∙ e

pub headed-as : (n p : ℕ) (h : PartHead) (r : Result OpenedPart PartFault) → is_head_of n p h ≡ true → IfOk r (λ x. x.head ≡ h) → IfOk r (λ x. is_head_of n p x.head ≡ true)
headed-as n p h (Ok x) is same = ap (is_head_of n p) same ∙ is
headed-as n p h (Err f) is same = tt

-- the header of part 0
pub record IsCheckedFront (front : List ℕ) (h : Header) : Type 0 where
  pub same : header_of front ≡ h
  pub is : IsFront front

pub checked-front : (n p : ℕ) (elf input file : List ℕ) (o : Opened) (h : Header) → opened n p file ≡ Ok o → unless_broken 0 0 (header_checks true sha_lanes elf input o.front) (header_of o.front) ≡ Ok h → HEADER_BYTES + h.length ≤ length o.front → IsCheckedFront o.front h
checked-front n p elf input file o h e checked room =
    let same : header_of o.front ≡ h = (unless-ok 0 0 (header_checks true sha_lanes elf input o.front) (header_of o.front) h checked).1 in
    record { same = same; is = front-is o.front (opened-is n p file o e).whole (subst (λ (k : Header). HEADER_BYTES + k.length ≤ length o.front) (sym same) room) }

pub front-checks : (elf input front : List ℕ) (h : Header) → unless_broken 0 0 (header_checks true sha_lanes elf input front) (header_of front) ≡ Ok h → header_of front ≡ h → unless_broken 0 0 (header_checks true sha_lanes elf input front) (header_of front) ≡ Ok (header_of front)
front-checks elf input front h checked same = checked ∙ ap (λ k. Ok k) (sym same)

-- the output behind a header
pub output-length : (front output : List ℕ) (n : ℕ) → output ≡ drop HEADER_BYTES front → length front ≡ HEADER_BYTES + n → length output ≡ n
output-length front output n is size = ap length is ∙ length-drop HEADER_BYTES front ∙ omega (arith, size)

-- the front that is kept of parts so far
pub kept-checked : (n : ℕ) (elf input : List ℕ) (x : Joining) (p : ℕ) (j : Joined) (ps : List PartRead) → IsJoining n elf input x p j ps → IsChecked x.header
kept-checked n elf input x p j ps is = subst IsChecked (sym is.header) (header-checked sha_lanes elf input j.front (header_of j.front) is.checked)

pub kept-front : (n : ℕ) (elf input : List ℕ) (x : Joining) (p : ℕ) (j : Joined) (ps : List PartRead) → IsJoining n elf input x p j ps → length x.front ≡ HEADER_BYTES + x.header.length
kept-front n elf input x p j ps is = ap length is.front ∙ is.is_front ∙ ap (λ (h : Header). HEADER_BYTES + h.length) (sym is.header)

-- ---- one part more

added-if : (elf input : List ℕ) (j : Joined) (o : Opened) (b c : Bool) → follows o.head j.shards (header_of j.front).shards ≡ b → is_cut sha_lanes (behind_front elf input j.front) o.head o.body ≡ c
    → added elf input j o ≡ (if not b then Err part.Cover else (if c then Err part.Cut else Ok (with_part j o)))
added-if elf input j o b c is cut =
    ap (λ x. if not x then Err part.Cover else (if is_cut sha_lanes (behind_front elf input j.front) o.head o.body then Err part.Cut else Ok (with_part j o))) is
    ∙ ap (λ x. if not b then Err part.Cover else (if x then Err part.Cut else Ok (with_part j o))) cut

-- its shards as the code compares them
follows-same : {n : ℕ} {elf input : List ℕ} {x : Joining} {p : ℕ} {j : Joined} {ps : List PartRead} (h : PartHead) (b : Bool) → IsJoining n elf input x p j ps → follows h x.shards x.header.shards ≡ b → follows h j.shards (header_of j.front).shards ≡ b
follows-same {n} {elf} {input} {x} {p} {j} {ps} h b is e = ap (λ k. follows h k (header_of j.front).shards) (sym is.shards) ∙ ap (λ (k : Header). follows h x.shards k.shards) (sym is.header) ∙ e

subject-same : (elf input front output kept : List ℕ) (h : Header) → h ≡ header_of front → kept ≡ front → output ≡ drop HEADER_BYTES kept → subject_of (record { elf = elf; input = input }) h output ≡ behind_front elf input front
subject-same elf input front output kept h header same out =
    ap (λ k. subject_of (record { elf = elf; input = input }) k output) header
    ∙ ap (λ xs. subject_of (record { elf = elf; input = input }) (header_of front) xs) (out ∙ ap (drop HEADER_BYTES) same)

joining-more : (n : ℕ) (elf input : List ℕ) (old new : Joining) (p : ℕ) (j : Joined) (ps : List PartRead) (o : Opened) (x : Summary) → IsJoining n elf input old p j ps
    → new.front ≡ old.front → new.header ≡ old.header → new.shards ≡ old.shards + (o.head).count → new.summaries.items ≡ old.summaries.items ++ x ∷ []
    → is_head_of n p o.head ≡ true → Follows o.head j.shards (header_of j.front).shards → Summarizes sha_lanes (behind_front elf input j.front) o.head o.body (Ok x) → AreBytes o.body
    → IsJoining n elf input new (p + 1) (with_part j o) (ps ++ part_of o ∷ [])
joining-more n elf input old new p j ps o x is same_front same_header more_shards more_summaries head follow summary bytes = record {
  front = same_front ∙ is.front;
  header = same_header ∙ is.header;
  shards = more_shards ∙ ap (λ k. k + (o.head).count) is.shards;
  within = subst (λ k. k + (o.head).count ≤ (header_of j.front).shards) follow.first follow.within;
  all = λ last. subst (λ k. k + (o.head).count ≡ (header_of j.front).shards) follow.first (follow.last (eq-eqb ((o.head).number + 1) (o.head).parts (omega (arith, last, at.number, at.parts))));
  count = length-append ps (part_of o ∷ []) ∙ ap (λ k. k + 1) is.count;
  bodies = ap (λ xs. xs ++ o.body) is.bodies ∙ sym (concat-more (map (λ (q : PartRead). q.body) ps) o.body) ∙ ap concat (sym (bodies-more ps (part_of o)));
  is_front = is.is_front;
  checked = is.checked;
  front_bytes = is.front_bytes;
  body_bytes = append-bytes j.bodies o.body is.body_bytes bytes;
  follow = λ qs ys rest.
      subst (λ xs. AreFaultless sha_lanes (behind_front elf input j.front) n 0 0 ((ps ++ part_of o ∷ []) ++ qs) (xs ++ ys)) (sym more_summaries)
      (subst (λ xs. AreFaultless sha_lanes (behind_front elf input j.front) n 0 0 ((ps ++ part_of o ∷ []) ++ qs) xs) (sym (append_assoc old.summaries.items (x ∷ []) ys))
      (subst (λ qs. AreFaultless sha_lanes (behind_front elf input j.front) n 0 0 qs (old.summaries.items ++ x ∷ ys)) (sym (append_assoc ps (part_of o ∷ []) qs))
      (is.follow (part_of o ∷ qs) (x ∷ ys) (record { number = at.number; parts = at.parts; first = follow.first; some = at.some }, summary, rest))));
}
  where
    at : IsHead n p o.head
    at = head-is n p o.head head

-- its shards are others, or don't end where it does
pub part-uncovered : (n : ℕ) (elf input : List ℕ) (old new : Joining) (p : ℕ) (j : Joined) (ps : List PartRead) (x : OpenedPart) → IsJoining n elf input old p j ps → follows x.head old.shards old.header.shards ≡ false
    → AddsPart n elf input p j ps x new (Err (fault.Part p part.Cover))
part-uncovered n elf input old new p j ps x is other =
    (refl, added-if elf input j (opened_of x) false (is_cut sha_lanes (behind_front elf input j.front) x.head x.body.now) (follows-same x.head false is other) refl)

pub part-cut : (n : ℕ) (elf input output : List ℕ) (old new : Joining) (p : ℕ) (j : Joined) (ps : List PartRead) (x : OpenedPart) → IsJoining n elf input old p j ps → follows x.head old.shards old.header.shards ≡ true → output ≡ drop HEADER_BYTES old.front
    → is_cut sha_lanes (subject_of (record { elf = elf; input = input }) old.header output) x.head x.body.now ≡ true → AddsPart n elf input p j ps x new (Err (fault.Part p part.Cut))
part-cut n elf input output old new p j ps x is next out cut =
    (refl, added-if elf input j (opened_of x) true true (follows-same x.head true is next) (subst (λ s. is_cut sha_lanes s x.head x.body.now ≡ true) (subject-same elf input j.front output old.front old.header is.header is.front out) cut))

pub part-added : (n : ℕ) (elf input output : List ℕ) (old new : Joining) (p : ℕ) (j : Joined) (ps : List PartRead) (x : OpenedPart) (y : Summary) → IsJoining n elf input old p j ps → is_head_of n p x.head ≡ true → follows x.head old.shards old.header.shards ≡ true
    → output ≡ drop HEADER_BYTES old.front → Summarizes sha_lanes (subject_of (record { elf = elf; input = input }) old.header output) x.head x.body.now (Ok y) → AreBytes x.body.now
    → new.front ≡ old.front → new.header ≡ old.header → new.shards ≡ old.shards + (x.head).count → new.summaries.items ≡ old.summaries.items ++ y ∷ []
    → AddsPart n elf input p j ps x new (Ok tt)
part-added n elf input output old new p j ps x y is head next out summary bytes same_front same_header more_shards more_summaries =
    let covers = follows-same x.head true is next in
    let known : Summarizes sha_lanes (behind_front elf input j.front) x.head x.body.now (Ok y) =
    subst (λ s. Summarizes sha_lanes s x.head x.body.now (Ok y)) (subject-same elf input j.front output old.front old.header is.header is.front out) summary in (
      added-if elf input j (opened_of x) true false covers known.0,
      joining-more n elf input old new p j ps (opened_of x) y is same_front same_header more_shards more_summaries head (follows-is x.head j.shards (header_of j.front).shards covers) known bytes,
    )

-- ---- a file more

pub file-unopened : (n : ℕ) (elf input : List ℕ) (new : Joining) (p : ℕ) (j : Joined) (ps : List PartRead) (file : List ℕ) (f : PartFault) → opened n p file ≡ Err f → AddsFile n elf input p j ps file new (Err (fault.Part p f))
file-unopened n elf input new p j ps file f e = (refl, ap (added_behind elf input j) e)

pub file-other : (n : ℕ) (elf input : List ℕ) (new : Joining) (p : ℕ) (j : Joined) (ps : List PartRead) (file : List ℕ) (o : Opened) → opened n p file ≡ Ok o → bytes_eq o.front j.front ≡ false → AddsFile n elf input p j ps file new (Err (fault.Part p part.Front))
file-other n elf input new p j ps file o e other = (refl, ap (added_behind elf input j) e ∙ ap (λ b. if b then added elf input j o else Err part.Front) other)

pub file-added : (n : ℕ) (elf input : List ℕ) (new : Joining) (p : ℕ) (j : Joined) (ps : List PartRead) (file : List ℕ) (x : OpenedPart) (r : Result Unit Fault) → opened n p file ≡ Ok (opened_of x) → bytes_eq x.front.now j.front ≡ true → x.front.now ≡ j.front
    → AddsPart n elf input p j ps x new r → AddsFile n elf input p j ps file new r
file-added n elf input new p j ps file x (Ok u) e same front adds = (opened_of x, e, front, ap (added_behind elf input j) e ∙ ap (λ b. if b then added elf input j (opened_of x) else Err part.Front) same ∙ adds.0, adds.1)
file-added n elf input new p j ps file x (Err (fault.Part q f)) e same front adds = (adds.0, ap (added_behind elf input j) e ∙ ap (λ b. if b then added elf input j (opened_of x) else Err part.Front) same ∙ adds.1)
file-added n elf input new p j ps file x (Err fault.Memory) e same front adds = tt
file-added n elf input new p j ps file x (Err fault.Words) e same front adds = absurd adds
file-added n elf input new p j ps file x (Err (fault.Elf _)) e same front adds = absurd adds
file-added n elf input new p j ps file x (Err (fault.Budget _)) e same front adds = absurd adds
file-added n elf input new p j ps file x (Err fault.Read) e same front adds = absurd adds
file-added n elf input new p j ps file x (Err fault.Write) e same front adds = absurd adds
file-added n elf input new p j ps file x (Err (fault.Limit _)) e same front adds = absurd adds
file-added n elf input new p j ps file x (Err (fault.Version _)) e same front adds = absurd adds
file-added n elf input new p j ps file x (Err (fault.Step _)) e same front adds = absurd adds
file-added n elf input new p j ps file x (Err (fault.Assembly _ _)) e same front adds = absurd adds

-- ---- part 0

first-is : (w : JoinWords) (elf input file : List ℕ) (o : Opened) → opened w.parts 0 file ≡ Ok o
    → behind_first w elf input file
    ≡ unless_refused (unless_broken 0 0 (header_checks true sha_lanes elf input o.front) (header_of o.front)) (unless_fault 0 (added elf input (begun o.front) o) (parts_from w elf input (w.parts - 1) 1))
first-is w elf input file o e =
    ap (λ r. unless_fault 0 r (λ x. unless_refused (unless_broken 0 0 (header_checks true sha_lanes elf input x.front) (header_of x.front)) (unless_fault 0 (added elf input (begun x.front) x) (parts_from w elf input (w.parts - 1) 1)))) e

pub first-unopened : (w : JoinWords) (elf input file : List ℕ) (f : PartFault) → opened w.parts 0 file ≡ Err f → BeginsParts w elf input file (Err (fault.Part 0 f))
first-unopened w elf input file f e =
    ap (λ r. unless_fault 0 r (λ x. unless_refused (unless_broken 0 0 (header_checks true sha_lanes elf input x.front) (header_of x.front)) (unless_fault 0 (added elf input (begun x.front) x) (parts_from w elf input (w.parts - 1) 1)))) e

pub first-refused : (w : JoinWords) (elf input file : List ℕ) (o : Opened) (r : Refusal) → opened w.parts 0 file ≡ Ok o → unless_broken 0 0 (header_checks true sha_lanes elf input o.front) (header_of o.front) ≡ Err r
    → behind_first w elf input file ≡ answer (denies (refused_line r))
first-refused w elf input file o r e refused = first-is w elf input file o e ∙ ap (λ x. unless_refused x (unless_fault 0 (added elf input (begun o.front) o) (parts_from w elf input (w.parts - 1) 1))) refused

-- no part but the front of part 0
pub none-joined : (n : ℕ) (elf input front : List ℕ) (x : Joining) (h : Header) → 1 ≤ n → x.front ≡ front → x.header ≡ h → x.shards ≡ 0 → x.summaries.items ≡ [] → IsFront front → AreBytes front
    → unless_broken 0 0 (header_checks true sha_lanes elf input front) (header_of front) ≡ Ok h → h ≡ header_of front → IsJoining n elf input x 0 (begun front) []
none-joined n elf input front x h some front_is header none empty is bytes checked same = record {
  front = front_is;
  header = header ∙ same;
  shards = none;
  within = omega arith;
  all = λ last. absurd (omega (arith, last, some));
  count = refl;
  bodies = refl;
  is_front = is;
  checked = checked ∙ ap (λ k. Ok k) same;
  front_bytes = bytes;
  body_bytes = tt;
  follow = λ qs ys rest. subst (λ xs. AreFaultless sha_lanes (behind_front elf input front) n 0 0 qs (xs ++ ys)) (sym empty) rest;
}

-- part 0 behind its front
pub first-part : (w : JoinWords) (elf input file : List ℕ) (x : OpenedPart) (new : Joining) (r : Result Unit Fault) → opened w.parts 0 file ≡ Ok (opened_of x) → unless_broken 0 0 (header_checks true sha_lanes elf input x.front.now) (header_of x.front.now) ≡ Ok (header_of x.front.now)
    → AddsPart w.parts elf input 0 (begun x.front.now) [] x new r → (f : Fault) → r ≡ Err f → BeginsParts w elf input file (Err f)
first-part w elf input file x new (Ok u) e checked adds f is = absurd cc
first-part w elf input file x new (Err g) e checked adds f is = let same : g ≡ f = cc in subst (λ z. BeginsParts w elf input file (Err z)) same (go g adds)
  where
    go : (g : Fault) → AddsPart w.parts elf input 0 (begun x.front.now) [] x new (Err g) → BeginsParts w elf input file (Err g)
    go (fault.Part q f) h =
        first-is w elf input file (opened_of x) e
        ∙ ap (λ z. unless_refused z (unless_fault 0 (added elf input (begun x.front.now) (opened_of x)) (parts_from w elf input (w.parts - 1) 1))) checked
        ∙ ap (λ z. unless_fault 0 z (parts_from w elf input (w.parts - 1) 1)) h.1
        ∙ ap (λ k. answer (refuses (fault.Part k f))) (sym h.0)
    go fault.Memory h = tt
    go fault.Words h = absurd h
    go (fault.Elf _) h = absurd h
    go (fault.Budget _) h = absurd h
    go fault.Read h = absurd h
    go fault.Write h = absurd h
    go (fault.Limit _) h = absurd h
    go (fault.Version _) h = absurd h
    go (fault.Step _) h = absurd h
    go (fault.Assembly _ _) h = absurd h

pub first-added : (w : JoinWords) (elf input file : List ℕ) (o : Opened) → opened w.parts 0 file ≡ Ok o → unless_broken 0 0 (header_checks true sha_lanes elf input o.front) (header_of o.front) ≡ Ok (header_of o.front)
    → added elf input (begun o.front) o ≡ Ok (with_part (begun o.front) o) → behind_first w elf input file ≡ parts_from w elf input (w.parts - 1) 1 (with_part (begun o.front) o)
first-added w elf input file o e checked adds =
    first-is w elf input file o e
    ∙ ap (λ z. unless_refused z (unless_fault 0 (added elf input (begun o.front) o) (parts_from w elf input (w.parts - 1) 1))) checked
    ∙ ap (λ z. unless_fault 0 z (parts_from w elf input (w.parts - 1) 1)) adds

-- ---- reading

still : {s : ShelfView} → IsUnchanged s s
still = record { files = refl; reads = λ _. refl; writes = λ _. refl }

-- a refusal behind a file
refuses-behind : (p : Plan) (s : ShelfView) (f : Fault) → p ≡ answer (refuses f) → PerformsBehind (answer (refuses f)) s s (Err f) → PerformsBehind p s s (Err f)
refuses-behind p s f is h = subst (λ q. PerformsBehind q s s (Err f)) (sym is) h

part-refuses : (s : ShelfView) (p : ℕ) (f : PartFault) → PerformsBehind (answer (refuses (fault.Part p f))) s s (Err (fault.Part p f))
part-refuses s p f = (record { files = refl; writes = λ _. refl }, refl)

-- part p and more, behind those before
abbrev part_plan : JoinWords → List ℕ → List ℕ → ℕ → ℕ → Joined → List ℕ → Plan
part_plan w elf input more p j file = unless_fault p (added_behind elf input j (opened w.parts p file)) (parts_from w elf input more (p + 1))

part-stops : (w : JoinWords) (elf input : List ℕ) (more p : ℕ) (j : Joined) (ps : List PartRead) (file : List ℕ) (new : Joining) (s : ShelfView) (f : Fault) → AddsFile w.parts elf input p j ps file new (Err f) → PerformsBehind (part_plan w elf input more p j file) s s (Err f)
part-stops w elf input more p j ps file new s (fault.Part q f) h =
    subst (λ k. PerformsBehind (part_plan w elf input more p j file) s s (Err (fault.Part k f))) (sym h.0)
    (refuses-behind (part_plan w elf input more p j file) s (fault.Part p f) (ap (λ z. unless_fault p z (parts_from w elf input more (p + 1))) h.1) (part-refuses s p f))
part-stops w elf input more p j ps file new s fault.Memory h = record { files = refl; writes = λ _. refl }
part-stops w elf input more p j ps file new s fault.Words h = absurd h
part-stops w elf input more p j ps file new s (fault.Elf _) h = absurd h
part-stops w elf input more p j ps file new s (fault.Budget _) h = absurd h
part-stops w elf input more p j ps file new s fault.Read h = absurd h
part-stops w elf input more p j ps file new s fault.Write h = absurd h
part-stops w elf input more p j ps file new s (fault.Limit _) h = absurd h
part-stops w elf input more p j ps file new s (fault.Version _) h = absurd h
part-stops w elf input more p j ps file new s (fault.Step _) h = absurd h
part-stops w elf input more p j ps file new s (fault.Assembly _ _) h = absurd h

pub part-unread : (w : JoinWords) (elf input : List ℕ) (p : ℕ) (old new : Joining) (s s' : ShelfView) (f : Fault) → ReadsWithin (part_name w.name p) RECORD_LIMIT limited.Record s s' (Err f) → ReadsPart w elf input p old new s s' (Err f)
part-unread w elf input p old new s s' f read j ps more is = read-stops (part_name w.name p) RECORD_LIMIT limited.Record s s' f (part_plan w elf input more p j) read

pub part-read : (w : JoinWords) (elf input : List ℕ) (p : ℕ) (old new : Joining) (s s' : ShelfView) (file bytes : List ℕ) (r : Result Unit Fault) → ReadsWithin (part_name w.name p) RECORD_LIMIT limited.Record s s' (Ok file) → bytes ≡ file
    → ((j : Joined) (ps : List PartRead) → IsJoining w.parts elf input old p j ps → AddsFile w.parts elf input p j ps bytes new r) → ReadsPart w elf input p old new s s' r
part-read w elf input p old new s s' file bytes (Ok u) read same adds = (file, read, λ j ps is. subst (λ b. AddsFile w.parts elf input p j ps b new (Ok u)) same (adds j ps is))
part-read w elf input p old new s s' file bytes (Err f) read same adds =
    λ j ps more is. performs-read (part_name w.name p) RECORD_LIMIT limited.Record s s' s' file (part_plan w elf input more p j) (Err f) read
    (part-stops w elf input more p j ps file new s' f (subst (λ b. AddsFile w.parts elf input p j ps b new (Err f)) same (adds j ps is)))

begins-stops : (w : JoinWords) (elf input file : List ℕ) (s : ShelfView) (f : Fault) → BeginsParts w elf input file (Err f) → PerformsBehind (behind_first w elf input file) s s (Err f)
begins-stops w elf input file s (fault.Part q f) h = refuses-behind (behind_first w elf input file) s (fault.Part q f) h (part-refuses s q f)
begins-stops w elf input file s fault.Memory h = record { files = refl; writes = λ _. refl }
begins-stops w elf input file s fault.Words h = absurd h
begins-stops w elf input file s (fault.Elf _) h = absurd h
begins-stops w elf input file s (fault.Budget _) h = absurd h
begins-stops w elf input file s fault.Read h = absurd h
begins-stops w elf input file s fault.Write h = absurd h
begins-stops w elf input file s (fault.Limit _) h = absurd h
begins-stops w elf input file s (fault.Version _) h = absurd h
begins-stops w elf input file s (fault.Step _) h = absurd h
begins-stops w elf input file s (fault.Assembly _ _) h = absurd h

pub first-unread : (w : JoinWords) (elf input : List ℕ) (s s' : ShelfView) (f : Fault) → ReadsWithin (part_name w.name 0) RECORD_LIMIT limited.Record s s' (Err f) → ReadsFirst w elf input s s' (Err f)
first-unread w elf input s s' f read = read-stops (part_name w.name 0) RECORD_LIMIT limited.Record s s' f (behind_first w elf input) read

pub first-read : (w : JoinWords) (elf input : List ℕ) (s s' : ShelfView) (file bytes : List ℕ) (r : Result First Fault) → ReadsWithin (part_name w.name 0) RECORD_LIMIT limited.Record s s' (Ok file) → bytes ≡ file → BeginsParts w elf input bytes r → ReadsFirst w elf input s s' r
first-read w elf input s s' file bytes (Ok x) read same begins = (file, read, subst (λ b. BeginsParts w elf input b (Ok x)) same begins)
first-read w elf input s s' file bytes (Err f) read same begins =
    performs-read (part_name w.name 0) RECORD_LIMIT limited.Record s s' s' file (behind_first w elf input) (Err f) read (begins-stops w elf input file s' f (subst (λ b. BeginsParts w elf input b (Err f)) same begins))

-- ---- all parts

-- What is known behind the first p parts: nothing has changed, and what join goes on with from there it does in all.
pub record IsBehind (w : JoinWords) (elf input : List ℕ) (s s' : ShelfView) (x : Joining) (p : ℕ) : Type 0 where
  pub joined : Joined
  pub parts : List PartRead
  pub is : IsJoining w.parts elf input x p joined parts
  pub same : IsUnchanged s s'
  pub parts_are : AreParts s.files w.name joined.front 0 (map (λ (q : PartRead). q.body) parts)
  pub goes : (s'' : ShelfView) (r : Result Told Fault) → PerformsBehind (parts_from w elf input (w.parts - p) p joined) s' s'' r → PerformsBehind (all_parts w elf input) s s'' r

-- one file more
part-contents : (files : Option Files) (name front file : List ℕ) (p n : ℕ) (o : Opened) → IsContents files (part_name name p) file → opened n p file ≡ Ok o → o.front ≡ front
    → (bytes : List ℕ) × IsContents files (part_name name p) bytes × (drop PART_HEAD_BYTES bytes ≡ front ++ o.body)
part-contents files name front file p n o is e same = (file, is, (opened-is n p file o e).behind ∙ ap (λ xs. xs ++ o.body) same)

parts-more : (files : Option Files) (name front : List ℕ) (p q : ℕ) (bodies : List (List ℕ)) (body : List ℕ) → p + length bodies ≡ q → AreParts files name front p bodies
    → (file : List ℕ) × IsContents files (part_name name q) file × (drop PART_HEAD_BYTES file ≡ front ++ body) → AreParts files name front p (bodies ++ body ∷ [])
parts-more files name front p q [] body at are last =
    let e : q ≡ p = omega (arith, at) in (subst (λ k. (file : List ℕ) × IsContents files (part_name name k) file × (drop PART_HEAD_BYTES file ≡ front ++ body)) e last, tt)
parts-more files name front p q (b ∷ bodies) body at are last = (are.0, parts-more files name front (p + 1) q bodies body (omega (arith, at)) are.1 last)

same-contents : (s s' : ShelfView) (name file : List ℕ) → IsUnchanged s s' → IsContents s'.files name file → IsContents s.files name file
same-contents s s' name file same is = subst (λ files. IsContents files name file) same.files is

both : {s s' s'' : ShelfView} → IsUnchanged s s' → IsUnchanged s' s'' → IsUnchanged s s''
both h k = record { files = k.files ∙ h.files; reads = λ name. k.reads name ∙ h.reads name; writes = λ name. k.writes name ∙ h.writes name }

pub behind-begun : (w : JoinWords) (elf input : List ℕ) (s s' : ShelfView) (x : Joining) → ReadsFirst w elf input s s' (Ok (Checked x)) → IsBehind w elf input s s' x 1
behind-begun w elf input s s' x (file, read, (o, e, plan, is)) = record {
  joined = with_part (begun o.front) o;
  parts = part_of o ∷ [];
  is = is;
  same = read.0;
  parts_are = (part-contents s.files w.name o.front file 0 w.parts o read.2 e refl, tt);
  goes = λ s'' r h.
      performs-behind (all_parts w elf input) s s'' r
      (performs-read (part_name w.name 0) RECORD_LIMIT limited.Record s s' s'' file (behind_first w elf input) r read (subst (λ p. PerformsBehind p s' s'' r) (sym plan) h));
}

pub behind-more : (w : JoinWords) (elf input : List ℕ) (s s' s'' : ShelfView) (old new : Joining) (p : ℕ) → p < w.parts → IsBehind w elf input s s' old p → ReadsPart w elf input p old new s' s'' (Ok tt) → IsBehind w elf input s s'' new (p + 1)
behind-more w elf input s s' s'' old new p more b (file, read, adds) = go (adds b.joined b.parts b.is)
  where
    left-is : w.parts - p ≡ suc (w.parts - (p + 1))
    left-is = omega (arith, more)

    go : AddsFile w.parts elf input p b.joined b.parts file new (Ok tt) → IsBehind w elf input s s'' new (p + 1)
    go (o, e, front, adds, is) = record {
      joined = with_part b.joined o;
      parts = b.parts ++ part_of o ∷ [];
      is = is;
      same = both b.same read.0;
      parts_are = subst (AreParts s.files w.name b.joined.front 0) (sym (bodies-more b.parts (part_of o)))
          (parts-more s.files w.name b.joined.front 0 p (map (λ (q : PartRead). q.body) b.parts) o.body (omega (arith, b.is.count, length-bodies b.parts)) b.parts_are
          (part-contents s.files w.name b.joined.front file p w.parts o (same-contents s s' (part_name w.name p) file b.same read.2) e front));
      goes = λ s3 r h.
          b.goes s3 r
          (subst (λ k. PerformsBehind (parts_from w elf input k p b.joined) s' s3 r) (sym left-is)
          (performs-behind (parts_from w elf input (suc (w.parts - (p + 1))) p b.joined) s' s3 r
          (performs-read (part_name w.name p) RECORD_LIMIT limited.Record s' s'' s3 file (part_plan w elf input (w.parts - (p + 1)) p b.joined) r read
          (subst (λ z. PerformsBehind (unless_fault p z (parts_from w elf input (w.parts - (p + 1)) (p + 1))) s'' s3 r) (sym adds) h))));
    }

-- join stops at a part
pub behind-stops : (w : JoinWords) (elf input : List ℕ) (s s' s'' : ShelfView) (old new : Joining) (p : ℕ) (f : Fault) → p < w.parts → IsBehind w elf input s s' old p → ReadsPart w elf input p old new s' s'' (Err f) → PerformsBehind (all_parts w elf input) s s'' (Err f)
behind-stops w elf input s s' s'' old new p f more b stops =
    b.goes s'' (Err f)
    (subst (λ k. PerformsBehind (parts_from w elf input k p b.joined) s' s'' (Err f)) (sym left-is)
    (performs-behind (parts_from w elf input (suc (w.parts - (p + 1))) p b.joined) s' s'' (Err f) (stops b.joined b.parts (w.parts - (p + 1)) b.is)))
  where
    left-is : w.parts - p ≡ suc (w.parts - (p + 1))
    left-is = omega (arith, more)

-- the verdict by all summaries is that on the file that the parts make
whole-verdict : (w : JoinWords) (elf input : List ℕ) (s s' : ShelfView) (x : Joining) → SummariesTellVerdict → AreBytes elf → first_fault elf ≡ None → (b : IsBehind w elf input s s' x w.parts) → (v : Verdict) → v ≡ combined elf input x.header x.summaries.items → v ≡ verdict sha_lanes elf input (whole_of b.joined)
whole-verdict w elf input s s' x law bytes faultless b v is =
    let j = b.joined in
    let none : AreFaultless sha_lanes (behind_front elf input j.front) w.parts w.parts j.shards [] [] = (refl, b.is.all refl) in
    let all : AreFaultless sha_lanes (behind_front elf input j.front) w.parts 0 0 (b.parts ++ []) (x.summaries.items ++ []) = b.is.follow [] [] none in
    let faultless_parts : AreFaultless sha_lanes (behind_front elf input j.front) (length b.parts) 0 0 b.parts x.summaries.items =
    subst (λ k. AreFaultless sha_lanes (behind_front elf input j.front) k 0 0 b.parts x.summaries.items) (sym b.is.count)
    (subst (λ ps. AreFaultless sha_lanes (behind_front elf input j.front) w.parts 0 0 ps x.summaries.items) (append-nil b.parts)
    (subst (λ xs. AreFaultless sha_lanes (behind_front elf input j.front) w.parts 0 0 (b.parts ++ []) xs) (append-nil x.summaries.items) all)) in
    is ∙ ap (λ h. combined elf input h x.summaries.items) b.is.header
    ∙ law sha_lanes elf input j.front b.parts x.summaries.items bytes faultless b.is.is_front b.is.checked faultless_parts
    ∙ ap (λ xs. verdict sha_lanes elf input (j.front ++ xs)) (sym b.is.bodies)

end-behind : (w : JoinWords) (elf input : List ℕ) (s s' : ShelfView) (x : Joining) (b : IsBehind w elf input s s' x w.parts) (v : Verdict) (r : Result Told Fault) → v ≡ verdict sha_lanes elf input (whole_of b.joined) → TellsOutcome (told_verdict v) r
    → PerformsBehind (all_parts w elf input) s s' r
end-behind w elf input s s' x b v r is says =
    b.goes s' r (subst (λ k. PerformsBehind (parts_from w elf input k w.parts b.joined) s' s' r) none-left (answered (told_verdict v) (told_verdict (verdict sha_lanes elf input (whole_of b.joined))) s' r (ap told_verdict is) (verdict-writes v) says))
  where
    none-left : 0 ≡ w.parts - w.parts
    none-left = omega arith

pub all-joined : (w : JoinWords) (elf input : List ℕ) (s s' : ShelfView) (x : Joining) (v : Verdict) (r : Result Told Fault) → SummariesTellVerdict → VerdictsAreSound → AreBytes elf → AreBytes input → first_fault elf ≡ None → IsBehind w elf input s s' x w.parts
    → v ≡ combined elf input x.header x.summaries.items → TellsOutcome (told_verdict v) r → JoinsParts w elf input s s' r
all-joined w elf input s s' x v r law sound elf_bytes input_bytes faultless b is says = record {
  performs = end-behind w elf input s s' x b v r so says;
  joined = go r says;
}
  where
    so : v ≡ verdict sha_lanes elf input (whole_of b.joined)
    so = whole-verdict w elf input s s' x law elf_bytes faultless b v is

    bodies : List (List ℕ)
    bodies = map (λ (q : PartRead). q.body) b.parts

    go : (r : Result Told Fault) → TellsOutcome (told_verdict v) r → IfOk r (λ told. told.status ≡ 0 → IsJoined w elf input s)
    go (Err f) says = tt
    go (Ok told) says = λ zero. record {
      front = b.joined.front;
      bodies = bodies;
      count = length-bodies b.parts ∙ b.is.count;
      parts_are = b.parts_are;
      sound = sound-of elf input (whole b.joined.front bodies) v (sym says.0 ∙ zero)
          (subst (λ xs. IsSound sha_lanes elf input (b.joined.front ++ xs) v) b.is.bodies
          (subst (IsSound sha_lanes elf input (whole_of b.joined)) (sym so)
          (sound sha_lanes elf input (whole_of b.joined) faultless elf_bytes input_bytes (append-bytes b.joined.front b.joined.bodies b.is.front_bytes b.is.body_bytes))));
    }

-- part 0's header is refused
pub all-refused : (w : JoinWords) (elf input : List ℕ) (s s' : ShelfView) (f : Refusal) (r : Result Told Fault) → ReadsFirst w elf input s s' (Ok (Refused f)) → TellsOutcome (told_verdict (Refuse f)) r → JoinsParts w elf input s s' r
all-refused w elf input s s' f r (file, read, plan) says = record {
  performs = performs-behind (all_parts w elf input) s s' r
      (performs-read (part_name w.name 0) RECORD_LIMIT limited.Record s s' s' file (behind_first w elf input) r read
      (subst (λ p. PerformsBehind p s' s' r) (sym plan) (answered (told_verdict (Refuse f)) (denies (refused_line f)) s' r refl refl says)));
  joined = go r says;
}
  where
    go : (r : Result Told Fault) → TellsOutcome (told_verdict (Refuse f)) r → IfOk r (λ told. told.status ≡ 0 → IsJoined w elf input s)
    go (Err e) says = tt
    go (Ok told) says = λ zero. absurd (eqb-false 1 0 refl (sym says.0 ∙ zero))

pub all-stopped : (w : JoinWords) (elf input : List ℕ) (s s' : ShelfView) (f : Fault) → PerformsBehind (all_parts w elf input) s s' (Err f) → JoinsParts w elf input s s' (Err f)
all-stopped w elf input s s' f h = record { performs = h; joined = tt }

-- ---- the command

pub join-performs : (w : JoinWords) (elf input : List ℕ) (s s' s'' : ShelfView) (l : Loaded) (r : Result Told Fault) → Loads w.elf w.input s s' (Ok l) → first_fault l.elf ≡ None → elf ≡ l.elf → input ≡ l.input → JoinsParts w elf input s' s'' r
    → Performs (plan_of (join w)) s s'' r
join-performs w elf input s s' s'' l r h faultless same_elf same_input joins =
    performs-loaded w.elf w.input s s' s'' l (all_parts w) r h faultless
    (subst (λ x. PerformsBehind (all_parts w l.elf x) s' s'' r) same_input (subst (λ x. PerformsBehind (all_parts w x input) s' s'' r) same_elf joins.performs))

are-joined : (w : JoinWords) (elf input : List ℕ) (s s' : ShelfView) (l : Loaded) → Loads w.elf w.input s s' (Ok l) → elf ≡ l.elf → input ≡ l.input → IsJoined w elf input s' → JoinedParts s.files w
are-joined w elf input s s' l h same_elf same_input joined = record {
  elf = elf;
  input = input;
  front = joined.front;
  bodies = joined.bodies;
  elf_is = subst (IsContents s.files w.elf) (sym same_elf) h.3;
  input_is = subst (IsContents s.files w.input) (sym same_input) h.4;
  count = joined.count;
  parts_are = subst (λ files. AreParts files w.name joined.front 0 joined.bodies) h.0.files joined.parts_are;
  sound = joined.sound;
}

pub join-joined : (w : JoinWords) (elf input : List ℕ) (s s' s'' : ShelfView) (l : Loaded) (r : Result Told Fault) → Loads w.elf w.input s s' (Ok l) → elf ≡ l.elf → input ≡ l.input → JoinsParts w elf input s' s'' r → IfOk r (λ told. told.status ≡ 0 → JoinedParts s.files w)
join-joined w elf input s s' s'' l (Err f) h same_elf same_input joins = tt
join-joined w elf input s s' s'' l (Ok told) h same_elf same_input joins = λ zero. are-joined w elf input s s' l h same_elf same_input (joins.joined zero)
