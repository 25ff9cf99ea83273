-- A record file that is judged as it is read: what is known between pieces, and at the end.
use Rattle.std.proofs.Common.{◌≡◌, ◌≢◌, ℕ, ◌+◌, List, [], ◌++◌, length, take, drop, Option, Some, None, Result, IfSome, is_some, IsTrue, Bool, true, false, refl, sym, ap, subst, ◌∙◌, append-nil, append_assoc, length-append, arith}
use Rattle.std.proofs.lemmas.Bool.{false≢true}
use Rattle.std.proofs.lemmas.List.{take_all, take-append-drop}
use Rattle.rv_base.specs.declared.record.Refusal.{Refusal}
use Rattle.rv_base.specs.declared.record.Verdict.{Verdict}
use Rattle.rv_base.specs.declared.record.Verdict.TheVariants.{Refuse}
use Rattle.rv_spec.specs.Words.{AreBytes}
use Rattle.rv_spec.specs.Elf.{first_fault}
use Rattle.rv_spec.specs.Digest.{sha_lanes}
use Rattle.rv_rules.specs.Verdict.{verdict}
use Rattle.rv_rules.proofs.Lemmas.{append-bytes}
use Rattle.rv_host.specs.Files.{Files, file}
use Rattle.rv_host.specs.Transfers.{Reads}
use Rattle.rv_host.specs.Views.{ShelfView}
use Rattle.rv_plan.specs.Endings.{IsContents}
use Rattle.rv_plan.proofs.Lemmas.{front-whole}
use Rattle.rv_judge.specs.Conclusions.{IsSound, VerdictsAreSound}
use Rattle.rv_judge.specs.Held.{Held, comes}
use Rattle.rv_commands.specs.Judging.{AreFirst, IsFed}

-- the verdict on contents, and what it concludes
abbrev pub Concludes : Option Files → List ℕ → List ℕ → List ℕ → Verdict → Type 0
Concludes files name elf input answer = (contents : List ℕ) × IsContents files name contents × (answer ≡ verdict sha_lanes elf input contents) × IsSound sha_lanes elf input contents answer

pub some-of : {A : Type 0} (o : Option A) (P : A → Type 0) → is_some o ≡ true → IfSome o P → (x : A) × P x
some-of None P e h = absurd (false≢true e)
some-of (Some x) P e h = (x, h)

-- nothing is fed yet
pub begun : (before : ShelfView) (name elf input front : List ℕ) (judge : Result Held Refusal) → AreFirst before name front → ((rest : List ℕ) → comes sha_lanes judge rest ≡ verdict sha_lanes elf input (front ++ rest))
    → IsFed before name elf input front (length front) judge []
begun before name elf input front judge first is = record {
  bytes = tt;
  place = ap length (sym (append-nil front));
  verdict_is = λ rest. is rest ∙ ap (λ xs. verdict sha_lanes elf input (xs ++ rest)) (sym (append-nil front));
  first = subst (AreFirst before name) (sym (append-nil front)) first;
}

-- one more piece is fed
pub fed-more : (before : ShelfView) (name elf input front : List ℕ) (at next : ℕ) (old new : Result Held Refusal) (fed piece : List ℕ) → IsFed before name elf input front at old fed → AreBytes piece → next ≡ at + length piece
    → ((rest : List ℕ) → comes sha_lanes new rest ≡ comes sha_lanes old (piece ++ rest)) → AreFirst before name ((front ++ fed) ++ piece) → IsFed before name elf input front next new (fed ++ piece)
fed-more before name elf input front at next old new fed piece h bytes place goes first =
    let joined : (front ++ fed) ++ piece ≡ front ++ (fed ++ piece) = append_assoc front fed piece in
    record {
      bytes = append-bytes fed piece h.bytes bytes;
      place = place ∙ omega (arith, h.place, length-append (front ++ fed) piece) ∙ ap length joined;
      verdict_is = λ rest. goes rest ∙ h.verdict_is (piece ++ rest) ∙ ap (verdict sha_lanes elf input) (sym (append_assoc (front ++ fed) piece rest) ∙ ap (λ xs. xs ++ rest) joined);
      first = subst (AreFirst before name) joined first;
    }

-- no bytes are left, so the contents are what was read
pub all-read : (files before : Option Files) (name bytes piece old : List ℕ) (at count : ℕ) → files ≡ before → at ≡ length bytes → count ≡ 0 → length old ≢ 0
    → ((told : Files) → before ≡ Some told → bytes ≡ take (length bytes) (file told name)) → IfSome files (λ told. Reads (file told name) at count old piece) → IsContents before name bytes
all-read files None name bytes piece old at count same place none room first read = tt
all-read files (Some told) name bytes piece old at count same place none room first read =
    let limit : ℕ = length bytes + length (file told name) in
    front-whole files (Some told) name bytes piece old at count limit same place none room (omega arith) read told refl (first told refl) ∙ take_all limit (file told name) (omega arith)

pub concluded : (before : ShelfView) (name elf input front : List ℕ) (at : ℕ) (judge : Result Held Refusal) (fed : List ℕ) (answer : Verdict) → IsFed before name elf input front at judge fed → VerdictsAreSound → first_fault elf ≡ None → AreBytes elf → AreBytes input → AreBytes front
    → answer ≡ comes sha_lanes judge [] → IsContents before.files name (front ++ fed) → Concludes before.files name elf input answer
concluded before name elf input front at judge fed answer h sound faultless elf_bytes input_bytes front_bytes is contents =
    let so : answer ≡ verdict sha_lanes elf input (front ++ fed) = is ∙ h.verdict_is [] ∙ ap (verdict sha_lanes elf input) (append-nil (front ++ fed)) in
    (front ++ fed, contents, so, subst (IsSound sha_lanes elf input (front ++ fed)) (sym so) (sound sha_lanes elf input (front ++ fed) faultless elf_bytes input_bytes (append-bytes front fed front_bytes h.bytes)))

-- the verdict is decided, whatever follows
pub decided : (before : ShelfView) (name elf input front : List ℕ) (at : ℕ) (judge : Result Held Refusal) (fed : List ℕ) (answer : Verdict) (r : Refusal) → IsFed before name elf input front at judge fed → ((rest : List ℕ) → comes sha_lanes judge rest ≡ Refuse r)
    → answer ≡ comes sha_lanes judge [] → Concludes before.files name elf input answer
decided before name elf input front at judge fed answer r h stays is = go before.files refl
  where
    refused : answer ≡ Refuse r
    refused = is ∙ stays []

    so : (rest : List ℕ) → answer ≡ verdict sha_lanes elf input ((front ++ fed) ++ rest)
    so rest = refused ∙ sym (stays rest) ∙ h.verdict_is rest

    sound : (contents : List ℕ) → IsSound sha_lanes elf input contents answer
    sound contents = subst (IsSound sha_lanes elf input contents) (sym refused) tt

    go : (o : Option Files) → before.files ≡ o → Concludes o name elf input answer
    go None e = (front ++ fed, tt, so [] ∙ ap (verdict sha_lanes elf input) (append-nil (front ++ fed)), sound (front ++ fed))
    go (Some told) e =
        let whole : (front ++ fed) ++ drop (length (front ++ fed)) (file told name) ≡ file told name = ap (λ xs. xs ++ drop (length (front ++ fed)) (file told name)) (h.first told e) ∙ take-append-drop (length (front ++ fed)) (file told name) in
        (file told name, refl, so (drop (length (front ++ fed)) (file told name)) ∙ ap (verdict sha_lanes elf input) whole, sound (file told name))

-- all of a file that ends before its front does
pub contents-of : (before : ShelfView) (name bytes : List ℕ) → ((told : Files) → before.files ≡ Some told → bytes ≡ file told name) → IsContents before.files name bytes
contents-of before name bytes is = go before.files is
  where
    go : (o : Option Files) → ((told : Files) → o ≡ Some told → bytes ≡ file told name) → IsContents o name bytes
    go None h = tt
    go (Some told) h = h told refl

pub untrue : (b : Bool) → b ≡ false → IsTrue b → ⊥
untrue true e h = absurd (false≢true (sym e))
untrue false e h = absurd (false≢true h)
