-- The words of a source are those of its statements.
use Rattle.std.proofs.Common.{◌≡◌, ℕ, zero, suc, ◌+◌, ◌<◌, Bool, true, false, not, cond, List, [], ◌∷◌, ◌++◌, length, get_or, slice_get, Option, Some, None, Result, Ok, Err, ◌==◌, refl, ap, sym, subst, arith}
use Rattle.std.specs.Option.{option_to_list}
use Rattle.std.specs.List.{list_all}
use Rattle.std.specs.Str.Lines.{lines}
use Rattle.rv_spec.specs.Elf.{Image}
use Rattle.rv_asm.specs.declared.faults.AsmFault.{AsmFault}
use Rattle.rv_asm.specs.Lines.{code, is_plain, label_text, statement_text}
use Rattle.rv_asm.specs.Symbols.{Symbol, distance}
use Rattle.rv_asm.specs.Statements.{statement_word}
use Rattle.rv_asm.specs.Assembly.{assembly, counted, is_bad_label, joined, line_word, statements, symbols_of, words_from}
use Rattle.rv_asm.specs.Executable.{HoldsWords}
use Rattle.rv_asm.specs.Laws.{HoldsStatements, statements_of, statements_on}
use Rattle.rv_asm.proofs.DecodeLaws.{words-decode}

-- texts and words from statement k on
abbrev AreWords : List Symbol → ℕ → List (List ℕ) → List ℕ → Type 0
AreWords symbols k [] [] = Unit {0}
AreWords symbols k (text ∷ texts) (w ∷ ws) = (statement_word (distance symbols k) text ≡ Ok w) × AreWords symbols (k + 1) texts ws
AreWords symbols k [] (w ∷ ws) = ⊥
AreWords symbols k (text ∷ texts) [] = ⊥

-- the word of a line, by whether its statement is empty
abbrev IsLineWord : List Symbol → ℕ → List ℕ → Bool → Option ℕ → Type 0
IsLineWord symbols k text true o = o ≡ None
IsLineWord symbols k text false o = (w : ℕ) × (o ≡ Some w) × (statement_word (distance symbols k) text ≡ Ok w)

abbrev ok : ℕ → Result ℕ ℕ
ok w = Ok w

counted-word : (k : ℕ) (r : Result ℕ ℕ) (o : Option ℕ) → counted k r ≡ Ok o → (w : ℕ) × (o ≡ Some w) × (r ≡ Ok w)
counted-word k (Err kind) o h = absurd (cc)
counted-word k (Ok word) o h = by-test (k == 65536) h
  where
    by-test : (b : Bool) → cond {A = Result (Option ℕ) ℕ} b (Err 7) (Ok (Some word)) ≡ Ok o → (w : ℕ) × (o ≡ Some w) × (ok word ≡ ok w)
    by-test true e = absurd (cc)
    by-test false e = let same : o ≡ Some word = cc in (word, same, refl)

line-words : (symbols : List Symbol) (n k : ℕ) (line : List ℕ) (o : Option ℕ) → line_word symbols n k line ≡ Ok o → IsLineWord symbols k (statement_text line) (length (statement_text line) == 0) o
unfolding line_word
line-words symbols n k line o h = by-tests (list_all is_plain (code line)) (is_bad_label symbols n (label_text line)) (length (statement_text line) == 0) h
  where
    by-tests : (a b c : Bool) → cond {A = Result (Option ℕ) ℕ} (not a) (Err 1) (cond b (Err 2) (cond c (Ok None) (counted k (statement_word (distance symbols k) (statement_text line))))) ≡ Ok o → IsLineWord symbols k (statement_text line) c o
    by-tests false b c e = absurd (cc)
    by-tests true true c e = absurd (cc)
    by-tests true false true e = let same : o ≡ None = cc in same
    by-tests true false false e = counted-word k (statement_word (distance symbols k) (statement_text line)) o e

-- a line before others
line-before : (symbols : List Symbol) (k : ℕ) (text : List ℕ) (texts : List (List ℕ)) (c : Bool) (o : Option ℕ) (more : List ℕ) → IsLineWord symbols k text c o → AreWords symbols (k + cond c 0 1) texts more
    → AreWords symbols k (cond (not c) (text ∷ texts) texts) (option_to_list o ++ more)
line-before symbols k text texts true o more is behind =
    let same : k + 0 ≡ k = omega arith in
    rw is (subst (λ (j : ℕ). AreWords symbols j texts more) same behind)
line-before symbols k text texts false o more is behind = rw is.1 (is.2, behind)

lines-words : (symbols : List Symbol) (n k : ℕ) (ls : List (List ℕ)) (words : List ℕ) → words_from symbols n k ls ≡ Ok words → AreWords symbols k (statements_on ls) words
unfolding words_from
lines-words symbols n k [] words h = let none : words ≡ [] = cc in rw none tt
lines-words symbols n k (l ∷ ls) words h =
    by-line (line_word symbols n k l) refl (words_from symbols (n + 1) (k + statements l) ls) (λ more later. lines-words symbols (n + 1) (k + statements l) ls more later) h
  where
    by-line : (r : Result (Option ℕ) ℕ) → line_word symbols n k l ≡ r → (later : Result (List ℕ) AsmFault) → ((more : List ℕ) → later ≡ Ok more → AreWords symbols (k + statements l) (statements_on ls) more) → joined n r later ≡ Ok words
        → AreWords symbols k (statements_on (l ∷ ls)) words
    by-line (Err kind) is later behind e = absurd (cc)
    by-line (Ok o) is (Err fault) behind e = absurd (cc)
    by-line (Ok o) is (Ok more) behind e =
        let same : option_to_list o ++ more ≡ words = cc in
        subst (AreWords symbols k (statements_on (l ∷ ls))) same
        (line-before symbols k (statement_text l) (statements_on ls) (length (statement_text l) == 0) o more (line-words symbols n k l o is) (behind more refl))

as-many : (symbols : List Symbol) (k : ℕ) (texts : List (List ℕ)) (words : List ℕ) → AreWords symbols k texts words → length words ≡ length texts
as-many symbols k [] [] h = refl
as-many symbols k (text ∷ texts) (w ∷ ws) h = ap suc (as-many symbols (k + 1) texts ws h.1)
as-many symbols k [] (w ∷ ws) h = absurd h
as-many symbols k (text ∷ texts) [] h = absurd h

-- word j of them
word-at : (symbols : List Symbol) (k j : ℕ) (texts : List (List ℕ)) (words text : List ℕ) → AreWords symbols k texts words → slice_get texts j ≡ Some text
    → (j < length words) × (statement_word (distance symbols (k + j)) text ≡ Ok (get_or words j 0))
word-at symbols k j [] words text h found = absurd (cc)
word-at symbols k j (first ∷ texts) [] text h found = absurd h
word-at symbols k zero (first ∷ texts) (w ∷ ws) text h found =
    let same : first ≡ text = cc in
    let here : k + 0 ≡ k = omega arith in
    (omega arith, subst (λ (t : List ℕ). statement_word (distance symbols (k + 0)) t ≡ Ok w) same (subst (λ (i : ℕ). statement_word (distance symbols i) first ≡ Ok w) (sym here) h.0))
word-at symbols k (suc j) (first ∷ texts) (w ∷ ws) text h found =
    let rest = word-at symbols (k + 1) j texts ws text h.1 found in
    let same : k + 1 + j ≡ k + suc j = omega arith in
    (omega (arith, rest.0), subst (λ (i : ℕ). statement_word (distance symbols i) text ≡ Ok (get_or ws j 0)) same rest.1)

source-words : (source words : List ℕ) → assembly source ≡ Ok words → AreWords (symbols_of source) 0 (statements_of source) words
unfolding assembly
source-words source words h = lines-words (symbols_of source) 1 0 (lines source) words h

pub statements-held : (source words : List ℕ) (image : Image) → assembly source ≡ Ok words → HoldsWords words image → (length words ≡ length (statements_of source)) × HoldsStatements source image
statements-held source words image assembled holds =
    let are = source-words source words assembled in (
      as-many (symbols_of source) 0 (statements_of source) words are,
      λ k text found.
          let at = word-at (symbols_of source) 0 k (statements_of source) words text are found in
          let same : 0 + k ≡ k = omega arith in
          let spelt : statement_word (distance (symbols_of source) k) text ≡ Ok (get_or words k 0) = subst (λ (i : ℕ). statement_word (distance (symbols_of source) i) text ≡ Ok (get_or words k 0)) same at.1 in
          record {
            word = get_or words k 0;
            word_is = spelt;
            held = holds k at.0;
            decodes = λ plain. words-decode (distance (symbols_of source) k) text (get_or words k 0) plain spelt;
          },
    )
