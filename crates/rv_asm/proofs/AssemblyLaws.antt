-- The steps of an assembly, line by line.
use Rattle.std.proofs.Common.{◌≡◌, ℕ, ◌+◌, Bool, true, false, not, cond, List, [], ◌∷◌, ◌++◌, length, Option, Some, None, Result, Ok, Err, OnOk, ◌==◌, refl, ap, sym, ◌∙◌, append_assoc, length-append}
use Rattle.std.specs.Option.{option_to_list}
use Rattle.std.specs.List.{list_all}
use Rattle.std.specs.Result.{is_err}
use Rattle.std.specs.Str.Lines.{lines}
use Rattle.std.proofs.lemmas.List.{append-nil}
use Rattle.rv_asm.specs.declared.faults.AsmFault.{AsmFault}
use Rattle.rv_asm.specs.declared.faults.AsmFault.TheVariants.{At}
use Rattle.rv_asm.specs.Lines.{code, is_plain, label_text, statement_text}
use Rattle.rv_asm.specs.Symbols.{Symbol, distance}
use Rattle.rv_asm.specs.Statements.{statement_word}
use Rattle.rv_asm.specs.Assembly.{statements, symbols_from, with_label, words_from, joined, line_word, counted, is_bad_label, symbols_of, assembly}

-- words before those of an assembly
abbrev pub after : List ℕ → Result (List ℕ) AsmFault → Result (List ℕ) AsmFault
after ws (Ok more) = Ok (ws ++ more)
after ws (Err fault) = Err fault

-- a line that has no fault has a word where it has a statement
counted-one : (k : ℕ) (b : Bool) (r : Result ℕ ℕ) (o : Option ℕ) → counted k r ≡ Ok o → length (option_to_list o) ≡ 1
counted-one k b (Err kind) o h = absurd (cc)
counted-one k b (Ok word) o h = by-test (k == 65536) h
  where
    by-test : (b : Bool) → cond {A = Result (Option ℕ) ℕ} b (Err 7) (Ok (Some word)) ≡ Ok o → length (option_to_list o) ≡ 1
    by-test true e = absurd (cc)
    by-test false e = let same : o ≡ Some word = cc in rw same refl

line-count : (symbols : List Symbol) (n k : ℕ) (line : List ℕ) (o : Option ℕ) → line_word symbols n k line ≡ Ok o → statements line ≡ length (option_to_list o)
unfolding line_word
line-count symbols n k line o h = by-tests (list_all is_plain (code line)) (is_bad_label symbols n (label_text line)) (length (statement_text line) == 0) (statement_word (distance symbols k) (statement_text line)) h
  where
    by-tests : (a b c : Bool) (r : Result ℕ ℕ) → cond {A = Result (Option ℕ) ℕ} (not a) (Err 1) (cond b (Err 2) (cond c (Ok None) (counted k r))) ≡ Ok o → cond {A = ℕ} c 0 1 ≡ length (option_to_list o)
    by-tests false b c r e = absurd (cc)
    by-tests true true c r e = absurd (cc)
    by-tests true false true r e = let same : o ≡ None = cc in rw same refl
    by-tests true false false r e = sym (counted-one k true r o e)

abbrev ok_word : Option ℕ → Result (Option ℕ) ℕ
ok_word o = Ok o

abbrev ok : List ℕ → Result (List ℕ) AsmFault
ok x = Ok x

after-joined : (ws : List ℕ) (n : ℕ) (o : Option ℕ) (later : Result (List ℕ) AsmFault) → after ws (joined n (Ok o) later) ≡ after (ws ++ option_to_list o) later
after-joined ws n o (Ok more) = ap ok (sym (append_assoc ws (option_to_list o) more))
after-joined ws n o (Err fault) = refl

-- one line further
pub words-next : (symbols : List Symbol) (n k : ℕ) (ws new text rest behind : List ℕ) (o : Option ℕ) → lines rest ≡ text ∷ lines behind → k ≡ length ws → Ok o ≡ line_word symbols n k text → new ≡ ws ++ option_to_list o
    → after ws (words_from symbols n (length ws) (lines rest)) ≡ after new (words_from symbols (n + 1) (length new) (lines behind))
unfolding words_from
words-next symbols n k ws new text rest behind o cut many told more =
    let word : ok_word o ≡ line_word symbols n (length ws) text = told ∙ ap (λ (j : ℕ). line_word symbols n j text) many in
    let ls : List (List ℕ) = lines behind in
    let later : Result (List ℕ) AsmFault = words_from symbols (n + 1) (length ws + statements text) ls in
    let lens : length ws + statements text ≡ length new = ap (λ (k : ℕ). length ws + k) (line-count symbols n (length ws) text o (sym word)) ∙ sym (length-append ws (option_to_list o)) ∙ ap length (sym more) in
    ap (λ (all : List (List ℕ)). after ws (words_from symbols n (length ws) all)) cut
    ∙ ap (λ (r : Result (Option ℕ) ℕ). after ws (joined n r later)) (sym word)
    ∙ after-joined ws n o later
    ∙ ap (λ (k : ℕ). after (ws ++ option_to_list o) (words_from symbols (n + 1) k ls)) lens
    ∙ ap (λ (v : List ℕ). after v (words_from symbols (n + 1) (length new) ls)) (sym more)

-- the first fault
pub words-fault : (symbols : List Symbol) (n k : ℕ) (ws text rest behind : List ℕ) (kind : ℕ) → lines rest ≡ text ∷ lines behind → k ≡ length ws → Err kind ≡ line_word symbols n k text
    → after ws (words_from symbols n (length ws) (lines rest)) ≡ Err (At n kind)
unfolding words_from
words-fault symbols n k ws text rest behind kind cut many told =
    ap (λ (all : List (List ℕ)). after ws (words_from symbols n (length ws) all)) cut
    ∙ ap (λ (r : Result (Option ℕ) ℕ). after ws (joined n r (words_from symbols (n + 1) (length ws + statements text) (lines behind)))) (sym (told ∙ ap (λ (j : ℕ). line_word symbols n j text) many))

pub words-end : (symbols : List Symbol) (n : ℕ) (ws rest : List ℕ) → length rest ≡ 0 → after ws (words_from symbols n (length ws) (lines rest)) ≡ Ok ws
unfolding words_from
words-end symbols n ws [] none = ap ok (append-nil ws)
words-end symbols n ws (x ∷ xs) none = absurd (cc)

pub symbols-next : (symbols new : List Symbol) (n k j : ℕ) (text rest behind : List ℕ) → lines rest ≡ text ∷ lines behind → new ≡ with_label symbols n k (label_text text) → j ≡ k + statements text
    → symbols_from symbols n k (lines rest) ≡ symbols_from new (n + 1) j (lines behind)
unfolding symbols_from
symbols-next symbols new n k j text rest behind cut label more = rw (cut, label, more) refl

-- before the first line
after-nothing : (r : Result (List ℕ) AsmFault) → after [] r ≡ r
after-nothing (Ok ws) = refl
after-nothing (Err fault) = refl

pub words-begin : (symbols : List Symbol) (ws source : List ℕ) → ws ≡ [] → symbols ≡ symbols_of source → after ws (words_from symbols 1 (length ws) (lines source)) ≡ assembly source
unfolding assembly
words-begin symbols ws source none same = rw (none, same) (after-nothing (words_from (symbols_of source) 1 0 (lines source)))

-- what holds where a call went on
pub on-went : {P E : Type 0} (r : Result (Unit {0}) E) → is_err r ≡ false → OnOk r P → P
on-went (Ok u) h p = p
on-went (Err e) h p = absurd (cc)
