-- What the numbers of a header say of its shards, and the verdict where not one head is there.
use Rattle.std.proofs.Common.{◌≡◌, ℕ, zero, suc, ◌+◌, ◌-◌, ◌*◌, ◌<◌, ◌≤◌, Bool, true, ◌&&◌, ◌||◌, ◌==◌, nat_le, List, [], ◌∷◌, length, take, drop, None, Ok, refl, sym, ap, subst, ◌∙◌, inl, arith}
use Rattle.std.specs.Int.{div_ceil, is_in_range}
use Rattle.std.proofs.lemmas.Bool.{leb-true, eqb-true, and_parts}
use Rattle.std.proofs.lemmas.Grind.{div_ceil_times}
use Rattle.rv_base.specs.declared.record.Header.{Header}
use Rattle.rv_base.specs.declared.record.Place.{Place}
use Rattle.rv_base.specs.declared.record.Verdict.TheVariants.{Refuse}
use Rattle.rv_spec.specs.Digest.{Lanes}
use Rattle.rv_spec.specs.Words.{u32_at}
use Rattle.rv_rules.specs.Checks.{Check, first_broken, unless_broken}
use Rattle.rv_rules.specs.Reading.{header_checks, header_of, number_checks}
use Rattle.rv_rules.specs.Verdict.{verdict}
use Rattle.rv_row.proofs.Lemmas.{all-hold}
use Rattle.rv_file.specs.Parsing.{behind_shards}
use Rattle.rv_judge.specs.Subject.{Subject, IsChecked}
use Rattle.rv_judge.proofs.Lemmas.{header-checked}
use Rattle.rv_panel.specs.Starts.{AreStarts}
use Rattle.rv_panel.specs.Chaining.{verdict_from}
use Rattle.rv_panel.proofs.StartLaws.{behind-zero}
use Rattle.rv_panel.proofs.FrontSteps.{front-taken}
use Rattle.rv_panel.proofs.ChainLaws.{counted, link-refuses}

some-of : (steps size n : ℕ) → 1 ≤ steps → 1 ≤ size → n ≡ div_ceil steps size → 1 ≤ n
some-of steps size zero some sized is =
    let room : steps ≤ div_ceil steps size * size = (div_ceil_times steps size (omega (arith, sized))).0 in
    let none : div_ceil steps size * size ≡ 0 * size = ap (λ k. k * size) (sym is) in
    absurd (omega (arith, some, room, none))
some-of steps size (suc n) some sized is = omega arith

-- a header whose numbers break no rule counts at least one shard, and no more than the limit
pub shards-within : (h : Header) → first_broken (number_checks h) ≡ None → (1 ≤ h.shards) × (h.shards ≤ 65536)
shards-within h e =
    let counts : Bool = nat_le 1 h.steps && h.shards == div_ceil h.steps h.size && nat_le h.shards 65536 in
    let from_7 : List Check = (7, nat_le h.end.kind 5 && (h.end.kind == 0 || h.end.code == 0)) ∷ (8, nat_le h.length 67108864) ∷ [] in
    let size = all-hold (5, is_in_range 1 65536 h.size) ((6, counts) ∷ from_7) e in
    let count = all-hold (6, counts) from_7 size.1 in
    let range = and_parts (nat_le 1 h.size) (nat_le h.size 65536) size.0 in
    let few = and_parts (nat_le 1 h.steps && h.shards == div_ceil h.steps h.size) (nat_le h.shards 65536) count.0 in
    let two = and_parts (nat_le 1 h.steps) (h.shards == div_ceil h.steps h.size) few.0 in
    (some-of h.steps h.size h.shards (leb-true 1 h.steps two.0) (leb-true 1 h.size range.0) (eqb-true h.shards (div_ceil h.steps h.size) two.1), leb-true h.shards 65536 few.1)

module _ (lanes : Lanes) (s : Subject) where
  -- not one head is there
  pub none-found : (p : Place) (bytes starts : List ℕ) → AreStarts bytes s.header.shards starts → length starts ≡ 0 → 1 ≤ s.header.shards → verdict_from lanes s s.header.shards 0 p [] bytes ≡ Refuse (record { shard = 0; row = 0; rule = 1 })
  none-found p bytes starts are none some =
      let total = s.header.shards in
      let all : total ≡ total - 0 = omega arith in
      let at : behind_shards (length starts) bytes ≡ bytes = ap (λ k. behind_shards k bytes) none ∙ behind-zero bytes in
      let short : length bytes < 32 = subst (λ (xs : List ℕ). length xs < 32) at (are.next (omega (arith, none, some))) in
      counted lanes s (verdict_from lanes s total 0 p [] bytes) total 0 p [] bytes (omega (arith, some)) (ap (λ k. verdict_from lanes s k 0 p [] bytes) all)
      ∙ link-refuses lanes s 0 p bytes (record { shard = 0; row = 0; rule = 1 }) (inl (short, refl)) (total - (0 + 1)) []

-- A header that breaks no check is followed by its output and the shards, whose verdict is the file's.
module _ (lanes : Lanes) (elf input file : List ℕ) (h : Header) (output shards : List ℕ) where
  abbrev pub Passed : Type 0
  Passed = Ok h ≡ unless_broken 0 0 (header_checks true lanes elf input file) (header_of file)

  pub header-passed : Passed → IsChecked h
  header-passed e = header-checked lanes elf input file h (sym e)

  pub whole-is : Passed → output ≡ take h.length (drop 173 file) → shards ≡ drop (173 + h.length) file → (pc : ℕ) → pc ≡ u32_at elf 24
      → verdict lanes elf input file ≡ verdict_from lanes (record { elf = elf; input = input; header = h; output = output }) h.shards 0 (record { pc = pc; input = 0; output = 0 }) [] shards
  whole-is e output-is shards_are pc pc_is =
      let output_from = sym output-is in
      let shards_from = sym shards_are in
      let pc_from = sym pc_is in
      front-taken lanes elf input file h (sym e)
      ∙ (λ t. verdict_from lanes (record { elf = elf; input = input; header = h; output = output_from t }) h.shards 0 (record { pc = pc_from t; input = 0; output = 0 }) [] (shards_from t))
