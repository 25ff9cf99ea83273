-- The parts of an accepted file that nothing blocks are accepted with version 2.
use Rattle.std.proofs.Common.{◌≡◌, ℕ, Bool, true, false, cond, ◌&&◌, ◌||◌, ◌==◌, List, [], ◌∷◌, Option, Some, None, Ok, is_some, IsTrue, nat_lt, refl, sym, ap, subst, ◌∙◌, inl, inr, arith}
use Rattle.std.specs.List.{AllByRecursion}
use Rattle.std.proofs.lemmas.Bool.{cases_lt}
use Rattle.rv_base.specs.declared.cells.TheConstants.{REGISTER_CELLS, RESERVATION_CELL}
use Rattle.rv_base.specs.declared.machine.TheConstants.{ILLEGAL_WORD}
use Rattle.rv_base.specs.declared.instr.Atomic.{Atomic as AtomicInstr}
use Rattle.rv_base.specs.declared.record.Header.{Header}
use Rattle.rv_base.specs.declared.record.Place.{Place}
use Rattle.rv_base.specs.declared.record.TableEntry.{TableEntry}
use Rattle.rv_spec.specs.Words.{AreBytes}
use Rattle.rv_spec.specs.Elf.{image}
use Rattle.rv_spec.specs.Cells.{value, is_cell}
use Rattle.rv_spec.specs.Decode.{decode_atomic}
use Rattle.rv_spec.specs.Digest.{Lanes, digest}
use Rattle.rv_spec.specs.Record.{Parts, header_bytes, file_bytes, reads, writes}
use Rattle.rv_spec.specs.Grammar.{HeaderFits, EntryFits, PartsFit, Spells}
use Rattle.rv_rules.specs.Verdict.{judge, verdict_of}
use Rattle.rv_sound.specs.Accepted.{entry_place, IsAccepted, ReadsAccepted}
use Rattle.rv_upgrade.specs.Upgrade.{last_word, blocked, upgraded, upgraded_parts}
use Rattle.rv_upgrade.specs.Laws.{IsAcceptedToo}
use Rattle.rv_upgrade.specs.declared.reasons.Blocked.TheVariants as why
use Rattle.rv_upgrade.proofs.LastRow.{last-word}
use Rattle.rv_upgrade.proofs.BothVersions.{shards-hold-too, shards-fit-too}

-- ---- what isn't blocked

-- its version isn't 2
not-new : (p : Parts) → blocked p ≡ None → (p.header.version == 2) ≡ false
unfolding blocked
not-new p free = go (p.header.version == 2) free
  where
    go : (b : Bool) → cond b (Some why.New) (cond (p.header.end.kind == ILLEGAL_WORD && is_some (decode_atomic (last_word p))) (Some (why.Atomic (last_word p))) None) ≡ None → b ≡ false
    go true e = absurd cc
    go false e = refl

-- so it is 1
pub version-1 : (p : Parts) → HeaderFits p.header → blocked p ≡ None → p.header.version ≡ 1
version-1 p fit free = elim (cases_lt p.header.version 2) [
  | inl less ↦ omega (arith, less, fit.version.0)
  | inr more ↦ (
      let is : p.header.version ≡ 2 = omega (arith, more, fit.version.1) in
      let same : true ≡ false = sym (ap (λ v. v == 2) is) ∙ not-new p free in
      absurd cc
      )
]

-- where it ends as at an illegal word, its last row shows no word of extension A
pub no-atomic : (p : Parts) → blocked p ≡ None → p.header.end.kind ≡ ILLEGAL_WORD → decode_atomic (last_word p) ≡ None
unfolding blocked
no-atomic p free kind =
    go (decode_atomic (last_word p)) refl
    (sym (ap (λ b. cond b (Some why.New) (cond (p.header.end.kind == ILLEGAL_WORD && is_some (decode_atomic (last_word p))) (Some (why.Atomic (last_word p))) None)) (not-new p free)) ∙ free)
  where
    go : (o : Option AtomicInstr) → decode_atomic (last_word p) ≡ o → cond (p.header.end.kind == ILLEGAL_WORD && is_some o) (Some (why.Atomic (last_word p))) None ≡ None → decode_atomic (last_word p) ≡ None
    go None e q = e
    go (Some i) e q =
        let is : cond true (Some (why.Atomic (last_word p))) None ≡ None = ap (λ b. cond (b && true) (Some (why.Atomic (last_word p))) None) (sym (ap (λ k. k == ILLEGAL_WORD) kind)) ∙ q in
        absurd cc

-- ---- the form

cell-too : (version c : ℕ) → version ≡ 1 → IsTrue (is_cell version c) → IsTrue (is_cell 2 c)
cell-too version c first t = go (nat_lt c REGISTER_CELLS) (nat_lt REGISTER_CELLS c && nat_lt c RESERVATION_CELL) (c == RESERVATION_CELL) (subst (λ v. IsTrue (is_cell v c)) first t)
  where
    go : (a b d : Bool) → IsTrue (a || b || false) → IsTrue (a || b || d)
    go true b d t = t
    go false true d t = t
    go false false d t = absurd cc

entries-fit-too : (version : ℕ) (ts : List TableEntry) → version ≡ 1 → AllByRecursion (EntryFits version) ts → AllByRecursion (EntryFits 2) ts
entries-fit-too version [] first fits = tt
entries-fit-too version (t ∷ ts) first fits = (record { cell = cell-too version t.cell first fits.0.cell; value = fits.0.value; time = fits.0.time }, entries-fit-too version ts first fits.1)

header-fits-too : (h : Header) → HeaderFits h → HeaderFits (record h { version = 2 })
header-fits-too h f = record {
  version = (omega arith, omega arith);
  elf = f.elf;
  input = f.input;
  size = f.size;
  steps = f.steps;
  shards = f.shards;
  shards_within = f.shards_within;
  kind = f.kind;
  code = f.code;
  code_of_exit = f.code_of_exit;
  consumed = f.consumed;
  length = f.length;
}

-- the bytes of the parts with version 2 are the upgraded bytes
pub upgraded-bytes : (p : Parts) → upgraded (file_bytes p) ≡ file_bytes (upgraded_parts p)
unfolding file_bytes header_bytes
upgraded-bytes p = refl

-- ---- the two lists of tuples

pub same-read : (p : Parts) → reads (upgraded_parts p) ≡ reads p
unfolding reads
same-read p = refl

pub same-written : (elf : List ℕ) (version : ℕ) (p : Parts) → writes (image 2 elf) (upgraded_parts p) ≡ writes (image version elf) p
unfolding writes value
same-written elf version p = refl

-- ---- the law

module _ (lanes : Lanes) (elf input : List ℕ) (p : Parts) (free : blocked p ≡ None) where
  pub parts-fit-too : PartsFit p → PartsFit (upgraded_parts p)
  parts-fit-too f =
      let first : p.header.version ≡ 1 = version-1 p f.header free in
      record {
        header = header-fits-too p.header f.header;
        output = f.output;
        count = f.count;
        shards = shards-fit-too p.header input p.output first (last_word p) (no-atomic p free) 0 p.shards f.shards;
        entries = entries-fit-too p.header.version p.table first f.entries;
        rising = f.rising;
        table = f.table;
      }

  pub spells-too : (file : List ℕ) → Spells p file → Spells (upgraded_parts p) (upgraded file)
  spells-too file s = record { fit = parts-fit-too s.fit; is = ap upgraded s.is ∙ upgraded-bytes p }

  pub accepted-too : IsAccepted lanes elf input p → IsAccepted lanes elf input (upgraded_parts p)
  accepted-too a =
      let first : p.header.version ≡ 1 = version-1 p a.fit.header free in
      let both =
      shards-hold-too p.header input p.output first (last_word p) (no-atomic p free) lanes p.shards 0 (entry_place elf) (λ xs r is. sym (last-word p xs r is)) a.fit.shards a.shards in
      record {
        fit = parts-fit-too a.fit;
        elf_hash = a.elf_hash;
        input_hash = a.input_hash;
        shards = both.0;
        taken = ap (λ (q : Place). q.input) both.1 ∙ a.taken;
        put = ap (λ (q : Place). q.output) both.1 ∙ a.put;
        balance = ap (digest lanes) (same-read p) ∙ a.balance ∙ sym (ap (digest lanes) (same-written elf p.header.version p));
      }

  pub is-accepted-too : (file : List ℕ) → ReadsAccepted lanes elf input → AreBytes file → judge lanes elf input file ≡ Ok p → IsAcceptedToo lanes elf input file p
  is-accepted-too file law bytes judged =
      let a = law.accepted file p bytes judged in
      let too : judge lanes elf input (upgraded file) ≡ Ok (upgraded_parts p) = law.judged (upgraded file) (upgraded_parts p) (spells-too file a.0) (accepted-too a.1) in
      record {
        judged = too;
        verdicts = ap verdict_of too ∙ sym (ap verdict_of judged);
        read = same-read p;
        written = same-written elf p.header.version p;
      }
