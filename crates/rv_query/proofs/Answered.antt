-- From the trails behind the rows before a step to the answers.
use Rattle.std.proofs.Common.{◌≡◌, ℕ, ◌+◌, ◌<◌, cond, ◌==◌, List, [], ◌∷◌, length, map, take, get_or, Some, None, option_map, unwrap_or, slice_get, sym, ap, ◌∙◌, add-zero, arith}
use Rattle.std.specs.List.{range_with_len}
use Rattle.std.proofs.lemmas.Bool.{lt-ltb}
use Rattle.rv_spec.specs.Elf.{Image}
use Rattle.rv_spec.specs.Cells.{initial_value, register_cell}
use Rattle.rv_spec.specs.Trace.{Row}
use Rattle.rv_spec.specs.Record.{Parts, all_rows}
use Rattle.rv_query.specs.Accesses.{Numbered, numbered}
use Rattle.rv_query.specs.Questions.{cell_seen, register_seen, state_seen, image_of, cell_answer, state_answer}
use Rattle.rv_query.specs.Following.{trail, AreTrails, GoPast}
use Rattle.rv_query.specs.declared.questions.CellSeen.{CellSeen}
use Rattle.rv_query.specs.declared.questions.Snapshot.{Snapshot}
use Rattle.rv_query.specs.declared.trail.Trail.{Trail}
use Rattle.rv_query.proofs.Trails.{trail-at}
use Rattle.rv_query.proofs.Early.{of_trail, seen-early}

module _ (i : Image) (rs : List Row) (s : ℕ) where
  abbrev before : List Numbered
  before = numbered 0 (take s rs)

  -- of one cell
  pub cell-answered : (c : ℕ) (t : Trail) (new : List Trail) (d : Trail) → t ≡ trail (initial_value i c) [] c s → length new ≡ 1 → GoPast c s (t ∷ []) new before → of_trail (get_or new 0 d) ≡ cell_seen i rs c s
  cell-answered c t new d is one past =
      let first : AreTrails (initial_value i) [] c s (t ∷ []) = (let from : t ≡ trail (initial_value i (c + 0)) [] (c + 0) s = is ∙ ap (λ k. trail (initial_value i k) [] k s) (sym (add-zero c)) in λ j. from j ∷ []) in
      let at = trail-at (initial_value i) before c s new 0 d (past (initial_value i) [] first) (omega (arith, one)) in
      ap of_trail (at ∙ ap (λ k. trail (initial_value i k) before k s) (add-zero c)) ∙ sym (seen-early i rs c s)

  -- of the registers
  registers-answered : (old new : List Trail) (regs : List ℕ) → AreTrails (initial_value i) [] (register_cell 0) s old → length new ≡ 32 → GoPast (register_cell 0) s old new before
      → ((seen : ℕ → Trail) → new ≡ map seen (range_with_len 0 32) → regs ≡ map (λ r. cond (r == 0) 0 (seen r).value) (range_with_len 0 32)) → regs ≡ map (register_seen i rs s) (range_with_len 0 32)
  registers-answered old new regs first all past values =
      let seen : ℕ → Trail = λ r. trail (initial_value i (register_cell r)) before (register_cell r) s in
      values seen (past (initial_value i) [] first ∙ ap (λ n. map seen (range_with_len 0 n)) all)
      ∙ (λ j. map (λ r. cond (r == 0) 0 (sym (ap (λ (x : CellSeen). x.value) (seen-early i rs (register_cell r) s)) j)) (range_with_len 0 32))

  pub state-answered : (old new : List Trail) (pc : ℕ) (regs : List ℕ) → AreTrails (initial_value i) [] (register_cell 0) s old → length new ≡ 32 → GoPast (register_cell 0) s old new before
      → ((seen : ℕ → Trail) → new ≡ map seen (range_with_len 0 32) → regs ≡ map (λ r. cond (r == 0) 0 (seen r).value) (range_with_len 0 32))
      → (row : Row) → slice_get rs s ≡ Some row → pc ≡ row.pc → record { pc = pc; regs = regs } ≡ state_seen i rs s
  unfolding state_seen
  state-answered old new pc regs first all past values row at is =
      let place : pc ≡ unwrap_or (option_map (λ (r : Row). r.pc) (slice_get rs s)) 0 = is ∙ sym (ap (λ o. unwrap_or (option_map (λ (r : Row). r.pc) o) 0) at) in
      let shown : regs ≡ map (register_seen i rs s) (range_with_len 0 32) = registers-answered old new regs first all past values in
      λ j. record { pc = place j; regs = shown j }

-- a step of the file has an answer
pub cell-there : (elf : List ℕ) (p : Parts) (c s : ℕ) (x : CellSeen) → s < p.header.steps → x ≡ cell_seen (image_of elf p) (all_rows p) c s → Some x ≡ cell_answer elf p c s
cell-there elf p c s x within is = ap (λ y. Some y) is ∙ sym (ap (λ b. cond b (Some (cell_seen (image_of elf p) (all_rows p) c s)) None) (lt-ltb s p.header.steps within))

pub state-there : (elf : List ℕ) (p : Parts) (s : ℕ) (x : Snapshot) → s < p.header.steps → x ≡ state_seen (image_of elf p) (all_rows p) s → Some x ≡ state_answer elf p s
state-there elf p s x within is = ap (λ y. Some y) is ∙ sym (ap (λ b. cond b (Some (state_seen (image_of elf p) (all_rows p) s)) None) (lt-ltb s p.header.steps within))
