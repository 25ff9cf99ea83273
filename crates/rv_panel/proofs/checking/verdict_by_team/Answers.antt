use Rattle.std.proofs.Common.{◌≡◌, ◌∙◌, ◌<◌, ◌≤◌, ℕ, drop, length, refl, sym, ap, subst, arith}
use Rattle.std.proofs.lemmas.List.{length-take-le, length-drop}
use Rattle.rv_base.specs.declared.record.Refusal.{Refusal}
use Rattle.rv_base.specs.declared.record.Verdict.TheVariants.{Refuse}
use Rattle.rv_spec.specs.Elf.{Image}
use Rattle.rv_spec.specs.Words.{u32_at}
use Rattle.rv_file.specs.Parsing.{behind_shards}
use Rattle.rv_book.specs.Journal.{IsWhole}
use Rattle.rv_panel.specs.Checking.{Shards}
use Rattle.rv_panel.specs.Pieces.{shard_piece}
use Rattle.rv_panel.specs.Chaining.{subject_of}
use Rattle.rv_panel.proofs.FrontSteps.{front-refused}
use Rattle.rv_panel.proofs.PanelLaws.{header-passed, none-found, shards-within, whole-is}
use Rattle.rv_panel.proofs.checking.verdict_by_team.Goals as goal

pub returns-in-Err : goal.returns-in-Err
returns-in-Err g c =
    let lanes = g.L.Lanes.lanes in
    let p = c.args.program.now in
    sym (front-refused lanes p.elf p.input c.args.file.now c.in-Err.refusal (sym (c.in-Err.ensures.exact lanes)))

pub returns-then-found-eq0 : goal.returns-then-found-eq0
returns-then-found-eq0 g c =
    let lanes = g.L.Lanes.lanes in
    let p = c.args.program.now in
    let file = c.args.file.now in
    let h = c.in-Ok.header in
    let output = c.behind_header.result.0.now in
    let shards = c.behind_header.result.1.now in
    let passed = c.in-Ok.ensures.exact lanes in
    let pc = u32_at p.elf 24 in
    let none : length c.in_ok-starts.starts.items ≡ 0 = omega (arith, c.if-found-eq0.true, c.len-found.ensures) in
    ap (λ (r : Refusal). Refuse r) c.at.ensures
    ∙ sym (whole-is lanes p.elf p.input file h output shards passed c.behind_header.ensures.output c.behind_header.ensures.shards pc refl
    ∙ none-found lanes (subject_of p h output) (record { pc = pc; input = 0; output = 0 }) shards c.in_ok-starts.starts.items c.in_ok-starts.ensures none
    (shards-within h (header-passed lanes p.elf p.input file h output shards passed).numbers).0)

pub new-task-requires-after_bounds : goal.new-task-requires-after_bounds
new-task-requires-after_bounds g c κs within =
    let lanes = g.L.Lanes.lanes in
    let p = c.args.program.now in
    let file = c.args.file.now in
    let h = c.in-Ok.header in
    record {
      checked = header-passed lanes p.elf p.input file h c.behind_header.result.0.now c.behind_header.result.1.now (c.in-Ok.ensures.exact lanes);
      stated = ap length c.behind_header.ensures.output ∙ length-take-le h.length (drop 173 file) (omega (arith, c.in-Ok.ensures.room, length-drop 173 file));
      found = c.in_ok-starts.ensures;
    }

pub chain_shards-requires-clause-checked : goal.chain_shards-requires-clause-checked
chain_shards-requires-clause-checked g c κs within =
    let lanes = g.L.Lanes.lanes in
    let h = c.in-Ok.header in
    let shards = c.behind_header.result.1.now in
    let starts = c.in_ok-starts.starts.items in
    let book = c.in_ok-book.book in
    let are = c.in_ok-starts.ensures in
    let all : length starts ≡ c.len-found.result = omega (arith, c.len-found.ensures) in
    record {
      found = c.len-found.result;
      few = subst (λ (n : ℕ). n ≤ h.shards) all are.few;
      next = subst (λ (n : ℕ). n < h.shards → length (behind_shards n shards) < 32) all are.next;
      whole = subst (λ (t : Shards). IsWhole (shard_piece lanes t.subject t.bytes) c.len-found.result book) c.new-task.ensures c.in_ok-book.ensures;
    }

pub returns-in-Ok-chain_shards : goal.returns-in-Ok-chain_shards
returns-in-Ok-chain_shards g c =
    let lanes = g.L.Lanes.lanes in
    let p = c.args.program.now in
    let h = c.in-Ok.header in
    let output = c.behind_header.result.0.now in
    let shards = c.behind_header.result.1.now in
    let chained = c.in-Ok-chain_shards.ensures in
    let pc : c.entry.result ≡ u32_at p.elf 24 = c.entry.ensures.value ∙ ap (λ (m : Image). m.entry) c.image.ensures.value in
    c.finish.ensures chained.0 output chained.1.digests
    ∙ sym (whole-is lanes p.elf p.input c.args.file.now h output shards (c.in-Ok.ensures.exact lanes) c.behind_header.ensures.output c.behind_header.ensures.shards c.entry.result pc ∙ chained.1.verdict)

pub returns : goal.returns
returns g c =
    let lanes = g.L.Lanes.lanes in
    let p = c.args.program.now in
    let h = c.in-Ok.header in
    let output = c.behind_header.result.0.now in
    let shards = c.behind_header.result.1.now in
    let pc : c.entry.result ≡ u32_at p.elf 24 = c.entry.ensures.value ∙ ap (λ (m : Image). m.entry) c.image.ensures.value in
    sym (whole-is lanes p.elf p.input c.args.file.now h output shards (c.in-Ok.ensures.exact lanes) c.behind_header.ensures.output c.behind_header.ensures.shards c.entry.result pc ∙ c.in-Err-chain_shards.ensures)
