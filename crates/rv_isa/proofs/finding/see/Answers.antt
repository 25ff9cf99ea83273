use Rattle.std.proofs.Common.{◌≡◌, ◌/◌, ◌^◌, ◌<◌, Option, sym, ◌∙◌, ap, subst, arith}
use Rattle.std.specs.Option.{IfSome}
use Rattle.rv_spec.specs.Step.{fetch_word}
use Rattle.rv_spec.specs.Decode.{AnyInstr, decode_any}
use Rattle.rv_spec.specs.Cells.{register_cell, reservation_cell}
use Rattle.rv_spec.specs.Visits.{instruction_uses, step_uses}
use Rattle.rv_rules.proofs.Lemmas.{word-aligned}
use Rattle.rv_mem.specs.Contents.{value_at}
use Rattle.rv_isa.specs.Decoded.{any_of}
use Rattle.rv_isa.proofs.Covered.{AreCovered}
use Rattle.rv_isa.proofs.Fields.{HasAnyFields, any-decoded}
use Rattle.rv_isa.proofs.Loads.{value-word}
use Rattle.rv_isa.proofs.Placed.{uses-placed}
use Rattle.rv_isa.proofs.Seeing.{reads-held, sees-covered}
use Rattle.rv_isa.proofs.finding.see.Goals as goal

pub returns-clause-sees : goal.returns-clause-sees
unfolding step_uses
returns-clause-sees c input s is holds fetched decoded =
    let f = value_at c.args.cells.now in
    let o = c.of_decoded-operands.result in
    let low : s.pc / 4 < 2 ^ 30 = omega (arith, is.pc) in
    let any : any_of c.args.decoded ≡ decode_any s.version (fetch_word s) = decoded ∙ ap (decode_any s.version) fetched in
    let fields : IfSome (any_of c.args.decoded) HasAnyFields = subst (λ (x : Option AnyInstr). IfSome x HasAnyFields) (sym any) (any-decoded s.version (fetch_word s)) in
    let covered : AreCovered o s (instruction_uses input (decode_any s.version (fetch_word s)) s) =
    subst (λ (x : Option AnyInstr). AreCovered o s (instruction_uses input x s)) any (c.of_decoded-operands.ensures.covered input s is) in (
      fetched ∙ sym (value-word s (s.pc / 4) low ∙ word-aligned s.memory s.pc is.aligned),
      sees-covered o s _ (instruction_uses input (decode_any s.version (fetch_word s)) s)
          (record {
            two = reads-held f s c.register.result (register_cell o.rs1) holds c.register.ensures;
            three = reads-held f s c.register-2.result (register_cell o.rs2) holds c.register-2.ensures;
            four = reads-held f s c.register-3.result (register_cell 11) holds c.register-3.ensures;
            five = reads-held f s c.register-4.result (register_cell 12) holds c.register-4.ensures;
            six = c.addressed.ensures s is holds (c.of_decoded-operands.ensures.based fields);
            seven = reads-held f s c.register-5.result (register_cell o.rd) holds c.register-5.ensures;
            eight = reads-held f s c.held.result reservation_cell holds c.held.ensures;
          }) covered (uses-placed input s is),
    )
