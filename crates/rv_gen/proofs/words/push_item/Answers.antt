use Rattle.std.proofs.Common.{◌≡◌, ℕ, Bool, if◌then◌else◌, List, [], ◌∷◌, refl, sym, ap, subst, ◌∙◌, eq-eqb, ne_eqb}
use Rattle.rv_base.specs.declared.instr.Instr.{Instr}
use Rattle.rv_gen.specs.Words.{AddsPair}
use Rattle.rv_gen.specs.Programs.{call_item, single_item, alone, item_of, item}
use Rattle.rv_gen.proofs.Binds.{binding, on-ok, adds-pair}
use Rattle.rv_gen.proofs.words.push_item.Goals as goal

abbrev chosen : ℕ → ℕ → Bool → List Instr × ℕ
chosen k s calls = (if calls then call_item else alone (single_item k)) s

pub returns-then-kind-eq15 : goal.returns-then-kind-eq15
unfolding item item_of
returns-then-kind-eq15 c =
    let k = c.draw-kind.result in
    let s = c.draw-kind.new.self.state in
    let is : call_item s ≡ item c.args.draws.now.state = binding _ _ _ _ _ _ c.draw-kind.ensures.drawn (sym (ap (chosen k s) (eq-eqb k 15 c.if-kind-eq15.true))) in
    on-ok c.push_call.result (λ h. subst (λ (p : List Instr × ℕ). AddsPair p c.push_call.new.draws.state c.args.code.now.items c.push_call.new.code.items) is h) c.push_call.ensures

pub returns-else-kind-eq15 : goal.returns-else-kind-eq15
unfolding item item_of alone
returns-else-kind-eq15 c =
    let k = c.draw-kind.result in
    let s = c.draw-kind.new.self.state in
    let t = c.single_item.new.draws.state in
    let one : (c.single_item.result ∷ [], t) ≡ alone (single_item k) s = binding _ _ _ _ _ _ c.single_item.ensures.drawn refl in
    let is : (c.single_item.result ∷ [], t) ≡ item c.args.draws.now.state = binding _ _ _ _ _ _ c.draw-kind.ensures.drawn (one ∙ sym (ap (chosen k s) (ne_eqb k 15 c.if-kind-eq15.false))) in
    on-ok c.push.result (λ h. adds-pair _ (c.single_item.result ∷ []) t c.args.code.now.items c.push.new.code.items is h) c.push.ensures
