use Rattle.std.proofs.Common.{◌≡◌, ℕ, ◌==◌, cond, get_or, replicate, ap, sym, subst, ◌∙◌, refl, arith}
use Rattle.std.proofs.lemmas.Bool.{ne_eqb}
use Rattle.std.proofs.lemmas.List.FromFn.{get_or-map-range_with_len, fill_by_all}
use Rattle.rv_query.specs.declared.trail.Trail.{Trail}
use Rattle.rv_query.proofs.Trails.{no_trail}
use Rattle.rv_query.proofs.Filled.{filled-more}
use Rattle.rv_query.proofs.questions.register_values.Goals as goal

pub loop-r-init : goal.loop-r-init
loop-r-init c = record {
  long = refl;
  each = λ j less. (let same : 0 ≡ j = omega (arith, less) in subst (λ m. get_or (replicate 32 0) m 0 ≡ cond (m == 0) 0 (get_or c.args.trails.now m no_trail).value) same refl);
}

pub loop-r-preserved : goal.loop-r-preserved
loop-r-preserved c =
    let value : ℕ → ℕ = λ r. (get_or c.args.trails.now r no_trail).value in
    filled-more (λ r. cond (r == 0) 0 (value r)) 0 32 c.loop-r.r c.loop-r.values (value c.loop-r.r) c.loop-r-test.true
    (sym (ap (λ b. cond b 0 (value c.loop-r.r)) (ne_eqb c.loop-r.r 0 (λ e. absurd (omega (arith, e, c.loop-r.auto.r)))))) c.loop-r.invariant

pub returns : goal.returns
returns c seen are =
    fill_by_all (λ r. cond (r == 0) 0 (seen r).value) c.loop-r.values 32 0 c.loop-r.invariant.long
    (λ j less.
    c.loop-r.invariant.each j (omega (arith, less, c.loop-r-test.false))
    ∙ ap (λ (t : Trail). cond (j == 0) 0 t.value) (ap (λ l. get_or l j no_trail) are ∙ get_or-map-range_with_len seen 0 32 j j no_trail less (omega arith)))
