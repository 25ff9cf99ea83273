use Rattle.std.proofs.Common.{◌≡◌, ◌∙◌, ◌+◌, ◌-◌, ℕ, List, length, take, Bor, sym, ap, subst, arith}
use Rattle.rv_base.specs.declared.record.Header.{Header}
use Rattle.rv_rules.proofs.Lemmas.{bytes-are}
use Rattle.rv_file.specs.Parsing.{HoldsShards, behind_shards}
use Rattle.rv_file.proofs.Lemmas.{form-is-grammar}
use Rattle.rv_parts.specs.Cutting.{first_of, count_of}
use Rattle.rv_parts.proofs.Fronts.{front-is, front-room}
use Rattle.rv_parts.proofs.ShardsOfParts.{part-at}
use Rattle.rv_parts.proofs.CutLaws.{last-body, inner-body}
use Rattle.rv_parts.proofs.cutting.part_cut.Goals as goal
use Rattle.rv_parts.proofs.cutting.part_cut.Goals.{then-number-parts, else-number-parts}

pub slice_bounds-front-count : goal.slice_bounds-front-count
slice_bounds-front-count c =
    let spells = (form-is-grammar c.args.file.now c.args.parsed.now (bytes-are c.args.file.now (λ i. omega (arith, c.type_inv.file i)))).0 c.requires.parsed in
    front-room c.args.parsed.now c.args.file.now c.body-shards.result.now spells c.body-shards.ensures.spelled

pub behind_first-from-requires : goal.behind_first-from-requires
behind_first-from-requires c =
    let q = c.args.parsed.now in
    let at = part-at q c.body-shards.result.now c.args.parts c.args.number c.body-shards.ensures.fit c.body-shards.ensures.spelled c.requires.some.0 c.requires.number in
    let first : c.first_shard-first.result ≡ first_of q.header.shards c.args.parts c.args.number = c.first_shard-first.ensures ∙ ap (λ (h : Header). first_of h.shards c.args.parts c.args.number) c.header-header.ensures in
    subst (λ k. HoldsShards k c.body-shards.result.now) (sym first) at.before

pub first_shards-body-requires : goal.first_shards-body-requires
first_shards-body-requires c =
    let q = c.args.parsed.now in
    let shards = c.body-shards.result.now in
    let header = c.header-header.ensures in
    let at = part-at q shards c.args.parts c.args.number c.body-shards.ensures.fit c.body-shards.ensures.spelled c.requires.some.0 c.requires.number in
    let first : c.first_shard-first.result ≡ first_of q.header.shards c.args.parts c.args.number = c.first_shard-first.ensures ∙ ap (λ (h : Header). first_of h.shards c.args.parts c.args.number) header in
    let next : c.first_shard.result ≡ first_of q.header.shards c.args.parts (c.args.number + 1) = c.first_shard.ensures ∙ ap (λ (h : Header). first_of h.shards c.args.parts (c.args.number + 1)) header in
    let here : c.behind_first-from.result.now ≡ behind_shards (first_of q.header.shards c.args.parts c.args.number) shards = c.behind_first-from.ensures.value ∙ ap (λ k. behind_shards k shards) first in
    subst (λ k. HoldsShards k c.behind_first-from.result.now) (λ t. sym next t - sym first t) (subst (λ (xs : List ℕ). HoldsShards (count_of q.header.shards c.args.parts c.args.number) xs) (sym here) at.holds)

pub returns-clause-front : goal.returns-clause-front
returns-clause-front c =
    let spells = (form-is-grammar c.args.file.now c.args.parsed.now (bytes-are c.args.file.now (λ i. omega (arith, c.type_inv.file i)))).0 c.requires.parsed in
    front-is c.args.parsed.now c.args.file.now c.body-shards.result.now spells c.body-shards.ensures.spelled

pub returns-clause-body : goal.returns-clause-body
returns-clause-body c =
    let q = c.args.parsed.now in
    let n = q.header.shards in
    let parts = c.args.parts in
    let p = c.args.number in
    let shards = c.body-shards.result.now in
    let fit = c.body-shards.ensures.fit in
    let header = c.header-header.ensures in
    let at = part-at q shards parts p fit c.body-shards.ensures.spelled c.requires.some.0 c.requires.number in
    let first : c.first_shard-first.result ≡ first_of n parts p = c.first_shard-first.ensures ∙ ap (λ (h : Header). first_of h.shards parts p) header in
    let next : c.first_shard.result ≡ first_of n parts (p + 1) = c.first_shard.ensures ∙ ap (λ (h : Header). first_of h.shards parts (p + 1)) header in
    let here : c.behind_first-from.result.now ≡ behind_shards (first_of n parts p) shards = c.behind_first-from.ensures.value ∙ ap (λ k. behind_shards k shards) first in
    elim c.if-number-parts.branch [
      | then-number-parts w ↦ ap (λ (b : Bor (List ℕ)). b.now) w.body-is ∙ here ∙ at.from ∙ sym (last-body q parts c.requires.some.0 fit.count p w.if-number-parts.true)
      | else-number-parts w ↦
          ap (λ (b : Bor (List ℕ)). b.now) w.body-is
          ∙ w.first_shards-body.ensures
          ∙ (λ t. take (length (here t) - length (behind_shards (next t - first t) (here t))) (here t))
          ∙ at.taken
          ∙ sym (inner-body q parts c.requires.some.0 p (omega (arith, c.requires.number, w.if-number-parts.false)))
    ]
