use Rattle.std.proofs.Common.{◌≡◌, ℕ, ◌+◌, ◌*◌, length, drop, sym, ap, ◌∙◌, arith}
use Rattle.std.proofs.lemmas.List.{take_rest}
use Rattle.std.proofs.lemmas.List.FromFn.{length-map-range_with_len, map-range_with_len_more}
use Rattle.rv_base.specs.declared.record.Access.{Access}
use Rattle.rv_rules.specs.Reading.{access_of}
use Rattle.rv_row.proofs.reading.read_accesses.Goals as goal

pub push-requires : goal.push-requires
push-requires c =
    let at : ℕ → Access = λ j. access_of (drop (9 + 21 * j) c.args.bytes.now) in
    let so_far : length c.loop-j.accesses.items ≡ c.loop-j.j = ap length c.loop-j.invariant ∙ length-map-range_with_len at 0 c.loop-j.j in
    (omega arith, omega (arith, so_far))

pub loop-j-preserved : goal.loop-j-preserved
loop-j-preserved c =
    let at : ℕ → Access = λ j. access_of (drop (9 + 21 * j) c.args.bytes.now) in
    let next : c.read_access.result ≡ at c.loop-j.j = c.read_access.ensures ∙ ap access_of (take_rest c.args.bytes.now (9 + 21 * c.loop-j.j)) in
    rw (c.push.ensures.items, next, c.loop-j.invariant) (sym (map-range_with_len_more at 0 c.loop-j.j c.loop-j.j (omega arith)))
