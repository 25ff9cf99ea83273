use Rattle.std.proofs.Common.{sym, ◌∙◌, ap, length, take, drop, map, ◌||◌, ◌-◌}
use Rattle.std.proofs.lemmas.Bool.{or_left}
use Rattle.rv_spec.specs.Elf.{some_overlap}
use Rattle.rv_elf.specs.Segments.{described}
use Rattle.rv_elf.proofs.ScanLaws.{overlap-first}
use Rattle.rv_elf.proofs.segment.+some_overlap.Goals as goal

pub returns-then-overlaps_any : goal.returns-then-overlaps_any
returns-then-overlaps_any t c =
    let rest = take (length c.args.segments.now - 1) (drop 1 c.args.segments.now) in
    c.if-overlaps_any.true
    ∙ sym (or_left _ (some_overlap (map described rest)) (sym c.overlaps_any.ensures ∙ c.if-overlaps_any.true))
    ∙ sym (overlap-first c.args.segments.now _ c.in-len1-up.len_at_least)

pub returns-else-overlaps_any : goal.returns-else-overlaps_any
returns-else-overlaps_any t c =
    let rest = take (length c.args.segments.now - 1) (drop 1 c.args.segments.now) in
    c.some_overlap.ensures
    ∙ ap (λ z. z || some_overlap (map described rest)) (sym (sym c.overlaps_any.ensures ∙ c.if-overlaps_any.false))
    ∙ sym (overlap-first c.args.segments.now _ c.in-len1-up.len_at_least)
