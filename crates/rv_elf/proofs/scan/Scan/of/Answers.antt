use Rattle.std.proofs.Common.{◌≡◌, ◌+◌, ◌*◌, ℕ, ◌∷◌, [], ◌++◌, length, map, arith, ap, subst, sym, ◌∙◌}
use Rattle.std.specs.List.{range_with_len}
use Rattle.std.proofs.lemmas.List.FromFn.{map-range_with_len_more}
use Rattle.rv_spec.specs.Elf.{Segment as Described, headers, headers_at, header_count, header_at}
use Rattle.rv_elf.specs.Segments.{described, IsScan}
use Rattle.rv_elf.proofs.scan.Scan.of.Goals as goal

pub loop-i-preserved : goal.loop-i-preserved
loop-i-preserved c =
    let file = c.args.file.now in
    let i = c.loop-i.i in
    let f : ℕ → Described = λ i. header_at file (headers_at file + 32 * i) in
    let is : described c.at.result ≡ f i = c.at.ensures ∙ ap (λ t. header_at file (t + 32 * i)) c.get32-table.ensures in
    subst (λ hs. IsScan (length file) hs c.note.new.self) (sym (map-range_with_len_more f 0 i i (omega arith)))
    (subst (λ h. IsScan (length file) (map f (range_with_len 0 i) ++ h ∷ []) c.note.new.self) is (c.note.ensures (map f (range_with_len 0 i)) c.loop-i.invariant))

pub returns : goal.returns
unfolding headers
returns c =
    let file = c.args.file.now in
    let done = c.loop-i-test.false in
    let within = c.loop-i.auto.i-end in
    let all : c.loop-i.i ≡ header_count file = (let same : c.loop-i.i ≡ c.get16-count.result = omega arith in same ∙ c.get16-count.ensures) in
    subst (λ n. IsScan (length file) (map (λ i. header_at file (headers_at file + 32 * i)) (range_with_len 0 n)) c.loop-i.scan) all c.loop-i.invariant
