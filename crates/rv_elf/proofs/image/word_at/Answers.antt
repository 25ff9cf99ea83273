use Rattle.std.proofs.Common.{◌≡◌, ◌+◌, ◌<◌, ℕ, sym, ◌∙◌, ap, arith}
use Rattle.rv_elf.proofs.IndexLaws.{rises}
use Rattle.rv_elf.proofs.Lookups.{found-in-file, found-behind, found-nothing, loads_byte, word-is, word-in-file, one-after-another}
use Rattle.rv_elf.proofs.image.word_at.Goals as goal

pub last_begun-requires : goal.last_begun-requires
last_begun-requires c = rises _ _ c.requires.indexed

pub returns-in_default : goal.returns-in_default
returns-in_default c =
    let file = c.args.file.now in
    let a = c.args.address in
    let none : (k : ℕ) → k < 4 → 0 ≡ loads_byte file (a + k) = λ k h.
    sym (found-nothing file c.args.index.now c.requires.faultless c.requires.indexed (a + 3) (a + k) c.last_begun.result c.last_begun.ensures c.in_default.is (omega arith)) in
    let here : a + 0 ≡ a = omega arith in
    word-is file a 0 0 0 0 (none 0 (omega arith) ∙ ap (loads_byte file) here) (none 1 (omega arith)) (none 2 (omega arith)) (none 3 (omega arith))

pub returns-then-bytes_end-address : goal.returns-then-bytes_end-address
returns-then-bytes_end-address c =
    let file = c.args.file.now in
    let a = c.args.address in
    let l = c.in-Some.ensures in
    let none : (k : ℕ) → k < 4 → 0 ≡ loads_byte file (a + k) = λ k h.
    sym (found-behind file c.args.index.now c.requires.faultless c.requires.indexed (a + 3) l.0 c.in-Some.segment (a + k) l.1 l.2
    (let end = c.bytes_end.ensures in let before = c.if-bytes_end-address.true in omega arith) (omega arith)) in
    let here : a + 0 ≡ a = omega arith in
    word-is file a 0 0 0 0 (none 0 (omega arith) ∙ ap (loads_byte file) here) (none 1 (omega arith)) (none 2 (omega arith)) (none 3 (omega arith))

pub get32-requires : goal.get32-requires
get32-requires c =
    let l = c.in-Some.ensures in
    let within = found-in-file c.args.file.now c.args.index.now c.requires.faultless c.requires.indexed (c.args.address + 3) l.0 c.in-Some.segment l.1 l.2 in
    let low = c.if-segment-address.true in
    let end = c.bytes_end-then-segment-address.ensures in
    let high = c.if-address-bytes_end.true in
    omega arith

pub returns-then-address-bytes_end : goal.returns-then-address-bytes_end
returns-then-address-bytes_end c =
    let l = c.in-Some.ensures in
    let low = c.if-segment-address.true in
    let end = c.bytes_end-then-segment-address.ensures in
    let high = c.if-address-bytes_end.true in
    c.get32.ensures
    ∙ word-in-file c.args.file.now _ c.args.address (λ k h.
    one-after-another c.args.file.now c.args.index.now c.requires.faultless c.requires.indexed (c.args.address + 3) l.0 c.in-Some.segment c.args.address k l.1 l.2 low (omega arith))

pub returns : goal.returns
returns c =
    c.from_le_bytes.ensures
    ∙ word-is c.args.file.now c.args.address _ _ _ _ c.byte_at.ensures c.byte_at-2.ensures c.byte_at-3.ensures c.byte_at-4.ensures
