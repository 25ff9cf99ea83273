use Rattle.std.proofs.Common.{◌≡◌, ◌+◌, ◌/◌, ◌%◌, ◌≤◌, ◌++◌, ◌∷◌, [], ℕ, false, length, decimal, sym, ap, ◌∙◌, arith}
use Rattle.std.specs.Fmt.{digit_glyph}
use Rattle.std.proofs.lemmas.List.{length-append, append-nil}
use Rattle.std.proofs.lemmas.Str.{encode_ascii}
use lib.Utf8.{encode}
use Rattle.rv_text.proofs.Digits.{decimal-one, decimal-more, after-digit, room-for-digit}
use Rattle.rv_text.proofs.disassembly.+push_decimal.Goals as goal
use Rattle.rv_text.proofs.disassembly.+push_decimal.Goals.{then-n-ge10, else-n-ge10}

abbrev last : ℕ → ℕ
last n = digit_glyph false (n % 10)

pub push_decimal-requires : goal.push_decimal-requires
push_decimal-requires t c =
    let n = c.args.n in
    (omega arith, omega (arith, ap length (decimal-more n c.if-n-ge10.true c.ranges.n.fits), length-append (decimal (n / 10)) (last n ∷ [])))

pub push-requires : goal.push-requires
push-requires t c =
    let n = c.args.n in
    let before = c.args.text.now.bytes in
    let text = c.if-n-ge10.text.bytes in
    let one : length (encode c.digit.result) ≡ 1 = ap length (encode_ascii c.digit.result c.digit.ensures.ascii) in
    let room : length text + 1 ≤ 48 = elim c.if-n-ge10.branch [
      | then-n-ge10 w ↦ room-for-digit before text (decimal (n / 10)) (decimal n) (last n) 48 (ap (λ s. s.bytes) w.text-is ∙ w.push_decimal.ensures) (decimal-more n w.if-n-ge10.true c.ranges.n.fits) c.requires
      | else-n-ge10 w ↦ room-for-digit before text [] (decimal n) (last n) 48 (ap (λ s. s.bytes) w.text-is ∙ sym (append-nil before)) (decimal-one n w.if-n-ge10.false) c.requires
    ] in
    (omega arith, omega arith)

pub returns : goal.returns
returns t c =
    let n = c.args.n in
    let before = c.args.text.now.bytes in
    let text = c.if-n-ge10.text.bytes in
    let pushed : c.push.new.self.bytes ≡ text ++ last n ∷ [] = c.push.ensures.ascii c.digit.ensures.ascii ∙ ap (λ d. text ++ d ∷ []) c.digit.ensures.value in
    elim c.if-n-ge10.branch [
      | then-n-ge10 w ↦ after-digit before text c.push.new.self.bytes (decimal (n / 10)) (decimal n) (last n) (ap (λ s. s.bytes) w.text-is ∙ w.push_decimal.ensures) pushed (decimal-more n w.if-n-ge10.true c.ranges.n.fits)
      | else-n-ge10 w ↦ after-digit before text c.push.new.self.bytes [] (decimal n) (last n) (ap (λ s. s.bytes) w.text-is ∙ sym (append-nil before)) pushed (decimal-one n w.if-n-ge10.false)
    ]
