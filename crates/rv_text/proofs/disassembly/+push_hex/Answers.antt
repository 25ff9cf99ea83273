use Rattle.std.proofs.Common.{◌≡◌, ◌+◌, ◌/◌, ◌%◌, ◌≤◌, ◌++◌, ◌∷◌, [], ℕ, false, length, sym, ap, ◌∙◌, arith}
use Rattle.std.specs.Fmt.{digit_glyph}
use Rattle.std.proofs.lemmas.List.{length-append, append-nil}
use Rattle.std.proofs.lemmas.Str.{encode_ascii}
use lib.Utf8.{encode}
use Rattle.rv_text.specs.Syntax.{hex}
use Rattle.rv_text.proofs.Digits.{hex-one, hex-more, after-digit, room-for-digit}
use Rattle.rv_text.proofs.disassembly.+push_hex.Goals as goal
use Rattle.rv_text.proofs.disassembly.+push_hex.Goals.{then-n-ge16, else-n-ge16}

abbrev last : ℕ → ℕ
last n = digit_glyph false (n % 16)

pub push_hex-requires : goal.push_hex-requires
push_hex-requires t c =
    let n = c.args.n in
    (omega arith, omega (arith, ap length (hex-more n c.if-n-ge16.true c.ranges.n.fits), length-append (hex (n / 16)) (last n ∷ [])))

pub push-requires : goal.push-requires
push-requires t c =
    let n = c.args.n in
    let before = c.args.text.now.bytes in
    let text = c.if-n-ge16.text.bytes in
    let one : length (encode c.digit.result) ≡ 1 = ap length (encode_ascii c.digit.result c.digit.ensures.ascii) in
    let room : length text + 1 ≤ 48 = elim c.if-n-ge16.branch [
      | then-n-ge16 w ↦ room-for-digit before text (hex (n / 16)) (hex n) (last n) 48 (ap (λ s. s.bytes) w.text-is ∙ w.push_hex.ensures) (hex-more n w.if-n-ge16.true c.ranges.n.fits) c.requires
      | else-n-ge16 w ↦ room-for-digit before text [] (hex n) (last n) 48 (ap (λ s. s.bytes) w.text-is ∙ sym (append-nil before)) (hex-one n w.if-n-ge16.false) c.requires
    ] in
    (omega arith, omega arith)

pub returns : goal.returns
returns t c =
    let n = c.args.n in
    let before = c.args.text.now.bytes in
    let text = c.if-n-ge16.text.bytes in
    let pushed : c.push.new.self.bytes ≡ text ++ last n ∷ [] = c.push.ensures.ascii c.digit.ensures.ascii ∙ ap (λ d. text ++ d ∷ []) c.digit.ensures.value in
    elim c.if-n-ge16.branch [
      | then-n-ge16 w ↦ after-digit before text c.push.new.self.bytes (hex (n / 16)) (hex n) (last n) (ap (λ s. s.bytes) w.text-is ∙ w.push_hex.ensures) pushed (hex-more n w.if-n-ge16.true c.ranges.n.fits)
      | else-n-ge16 w ↦ after-digit before text c.push.new.self.bytes [] (hex n) (last n) (ap (λ s. s.bytes) w.text-is ∙ sym (append-nil before)) pushed (hex-one n w.if-n-ge16.false)
    ]
