-- The header: what is read is spelled so, and what is spelled so is read.
use Rattle.std.proofs.Common.{◌≡◌, ℕ, zero, suc, ◌+◌, ◌≤◌, eqb, List, [], ◌∷◌, ◌++◌, length, get_or, take, drop, refl, sym, ap, ◌∙◌, append_assoc, arith}
use Rattle.std.specs.Prelude.{if◌then◌else◌}
use Rattle.std.specs.Int.{Width, w32, w64, from_le_bytes, to_le_bytes, IsInRange}
use Rattle.std.proofs.lemmas.List.{length-append, take_at, drop_at, drop-drop, take-append-drop, append-nil, get_or-append_right}
use Rattle.rv_base.specs.LittleEndian.{number_at}
use Rattle.rv_base.specs.declared.record.Header.{Header}
use Rattle.rv_spec.specs.Record.{magic, header_bytes}
use Rattle.rv_spec.specs.Grammar.{HeaderFits}
use Rattle.rv_rules.specs.Reading.{header_of}
use Rattle.rv_row.proofs.Lemmas.{wide32, wide64, field32, field64, byte-at-front}
use Rattle.rv_spec.specs.Words.{AreBytes}
use Rattle.rv_file.specs.Front.{with_numbers}

numbers-behind : (front : List ℕ) (h : Header) (rest : List ℕ) → with_numbers front h ++ rest ≡ front ++ (with_numbers [] h ++ rest)
numbers-behind front h rest = simp append_assoc

spell-numbers : (h : Header) (d173 d165 d157 d153 d152 d148 d140 d136 : List ℕ) → to_le_bytes w64 h.length ++ d173 ≡ d165 → to_le_bytes w64 h.consumed ++ d165 ≡ d157 → to_le_bytes w32 h.end.code ++ d157 ≡ d153
    → h.end.kind ∷ d153 ≡ d152 → to_le_bytes w32 h.shards ++ d152 ≡ d148 → to_le_bytes w64 h.steps ++ d148 ≡ d140 → to_le_bytes w32 h.size ++ d140 ≡ d136 → with_numbers [] h ++ d173 ≡ d136
spell-numbers h d173 d165 d157 d153 d152 d148 d140 d136 output consumed code kind shards steps size =
    let s = to_le_bytes w32 h.size in
    let n = to_le_bytes w64 h.steps in
    let m = to_le_bytes w32 h.shards in
    let c = to_le_bytes w32 h.end.code in
    ap (λ (xs : List ℕ). s ++ (n ++ (m ++ (h.end.kind ∷ (c ++ (to_le_bytes w64 h.consumed ++ xs)))))) output
    ∙ ap (λ (xs : List ℕ). s ++ (n ++ (m ++ (h.end.kind ∷ (c ++ xs))))) consumed
    ∙ ap (λ (xs : List ℕ). s ++ (n ++ (m ++ (h.end.kind ∷ xs)))) code
    ∙ ap (λ (xs : List ℕ). s ++ (n ++ (m ++ xs))) kind
    ∙ ap (λ (xs : List ℕ). s ++ (n ++ xs)) shards
    ∙ ap (λ (xs : List ℕ). s ++ xs) steps
    ∙ size

-- n bytes at a place, and what follows them
part : (bytes : List ℕ) (at n end : ℕ) → at + n ≡ end → take n (drop at bytes) ++ drop end bytes ≡ drop at bytes
part bytes at n end ends =
    ap (λ (xs : List ℕ). take n (drop at bytes) ++ xs) (ap (λ k. drop k bytes) (sym ends) ∙ sym (drop-drop n at bytes))
    ∙ take-append-drop n (drop at bytes)

pub header-takes : (bytes : List ℕ) → AreBytes bytes → 173 ≤ length bytes → take 8 bytes ≡ magic (header_of bytes).version → header_bytes (header_of bytes) ++ drop 173 bytes ≡ bytes
unfolding header_bytes
header-takes bytes fits room known =
    let h = header_of bytes in
    let front = magic h.version ++ h.elf ++ h.input in
    let numbers : with_numbers [] h ++ drop 173 bytes ≡ drop 136 bytes =
    spell-numbers h (drop 173 bytes) (drop 165 bytes) (drop 157 bytes) (drop 153 bytes) (drop 152 bytes) (drop 148 bytes) (drop 140 bytes) (drop 136 bytes)
    (field64 bytes 165 173 fits refl room) (field64 bytes 157 165 fits refl (omega arith)) (field32 bytes 153 157 fits refl (omega arith)) (byte-at-front bytes 152 153 refl (omega arith))
    (field32 bytes 148 152 fits refl (omega arith)) (field64 bytes 140 148 fits refl (omega arith)) (field32 bytes 136 140 fits refl (omega arith)) in
    numbers-behind front h (drop 173 bytes)
    ∙ ap (λ (xs : List ℕ). front ++ xs) numbers
    ∙ append_assoc (magic h.version ++ h.elf) h.input (drop 136 bytes)
    ∙ ap (λ (xs : List ℕ). magic h.version ++ h.elf ++ xs) (part bytes 72 64 136 refl)
    ∙ append_assoc (magic h.version) h.elf (drop 72 bytes)
    ∙ ap (λ (xs : List ℕ). magic h.version ++ xs) (part bytes 8 64 72 refl)
    ∙ ap (λ (xs : List ℕ). xs ++ drop 8 bytes) (sym known)
    ∙ take-append-drop 8 bytes

version-again : (v : ℕ) → IsInRange 1 2 v → (if eqb (48 + v) 50 then 2 else 1) ≡ v
version-again zero range = absurd (omega (arith, range.0))
version-again (suc zero) range = refl
version-again (suc (suc zero)) range = refl
version-again (suc (suc (suc v))) range = absurd (omega (arith, range.1))

-- a number behind the hashes
behind : (w : Width) (whole front tail : List ℕ) (at k : ℕ) → whole ≡ front ++ tail → length front ≡ 136 → 136 + k ≡ at → number_at w whole at ≡ number_at w tail k
behind w whole front tail at k is size ends =
    let here : drop at whole ≡ drop k tail =
    ap (λ n. drop n whole) (sym ends) ∙ sym (drop-drop k 136 whole) ∙ ap (λ (xs : List ℕ). drop k (drop 136 xs)) is ∙ ap (λ (xs : List ℕ). drop k xs) (drop_at front tail 136 size) in
    ap (λ (xs : List ℕ). from_le_bytes w xs) here

byte-behind : (whole front tail : List ℕ) (at k : ℕ) → whole ≡ front ++ tail → length front ≡ 136 → 136 + k ≡ at → get_or whole at 0 ≡ get_or tail k 0
byte-behind whole front tail at k is size ends =
    ap (λ (xs : List ℕ). get_or xs at 0) is
    ∙ get_or-append_right front tail 136 at 0 size (omega arith)
    ∙ ap (λ n. get_or tail n 0) (omega arith)

pub header-again : (h : Header) (rest : List ℕ) → HeaderFits h → header_of (header_bytes h ++ rest) ≡ h
unfolding header_bytes
header-again h rest fits =
    let front = magic h.version ++ h.elf ++ h.input in
    let tail = with_numbers [] h ++ rest in
    let whole = header_bytes h ++ rest in
    let is : whole ≡ front ++ tail = numbers-behind front h rest in
    let long : length front ≡ 136 = omega (arith, length-append (magic h.version ++ h.elf) h.input, length-append (magic h.version) h.elf, fits.elf.0, fits.input.0) in
    let after_magic : drop 8 whole ≡ h.elf ++ (h.input ++ tail) = ap (λ (xs : List ℕ). drop 8 xs) is ∙ append_assoc h.elf h.input tail in
    let after_elf : drop 72 whole ≡ h.input ++ tail = sym (drop-drop 64 8 whole) ∙ ap (λ (xs : List ℕ). drop 64 xs) after_magic ∙ drop_at h.elf (h.input ++ tail) 64 fits.elf.0 in
    let version : (header_of whole).version ≡ h.version = version-again h.version fits.version in
    let elf : (header_of whole).elf ≡ h.elf = ap (λ (xs : List ℕ). take 64 xs) after_magic ∙ take_at h.elf (h.input ++ tail) 64 fits.elf.0 in
    let input : (header_of whole).input ≡ h.input = ap (λ (xs : List ℕ). take 64 xs) after_elf ∙ take_at h.input tail 64 fits.input.0 in
    let size : (header_of whole).size ≡ h.size = behind w32 whole front tail 136 0 is long refl ∙ wide32.again h.size [] (omega (arith, fits.size.1)) in
    let steps : (header_of whole).steps ≡ h.steps = behind w64 whole front tail 140 4 is long refl ∙ wide64.again h.steps [] (omega (arith, fits.steps.1)) in
    let shards : (header_of whole).shards ≡ h.shards = behind w32 whole front tail 148 12 is long refl ∙ wide32.again h.shards [] (omega (arith, fits.shards_within)) in
    let kind : (header_of whole).end.kind ≡ h.end.kind = byte-behind whole front tail 152 16 is long refl in
    let code : (header_of whole).end.code ≡ h.end.code = behind w32 whole front tail 153 17 is long refl ∙ wide32.again h.end.code [] fits.code in
    let consumed : (header_of whole).consumed ≡ h.consumed = behind w64 whole front tail 157 21 is long refl ∙ wide64.again h.consumed [] fits.consumed in
    let output : (header_of whole).length ≡ h.length = behind w64 whole front tail 165 29 is long refl ∙ wide64.again h.length [] (omega (arith, fits.length)) in
    λ i. record {
      version = version i;
      elf = elf i;
      input = input i;
      size = size i;
      steps = steps i;
      shards = shards i;
      end = record { kind = kind i; code = code i };
      consumed = consumed i;
      length = output i;
    }

pub length-header_bytes : (h : Header) → HeaderFits h → length (header_bytes h) ≡ 173
unfolding header_bytes
length-header_bytes h fits =
    let front = magic h.version ++ h.elf ++ h.input in
    let numbers = with_numbers [] h ++ [] in
    ap length (sym (append-nil (with_numbers front h)) ∙ numbers-behind front h []) ∙ length-append front numbers
    ∙ omega (arith, length-append (magic h.version ++ h.elf) h.input, length-append (magic h.version) h.elf, fits.elf.0, fits.input.0)
