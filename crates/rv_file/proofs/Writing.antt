-- A header, written field after field.
use Rattle.std.proofs.Common.{◌≡◌, ℕ, ◌+◌, ◌≤◌, List, [], ◌∷◌, ◌++◌, length, take, drop, set, refl, sym, ap, ◌∙◌, append_assoc, arith}
use Rattle.std.specs.Int.{w32, w64, to_le_bytes}
use Rattle.std.proofs.lemmas.List.{length-append, length-drop, length-set, length-take-le, take_at, take_all, take_more_set}
use Rattle.rv_base.specs.LittleEndian.{SetsNumber}
use Rattle.rv_base.specs.declared.record.Header.{Header}
use Rattle.rv_spec.specs.Record.{magic}
use Rattle.rv_row.proofs.Lemmas.{fills}
use Rattle.rv_file.specs.Front.{with_numbers}

-- a field of bytes at a place
abbrev pub with_field : List ℕ → ℕ → List ℕ → List ℕ
with_field old at put = take at old ++ put ++ drop (at + length put) old

puts : (at end : ℕ) (old put new front : List ℕ) → at + length put ≡ end → end ≤ length old → take at old ≡ front → new ≡ with_field old at put → take end new ≡ front ++ put
puts at end old put new front ends room begun is =
    let taken : length (take at old) ≡ at = length-take-le at old (omega arith) in
    let both : length (take at old ++ put) ≡ end = length-append (take at old) put ∙ (omega (arith, taken)) in
    rw is (take_at (take at old ++ put) (drop (at + length put) old) end both)
    ∙ ap (λ (xs : List ℕ). xs ++ put) begun

length-puts : (at : ℕ) (old put new : List ℕ) → at + length put ≤ length old → new ≡ with_field old at put → length new ≡ length old
length-puts at old put new room is =
    let taken : length (take at old) ≡ at = length-take-le at old (omega arith) in
    ap length is ∙ length-append (take at old ++ put) (drop (at + length put) old) ∙ omega (arith, length-append (take at old) put, length-drop (at + length put) old, taken)

abbrev letters : List ℕ
letters = 0x52 ∷ 0x56 ∷ 0x33 ∷ 0x32 ∷ 0x52 ∷ 0x45 ∷ 0x43 ∷ []

pub hashes-written : (version : ℕ) (elf input b0 b1 b2 b3 : List ℕ) → length b0 ≡ 173 → length elf ≡ 64 → length input ≡ 64
    → b1 ≡ with_field b0 0 letters → b2 ≡ with_field (set b1 7 (48 + version)) 8 elf → b3 ≡ with_field b2 72 input
    → take 136 b3 ≡ magic version ++ elf ++ input
hashes-written version elf input b0 b1 b2 b3 long elf_long input_long is1 is2 is3 =
    let digit = 48 + version in
    let n1 : length b1 ≡ 173 = length-puts 0 b0 letters b1 (omega arith) is1 ∙ long in
    let n2 : length (set b1 7 digit) ≡ 173 = length-set b1 7 digit ∙ n1 in
    let n3 : length b2 ≡ 173 = length-puts 8 (set b1 7 digit) elf b2 (omega arith) is2 ∙ n2 in
    let first : take 7 b1 ≡ letters = puts 0 7 b0 letters b1 [] refl (omega arith) refl is1 in
    let known : take 8 (set b1 7 digit) ≡ magic version = take_more_set b1 7 digit (omega arith) ∙ ap (λ (xs : List ℕ). xs ++ digit ∷ []) first in
    let program : take 72 b2 ≡ magic version ++ elf = puts 8 72 (set b1 7 digit) elf b2 (magic version) (omega arith) (omega arith) known is2 in
    puts 72 136 b2 input b3 (magic version ++ elf) (omega arith) (omega arith) program is3

pub numbers-written : (h : Header) (b0 b1 b2 b3 b4 b5 b6 : List ℕ) → length b0 ≡ 173
    → SetsNumber w32 136 h.size b0 b1 → SetsNumber w64 140 h.steps b1 b2 → SetsNumber w32 148 h.shards b2 b3
    → SetsNumber w32 153 h.end.code (set b3 152 h.end.kind) b4 → SetsNumber w64 157 h.consumed b4 b5 → SetsNumber w64 165 h.length b5 b6
    → b6 ≡ with_numbers (take 136 b0) h
numbers-written h b0 b1 b2 b3 b4 b5 b6 long size steps shards code consumed output =
    let front = take 136 b0 in
    let n1 : length b1 ≡ 173 = size.size ∙ long in
    let n2 : length b2 ≡ 173 = steps.size ∙ n1 in
    let n3 : length b3 ≡ 173 = shards.size ∙ n2 in
    let k3 : length (set b3 152 h.end.kind) ≡ 173 = length-set b3 152 h.end.kind ∙ n3 in
    let n4 : length b4 ≡ 173 = code.size ∙ k3 in
    let n5 : length b5 ≡ 173 = consumed.size ∙ n4 in
    let n6 : length b6 ≡ 173 = output.size ∙ n5 in
    let to_shards = front ++ to_le_bytes w32 h.size ++ to_le_bytes w64 h.steps ++ to_le_bytes w32 h.shards in
    let to_code = to_shards ++ h.end.kind ∷ to_le_bytes w32 h.end.code in
    let f1 = fills w32 136 140 h.size b0 b1 front refl refl (omega arith) refl size in
    let f2 = fills w64 140 148 h.steps b1 b2 (front ++ to_le_bytes w32 h.size) refl refl (omega arith) f1 steps in
    let f3 : take 152 b3 ≡ to_shards = fills w32 148 152 h.shards b2 b3 (front ++ to_le_bytes w32 h.size ++ to_le_bytes w64 h.steps) refl refl (omega arith) f2 shards in
    let kind : take 153 (set b3 152 h.end.kind) ≡ to_shards ++ h.end.kind ∷ [] = take_more_set b3 152 h.end.kind (omega arith) ∙ ap (λ (xs : List ℕ). xs ++ h.end.kind ∷ []) f3 in
    let f4 : take 157 b4 ≡ to_code = fills w32 153 157 h.end.code (set b3 152 h.end.kind) b4 (to_shards ++ h.end.kind ∷ []) refl refl (omega arith) kind code ∙ append_assoc to_shards (h.end.kind ∷ []) (to_le_bytes w32 h.end.code) in
    let f5 = fills w64 157 165 h.consumed b4 b5 to_code refl refl (omega arith) f4 consumed in
    let f6 : take 173 b6 ≡ with_numbers front h = fills w64 165 173 h.length b5 b6 (to_code ++ to_le_bytes w64 h.consumed) refl refl (omega arith) f5 output in
    sym (take_all 173 b6 (omega arith)) ∙ f6
