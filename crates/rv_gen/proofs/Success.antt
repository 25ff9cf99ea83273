-- Each generated program ends with success.
use Rattle.std.proofs.Common.{◌≡◌, inl, ℕ, zero, suc, ◌+◌, ◌*◌, ◌/◌, ◌≤◌, List, [], ◌∷◌, ◌++◌, length, map, Some, refl, sym, ◌∙◌, ap, subst, arith, length-append}
use Rattle.std.specs.Int.{IsInRange, div_ceil}
use Rattle.rv_base.specs.declared.limits.TheConstants.{SHARDS_LIMIT}
use Rattle.rv_base.specs.declared.instr.Instr.{Instr}
use Rattle.rv_spec.specs.Decode.{decode}
use Rattle.rv_spec.specs.Elf.{Image, image}
use Rattle.rv_spec.specs.Step.{start}
use Rattle.rv_spec.specs.Run.{run}
use Rattle.rv_elf.specs.Written.{words_bytes}
use Rattle.rv_gen.specs.Draws.{draw, bytes, ◌>>=◌}
use Rattle.rv_gen.specs.Programs.{code_start, front, back, filled, items, code, drawn, program, SpellCode, executable_of, IsProgram}
use Rattle.rv_gen.specs.Runs.{Succeeds, ProgramsSucceed}
use Rattle.rv_gen.proofs.Lengths.{length-map, items-few, filled-length}
use Rattle.rv_gen.proofs.Harmless.{filled-harmless, items-harmless}
use Rattle.rv_gen.proofs.Between.{Between, CodeAt}
use Rattle.rv_gen.proofs.Ending.{EndsWithin, ends-in}
use Rattle.rv_gen.proofs.Rounds.{program-ends}
use Rattle.rv_gen.proofs.Image.{executable-size, executable-faultless, code_blocks, executable-image, code_memory, image-spells}

bytes-length : (n s : ℕ) → length (bytes n s).0 ≡ n
unfolding bytes ◌>>=◌
bytes-length zero s = refl
bytes-length (suc n) s = ap suc (bytes-length n (draw 256 s).1)

module _ (number size : ℕ) where
  abbrev start_words : List Instr
  start_words = (filled 10 18 number).0

  abbrev body : List Instr
  body = (items 32 (filled 10 18 number).1).0

  code-is : (program number size).0 ≡ front (size / 42) ++ start_words ++ body ++ back (length body)
  unfolding drawn code ◌>>=◌
  code-is = refl

  input-length : length (program number size).1 ≡ 256
  unfolding drawn ◌>>=◌
  input-length = bytes-length 256 (code (size / 42) number).1

  few-words : length (front (size / 42) ++ start_words ++ body ++ back (length body)) ≤ 188
  few-words =
      let n = items-few 32 (filled 10 18 number).1 in
      let filling = filled-length 10 18 number in
      omega (arith, length-append (front (size / 42)) start_words, length-append (front (size / 42) ++ start_words) body, length-append (front (size / 42) ++ start_words ++ body) (back (length body)))

  few-code : (words : List ℕ) → SpellCode words (program number size).0 → length words ≤ 188
  few-code words spells =
      let few = few-words in
      let same : length (map decode words) ≡ length (map Some (program number size).0) = ap length spells.spell in
      let is : length (program number size).0 ≡ length (front (size / 42) ++ start_words ++ body ++ back (length body)) = ap length code-is in
      omega (arith, length-map decode words, length-map Some (program number size).0)

  ends : (words input : List ℕ) → IsInRange 42 84000 size → SpellCode words (program number size).0 → EndsWithin input (163 * (size / 42) + 24) (start (image 1 (executable_of words)))
  ends words input range spells =
      let few = few-code words spells in
      let enough : length words ≤ 1000 = omega arith in
      let image_at : Image = record { version = 1; entry = code_start; blocks = code_blocks words enough } in
      let at : CodeAt (code_memory words enough) 0 (front (size / 42) ++ start_words ++ body ++ back (length body)) =
      subst (CodeAt (code_memory words enough) 0) code-is (image-spells words enough (program number size).0 spells.fit spells.spell) in
      let begun : Between (code_memory words enough) 0 0 0 (start image_at) = record { pc = refl; many = refl; based = refl; counted = refl; buffer = inl (omega arith); call = omega arith; code = λ a low high. refl } in
      let filling : length start_words ≡ 20 = filled-length 10 18 number in
      let short : length body ≤ 160 = items-few 32 (filled 10 18 number).1 in
      subst (λ i. EndsWithin input (163 * (size / 42) + 24) (start i)) (sym (executable-image words enough))
      (program-ends input (code_memory words enough) start_words body (size / 42) (start image_at) (filled-harmless 10 18 number (omega arith)) (items-harmless 32 (filled 10 18 number).1) at filling short (omega arith) (omega arith) begun)

  succeeds : (words input : List ℕ) → IsInRange 42 84000 size → SpellCode words (program number size).0 → input ≡ (program number size).1 → Succeeds size (executable_of words) input
  unfolding run
  succeeds words input range spells given =
      let few = few-code words spells in
      let enough : length words ≤ 1000 = omega arith in
      let ending = ends words input range spells in
      let most = ending.few in
      record {
        faultless = executable-faultless words enough;
        file_within = (let size = executable-size words enough in omega arith);
        input_length = ap length given ∙ input-length;
        steps = suc ending.steps;
        ends = ends-in (image 1 (executable_of words)) input ending.steps ending.ends;
        few = omega arith;
        most = omega arith;
      }

pub programs-succeed : ProgramsSucceed
programs-succeed number size file input range is = subst (λ f. Succeeds size f input) (sym is.elf) (succeeds number size is.code input range is.spells is.input)

-- the image of a program's executable begins with the first of its words, and has nothing else
pub program-image : (number size : ℕ) (file input : List ℕ) (is : IsProgram number size file input)
    → image 1 file ≡ record { version = 1; entry = code_start; blocks = record { address = code_start; bytes = words_bytes is.code } ∷ [] }
program-image number size file input is =
    let few = few-code number size is.code is.spells in
    ap (image 1) is.elf ∙ executable-image is.code (omega arith)

-- with 1,024 rows in a shard, so many steps have few shards
pub few-shards : (steps : ℕ) → steps ≤ 326025 → div_ceil steps 1024 ≤ SHARDS_LIMIT
few-shards steps few = omega arith
