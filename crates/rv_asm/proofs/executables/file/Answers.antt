use Rattle.std.proofs.Common.{◌≡◌, ◌∷◌, [], length, ap, subst, ◌∙◌, arith, rules}
use Rattle.rv_spec.specs.Elf.{image}
use Rattle.rv_elf.specs.ElfFile.{PartBytes, elf_file}
use Rattle.rv_elf.specs.Written.{words_bytes, HoldsParts}
use Rattle.rv_asm.specs.Executable.{executable}
use Rattle.rv_asm.proofs.ImageLaws.{length-words, words-held, part-is, if-ok}
use Rattle.rv_asm.proofs.executables.file.Goals as goal

pub overflow_cast-len : goal.overflow_cast-len
overflow_cast-len c = omega (arith, ap length c.in_ok-bytes.ensures, length-words c.args.words.now)

pub write-requires-clause-in_memory : goal.write-requires-clause-in_memory
write-requires-clause-in_memory c = (omega (arith, ap length c.in_ok-bytes.ensures, length-words c.args.words.now), tt)

pub write-requires-clause-within_limit : goal.write-requires-clause-within_limit
write-requires-clause-within_limit c = omega (arith, ap length c.in_ok-bytes.ensures, length-words c.args.words.now)

pub returns-clause-file : goal.returns-clause-file
unfolding executable
returns-clause-file c =
    let same : c.deref.result.now ≡ words_bytes c.args.words.now = c.deref.ensures.value ∙ c.in_ok-bytes.ensures in
    let long : c.len-len.result ≡ length c.deref.result.now = search rules in
    if-ok c.write.result (λ v e. e ∙ ap (λ (p : PartBytes). elf_file 65536 (p ∷ [])) (part-is c.args.words.now c.deref.result.now c.len-len.result same long)) c.write.ensures.file

pub returns-clause-size : goal.returns-clause-size
returns-clause-size c =
    let same : c.deref.result.now ≡ words_bytes c.args.words.now = c.deref.ensures.value ∙ c.in_ok-bytes.ensures in
    if-ok c.write.result (λ v e. omega (arith, e, ap length same, length-words c.args.words.now)) c.write.ensures.size

pub returns-clause-words : goal.returns-clause-words
returns-clause-words c =
    let same : c.deref.result.now ≡ words_bytes c.args.words.now = c.deref.ensures.value ∙ c.in_ok-bytes.ensures in
    let long : c.len-len.result ≡ length c.deref.result.now = search rules in
    if-ok c.write.result
    (λ v h.
    words-held c.args.words.now (image 1 v.items)
    (subst (λ (p : PartBytes). HoldsParts (p ∷ []) (image 1 v.items)) (part-is c.args.words.now c.deref.result.now c.len-len.result same long) h)
    (λ k within. let w = c.type_inv.words k in omega arith))
    c.write.ensures.held
