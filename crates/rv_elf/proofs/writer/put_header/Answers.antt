use Rattle.std.proofs.Common.{◌∷◌, [], ◌++◌, replicate, ap, ◌∙◌}
use Rattle.std.specs.Int.{w16, to_le_bytes}
use Rattle.rv_elf.specs.Written.{words_bytes}
use Rattle.rv_elf.proofs.WriterLaws.{header-is}
use Rattle.rv_elf.proofs.writer.put_header.Goals as goal

pub returns : goal.returns
returns c =
    c.in_ok-extend_from_slice-4.ensures.items
    ∙ ap (λ z. z ++ replicate 6 0) (c.in_ok-extend_from_slice-3.ensures.items
    ∙ ap (λ z. c.extend_from_slice-2.new.self.items ++ z) c.to_le_bytes.ensures
    ∙ ap (λ z. z ++ to_le_bytes w16 c.args.count) (c.in_ok-extend_from_slice-2.ensures.items
    ∙ ap (λ z. z ++ (52 ∷ 0 ∷ 32 ∷ 0 ∷ [])) (c.in_ok-put_words.ensures
    ∙ ap (λ z. z ++ words_bytes (1 ∷ c.args.entry ∷ 52 ∷ 0 ∷ 0 ∷ [])) c.in_ok-extend_from_slice.ensures.items)))
    ∙ header-is c.args.file.now.items c.args.entry c.args.count
