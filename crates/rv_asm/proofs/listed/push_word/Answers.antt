use Rattle.std.proofs.Common.{◌∷◌, ◌++◌, [], ap, ◌∙◌, string_bytes}
use Rattle.rv_text.specs.Listing.{hex8}
use Rattle.rv_text.specs.Syntax.{disassembly}
use Rattle.rv_asm.specs.Listing.{word_line}
use Rattle.rv_asm.proofs.ListedLaws.{word-joined}
use Rattle.rv_asm.proofs.listed.push_word.Goals as goal

pub returns : goal.returns
unfolding word_line
returns c =
    word-joined (string_bytes c.args.text.now) (hex8 c.args.address) (32 ∷ []) (hex8 c.args.word) (32 ∷ []) (disassembly c.args.word) (10 ∷ [])
    _ _ _ _ _ _
    c.in_ok-push_hex8.ensures c.in_ok-push_str.ensures.bytes c.in_ok-push_hex8-2.ensures c.in_ok-push_str-2.ensures.bytes (c.in_ok-push_str-3.ensures.bytes ∙ ap (λ t. string_bytes c.push_str-2.new.self ++ t) (c.as_str.ensures.value ∙ c.disasm.ensures)) c.in_ok-push_str-4.ensures.bytes
