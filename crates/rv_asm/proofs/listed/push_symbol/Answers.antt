use Rattle.std.proofs.Common.{◌∷◌, ◌++◌, [], codes, ap, ◌∙◌, string_bytes}
use Rattle.rv_text.specs.Listing.{hex8}
use Rattle.rv_asm.specs.Listing.{symbol_line}
use Rattle.rv_asm.proofs.ListedLaws.{symbol-joined, name-of, address-of}
use Rattle.rv_asm.proofs.listed.push_symbol.Goals as goal

pub returns : goal.returns
unfolding symbol_line
returns c s is =
    symbol-joined (string_bytes c.args.text.now) (codes "symbol ") s.name (32 ∷ []) (hex8 s.address) (10 ∷ [])
    _ _ _ _ _
    c.in_ok-push_str.ensures.bytes
    (c.in_ok-push_str-2.ensures.bytes ∙ ap (λ t. string_bytes c.push_str.new.self ++ t) (name-of _ s _ is c.name.ensures))
    c.in_ok-push_str-3.ensures.bytes
    (c.in_ok-push_hex8.ensures ∙ ap (λ a. string_bytes c.push_str-3.new.self ++ hex8 a) (address-of _ s _ is c.address-address.ensures))
    c.in_ok-push_str-4.ensures.bytes
