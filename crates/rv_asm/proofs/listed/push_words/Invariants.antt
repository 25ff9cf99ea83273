use Rattle.std.proofs.Common.{◌≡◌, ◌+◌, ◌*◌, ◌++◌, drop, string_bytes}
use Rattle.rv_asm.specs.Listing.{word_lines}
use Rattle.rv_asm.proofs.listed.push_words.Given as goal

abbrev pub invariant-loop-word : goal.invariant-loop-word
invariant-loop-word l = record {
  listed : string_bytes l.text ++ word_lines l.address (drop l.word-index l.words) ≡ string_bytes l.fn.text ++ word_lines 65536 l.words;
  here : l.address ≡ 65536 + 4 * l.word-index;
}
