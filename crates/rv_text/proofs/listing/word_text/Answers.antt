use Rattle.std.proofs.Common.{◌≡◌, Bool, if◌then◌else◌, None, List, ℕ, ap, sym, ◌∙◌, eq-eqb, ne_eqb, arith}
use Rattle.rv_text.specs.Syntax.{disassembly, atomic_disassembly}
use Rattle.rv_text.specs.Listing.{word_text, or_plain}
use Rattle.rv_text.proofs.listing.word_text.Goals as goal
use Rattle.rv_text.proofs.listing.word_text.Goals.{then-version-eq-WITH_ATOMICS+in_default, else-version-eq-WITH_ATOMICS}

abbrev chosen : ℕ → Bool → List ℕ
chosen w two = if two then or_plain w (atomic_disassembly w) else disassembly w

pub returns-in-Some : goal.returns-in-Some
unfolding word_text
returns-in-Some c =
    ap (or_plain c.args.word) c.in-Some.ensures ∙ sym (ap (chosen c.args.word) (eq-eqb c.args.version 2 c.if-version-eq-WITH_ATOMICS.true))

pub returns : goal.returns
unfolding word_text
returns c =
    elim c.if-version-eq-WITH_ATOMICS.branch [
      | then-version-eq-WITH_ATOMICS+in_default w ↦
          c.disasm.ensures ∙ ap (or_plain c.args.word) (let e : None ≡ atomic_disassembly c.args.word = grind arith in e) ∙ sym (ap (chosen c.args.word) (eq-eqb c.args.version 2 w.if-version-eq-WITH_ATOMICS.true))
      | else-version-eq-WITH_ATOMICS w ↦ c.disasm.ensures ∙ sym (ap (chosen c.args.word) (ne_eqb c.args.version 2 w.if-version-eq-WITH_ATOMICS.false))
    ]
