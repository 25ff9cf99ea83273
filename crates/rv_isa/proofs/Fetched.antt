-- What a word is in a version, by the two tables.
use Rattle.std.proofs.Common.{◌≡◌, ℕ, Bool, true, false, cond, ◌==◌, Option, Some, None, refl, sym, ◌∙◌, ap, option_map}
use Rattle.std.specs.Option.{option_or}
use Rattle.rv_base.specs.declared.instr.Instr.{Instr}
use Rattle.rv_base.specs.declared.instr.Atomic.{Atomic}
use Rattle.rv_spec.specs.Decode.{AnyInstr, rv32im, rv32a, decode, decode_atomic, decode_any}

by : ℕ → ℕ → Option Instr → Option AnyInstr
by version w o = option_or (option_map rv32im o) (cond (version == 2) (option_map rv32a (decode_atomic w)) None)

pub any-of-base : (version w : ℕ) (i : Instr) → decode w ≡ Some i → decode_any version w ≡ Some (rv32im i)
unfolding decode_any by
any-of-base version w i e = ap (by version w) e

pub any-of-other : (version w : ℕ) (o : Option Atomic) → decode w ≡ None → o ≡ cond (version == 2) (decode_atomic w) None → decode_any version w ≡ option_map rv32a o
unfolding decode_any by
any-of-other version w o e f = ap (by version w) e ∙ inside (version == 2) ∙ sym (ap (λ (p : Option Atomic). option_map rv32a p) f)
  where
    inside : (b : Bool) → cond b (option_map rv32a (decode_atomic w)) None ≡ option_map rv32a (cond b (decode_atomic w) None)
    inside true = refl
    inside false = refl
