-- Bytes of a word by their lane.
use Rattle.std.proofs.Common.{◌≡◌, ℕ, zero, suc, ◌+◌, ◌*◌, ◌^◌, ◌<◌, refl, sym, arith}
use native.Mathlib.Numerals.{unary_clauses}
use Rattle.std.proofs.lemmas.Nat.{pow-add, from_le_bytes-to_le_bytes_4}
use Rattle.rv_base.specs.declared.instr.StoreKind.TheVariants as stores
use Rattle.rv_rules.specs.Expected.{merge, splice}

pub lane-power : (k : ℕ) → 2 ^ (8 * k) ≡ 256 ^ k
lane-power zero = refl
lane-power (suc k) =
    let split : 8 * suc k ≡ 8 * k + 8 = omega arith in
    rw split (rw (pow-add 2 (8 * k) 8) (rw (lane-power k) (simp unary_clauses)))

-- a stored word replaces the whole word
pub merge-word : (word lane v : ℕ) → lane ≡ 0 → v < 2 ^ 32 → v ≡ merge stores.W word lane v
unfolding splice
merge-word word lane v at_start fits = rw at_start (sym (from_le_bytes-to_le_bytes_4 v fits))

pub ruleset lanes = lane-power
