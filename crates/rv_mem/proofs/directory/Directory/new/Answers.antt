use Rattle.std.proofs.Common.{◌≡◌, ℕ, replicate, get_or, refl, ap, inl, inr, arith}
use Rattle.std.proofs.lemmas.Bool.{cases_lt}
use Rattle.std.proofs.lemmas.List.{get_or-replicate, get_or_past}
use Rattle.rv_mem.specs.declared.directory.Recent.{Recent}
use Rattle.rv_mem.specs.declared.levels.Levels.{Levels}
use Rattle.rv_mem.specs.Recent.{no_recent, AreRecent}
use Rattle.rv_mem.proofs.directory.Directory.new.Goals as goal

none-told : (k : ℕ) → get_or (replicate 64 no_recent) k no_recent ≡ no_recent
none-told k = elim (cases_lt k 64) [ inl low ↦ get_or-replicate 64 k no_recent no_recent low | inr high ↦ get_or_past (replicate 64 no_recent) k no_recent (omega arith) ]

none-recent : (l : Levels) → AreRecent l (replicate 64 no_recent)
none-recent l = record { full = refl; told = λ k some. (let none : (get_or (replicate 64 no_recent) k no_recent).number ≡ 0 = ap (λ (r : Recent). r.number) (none-told k) in absurd (omega (arith, none, some))) }

pub invariant_of-result : goal.invariant_of-result
invariant_of-result c = record { recalls = none-recent c.new.result }
