-- Counts of faults.
use Rattle.std.specs.Prelude.{◌≡◌, ℕ, ◌+◌, ◌-◌, ◌^◌, ◌≤◌, min, Bool, Result, OnOk, nat_lt, if◌then◌else◌}
use Rattle.rv_host.specs.declared.Failed.{Failed}

-- a count after one more fault: it stays at its last value
abbrev pub raised : ℕ → ℕ
raised count = if nat_lt count (2 ^ 64 - 1) then count + 1 else count

abbrev pub raised_if : Bool → ℕ → ℕ
raised_if failed count = if failed then raised count else count

-- a count is greater than before, or stands at its last value
abbrev pub Rose : ℕ → ℕ → Type 0
Rose before now = min (before + 1) (2 ^ 64 - 1) ≤ now

-- A count before and after a call: it never falls, and a call that succeeds leaves it.
pub record Counted {T : Type 0} (result : Result T Failed) (before now : ℕ) : Type 0 where
  pub never_falls : before ≤ now
  pub ok_leaves : OnOk result (now ≡ before)
