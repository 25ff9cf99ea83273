-- What a CalmShelf holds, and what its calls leave, where memory for what is added is there or isn't.
use Rattle.std.specs.Prelude.{ℕ, Bool, not, if◌then◌else◌}
use Rattle.rv_host.specs.Counts.{raised_if}
use Rattle.rv_host.specs.Files.{Files}

pub record CalmState : Type 0 where
  pub files : Files
  pub write_faults : ℕ
  -- how often memory was refused
  pub refused : ℕ

abbrev pub with_files : CalmState → Files → Bool → CalmState
with_files s files has_memory = record {
  files = if has_memory then files else s.files;
  write_faults = raised_if (not has_memory) s.write_faults;
  refused = raised_if (not has_memory) s.refused;
}
