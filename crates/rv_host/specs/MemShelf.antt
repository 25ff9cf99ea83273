-- What a MemShelf holds, and what its calls leave.
use Rattle.std.specs.Prelude.{ℕ, ◌-◌, ◌==◌, Bool, not, ◌&&◌, ◌||◌, List, [], length, take, Option, Some, None, if◌then◌else◌}
use Rattle.std.specs.Option.{is_none, unwrap_or}
use Rattle.rv_host.specs.Counts.{raised_if}
use Rattle.rv_host.specs.Files.{Files, file, found, with_added, with_file}
use Rattle.rv_host.specs.Transfers.{read_count, read_into}

-- A plan is the number of calls up to the one that is to fail, and 0 where none is planned.
pub record ShelfState : Type 0 where
  pub files : Files
  pub read_plan : ℕ
  pub append_plan : ℕ
  pub create_plan : ℕ
  -- the number of bytes that the planned append takes
  pub taken : ℕ
  -- the cap of one read, where one was set
  pub most : Option ℕ
  pub read_faults : ℕ
  pub write_faults : ℕ
  -- how often memory was refused
  pub refused : ℕ

abbrev pub no_files : ShelfState
no_files = record { files = []; read_plan = 0; append_plan = 0; create_plan = 0; taken = 0; most = None; read_faults = 0; write_faults = 0; refused = 0 }

-- ---- reading

abbrev pub read_fails : ShelfState → List ℕ → Bool
read_fails s name = s.read_plan == 1 || is_none (found s.files name)

-- the number of bytes that a read into a buffer takes, where it succeeds
abbrev pub read_answer : ShelfState → List ℕ → ℕ → ℕ → Option ℕ
read_answer s name at size = if read_fails s name then None else Some (read_count (file s.files name) at size (unwrap_or s.most size))

-- the buffer after a read
abbrev pub buffer_after : ShelfState → List ℕ → ℕ → List ℕ → List ℕ
buffer_after s name at into =
    if read_fails s name then into else read_into (file s.files name) at (unwrap_or s.most (length into)) into

abbrev pub after_read : ShelfState → List ℕ → ShelfState
after_read s name = record s { read_plan = s.read_plan - 1; read_faults = raised_if (read_fails s name) s.read_faults }

-- ---- writing, where memory for what is added is there or isn't

abbrev pub creates : ShelfState → Bool → Bool
creates s has_memory = has_memory && not (s.create_plan == 1)

abbrev pub after_create : ShelfState → List ℕ → Bool → ShelfState
after_create s name has_memory = record s {
  files = if creates s has_memory then with_file s.files name [] else s.files;
  create_plan = s.create_plan - 1;
  write_faults = raised_if (not (creates s has_memory)) s.write_faults;
  refused = raised_if (not has_memory) s.refused;
}

-- what an append takes of its bytes
abbrev pub part : ShelfState → List ℕ → List ℕ
part s bytes = if s.append_plan == 1 then take s.taken bytes else bytes

abbrev pub appends : ShelfState → Bool → Bool
appends s has_memory = has_memory && not (s.append_plan == 1)

abbrev pub after_append : ShelfState → List ℕ → List ℕ → Bool → ShelfState
after_append s name bytes has_memory = record s {
  files = if has_memory then with_added s.files name (part s bytes) else s.files;
  append_plan = s.append_plan - 1;
  write_faults = raised_if (not (appends s has_memory)) s.write_faults;
  refused = raised_if (not has_memory) s.refused;
}
