-- What a MemSink holds, and what a put leaves.
use Rattle.std.specs.Prelude.{ℕ, ◌-◌, ◌==◌, Bool, not, ◌&&◌, List, ◌++◌, take, if◌then◌else◌}
use Rattle.rv_host.specs.Counts.{raised_if}

-- The plan is the number of calls up to the one that is to fail, and 0 where none is planned.
pub record SinkState : Type 0 where
  pub bytes : List ℕ
  pub plan : ℕ
  -- the number of bytes that the planned put takes
  pub taken : ℕ
  pub faults : ℕ
  -- how often memory was refused
  pub refused : ℕ

-- what a put takes of its bytes
abbrev pub put_part : SinkState → List ℕ → List ℕ
put_part s bytes = if s.plan == 1 then take s.taken bytes else bytes

abbrev pub puts : SinkState → Bool → Bool
puts s has_memory = has_memory && not (s.plan == 1)

-- after a put, where memory for its bytes is there or isn't
abbrev pub after_put : SinkState → List ℕ → Bool → SinkState
after_put s bytes has_memory = record s {
  bytes = if has_memory then s.bytes ++ put_part s bytes else s.bytes;
  plan = s.plan - 1;
  faults = raised_if (not (puts s has_memory)) s.faults;
  refused = raised_if (not has_memory) s.refused;
}
