-- The phases of the code as those of the machine.
use Rattle.std.specs.Prelude.{◌≡◌, ℕ, ◌+◌, ◌-◌, ◌*◌, ◌^◌, ◌≤◌, ◌<◌, Bool, ◌&&◌, ◌==◌, List, [], ◌∷◌, length, drop, bytes_eq, nat_lt, Option, Some, None, Result, Ok, Err}
use Rattle.rv_base.specs.declared.cells.TheConstants.{SLOTS}
use Rattle.rv_base.specs.declared.limits.TheConstants.{SHARD_SIZE_LIMIT}
use Rattle.rv_base.specs.declared.rules.TheConstants.{TABLE_ORDER, TABLE_CELL, TABLE_TIME, LEFT, BALANCE, TRAILING}
use Rattle.rv_base.specs.declared.layout.TheConstants.{ROW_BYTES, ACCESS_BYTES, HEAD_BYTES}
use Rattle.rv_base.specs.declared.record.Header.{Header}
use Rattle.rv_base.specs.declared.record.Place.{Place}
use Rattle.rv_base.specs.declared.record.Refusal.{Refusal}
use Rattle.rv_base.specs.declared.record.ShardHead.{ShardHead}
use Rattle.rv_base.specs.declared.record.TableEntry.{TableEntry}
use Rattle.rv_spec.specs.Cells.{is_cell}
use Rattle.rv_rules.specs.Checks.{Check}
use Rattle.rv_rules.specs.Reading.{above, head_of}
use Rattle.rv_rowcheck.specs.RowChecking.{IsPlace}
use Rattle.rv_spec.specs.Digest.{Lanes}
use Rattle.rv_pairs.specs.declared.pairing.Pairing.{Pairing}
use Rattle.rv_pairs.specs.Covers.{read_digest, total, written_digest}
use Rattle.rv_reading.specs.Stream.{Found}
use Rattle.rv_reading.specs.Machine as machine
use Rattle.rv_reading.specs.Machine.Phase.{Shards as ShardsOf, Rows as RowsOf, Entries as EntriesOf}
use Rattle.rv_reading.specs.Machine.Extent.{WholeFile, ShardsAlone, TableAlone}
use Rattle.rv_judge.specs.declared.phases.Extent.{Extent}
use Rattle.rv_judge.specs.declared.phases.Extent.TheVariants.{File, Shard, Table}
use Rattle.rv_judge.specs.declared.phases.Phase.{Phase}
use Rattle.rv_judge.specs.declared.phases.Phase.TheVariants.{Shards, Rows, Entries}
use Rattle.rv_judge.specs.declared.phases.RowsLeft.{RowsLeft}
use Rattle.rv_judge.specs.declared.sums.Sums.{Sums}
use Rattle.rv_judge.specs.declared.sums.Totals.{Totals}
use Rattle.rv_judge.specs.declared.phases.Machine.{Machine}
use Rattle.rv_judge.specs.Subject.{Subject, IsWithin, step}

abbrev pub extent_of : Extent → machine.Extent
extent_of File = WholeFile
extent_of Shard = ShardsAlone
extent_of Table = TableAlone

abbrev pub sums_of : Sums → machine.Sums
sums_of s = record { reads = s.reads.lanes; writes = s.writes.lanes }

-- what the digests of all will be, once all that waits is added
abbrev pub totals_of : Lanes → Totals → machine.Sums
totals_of lanes t = record { reads = total lanes t.reads; writes = total lanes t.writes }

-- what the digests of a shard will be, once all that waits is added
abbrev pub sums_in : Lanes → Pairing → machine.Sums
sums_in lanes p = record { reads = read_digest lanes p; writes = written_digest lanes p }

abbrev pub inside_of : Lanes → RowsLeft → Pairing → machine.Inside
inside_of lanes rows shard = record { head = rows.head; bytes = rows.bytes; sums = sums_in lanes shard }

abbrev pub phase_at : Lanes → Phase → Place → Pairing → Totals → machine.Phase
phase_at lanes (Shards left next) place shard all = ShardsOf left next place (totals_of lanes all)
phase_at lanes (Rows rows) place shard all = RowsOf rows.left rows.next rows.behind rows.shard (inside_of lanes rows shard) place (totals_of lanes all)
phase_at lanes (Entries left next before) place shard all = EntriesOf left next before place (totals_of lanes all)

abbrev pub phase_of : Lanes → Machine → machine.Phase
phase_of lanes m = phase_at lanes m.phase m.place m.shard m.all

-- how many entries of the table were read
abbrev pub entries_in : Phase → ℕ
entries_in (Shards left next) = 0
entries_in (Rows r) = 0
entries_in (Entries left next before) = next

-- ---- what is counted stays within its type

-- the most bytes that a row has
abbrev pub longest_row : ℕ
longest_row = ROW_BYTES + ACCESS_BYTES * SLOTS

pub record RowsFit (h : Header) (r : RowsLeft) : Type 0 where
  pub shards : r.shard + r.behind < h.shards
  pub rows : r.next + r.left ≤ h.size
  pub bytes : r.bytes ≤ longest_row * r.next

abbrev pub PhaseFits : Header → Phase → Type 0
PhaseFits h (Shards left next) = next + left ≤ h.shards
PhaseFits h (Rows rows) = RowsFit h rows
PhaseFits h (Entries left next before) = next + left < 2 ^ 32

pub record FitsAt (s : Subject) (p : Place) (q : Phase) : Type 0 where
  pub within : IsWithin s.header
  pub place : IsPlace p s.input s.output
  pub phase : PhaseFits s.header q

-- where rows are left, the next can have so many bytes
abbrev pub CanPass : Phase → ℕ → Type 0
CanPass (Rows r) length = (0 < r.left) × (r.next < SHARD_SIZE_LIMIT) × (r.bytes ≤ longest_row * r.next) × (length ≤ longest_row)
CanPass (Shards left next) length = Unit {0}
CanPass (Entries left next before) length = Unit {0}

-- where rows are left, behind a row of so many bytes
abbrev pub behind_row : Phase → ℕ → Phase
behind_row (Rows r) length = Rows (record r { left = r.left - 1; next = r.next + 1; bytes = r.bytes + length })
behind_row (Shards left next) length = Shards left next
behind_row (Entries left next before) length = Entries left next before

abbrev pub Fits : Subject → Machine → Type 0
Fits s m = FitsAt s m.place m.phase

-- ---- steps

-- A step of the machine from a phase goes on behind so many bytes, to a phase that fits.
pub record Went (lanes : Lanes) (s : Subject) (before : machine.Phase) (new : Machine) (bytes : List ℕ) (n : ℕ) : Type 0 where
  pub found : step lanes s before bytes ≡ Ok (Some (phase_of lanes new, drop n bytes))
  pub taken : n ≤ length bytes
  pub fits : Fits s new

-- The machine goes on behind so many bytes, or it refuses and nothing changes.
abbrev pub Goes : Lanes → Subject → machine.Phase → Machine → Machine → List ℕ → Result ℕ Refusal → Type 0
Goes lanes s before old new bytes (Ok n) = Went lanes s before new bytes n
Goes lanes s before old new bytes (Err r) = (step lanes s before bytes ≡ Err r) × (new ≡ old)

-- Or the reading may end.
abbrev pub Steps : Lanes → Subject → Machine → Machine → List ℕ → Result (Option ℕ) Refusal → Type 0
Steps lanes s old new bytes (Ok (Some n)) = Went lanes s (phase_of lanes old) new bytes n
Steps lanes s old new bytes (Ok None) = (step lanes s (phase_of lanes old) bytes ≡ Ok None) × (new ≡ old)
Steps lanes s old new bytes (Err r) = (step lanes s (phase_of lanes old) bytes ≡ Err r) × (new ≡ old)

-- The reading may end, or it is refused.
abbrev pub Ends : Lanes → Subject → machine.Phase → List ℕ → Result (Unit {0}) Refusal → Type 0
Ends lanes s before bytes (Ok u) = step lanes s before bytes ≡ Ok None
Ends lanes s before bytes (Err r) = step lanes s before bytes ≡ Err r

-- what is found where the reading stops
abbrev pub stopped : Option Refusal → Found machine.Phase
stopped None = Ok None
stopped (Some r) = Err r

-- ---- parts

-- the head at the front of bytes, where there are enough
abbrev pub HeadAt : List ℕ → Option ShardHead → Type 0
HeadAt bytes None = length bytes < HEAD_BYTES
HeadAt bytes (Some head) = (HEAD_BYTES ≤ length bytes) × (head ≡ head_of bytes)

abbrev pub entry_checks : ℕ → Option ℕ → TableEntry → List Check
entry_checks version before e = (TABLE_ORDER, above before e.cell) ∷ (TABLE_CELL, is_cell version e.cell) ∷ (TABLE_TIME, nat_lt 0 e.time) ∷ []

-- the checks at the end of a file, behind which there is nothing, or something
abbrev pub end_checks : Header → Place → machine.Sums → Bool → List Check
end_checks h p all nothing = (LEFT, p.input == h.consumed && p.output == h.length) ∷ (BALANCE, bytes_eq all.reads all.writes) ∷ (TRAILING, nothing) ∷ []
