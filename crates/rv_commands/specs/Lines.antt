-- The lines of commands that did their work: numbers are decimal (this project's own).
use Rattle.std.specs.Prelude.{ℕ, List, [], ◌∷◌, ◌++◌, Option, Some, None, codes, decimal, slice_index, ◌==◌, if◌then◌else◌}
use Rattle.std.specs.List.{flat_map, range_with_len}
use Rattle.rv_base.specs.declared.record.End.{End}
use Rattle.rv_base.specs.declared.record.Refusal.{Refusal}
use Rattle.rv_base.specs.declared.record.Tuple.{Tuple}
use Rattle.hex.specs.Hex.{encode_lower}
use Rattle.rv_query.specs.declared.questions.CellSeen.{CellSeen}
use Rattle.rv_query.specs.declared.questions.Snapshot.{Snapshot}
use Rattle.rv_text.specs.Listing.{hex8}
use Rattle.rv_trial.specs.declared.summary.Trial.{Trial}
use Rattle.rv_plan.specs.Lines.{line, name_at}
use Rattle.rv_commands.specs.declared.spelled_cells.TheConstants.{LAST_REGISTER}

-- a space, a name, an equals sign and a number
abbrev pub field : List ℕ → ℕ → List ℕ
field name n = 32 ∷ name ++ 61 ∷ decimal n

abbrev pub end_fields : End → List ℕ
end_fields e = field (codes "end") e.kind ++ field (codes "code") e.code

abbrev pub made_line : ℕ → ℕ → End → ℕ → List ℕ
made_line steps shards e bytes =
    line (codes "made" ++ field (codes "steps") steps ++ field (codes "shards") shards ++ end_fields e ++ field (codes "bytes") bytes)

abbrev pub ran_line : ℕ → End → ℕ → List ℕ
ran_line steps e output = line (codes "ran" ++ field (codes "steps") steps ++ end_fields e ++ field (codes "output") output)

abbrev pub accepted_line : ℕ → ℕ → End → List ℕ
accepted_line steps shards e = line (codes "accepted" ++ field (codes "steps") steps ++ field (codes "shards") shards ++ end_fields e)

-- the rules of the verdict in order of their numbers
abbrev pub rule_names : List (List ℕ)
rule_names =
    codes "Short" ∷ codes "Magic" ∷ codes "Program" ∷ codes "Input" ∷ codes "ShardSize" ∷ codes "Counts" ∷ codes "EndKind" ∷ codes "OutputLength"
    ∷ codes "ShardHead" ∷ codes "RowShape" ∷ codes "Pc" ∷ codes "Slot" ∷ codes "Cell" ∷ codes "Value" ∷ codes "TimeOrder" ∷ codes "Next"
    ∷ codes "OutputByte" ∷ codes "EndsEarly" ∷ codes "EndOther" ∷ codes "RowBytes" ∷ codes "ShardDigest" ∷ codes "TableOrder" ∷ codes "TableCell"
    ∷ codes "TableTime" ∷ codes "Left" ∷ codes "Balance" ∷ codes "Trailing" ∷ []

-- where a check is broken: the shard, the row, the rule and its name
abbrev pub refused_line : Refusal → List ℕ
refused_line r =
    line (codes "refused" ++ field (codes "shard") r.shard ++ field (codes "row") r.row ++ field (codes "rule") r.rule ++ 32 ∷ name_at rule_names r.rule)

abbrev pub settled_line : ℕ → List ℕ
settled_line steps = line (codes "settled run" ++ field (codes "steps") steps)

-- the least tuple that differs, how often it is read and how often it is written
abbrev pub collision_line : Tuple → ℕ → ℕ → List ℕ
collision_line t reads writes =
    line (codes "settled collision" ++ field (codes "cell") t.cell ++ field (codes "value") t.value ++ field (codes "time") t.time ++ field (codes "reads") reads ++ field (codes "writes") writes)

-- a text with the counts of a trial behind it
abbrev pub with_counts : List ℕ → Trial → List ℕ
with_counts text t =
    text ++ field (codes "steps") t.steps ++ field (codes "shards") t.shards ++ field (codes "accesses") t.accesses ++ field (codes "output") t.output ++ field (codes "bytes") t.bytes

-- what is told of the trial of a number and a size: the record by the first 8 bytes of its SHA-512, in hexadecimal digits
abbrev pub trial_line : ℕ → ℕ → Trial → List ℕ
trial_line number size t =
    line (with_counts (codes "trial" ++ field (codes "number") number ++ field (codes "size") size) t ++ codes " record=" ++ encode_lower t.«record» ++ codes " accepted")

-- a register that isn't 0: two blanks, its name and its value
abbrev pub register_line : ℕ → ℕ → List ℕ
register_line r value = if value == 0 then [] else line (codes "  x" ++ decimal r ++ 32 ∷ hex8 value)

-- the address of the instruction of a step
abbrev pub state_line : ℕ → ℕ → List ℕ
state_line step pc = line (codes "state" ++ field (codes "step") step ++ codes " pc=" ++ hex8 pc)

-- the state before a step: that line, and those of the registers x1 to x31
abbrev pub state_lines : ℕ → Snapshot → List ℕ
state_lines step seen = state_line step seen.pc ++ flat_map (λ r. register_line r (slice_index seen.regs r)) (range_with_len 1 LAST_REGISTER)

-- the step of the last change, where there is one
abbrev pub change_field : Option ℕ → List ℕ
change_field (Some step) = field (codes "changed") step
change_field None = codes " changed=never"

-- what a cell held before a step
abbrev pub cell_line : List ℕ → CellSeen → List ℕ
cell_line name seen = line (codes "cell " ++ name ++ codes " value=" ++ hex8 seen.value ++ field (codes "time") seen.time ++ change_field seen.changed)

-- the parts of a record, and their bytes in all
abbrev pub split_line : ℕ → ℕ → List ℕ
split_line parts bytes = line (codes "split" ++ field (codes "parts") parts ++ field (codes "bytes") bytes)

-- the steps of an upgraded record, and its bytes
abbrev pub upgraded_line : ℕ → ℕ → List ℕ
upgraded_line steps bytes = line (codes "upgraded" ++ field (codes "steps") steps ++ field (codes "bytes") bytes)

-- the words of a source, and the bytes of their executable
abbrev pub assembled_line : ℕ → ℕ → List ℕ
assembled_line words bytes = line (codes "assembled" ++ field (codes "words") words ++ field (codes "bytes") bytes)
