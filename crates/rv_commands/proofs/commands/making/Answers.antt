use Rattle.std.proofs.Common.{map, Global, string_bytes, arith, sym, ◌∙◌, ap, inl, inr}
use Rattle.std.proofs.lemmas.List.{length-map}
use borrow.Author.Tests.{ltb-true, ltb-false}
use Rattle.rv_commands.specs.CommandLine.{number}
use Rattle.rv_commands.proofs.Arguments.{six, not-six, misspelled}
use Rattle.rv_commands.proofs.commands.making.Goals as goal
use Rattle.rv_commands.proofs.commands.making.Goals.{in_default-via-then-arguments-lt6, in_default-via-else-arguments-lt6+else-arguments-lt7}

pub returns-in_default : goal.returns-in_default
returns-in_default c = elim c.in_default.branch [
  | in_default-via-then-arguments-lt6 w ↦ record { making = not-six c.args.version c.args.least (map string_bytes c.args.arguments.now) (λ e. absurd (omega (arith, ltb-true, ltb-false, e, length-map c.args.arguments.now (string_bytes {Z = Global})))); ranges = tt }
  | in_default-via-else-arguments-lt6+else-arguments-lt7 w ↦ record { making = not-six c.args.version c.args.least (map string_bytes c.args.arguments.now) (λ e. absurd (omega (arith, ltb-true, ltb-false, e, length-map c.args.arguments.now (string_bytes {Z = Global})))); ranges = tt }
]

pub returns-in_err-workers : goal.returns-in_err-workers
returns-in_err-workers c =
    let list = six c.args.arguments.now c.elf-item.result c.input-item.result c.record-item.result c.workers-item.result c.shard-item.result c.budget-item.result (omega arith) c.elf-item.is c.input-item.is c.record-item.is c.workers-item.is c.shard-item.is c.budget-item.is in
    rw c.from_residual.ensures (record { making = misspelled _ _ _ _ _ _ _ _ _ (ap (map string_bytes) list) (inl (ap (number c.args.least 64) (sym c.as_str.ensures.value) ∙ sym c.number.ensures.number ∙ c.in_err-workers.was)); ranges = tt })

pub returns-in_err-shard : goal.returns-in_err-shard
returns-in_err-shard c =
    let list = six c.args.arguments.now c.elf-item.result c.input-item.result c.record-item.result c.workers-item.result c.shard-item.result c.budget-item.result (omega arith) c.elf-item.is c.input-item.is c.record-item.is c.workers-item.is c.shard-item.is c.budget-item.is in
    rw c.from_residual-in_err-shard.ensures (record { making = misspelled _ _ _ _ _ _ _ _ _ (ap (map string_bytes) list) (inr (inl (ap (number 1 65536) (sym c.as_str-2.ensures.value) ∙ sym c.number-2.ensures.number ∙ c.in_err-shard.was))); ranges = tt })

pub returns-in_err-budget : goal.returns-in_err-budget
returns-in_err-budget c =
    let list = six c.args.arguments.now c.elf-item.result c.input-item.result c.record-item.result c.workers-item.result c.shard-item.result c.budget-item.result (omega arith) c.elf-item.is c.input-item.is c.record-item.is c.workers-item.is c.shard-item.is c.budget-item.is in
    rw c.from_residual-in_err-budget.ensures (record { making = misspelled _ _ _ _ _ _ _ _ _ (ap (map string_bytes) list) (inr (inr (ap (number 1 8388608) (sym c.as_str-3.ensures.value) ∙ sym c.number-3.ensures.number ∙ c.in_err-budget.was))); ranges = tt })
