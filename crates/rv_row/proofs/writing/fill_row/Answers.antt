use Rattle.std.proofs.Common.{◌≡◌, ◌+◌, ◌*◌, ◌++◌, length, take, ap, sym, ◌∙◌, arith}
use Rattle.std.specs.List.{flat_map}
use Rattle.std.proofs.lemmas.List.{length-set, take_all}
use Rattle.rv_spec.specs.Record.{access_bytes, row_bytes}
use Rattle.rv_row.proofs.Filling.{row-front}
use Rattle.rv_row.proofs.writing.fill_row.Goals as goal

pub returns : goal.returns
unfolding row_bytes
returns c =
    let r = c.args.row.now in
    let accesses = c.as_slice-accesses.result.now in
    let front = row-front r.pc r.next (length accesses) c.args.bytes.now c.set32.new.bytes c.set32-2.new.bytes (omega (arith, c.requires)) c.set32.ensures c.set32-2.ensures in
    let whole : take (9 + 21 * length accesses) c.write_accesses.new.bytes ≡ c.write_accesses.new.bytes = take_all (9 + 21 * length accesses) c.write_accesses.new.bytes
    (omega (arith, c.requires, c.set32.ensures.size, c.set32-2.ensures.size, length-set c.set32-2.new.bytes 8 (length accesses), c.write_accesses.auto.bytes, ap length c.as_slice-accesses.ensures.value)) in
    rw (← c.as_slice-accesses.ensures.value) (sym whole ∙ c.write_accesses.ensures ∙ ap (λ xs. xs ++ flat_map access_bytes accesses) front)
