use Rattle.std.proofs.Common.{ℕ, ◌++◌, ap, ◌∙◌, append_assoc}
use Rattle.std.specs.List.{flat_map, range_with_len}
use Rattle.rv_trial.proofs.ShardLengths.{one-more}
use Rattle.rv_trial.proofs.recording.push_pieces.Goals as goal

pub loop-i-preserved : goal.loop-i-preserved
loop-i-preserved g c = λ piece each.
    let before = flat_map (λ (i : ℕ). (piece i).bytes) (range_with_len 0 c.loop-i.i) in
    c.in_ok-extend_from_slice.ensures.items
    ∙ ap (λ xs. xs ++ c.bytes_of.result.now) (c.loop-i.invariant piece each)
    ∙ ap (λ xs. c.args.file.now.items ++ before ++ xs) (c.bytes_of.ensures (piece c.loop-i.i) (each c.loop-i.i c.loop-i-test.true))
    ∙ append_assoc c.args.file.now.items before (piece c.loop-i.i).bytes
    ∙ ap (λ xs. c.args.file.now.items ++ xs) (one-more (λ (i : ℕ). (piece i).bytes) c.loop-i.i)
