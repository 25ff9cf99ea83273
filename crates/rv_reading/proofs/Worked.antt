-- The machine on the record of the first worked program, in pieces, under lanes that tell nothing apart.
use Rattle.std.proofs.Common.{◌≡◌, ℕ, true, List, [], ◌∷◌, take, drop, set, Ok, Err, refl}
use Rattle.rv_base.specs.declared.record.Verdict.TheVariants.{Accept}
use Rattle.rv_rules.specs.Sums.{tiny_lanes}
use Rattle.rv_rules.specs.Checks.{◌>>=◌}
use Rattle.rv_rules.specs.Reading.{header_of}
use Rattle.rv_spec.proofs.RecordExample.{elf}
use Rattle.rv_rules.proofs.VerdictExamples.{tiny_file}
use Rattle.rv_spec.proofs.Computes.{computes}
use Rattle.rv_rules.proofs.Computes.{judges}
use Rattle.rv_reading.specs.Stream.{State, StepOf, reads_in, feed, outcome}
use Rattle.rv_reading.specs.Machine.{Phase, no_sums, step, opened, told}
use Rattle.rv_reading.specs.Machine.Phase.{Shards}
use Rattle.rv_reading.specs.Machine.Extent.{ShardsAlone}
use Rattle.rv_reading.specs.Judging.{IsFront}
use Rattle.rv_reading.specs.Parts.{runs}

-- the program puts no bytes, so the header is the whole front
abbrev front : List ℕ
front = take 173 tiny_file

abbrev body : List ℕ
body = drop 173 tiny_file

abbrev move : StepOf Phase
move = step true tiny_lanes elf [] (header_of front) []

abbrev opening : State Phase
opening = opened true tiny_lanes elf [] front

is-front : IsFront front
unfolding computes judges
is-front = refl

-- in two pieces, cut within the second row
accepted : told (header_of front) (outcome move (feed move (feed move opening (take 100 body)) (drop 100 body)) []) ≡ Accept 3 1 (record { kind = 0; code = 42 })
unfolding computes judges step reads_in
accepted = refl

-- the same bytes and one more, which comes alone
one-more : outcome move (feed move (feed move opening body) (0 ∷ [])) [] ≡ Err (record { shard = 1; row = 5; rule = 27 })
unfolding computes judges step reads_in
one-more = refl

-- The second row's last new value is changed: the state refuses as soon as the row is there, and before that it waits with what it has of the row.
abbrev changed : List ℕ
changed = set body 130 43

refused : feed move (feed move opening (take 133 changed)) (take 1 (drop 133 changed)) ≡ Err (record { shard = 0; row = 1; rule = 14 })
unfolding computes judges step reads_in
refused = refl

waiting : (feed move opening (take 133 changed) >>= λ x. Ok x.1) ≡ Ok (take 50 (drop 83 changed))
unfolding computes judges step reads_in
waiting = refl

-- the shard alone: the place behind it, digests of lanes that are all 0, and the bytes of the table left
alone : runs true tiny_lanes elf [] (header_of front) [] ShardsAlone (Shards 1 0 (record { pc = 0x10000; input = 0; output = 0 }) no_sums) body
    ≡ Ok (Shards 0 1 (record { pc = 0x10008; input = 0; output = 0 }) no_sums, drop 462 body)
unfolding computes judges step reads_in
alone = refl
