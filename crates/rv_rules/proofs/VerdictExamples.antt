-- Verdicts on the record of the first worked program and on changed files.
use Rattle.std.proofs.Common.{◌≡◌, ℕ, List, [], ◌∷◌, ◌++◌, map, take, set, refl}
use Rattle.rv_base.specs.declared.record.Verdict.TheVariants.{Accept, Refuse}
use Rattle.rv_spec.specs.Digest.{sha_lanes}
use Rattle.rv_spec.specs.Trace.{row}
use Rattle.rv_spec.specs.Record.{record_file}
use Rattle.rv_rules.specs.Sums.{tiny_lanes}
use Rattle.rv_rules.specs.Expected.{expected}
use Rattle.rv_rules.specs.RowRules.{seen}
use Rattle.rv_rules.specs.Verdict.{verdict}
use Rattle.rv_spec.proofs.Computes.{computes}
use Rattle.rv_spec.proofs.RunExamples.{reserving}
use Rattle.rv_spec.proofs.RecordExample.{elf, file}
use Rattle.rv_rules.proofs.Computes.{judges}

accepted : verdict sha_lanes elf [] file ≡ Accept 3 1 (record { kind = 0; code = 42 })
unfolding computes judges
accepted = refl

another-input : verdict sha_lanes elf (0 ∷ []) file ≡ Refuse (record { shard = 0; row = 0; rule = 4 })
unfolding computes judges
another-input = refl

empty-file : verdict sha_lanes elf [] [] ≡ Refuse (record { shard = 0; row = 0; rule = 1 })
unfolding computes judges
empty-file = refl

-- with the lanes for tests the digests are all 0
abbrev pub tiny_file : List ℕ
tiny_file = record_file tiny_lanes 1 elf [] 3 3 (record { kind = 0; code = 42 })

tiny-accepted : verdict tiny_lanes elf [] tiny_file ≡ Accept 3 1 (record { kind = 0; code = 42 })
unfolding computes judges
tiny-accepted = refl

without-last : verdict tiny_lanes elf [] (take 718 tiny_file) ≡ Refuse (record { shard = 1; row = 4; rule = 1 })
unfolding computes judges
without-last = refl

one-more : verdict tiny_lanes elf [] (tiny_file ++ 0 ∷ []) ≡ Refuse (record { shard = 1; row = 5; rule = 27 })
unfolding computes judges
one-more = refl

-- the prev of x17 in the last row made 34
late-prev : verdict tiny_lanes elf [] (set tiny_file 346 34) ≡ Refuse (record { shard = 0; row = 2; rule = 15 })
unfolding computes judges
late-prev = refl

-- x10 read and written as 43 in the last row, at the end and in the table: accepted under lanes that tell nothing apart
abbrev forged : List ℕ
forged = set (set (set (set tiny_file 363 43) 375 43) 153 43) 691 43

forged-accepted : verdict tiny_lanes elf [] forged ≡ Accept 3 1 (record { kind = 0; code = 43 })
unfolding computes judges
forged-accepted = refl

-- the expected step of a row is the row's own
sc-expected : map (λ t. t.new) (expected 2 0x10008 (seen (row reserving [] 2).accesses) [] 0).touches ≡ map (λ a. a.new) (row reserving [] 2).accesses
unfolding computes judges
sc-expected = refl
