-- Verdicts on the record of the first worked program, cut short or with one bit changed, under lanes that tell nothing apart.
use Rattle.std.proofs.Common.{◌≡◌, ℕ, [], ◌∷◌, map, take, set, slice_index, bit_xor, refl}
use Rattle.rv_base.specs.declared.record.Verdict.{Verdict}
use Rattle.rv_base.specs.declared.record.Verdict.TheVariants.{Accept, Refuse}
use Rattle.rv_rules.specs.Sums.{tiny_lanes}
use Rattle.rv_rules.specs.Verdict.{verdict}
use Rattle.rv_spec.proofs.RecordExample.{elf}
use Rattle.rv_rules.proofs.VerdictExamples.{tiny_file}
use Rattle.rv_spec.proofs.Computes.{computes}
use Rattle.rv_rules.proofs.Computes.{judges}

abbrev refused : ℕ → ℕ → ℕ → Verdict
refused shard row rule = Refuse (record { shard = shard; row = row; rule = rule })

abbrev cut : ℕ → Verdict
cut n = verdict tiny_lanes elf [] (take n tiny_file)

cuts : map cut (0 ∷ 172 ∷ 173 ∷ 255 ∷ 256 ∷ 306 ∷ 307 ∷ 378 ∷ 379 ∷ 634 ∷ 635 ∷ 654 ∷ 655 ∷ 670 ∷ 671 ∷ 718 ∷ [])
    ≡ refused 0 0 1 ∷ refused 0 0 1 ∷ refused 0 0 1 ∷ refused 0 0 1 ∷ refused 0 1 1 ∷ refused 0 1 1 ∷ refused 0 2 1 ∷ refused 0 2 1 ∷ refused 0 3 1 ∷ refused 0 3 1
    ∷ refused 1 0 1 ∷ refused 1 0 1 ∷ refused 1 1 1 ∷ refused 1 1 1 ∷ refused 1 2 1 ∷ refused 1 4 1 ∷ []
unfolding computes judges
cuts = refl

-- the byte at an offset with its highest bit changed
abbrev flipped : ℕ → Verdict
flipped at = verdict tiny_lanes elf [] (set tiny_file at (bit_xor (slice_index tiny_file at) 0x80))

in-header : map flipped (0 ∷ 7 ∷ 8 ∷ 72 ∷ 138 ∷ 140 ∷ 151 ∷ 152 ∷ 153 ∷ 157 ∷ 165 ∷ 166 ∷ 168 ∷ [])
    ≡ refused 0 0 2 ∷ refused 0 0 2 ∷ refused 0 0 3 ∷ refused 0 0 4 ∷ refused 0 0 5 ∷ refused 0 0 6 ∷ refused 0 0 6 ∷ refused 0 0 7 ∷ refused 0 2 19 ∷ refused 1 5 25
    ∷ refused 0 0 9 ∷ refused 0 0 1 ∷ refused 0 0 8 ∷ []
unfolding computes judges
in-header = refl

another-size : flipped 136 ≡ Accept 3 1 (record { kind = 0; code = 42 })
unfolding computes judges
another-size = refl

in-shard : map flipped (173 ∷ 200 ∷ 201 ∷ 204 ∷ 256 ∷ 260 ∷ 264 ∷ 265 ∷ 266 ∷ 274 ∷ 282 ∷ 270 ∷ 271 ∷ 272 ∷ 273 ∷ 321 ∷ 342 ∷ 363 ∷ [])
    ≡ refused 0 0 9 ∷ refused 0 0 9 ∷ refused 0 3 20 ∷ refused 0 3 20 ∷ refused 0 1 11 ∷ refused 0 1 16 ∷ refused 0 1 10 ∷ refused 0 1 12 ∷ refused 0 1 13 ∷ refused 0 1 15 ∷ refused 0 1 14
    ∷ refused 0 1 13 ∷ refused 0 1 12 ∷ refused 0 1 14 ∷ refused 0 1 14 ∷ refused 0 2 12 ∷ refused 0 2 12 ∷ refused 0 2 14 ∷ []
unfolding computes judges
in-shard = refl

in-table : map flipped (635 ∷ 639 ∷ 641 ∷ 642 ∷ 655 ∷ 658 ∷ 674 ∷ 690 ∷ [])
    ≡ refused 1 5 1 ∷ refused 1 1 22 ∷ refused 1 1 22 ∷ refused 1 0 23 ∷ refused 1 2 22 ∷ refused 1 1 23 ∷ refused 1 2 23 ∷ refused 1 3 23 ∷ []
unfolding computes judges
in-table = refl
