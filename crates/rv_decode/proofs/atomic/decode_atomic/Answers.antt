use Rattle.std.proofs.Common.{ℕ, ◌≡◌, ◌<◌, ◌^◌, Option, Some, None, sym}
use Rattle.std.specs.Prelude.{IfSome, IsSome}
use Rattle.rv_base.specs.declared.instr.Atomic.{Atomic}
use Rattle.rv_spec.specs.Decode.{decode, decode_atomic}
use Rattle.rv_decode.specs.Ranges.{IsEncodableAtomic}
use Rattle.rv_decode.proofs.OneRow.{rv32a-one_row}
use Rattle.rv_decode.proofs.AtomicRows.{decode_atomic-spells, atomic-apart}
use Rattle.rv_decode.proofs.atomic.decode_atomic.Goals as goal

encodable : (w : ℕ) (o : Option Atomic) → w < 2 ^ 32 → decode_atomic w ≡ o → IfSome o IsEncodableAtomic
encodable w None h e = tt
encodable w (Some i) h e = (decode_atomic-spells w h i e).in_ranges

apart : (w : ℕ) (o : Option Atomic) → w < 2 ^ 32 → decode_atomic w ≡ o → IsSome o → decode w ≡ None
apart w None h e some = absurd (cc)
apart w (Some i) h e some = atomic-apart w i h e

pub returns-clause-one_row : goal.returns-clause-one_row
returns-clause-one_row c = rv32a-one_row c.args.word

pub returns-clause-encodable : goal.returns-clause-encodable
returns-clause-encodable c = encodable c.args.word c.by_fields.result c.ranges.word.fits (sym c.by_fields.ensures)

pub returns-clause-apart : goal.returns-clause-apart
returns-clause-apart c = apart c.args.word c.by_fields.result c.ranges.word.fits (sym c.by_fields.ensures)
