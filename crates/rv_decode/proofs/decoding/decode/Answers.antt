use Rattle.std.proofs.Common.{ℕ, ◌≡◌, ◌<◌, ◌^◌, Option, Some, None, sym}
use Rattle.std.specs.Prelude.{IfSome}
use Rattle.rv_base.specs.declared.instr.Instr.{Instr}
use Rattle.rv_spec.specs.Decode.{decode}
use Rattle.rv_decode.specs.Ranges.{IsEncodable}
use Rattle.rv_decode.proofs.OneRow.{rv32im-one_row}
use Rattle.rv_decode.proofs.TableRows.{decode-spells}
use Rattle.rv_decode.proofs.decoding.decode.Goals as goal

encodable : (w : ℕ) (o : Option Instr) → w < 2 ^ 32 → decode w ≡ o → IfSome o IsEncodable
encodable w None h e = tt
encodable w (Some i) h e = (decode-spells w h i e).in_ranges

pub returns-clause-one_row : goal.returns-clause-one_row
returns-clause-one_row c = rv32im-one_row c.args.word

pub returns-clause-encodable : goal.returns-clause-encodable
returns-clause-encodable c = encodable c.args.word c.by_opcode.result c.ranges.word.fits (sym c.by_opcode.ensures)
