use Rattle.std.proofs.Common.{◌≡◌, ℕ, ◌<◌, Some}
use Rattle.std.specs.List.{flat_map, range_with_len}
use Rattle.rv_book.specs.Journal.{piece_at}
use Rattle.rv_book.specs.declared.task.Piece.{Piece}
use Rattle.rv_commands.proofs.make.shards_of.Given as goal

abbrev pub invariant-loop-i : goal.invariant-loop-i
invariant-loop-i g l = (piece : ℕ → Piece) → ((i : ℕ) → i < l.fn.shards → piece_at l.fn.book i ≡ Some (piece i)) → flat_map (λ part. part.now) l.parts.items ≡ flat_map (λ i. (piece i).bytes) (range_with_len 0 l.i)
