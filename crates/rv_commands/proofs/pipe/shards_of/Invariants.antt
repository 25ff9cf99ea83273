use Rattle.std.proofs.Common.{◌≡◌, take}
use Rattle.std.specs.List.{flat_map}
use Rattle.rv_book.specs.declared.task.Piece.{Piece}
use Rattle.rv_commands.proofs.pipe.shards_of.Given as goal

abbrev pub invariant-loop-piece : goal.invariant-loop-piece
invariant-loop-piece l = flat_map (λ s. s.now) l.shards.items ≡ flat_map (λ (p : Piece). p.bytes) (take l.piece-index l.fn.pieces)
