use Rattle.std.proofs.Common.{◌≡◌, ℕ, ◌-◌, ◌^◌, List, vec_len}
use Rattle.rv_commands.specs.Judging.{IsFed}
use Rattle.rv_commands.proofs.judging.judge_pieces.Given as goal

abbrev pub invariant-loop-piece : goal.invariant-loop-piece
invariant-loop-piece g l = record {
  piece : vec_len l.piece ≡ 65536;
  files : (g.S.Shelf.view l.shelf).files ≡ (g.S.Shelf.view l.fn.shelf).files;
  reads : (any : List ℕ) → (g.S.Shelf.view l.shelf).read_faults any ≡ (g.S.Shelf.view l.fn.shelf).read_faults any;
  writes : (any : List ℕ) → (g.S.Shelf.view l.shelf).write_faults any ≡ (g.S.Shelf.view l.fn.shelf).write_faults any;
  fed : (fed : List ℕ) × IsFed (g.S.Shelf.view l.fn.shelf) l.fn.name l.fn.program.elf l.fn.program.input l.fn.front l.at l.judge fed;
}

abbrev pub decreases-loop-piece : goal.decreases-loop-piece
decreases-loop-piece g l = 2 ^ 64 - l.at
