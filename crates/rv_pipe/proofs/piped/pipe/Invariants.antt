use Rattle.rv_pipe.specs.Due.{IsDue}
use Rattle.rv_pipe.proofs.piped.pipe.Given as goal

-- the starts of this run, and how many of them may wait
abbrev pub ghosts-pipe_run : goal.ghosts-pipe_run
ghosts-pipe_run g a = record { due = IsDue a.walk.image a.walk.input a.walk.size; waiting = a.waiting }
