-- A task: the shards of a record file that are to be checked.
use Rattle.std.specs.Prelude.{◌≡◌, ℕ, List, length}
use Rattle.rv_base.specs.declared.record.Header.{Header}
use Rattle.rv_judge.specs.Subject.{Subject, IsChecked}
use Rattle.rv_panel.specs.Starts.{AreStarts}

-- what they are judged against, the bytes that they begin, and how many have their heads there
pub record Shards : Type 0 where
  pub subject : Subject
  pub bytes : List ℕ
  pub found : ℕ

-- The header breaks no check, the output has its length, and the shards begin at these places.
pub record IsTask (h : Header) (output bytes starts : List ℕ) : Type 0 where
  pub checked : IsChecked h
  pub stated : length output ≡ h.length
  pub found : AreStarts bytes h.shards starts
