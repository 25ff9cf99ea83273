-- What upgrade does, as its plan says, and what its success says.
use Rattle.std.proofs.Common.{◌≡◌, ◌<◌, ℕ, List, [], ◌∷◌, ◌++◌, length, None, Ok, Err, Result, IfOk, option_map, sym, ap, subst, ◌∙◌, arith, length-append}
use Rattle.std.specs.List.{flat_map}
use Rattle.rv_base.specs.declared.layout.TheConstants.{VERSION_AT}
use Rattle.rv_base.specs.declared.limits.TheConstants.{RECORD_LIMIT}
use Rattle.rv_spec.specs.Words.{AreBytes}
use Rattle.rv_spec.specs.Digest.{sha_lanes}
use Rattle.rv_spec.specs.Grammar.{Spells}
use Rattle.rv_spec.specs.Record.{Parts, file_bytes, header_bytes, shard_bytes, table_bytes}
use Rattle.rv_rules.specs.Verdict.{judge, parse}
use Rattle.rv_file.proofs.Lemmas.{is-parsed, length-header_bytes, ok-is}
use Rattle.rv_sound.specs.Accepted.{ReadsAccepted}
use Rattle.rv_host.specs.Views.{ShelfView}
use Rattle.rv_plan.specs.Plan.{answer, with_due}
use Rattle.rv_plan.specs.Endings.{IsWritten}
use Rattle.rv_plan.specs.FileCalls.{Performs, PerformsBehind, ReadsWithin, Stops, Writes}
use Rattle.rv_plan.specs.declared.faults.Fault.{Fault}
use Rattle.rv_plan.specs.declared.faults.Limited.TheVariants as limited
use Rattle.rv_plan.specs.declared.told.Told.{Told}
use Rattle.rv_plan.proofs.Lemmas.{performs-read, read-stops}
use Rattle.rv_upgrade.specs.Upgrade.{blocked, upgraded}
use Rattle.rv_upgrade.specs.Laws.{IsAcceptedToo, UpgradedIsAccepted, UpgradedIsTheRecord}
use Rattle.rv_commands.specs.CommandLine.{UpgradeWords, upgrade}
use Rattle.rv_commands.specs.Headline.{HasUpgrade, Upgraded}
use Rattle.rv_commands.specs.Lines.{upgraded_line}
use Rattle.rv_commands.specs.Outcome.{plan_of, renewed, unless_blocked, upgrade_done}
use Rattle.rv_commands.specs.Upgrading.{UpgradesFile}

-- ---- the file

-- it has the byte of its version
pub has-version : (p : Parts) (file : List ℕ) → Spells p file → VERSION_AT < length file
unfolding file_bytes
has-version p file s =
    let front : List ℕ = header_bytes p.header ++ p.output in
    let body : List ℕ = front ++ flat_map shard_bytes p.shards in
    let is : file ≡ body ++ table_bytes p.table = s.is in
    omega (arith, ap length is, length-append body (table_bytes p.table), length-append front (flat_map shard_bytes p.shards), length-append (header_bytes p.header) p.output, length-header_bytes p.header s.fit.header)

-- what the plan says of a file of good form that nothing blocks
renewed-is : (w : UpgradeWords) (file : List ℕ) (p : Parts) → Spells p file → blocked p ≡ None → renewed w file (parse file) ≡ upgrade_done w file p.header.steps
renewed-is w file p spells free = ap (renewed w file) (is-parsed file p spells) ∙ ap (λ b. unless_blocked b (upgrade_done w file p.header.steps)) free

-- a program and an input that accept it accept these parts of it, and the upgraded file
accepted-too : (file : List ℕ) (p : Parts) → ((elf input : List ℕ) → ReadsAccepted sha_lanes elf input) → UpgradedIsAccepted → AreBytes file → Spells p file → blocked p ≡ None
    → (elf input : List ℕ) (q : Parts) → judge sha_lanes elf input file ≡ Ok q → IsAcceptedToo sha_lanes elf input file q
accepted-too file p reads law bytes spells free elf input q judged =
    let other = ((reads elf input).accepted file q bytes judged).0 in
    let same : q ≡ p = ok-is q p (sym (is-parsed file q other) ∙ is-parsed file p spells) in
    law sha_lanes elf input file q bytes judged (ap blocked same ∙ free)

pub upgrade-written : (w : UpgradeWords) (file bytes : List ℕ) (p : Parts) (s s' : ShelfView) (told : Told) → ((elf input : List ℕ) → ReadsAccepted sha_lanes elf input) → UpgradedIsAccepted → UpgradedIsTheRecord → AreBytes file → Spells p file → blocked p ≡ None
    → bytes ≡ upgraded file → told.status ≡ 0 → told.text ≡ upgraded_line p.header.steps (length bytes) → Writes ((w.target, bytes) ∷ []) s s' (Ok tt) → UpgradesFile w file s s' (Ok told)
upgrade-written w file bytes p s s' told reads law record-law are spells free same status text wrote =
    let written = subst (λ b. IsWritten ((w.target, b) ∷ []) s s') same wrote in
    let is = renewed-is w file p spells free in
    record {
      performs = (upgrade_done w file p.header.steps, sym is, status, text ∙ ap (λ (b : List ℕ). upgraded_line p.header.steps (length b)) same, written);
      upgrades = λ _. (record { parts = p; spells = spells; free = free; told = is; accepted = accepted-too file p reads law are spells free; of_run = λ elf input size n e of_elf of_input is-record. record-law sha_lanes elf input file p size n e of_elf of_input spells free is-record }, written);
    }

-- ---- the command

pub upgrade-unread : (w : UpgradeWords) (s s' : ShelfView) (f : Fault) → ReadsWithin w.file RECORD_LIMIT limited.Record s s' (Err f) → Stops (plan_of (upgrade w)) s s' f
upgrade-unread w s s' f read = read-stops w.file RECORD_LIMIT limited.Record s s' f (λ file. answer (renewed w file (parse file))) read

pub upgrade-performs : (w : UpgradeWords) (s s' s'' : ShelfView) (file bytes : List ℕ) (r : Result Told Fault) → ReadsWithin w.file RECORD_LIMIT limited.Record s s' (Ok file) → bytes ≡ file → UpgradesFile w bytes s' s'' r → Performs (plan_of (upgrade w)) s s'' r
upgrade-performs w s s' s'' file bytes r read same h =
    performs-read w.file RECORD_LIMIT limited.Record s s' s'' file (λ contents. answer (renewed w contents (parse contents))) r read (subst (λ b. PerformsBehind (answer (renewed w b (parse b))) s' s'' r) same h.performs)

-- the file that was read, and what was written of it
are-upgraded : (w : UpgradeWords) (s s' s'' : ShelfView) (file : List ℕ) → ReadsWithin w.file RECORD_LIMIT limited.Record s s' (Ok file) → HasUpgrade w file → IsWritten ((w.target, upgraded file) ∷ []) s' s'' → Upgraded s s'' w
are-upgraded w s s' s'' file read has wrote = record {
  file = file;
  file_is = read.2;
  has = has;
  written = record {
    files = wrote.files ∙ ap (option_map (λ told. with_due told ((w.target, upgraded file) ∷ []))) read.0.files;
    writes = λ name. wrote.writes name ∙ read.0.writes name;
  };
}

pub upgrade-upgraded : (w : UpgradeWords) (s s' s'' : ShelfView) (file bytes : List ℕ) (r : Result Told Fault) → ReadsWithin w.file RECORD_LIMIT limited.Record s s' (Ok file) → bytes ≡ file → UpgradesFile w bytes s' s'' r
    → IfOk r (λ told. told.status ≡ 0 → Upgraded s s'' w)
upgrade-upgraded w s s' s'' file bytes (Err f) read same h = tt
upgrade-upgraded w s s' s'' file bytes (Ok told) read same h = λ zero.
    let done = h.upgrades zero in
    are-upgraded w s s' s'' file read (subst (HasUpgrade w) same done.0) (subst (λ b. IsWritten ((w.target, upgraded b) ∷ []) s' s'') same done.1)
