-- What asm does, as its plan says, and what its success says.
use Rattle.std.proofs.Common.{◌≡◌, ℕ, List, [], ◌∷◌, ◌++◌, length, None, Ok, Err, Result, IfOk, option_map, refl, sym, ap, subst, ◌∙◌}
use Rattle.rv_spec.specs.Elf.{first_fault, image}
use Rattle.rv_asm.specs.Assembly.{assembly, symbols_of}
use Rattle.rv_asm.specs.Executable.{executable, HoldsWords}
use Rattle.rv_asm.specs.Laws.{StatementsAreHeld}
use Rattle.rv_asm.specs.Symbols.{Symbol}
use Rattle.rv_asm.specs.Listing.{listing}
use Rattle.rv_asm.specs.declared.limits.TheConstants.{SOURCE_LIMIT}
use Rattle.rv_host.specs.Views.{ShelfView}
use Rattle.rv_plan.specs.Plan.{answer, with_due}
use Rattle.rv_plan.specs.Endings.{IsWritten, WriteFails}
use Rattle.rv_plan.specs.FileCalls.{Performs, PerformsBehind, ReadsWithin, Stops, Writes}
use Rattle.rv_plan.specs.declared.faults.Fault.{Fault}
use Rattle.rv_plan.specs.declared.faults.Fault.TheVariants.{Words, Elf, Budget, Read, Write, Memory, Limit, Version, Part, Step, Assembly}
use Rattle.rv_plan.specs.declared.faults.Limited.TheVariants as limited
use Rattle.rv_plan.specs.declared.told.Told.{Told}
use Rattle.rv_plan.proofs.Lemmas.{performs-read, read-stops}
use Rattle.rv_commands.specs.Assembling.{Assembles, AssemblesSource, IsToldExecutable}
use Rattle.rv_commands.specs.CommandLine.{AsmWords, asm}
use Rattle.rv_commands.specs.Headline.{Assembled, IsExecutableOf}
use Rattle.rv_commands.specs.Lines.{assembled_line}
use Rattle.rv_commands.specs.Outcome.{assembled, plan_of}

-- ---- the executable

pub told-executable : (source words file text listed : List ℕ) (symbols : List Symbol) → StatementsAreHeld → assembly source ≡ Ok words → symbols ≡ symbols_of source → file ≡ executable words → first_fault file ≡ None → HoldsWords words (image 1 file)
    → listed ≡ listing symbols words → text ≡ listed ++ assembled_line (length words) (length file) → IsToldExecutable source file text
told-executable source words file text listed symbols law assembled labels is faultless holds lists told =
    let held = law source words (image 1 file) assembled holds in
    record {
      is = record { words = words; words_are = assembled; count = held.0; is = is; faultless = faultless; statements = held.1 };
      told = told ∙ ap (λ (l : List ℕ). l ++ assembled_line (length words) (length file)) (lists ∙ ap (λ (ss : List Symbol). listing ss words) labels);
    }

-- ---- behind the source

-- a source that has a fault, or for which there is no memory, changes no file
pub source-refused : (w : AsmWords) (source : List ℕ) (s : ShelfView) (f : Fault) → Assembles source (Err f) → AssemblesSource w source s s (Err f)
source-refused w source s (Assembly n kind) h = record { performs = (record { files = refl; writes = λ _. refl }, sym (ap (assembled w (symbols_of source)) h)); written = tt }
source-refused w source s Memory h = record { performs = record { files = refl; writes = λ _. refl }; written = tt }
source-refused w source s Words h = absurd h
source-refused w source s (Elf e) h = absurd h
source-refused w source s (Budget n) h = absurd h
source-refused w source s Read h = absurd h
source-refused w source s Write h = absurd h
source-refused w source s (Limit what) h = absurd h
source-refused w source s (Version reason) h = absurd h
source-refused w source s (Part number fault) h = absurd h
source-refused w source s (Step steps) h = absurd h

module _ (w : AsmWords) (source file text bytes : List ℕ) (s s' : ShelfView) (is : IsToldExecutable source file text) (same : bytes ≡ file) where
  pub source-written : (told : Told) → told.status ≡ 0 → told.text ≡ text → Writes ((w.target, bytes) ∷ []) s s' (Ok tt) → AssemblesSource w source s s' (Ok told)
  source-written told status text_is wrote = record {
    performs = (
      assembled w (symbols_of source) (Ok is.is.words),
      sym (ap (assembled w (symbols_of source)) is.is.words_are),
      status,
      text_is ∙ is.told ∙ ap (λ (f : List ℕ). listing (symbols_of source) is.is.words ++ assembled_line (length is.is.words) (length f)) is.is.is,
      subst (λ b. IsWritten ((w.target, b) ∷ []) s s') (same ∙ is.is.is) wrote,
    );
    written = λ _. (file, is.is, subst (λ b. IsWritten ((w.target, b) ∷ []) s s') same wrote);
  }

  pub source-torn : (f : Fault) → Writes ((w.target, bytes) ∷ []) s s' (Err f) → AssemblesSource w source s s' (Err f)
  source-torn f wrote = record {
    performs = subst (λ e. PerformsBehind (answer (assembled w (symbols_of source) (assembly source))) s s' (Err e)) (sym wrote.0) (
      assembled w (symbols_of source) (Ok is.is.words),
      sym (ap (assembled w (symbols_of source)) is.is.words_are),
      subst (λ b. WriteFails ((w.target, b) ∷ []) s s') (same ∙ is.is.is) wrote.1,
    );
    written = tt;
  }

-- ---- the command

pub asm-unread : (w : AsmWords) (s s' : ShelfView) (f : Fault) → ReadsWithin w.source SOURCE_LIMIT limited.Source s s' (Err f) → Stops (plan_of (asm w)) s s' f
asm-unread w s s' f read = read-stops w.source SOURCE_LIMIT limited.Source s s' f (λ source. answer (assembled w (symbols_of source) (assembly source))) read

pub asm-performs : (w : AsmWords) (s s' s'' : ShelfView) (source bytes : List ℕ) (r : Result Told Fault) → ReadsWithin w.source SOURCE_LIMIT limited.Source s s' (Ok source) → bytes ≡ source → AssemblesSource w bytes s' s'' r → Performs (plan_of (asm w)) s s'' r
asm-performs w s s' s'' source bytes r read same h =
    performs-read w.source SOURCE_LIMIT limited.Source s s' s'' source (λ contents. answer (assembled w (symbols_of contents) (assembly contents))) r read
    (subst (λ b. PerformsBehind (answer (assembled w (symbols_of b) (assembly b))) s' s'' r) same h.performs)

-- the source that was read, and what was written of it
pub asm-assembled : (w : AsmWords) (s s' s'' : ShelfView) (source bytes : List ℕ) (r : Result Told Fault) → ReadsWithin w.source SOURCE_LIMIT limited.Source s s' (Ok source) → bytes ≡ source → AssemblesSource w bytes s' s'' r
    → IfOk r (λ told. told.status ≡ 0 → Assembled s s'' w)
asm-assembled w s s' s'' source bytes (Err f) read same h = tt
asm-assembled w s s' s'' source bytes (Ok told) read same h = λ zero.
    let written = h.written zero in
    record {
      source = source;
      file = written.0;
      source_is = read.2;
      file_is = subst (λ b. IsExecutableOf b written.0) same written.1;
      written = record {
        files = written.2.files ∙ ap (option_map (λ told. with_due told ((w.target, written.0) ∷ []))) read.0.files;
        writes = λ name. written.2.writes name ∙ read.0.writes name;
      };
    }
