use Rattle.std.proofs.Common.{ℕ, ◌/◌, ◌^◌, ◌<◌, List, subst, ap, ◌∙◌}
use Rattle.std.specs.List.{AllByRecursion}
use Rattle.rv_gen.specs.Programs.{executable_of}
use Rattle.rv_gen.proofs.Lengths.{program-is}
use Rattle.rv_gen.proofs.made.program.Goals as goal

pub returns : goal.returns
returns c =
    let words = c.in_ok-words.words.items in
    let is = program-is (c.args.size / 42) c.args.number _ _ words c.in_ok-input.input.items c.in_ok-words.ensures.drawn c.in_ok-input.ensures in
    record {
      code = words;
      spells = record { fit = subst (λ (l : List ℕ). AllByRecursion (λ w. w < 2 ^ 32) l) c.deref.ensures.value c.executable.ensures.numbers; spell = is.0 };
      elf = c.of.ensures ∙ c.in_ok-elf.ensures.file ∙ ap executable_of c.deref.ensures.value;
      input = c.of-2.ensures ∙ is.1;
    }
