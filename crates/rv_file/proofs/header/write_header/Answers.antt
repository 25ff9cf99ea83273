use Rattle.std.proofs.Common.{List, ℕ, ap, ◌∙◌}
use Rattle.rv_spec.specs.Record.{header_bytes}
use Rattle.rv_file.specs.Front.{with_numbers}
use Rattle.rv_file.proofs.header.write_header.Goals as goal

pub returns : goal.returns
unfolding header_bytes
returns c = c.write_numbers.ensures ∙ ap (λ (xs : List ℕ). with_numbers xs c.args.h.now) c.write_hashes.ensures
