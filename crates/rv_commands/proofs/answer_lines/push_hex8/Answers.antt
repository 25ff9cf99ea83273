use Rattle.std.proofs.Common.{rules, ◌≡◌, ◌++◌, ◌-◌, ◌^◌, false, [], List, ℕ, OnOk, string_bytes, subst}
use Rattle.std.specs.Fmt.{padded_integral, format_spec}
use Rattle.rv_text.specs.Syntax.{hex}
use Rattle.rv_text.proofs.Lemmas.{padded}
use Rattle.rv_commands.proofs.answer_lines.push_hex8.Goals as goal

pub returns : goal.returns
returns c =
    let written : OnOk c.write.result (string_bytes c.write.new.self ≡ string_bytes c.args.text.now ++ padded_integral (format_spec 32 0 4 8 (2 ^ 64 - 1)) false [] (hex c.args.n)) = search rules in
    subst (λ (t : List ℕ). OnOk c.write.result (string_bytes c.write.new.self ≡ string_bytes c.args.text.now ++ t)) (padded c.args.n) written
