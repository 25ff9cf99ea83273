use Rattle.std.proofs.Common.{◌≡◌, ◌∙◌, ◌-◌, List, ℕ, ap, sym, bytes_eq, ◌&&◌, take, drop, length, arith}
use Rattle.std.proofs.lemmas.List.{length-drop, take_all}
use Rattle.rv_rules.specs.Reading.{digest_of}
use Rattle.rv_judge.proofs.sums.Sums.are_stated.Goals as goal

pub returns-then-states : goal.returns-then-states
returns-then-states c =
    let xs = c.args.bytes.now in
    let s = c.args.self.now in
    let behind : take (length xs - 128) (drop 128 xs) ≡ drop 128 xs = take_all (length xs - 128) (drop 128 xs) (omega (arith, length-drop 128 xs)) in
    c.states-then-states.ensures
    ∙ ap (λ (z : List ℕ). bytes_eq (digest_of z) s.writes.lanes) behind
    ∙ ap (λ b. b && bytes_eq (digest_of (drop 128 xs)) s.writes.lanes) (sym c.if-states.true ∙ c.states.ensures)
