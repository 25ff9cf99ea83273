use Rattle.std.proofs.Common.{◌≡◌, ℕ, ◌+◌, ◌-◌, List, length, subst, ap, arith}
use Rattle.rv_gen.specs.Words.{Adds}
use Rattle.rv_gen.specs.Programs.{items, filled, front, back}
use Rattle.rv_gen.proofs.Lengths.{adds-length, items-few, filled-length, code-adds}
use Rattle.rv_gen.proofs.words.code.Goals as goal

pub overflow_cast-body : goal.overflow_cast-body
overflow_cast-body c =
    let s = c.push_words.new.draws.state in
    let body = adds-length (items 32 s).0 c.push_words.new.code.items c.push_items.new.code.items c.in_ok-push_items.ensures.0 in
    omega (arith, body, items-few 32 s, c.len.ensures, c.len-start.ensures)

pub push_back-requires : goal.push_back-requires
push_back-requires c =
    let s = c.push_words.new.draws.state in
    let body = adds-length (items 32 s).0 c.push_words.new.code.items c.push_items.new.code.items c.in_ok-push_items.ensures.0 in
    omega (arith, body, items-few 32 s, c.len.ensures, c.len-start.ensures)

pub returns-clause-drawn : goal.returns-clause-drawn
returns-clause-drawn c =
    let s = c.push_words.new.draws.state in
    let n = c.len.result - c.len-start.result in
    let body = adds-length (items 32 s).0 c.push_words.new.code.items c.push_items.new.code.items c.in_ok-push_items.ensures.0 in
    let count : n ≡ length (items 32 s).0 = omega (arith, body, c.len.ensures, c.len-start.ensures) in
    let begun = subst (λ (l : List ℕ). Adds (front c.args.rounds) l c.push_front.new.code.items) c.new-code.ensures.items c.in_ok-push_front.ensures in
    code-adds c.args.rounds n c.args.draws.now.state s c.push_items.new.draws.state c.push_front.new.code.items c.push_words.new.code.items c.push_items.new.code.items c.push_back.new.code.items
    begun c.in_ok-push_words.ensures c.in_ok-push_items.ensures c.in_ok-push_back.ensures count

pub returns-clause-few : goal.returns-clause-few
returns-clause-few c =
    let s = c.push_words.new.draws.state in
    let n = c.len.result - c.len-start.result in
    let start : length c.push_front.new.code.items ≡ length c.new-code.result.items + 2 = adds-length (front c.args.rounds) c.new-code.result.items c.push_front.new.code.items c.in_ok-push_front.ensures in
    let words = adds-length (filled 10 18 c.args.draws.now.state).0 c.push_front.new.code.items c.push_words.new.code.items c.in_ok-push_words.ensures.0 in
    let body = adds-length (items 32 s).0 c.push_words.new.code.items c.push_items.new.code.items c.in_ok-push_items.ensures.0 in
    let last : length c.push_back.new.code.items ≡ length c.push_items.new.code.items + 6 = adds-length (back n) c.push_items.new.code.items c.push_back.new.code.items c.in_ok-push_back.ensures in
    omega (arith, ap length c.new-code.ensures.items, start, words, filled-length 10 18 c.args.draws.now.state, body, items-few 32 s, last)
