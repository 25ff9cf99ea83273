use Rattle.std.proofs.Common.{◌≡◌, ◌+◌, [], length}
use Rattle.rv_claim.specs.Views.{home_view}
use Rattle.rv_claim.specs.Making.{AreMore}
use Rattle.rv_claim.proofs.opening.make_passes.Given as goal

abbrev pub invariant-loop-number : goal.invariant-loop-number
invariant-loop-number g l = (l.home.table_id ≡ l.table.shared.table_id) × (l.home.id ≡ 0) × (l.home.me ≡ (home_view l.number [], []))
    × (length l.passes.items + 1 ≡ l.number) × AreMore l.table.shared.table_id l.shards l.workers l.passes.items
