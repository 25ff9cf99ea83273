use Rattle.std.proofs.Common.{◌≡◌, ◌≤◌, [], List, ℕ, length, take, refl, subst, arith}
use Rattle.rv_host.specs.Files.{file}
use Rattle.rv_plan.proofs.Plans.{contents-above, contents-within}
use Rattle.rv_plan.proofs.loading.read_within.Goals as goal

-- nothing was read before
nothing : (bytes whole : List ℕ) → bytes ≡ [] → bytes ≡ take (length bytes) whole
nothing bytes whole none = rw none refl

pub returns-then-len-limit : goal.returns-then-len-limit
returns-then-len-limit g c =
    let read = c.in_ok-read_on.ensures in
    let size : c.len.result ≡ length c.read_on.new.bytes.items = omega (arith, c.len.ensures, c.read_on.new.bytes.ok.0) in (
      read.0,
      refl,
      contents-above (g.S.Shelf.view c.args.shelf.now).files c.args.name.now c.read_on.new.bytes.items c.args.limit c.len.result size c.if-len-limit.true
          (λ told is. read.3 told is (nothing c.new-bytes.result.items (file told c.args.name.now) c.new-bytes.ensures.items)),
    )

pub returns : goal.returns
returns g c =
    let read = c.in_ok-read_on.ensures in
    let size : c.len.result ≡ length c.read_on.new.bytes.items = omega (arith, c.len.ensures, c.read_on.new.bytes.ok.0) in
    rw c.of.ensures (
      read.0,
      subst (λ n. n ≤ c.args.limit) size c.if-len-limit.false,
      contents-within (g.S.Shelf.view c.args.shelf.now).files c.args.name.now c.read_on.new.bytes.items c.args.limit c.len.result size c.if-len-limit.false
          (λ told is. read.3 told is (nothing c.new-bytes.result.items (file told c.args.name.now) c.new-bytes.ensures.items)),
    )
