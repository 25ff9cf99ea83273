-- What a walk gives, for the pipe.
use Rattle.std.proofs.Common.{◌≡◌, ℕ, ◌-◌, ◌<◌, Bool, true, false, List, Some, None, sym, refl, ap, ◌∙◌, subst, arith}
use Rattle.std.specs.Prelude.{nat_lt}
use Rattle.std.specs.Int.{IsInRange, div_ceil}
use Rattle.std.proofs.lemmas.Bool.Decides.{nat_tests}
use Rattle.rv_base.specs.declared.limits.TheConstants.{SHARD_SIZE_LIMIT}
use Rattle.rv_base.specs.declared.record.End.{End}
use Rattle.rv_spec.specs.Elf.{Image}
use Rattle.rv_spec.specs.Digest.{Lanes}
use Rattle.rv_spec.specs.Run.{EndsIn}
use Rattle.rv_point.specs.declared.fault.RunFault.{RunFault}
use Rattle.rv_point.specs.declared.fault.RunFault.TheVariants as fault
use Rattle.rv_point.specs.declared.start.ShardStart.{ShardStart}
use Rattle.rv_point.specs.declared.walk.Whole.{Whole}
use Rattle.rv_point.specs.Course.{HasFault, IsNextStart}
use Rattle.rv_point.specs.PointsState.{HasNoSurvey}
use Rattle.rv_point.specs.Start.{HasShard, IsStart, shard_start}
use Rattle.rv_point.specs.Walk.{GivesNext, HasGivenAll, IsSameWalk, IsWhole}
use Rattle.rv_point.specs.WalkState.{WalkState}
use Rattle.rv_replay.specs.Piece.{piece_of, shard_piece}
use Rattle.rv_pipe.specs.Due.{IsDue}

-- a fault of the walk is why there is no survey
pub no-survey : (i : Image) (input : List ℕ) (size budget given : ℕ) (f : RunFault) → HasFault i input size budget given f → HasNoSurvey i input size budget f
no-survey i input size budget given fault.Budget h = h.goes_on
no-survey i input size budget given (fault.Shards needed) h = record { steps = h.steps; end = h.end; ends = h.ends; within = h.within; count = h.count; more = h.more }
no-survey i input size budget given fault.NoMemory h = tt

-- a run ends once
before-end : (i : Image) (input : List ℕ) (n m : ℕ) (d e : End) → EndsIn i input n d → EndsIn i input m e → n < m → ⊥
before-end i input n m d e a b lt = some-none d (sym a.last ∙ b.before (n - 1) (omega (arith, lt, a.some)))
  where
    some-none : (d : End) → Some d ≡ None → ⊥
    some-none d h = absurd cc

pub one-end : (i : Image) (input : List ℕ) (n m : ℕ) (d e : End) → EndsIn i input n d → EndsIn i input m e → n ≡ m
one-end i input n m d e a b = by (nat_lt n m) refl (nat_lt m n) refl
  where
    by : (s : Bool) → nat_lt n m ≡ s → (t : Bool) → nat_lt m n ≡ t → n ≡ m
    by true p t q = absurd (before-end i input n m d e a b (grind (arith, nat_tests)))
    by false p true q = absurd (before-end i input m n e d b a (grind (arith, nat_tests)))
    by false p false q = grind (arith, nat_tests)

-- the walk goes on over the same run
pub same-walk : (u v w : WalkState) → IsSameWalk u v → IsSameWalk v w → IsSameWalk u w
same-walk u v w a b = record { image = b.image ∙ a.image; input = b.input ∙ a.input; size = b.size ∙ a.size; budget = b.budget ∙ a.budget }

abbrev at-run : WalkState → WalkState → WalkState
at-run u w = record { image = u.image; input = u.input; size = u.size; budget = u.budget; given = w.given; ended = w.ended; fault = w.fault }

pub same-state : (u w : WalkState) → IsSameWalk u w → w ≡ at-run u w
same-state u w s = λ t. record { image = s.image t; input = s.input t; size = s.size t; budget = s.budget t; given = w.given; ended = w.ended; fault = w.fault }

pub whole-of : (u w : WalkState) (o : Whole) → IsSameWalk u w → IsWhole w o → IsWhole u o
whole-of u w o s h =
    let k : IsWhole (at-run u w) o = subst (λ v. IsWhole v o) (same-state u w s) h in
    record { ends = k.ends; within = k.within; shards = k.shards; few = k.few; consumed = k.consumed; output = k.output; table = k.table }

-- as many starts were given as the whole has shards
pub all-given : (w : WalkState) (o : Whole) → HasGivenAll w → IsWhole w o → w.given ≡ o.shards
all-given w o g h = g.all ∙ ap (λ n. div_ceil n w.size) (one-end w.image w.input g.steps o.steps g.end o.end g.ends h.ends) ∙ sym h.shards

pub fault-of : (u w : WalkState) (f : RunFault) → IsSameWalk u w → HasFault w.image w.input w.size w.budget w.given f → HasNoSurvey u.image u.input u.size u.budget f
fault-of u w f s h = no-survey u.image u.input u.size u.budget w.given f (subst (λ (v : WalkState). HasFault v.image v.input v.size v.budget v.given f) (same-state u w s) h)

pub next-of : (u w : WalkState) (x : ShardStart) → IsSameWalk u w → IsNextStart w.image w.input w.size w.budget w.given x → IsNextStart u.image u.input u.size u.budget w.given x
next-of u w x s h = subst (λ (v : WalkState). IsNextStart v.image v.input v.size v.budget v.given x) (same-state u w s) h

-- what the walk gives next, of the run that it began with
pub gives-start : (u w x : WalkState) (s : ShardStart) (due : ShardStart → Type 0) → IsSameWalk u w → GivesNext w x (Some s) → ((given : ℕ) (y : ShardStart) → IsNextStart u.image u.input u.size u.budget given y → due y) → (s.index ≡ w.given) × due s
gives-start u w x s due same g dues = (ap (λ (y : ShardStart). y.index) g.0.is, dues w.given s (next-of u w s same g.0))

-- a next start is due
pub next-due : (i : Image) (input : List ℕ) (size budget given : ℕ) (x : ShardStart) → IsInRange 1 SHARD_SIZE_LIMIT size → IsNextStart i input size budget given x → IsDue i input size x
next-due i input size budget given x range n =
    let at : x.index ≡ given = ap (λ (y : ShardStart). y.index) n.is in
    record {
      size_within = range;
      few = omega (arith, n.few, at);
      has = subst (HasShard i input size) (sym at) n.has;
      is = n.is ∙ ap (shard_start i input size) (sym at);
    }

-- and what is due is the start of a shard
pub due-start : (i : Image) (input : List ℕ) (size : ℕ) (x : ShardStart) → IsDue i input size x → IsStart i input x
due-start i input size x d = (size, x.index, d.size_within, d.few, d.has, d.is)

-- its rows are those of the piece of its shard
pub piece-due : (lanes : Lanes) (i : Image) (input : List ℕ) (size : ℕ) (x : ShardStart) → IsDue i input size x → piece_of lanes i input x.index x.step x.rows ≡ shard_piece lanes i input size x.index
piece-due lanes i input size x d = ap (λ (y : ShardStart). piece_of lanes i input x.index y.step y.rows) d.is
