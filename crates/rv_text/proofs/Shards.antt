-- Where the rows of each shard lie among all rows.
use Rattle.std.proofs.Common.{◌≡◌, ℕ, zero, suc, ◌+◌, ◌-◌, ◌*◌, ◌<◌, ◌≤◌, List, [], ◌∷◌, ◌++◌, length, take, drop, ◌^◌, refl, sym, ap, subst, ◌∙◌, append_assoc, length-append, arith}
use Rattle.std.specs.List.{flat_map}
use Rattle.std.proofs.Math.Nat.{mul-le-mul_right}
use Rattle.std.proofs.lemmas.Grind.{div_ceil_times}
use Rattle.rv_base.specs.declared.record.Header.{Header}
use Rattle.rv_spec.specs.Trace.{Row}
use Rattle.rv_base.specs.declared.record.ShardHead.{ShardHead}
use Rattle.std.proofs.lemmas.List.{drop_at}
use Rattle.rv_spec.specs.Digest.{set_digest_bytes}
use Rattle.rv_spec.specs.Record.{Shard, Parts, head_bytes, row_bytes, shard_bytes, table_bytes}
use Rattle.rv_spec.specs.Grammar.{ShardFits, ShardsFit, PartsFit}
use Rattle.rv_rules.specs.Reading.{head_of}
use Rattle.rv_file.specs.Parsing.{shard_size}
use Rattle.rv_file.proofs.Lemmas.{IsShard, is-shard, first-head}

abbrev pub rows_in : List Shard → List Row
rows_in ss = flat_map (λ s. s.rows) ss

-- no more rows than steps
pub rows-most : (h : Header) (i : ℕ) (ss : List Shard) → ShardsFit h i ss → length (rows_in ss) ≤ h.steps - i * h.size
rows-most h i [] fit = omega arith
rows-most h i (s ∷ ss) fit =
    omega (arith, length-append s.rows (rows_in ss), rows-most h (i + 1) ss fit.1, fit.0.count, fit.0.rows)

-- each shard but the last is full
pub rows-exact : (h : Header) (i : ℕ) (ss : List Shard) (k : ℕ) → ShardsFit h i ss → k < length ss → (i + k) * h.size < h.steps → length (rows_in (take k ss)) ≡ k * h.size
rows-exact h i ss zero fit lt more = omega arith
rows-exact h i [] (suc k) fit lt more = absurd (omega arith)
rows-exact h i (s ∷ ss) (suc k) fit lt more =
    let others : length (rows_in (take k ss)) ≡ k * h.size = rows-exact h (i + 1) ss k fit.1 (omega arith) (omega arith) in
    omega (arith, length-append s.rows (rows_in (take k ss)), others, fit.0.count, fit.0.rows)

-- a shard at a place
pub record ShardAt (h : Header) (ss : List Shard) (i j : ℕ) (s : Shard) : Type 0 where
  pub fits : ShardFits h (i + j) s
  pub front : take (j + 1) ss ≡ take j ss ++ s ∷ []
  pub behind : drop j ss ≡ s ∷ drop (j + 1) ss

pub shard-at : (h : Header) (i : ℕ) (ss : List Shard) (j : ℕ) → j < length ss → ShardsFit h i ss → (s : Shard) × ShardAt h ss i j s
shard-at h i [] j lt fit = absurd (omega arith)
shard-at h i (s ∷ ss) zero lt fit =
    let same : i ≡ i + 0 = omega arith in
    (s, record { fits = subst (λ k. ShardFits h k s) same fit.0; front = refl; behind = refl })
shard-at h i (s ∷ ss) (suc j) lt fit =
    let more = shard-at h (i + 1) ss j (omega arith) fit.1 in
    let same : i + 1 + j ≡ i + suc j = omega arith in
    let next : suc j + 1 ≡ suc (j + 1) = omega arith in (
      more.0,
      record {
        fits = subst (λ k. ShardFits h k more.0) same more.1.fits;
        front = ap (λ k. take k (s ∷ ss)) next ∙ ap (λ t. s ∷ t) more.1.front;
        behind = more.1.behind ∙ ap (λ k. more.0 ∷ drop k (s ∷ ss)) (sym next);
      },
    )

-- the steps, by the shards
pub record Sized (h : Header) : Type 0 where
  pub most : h.steps ≤ h.shards * h.size
  pub less : (k : ℕ) → k < h.shards → k * h.size < h.steps
  pub within : h.steps ≤ 2 ^ 32

pub sized : (p : Parts) → PartsFit p → Sized p.header
sized p fit =
    let h = p.header in
    let ceil = div_ceil_times h.steps h.size (omega (arith, fit.header.size)) in
    let most : h.steps ≤ h.shards * h.size = subst (λ n. h.steps ≤ n * h.size) (sym fit.header.shards) ceil.0 in
    let least : h.shards * h.size < h.steps + h.size = subst (λ n. n * h.size < h.steps + h.size) (sym fit.header.shards) ceil.1 in
    record {
      most = most;
      less = λ k lt. (let grown : (k + 1) * h.size ≤ h.shards * h.size = mul-le-mul_right h.size (omega arith) in omega (arith, grown, least));
      within = (
          let one : h.shards * h.size ≤ 65536 * h.size = mul-le-mul_right h.size fit.header.shards_within in
          omega (arith, most, one, fit.header.size.1)
          );
    }

length-head : (h : ShardHead) → length (head_bytes h) ≡ 32
unfolding head_bytes
length-head h = refl

-- ---- a shard at the front of bytes

abbrev pub digests : Shard → List ℕ
digests s = set_digest_bytes s.reads ++ set_digest_bytes s.writes

-- its rows lie behind its head
pub rows-behind-head : (s : Shard) (tail : List ℕ) → drop 32 (shard_bytes s ++ tail) ≡ flat_map row_bytes s.rows ++ (digests s ++ tail)
unfolding shard_bytes
rows-behind-head s tail =
    let behind = flat_map row_bytes s.rows ++ (digests s ++ tail) in
    let is : shard_bytes s ++ tail ≡ head_bytes s.head ++ behind = simp append_assoc in
    ap (λ (l : List ℕ). drop 32 l) is ∙ drop_at (head_bytes s.head) behind 32 (length-head s.head)

-- what lies behind shard k in the body of a file
abbrev pub behind : Parts → ℕ → List ℕ
behind p k = flat_map shard_bytes (drop (k + 1) p.shards) ++ table_bytes p.table

-- The bytes begin with shard k, and others are behind it.
pub record BeginsWith (p : Parts) (k : ℕ) (rest : List ℕ) (s : Shard) : Type 0 where
  pub fits : ShardFits p.header k s
  pub front : take (k + 1) p.shards ≡ take k p.shards ++ s ∷ []
  pub begins : rest ≡ shard_bytes s ++ behind p k
  pub room : shard_size rest ≤ length rest
  pub next : drop (shard_size rest) rest ≡ behind p k

pub next-shard : (p : Parts) (k : ℕ) (rest : List ℕ) → PartsFit p → k < length p.shards → rest ≡ flat_map shard_bytes (drop k p.shards) ++ table_bytes p.table → (s : Shard) × BeginsWith p k rest s
next-shard p k rest fit lt e =
    let at = shard-at p.header 0 p.shards k lt fit.shards in
    let s : Shard = at.0 in
    let number : 0 + k ≡ k = omega arith in
    let fits : ShardFits p.header k s = subst (λ n. ShardFits p.header n s) number at.1.fits in
    let is : IsShard s = is-shard p.header k s fit.header.size.1 (omega (arith, fit.count, fit.header.shards_within)) fits in
    let begins : rest ≡ shard_bytes s ++ behind p k =
    e ∙ ap (λ ss. flat_map shard_bytes ss ++ table_bytes p.table) at.1.behind ∙ append_assoc (shard_bytes s) (flat_map shard_bytes (drop (k + 1) p.shards)) (table_bytes p.table) in
    let head : head_of rest ≡ s.head = ap head_of begins ∙ first-head s (behind p k) is in
    let size : length (shard_bytes s) ≡ shard_size rest = is.size ∙ ap (λ (h : ShardHead). 288 + h.bytes) (sym head) in (
      s,
      record {
        fits = fits;
        front = at.1.front;
        begins = begins;
        room = omega (arith, ap length begins, length-append (shard_bytes s) (behind p k), size);
        next = ap (λ (xs : List ℕ). drop (shard_size rest) xs) begins ∙ drop_at (shard_bytes s) (behind p k) (shard_size rest) size;
      },
    )
