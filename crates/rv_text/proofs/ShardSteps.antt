-- One shard more of those that are listed.
use Rattle.std.proofs.Common.{◌≡◌, ℕ, ◌+◌, ◌-◌, ◌*◌, ◌^◌, ◌<◌, ◌≤◌, min, ◌⊎◌, inl, inr, List, [], ◌∷◌, ◌++◌, length, take, drop, sym, ap, ◌∙◌, ⊎_elim, arith}
use Rattle.std.specs.Int.{div_ceil}
use Rattle.std.proofs.Math.Nat.{mul-le-mul_right}
use Rattle.std.proofs.Math.Seq.{take-nil}
use Rattle.std.proofs.lemmas.Bool.{cases_lt}
use Rattle.std.proofs.lemmas.List.{append-nil, take_all, drop_all, take-append-drop}
use Rattle.std.proofs.lemmas.Grind.{flat_map-append, div_ceil_times}
use Rattle.rv_spec.specs.Trace.{Row}
use Rattle.rv_spec.specs.Record.{Shard, Parts, shard_rows}
use Rattle.rv_spec.specs.Grammar.{PartsFit}
use Rattle.rv_text.specs.Listing.{lines_from, listing}
use Rattle.rv_text.specs.Within.{lines_within}
use Rattle.rv_text.proofs.Within.{within-append, within-after, within-is}
use Rattle.rv_text.proofs.Shards.{rows_in, rows-most, rows-exact, sized, BeginsWith}

module _ (p : Parts) (fit : PartsFit p) (from until : ℕ) where
  -- the lines of the first shards
  abbrev pub listed : ℕ → List ℕ
  listed k = lines_within p.header.version from until 0 (rows_in (take k p.shards))

  exact : (k : ℕ) → k < length p.shards → length (rows_in (take k p.shards)) ≡ k * p.header.size
  exact k lt = rows-exact p.header 0 p.shards k fit.shards lt (let more : k * p.header.size < p.header.steps = (sized p fit).less k (omega (arith, fit.count)) in omega arith)

  pub shard-step : (k : ℕ) (rest text text' : List ℕ) (s : Shard) → k < length p.shards → BeginsWith p k rest s → text ≡ listed k
      → text' ≡ text ++ lines_within p.header.version from until (k * p.header.size) s.rows
      → text' ≡ listed (k + 1)
  shard-step k rest text text' s lt at e more =
      let before : List Row = rows_in (take k p.shards) in
      let rows : rows_in (take (k + 1) p.shards) ≡ before ++ s.rows =
      ap rows_in at.front ∙ flat_map-append (λ (t : Shard). t.rows) (take k p.shards) (s ∷ []) ∙ ap (λ l. before ++ l) (append-nil s.rows) in
      let place : 0 + length before ≡ k * p.header.size = omega (arith, exact k lt) in
      more
      ∙ ap (λ t. t ++ lines_within p.header.version from until (k * p.header.size) s.rows) e
      ∙ ap (λ n. listed k ++ lines_within p.header.version from until n s.rows) (sym place)
      ∙ sym (within-append p.header.version from until 0 before s.rows)
      ∙ ap (λ l. lines_within p.header.version from until 0 l) (sym rows)

  all-listed : (k : ℕ) → length p.shards ≤ k → listed k ≡ lines_within p.header.version from until 0 (rows_in p.shards)
  all-listed k le = ap (λ ss. lines_within p.header.version from until 0 (rows_in ss)) (take_all k p.shards le)

  pub shards-end : (k : ℕ) → (length p.shards ≤ k) ⊎ (until ≤ k * p.header.size) → listed k ≡ lines_within p.header.version from until 0 (rows_in p.shards)
  shards-end k over = ⊎_elim
      (λ lt. ⊎_elim
      (λ le. absurd (omega arith))
      (λ le.
      let before : List Row = rows_in (take k p.shards) in
      let after : List Row = rows_in (drop k p.shards) in
      let rows : rows_in p.shards ≡ before ++ after =
      ap rows_in (sym (take-append-drop k p.shards)) ∙ flat_map-append (λ (t : Shard). t.rows) (take k p.shards) (drop k p.shards) in
      sym (
      ap (λ l. lines_within p.header.version from until 0 l) rows
      ∙ within-append p.header.version from until 0 before after
      ∙ ap (λ t. listed k ++ t) (within-after p.header.version from until (0 + length before) after (omega (arith, exact k lt)))
      ∙ append-nil (listed k)
      ))
      over)
      (λ le. all-listed k le)
      (cases_lt k (length p.shards))

  -- the loop ends behind the shard of the last step that is asked for
  pub last-listed : (k : ℕ) → min (div_ceil until p.header.size) p.header.shards ≤ k → listed k ≡ lines_within p.header.version from until 0 (rows_in p.shards)
  last-listed k le = ⊎_elim
      (λ lt.
      let most : div_ceil until p.header.size * p.header.size ≤ k * p.header.size = mul-le-mul_right p.header.size (omega (arith, fit.count)) in
      let ceil = div_ceil_times until p.header.size (omega (arith, fit.header.size)) in
      shards-end k (inr (omega (arith, most, ceil.0))))
      (λ past. shards-end k (inl past))
      (cases_lt k (length p.shards))

-- the rows of a shard end with the steps
pub steps-within : (p : Parts) (k : ℕ) → PartsFit p → k < length p.shards → k * p.header.size + shard_rows p.header.size p.header.steps k ≤ 2 ^ 32
steps-within p k fit lt =
    let whole = sized p fit in
    let less : k * p.header.size < p.header.steps = whole.less k (omega (arith, fit.count)) in
    omega (arith, less, whole.within)

-- ---- by number

pub nothing-listed : (p : Parts) → PartsFit p → (from count : ℕ) → p.header.steps ≤ from → listing p from count ≡ []
unfolding listing lines_from
nothing-listed p fit from count le =
    ap (λ rs. lines_from p.header.version from (take count rs)) (drop_all from (rows_in p.shards) (omega (arith, rows-most p.header 0 p.shards fit.shards)))
    ∙ ap (λ rs. lines_from p.header.version from rs) (take-nil count)

pub all-within : (p : Parts) (from count : ℕ) → lines_within p.header.version from (from + count) 0 (rows_in p.shards) ≡ listing p from count
unfolding listing
all-within p from count =
    let several : from + count - from ≡ count = omega arith in
    let first : from - 0 ≡ from = omega arith in
    within-is p.header.version from (from + count) 0 (rows_in p.shards) (omega arith)
    ∙ ap (λ k. lines_from p.header.version from (take k (drop (from - 0) (rows_in p.shards)))) several
    ∙ ap (λ k. lines_from p.header.version from (take count (drop k (rows_in p.shards)))) first
