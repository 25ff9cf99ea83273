-- The bytes of the shards in a file of good form.
use Rattle.std.proofs.Common.{◌≡◌, ℕ, zero, suc, ◌+◌, ◌-◌, ◌<◌, ◌≤◌, List, [], ◌∷◌, ◌++◌, length, take, drop, sym, ap, subst, ◌∙◌, append_assoc, arith}
use Rattle.std.specs.List.{flat_map, AllByRecursion}
use Rattle.std.proofs.lemmas.List.{length-append, take_at, take-append-drop, length-drop}
use Rattle.std.proofs.lemmas.Grind.{flat_map-append}
use Rattle.rv_spec.specs.Record.{Shard, Parts, shard_bytes, table_bytes}
use Rattle.rv_spec.specs.Grammar.{PartsFit}
use Rattle.rv_file.specs.Parsing.{behind_shards, HoldsShards}
use Rattle.rv_file.proofs.Lemmas.{IsShard, are-shards, walks}
use Rattle.rv_parts.specs.Cutting.{count_of, first_of}
use Rattle.rv_parts.proofs.Bounds.{first-rises, first-within}

drop-all : {A : Type 0} (P : A → Type 0) (k : ℕ) (xs : List A) → AllByRecursion P xs → AllByRecursion P (drop k xs)
drop-all P zero xs all = all
drop-all P (suc k) [] all = tt
drop-all P (suc k) (x ∷ xs) all = drop-all P k xs all.1

-- a prefix of these bytes is as long as what is behind it tells
pub front-taken : (front rest : List ℕ) → take (length (front ++ rest) - length rest) (front ++ rest) ≡ front
front-taken front rest = take_at front rest (length (front ++ rest) - length rest) (omega (arith, length-append front rest))

-- shards from shard i on, and those of them that come first
pub record ShardsAt (q : Parts) (shards : List ℕ) (i n : ℕ) : Type 0 where
  pub before : HoldsShards i shards
  pub from : behind_shards i shards ≡ flat_map shard_bytes (drop i q.shards) ++ table_bytes q.table
  pub holds : HoldsShards n (behind_shards i shards)
  pub taken : take (length (behind_shards i shards) - length (behind_shards n (behind_shards i shards))) (behind_shards i shards) ≡ flat_map shard_bytes (take n (drop i q.shards))

pub shards-at : (q : Parts) (shards : List ℕ) (i n : ℕ) → PartsFit q → shards ≡ flat_map shard_bytes q.shards ++ table_bytes q.table → i + n ≤ q.header.shards → ShardsAt q shards i n
shards-at q shards i n fit is le =
    let all = are-shards q.header 0 q.shards fit.header.size.1 (omega (arith, fit.count, fit.header.shards_within)) fit.shards in
    let tail = table_bytes q.table in
    let walk = walks i q.shards tail (omega (arith, le, fit.count)) all in
    let here : behind_shards i shards ≡ flat_map shard_bytes (drop i q.shards) ++ tail = ap (λ (xs : List ℕ). behind_shards i xs) is ∙ walk.1 in
    let some = drop i q.shards in
    let on = walks n some tail (omega (arith, le, fit.count, length-drop i q.shards)) (drop-all IsShard i q.shards all) in
    let first = flat_map shard_bytes (take n some) in
    let rest = flat_map shard_bytes (drop n some) ++ tail in
    let behind : behind_shards n (behind_shards i shards) ≡ rest = ap (λ (xs : List ℕ). behind_shards n xs) here ∙ on.1 in
    let split : behind_shards i shards ≡ first ++ rest =
    here
    ∙ ap (λ (ss : List Shard). flat_map shard_bytes ss ++ tail) (sym (take-append-drop n some))
    ∙ ap (λ (xs : List ℕ). xs ++ tail) (flat_map-append shard_bytes (take n some) (drop n some))
    ∙ append_assoc first (flat_map shard_bytes (drop n some)) tail in
    record {
      before = subst (λ (xs : List ℕ). HoldsShards i xs) (sym is) walk.0;
      from = here;
      holds = subst (λ (xs : List ℕ). HoldsShards n xs) (sym here) on.0;
      taken = (λ t. take (length (split t) - length (behind t)) (split t)) ∙ front-taken first rest;
    }

-- where the shards of a part lie
pub part-at : (q : Parts) (shards : List ℕ) (parts p : ℕ) → PartsFit q → shards ≡ flat_map shard_bytes q.shards ++ table_bytes q.table → 1 ≤ parts → p < parts
    → ShardsAt q shards (first_of q.header.shards parts p) (count_of q.header.shards parts p)
part-at q shards parts p fit is some lt =
    let n = q.header.shards in
    shards-at q shards (first_of n parts p) (count_of n parts p) fit is (omega (arith, first-rises n parts p some, first-within n parts (p + 1) some (omega (arith, lt))))
