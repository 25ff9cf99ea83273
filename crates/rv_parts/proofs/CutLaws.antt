-- The bodies of all parts, one after another.
use Rattle.std.proofs.Common.{◌≡◌, ℕ, zero, suc, ◌+◌, ◌<◌, ◌≤◌, false, ◌==◌, List, [], ◌∷◌, ◌++◌, length, map, take, drop, refl, sym, ap, ◌∙◌, append_assoc, arith}
use Rattle.std.specs.Prelude.{if◌then◌else◌}
use Rattle.std.specs.List.{concat, flat_map, range_with_len}
use Rattle.std.proofs.lemmas.Bool.{eq-eqb, eqb-true, false_from_ne_true}
use Rattle.std.proofs.lemmas.List.{append-nil, drop-drop, take-append-drop}
use Rattle.std.proofs.lemmas.Grind.{flat_map-append}
use Rattle.rv_spec.specs.Record.{Shard, Parts, shard_bytes, table_bytes, file_bytes}
use Rattle.rv_parts.specs.Cutting.{PartsAreFile, body_of, count_of, first_of, front_of}
use Rattle.rv_parts.proofs.Bounds.{first-end, first-rises, first-zero}

module _ (q : Parts) (parts : ℕ) (some : 1 ≤ parts) where
  abbrev first : ℕ → ℕ
  first p = first_of q.header.shards parts p

  abbrev own : ℕ → List Shard
  own p = take (count_of q.header.shards parts p) (drop (first p) q.shards)

  abbrev shards_from : ℕ → List ℕ
  shards_from p = flat_map shard_bytes (drop (first p) q.shards)

  -- the shards from a part on are its own, and those from the next part on
  own-then : (p : ℕ) → flat_map shard_bytes (own p) ++ shards_from (p + 1) ≡ shards_from p
  own-then p =
      let n = count_of q.header.shards parts p in
      let next : first p + n ≡ first (p + 1) = omega (arith, first-rises q.header.shards parts p some) in
      let behind : drop (first (p + 1)) q.shards ≡ drop n (drop (first p) q.shards) = ap (λ k. drop k q.shards) (sym next) ∙ sym (drop-drop n (first p) q.shards) in
      ap (λ (ss : List Shard). flat_map shard_bytes (own p) ++ flat_map shard_bytes ss) behind
      ∙ sym (flat_map-append shard_bytes (own p) (drop n (drop (first p) q.shards)))
      ∙ ap (λ (ss : List Shard). flat_map shard_bytes ss) (take-append-drop n (drop (first p) q.shards))

  none-behind : length q.shards ≡ q.header.shards → (p : ℕ) → p ≡ parts → shards_from p ≡ []
  none-behind count p end =
      let at : first p ≡ length q.shards = ap first end ∙ first-end q.header.shards parts some ∙ sym count in
      ap (λ k. flat_map shard_bytes (drop k q.shards)) at ∙ ap (λ (ss : List Shard). flat_map shard_bytes ss) (drop-all q.shards)
    where
      drop-all : (ss : List Shard) → drop (length ss) ss ≡ []
      drop-all [] = refl
      drop-all (s ∷ ss) = drop-all ss

  -- the body of the last part
  pub last-body : length q.shards ≡ q.header.shards → (p : ℕ) → p + 1 ≡ parts → body_of q parts p ≡ shards_from p ++ table_bytes q.table
  last-body count p end =
      let all : flat_map shard_bytes (own p) ≡ shards_from p =
      sym (append-nil (flat_map shard_bytes (own p)))
      ∙ ap (λ (xs : List ℕ). flat_map shard_bytes (own p) ++ xs) (sym (none-behind count (p + 1) end))
      ∙ own-then p in
      ap (λ b. flat_map shard_bytes (own p) ++ (if b then table_bytes q.table else [])) (eq-eqb (p + 1) parts end)
      ∙ ap (λ (xs : List ℕ). xs ++ table_bytes q.table) all

  -- the body of any other
  pub inner-body : (p : ℕ) → p + 1 < parts → body_of q parts p ≡ flat_map shard_bytes (own p)
  inner-body p lt =
      let other : (p + 1 == parts) ≡ false = false_from_ne_true (p + 1 == parts) (λ z. absurd (omega (arith, lt, eqb-true (p + 1) parts z))) in
      ap (λ b. flat_map shard_bytes (own p) ++ (if b then table_bytes q.table else [])) other ∙ append-nil (flat_map shard_bytes (own p))

  -- the bodies of the last parts are their shards and the table
  bodies-from : length q.shards ≡ q.header.shards → (m p : ℕ) → p + suc m ≡ parts → concat (map (body_of q parts) (range_with_len p (suc m))) ≡ shards_from p ++ table_bytes q.table
  bodies-from count zero p end = append-nil (body_of q parts p) ∙ last-body count p (omega (arith, end))
  bodies-from count (suc m) p end =
      ap (λ (xs : List ℕ). body_of q parts p ++ xs) (bodies-from count m (p + 1) (omega (arith, end)))
      ∙ ap (λ (xs : List ℕ). xs ++ (shards_from (p + 1) ++ table_bytes q.table)) (inner-body p (omega (arith, end)))
      ∙ sym (append_assoc (flat_map shard_bytes (own p)) (shards_from (p + 1)) (table_bytes q.table))
      ∙ ap (λ (xs : List ℕ). xs ++ table_bytes q.table) (own-then p)

  bodies-all : length q.shards ≡ q.header.shards → (n : ℕ) → n ≡ parts → concat (map (body_of q parts) (range_with_len 0 n)) ≡ flat_map shard_bytes q.shards ++ table_bytes q.table
  bodies-all count zero end = absurd (omega (arith, some, end))
  bodies-all count (suc m) end = bodies-from count m 0 (omega (arith, end)) ∙ ap (λ k. flat_map shard_bytes (drop k q.shards) ++ table_bytes q.table) (first-zero q.header.shards parts)

pub parts-are-file : PartsAreFile
unfolding file_bytes
parts-are-file q file parts spells some =
    ap (λ (xs : List ℕ). front_of q ++ xs) (bodies-all q parts some spells.fit.count parts refl)
    ∙ sym (append_assoc (front_of q) (flat_map shard_bytes q.shards) (table_bytes q.table))
    ∙ sym spells.is
