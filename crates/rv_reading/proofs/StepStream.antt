-- What the machine found stays so, whatever bytes come behind.
use Rattle.std.proofs.Common.{◌≡◌, ℕ, zero, suc, ◌+◌, ◌*◌, ◌<◌, ◌≤◌, Bool, true, false, ◌==◌, ◌&&◌, nat_le, nat_lt, bytes_eq, List, [], ◌∷◌, ◌++◌, length, get_or, drop, Option, Some, None, Ok, Err, refl, sym, ap, subst, ◌∙◌, arith}
use Rattle.std.specs.Int.{is_in_range}
use Rattle.std.proofs.lemmas.Bool.{leb-true, eqb-true}
use Rattle.std.proofs.lemmas.List.{length-drop, drop-append-le}
use Rattle.rv_base.specs.declared.record.Header.{Header}
use Rattle.rv_base.specs.declared.record.Refusal.{Refusal}
use Rattle.rv_base.specs.declared.record.ShardHead.{ShardHead}
use Rattle.rv_base.specs.declared.record.TableEntry.{TableEntry}
use Rattle.rv_spec.specs.Trace.{Row}
use Rattle.rv_spec.specs.Digest.{Lanes}
use Rattle.rv_spec.specs.Tuples.{tuple_last}
use Rattle.rv_spec.specs.Record.{shard_rows}
use Rattle.rv_spec.specs.Cells.{is_cell}
use Rattle.rv_rules.specs.Checks.{Check, first_broken, refused_by, unless_broken, ◌>>=◌}
use Rattle.rv_rules.specs.Reading.{head_of, row_of, entry_of, above, when_complete, row_checks_when_complete, next_place, same_place, digest_of}
use Rattle.rv_reading.specs.Stream.{Found, IsStream, onwards}
use Rattle.rv_reading.specs.Machine.{Sums, Phase, Extent, is_behind, on_if, with_tuples, with_row, begin_shard, first_tuple, good_digests, step, step_to}
use Rattle.rv_reading.specs.Parts.{runs}
use Rattle.rv_reading.specs.Machine.Phase.{Shards, Rows, Entries}
use Rattle.rv_reading.proofs.StreamLaws.{until-is_stream, reads-step}
use Rattle.rv_reading.proofs.Fronts.{u32-front, byte-front, head-front, entry-front, row-front, digest-front}
use Rattle.rv_reading.proofs.CheckLists.{refused-by-ok, all-hold, Keeps, Keeps-none, Keeps-same, Keeps-room, Keeps-equal, Keeps-refusal}

some-is : {A : Type 0} (x y : A) → Some x ≡ Some y → x ≡ y
some-is x y e = cc

-- what a step found now, and later with more bytes behind
record Case (now later : Found Phase) (xs ys : List ℕ) : Type 0 where
  takes : (q : Phase) (rest : List ℕ) → now ≡ Ok (Some (q, rest)) → length rest < length xs
  goes : (q : Phase) (rest : List ℕ) → now ≡ Ok (Some (q, rest)) → later ≡ Ok (Some (q, rest ++ ys))
  stays : (r : Refusal) → now ≡ Err r → ¬ (r.rule ≡ 1) → later ≡ Err r

-- where the checks hold, as many bytes are taken now as later, and the phase is the same
abbrev Fits : List Check → Phase → Phase → ℕ → ℕ → List ℕ → Type 0
Fits cs q d n m xs = first_broken cs ≡ None → (0 < n) × (n ≤ length xs) × (m ≡ n) × (d ≡ q)

case-of : (i r : ℕ) (cs ds : List Check) (q d : Phase) (n m : ℕ) (xs ys : List ℕ) → Keeps cs ds → Fits cs q d n m xs → Case (on_if i r cs q (drop n xs)) (on_if i r ds d (drop m (xs ++ ys))) xs ys
case-of i r cs ds q d n m xs ys k fit = record {
  takes = λ p rest e.
      let o = refused-by-ok i r (first_broken cs) (Some (q, drop n xs)) (Some (p, rest)) e in
      let f = fit o.0 in
      let pair = some-is (q, drop n xs) (p, rest) o.1 in
      let is : drop n xs ≡ rest = ap (λ (z : Phase × List ℕ). z.1) pair in
      subst (λ (zs : List ℕ). length zs < length xs) is (omega (arith, f.0, f.1, length-drop n xs));
  goes = λ p rest e.
      let o = refused-by-ok i r (first_broken cs) (Some (q, drop n xs)) (Some (p, rest)) e in
      let f = fit o.0 in
      let pair = some-is (q, drop n xs) (p, rest) o.1 in
      let phase : d ≡ p = f.3 ∙ ap (λ (z : Phase × List ℕ). z.0) pair in
      let is : drop n xs ≡ rest = ap (λ (z : Phase × List ℕ). z.1) pair in
      let left : drop m (xs ++ ys) ≡ rest ++ ys = ap (λ j. drop j (xs ++ ys)) f.2 ∙ drop-append-le n xs ys f.1 ∙ ap (λ (zs : List ℕ). zs ++ ys) is in
      λ t. refused_by i r (Keeps-none cs ds k o.0 t) (Some (phase t, left t));
  stays = λ e is not. Keeps-refusal i r cs ds (Some (q, drop n xs)) (Some (d, drop m (xs ++ ys))) e k is not;
}

fixed : (cs : List Check) (q d : Phase) (n : ℕ) (xs : List ℕ) → 0 < n → (first_broken cs ≡ None → n ≤ length xs) → (n ≤ length xs → d ≡ q) → Fits cs q d n n xs
fixed cs q d n xs more there same_phase f = (more, there f, refl, same_phase (there f))

no-phase : (i r : ℕ) (o : Option ℕ) (x : Phase × List ℕ) → refused_by i r o None ≡ Ok (Some x) → ⊥
no-phase i r None x e = absurd cc
no-phase i r (Some rule) x e = absurd cc

-- bytes that aren't none stay so
nonzero : (xs ys : List ℕ) → (length xs == 0) ≡ false → (length (xs ++ ys) == 0) ≡ false
nonzero [] ys e = absurd cc
nonzero (x ∷ xs) ys e = go (suc (length (xs ++ ys)) == 0) refl
  where
    go : (b : Bool) → (suc (length (xs ++ ys)) == 0) ≡ b → b ≡ false
    go false f = refl
    go true f = let zero_is = eqb-true (suc (length (xs ++ ys))) 0 f in absurd (omega (arith, zero_is))

module _ (complete : Bool) (lanes : Lanes) (elf input : List ℕ) (h : Header) (output : List ℕ) where
  end-case : (j : ℕ) (a b : Bool) (xs ys : List ℕ)
      → Case (unless_broken h.shards j ((25, a) ∷ (26, b) ∷ (27, length xs == 0) ∷ []) None) (unless_broken h.shards j ((25, a) ∷ (26, b) ∷ (27, length (xs ++ ys) == 0) ∷ []) None) xs ys
  end-case j a b xs ys =
      let cs : List Check = (25, a) ∷ (26, b) ∷ (27, length xs == 0) ∷ [] in
      record {
        takes = λ q rest e. absurd (no-phase h.shards j (first_broken cs) (q, rest) e);
        goes = λ q rest e. absurd (no-phase h.shards j (first_broken cs) (q, rest) e);
        stays = λ e is not. go a b (length xs == 0) (length (xs ++ ys) == 0) e (nonzero xs ys) is;
      }
    where
      end : Bool → Bool → Bool → Found Phase
      end a b c = unless_broken h.shards j ((25, a) ∷ (26, b) ∷ (27, c) ∷ []) None

      go : (a b c d : Bool) (e : Refusal) → (c ≡ false → d ≡ false) → end a b c ≡ Err e → end a b d ≡ Err e
      go false b c d e to is = is
      go true false c d e to is = is
      go true true true d e to is = absurd cc
      go true true false d e to is = ap (λ z. end true true z) (to refl) ∙ is

  case : (p : Phase) (xs ys : List ℕ) → Case (step complete lanes elf input h output p xs) (step complete lanes elf input h output p (xs ++ ys)) xs ys
  unfolding step
  case (Shards zero i p all) xs ys =
      let cs : List ℕ → List Check = λ bytes. (1, nat_le 4 (length bytes)) ∷ [] in
      case-of h.shards 0 (cs xs) (cs (xs ++ ys)) _ _ 4 4 xs ys (Keeps-room 4 4 xs ys [] [] refl (λ _. tt))
      (fixed (cs xs) _ _ 4 xs (omega arith) (λ f. leb-true 4 (length xs) (all-hold (cs xs) f).0) (λ le. ap (λ n. Entries n 0 None p all) (u32-front xs ys 0 (omega (arith, le)))))
  case (Shards (suc n) i p all) xs ys =
      let rows = shard_rows h.size h.steps i in
      let good : ShardHead → Bool = λ head. head.index == i && head.rows == rows && when_complete complete lanes elf input (same_place head p) in
      let cs : List ℕ → List Check = λ bytes. (1, nat_le 32 (length bytes)) ∷ (9, good (head_of bytes)) ∷ [] in
      case-of i 0 (cs xs) (cs (xs ++ ys)) _ _ 32 32 xs ys
      (Keeps-room 32 32 xs ys ((9, good (head_of xs)) ∷ []) ((9, good (head_of (xs ++ ys))) ∷ []) refl (λ le. Keeps-same 9 (good (head_of xs)) (good (head_of (xs ++ ys))) [] [] (ap good (sym (head-front xs ys le))) tt))
      (fixed (cs xs) _ _ 32 xs (omega arith) (λ f. leb-true 32 (length xs) (all-hold (cs xs) f).0) (λ le. ap (λ head. Rows rows 0 n i (begin_shard head) p all) (head-front xs ys le)))
  case (Rows zero r m i s p all) xs ys =
      let good : List ℕ → Bool = λ bytes. good_digests complete lanes elf input h output bytes s.sums in
      let full_size = s.bytes == s.head.bytes in
      let one : List ℕ → List Check = λ bytes. (21, good bytes) ∷ [] in
      let two : List ℕ → List Check = λ bytes. (1, nat_le 256 (length bytes)) ∷ one bytes in
      let cs : List ℕ → List Check = λ bytes. (20, full_size) ∷ two bytes in
      case-of i r (cs xs) (cs (xs ++ ys)) _ _ 256 256 xs ys
      (Keeps-same 20 full_size full_size (two xs) (two (xs ++ ys)) refl (Keeps-room 256 256 xs ys (one xs) (one (xs ++ ys)) refl (λ le. Keeps-same 21 (good xs) (good (xs ++ ys)) [] [] (good-same xs ys s.sums le) tt)))
      (fixed (cs xs) _ _ 256 xs (omega arith) (λ f. leb-true 256 (length xs) (all-hold (cs xs) f).1.0) (λ le. refl))
    where
      good-same : (xs ys : List ℕ) (s : Sums) → 256 ≤ length xs → good_digests complete lanes elf input h output xs s ≡ good_digests complete lanes elf input h output (xs ++ ys) s
      good-same xs ys s le =
          let second : digest_of (drop 128 (xs ++ ys)) ≡ digest_of (drop 128 xs) =
          ap digest_of (drop-append-le 128 xs ys (omega (arith, le))) ∙ digest-front (drop 128 xs) ys (omega (arith, le, length-drop 128 xs)) in
          let first = digest-front xs ys (omega (arith, le)) in
          λ t. when_complete complete lanes elf input (bytes_eq (sym first t) s.reads && bytes_eq (sym second t) s.writes)
  case (Rows (suc n) r m i s p all) xs ys =
      let k = i * h.size + r in
      let size : List ℕ → ℕ = λ bytes. 9 + 21 * get_or bytes 8 0 in
      let three : List ℕ → List Check = λ bytes. row_checks_when_complete complete lanes elf input h output (row_of bytes) k p in
      let two : List ℕ → List Check = λ bytes. (1, nat_le (size bytes) (length bytes)) ∷ three bytes in
      let one : List ℕ → List Check = λ bytes. (10, is_in_range 1 8 (get_or bytes 8 0)) ∷ two bytes in
      let cs : List ℕ → List Check = λ bytes. (1, nat_le 9 (length bytes)) ∷ one bytes in
      let to : Row → Phase = λ row. Rows n (r + 1) m i (with_row complete lanes s k row) (next_place complete lanes elf input h row p) all in
      let count : 9 ≤ length xs → get_or (xs ++ ys) 8 0 ≡ get_or xs 8 0 = λ le. byte-front xs ys 8 (omega (arith, le)) in
      let sized : 9 ≤ length xs → size (xs ++ ys) ≡ size xs = λ le. ap (λ z. 9 + 21 * z) (count le) in
      case-of i r (cs xs) (cs (xs ++ ys)) (to (row_of xs)) (to (row_of (xs ++ ys))) (size xs) (size (xs ++ ys)) xs ys
      (Keeps-room 9 9 xs ys (one xs) (one (xs ++ ys)) refl (λ le.
      Keeps-same 10 (is_in_range 1 8 (get_or xs 8 0)) (is_in_range 1 8 (get_or (xs ++ ys) 8 0)) (two xs) (two (xs ++ ys)) (ap (λ z. is_in_range 1 8 z) (sym (count le)))
      (Keeps-room (size xs) (size (xs ++ ys)) xs ys (three xs) (three (xs ++ ys)) (sym (sized le)) (λ more.
      Keeps-equal (three xs) (three (xs ++ ys)) (ap (λ row. row_checks_when_complete complete lanes elf input h output row k p) (sym (row-front xs ys le more)))))))
      (λ f.
      let hold = all-hold (cs xs) f in
      let nine = leb-true 9 (length xs) hold.0 in
      let more = leb-true (size xs) (length xs) hold.1.1.0 in
      (omega arith, more, sized nine, ap to (row-front xs ys nine more)))
  case (Entries zero j before p all) xs ys = end-case j _ _ xs ys
  case (Entries (suc n) j before p all) xs ys =
      let a : TableEntry → Bool = λ e. above before e.cell in
      let b : TableEntry → Bool = λ e. is_cell h.version e.cell in
      let c : TableEntry → Bool = λ e. nat_lt 0 e.time in
      let others : TableEntry → List Check = λ e. (22, a e) ∷ (23, b e) ∷ (24, c e) ∷ [] in
      let cs : List ℕ → List Check = λ bytes. (1, nat_le 16 (length bytes)) ∷ others (entry_of bytes) in
      case-of h.shards j (cs xs) (cs (xs ++ ys)) _ _ 16 16 xs ys
      (Keeps-room 16 16 xs ys (others (entry_of xs)) (others (entry_of (xs ++ ys))) refl (λ le. Keeps-equal (others (entry_of xs)) (others (entry_of (xs ++ ys))) (ap others (sym (entry-front xs ys le)))))
      (fixed (cs xs) _ _ 16 xs (omega arith) (λ f. leb-true 16 (length xs) (all-hold (cs xs) f).0) (λ le. ap (λ e. Entries n (j + 1) (Some e.cell) p (with_tuples complete lanes all (tuple_last e ∷ []) (first_tuple elf h e ∷ []))) (entry-front xs ys le)))

  pub step-is_stream : IsStream Phase (step complete lanes elf input h output)
  step-is_stream = record {
    takes = λ p q xs rest e. (case p xs []).takes q rest e;
    goes = λ p q xs rest ys e. (case p xs ys).goes q rest e;
    stays = λ p xs ys r e not. (case p xs ys).stays r e not;
  }

  pub step_to-is_stream : (extent : Extent) → IsStream Phase (step_to complete lanes elf input h output extent)
  step_to-is_stream extent = until-is_stream (step complete lanes elf input h output) step-is_stream (is_behind extent)

  -- a reading of any extent is a step and then reading
  pub runs-step : (extent : Extent) (p : Phase) (bytes : List ℕ)
      → runs complete lanes elf input h output extent p bytes ≡ (step_to complete lanes elf input h output extent p bytes >>= onwards (runs complete lanes elf input h output extent) (p, bytes))
  runs-step extent p bytes = reads-step (step_to complete lanes elf input h output extent) (step_to-is_stream extent) p bytes
