-- What a shard that was read is: where it ends, where the run stands behind it, and the digests of its tuples.
use Rattle.std.proofs.Common.{◌≡◌, ℕ, zero, suc, ◌+◌, ◌*◌, Bool, true, ◌&&◌, ◌==◌, List, [], ◌∷◌, ◌++◌, length, get_or, drop, map, Result, Ok, refl, sym, ap, subst, ◌∙◌, arith}
use Rattle.std.specs.Prelude.{bytes_eq, nat_le}
use Rattle.std.proofs.lemmas.Bool.{eqb-true, and_parts}
use Rattle.std.proofs.lemmas.List.{drop-drop}
use Rattle.std.proofs.lemmas.List.FromFn.{length-map-range_with_len}
use Rattle.std.proofs.lemmas.Slice.Eq.{bytes_eq-Decides}
use Rattle.rv_base.specs.declared.record.Access.{Access}
use Rattle.rv_base.specs.declared.record.Header.{Header}
use Rattle.rv_base.specs.declared.record.Place.{Place}
use Rattle.rv_base.specs.declared.record.Refusal.{Refusal}
use Rattle.rv_base.specs.declared.record.ShardHead.{ShardHead}
use Rattle.rv_spec.specs.Digest.{Lanes, digest}
use Rattle.rv_spec.specs.Trace.{Row}
use Rattle.rv_spec.specs.Tuples.{events, tuple_read, tuple_written}
use Rattle.rv_spec.specs.Record.{Shard, shard_rows, row_length, rows_length}
use Rattle.rv_rules.specs.Checks.{Check, unless_broken, ◌>>=◌}
use Rattle.rv_rules.specs.RowRules.{row_checks, place_after}
use Rattle.rv_rules.specs.Reading.{Reading, head_of, access_of, row_of, row_form, row_size, digest_of, last_of, same_place, read_row, read_rows, read_shard}
use Rattle.rv_row.proofs.Lemmas.{all-hold}
use Rattle.rv_file.proofs.Lemmas.{bind-ok, unless-ok, ok-is}
use Rattle.rv_rowcheck.specs.RowChecking.{IsPlace}
use Rattle.rv_rowcheck.proofs.Lemmas.{next-place}
use Rattle.rv_panel.proofs.Binding.{ends-hold}

length-row_of : (bytes : List ℕ) → row_length (row_of bytes) ≡ row_size bytes
length-row_of bytes =
    let at : ℕ → Access = λ j. access_of (drop (9 + 21 * j) bytes) in
    ap (λ n. 9 + 21 * n) (length-map-range_with_len at 0 (get_or bytes 8 0))

module _ (lanes : Lanes) (elf input : List ℕ) (h : Header) (output : List ℕ) where
  -- ---- rows

  -- What was read behind a place ends where its length says, and the run can stand there.
  pub record Behind {A : Type 0} (size : ℕ) (p : Place) (bytes : List ℕ) (x : Reading A) : Type 0 where
    pub left_is : x.left ≡ drop size bytes
    pub stands : IsPlace p input output → IsPlace x.place input output

  behind-row : (i r : ℕ) (p : Place) (bytes : List ℕ) (x : Reading Row) → read_row true lanes elf input h output i r p bytes ≡ Ok x → Behind (row_length x.part) p bytes x
  unfolding read_row
  behind-row i r p bytes x e =
      let row = row_of bytes in
      let step = i * h.size + r in
      let rules = row_checks h.version row step p (last_of h step) input output in
      let made : Reading Row = record { part = row; place = place_after h.version row p input; left = drop (row_size bytes) bytes } in
      let u = unless-ok i r (row_form bytes ++ rules) made x e in
      subst (λ (y : Reading Row). Behind (row_length y.part) p bytes y) u.1 (record {
        left_is = ap (λ n. drop n bytes) (sym (length-row_of bytes));
        stands = next-place h.version row step p (last_of h step) input output (ends-hold (row_form bytes) rules u.0);
      })

  behind-rows : (n i r : ℕ) (p : Place) (bytes : List ℕ) (x : Reading (List Row)) → read_rows true lanes elf input n h output i r p bytes ≡ Ok x → Behind (rows_length x.part) p bytes x
  unfolding read_rows
  behind-rows zero i r p bytes x e =
      let none : Reading (List Row) = record { part = []; place = p; left = bytes } in
      subst (λ (y : Reading (List Row)). Behind (rows_length y.part) p bytes y) (ok-is none x e) (record { left_is = refl; stands = λ s. s })
  behind-rows (suc n) i r p bytes x e =
      let put : Reading Row → Reading (List Row) → Reading (List Row) = λ first others. record { part = first.part ∷ others.part; place = others.place; left = others.left } in
      let a = bind-ok (read_row true lanes elf input h output i r p bytes) (λ first. read_rows true lanes elf input n h output i (r + 1) first.place first.left >>= λ others. Ok (put first others)) x e in
      let one = behind-row i r p bytes a.0 a.1 in
      let b = bind-ok (read_rows true lanes elf input n h output i (r + 1) a.0.place a.0.left) (λ others. Ok (put a.0 others)) x a.2 in
      let more = behind-rows n i (r + 1) a.0.place a.0.left b.0 b.1 in
      subst (λ (y : Reading (List Row)). Behind (rows_length y.part) p bytes y) (ok-is (put a.0 b.0) x b.2) (record {
        left_is =
            more.left_is
            ∙ ap (λ (xs : List ℕ). drop (rows_length b.0.part) xs) one.left_is
            ∙ drop-drop (rows_length b.0.part) (row_length a.0.part) bytes;
        stands = λ s. more.stands (one.stands s);
      })

  -- ---- a shard

  abbrev pub shard_read : ℕ → Place → List ℕ → Result (Reading Shard) Refusal
  shard_read i p bytes = read_shard true lanes elf input h output i p bytes

  abbrev pub head_holds : ℕ → Place → ShardHead → Bool
  head_holds i p head = head.index == i && head.rows == shard_rows h.size h.steps i && same_place head p

  abbrev pub head_checks : ℕ → Place → List ℕ → List Check
  head_checks i p bytes = (1, nat_le 32 (length bytes)) ∷ (9, head_holds i p (head_of bytes)) ∷ []

  abbrev digests_hold : ℕ → Reading (List Row) → Bool
  digests_hold i rows =
      bytes_eq (digest_of rows.left) (digest lanes (map tuple_read (events (i * h.size) rows.part)))
      && bytes_eq (digest_of (drop 128 rows.left)) (digest lanes (map tuple_written (events (i * h.size) rows.part)))

  abbrev end_checks : ℕ → ShardHead → Reading (List Row) → List Check
  end_checks i head rows = (20, rows_length rows.part == head.bytes) ∷ (1, nat_le 256 (length rows.left)) ∷ (21, digests_hold i rows) ∷ []

  abbrev made : ShardHead → Reading (List Row) → Reading Shard
  made head rows = record {
    part = record { head = head; rows = rows.part; reads = digest_of rows.left; writes = digest_of (drop 128 rows.left) };
    place = rows.place;
    left = drop 256 rows.left;
  }

  abbrev pub closes : ℕ → ShardHead → Reading (List Row) → Result (Reading Shard) Refusal
  closes i head rows = unless_broken i (shard_rows h.size h.steps i) (end_checks i head rows) (made head rows)

  abbrev pub after_head : ℕ → Place → ShardHead → List ℕ → Result (Reading Shard) Refusal
  after_head i p head rest = read_rows true lanes elf input (shard_rows h.size h.steps i) h output i 0 p rest >>= closes i head

  pub shard-read-is : (i : ℕ) (p : Place) (bytes : List ℕ) → shard_read i p bytes ≡ (unless_broken i 0 (head_checks i p bytes) (drop 32 bytes) >>= after_head i p (head_of bytes))
  unfolding read_shard
  shard-read-is i p bytes = refl

  -- A shard that was read: its head, the digests of its tuples, its end, and where the run stands behind it.
  pub record IsShardRead (i : ℕ) (p : Place) (bytes : List ℕ) (x : Reading Shard) : Type 0 where
    pub head : x.part.head ≡ head_of bytes
    pub reads : x.part.reads ≡ digest lanes (map tuple_read (events (i * h.size) x.part.rows))
    pub writes : x.part.writes ≡ digest lanes (map tuple_written (events (i * h.size) x.part.rows))
    pub left_is : x.left ≡ drop (288 + (head_of bytes).bytes) bytes
    pub stands : IsPlace p input output → IsPlace x.place input output

  pub is-shard-read : (i : ℕ) (p : Place) (bytes : List ℕ) (x : Reading Shard) → shard_read i p bytes ≡ Ok x → IsShardRead i p bytes x
  is-shard-read i p bytes x e =
      let n = shard_rows h.size h.steps i in
      let head = head_of bytes in
      let a = bind-ok (unless_broken i 0 (head_checks i p bytes) (drop 32 bytes)) (after_head i p head) x (sym (shard-read-is i p bytes) ∙ e) in
      let u = unless-ok i 0 (head_checks i p bytes) (drop 32 bytes) a.0 a.1 in
      let b = bind-ok (read_rows true lanes elf input n h output i 0 p a.0) (closes i head) x a.2 in
      let rows = behind-rows n i 0 p a.0 b.0 b.1 in
      let v = unless-ok i n (end_checks i head b.0) (made head b.0) x b.2 in
      let d1 = all-hold (20, rows_length b.0.part == head.bytes) ((1, nat_le 256 (length b.0.left)) ∷ (21, digests_hold i b.0) ∷ []) v.0 in
      let d2 = all-hold (1, nat_le 256 (length b.0.left)) ((21, digests_hold i b.0) ∷ []) d1.1 in
      let d3 = all-hold (21, digests_hold i b.0) [] d2.1 in
      let read = digest lanes (map tuple_read (events (i * h.size) b.0.part)) in
      let written = digest lanes (map tuple_written (events (i * h.size) b.0.part)) in
      let both = and_parts (bytes_eq (digest_of b.0.left) read) (bytes_eq (digest_of (drop 128 b.0.left)) written) d3.0 in
      let size : rows_length b.0.part ≡ head.bytes = eqb-true (rows_length b.0.part) head.bytes d1.0 in
      let behind : b.0.left ≡ drop (32 + head.bytes) bytes =
      rows.left_is
      ∙ ap (λ (xs : List ℕ). drop (rows_length b.0.part) xs) (sym u.1)
      ∙ drop-drop (rows_length b.0.part) 32 bytes
      ∙ ap (λ k. drop (32 + k) bytes) size in
      subst (λ (y : Reading Shard). IsShardRead i p bytes y) v.1 (record {
        head = refl;
        reads = (bytes_eq-Decides (digest_of b.0.left) read).0 both.0;
        writes = (bytes_eq-Decides (digest_of (drop 128 b.0.left)) written).0 both.1;
        left_is =
            ap (λ (xs : List ℕ). drop 256 xs) behind
            ∙ drop-drop 256 (32 + head.bytes) bytes
            ∙ ap (λ k. drop k bytes) (let e : 32 + head.bytes + 256 ≡ 288 + head.bytes = omega arith in e);
        stands = rows.stands;
      })
