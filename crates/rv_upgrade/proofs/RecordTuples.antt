-- The laws of accepted files make of the two lists of a run's record one multiset: the record is accepted whatever the lanes, and so by those that count one tuple.
use Rattle.std.proofs.Common.{◌≡◌, ℕ, ◌+◌, ◌*◌, ◌<◌, ◌≤◌, ◌^◌, List, [], ◌∷◌, ◌++◌, length, map, Result, Ok, Err, refl, sym, ap, subst, ◌∙◌, inl, inr, length-append, arith}
use Rattle.std.specs.List.{AllByRecursion, range_with_len}
use Rattle.std.specs.Int.{div_ceil}
use Rattle.std.proofs.lemmas.List.{length-map}
use Rattle.rv_base.specs.declared.record.End.{End}
use Rattle.rv_base.specs.declared.record.Header.{Header}
use Rattle.rv_base.specs.declared.record.Refusal.{Refusal}
use Rattle.rv_base.specs.declared.record.Tuple.{Tuple}
use Rattle.rv_base.specs.declared.record.Verdict.TheVariants.{Accept}
use Rattle.rv_spec.specs.Words.{AreBytes}
use Rattle.rv_spec.specs.Elf.{Image, image}
use Rattle.rv_spec.specs.Cells.{initial_value}
use Rattle.rv_spec.specs.Trace.{Row, table}
use Rattle.rv_spec.specs.Tuples.{Event, event, events, tuple_read, tuple_written, tuple_last, tuple_first, all_read, all_written}
use Rattle.rv_spec.specs.Digest.{Lanes, digest}
use Rattle.rv_spec.specs.Multiset.{count, Same}
use Rattle.rv_spec.specs.Record.{Shard, Parts, all_rows, all_events, reads, writes, shard, record_parts, record_file}
use Rattle.rv_spec.specs.Grammar.{RowFits, ShardsFit, PartsFit, Spells}
use Rattle.rv_spec.specs.Conclusion.{HasRecord}
use Rattle.rv_rules.specs.Verdict.{judge, verdict_of}
use Rattle.rv_rules.specs.Laws.{RecordIsAccepted}
use Rattle.rv_rules.proofs.Lemmas.{all-in, all-of, in-append}
use Rattle.rv_file.proofs.Lemmas.{one-spelling}
use Rattle.rv_sound.specs.Accepted.{ReadsAccepted}
use Rattle.rv_sound.proofs.Lemmas.{record-spells}
use Rattle.rv_text.proofs.Lemmas.{rows_in, sized}
use Rattle.rv_upgrade.proofs.BothVersions.{rows-most}
use Rattle.rv_upgrade.proofs.CountingLanes.{counting, counted-same}
use Rattle.rv_upgrade.proofs.SpelledBytes.{spelled-bytes}

-- ---- how many tuples a file has

rows-fit : (h : Header) (i : ℕ) (ss : List Shard) → ShardsFit h i ss → AllByRecursion RowFits (rows_in ss)
rows-fit h i [] fits = tt
rows-fit h i (s ∷ ss) fits = all-of RowFits (rows_in (s ∷ ss)) (λ r m. elim (in-append r s.rows (rows_in ss) m) [
  | inl here ↦ all-in RowFits s.rows fits.0.each r here
  | inr behind ↦ all-in RowFits (rows_in ss) (rows-fit h (i + 1) ss fits.1) r behind
])

events-most : (k : ℕ) (rs : List Row) → AllByRecursion RowFits rs → length (events k rs) ≤ 8 * length rs
events-most k [] fits = omega arith
events-most k (r ∷ rs) fits =
    omega (arith, length-append (map (event k) r.accesses) (events (k + 1) rs), length-map r.accesses (event k), fits.0.count.1, events-most (k + 1) rs fits.1)

-- fewer than a digest's lane can count
record HasFew (p : Parts) : Type 0 where
  pub read : length (reads p) < 2 ^ 64
  pub written : (i : Image) → length (writes i p) < 2 ^ 64

has-few : (p : Parts) → PartsFit p → HasFew p
unfolding reads writes
has-few p fit =
    let es : List Event = all_events p in
    let rows : length (all_rows p) ≤ 2 ^ 32 = omega (arith, rows-most p.header 0 p.shards fit.shards, (sized p fit).within) in
    let few : length es ≤ 8 * 2 ^ 32 = omega (arith, events-most 0 (all_rows p) (rows-fit p.header 0 p.shards fit.shards), rows) in
    record {
      read = omega (arith, few, fit.table, length-append (map tuple_read es) (map tuple_last p.table), length-map es tuple_read, length-map p.table tuple_last);
      written = λ i. omega (arith, few, fit.table, length-append (map tuple_written es) (map (tuple_first (initial_value i)) p.table), length-map es tuple_written, length-map p.table (tuple_first (initial_value i)));
    }

-- ---- the record of a run

accepted : (r : Result Parts Refusal) (steps shards : ℕ) (end : End) → verdict_of r ≡ Accept steps shards end → (p : Parts) × (r ≡ Ok p)
accepted (Ok p) steps shards end is = (p, refl)
accepted (Err d) steps shards end is = absurd cc

module _ (version : ℕ) (elf input : List ℕ) (size n : ℕ) (e : End) (reading : (lanes : Lanes) → ReadsAccepted lanes elf input)
    (complete : (lanes : Lanes) → RecordIsAccepted lanes version elf input size n e) (bytes : AreBytes elf) (input_bytes : AreBytes input) (has : HasRecord version elf input size n e) where
  abbrev parts : Lanes → Parts
  parts lanes = record_parts lanes version elf input size n e

  abbrev file : Lanes → List ℕ
  file lanes = record_file lanes version elf input size n e

  pub spells : (lanes : Lanes) → Spells (parts lanes) (file lanes)
  spells lanes = record-spells lanes version elf input size n e bytes input_bytes has

  file-bytes : (lanes : Lanes) → AreBytes (file lanes)
  file-bytes lanes = spelled-bytes (parts lanes) (spells lanes).fit

  pub judged : (lanes : Lanes) → judge lanes elf input (file lanes) ≡ Ok (parts lanes)
  judged lanes =
      let found = accepted (judge lanes elf input (file lanes)) n (div_ceil n size) e (complete lanes bytes input_bytes has) in
      let read = ((reading lanes).accepted (file lanes) found.0 (file-bytes lanes) found.1).0 in
      found.1 ∙ ap (λ p. Ok p) (one-spelling (file lanes) (parts lanes) found.0 (spells lanes) read)

  one-digest : (lanes : Lanes) → digest lanes (reads (parts lanes)) ≡ digest lanes (writes (image version elf) (parts lanes))
  one-digest lanes = ((reading lanes).accepted (file lanes) (parts lanes) (file-bytes lanes) (judged lanes)).1.balance

  -- lanes stand in the digests of the shards, and not in their rows
  same-rows : (l m : Lanes) (js : List ℕ) → rows_in (map (shard l (image version elf) input size n) js) ≡ rows_in (map (shard m (image version elf) input size n) js)
  same-rows l m [] = refl
  same-rows l m (j ∷ js) = ap (λ (rs : List Row). (shard m (image version elf) input size n j).rows ++ rs) (same-rows l m js)

  equal-counts : (lanes : Lanes) (t : Tuple) → count t (reads (parts lanes)) ≡ count t (writes (image version elf) (parts lanes))
  unfolding reads writes
  equal-counts lanes t =
      let i : Image = image version elf in
      let l : Lanes = counting t in
      let few : HasFew (parts l) = has-few (parts l) (spells l).fit in
      let here : count t (reads (parts l)) ≡ count t (writes i (parts l)) = counted-same t (reads (parts l)) (writes i (parts l)) few.read (few.written i) (one-digest l) in
      subst (λ (rs : List Row). count t (all_read (events 0 rs) (table i input n)) ≡ count t (all_written (initial_value i) (events 0 rs) (table i input n))) (same-rows l lanes (range_with_len 0 (div_ceil n size))) here

  pub record-same : (lanes : Lanes) → Same (reads (parts lanes)) (writes (image version elf) (parts lanes))
  record-same lanes = record { counts = equal-counts lanes }
