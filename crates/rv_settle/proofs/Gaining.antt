-- Tuples that are gained one after another.
use Rattle.std.proofs.Common.{◌≡◌, ℕ, suc, ◌+◌, ◌≤◌, List, [], ◌∷◌, ◌++◌, length, map, take, sym, ap, subst, ◌∙◌, append_assoc, arith}
use Rattle.std.proofs.lemmas.List.{map-append, append-nil, length-append, length-take-le}
use Rattle.std.proofs.lemmas.List.Concat.{flat_map-append}
use Rattle.rv_base.specs.declared.record.TableEntry.{TableEntry}
use Rattle.rv_base.specs.declared.record.Tuple.{Tuple}
use Rattle.rv_spec.specs.Trace.{Row}
use Rattle.rv_spec.specs.Record.{Shard, Parts, reads, writes}
use Rattle.rv_spec.specs.Tuples.{Event, event, events, tuple_read, tuple_written, tuple_last, tuple_first}
use Rattle.rv_settle.specs.declared.tuples.Tuples.{Tuples}
use Rattle.rv_settle.specs.Collecting.{Gains, GainsEvents, GainsEntries}
use Rattle.rv_settle.specs.Spelled.{rows_of_all}
use Rattle.rv_base.specs.declared.record.Access.{Access}
use Rattle.rv_spec.specs.Elf.{image}
use Rattle.rv_spec.specs.Cells.{initial_value}
use Rattle.rv_settle.proofs.Places.{IsAt}

pub gains-none : (a : Tuples) → Gains a a [] []
gains-none a = record { reads = sym (append-nil a.reads.items); writes = sym (append-nil a.writes.items) }

pub gains-both : (a b c : Tuples) (r w s v : List Tuple) → Gains a b r w → Gains b c s v → Gains a c (r ++ s) (w ++ v)
gains-both a b c r w s v first second = record {
  reads = second.reads ∙ ap (λ xs. xs ++ s) first.reads ∙ append_assoc a.reads.items r s;
  writes = second.writes ∙ ap (λ xs. xs ++ v) first.writes ∙ append_assoc a.writes.items w v;
}

pub gains-events : (a b c : Tuples) (es fs : List Event) → GainsEvents a b es → GainsEvents b c fs → GainsEvents a c (es ++ fs)
gains-events a b c es fs first second =
    rw (map-append tuple_read es fs, map-append tuple_written es fs) (gains-both a b c (map tuple_read es) (map tuple_written es) (map tuple_read fs) (map tuple_written fs) first second)

pub gains-entries : (initial : ℕ → ℕ) (a b c : Tuples) (es fs : List TableEntry) → GainsEntries initial a b es → GainsEntries initial b c fs → GainsEntries initial a c (es ++ fs)
gains-entries initial a b c es fs first second =
    rw (map-append tuple_last es fs, map-append (tuple_first initial) es fs)
    (gains-both a b c (map tuple_last es) (map (tuple_first initial) es) (map tuple_last fs) (map (tuple_first initial) fs) first second)

-- ---- events of rows

pub events-append : (k : ℕ) (xs ys : List Row) → events k (xs ++ ys) ≡ events k xs ++ events (k + length xs) ys
events-append k [] ys = ap (λ z. events z ys) (let e : k ≡ k + 0 = omega arith in e)
events-append k (r ∷ rs) ys =
    let at : k + 1 + length rs ≡ k + suc (length rs) = omega arith in
    let first = map (event k) r.accesses in
    ap (λ z. first ++ z) (events-append (k + 1) rs ys ∙ ap (λ z. events (k + 1) rs ++ events z ys) at) ∙ sym (append_assoc first (events (k + 1) rs) (events (k + suc (length rs)) ys))

-- one row more
events-more : (step k : ℕ) (rs : List Row) (r : Row) → k ≤ length rs → IsAt rs k r → events step (take (k + 1) rs) ≡ events step (take k rs) ++ map (event (step + k)) r.accesses
events-more step k rs r le at =
    ap (events step) at.front
    ∙ events-append step (take k rs) (r ∷ [])
    ∙ ap (λ n. events step (take k rs) ++ events n (r ∷ [])) (ap (λ n. step + n) (length-take-le k rs le))
    ∙ ap (λ es. events step (take k rs) ++ es) (append-nil (map (event (step + k)) r.accesses))

pub gains-row : (a b c : Tuples) (step k : ℕ) (rs : List Row) (r : Row) → k ≤ length rs → IsAt rs k r
    → GainsEvents a b (events step (take k rs)) → GainsEvents b c (map (event (step + k)) r.accesses) → GainsEvents a c (events step (take (k + 1) rs))
gains-row a b c step k rs r le at first second =
    subst (λ es. GainsEvents a c es) (sym (events-more step k rs r le at)) (gains-events a b c (events step (take k rs)) (map (event (step + k)) r.accesses) first second)

-- ---- rows of shards

rows-more : (k : ℕ) (ss : List Shard) (s : Shard) → IsAt ss k s → rows_of_all (take (k + 1) ss) ≡ rows_of_all (take k ss) ++ s.rows
rows-more k ss s at =
    ap rows_of_all at.front
    ∙ flat_map-append (λ (t : Shard). t.rows) (take k ss) (s ∷ [])
    ∙ ap (λ rs. rows_of_all (take k ss) ++ rs) (append-nil s.rows)

-- What is known behind the first k of some shards: the number of their rows, and the tuples of these.
pub record IsBehind (a b : Tuples) (step k : ℕ) (ss : List Shard) : Type 0 where
  pub steps : step ≡ length (rows_of_all (take k ss))
  pub gains : GainsEvents a b (events 0 (rows_of_all (take k ss)))

pub behind-shard : (a b c : Tuples) (step k n : ℕ) (ss : List Shard) (s : Shard) → IsAt ss k s → length s.rows ≡ n → IsBehind a b step k ss → GainsEvents b c (events step s.rows) → IsBehind a c (step + n) (k + 1) ss
behind-shard a b c step k n ss s at size is more =
    let before = rows_of_all (take k ss) in
    let rows_are : rows_of_all (take (k + 1) ss) ≡ before ++ s.rows = rows-more k ss s at in
    let both : events 0 before ++ events step s.rows ≡ events 0 (rows_of_all (take (k + 1) ss)) =
    ap (λ n. events 0 before ++ events n s.rows) (is.steps ∙ (let e : length before ≡ 0 + length before = omega arith in e))
    ∙ sym (events-append 0 before s.rows)
    ∙ ap (events 0) (sym rows_are) in
    record {
      steps = omega (arith, is.steps, size, ap length rows_are, length-append before s.rows);
      gains = subst (λ es. GainsEvents a c es) both (gains-events a b c (events 0 before) (events step s.rows) is.gains more);
    }

-- the events of equal steps and accesses
pub same-events : (a b : Tuples) (k n : ℕ) (xs ys : List Access) → k ≡ n → xs ≡ ys → GainsEvents a b (map (event k) xs) → GainsEvents a b (map (event n) ys)
same-events a b k n xs ys steps same g = rw (← steps, ← same) g

-- ---- entries of the table

abbrev first_at : TableEntry → ℕ → Tuple
first_at e v = record { cell = e.cell; value = v; time = 0 }

pub gains-entry : (initial : ℕ → ℕ) (a b : Tuples) (e : TableEntry) (v : ℕ) → v ≡ initial e.cell → Gains a b (tuple_last e ∷ []) (first_at e v ∷ []) → GainsEntries initial a b (e ∷ [])
gains-entry initial a b e v is g = record { reads = g.reads; writes = g.writes ∙ ap (λ n. a.writes.items ++ first_at e n ∷ []) is }

pub entries-more : (initial : ℕ → ℕ) (a b c : Tuples) (j : ℕ) (es : List TableEntry) (e : TableEntry) → IsAt es j e
    → GainsEntries initial a b (take j es) → GainsEntries initial b c (e ∷ []) → GainsEntries initial a c (take (j + 1) es)
entries-more initial a b c j es e at first second = subst (λ fs. GainsEntries initial a c fs) (sym at.front) (gains-entries initial a b c (take j es) (e ∷ []) first second)

-- ---- the whole file

-- What was collected is all that the parts read, and all that they write.
pub record AreAll (elf : List ℕ) (p : Parts) (t : Tuples) : Type 0 where
  pub reads_are : t.reads.items ≡ reads p
  pub writes_are : t.writes.items ≡ writes (image p.header.version elf) p

pub all-collected : (elf : List ℕ) (p : Parts) (a b c : Tuples) → a.reads.items ≡ [] → a.writes.items ≡ []
    → GainsEvents a b (events 0 (rows_of_all p.shards)) → GainsEntries (initial_value (image p.header.version elf)) b c p.table → AreAll elf p c
unfolding reads writes
all-collected elf p a b c no_reads no_writes rows table =
    let es = events 0 (rows_of_all p.shards) in
    let initial = initial_value (image p.header.version elf) in
    record {
      reads_are = table.reads ∙ ap (λ xs. xs ++ map tuple_last p.table) (rows.reads ∙ ap (λ xs. xs ++ map tuple_read es) no_reads);
      writes_are = table.writes ∙ ap (λ xs. xs ++ map (tuple_first initial) p.table) (rows.writes ∙ ap (λ xs. xs ++ map tuple_written es) no_writes);
    }
