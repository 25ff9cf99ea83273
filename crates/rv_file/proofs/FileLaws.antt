-- Whole files: what is read is spelled so, and what is spelled so is read.
use Rattle.std.proofs.Common.{◌≡◌, ℕ, ◌+◌, ◌^◌, ◌<◌, ◌≤◌, Bool, true, false, ◌&&◌, ◌||◌, List, [], ◌∷◌, ◌++◌, length, take, drop, None, Result, Ok, refl, sym, ap, subst, ◌∙◌, append_assoc, arith, inl, inr, ◌⊎◌}
use Rattle.std.specs.Prelude.{bytes_eq, slice_index, nat_le, ◌==◌, if◌then◌else◌}
use Rattle.std.specs.Int.{w32, to_le_bytes, div_ceil, is_in_range, IsInRange}
use Rattle.std.specs.List.{flat_map}
use Rattle.std.proofs.lemmas.Bool.{leb-true, le-leb, eqb-true, eq-eqb, and_parts, and_from, or_cases, or_left, or_right}
use Rattle.std.proofs.lemmas.List.{length-append, length-drop, length-take-le, take_at, drop_at, take-append-drop, append-nil, nil_from_length}
use Rattle.std.proofs.lemmas.Slice.Eq.{bytes_eq-Decides}
use Rattle.rv_base.specs.declared.record.Header.{Header}
use Rattle.rv_base.specs.declared.record.Refusal.{Refusal}
use Rattle.rv_spec.specs.Words.{u32_at, AreBytes}
use Rattle.rv_rules.specs.Sums.{tiny_lanes}
use Rattle.rv_spec.specs.Record.{Shard, Parts, magic, header_bytes, shard_bytes, entry_bytes, table_bytes, file_bytes}
use Rattle.rv_spec.specs.Grammar.{AreNumbers, HeaderFits, PartsFit, Spells}
use Rattle.rv_rules.specs.Laws.{NoProperPrefix}
use Rattle.rv_rules.specs.Reading.{Reading, header_of, read_entries, read_file, first_place}
use Rattle.rv_rules.specs.Checks.{Check, first_broken, unless_broken, ◌>>=◌}
use Rattle.rv_rules.specs.Verdict.{parse}
use Rattle.rv_rules.specs.Laws.{FormIsGrammar}
use Rattle.rv_row.proofs.Lemmas.{field32, below32, below64, wide32, all-hold, hold}
use Rattle.rv_rules.proofs.Lemmas.{drop-bytes, take-bytes}
use Rattle.rv_file.proofs.Steps.{bind-ok, unless-ok, unless-holds, ok-is}
use Rattle.rv_file.proofs.ShardLaws.{shards_in, shards-taken, shards-read}
use Rattle.rv_file.proofs.EntryLaws.{entries-taken, entries-read}
use Rattle.rv_file.proofs.HeaderLaws.{header-takes, header-again, length-header_bytes}

-- ---- the checks of a header

abbrev pub is_long : List ℕ → Bool
is_long file = nat_le 173 (length file)

abbrev pub is_known : List ℕ → Bool
is_known file = bytes_eq (take 8 file) (magic (header_of file).version)

abbrev pub size_holds : Header → Bool
size_holds h = is_in_range 1 65536 h.size

abbrev pub counts_hold : Header → Bool
counts_hold h = nat_le 1 h.steps && h.shards == div_ceil h.steps h.size && nat_le h.shards 65536

abbrev pub end_holds : Header → Bool
end_holds h = nat_le h.end.kind 5 && (h.end.kind == 0 || h.end.code == 0)

abbrev pub output_holds : Header → Bool
output_holds h = nat_le h.length 67108864

abbrev pub output_there : List ℕ → Bool
output_there file = nat_le (173 + (header_of file).length) (length file)

abbrev pub from_8 : List ℕ → List Check
from_8 file = (8, output_holds (header_of file)) ∷ (1, output_there file) ∷ []

abbrev pub from_7 : List ℕ → List Check
from_7 file = (7, end_holds (header_of file)) ∷ from_8 file

abbrev pub from_6 : List ℕ → List Check
from_6 file = (6, counts_hold (header_of file)) ∷ from_7 file

abbrev pub from_5 : List ℕ → List Check
from_5 file = (5, size_holds (header_of file)) ∷ from_6 file

abbrev pub from_3 : List ℕ → List Check
from_3 file = (3, true) ∷ (4, true) ∷ from_5 file

abbrev pub all_checks : List ℕ → List Check
all_checks file = (1, is_long file) ∷ (2, is_known file) ∷ from_3 file

pub record HeaderGood (file : List ℕ) : Type 0 where
  pub room : 173 + (header_of file).length ≤ length file
  pub known : take 8 file ≡ magic (header_of file).version
  pub fits : HeaderFits (header_of file)

version-in : (b : Bool) → IsInRange 1 2 (if b then 2 else 1)
version-in true = (omega arith, omega arith)
version-in false = (omega arith, omega arith)

hash-fits : (file : List ℕ) (at : ℕ) → AreBytes file → at + 64 ≤ length file → AreNumbers 64 8 (take 64 (drop at file))
hash-fits file at fits room =
    (length-take-le 64 (drop at file) (omega (arith, length-drop at file)), take-bytes 64 (drop at file) (drop-bytes at file fits))

plain-holds : (a b : ℕ) → (a == 0 || b == 0) ≡ true → (a ≡ 0) ⊎ (b ≡ 0)
plain-holds a b e = elim (or_cases (a == 0) (b == 0) e) [ inl x ↦ inl (eqb-true a 0 x) | inr y ↦ inr (eqb-true b 0 y) ]

plain-again : (a b : ℕ) → (a ≡ 0) ⊎ (b ≡ 0) → (a == 0 || b == 0) ≡ true
plain-again a b (inl x) = or_left (a == 0) (b == 0) (eq-eqb a 0 x)
plain-again a b (inr y) = or_right (a == 0) (b == 0) (eq-eqb b 0 y)

pub header-good : (file : List ℕ) → AreBytes file → first_broken (all_checks file) ≡ None → HeaderGood file
header-good file fits e =
    let h = header_of file in
    let c1 = all-hold (1, is_long file) ((2, is_known file) ∷ from_3 file) e in
    let c2 = all-hold (2, is_known file) (from_3 file) c1.1 in
    let c5 = all-hold (5, size_holds h) (from_6 file) c2.1 in
    let c6 = all-hold (6, counts_hold h) (from_7 file) c5.1 in
    let c7 = all-hold (7, end_holds h) (from_8 file) c6.1 in
    let c8 = all-hold (8, output_holds h) ((1, output_there file) ∷ []) c7.1 in
    let c9 = all-hold (1, output_there file) [] c8.1 in
    let size = and_parts (nat_le 1 h.size) (nat_le h.size 65536) c5.0 in
    let counts = and_parts (nat_le 1 h.steps && h.shards == div_ceil h.steps h.size) (nat_le h.shards 65536) c6.0 in
    let steps = and_parts (nat_le 1 h.steps) (h.shards == div_ceil h.steps h.size) counts.0 in
    let end = and_parts (nat_le h.end.kind 5) (h.end.kind == 0 || h.end.code == 0) c7.0 in
    let long : 173 ≤ length file = leb-true 173 (length file) c1.0 in
    let steps_below : h.steps < 2 ^ 64 = below64 file 140 fits in
    let at-least : 1 ≤ h.steps = leb-true 1 h.steps steps.0 in
    record {
      room = leb-true (173 + h.length) (length file) c9.0;
      known = (bytes_eq-Decides (take 8 file) (magic h.version)).0 c2.0;
      fits = record {
        version = version-in (slice_index file 7 == 0x32);
        elf = hash-fits file 8 fits (omega arith);
        input = hash-fits file 72 fits (omega arith);
        size = (leb-true 1 h.size size.0, leb-true h.size 65536 size.1);
        steps = (at-least, omega arith);
        shards = eqb-true h.shards (div_ceil h.steps h.size) steps.1;
        shards_within = leb-true h.shards 65536 counts.1;
        kind = leb-true h.end.kind 5 end.0;
        code = below32 file 153 fits;
        code_of_exit = plain-holds h.end.kind h.end.code end.1;
        consumed = below64 file 157 fits;
        length = leb-true h.length 67108864 c8.0;
      };
    }

header-holds : (file : List ℕ) → HeaderGood file → first_broken (all_checks file) ≡ None
header-holds file good =
    let h = header_of file in
    let fits = good.fits in
    let size = and_from (nat_le 1 h.size) (nat_le h.size 65536) (le-leb 1 h.size fits.size.0) (le-leb h.size 65536 fits.size.1) in
    let counts = and_from (nat_le 1 h.steps && h.shards == div_ceil h.steps h.size) (nat_le h.shards 65536)
    (and_from (nat_le 1 h.steps) (h.shards == div_ceil h.steps h.size) (le-leb 1 h.steps fits.steps.0) (eq-eqb h.shards (div_ceil h.steps h.size) fits.shards)) (le-leb h.shards 65536 fits.shards_within) in
    let end = and_from (nat_le h.end.kind 5) (h.end.kind == 0 || h.end.code == 0) (le-leb h.end.kind 5 fits.kind) (plain-again h.end.kind h.end.code fits.code_of_exit) in
    hold (1, is_long file) ((2, is_known file) ∷ from_3 file) (le-leb 173 (length file) (omega (arith, good.room)))
    (hold (2, is_known file) (from_3 file) ((bytes_eq-Decides (take 8 file) (magic h.version)).1 good.known)
    (hold (5, size_holds h) (from_6 file) size
    (hold (6, counts_hold h) (from_7 file) counts
    (hold (7, end_holds h) (from_8 file) end
    (hold (8, output_holds h) ((1, output_there file) ∷ []) (le-leb h.length 67108864 fits.length)
    (hold (1, output_there file) [] (le-leb (173 + h.length) (length file) good.room) refl))))))

-- ---- the whole file, up to what is made of the parts, of the table's count and of the bytes left

module _ {A : Type 0} (finish : ℕ → Parts → List ℕ → Result A Refusal) where
  abbrev pub after_count : Header → List ℕ → Reading (List Shard) → List ℕ → Result A Refusal
  after_count h output shards bytes =
      read_entries (u32_at shards.left 0) h 0 None bytes
      >>= λ entries. finish (u32_at shards.left 0) (record { header = h; output = output; shards = shards.part; table = entries.0 }) entries.1

  abbrev pub after_shards : Header → List ℕ → Reading (List Shard) → Result A Refusal
  after_shards h output shards = unless_broken h.shards 0 ((1, nat_le 4 (length shards.left)) ∷ []) (drop 4 shards.left) >>= after_count h output shards

  abbrev pub after_header : Header → List ℕ → Result A Refusal
  after_header h body = shards_in h.shards h (take h.length body) 0 (first_place false tiny_lanes [] [] h) (drop h.length body) >>= after_shards h (take h.length body)

  abbrev pub chain : List ℕ → Result A Refusal
  chain file = unless_broken 0 0 (all_checks file) (drop 173 file) >>= after_header (header_of file)

abbrev pub ends_parse : ℕ → Parts → List ℕ → Result Parts Refusal
ends_parse count p left = unless_broken p.header.shards count ((25, true) ∷ (26, true) ∷ (27, length left == 0) ∷ []) p

pub parse-is : (file : List ℕ) → parse file ≡ chain ends_parse file
unfolding read_file
parse-is file = refl

-- what was read
pub record FileTaken (file : List ℕ) (count : ℕ) (p : Parts) (left : List ℕ) : Type 0 where
  pub spelled : file ≡ file_bytes p ++ left
  pub fit : PartsFit p
  pub header : p.header ≡ header_of file
  pub count_is : count ≡ length p.table

join : (a b c d e rest : List ℕ) → a ++ (b ++ (c ++ (d ++ (e ++ rest)))) ≡ (((a ++ b) ++ c) ++ (d ++ e)) ++ rest
join a b c d e rest = sym (simp append_assoc)

pub chain-taken : {A : Type 0} (finish : ℕ → Parts → List ℕ → Result A Refusal) (file : List ℕ) (y : A) → AreBytes file → chain finish file ≡ Ok y
    → (count : ℕ) × (p : Parts) × (left : List ℕ) × FileTaken file count p left × (finish count p left ≡ Ok y)
unfolding file_bytes table_bytes
chain-taken finish file y fits e =
    let h = header_of file in
    let body = drop 173 file in
    let place = first_place false tiny_lanes [] [] h in
    let a = bind-ok (unless_broken 0 0 (all_checks file) body) (after_header finish h) y e in
    let u = unless-ok 0 0 (all_checks file) body a.0 a.1 in
    let good = header-good file fits u.0 in
    let body_fits = drop-bytes 173 file fits in
    let go : after_header finish h body ≡ Ok y = ap (λ (xs : List ℕ). after_header finish h xs) u.1 ∙ a.2 in
    let output = take h.length body in
    let rest = drop h.length body in
    let b = bind-ok (shards_in h.shards h output 0 place rest) (after_shards finish h output) y go in
    let shards = shards-taken h.shards h output 0 place rest b.0 (drop-bytes h.length body body_fits) b.1 in
    let left = b.0.left in
    let c = bind-ok (unless_broken h.shards 0 ((1, nat_le 4 (length left)) ∷ []) (drop 4 left)) (after_count finish h output b.0) y b.2 in
    let v = unless-ok h.shards 0 ((1, nat_le 4 (length left)) ∷ []) (drop 4 left) c.0 c.1 in
    let there : 4 ≤ length left = leb-true 4 (length left) (all-hold (1, nat_le 4 (length left)) [] v.0).0 in
    let went : after_count finish h output b.0 (drop 4 left) ≡ Ok y = ap (λ (xs : List ℕ). after_count finish h output b.0 xs) v.1 ∙ c.2 in
    let count = u32_at left 0 in
    let d = bind-ok (read_entries count h 0 None (drop 4 left)) (λ entries. finish count (record { header = h; output = output; shards = b.0.part; table = entries.0 }) entries.1) y went in
    let entries = entries-taken count h 0 None (drop 4 left) d.0 (drop-bytes 4 left shards.rest) d.1 in
    let p : Parts = record { header = h; output = output; shards = b.0.part; table = d.0.0 } in
    let table = flat_map entry_bytes d.0.0 in
    let number : to_le_bytes w32 (length d.0.0) ++ drop 4 left ≡ left = ap (λ n. to_le_bytes w32 n ++ drop 4 left) entries.count ∙ field32 left 0 4 shards.rest refl there in
    let below : count < 2 ^ 32 = below32 left 0 shards.rest in
    let spelled : file ≡ file_bytes p ++ d.0.1 =
    sym (header-takes file fits (omega (arith, good.room)) good.known)
    ∙ ap (λ (xs : List ℕ). header_bytes h ++ xs)
    (sym (take-append-drop h.length body)
    ∙ ap (λ (xs : List ℕ). output ++ xs)
    (shards.spelled
    ∙ ap (λ (xs : List ℕ). flat_map shard_bytes b.0.part ++ xs) (sym number ∙ ap (λ (xs : List ℕ). to_le_bytes w32 (length d.0.0) ++ xs) entries.spelled)))
    ∙ join (header_bytes h) output (flat_map shard_bytes b.0.part) (to_le_bytes w32 (length d.0.0)) table d.0.1 in (
      count,
      p,
      d.0.1,
      record {
        spelled = spelled;
        fit = record {
          header = good.fits;
          output = (length-take-le h.length body (omega (arith, length-drop 173 file, good.room)), take-bytes h.length body body_fits);
          count = shards.count;
          shards = shards.fits;
          entries = entries.fits;
          rising = entries.rising;
          table = omega (arith, entries.count);
        };
        header = refl;
        count_is = sym entries.count;
      },
      d.2,
    )

magic-again : (h : Header) (rest : List ℕ) → take 8 (header_bytes h ++ rest) ≡ magic h.version
unfolding header_bytes
magic-again h rest = refl

pub chain-again : {A : Type 0} (finish : ℕ → Parts → List ℕ → Result A Refusal) (p : Parts) (rest : List ℕ) → PartsFit p → chain finish (file_bytes p ++ rest) ≡ finish (length p.table) p rest
unfolding file_bytes table_bytes
chain-again finish p rest fit =
    let h = p.header in
    let place = first_place false tiny_lanes [] [] h in
    let file = file_bytes p ++ rest in
    let number = to_le_bytes w32 (length p.table) in
    let entries = flat_map entry_bytes p.table ++ rest in
    let left = number ++ entries in
    let tail = flat_map shard_bytes p.shards ++ left in
    let body = p.output ++ tail in
    let regrouped : file ≡ header_bytes h ++ body = sym (join (header_bytes h) p.output (flat_map shard_bytes p.shards) number (flat_map entry_bytes p.table) rest) in
    let header_is : header_of file ≡ h = ap header_of regrouped ∙ header-again h body fit.header in
    let body-is : drop 173 file ≡ body = ap (λ (xs : List ℕ). drop 173 xs) regrouped ∙ drop_at (header_bytes h) body 173 (length-header_bytes h fit.header) in
    let long : length file ≡ 173 + length body = ap length regrouped ∙ length-append (header_bytes h) body ∙ ap (λ n. n + length body) (length-header_bytes h fit.header) in
    let stated : (header_of file).length ≡ h.length = ap (λ (k : Header). k.length) header_is in
    let good : HeaderGood file = record {
      room = omega (arith, long, stated, length-append p.output tail, fit.output.0);
      known = ap (λ (xs : List ℕ). take 8 xs) regrouped ∙ magic-again h body ∙ ap (λ (k : Header). magic k.version) (sym header_is);
      fits = subst (λ (k : Header). HeaderFits k) (sym header_is) fit.header;
    } in
    let opened : unless_broken 0 0 (all_checks file) (drop 173 file) ≡ Ok body =
    unless-holds 0 0 (all_checks file) (drop 173 file) (header-holds file good) ∙ (λ t. Ok (body-is t)) in
    let output-is : take h.length body ≡ p.output = take_at p.output tail h.length fit.output.0 in
    let tail_is : drop h.length body ≡ tail = drop_at p.output tail h.length fit.output.0 in
    let shards : Reading (List Shard) = record { part = p.shards; place = place; left = left } in
    let few : 0 + length p.shards ≤ 65536 = omega (arith, fit.count, fit.header.shards_within) in
    let shards-are : shards_in h.shards h p.output 0 place tail ≡ Ok shards =
    ap (λ n. shards_in n h p.output 0 place tail) (sym fit.count) ∙ shards-read p.shards h p.output 0 place left fit.header.size.1 few fit.shards in
    let counted : unless_broken h.shards 0 ((1, nat_le 4 (length left)) ∷ []) (drop 4 left) ≡ Ok entries =
    unless-holds h.shards 0 ((1, nat_le 4 (length left)) ∷ []) (drop 4 left) (hold (1, nat_le 4 (length left)) [] (le-leb 4 (length left) (omega (arith, length-append number entries))) refl) in
    let count_is : u32_at left 0 ≡ length p.table = wide32.again (length p.table) entries fit.table in
    let entries_are : read_entries (length p.table) h 0 None entries ≡ Ok (p.table, rest) = entries-read p.table h 0 rest fit.entries fit.rising in
    ap (λ r. r >>= after_header finish (header_of file)) opened
    ∙ ap (λ (k : Header). after_header finish k body) header_is
    ∙ (λ t. shards_in h.shards h (output-is t) 0 place (tail_is t) >>= after_shards finish h (output-is t))
    ∙ ap (λ r. r >>= after_shards finish h p.output) shards-are
    ∙ ap (λ r. r >>= after_count finish h p.output shards) counted
    ∙ (λ t. read_entries (count_is t) h 0 None entries >>= λ es. finish (count_is t) (record { header = h; output = p.output; shards = p.shards; table = es.0 }) es.1)
    ∙ ap (λ r. r >>= λ es. finish (length p.table) (record { header = h; output = p.output; shards = p.shards; table = es.0 }) es.1) entries_are

pub is-spelled : (file : List ℕ) (p : Parts) → AreBytes file → parse file ≡ Ok p → Spells p file
is-spelled file p fits e =
    let k = chain-taken ends_parse file p fits (sym (parse-is file) ∙ e) in
    let q = k.1 in
    let left = k.2 in
    let u = unless-ok q.header.shards k.0 ((25, true) ∷ (26, true) ∷ (27, length left == 0) ∷ []) q p k.4 in
    let none : left ≡ [] = nil_from_length left (eqb-true (length left) 0 (all-hold (27, length left == 0) [] u.0).0) in
    subst (λ (r : Parts). Spells r file) u.1 (record {
      fit = k.3.fit;
      is = k.3.spelled ∙ ap (λ (xs : List ℕ). file_bytes q ++ xs) none ∙ append-nil (file_bytes q);
    })

pub is-parsed : (file : List ℕ) (p : Parts) → Spells p file → parse file ≡ Ok p
is-parsed file p spells =
    parse-is file
    ∙ ap (λ (xs : List ℕ). chain ends_parse xs) (spells.is ∙ sym (append-nil (file_bytes p)))
    ∙ chain-again ends_parse p [] spells.fit

pub one-spelling : (file : List ℕ) (p q : Parts) → Spells p file → Spells q file → q ≡ p
one-spelling file p q one other = ok-is q p (sym (is-parsed file q other) ∙ is-parsed file p one)

pub form-is-grammar : FormIsGrammar
form-is-grammar file p fits = (λ e. is-spelled file p fits e, λ s. is-parsed file p s)

abbrev parts_and_left : ℕ → Parts → List ℕ → Result (Parts × List ℕ) Refusal
parts_and_left count p left = Ok (p, left)

pub no-proper-prefix : NoProperPrefix
no-proper-prefix p q rest p_fit q_fit same =
    let both : (p, rest) ≡ (q, []) =
    ok-is (p, rest) (q, []) (sym (chain-again parts_and_left p rest p_fit)
    ∙ ap (λ (xs : List ℕ). chain parts_and_left xs) (same ∙ sym (append-nil (file_bytes q)))
    ∙ chain-again parts_and_left q [] q_fit) in
    (ap (λ (x : Parts × List ℕ). x.1) both, ap (λ (x : Parts × List ℕ). x.0) both)
