-- What an accepted file is, from the laws of accepted files.
use Rattle.std.proofs.Common.{◌≡◌, ◌∙◌, ◌⊎◌, ℕ, true, nat_le, List, [], ◌∷◌, length, take, drop, None, Result, Ok, Err, refl, sym, ap, subst}
use Rattle.std.specs.Int.{div_ceil}
use Rattle.rv_base.specs.declared.record.End.{End}
use Rattle.rv_base.specs.declared.record.Header.{Header}
use Rattle.rv_base.specs.declared.record.Refusal.{Refusal}
use Rattle.rv_base.specs.declared.record.TableEntry.{TableEntry}
use Rattle.rv_spec.specs.Digest.{Lanes}
use Rattle.rv_spec.specs.Elf.{first_fault}
use Rattle.rv_spec.specs.Words.{AreBytes, u32_at}
use Rattle.rv_spec.specs.Record.{Parts, Shard}
use Rattle.rv_spec.specs.Conclusion.{IsRecord, IsCollision}
use Rattle.rv_rules.specs.Laws.{AcceptedIsRecord, RecordIsAccepted}
use Rattle.rv_rules.specs.Reading.{Reading, header_of, header_checks, first_place, end_checks, read_entries, read_shards, read_file}
use Rattle.rv_rules.specs.Checks.{first_broken, unless_broken, ◌>>=◌}
use Rattle.rv_rules.specs.Verdict.{judge, verdict, verdict_of}
use Rattle.rv_file.proofs.Lemmas.{bind-ok, unless-ok}
use Rattle.rv_judge.specs.Conclusions.{IsSound, AcceptsRecords}
use Rattle.rv_judge.proofs.Headers.{has-header, shards-counted}

record IsRead (lanes : Lanes) (elf input file : List ℕ) (parts : Parts) : Type 0 where
  header : header_of file ≡ parts.header
  checks : first_broken (header_checks true lanes elf input file) ≡ None

module _ (lanes : Lanes) (elf input : List ℕ) (h : Header) (output : List ℕ) (x : Reading (List Shard)) where
  made : List TableEntry × List ℕ → Parts
  made entries = record { header = h; output = output; shards = x.part; table = entries.0 }

  closed : List TableEntry × List ℕ → Result Parts Refusal
  closed entries = unless_broken h.shards (u32_at x.left 0) (end_checks true lanes elf input h (made entries) x.place entries.1) (made entries)

  behind_count : List ℕ → Result Parts Refusal
  behind_count bytes = read_entries (u32_at x.left 0) h 0 None bytes >>= closed

is-read : (lanes : Lanes) (elf input file : List ℕ) (parts : Parts) → judge lanes elf input file ≡ Ok parts → IsRead lanes elf input file parts
unfolding read_file made closed behind_count
is-read lanes elf input file parts e =
    let h = header_of file in
    let shards_from : List ℕ → Result (Reading (List Shard)) Refusal = λ z. read_shards true lanes elf input h.shards h (take h.length z) 0 (first_place true lanes elf input h) (drop h.length z) in
    let behind-shards : List ℕ → Reading (List Shard) → Result Parts Refusal = λ output x. unless_broken h.shards 0 ((1, nat_le 4 (length x.left)) ∷ []) (drop 4 x.left) >>= behind_count lanes elf input h output x in
    let a = bind-ok (unless_broken 0 0 (header_checks true lanes elf input file) (drop 173 file)) (λ z. shards_from z >>= behind-shards (take h.length z)) parts e in
    let output = take h.length a.0 in
    let b = bind-ok (shards_from a.0) (behind-shards output) parts a.2 in
    let c = bind-ok (unless_broken h.shards 0 ((1, nat_le 4 (length b.0.left)) ∷ []) (drop 4 b.0.left)) (behind_count lanes elf input h output b.0) parts b.2 in
    let d = bind-ok (read_entries (u32_at b.0.left 0) h 0 None c.0) (closed lanes elf input h output b.0) parts c.2 in
    let all = made lanes elf input h output b.0 d.0 in
    let last = unless-ok h.shards (u32_at b.0.left 0) (end_checks true lanes elf input h all b.0.place d.0.1) all parts d.2 in
    record {
      header = ap (λ (p : Parts). p.header) last.1;
      checks = (unless-ok 0 0 (header_checks true lanes elf input file) (drop 173 file) a.0 a.1).0;
    }

pub concluded : (lanes : Lanes) (elf input file : List ℕ) → ((parts : Parts) → AcceptedIsRecord lanes elf input file parts)
    → first_fault elf ≡ None → AreBytes elf → AreBytes input → AreBytes file → IsSound lanes elf input file (verdict lanes elf input file)
concluded lanes elf input file law faultless elf_bytes input_bytes file_bytes = go (judge lanes elf input file) refl
  where
    go : (r : Result Parts Refusal) → judge lanes elf input file ≡ r → IsSound lanes elf input file (verdict_of r)
    go (Err r) e = tt
    go (Ok parts) e =
        let read = is-read lanes elf input file parts e in
        let counted = shards-counted (header_of file) (has-header lanes elf input file read.checks).numbers in
        subst (λ (h : Header). (parts.header.shards ≡ div_ceil parts.header.steps h.size) × (IsRecord lanes h.version elf input h.size parts.header.steps parts.header.end file ⊎ IsCollision lanes elf file)) (sym read.header)
        (subst (λ (h : Header). h.shards ≡ div_ceil h.steps h.size) read.header counted, law parts faultless elf_bytes input_bytes file_bytes e)

pub accepted : (lanes : Lanes) (elf input file : List ℕ) → ((version size steps : ℕ) (end : End) → RecordIsAccepted lanes version elf input size steps end)
    → AreBytes elf → AreBytes input → AcceptsRecords lanes elf input file (verdict lanes elf input file)
accepted lanes elf input file law elf_bytes input_bytes version size steps end has is = ap (λ (f : List ℕ). verdict lanes elf input f) is ∙ law version size steps end elf_bytes input_bytes has
