-- The verdict behind header and output.
use Rattle.std.proofs.Common.{◌≡◌, ℕ, ◌+◌, true, List, [], take, drop, Option, None, Some, Ok, Err, refl, sym, ap, ◌∙◌}
use Rattle.std.proofs.lemmas.List.{drop-drop}
use Rattle.rv_base.specs.declared.record.Header.{Header}
use Rattle.rv_base.specs.declared.record.Refusal.{Refusal}
use Rattle.rv_base.specs.declared.record.Verdict.TheVariants.{Refuse}
use Rattle.rv_spec.specs.Digest.{Lanes, digest_lane}
use Rattle.rv_rules.specs.Checks.{first_broken, refused_by, unless_broken, ◌>>=◌}
use Rattle.rv_rules.specs.Reading.{header_of, header_checks, first_place}
use Rattle.rv_rules.specs.Verdict.{verdict}
use Rattle.rv_reading.specs.Stream.{State, reads}
use Rattle.rv_reading.specs.Machine.{Phase, no_sums, event_sums, first_phase, step, told}
use Rattle.rv_reading.specs.Machine.Phase.{Shards}
use Rattle.rv_reading.specs.Machine.Extent.{WholeFile}
use Rattle.rv_reading.specs.Parts.{runs}
use Rattle.rv_reading.proofs.Lemmas.{verdict-is-told, whole-file-is-read}
use Rattle.rv_panel.proofs.ShardSteps.{from}

other-value : {A B : Type 0} (o : Option ℕ) (a : A) (b : B) (r : Refusal) → refused_by 0 0 o a ≡ Err r → refused_by 0 0 o b ≡ Err r
other-value None a b r e = absurd cc
other-value (Some rule) a b r e = let same : record { shard = 0; row = 0; rule = rule } ≡ r = cc in ap (λ x. Err x) same

nothing : (lanes : Lanes) → no_sums ≡ event_sums true lanes []
unfolding digest_lane
nothing lanes = refl

module _ (lanes : Lanes) (elf input file : List ℕ) where
  abbrev behind_checks : Header → List ℕ → State Phase
  behind_checks h rest = reads (step true lanes elf input h (take h.length rest)) (first_phase true lanes elf input h) (drop h.length rest)

  pub front-refused : (r : Refusal) → unless_broken 0 0 (header_checks true lanes elf input file) (header_of file) ≡ Err r → verdict lanes elf input file ≡ Refuse r
  front-refused r e =
      let h = header_of file in
      let refused = other-value (first_broken (header_checks true lanes elf input file)) h (drop 173 file) r e in
      verdict-is-told lanes elf input file
      ∙ ap (λ s. told h (s >>= behind_checks h)) refused

  none-of : {A : Type 0} (o : Option ℕ) (a b : A) → refused_by 0 0 o a ≡ Ok b → (o ≡ None) × (a ≡ b)
  none-of None a b e = (refl, cc)
  none-of (Some rule) a b e = absurd cc

  pub front-taken : (h : Header) → unless_broken 0 0 (header_checks true lanes elf input file) (header_of file) ≡ Ok h
      → verdict lanes elf input file ≡ told h (from lanes elf input h (take h.length (drop 173 file)) h.shards 0 (first_place true lanes elf input h) [] (drop (173 + h.length) file))
  front-taken h e =
      let at = header_of file in
      let cs = header_checks true lanes elf input file in
      let n = none-of (first_broken cs) at h e in
      let output : Header → List ℕ = λ k. take k.length (drop 173 file) in
      let start : Header → Phase = λ k. first_phase true lanes elf input k in
      let begun : Header → State Phase = λ k. runs true lanes elf input k (output k) WholeFile (Shards k.shards 0 (first_place true lanes elf input k) (event_sums true lanes [])) (drop (173 + k.length) file) in
      verdict-is-told lanes elf input file
      ∙ ap (λ o. told at (refused_by 0 0 o (drop 173 file) >>= behind_checks at)) n.0
      ∙ ap (told at)
      (sym (whole-file-is-read true lanes elf input at (output at) (start at) (drop at.length (drop 173 file)))
      ∙ ap (λ s. runs true lanes elf input at (output at) WholeFile (Shards at.shards 0 (first_place true lanes elf input at) s) (drop at.length (drop 173 file))) (nothing lanes)
      ∙ ap (λ (xs : List ℕ). runs true lanes elf input at (output at) WholeFile (Shards at.shards 0 (first_place true lanes elf input at) (event_sums true lanes [])) xs) (drop-drop at.length 173 file))
      ∙ ap (λ (k : Header). told k (begun k)) n.1
