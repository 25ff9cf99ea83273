-- The sums that the machine holds are the digests of what it has read.
use Rattle.std.proofs.Common.{◌≡◌, ℕ, Bool, true, false, cond, not, ◌||◌, ◌&&◌, bytes_eq, List, [], ◌++◌, map, replicate, refl, sym, ◌∙◌}
use Rattle.std.proofs.lemmas.List.{map-append}
use Rattle.rv_base.specs.declared.record.Tuple.{Tuple}
use Rattle.rv_spec.specs.Digest.{Lanes, digest, digest_lane}
use Rattle.rv_rules.specs.Sums.{add_lanes}
use Rattle.rv_spec.specs.Tuples.{Event, tuple_read, tuple_written}
use Rattle.rv_rules.proofs.Lemmas.{digest-append}
use Rattle.rv_reading.specs.Machine.{no_sums, tuple_sums, event_sums, with_tuples, with_events, with_sums}

module _ (complete : Bool) (lanes : Lanes) where
  more : (a : Bool) (xs ys : List Tuple) → cond a (add_lanes (cond a (digest lanes xs) (replicate 16 0)) (digest lanes ys)) (cond a (digest lanes xs) (replicate 16 0)) ≡ cond a (digest lanes (xs ++ ys)) (replicate 16 0)
  more true xs ys = sym (digest-append lanes xs ys)
  more false xs ys = refl

  both : (a : Bool) (xs ys : List Tuple)
      → cond a (add_lanes (cond a (digest lanes xs) (replicate 16 0)) (cond a (digest lanes ys) (replicate 16 0))) (cond a (digest lanes xs) (replicate 16 0)) ≡ cond a (digest lanes (xs ++ ys)) (replicate 16 0)
  both true xs ys = sym (digest-append lanes xs ys)
  both false xs ys = refl

  none : (a : Bool) → replicate 16 0 ≡ cond a (digest lanes []) (replicate 16 0)
  unfolding digest_lane
  none true = refl
  none false = refl

  pub with_tuples-sums : (rs ws xs ys : List Tuple) → with_tuples complete lanes (tuple_sums complete lanes rs ws) xs ys ≡ tuple_sums complete lanes (rs ++ xs) (ws ++ ys)
  with_tuples-sums rs ws xs ys = λ t. record { reads = more complete rs xs t; writes = more complete ws ys t }

  pub with_events-sums : (es fs : List Event) → with_events complete lanes (event_sums complete lanes es) fs ≡ event_sums complete lanes (es ++ fs)
  with_events-sums es fs =
      with_tuples-sums (map tuple_read es) (map tuple_written es) (map tuple_read fs) (map tuple_written fs)
      ∙ (λ t. tuple_sums complete lanes (sym (map-append tuple_read es fs) t) (sym (map-append tuple_written es fs) t))

  pub with_sums-sums : (es fs : List Event) → with_sums complete lanes (event_sums complete lanes es) (event_sums complete lanes fs) ≡ event_sums complete lanes (es ++ fs)
  with_sums-sums es fs =
      let joined : with_sums complete lanes (event_sums complete lanes es) (event_sums complete lanes fs) ≡ tuple_sums complete lanes (map tuple_read es ++ map tuple_read fs) (map tuple_written es ++ map tuple_written fs) =
      λ t. record { reads = both complete (map tuple_read es) (map tuple_read fs) t; writes = both complete (map tuple_written es) (map tuple_written fs) t } in
      joined ∙ (λ t. tuple_sums complete lanes (sym (map-append tuple_read es fs) t) (sym (map-append tuple_written es fs) t))

  pub no_sums-sums : no_sums ≡ event_sums complete lanes []
  no_sums-sums = λ t. record { reads = none complete t; writes = none complete t }

-- where digests are judged, those that are held are those of the lists
pub stated-alike : (a : Bool) (stated written d e : List ℕ)
    → (not a || (bytes_eq stated (cond a d (replicate 16 0)) && bytes_eq written (cond a e (replicate 16 0)))) ≡ (not a || (bytes_eq stated d && bytes_eq written e))
stated-alike true stated written d e = refl
stated-alike false stated written d e = refl

pub equal-alike : (a : Bool) (d e : List ℕ) → (not a || bytes_eq (cond a d (replicate 16 0)) (cond a e (replicate 16 0))) ≡ (not a || bytes_eq d e)
equal-alike true d e = refl
equal-alike false d e = refl
