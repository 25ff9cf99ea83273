-- What a worker has made, where it takes one start more or takes in what another did.
use Rattle.std.proofs.Common.{◌≡◌, ℕ, ◌+◌, Bool, false, List, [], ◌∷◌, ◌++◌, map, sym, ap, ◌∙◌, subst}
use Rattle.std.proofs.lemmas.List.{map-append}
use Rattle.rv_book.specs.declared.task.Piece.{Piece}
use Rattle.rv_pipe.specs.declared.view.Hand.{Hand}
use Rattle.rv_pipe.specs.Hands.{hand, took_one, gathered}
use Rattle.rv_pipe.specs.Took.{Makes}

pub makes-more : (piece : ℕ → Piece) (walks : Bool) (parts pushed : ℕ) (v w : Hand) (ps qs : List Piece) (x : ℕ) (m : Piece) → Makes piece walks parts pushed v ps → w ≡ took_one v x → m ≡ piece x → qs ≡ ps ++ m ∷ []
    → Makes piece walks parts pushed w qs
makes-more piece walks parts pushed v w ps qs x m h took made are =
    let is : w.taken ≡ v.taken ++ x ∷ [] = ap (λ (u : Hand). u.taken) took in record {
      known = took ∙ (λ t. let u : Hand = h.known t in hand u.walks u.parts u.pushed (v.taken ++ x ∷ [])) ∙ ap (hand walks parts pushed) (sym is);
      made = are ∙ (λ t. h.made t ++ made t ∷ []) ∙ sym (map-append piece v.taken (x ∷ [])) ∙ ap (map piece) (sym is);
    }

pub makes-both : (piece : ℕ → Piece) (walks : Bool) (parts more pushed : ℕ) (v o w : Hand) (ps qs rs : List Piece) → Makes piece walks parts pushed v ps → Makes piece false more 0 o qs → w ≡ gathered v o → rs ≡ ps ++ qs
    → Makes piece walks (parts + more) pushed w rs
makes-both piece walks parts more pushed v o w ps qs rs a b took are =
    let is : w.taken ≡ v.taken ++ o.taken = ap (λ (u : Hand). u.taken) took in record {
      known = took ∙ (λ t. let u : Hand = a.known t in let y : Hand = b.known t in hand u.walks (u.parts + y.parts) u.pushed (v.taken ++ o.taken)) ∙ ap (hand walks (parts + more) pushed) (sym is);
      made = are ∙ (λ t. a.made t ++ b.made t) ∙ sym (map-append piece v.taken o.taken) ∙ ap (map piece) (sym is);
    }

-- the pass itself says how many were pushed
pub makes-own : (piece : ℕ → Piece) (walks : Bool) (parts pushed : ℕ) (v : Hand) (ps : List Piece) → Makes piece walks parts pushed v ps → Makes piece walks parts v.pushed v ps
makes-own piece walks parts pushed v ps h = subst (λ m. Makes piece walks parts m v ps) (sym (ap (λ (u : Hand). u.pushed) h.known)) h
