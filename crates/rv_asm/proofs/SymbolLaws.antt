-- Symbols as an indexed map keeps them.
use Rattle.std.proofs.Common.{◌≡◌, ℕ, Bool, true, false, cond, List, [], ◌∷◌, ◌++◌, map, Option, Some, None, String, bytes_eq, string_bytes, refl, ap, ◌∙◌}
use Rattle.std.specs.declared.alloc.Global.{Global}
use Rattle.std.specs.Map.{lookup}
use Rattle.std.specs.String.{string_eq}
use Rattle.indexmap.specs.IndexMap.{insert_entry}
use Rattle.std.specs.Option.{option_map}
use Rattle.std.proofs.lemmas.List.{map-append}
use Rattle.rv_asm.specs.declared.symbols.Place.{Place}
use Rattle.rv_asm.specs.Symbols.{Symbol, symbol_named, symbol_of, place_of, with_name}

abbrev Entry : Type 0
Entry = String Global × Place

pub place-kept : (es : List Entry) (name : List ℕ) → lookup (λ k. bytes_eq name (string_bytes k)) es ≡ option_map place_of (symbol_named (map symbol_of es) name)
place-kept [] name = refl
place-kept (e ∷ es) name = by-test (bytes_eq name (string_bytes e.0)) (place-kept es name)
  where
    by-test : (b : Bool) → lookup (λ k. bytes_eq name (string_bytes k)) es ≡ option_map place_of (symbol_named (map symbol_of es) name) → cond b (Some e.1) (lookup (λ k. bytes_eq name (string_bytes k)) es) ≡ option_map place_of (cond b (Some (symbol_of e)) (symbol_named (map symbol_of es) name))
    by-test true later = refl
    by-test false later = later

absent : (o : Option Symbol) → option_map place_of o ≡ None → o ≡ None
absent None h = refl
absent (Some s) h = absurd (cc)

-- a label that is there stays, and another goes last
pub add-present : (symbols : List Symbol) (line address : ℕ) (name : List ℕ) (p : Place) → option_map place_of (symbol_named symbols name) ≡ Some p → symbols ≡ with_name symbols line address name (symbol_named symbols name)
add-present symbols line address name p found = by-case (symbol_named symbols name) found
  where
    by-case : (o : Option Symbol) → option_map place_of o ≡ Some p → symbols ≡ with_name symbols line address name o
    by-case None h = absurd (cc)
    by-case (Some s) h = refl

-- a new key goes last
insert-last : (es : List Entry) (key : String Global) (place : Place) → symbol_named (map symbol_of es) (string_bytes key) ≡ None → insert_entry string_eq es key place ≡ es ++ (key, place) ∷ []
insert-last [] key place none = refl
insert-last (e ∷ es) key place none = by-test (bytes_eq (string_bytes key) (string_bytes e.0)) (λ later. insert-last es key place later) none
  where
    by-test : (b : Bool) → (symbol_named (map symbol_of es) (string_bytes key) ≡ None → insert_entry string_eq es key place ≡ es ++ (key, place) ∷ [])
        → cond b (Some (symbol_of e)) (symbol_named (map symbol_of es) (string_bytes key)) ≡ None
        → cond b ((e.0, place) ∷ es) (e ∷ insert_entry string_eq es key place) ≡ e ∷ (es ++ (key, place) ∷ [])
    by-test true later h = absurd (cc)
    by-test false later h = ap (λ (rest : List Entry). e ∷ rest) (later h)

pub add-absent : (es new : List Entry) (symbols : List Symbol) (key : String Global) (place : Place) (name : List ℕ) → map symbol_of es ≡ symbols → option_map place_of (symbol_named symbols name) ≡ None → string_bytes key ≡ name → new ≡ insert_entry string_eq es key place → map symbol_of new ≡ with_name symbols place.line place.address name (symbol_named symbols name)
add-absent es new symbols key place name view none same put =
    let gone : symbol_named symbols name ≡ None = absent (symbol_named symbols name) none in
    let free : symbol_named (map symbol_of es) (string_bytes key) ≡ None = rw (view, same) gone in
    rw gone (ap (map symbol_of) (put ∙ insert-last es key place free) ∙ map-append symbol_of es ((key, place) ∷ []) ∙ rw (view, same) refl)
