use Rattle.std.proofs.Common.{◌≡◌, Some, None, OnOk, subst, option_map, is_some, ◌++◌, sym, ◌∙◌, ap}
use Rattle.std.proofs.lemmas.Map.Steps.{set_value_same}
use Rattle.std.specs.BTreeMap.{is_at}
use Rattle.rv_host.specs.FileMap.{files_of}
use Rattle.rv_host.specs.Files.{Files, found, or_empty, with_added, with_file}
use Rattle.rv_host.proofs.FileMapLaws.{compare_name, files_of-set_value, found-lookup}
use Rattle.rv_host.proofs.file_map.FileMap.append.Goals as goal

pub returns-in_default-clause-ok : goal.returns-in_default-clause-ok
returns-in_default-clause-ok c =
    let es = c.self.inside.files.entries in
    let name = c.args.name.now in
    let bytes = c.args.bytes.now in
    let absent : found (files_of es) name ≡ None = sym (found-lookup name es) ∙ ap (option_map (λ v. v.items)) (sym c.in_default.ensures.value) in
    let Becomes : Files → Type 0 = λ files. OnOk c.set_copy.result (c.set_copy.new.self ≡ files) in
    subst Becomes (
    ap (λ m. with_file (files_of m.entries) name bytes) c.get_mut.follows.holds-at-none
    ∙ ap (λ was. with_file (files_of es) name (or_empty was ++ bytes)) (sym absent)
    ∙ ap (λ files. with_added files name bytes) c.self.view_is
    ) c.set_copy.ensures.ok

pub returns-in-Ok-clause-ok : goal.returns-in-Ok-clause-ok
returns-in-Ok-clause-ok c =
    let es = c.self.inside.files.entries in
    let name = c.args.name.now in
    let now = c.extend_from_slice.new.self in
    let there : found (files_of es) name ≡ Some c.in-Some.file.now.items =
    sym (found-lookup name es) ∙ ap (option_map (λ v. v.items)) (sym c.in-Some.ensures.value) in
    let written : files_of (c.get_mut.follows.lender now).entries ≡ with_file (files_of es) name now.items =
    ap files_of (c.get_mut.follows.holds now).0 ∙ files_of-set_value name es now c.get_mut.ensures.ordered (sym (ap is_some c.in-Some.ensures.value)) in
    rw (← c.self.view_is) (written ∙ ap (with_file (files_of es) name) (c.in-Ok.ensures.items ∙ ap (λ was. or_empty was ++ c.args.bytes.now) (sym there)))

pub returns-in-Err-clause-err : goal.returns-in-Err-clause-err
returns-in-Err-clause-err c =
    let es = c.self.inside.files.entries in
    let name = c.args.name.now in
    let was = c.in-Some.file.now in
    let now = c.extend_from_slice.new.self in
    let written : (v : _) → files_of (c.get_mut.follows.lender v).entries ≡ with_file (files_of es) name v.items =
    λ v. ap files_of (c.get_mut.follows.holds v).0 ∙ files_of-set_value name es v c.get_mut.ensures.ordered (sym (ap is_some c.in-Some.ensures.value)) in
    let same : files_of (c.get_mut.follows.lender was).entries ≡ files_of es =
    ap files_of ((c.get_mut.follows.holds was).0 ∙ set_value_same (is_at (compare_name name)) es was (sym c.in-Some.ensures.value)) in
    rw (← c.self.view_is) (written now ∙ ap (with_file (files_of es) name) c.in-Err.ensures.items ∙ sym (written was) ∙ same)
