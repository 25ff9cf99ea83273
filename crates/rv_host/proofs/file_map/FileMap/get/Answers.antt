use Rattle.std.proofs.Common.{option_map, ap, ◌∙◌}
use Rattle.rv_host.proofs.FileMapLaws.{found-lookup}
use Rattle.rv_host.proofs.file_map.FileMap.get.Goals as goal

pub returns-in-Some : goal.returns-in-Some
returns-in-Some c =
    rw (← c.self.view_is, c.as_slice.ensures.value) (ap (option_map (λ v. v.items)) c.in-Some.ensures.value ∙ found-lookup c.args.name.now c.self.inside.files.entries)

pub returns-in-None : goal.returns-in-None
returns-in-None c =
    rw (← c.self.view_is) (ap (option_map (λ v. v.items)) c.in-None.ensures.value ∙ found-lookup c.args.name.now c.self.inside.files.entries)
