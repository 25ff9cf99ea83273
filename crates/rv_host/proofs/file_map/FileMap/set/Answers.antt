use Rattle.std.proofs.Common.{ap, ◌∙◌}
use Rattle.rv_host.specs.FileMap.{files_of}
use Rattle.rv_host.proofs.FileMapLaws.{files_of-insert_entry}
use Rattle.rv_host.proofs.file_map.FileMap.set.Goals as goal

pub returns-clause-ok : goal.returns-clause-ok
returns-clause-ok c =
    rw (← c.self.view_is, ← c.in_ok-name.ensures.ok) (ap files_of c.in_ok-insert.ensures.entries ∙ files_of-insert_entry c.self.inside.files.entries c.in_ok-name.name c.args.bytes)
