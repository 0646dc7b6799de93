use Rattle.std.proofs.Common.{ap, ◌∙◌, not}
use Rattle.std.specs.List.{list_any}
use Rattle.ir_core.specs.Names.{same_name}
use Rattle.ir_core.proofs.NameSets.{any_names}
use Rattle.ir_core.proofs.names.NameSet.add.Goals as goal
use Rattle.ir_core.proofs.names.NameSet.add.Goals.{in-Ok, in-Err}

pub returns-clause-new : goal.returns-clause-new
returns-clause-new c = elim c.match-insert_full.branch [ in-Ok w ↦ rw w.result-is (let e = w.in-Ok.ensures.added in let f = any_names c.args.name.now c.self.inside.kept.keys in let v = c.self.view_is in e ∙ ap not (f ∙ ap (list_any (same_name c.args.name.now)) v)) | in-Err w ↦ rw w.result-is tt ]
