-- The ranges of an object's numbers that their types give: what is left of `IsObject` are the counts.
use Rattle.std.specs.Prelude.{◌^◌, ◌<◌}
use Rattle.obj_core.specs.declared.object.Object.{Object}
use Rattle.obj_core.specs.declared.object.Func.{Func}
use Rattle.obj_core.specs.Object.{Each, IsByte, IsField, IsLink, IsSlot}

-- the numbers of a function
pub record AreFuncNumbers (f : Func) : Type 0 where
  pub bytes : Each IsByte f.bytes
  pub links : Each IsLink f.links
  pub cuts : Each IsField f.cuts

-- the numbers of an object
pub record AreNumbers (o : Object) : Type 0 where
  pub slot_seed : o.slot_seed < 2 ^ 64
  pub reg_seed : o.reg_seed < 2 ^ 64
  pub functions : Each AreFuncNumbers o.functions
  pub slots : Each IsSlot o.slots
  pub ro : Each IsByte o.ro
  pub rw : Each IsByte o.rw
