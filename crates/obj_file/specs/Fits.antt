-- Which objects have counts and lengths that their fields can hold.
use Rattle.std.specs.Prelude.{◌^◌, ◌<◌, length}
use Rattle.obj_core.specs.declared.object.Object.{Object}
use Rattle.obj_core.specs.declared.object.Func.{Func}
use Rattle.obj_core.specs.Object.{Each}

-- a function's code, links and cuts
pub record FunctionFits (f : Func) : Type 0 where
  pub bytes : length f.bytes < 2 ^ 32
  pub links : length f.links < 2 ^ 32
  pub cuts : length f.cuts < 2 ^ 32

-- all counts and lengths of an object
pub record CountsFit (o : Object) : Type 0 where
  pub functions : length o.functions < 2 ^ 32
  pub slots : length o.slots < 2 ^ 32
  pub ro : length o.ro < 2 ^ 32
  pub rw : length o.rw < 2 ^ 32
  pub each_function : Each FunctionFits o.functions
