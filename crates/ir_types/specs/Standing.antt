-- Where a walk into a type stands, as a part of the type.
use Rattle.ir_types.specs.declared.parts.Stand.{Stand}
use Rattle.ir_types.specs.Fitting.{Part}

-- the part at which it stands
abbrev pub stood : Stand → Part
stood s = record { ty = s.ty.now; names = s.names }
