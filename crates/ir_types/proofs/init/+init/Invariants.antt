-- what is left decides
use Rattle.std.proofs.Common.{◌≡◌, drop, map}
use Rattle.ir_core.specs.Valid.{fields_fit, fitted}
use Rattle.ir_types.specs.Fitting.{elements_fit}
use Rattle.ir_types.proofs.init.+init.Given as goal

abbrev pub invariant-fits_elements-loop-e : goal.invariant-fits_elements-loop-e
invariant-fits_elements-loop-e l = elements_fit l.tables l.of (drop l.e-index l.es) ≡ elements_fit l.tables l.of l.es

abbrev pub invariant-fits_fields-loop-i : goal.invariant-fits_fields-loop-i
invariant-fits_fields-loop-i l = fields_fit (map (fitted l.tables) (drop l.i l.es)) (drop l.i l.fields) ≡ fields_fit (map (fitted l.tables) l.es) l.fields
