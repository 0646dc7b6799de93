-- what is left decides
use Rattle.std.proofs.Common.{◌≡◌, drop}
use Rattle.std.specs.List.{list_all}
use Rattle.ir_core.specs.Typing.{case_fits}
use Rattle.ir_types.proofs.op.fits_cases.Given as goal

abbrev pub invariant-loop-c : goal.invariant-loop-c
invariant-loop-c l = list_all (case_fits l.tables l.kind) (drop l.c-index l.cases) ≡ list_all (case_fits l.tables l.kind) l.cases
