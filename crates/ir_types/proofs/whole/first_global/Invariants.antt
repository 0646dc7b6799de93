-- the first place of what is left is that of all
use Rattle.std.proofs.Common.{◌≡◌, ℕ, drop}
use Rattle.std.specs.List.{flat_map, enumerate_from}
use Rattle.ir_core.specs.declared.limit.Spot.{Spot}
use Rattle.ir_core.specs.declared.module.GlobalVar.{GlobalVar}
use Rattle.ir_core.specs.Valid.{unless, init_fits}
use Rattle.ir_types.specs.Spots.{first_spot, global_faults}
use Rattle.ir_types.proofs.whole.first_global.Given as goal

abbrev pub invariant-loop-k : goal.invariant-loop-k
invariant-loop-k l = first_spot (flat_map (λ (p : ℕ × GlobalVar). unless (init_fits l.tables p.1.init p.1.ty) (Spot.Global p.0)) (enumerate_from l.k (drop l.k l.tables.globals))) ≡ first_spot (global_faults l.tables)
