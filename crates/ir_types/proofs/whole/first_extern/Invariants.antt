-- the first place of what is left is that of all
use Rattle.std.proofs.Common.{◌≡◌, ℕ, drop}
use Rattle.std.specs.List.{flat_map, enumerate_from}
use Rattle.ir_core.specs.declared.limit.Spot.{Spot}
use Rattle.ir_core.specs.declared.module.Extern.{Extern}
use Rattle.ir_core.specs.Valid.{unless, declaration_fits}
use Rattle.ir_types.specs.Spots.{first_spot, extern_faults}
use Rattle.ir_types.proofs.whole.first_extern.Given as goal

abbrev pub invariant-loop-k : goal.invariant-loop-k
invariant-loop-k l = first_spot (flat_map (λ (p : ℕ × Extern). unless (declaration_fits p.1) (Spot.Extern p.0)) (enumerate_from l.k (drop l.k l.tables.externs))) ≡ first_spot (extern_faults l.tables)
