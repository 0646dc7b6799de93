-- What is decided for a program of registers fits it.
use Rattle.std.proofs.Common.{◌≡◌, ℕ, zero, suc, ◌+◌, ◌<◌, ◌≤◌, ◌^◌, List, [], ◌∷◌, length, get_or, Some, slice_get, refl, arith}
use Rattle.std.specs.List.{All}
use Rattle.ir_core.specs.declared.limit.TheConstants.{MAX_BYTES}
use Rattle.low_core.specs.declared.sel.Sel.{Sel}
use Rattle.low_core.specs.Placing.{ArePlaced}
use Rattle.low_core.specs.Plan.{Plan, Content}
use Rattle.low_core.specs.SelShaped.{IsSel}
use Rattle.obj_core.specs.declared.plan.Placing.{Placing}
use Rattle.obj_core.specs.declared.plan.SlotPlan.{SlotPlan}
use Rattle.slot_plan.specs.Slots.{IsPlan}
use Rattle.data_place.specs.Fits.{DataFits}
use Rattle.frame_lower.specs.Given.{AreChosen}
use Rattle.frame_lower.specs.Planned.{plan_of}
use Rattle.rd_compile.specs.Passed.{choices_of}
use Rattle.rd_compile.proofs.Fitting.{data_there}
use Rattle.rd_compile.proofs.OwnHomes.{homes_placed, homes_framed}

there : {X : Type 0} (xs : List X) (k : ℕ) (d : X) → k < length xs → slice_get xs k ≡ Some (get_or xs k d)
there [] k d low = absurd (omega (arith, low))
there (x ∷ xs) zero d low = refl
there (x ∷ xs) (suc k) d low = there xs k d (omega (arith, low))

some_there : {X : Type 0} (xs : List X) (k : ℕ) → k < length xs → (x : X) × (slice_get xs k ≡ Some x)
some_there [] k low = absurd (omega (arith, low))
some_there (x ∷ xs) zero low = (x, refl)
some_there (x ∷ xs) (suc k) low = some_there xs k (omega (arith, low))

-- globals have small addresses
globals_small : (sel : Sel) (contents : List Content) (plan : Plan) → DataFits sel contents plan → All (λ at. at < 2 ^ 64) plan.globals
globals_small sel contents plan fits k d low =
    let many = fits.globals in
    let c = some_there contents k (omega (arith, many, low)) in
    let below = fits.globals_below k (get_or plan.globals k d) c.0 (record { address = there plan.globals k d low; content = c.1 }) in
    omega (arith, below)

pub are_chosen : (sel : Sel) (slot_seed reg_seed : ℕ) (slots : SlotPlan) (placing : Placing) (contents : List Content) → IsSel sel → IsPlan sel slot_seed slots →
    ArePlaced contents placing.globals placing.ro placing.rw → length placing.ro + length placing.rw ≤ MAX_BYTES → AreChosen (choices_of sel reg_seed slots placing) sel slot_seed
are_chosen sel slot_seed reg_seed slots placing contents shaped planned placed few =
    let c = choices_of sel reg_seed slots placing in
    record {
      shaped = shaped;
      places = homes_placed sel.functions;
      in_frame = homes_framed sel.functions;
      plan = planned;
      addresses = globals_small sel contents (plan_of c sel) (data_there c sel slot_seed contents shaped planned placed few);
    }
