-- Planned slots, placed data and frames are a plan that fits a program of registers.
use Rattle.std.proofs.Common.{◌≡◌, ℕ, zero, suc, ◌+◌, ◌≤◌, List, [], ◌∷◌, length, map, Some, slice_get, refl, ap, sym, ◌∙◌, arith}
use Rattle.std.specs.List.{All}
use Rattle.ir_core.specs.declared.TheConstants.{MAX_CALLS}
use Rattle.ir_core.specs.declared.limit.TheConstants.{MAX_BYTES}
use Rattle.x86_core.specs.Data.{stack_start, stack_end}
use Rattle.low_core.specs.declared.sel.SelFun.{SelFun}
use Rattle.low_core.specs.declared.sel.Sel.{Sel}
use Rattle.low_core.specs.Placing.{ArePlaced}
use Rattle.low_core.specs.Plan.{Content, PlanFits, IsTaken, NamesOneOf}
use Rattle.low_core.specs.SelParts.{ops_of}
use Rattle.low_core.specs.SelShaped.{IsSel}
use Rattle.obj_core.specs.declared.address.SlotAddr.{SlotAddr}
use Rattle.slot_plan.specs.Slots.{IsPlan, address_of}
use Rattle.slot_plan.proofs.Taken.{place_of, pointer_is, pointers_apart}
use Rattle.rt_routines.proofs.Planned.{pointers_are}
use Rattle.data_place.specs.Fits.{DataFits}
use Rattle.data_place.proofs.FitLaws.{data_fits}
use Rattle.frame_lower.specs.Functions.{Choices, slot_number}
use Rattle.frame_lower.specs.Given.{HavePlaces}
use Rattle.frame_lower.specs.Planned.{plan_of}
use Rattle.rd_compile.proofs.Frames.{frames_long, frame_there, frame_few}
use Rattle.rd_compile.proofs.Pointing.{pointers_few}

numbers_long : (ps : List SlotAddr) → length (map slot_number ps) ≡ length ps
numbers_long [] = refl
numbers_long (p ∷ ps) = ap suc (numbers_long ps)

-- the address of a number
number_there : (ps : List SlotAddr) (g : ℕ) (a : SlotAddr) (at : ℕ) → slice_get ps g ≡ Some a → slice_get (map slot_number ps) g ≡ Some at → at ≡ slot_number a
number_there [] g a at is there = absurd cc
number_there (p ∷ ps) zero a at is there = let same : p ≡ a = cc in let here : slot_number p ≡ at = cc in sym here ∙ ap slot_number same
number_there (p ∷ ps) (suc g) a at is there = number_there ps g a at is there

module _ (c : Choices) (sel : Sel) (slot_seed : ℕ) (contents : List Content) (shaped : IsSel sel) (planned : IsPlan sel slot_seed c.slots)
    (placed : ArePlaced contents c.placing.globals c.placing.ro c.placing.rw) (few : length c.placing.ro + length c.placing.rw ≤ MAX_BYTES) where
  pub data_there : DataFits sel contents (plan_of c sel)
  data_there = data_fits sel contents (plan_of c sel) c.placing.ro c.placing.rw placed few c.slots.pointers refl (pointers_few sel slot_seed c.slots shaped planned)

  -- no two functions have one address
  apart : (f g at : ℕ) → IsTaken sel (plan_of c sel) f at → IsTaken sel (plan_of c sel) g at → f ≡ g
  apart f g at one other =
      let pf = place_of sel slot_seed c.slots shaped planned f in
      let pg = place_of sel slot_seed c.slots shaped planned g in
      let here = number_there c.slots.pointers f (address_of c.slots.positions pf) at (pointer_is sel slot_seed c.slots shaped planned f one.taken) one.address in
      let there = number_there c.slots.pointers g (address_of c.slots.positions pg) at (pointer_is sel slot_seed c.slots shaped planned g other.taken) other.address in
      pointers_apart sel slot_seed c.slots shaped planned f g one.taken other.taken (omega (arith, here, there))

  pub fits : HavePlaces sel.functions c.homes → All (λ (f : SelFun). All (NamesOneOf (length contents)) (ops_of f)) sel.functions → PlanFits sel contents (plan_of c sel)
  fits places named = record {
    globals = data_there.globals;
    functions = numbers_long c.slots.pointers ∙ pointers_are sel shaped slot_seed c.slots planned;
    frames = frames_long sel.functions c.homes places;
    named = named;
    globals_below = data_there.globals_below;
    globals_apart = data_there.globals_apart;
    globals_off = data_there.globals_off;
    functions_below = data_there.functions_below;
    functions_apart = apart;
    functions_off = data_there.functions_off;
    functions_beside = data_there.functions_beside;
    allocas = λ f fn p there is. frame_there sel.functions c.homes f fn p places there is;
    room = λ f p is. (let calls : MAX_CALLS ≡ 8192 = refl in let low : stack_start ≡ 2684350464 = refl in let high : stack_end ≡ 3221225472 = refl in
        let small = frame_few sel sel.functions c.homes f p shaped.functions places is in omega (arith, calls, low, high, small));
  }
