-- Each planned slot that comes back is linked once in the functions of a program where its jump stands in one of them, and else not at all.
use Rattle.std.proofs.Common.{◌≡◌, ℕ, zero, suc, ◌+◌, ◌<◌, ◌≤◌, inl, inr, Bool, true, false, List, [], ◌∷◌, length, Option, Some, slice_get, refl, ap, sym, ◌∙◌, arith}
use Rattle.low_core.specs.declared.sel.Which.TheVariants.{Putchar, Getchar, Exit, Memcpy, Memset, Trap}
use Rattle.low_core.specs.declared.sel.SelOp.{SelOp}
use Rattle.low_core.specs.declared.sel.SelOp.TheVariants.{Set, Copy, Alu, Div, Widen, Test, Pick, Load, Store, FrameAt, GlobalAt, FunctionAt, Call, CallAt, Outside}
use Rattle.low_core.specs.declared.sel.SelFun.{SelFun}
use Rattle.low_core.specs.SelParts.{ops_of}
use Rattle.obj_core.specs.declared.plan.Site.{Site}
use Rattle.obj_core.specs.declared.plan.Slot0.{Slot0}
use Rattle.obj_rows.specs.Assembled.{site_of}
use Rattle.slot_plan.specs.Slots.{jumps_from, call_slot, calls_from, all_calls_from, routine_slots}
use Rattle.slot_plan.proofs.Places.{parted}

-- jumps to functions have none
pub jumps_have_none : (f : ℕ) (ts : List Bool) (k : ℕ) (slot : Slot0) (site : Site) → slice_get (jumps_from f ts) k ≡ Some slot → site_of slot ≡ Some site → ⊥
jumps_have_none f [] k slot site there has = absurd cc
jumps_have_none f (false ∷ ts) k slot site there has = jumps_have_none (suc f) ts k slot site there has
jumps_have_none f (true ∷ ts) (suc k) slot site there has = jumps_have_none (suc f) ts k slot site there has
jumps_have_none f (true ∷ ts) zero slot site there has =
    let same : Slot0.Jump f ≡ slot = cc in
    let none : site_of (Slot0.Jump f) ≡ Some site = ap site_of same ∙ has in
    absurd cc

-- those of calls are in the calling function
call_in : (count f n : ℕ) (op : SelOp) (k : ℕ) (slot : Slot0) (site : Site) → slice_get (call_slot count f n op) k ≡ Some slot → site_of slot ≡ Some site → site.function ≡ f
call_in count f n op k slot site there has = by (call_slot count f n op) (one op) k there
  where
    -- an operation has none, or one of its function
    IsOfOne : List Slot0 → Type 0
    IsOfOne ss = (k : ℕ) (s : Slot0) (t : Site) → slice_get ss k ≡ Some s → site_of s ≡ Some t → t.function ≡ f

    nothing : IsOfOne []
    nothing k s t at is = absurd cc

    single : (s : Slot0) → site_of s ≡ Some (record { function = f; number = n }) → IsOfOne (s ∷ [])
    single s its zero u t at is =
        let same : s ≡ u = cc in
        let both : Some (record { function = f; number = n }) ≡ Some t = sym its ∙ ap site_of same ∙ is in
        ap (λ (x : Site). x.function) (sym (some_same (record { function = f; number = n }) t both))
      where
        some_same : (a b : Site) → let o : Option Site = Some a in o ≡ Some b → a ≡ b
        some_same a b e = cc
    single s its (suc k) u t at is = absurd cc

    one : (op : SelOp) → IsOfOne (call_slot count f n op)
    one (Call g r args) = single _ refl
    one (CallAt s r args) = single _ refl
    one (Outside Trap r args) = nothing
    one (Outside Putchar r args) = single _ refl
    one (Outside Getchar r args) = single _ refl
    one (Outside Exit r args) = single _ refl
    one (Outside Memcpy r args) = single _ refl
    one (Outside Memset r args) = single _ refl
    one (Set r n2) = nothing
    one (Copy r s) = nothing
    one (Alu o w r s t) = nothing
    one (Div signed rest w r s t) = nothing
    one (Widen signed from to r s) = nothing
    one (Test p w r s t) = nothing
    one (Pick r c s t) = nothing
    one (Load w r s) = nothing
    one (Store w s t) = nothing
    one (FrameAt r at) = nothing
    one (GlobalAt r g) = nothing
    one (FunctionAt r g) = nothing

    by : (ss : List Slot0) → IsOfOne ss → (k : ℕ) → slice_get ss k ≡ Some slot → site.function ≡ f
    by ss is k at = is k slot site at has

calls_in : (count f n : ℕ) (ops : List SelOp) (k : ℕ) (slot : Slot0) (site : Site) → slice_get (calls_from count f n ops) k ≡ Some slot → site_of slot ≡ Some site → site.function ≡ f
calls_in count f n [] k slot site there has = absurd cc
calls_in count f n (op ∷ ops) k slot site there has =
    let m : ℕ = n + length (call_slot count f n op) in
    elim (parted (call_slot count f n op) (calls_from count f m ops) k slot there) [
      | inl here ↦ call_in count f n op k slot site here has
      | inr more ↦ calls_in count f m ops more.0 slot site more.2 has
    ]

pub functions_in : (count f : ℕ) (fs : List SelFun) (k : ℕ) (slot : Slot0) (site : Site) → slice_get (all_calls_from count f fs) k ≡ Some slot → site_of slot ≡ Some site → site.function < f + length fs
functions_in count f [] k slot site there has = absurd cc
functions_in count f (fn ∷ fs) k slot site there has = elim (parted (calls_from count f 0 (ops_of fn)) (all_calls_from count (suc f) fs) k slot there) [
  | inl here ↦ let is = calls_in count f 0 (ops_of fn) k slot site here has in omega (arith, is)
  | inr more ↦ let is = functions_in count (suc f) fs more.0 slot site more.2 has in omega (arith, is)
]

-- those of routines are behind the functions of the program
pub routines_behind : (count main k : ℕ) (slot : Slot0) (site : Site) → slice_get (routine_slots count main) k ≡ Some slot → site_of slot ≡ Some site → count ≤ site.function
routines_behind count main k slot site there has = by k there
  where
    some_same : (a b : Site) → let o : Option Site = Some a in o ≡ Some b → a ≡ b
    some_same a b e = cc

    at : (s : Slot0) (own : Site) → site_of s ≡ Some own → count ≤ own.function → s ≡ slot → count ≤ site.function
    at s own its low same =
        let both : Some own ≡ Some site = sym its ∙ ap site_of same ∙ has in
        let is = ap (λ (x : Site). x.function) (some_same own site both) in
        omega (arith, low, is)

    by : (k : ℕ) → slice_get (routine_slots count main) k ≡ Some slot → count ≤ site.function
    by zero e = at (Slot0.Call main (record { function = count; number = 0 })) (record { function = count; number = 0 }) refl (omega arith) cc
    by (suc zero) e = at (Slot0.System (record { function = count; number = 1 })) (record { function = count; number = 1 }) refl (omega arith) cc
    by (suc (suc zero)) e = at (Slot0.System (record { function = count + 1; number = 0 })) (record { function = count + 1; number = 0 }) refl (omega arith) cc
    by (suc (suc (suc zero))) e = at (Slot0.System (record { function = count + 2; number = 0 })) (record { function = count + 2; number = 0 }) refl (omega arith) cc
    by (suc (suc (suc (suc zero)))) e = at (Slot0.System (record { function = count + 3; number = 0 })) (record { function = count + 3; number = 0 }) refl (omega arith) cc
    by (suc (suc (suc (suc (suc k))))) e = absurd cc
