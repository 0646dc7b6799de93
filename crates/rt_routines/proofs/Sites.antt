-- In which functions the jumps to the slots of a program are that come back, and where the slots of the routines stand.
use Rattle.std.proofs.Common.{◌≡◌, ℕ, zero, suc, ◌+◌, ◌-◌, ◌<◌, ◌≤◌, ◌⊎◌, inl, inr, Bool, true, false, List, [], ◌∷◌, ◌++◌, length, Option, Some, slice_get, refl, ap, sym, ◌∙◌, arith}
use Rattle.std.proofs.lemmas.List.{length-append}
use Rattle.low_core.specs.declared.sel.Which.TheVariants.{Putchar, Getchar, Exit, Memcpy, Memset, Trap}
use Rattle.low_core.specs.declared.sel.SelOp.{SelOp}
use Rattle.low_core.specs.declared.sel.SelOp.TheVariants.{Set, Copy, Alu, Div, Widen, Test, Pick, Load, Store, FrameAt, GlobalAt, FunctionAt, Call, CallAt, Outside}
use Rattle.low_core.specs.declared.sel.SelFun.{SelFun}
use Rattle.low_core.specs.declared.sel.Sel.{Sel}
use Rattle.low_core.specs.SelParts.{ops_of}
use Rattle.obj_core.specs.declared.plan.Site.{Site}
use Rattle.obj_core.specs.declared.plan.Slot0.{Slot0}
use Rattle.obj_rows.specs.Assembled.{site_of}
use Rattle.slot_plan.specs.Slots.{jumps_from, call_slot, calls_from, all_calls_from, routine_slots, slots_of}
use Rattle.slot_plan.proofs.Places.{behind, parted}

-- jumps to functions have none
jumps_have_none : (f : ℕ) (ts : List Bool) (k : ℕ) (slot : Slot0) (site : Site) → slice_get (jumps_from f ts) k ≡ Some slot → site_of slot ≡ Some site → ⊥
jumps_have_none f [] k slot site there has = absurd cc
jumps_have_none f (false ∷ ts) k slot site there has = jumps_have_none (suc f) ts k slot site there has
jumps_have_none f (true ∷ ts) (suc k) slot site there has = jumps_have_none (suc f) ts k slot site there has
jumps_have_none f (true ∷ ts) zero slot site there has =
    let same : Slot0.Jump f ≡ slot = cc in
    let none : site_of (Slot0.Jump f) ≡ Some site = ap site_of same ∙ has in
    absurd cc

-- those of calls are in the calling function
call_in : (count f n : ℕ) (op : SelOp) (k : ℕ) (slot : Slot0) (site : Site) → slice_get (call_slot count f n op) k ≡ Some slot → site_of slot ≡ Some site → site.function ≡ f
call_in count f n op k slot site there has = by (call_slot count f n op) (one op) k there
  where
    -- an operation has none, or one of its function
    IsOfOne : List Slot0 → Type 0
    IsOfOne ss = (k : ℕ) (s : Slot0) (t : Site) → slice_get ss k ≡ Some s → site_of s ≡ Some t → t.function ≡ f

    nothing : IsOfOne []
    nothing k s t at is = absurd cc

    single : (s : Slot0) → site_of s ≡ Some (record { function = f; number = n }) → IsOfOne (s ∷ [])
    single s its zero u t at is =
        let same : s ≡ u = cc in
        let both : Some (record { function = f; number = n }) ≡ Some t = sym its ∙ ap site_of same ∙ is in
        ap (λ (x : Site). x.function) (sym (some_same (record { function = f; number = n }) t both))
      where
        some_same : (a b : Site) → let o : Option Site = Some a in o ≡ Some b → a ≡ b
        some_same a b e = cc
    single s its (suc k) u t at is = absurd cc

    one : (op : SelOp) → IsOfOne (call_slot count f n op)
    one (Call g r args) = single _ refl
    one (CallAt s r args) = single _ refl
    one (Outside Trap r args) = nothing
    one (Outside Putchar r args) = single _ refl
    one (Outside Getchar r args) = single _ refl
    one (Outside Exit r args) = single _ refl
    one (Outside Memcpy r args) = single _ refl
    one (Outside Memset r args) = single _ refl
    one (Set r n2) = nothing
    one (Copy r s) = nothing
    one (Alu o w r s t) = nothing
    one (Div signed rest w r s t) = nothing
    one (Widen signed from to r s) = nothing
    one (Test p w r s t) = nothing
    one (Pick r c s t) = nothing
    one (Load w r s) = nothing
    one (Store w s t) = nothing
    one (FrameAt r at) = nothing
    one (GlobalAt r g) = nothing
    one (FunctionAt r g) = nothing

    by : (ss : List Slot0) → IsOfOne ss → (k : ℕ) → slice_get ss k ≡ Some slot → site.function ≡ f
    by ss is k at = is k slot site at has

calls_in : (count f n : ℕ) (ops : List SelOp) (k : ℕ) (slot : Slot0) (site : Site) → slice_get (calls_from count f n ops) k ≡ Some slot → site_of slot ≡ Some site → site.function ≡ f
calls_in count f n [] k slot site there has = absurd cc
calls_in count f n (op ∷ ops) k slot site there has =
    let m : ℕ = n + length (call_slot count f n op) in
    elim (parted (call_slot count f n op) (calls_from count f m ops) k slot there) [
      | inl here ↦ call_in count f n op k slot site here has
      | inr more ↦ calls_in count f m ops more.0 slot site more.2 has
    ]

functions_in : (count f : ℕ) (fs : List SelFun) (k : ℕ) (slot : Slot0) (site : Site) → slice_get (all_calls_from count f fs) k ≡ Some slot → site_of slot ≡ Some site → site.function < f + length fs
functions_in count f [] k slot site there has = absurd cc
functions_in count f (fn ∷ fs) k slot site there has = elim (parted (calls_from count f 0 (ops_of fn)) (all_calls_from count (suc f) fs) k slot there) [
  | inl here ↦ let is = calls_in count f 0 (ops_of fn) k slot site here has in omega (arith, is)
  | inr more ↦ let is = functions_in count (suc f) fs more.0 slot site more.2 has in omega (arith, is)
]

get_below : {X : Type 0} (xs : List X) (k : ℕ) (x : X) → slice_get xs k ≡ Some x → k < length xs
get_below [] k x there = absurd cc
get_below (y ∷ xs) zero x there = omega arith
get_below (y ∷ xs) (suc k) x there = let r = get_below xs k x there in omega (arith, r)

module _ (sel : Sel) where
  abbrev count : ℕ
  count = length sel.functions

  abbrev jumps : List Slot0
  jumps = jumps_from 0 sel.taken

  abbrev calls : List Slot0
  calls = all_calls_from count 0 sel.functions

  abbrev own : List Slot0
  own = routine_slots count sel.main

  -- how many slots stand before those of the routines
  pub first_own : length (slots_of sel) - 5 ≡ suc (length jumps + length calls)
  first_own =
      let outer = length-append jumps (calls ++ own) in
      let inner = length-append calls own in
      omega (arith, outer, inner)

  pub six_or_more : 6 ≤ length (slots_of sel)
  six_or_more =
      let outer = length-append jumps (calls ++ own) in
      let inner = length-append calls own in
      omega (arith, outer, inner)

  -- a slot of the routines
  pub own_there : (j : ℕ) → slice_get (slots_of sel) (length (slots_of sel) - 5 + j) ≡ slice_get own j
  own_there j =
      let first = first_own in
      let place : length (slots_of sel) - 5 + j ≡ suc (length jumps + (length calls + j)) = omega (arith, first) in
      ap (slice_get (slots_of sel)) place ∙ behind jumps (calls ++ own) (length calls + j) ∙ behind calls own j

  -- a slot that comes back is one of them, or its jump is in a function of the program
  pub own_or_before : (k : ℕ) (slot : Slot0) (site : Site) → slice_get (slots_of sel) k ≡ Some slot → site_of slot ≡ Some site →
      ((k < length (slots_of sel) - 5) × (site.function < count)) ⊎ ((j : ℕ) × (k ≡ length (slots_of sel) - 5 + j) × (slice_get own j ≡ Some slot))
  own_or_before zero slot site there has =
      let same : Slot0.Entry count ≡ slot = cc in
      let none : site_of (Slot0.Entry count) ≡ Some site = ap site_of same ∙ has in
      absurd cc
  own_or_before (suc k) slot site there has =
      let first = first_own in
      elim (parted jumps (calls ++ own) k slot there) [
        | inl here ↦ absurd (jumps_have_none 0 sel.taken k slot site here has)
        | inr more ↦ elim (parted calls own more.0 slot more.2) [
          | inl here ↦
              let inside = get_below calls more.0 slot here in
              let in_program = functions_in count 0 sel.functions more.0 slot site here has in
              let at = more.1 in
              inl (omega (arith, first, inside, at), omega (arith, in_program))
          | inr last ↦
              let at = more.1 in
              let place = last.1 in
              inr (last.0, omega (arith, first, at, place), last.2)
        ]
      ]
