-- At which places the slots of calls stand, and in which functions the jumps to slots are that come back.
use Rattle.std.proofs.Common.{◌≡◌, ℕ, zero, suc, ◌+◌, ◌-◌, ◌<◌, ◌≤◌, ◌⊎◌, inl, inr, List, [], ◌∷◌, ◌++◌, length, take, Option, Some, None, slice_get, refl, ap, sym, subst, ◌∙◌, arith}
use Rattle.std.specs.List.{flat_map, sum_by}
use Rattle.std.proofs.lemmas.List.{length-append}
use Rattle.std.proofs.lemmas.List.Sums.{sum_by-cons}
use Rattle.low_core.specs.declared.sel.SelOp.{SelOp}
use Rattle.low_core.specs.declared.sel.SelBlock.{SelBlock}
use Rattle.low_core.specs.declared.sel.SelFun.{SelFun}
use Rattle.low_core.specs.declared.sel.Sel.{Sel}
use Rattle.low_core.specs.SelParts.{ops_of}
use Rattle.low_core.specs.SelWeights.{calls_at}
use Rattle.obj_core.specs.declared.plan.Slot0.{Slot0}
use Rattle.slot_plan.specs.Slots.{jumps_from, call_slot, calls_from, all_calls_from, routine_slots, slots_of, takens}
use Rattle.slot_plan.proofs.Bounds.{jumps_long, calls_long, block_calls, all_calls_long}
use Rattle.slot_plan.proofs.InTurn.{calls_append}

-- a place in a list, and one behind it
pub in_front : {X : Type 0} (xs ys : List X) (k : ℕ) (x : X) → slice_get xs k ≡ Some x → slice_get (xs ++ ys) k ≡ Some x
in_front [] ys k x is = absurd cc
in_front (y ∷ xs) ys zero x is = is
in_front (y ∷ xs) ys (suc k) x is = in_front xs ys k x is

pub behind : {X : Type 0} (xs ys : List X) (k : ℕ) → slice_get (xs ++ ys) (length xs + k) ≡ slice_get ys k
behind [] ys k = ap (slice_get ys) (let e : 0 + k ≡ k = omega arith in e)
behind (x ∷ xs) ys k = ap (slice_get (x ∷ xs ++ ys)) (let e : suc (length xs) + k ≡ suc (length xs + k) = omega arith in e) ∙ behind xs ys k

pub parted : {X : Type 0} (xs ys : List X) (k : ℕ) (x : X) → slice_get (xs ++ ys) k ≡ Some x → (slice_get xs k ≡ Some x) ⊎ ((j : ℕ) × (k ≡ length xs + j) × (slice_get ys j ≡ Some x))
parted [] ys k x is = inr (k, (let e : k ≡ 0 + k = omega arith in e), is)
parted (y ∷ xs) ys zero x is = inl is
parted (y ∷ xs) ys (suc k) x is = elim (parted xs ys k x is) [ inl e ↦ inl e | inr p ↦ inr (p.0, (let e = p.1 in let f : suc k ≡ suc (length xs) + p.0 = omega (arith, e) in f), p.2) ]

-- the calls of blocks, and those of functions
abbrev pub calls_in_blocks : List SelBlock → ℕ
calls_in_blocks bs = sum_by (λ (b : SelBlock). sum_by calls_at b.ops) bs

abbrev pub calls_in_functions : List SelFun → ℕ
calls_in_functions fs = sum_by (λ (f : SelFun). calls_in_blocks f.blocks) fs

-- an operation that is a call, whose slot is this one whatever its number
abbrev pub HasSlot : ℕ → ℕ → SelOp → (ℕ → Slot0) → Type 0
HasSlot count f op slot = (n : ℕ) → call_slot count f n op ≡ slot n ∷ []

module _ (count : ℕ) where
  -- its slot stands behind those of the operations in front
  op_slot : (f n : ℕ) (ops : List SelOp) (i : ℕ) (op : SelOp) (slot : ℕ → Slot0) → slice_get ops i ≡ Some op → HasSlot count f op slot →
      let before : ℕ = sum_by calls_at (take i ops) in slice_get (calls_from count f n ops) before ≡ Some (slot (n + before))
  op_slot f n [] i op slot there has = absurd cc
  op_slot f n (o ∷ ops) zero op slot there has =
      let same : o ≡ op = cc in
      let here : call_slot count f n o ≡ slot n ∷ [] = ap (call_slot count f n) same ∙ has n in
      ap (λ l. slice_get (l ++ calls_from count f (n + length (call_slot count f n o)) ops) 0) here ∙ ap (λ k. Some (slot k)) (let e : n ≡ n + 0 = omega arith in e)
  op_slot f n (o ∷ ops) (suc i) op slot there has =
      let first = call_slot count f n o in
      let m : ℕ = n + length first in
      let long : length first ≡ calls_at o = one_long n o in
      let sum : sum_by calls_at (o ∷ take i ops) ≡ calls_at o + sum_by calls_at (take i ops) = sum_by-cons calls_at o (take i ops) in
      let place : sum_by calls_at (o ∷ take i ops) ≡ length first + sum_by calls_at (take i ops) = omega (arith, long, sum) in
      let number : m + sum_by calls_at (take i ops) ≡ n + sum_by calls_at (o ∷ take i ops) = omega (arith, long, sum) in
      ap (slice_get (first ++ calls_from count f m ops)) place ∙ behind first (calls_from count f m ops) (sum_by calls_at (take i ops))
      ∙ op_slot f m ops i op slot there has ∙ ap (λ k. Some (slot k)) number
    where
      one_long : (n : ℕ) (o : SelOp) → length (call_slot count f n o) ≡ calls_at o
      one_long n o =
          let whole = calls_long count f n (o ∷ []) in
          let parts = length-append (call_slot count f n o) [] in
          let sum = sum_by-cons calls_at o [] in
          omega (arith, whole, parts, sum)

  block_slot : (f n : ℕ) (bs : List SelBlock) (b : ℕ) (here : SelBlock) (i : ℕ) (op : SelOp) (slot : ℕ → Slot0) → slice_get bs b ≡ Some here → slice_get here.ops i ≡ Some op → HasSlot count f op slot →
      let before : ℕ = calls_in_blocks (take b bs) + sum_by calls_at (take i here.ops) in
      slice_get (calls_from count f n (flat_map (λ (c : SelBlock). c.ops) bs)) before ≡ Some (slot (n + before))
  block_slot f n [] b here i op slot in_function there has = absurd cc
  block_slot f n (c ∷ bs) zero here i op slot in_function there has =
      let same : c ≡ here = cc in
      let rest = flat_map (λ (d : SelBlock). d.ops) bs in
      let before : ℕ = sum_by calls_at (take i here.ops) in
      let at : slice_get (calls_from count f n (c.ops ++ rest)) before ≡ Some (slot (n + before)) =
      ap (λ (d : SelBlock). slice_get (calls_from count f n (d.ops ++ rest)) before) same
      ∙ ap (λ l. slice_get l before) (calls_append count f n here.ops rest)
      ∙ in_front (calls_from count f n here.ops) (calls_from count f (n + length (calls_from count f n here.ops)) rest) before (slot (n + before)) (op_slot f n here.ops i op slot there has) in
      let e : before ≡ 0 + before = omega arith in
      subst (λ k. slice_get (calls_from count f n (c.ops ++ rest)) k ≡ Some (slot (n + k))) e at
  block_slot f n (c ∷ bs) (suc b) here i op slot in_function there has =
      let rest = flat_map (λ (d : SelBlock). d.ops) bs in
      let front = calls_from count f n c.ops in
      let long : length front ≡ sum_by calls_at c.ops = calls_long count f n c.ops in
      let sum : calls_in_blocks (c ∷ take b bs) ≡ sum_by calls_at c.ops + calls_in_blocks (take b bs) = sum_by-cons (λ (d : SelBlock). sum_by calls_at d.ops) c (take b bs) in
      let before : ℕ = calls_in_blocks (take b bs) + sum_by calls_at (take i here.ops) in
      let place : calls_in_blocks (c ∷ take b bs) + sum_by calls_at (take i here.ops) ≡ length front + before = omega (arith, long, sum) in
      let number : n + length front + before ≡ n + (calls_in_blocks (c ∷ take b bs) + sum_by calls_at (take i here.ops)) = omega (arith, long, sum) in
      ap (slice_get (calls_from count f n (c.ops ++ rest))) place
      ∙ ap (λ l. slice_get l (length front + before)) (calls_append count f n c.ops rest)
      ∙ behind front (calls_from count f (n + length front) rest) before
      ∙ block_slot f (n + length front) bs b here i op slot in_function there has
      ∙ ap (λ k. Some (slot k)) number

  function_slot : (first : ℕ) (fs : List SelFun) (g : ℕ) (fn : SelFun) (b : ℕ) (here : SelBlock) (i : ℕ) (op : SelOp) (slot : ℕ → Slot0) → slice_get fs g ≡ Some fn → slice_get fn.blocks b ≡ Some here → slice_get here.ops i ≡ Some op →
      HasSlot count (first + g) op slot →
      let before : ℕ = calls_in_blocks (take b fn.blocks) + sum_by calls_at (take i here.ops) in
      slice_get (all_calls_from count first fs) (calls_in_functions (take g fs) + before) ≡ Some (slot before)
  function_slot first [] g fn b here i op slot in_program in_function there has = absurd cc
  function_slot first (h ∷ fs) zero fn b here i op slot in_program in_function there has =
      let same : h ≡ fn = cc in
      let n : first + 0 ≡ first = omega arith in
      let before : ℕ = calls_in_blocks (take b fn.blocks) + sum_by calls_at (take i here.ops) in
      let whole = all_calls_from count first (h ∷ fs) in
      let e : 0 + before ≡ before = omega arith in
      let at : slice_get whole before ≡ Some (slot before) =
      ap (λ (d : SelFun). slice_get (calls_from count first 0 (ops_of d) ++ all_calls_from count (suc first) fs) before) same
      ∙ in_front (calls_from count first 0 (ops_of fn)) (all_calls_from count (suc first) fs) before (slot before)
      (ap (λ k. slice_get (calls_from count k 0 (ops_of fn)) before) (sym n) ∙ block_slot (first + 0) 0 fn.blocks b here i op slot in_function there has ∙ ap (λ k. Some (slot k)) e) in
      ap (slice_get whole) e ∙ at
  function_slot first (h ∷ fs) (suc g) fn b here i op slot in_program in_function there has =
      let front = calls_from count first 0 (ops_of h) in
      let long : length front ≡ calls_in_blocks h.blocks = calls_long count first 0 (ops_of h) ∙ block_calls h.blocks in
      let sum : calls_in_functions (h ∷ take g fs) ≡ calls_in_blocks h.blocks + calls_in_functions (take g fs) = sum_by-cons (λ (d : SelFun). calls_in_blocks d.blocks) h (take g fs) in
      let before : ℕ = calls_in_blocks (take b fn.blocks) + sum_by calls_at (take i here.ops) in
      let place : calls_in_functions (h ∷ take g fs) + before ≡ length front + (calls_in_functions (take g fs) + before) = omega (arith, long, sum) in
      let number : first + suc g ≡ suc first + g = omega arith in
      ap (slice_get (front ++ all_calls_from count (suc first) fs)) place
      ∙ behind front (all_calls_from count (suc first) fs) (calls_in_functions (take g fs) + before)
      ∙ function_slot (suc first) fs g fn b here i op slot in_program in_function there (λ m. ap (λ k. call_slot count k m op) (sym number) ∙ has m)

-- the slot of a call of a program: behind the entry, the jumps, and the calls in front of it
pub slot_there : (sel : Sel) (g : ℕ) (fn : SelFun) (b : ℕ) (here : SelBlock) (i : ℕ) (op : SelOp) (slot : ℕ → Slot0) → slice_get sel.functions g ≡ Some fn → slice_get fn.blocks b ≡ Some here → slice_get here.ops i ≡ Some op →
    HasSlot (length sel.functions) g op slot →
    let before : ℕ = calls_in_blocks (take b fn.blocks) + sum_by calls_at (take i here.ops) in
    slice_get (slots_of sel) (suc (takens sel.taken) + (calls_in_functions (take g sel.functions) + before)) ≡ Some (slot before)
slot_there sel g fn b here i op slot in_program in_function there has =
    let count : ℕ = length sel.functions in
    let jumps = jumps_from 0 sel.taken in
    let calls = all_calls_from count 0 sel.functions in
    let routines = routine_slots count sel.main in
    let before : ℕ = calls_in_blocks (take b fn.blocks) + sum_by calls_at (take i here.ops) in
    let at : ℕ = calls_in_functions (take g sel.functions) + before in
    let long : length jumps ≡ takens sel.taken = jumps_long 0 sel.taken in
    let place : takens sel.taken + at ≡ length jumps + at = omega (arith, long) in
    let start : suc (takens sel.taken) + at ≡ suc (takens sel.taken + at) = omega arith in
    ap (slice_get (slots_of sel)) start
    ∙ ap (slice_get (jumps ++ (calls ++ routines))) place ∙ behind jumps (calls ++ routines) at
    ∙ in_front calls routines at (slot before) (function_slot count 0 sel.functions g fn b here i op slot in_program in_function there (λ m. ap (λ k. call_slot count k m op) (let e : 0 + g ≡ g = omega arith in e) ∙ has m))
