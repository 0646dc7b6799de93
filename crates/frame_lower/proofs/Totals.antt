-- How many functions, cuts, slots and bytes an object has that is put together of a program's functions.
use Rattle.std.proofs.Common.{◌≡◌, ℕ, zero, suc, ◌+◌, ◌-◌, ◌≤◌, min, List, [], ◌∷◌, ◌++◌, length, map, sum, take, get_or, refl, ap, sym, ◌∙◌, arith}
use Rattle.std.specs.List.{All, sum_by}
use Rattle.std.proofs.lemmas.List.Elements.{All-head, All-tail}
use Rattle.std.proofs.lemmas.List.Sums.{sum-map, sum_by-cons}
use Rattle.x86_core.specs.declared.reg.Reg.{Reg}
use Rattle.low_core.specs.declared.sel.Home.{Home}
use Rattle.low_core.specs.declared.sel.SelFun.{SelFun}
use Rattle.low_core.specs.declared.sel.Sel.{Sel}
use Rattle.low_core.specs.SelShaped.{IsFunShaped}
use Rattle.low_core.specs.SelWeights.{sel_function_weight}
use Rattle.obj_core.specs.declared.object.Func.{Func}
use Rattle.obj_core.specs.declared.object.Slot.{Slot}
use Rattle.obj_core.specs.declared.plan.Slot0.{Slot0}
use Rattle.obj_core.specs.Object.{Each}
use Rattle.obj_core.specs.Slots.{push_purpose}
use Rattle.obj_rows.specs.Assembled.{with_first_cuts, AreSlotsOf}
use Rattle.obj_rows.specs.Sound.{IsSoundFunction}
use Rattle.obj_rows.proofs.Rows.{spelled_size}
use Rattle.frame_lower.specs.Blocks.{calls_of_blocks}
use Rattle.frame_lower.specs.Functions.{function_row, functions_with, making_with, saved_function}
use Rattle.frame_lower.proofs.Chosen.{five_long}
use Rattle.frame_lower.proofs.Sizes.{function_light}

-- as many slots as are planned
pub slots_long : (fs : List Func) (k : ℕ) (ps : List Slot0) (ts : List Slot) → AreSlotsOf fs k ps ts → length ts ≡ length ps
slots_long fs k [] [] are = refl
slots_long fs k [] (t ∷ ts) are = absurd are
slots_long fs k (p ∷ ps) [] are = absurd are
slots_long fs k (p ∷ ps) (t ∷ ts) are = ap suc (slots_long fs (suc k) ps ts are.1)

abbrev pub cuts_of : List Func → ℕ
cuts_of fs = sum (map (λ (f : Func). length f.cuts) fs)

abbrev pub bytes_of : List Func → ℕ
bytes_of fs = sum (map (λ (f : Func). length f.bytes) fs)

-- one more
more : {X : Type 0} (f : X → ℕ) (x : X) (xs : List X) → sum (map f (x ∷ xs)) ≡ f x + sum (map f xs)
more f x xs = sum-map f (x ∷ xs) ∙ sum_by-cons f x xs ∙ ap (λ n. f x + n) (sym (sum-map f xs))

cuts_more : (f : Func) (fs : List Func) → cuts_of (f ∷ fs) ≡ length f.cuts + cuts_of fs
cuts_more f fs = more (λ (g : Func). length g.cuts) f fs

bytes_more : (f : Func) (fs : List Func) → bytes_of (f ∷ fs) ≡ length f.bytes + bytes_of fs
bytes_more f fs = more (λ (g : Func). length g.bytes) f fs

-- both of two lists of functions
pub cuts_both : (fs gs : List Func) → cuts_of (fs ++ gs) ≡ cuts_of fs + cuts_of gs
cuts_both [] gs = omega arith
cuts_both (f ∷ fs) gs = let r = cuts_both fs gs in let a = cuts_more f (fs ++ gs) in let b = cuts_more f fs in omega (arith, r, a, b)

pub bytes_both : (fs gs : List Func) → bytes_of (fs ++ gs) ≡ bytes_of fs + bytes_of gs
bytes_both [] gs = omega arith
bytes_both (f ∷ fs) gs = let r = bytes_both fs gs in let a = bytes_more f (fs ++ gs) in let b = bytes_more f fs in omega (arith, r, a, b)

-- cuts are kept up to a number, and bytes are not changed
take_few : (xs : List ℕ) (count : ℕ) → length (take count xs) ≤ min count (length xs)
take_few xs zero = omega arith
take_few [] (suc count) = omega arith
take_few (x ∷ xs) (suc count) = let r = take_few xs count in omega (arith, r)

pub first_cuts_few : (count : ℕ) (fs : List Func) → cuts_of (with_first_cuts count fs) ≤ count
first_cuts_few count [] = omega arith
first_cuts_few count (f ∷ fs) =
    let r = first_cuts_few (count - length f.cuts) fs in
    let t = take_few f.cuts count in
    let a = cuts_more (record f { cuts = take count f.cuts }) (with_first_cuts (count - length f.cuts) fs) in
    omega (arith, r, t, a)

pub first_cuts_bytes : (count : ℕ) (fs : List Func) → bytes_of (with_first_cuts count fs) ≡ bytes_of fs
first_cuts_bytes count [] = refl
first_cuts_bytes count (f ∷ fs) =
    bytes_more (record f { cuts = take count f.cuts }) (with_first_cuts (count - length f.cuts) fs) ∙ ap (λ n. length f.bytes + n) (first_cuts_bytes (count - length f.cuts) fs) ∙ sym (bytes_more f fs)

pub first_cuts_long : (count : ℕ) (fs : List Func) → length (with_first_cuts count fs) ≡ length fs
first_cuts_long count [] = refl
first_cuts_long count (f ∷ fs) = ap suc (first_cuts_long (count - length f.cuts) fs)

-- functions that keep the rules by themselves aren't cut
pub sound_uncut : (slots : ℕ) (fs : List Func) → Each (IsSoundFunction slots) fs → cuts_of fs ≡ 0
sound_uncut slots [] h = refl
sound_uncut slots (f ∷ fs) h =
    let here : length f.cuts ≡ 0 = ap length h.0.uncut in
    let r = sound_uncut slots fs h.1 in
    let a = cuts_more f fs in
    omega (arith, here, r, a)

-- functions have no more bytes than they weigh
pub program_light : (sel : Sel) (globals functions : List ℕ) (reg_draw : ℕ) (names : List (List Reg)) (homes : List (List Home)) (number slot : ℕ) (fs : List SelFun) → All (IsFunShaped sel) fs →
    bytes_of (functions_with globals functions reg_draw names homes number slot fs) ≤ sum_by sel_function_weight fs
program_light sel globals functions reg_draw names homes number slot [] h = omega arith
program_light sel globals functions reg_draw names homes number slot (f ∷ fs) h =
    let by = making_with globals functions reg_draw number (get_or names number []) (get_or homes number []) f in
    let five = five_long reg_draw push_purpose number in
    let shaped = All-head (IsFunShaped sel) f fs h in
    let few = shaped.few in
    let size = spelled_size (function_row by slot f) in
    let light = function_light by (omega (arith, five)) slot f (omega (arith, few)) in
    let sum = sum_by-cons sel_function_weight f fs in
    let rest = functions_with globals functions reg_draw names homes (suc number) (slot + calls_of_blocks f.blocks) fs in
    let a = bytes_more (saved_function (function_row by slot f)) rest in
    let r = program_light sel globals functions reg_draw names homes (suc number) (slot + calls_of_blocks f.blocks) fs (All-tail (IsFunShaped sel) f fs h) in
    omega (arith, size, light, sum, r, a)
