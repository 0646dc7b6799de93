-- The functions of a program one after another: each is within the limits, and so is the number of their calls.
use Rattle.std.proofs.Common.{◌≡◌, ℕ, zero, suc, ◌+◌, ◌-◌, ◌<◌, ◌≤◌, List, [], ◌∷◌, ◌++◌, length, map, min, take, get_or, refl, ap, sym, subst, ◌∙◌, arith, append_assoc}
use Rattle.std.specs.List.{All, sum_by}
use Rattle.std.proofs.lemmas.List.Elements.{All-cons, All-nil, All-head, All-tail}
use Rattle.std.proofs.lemmas.List.Sums.{sum_by-cons}
use Rattle.ir_core.specs.declared.limit.TheConstants.{MAX_CODE}
use Rattle.x86_core.specs.declared.reg.Reg.{Reg}
use Rattle.low_core.specs.declared.sel.Home.{Home}
use Rattle.low_core.specs.declared.sel.SelOp.{SelOp}
use Rattle.low_core.specs.declared.sel.SelOp.TheVariants.{Set, Copy, Alu, Div, Widen, Test, Pick, Load, Store, FrameAt, GlobalAt, FunctionAt, Call, CallAt, Outside}
use Rattle.low_core.specs.declared.sel.SelBlock.{SelBlock}
use Rattle.low_core.specs.declared.sel.SelFun.{SelFun}
use Rattle.low_core.specs.declared.sel.Sel.{Sel}
use Rattle.low_core.specs.SelShaped.{OpFits, IsFunShaped}
use Rattle.low_core.specs.SelWeights.{sel_block_weight, sel_function_weight}
use Rattle.obj_core.specs.declared.object.Func.{Func}
use Rattle.std.proofs.lemmas.List.{length-take}
use Rattle.obj_rows.specs.Assembled.{with_first_cuts}
use Rattle.slot_plan.specs.Slots.{takens}
use Rattle.frame_lower.specs.Blocks.{calls_in, calls_of_blocks}
use Rattle.frame_lower.specs.Functions.{Choices, functions_with, function_row, lowered, making_with, saved_function, slot_number, with_cuts}
use Rattle.frame_lower.specs.Given.{HasPlaces, HavePlaces, NamesPlace, IsSmall, calls_of_functions}
use Rattle.frame_lower.proofs.Sizes.{calls_few}

pub get_any : {X : Type 0} (xs : List X) (n : ℕ) (d e : X) → n < length xs → get_or xs n d ≡ get_or xs n e
get_any [] n d e below = absurd (omega arith)
get_any (x ∷ xs) zero d e below = refl
get_any (x ∷ xs) (suc n) d e below = get_any xs n d e (omega arith)

-- homes of each function
pub homes_long : (fs : List SelFun) (hss : List (List Home)) → HavePlaces fs hss → length hss ≡ length fs
homes_long [] [] have = refl
homes_long [] (hs ∷ hss) have = absurd have
homes_long (f ∷ fs) [] have = absurd have
homes_long (f ∷ fs) (hs ∷ hss) have = ap suc (homes_long fs hss have.1)

pub homes_at : (fs : List SelFun) (hss : List (List Home)) (n : ℕ) (f : SelFun) (hs : List Home) → HavePlaces fs hss → n < length fs → f ≡ get_or fs n f → hs ≡ get_or hss n hs → HasPlaces f hs
homes_at [] hss n f hs have below at homes = absurd (omega arith)
homes_at (g ∷ fs) [] n f hs have below at homes = absurd have
homes_at (g ∷ fs) (is ∷ hss) zero f hs have below at homes = subst (λ h. HasPlaces h hs) (sym at) (subst (HasPlaces g) (sym homes) have.0)
homes_at (g ∷ fs) (is ∷ hss) (suc n) f hs have below at homes = homes_at fs hss n f hs have.1 (omega arith) at homes

pub calls_more : (f : SelFun) (fs : List SelFun) → calls_of_functions (f ∷ fs) ≡ calls_of_blocks f.blocks + calls_of_functions fs
calls_more f fs = sum_by-cons (λ (g : SelFun). calls_of_blocks g.blocks) f fs

-- so many cuts fewer are left
left_fewer : (cuts : List ℕ) (left : ℕ) → left - length (take left cuts) ≡ left - length cuts
left_fewer cuts left = let t : length (take left cuts) ≡ min left (length cuts) = length-take left cuts in omega (arith, t)

-- one more function
pub functions_step : (globals functions : List ℕ) (reg_draw : ℕ) (names : List (List Reg)) (homes : List (List Home)) (n slot next left fewer : ℕ) (f : SelFun) (rest : List SelFun) (all : List Func) (new : Func) →
    let whole = saved_function (function_row (making_with globals functions reg_draw n (get_or names n []) (get_or homes n []) f) slot f) in
    new ≡ with_cuts left whole → next ≡ slot + calls_of_blocks f.blocks → fewer ≡ left - length (take left whole.cuts) →
    (all ++ new ∷ []) ++ with_first_cuts fewer (functions_with globals functions reg_draw names homes (n + 1) next rest) ≡ all ++ with_first_cuts left (functions_with globals functions reg_draw names homes n slot (f ∷ rest))
functions_step globals functions reg_draw names homes n slot next left fewer f rest all new is next_is fewer_is =
    let go = functions_with globals functions reg_draw names homes in
    let whole = saved_function (function_row (making_with globals functions reg_draw n (get_or names n []) (get_or homes n []) f) slot f) in
    append_assoc all (new ∷ []) (with_first_cuts fewer (go (n + 1) next rest))
    ∙ ap (λ x. all ++ x ∷ with_first_cuts fewer (go (n + 1) next rest)) is
    ∙ ap (λ k. all ++ with_cuts left whole ∷ with_first_cuts fewer (go k next rest)) (let e : n + 1 ≡ suc n = omega arith in e)
    ∙ ap (λ k. all ++ with_cuts left whole ∷ with_first_cuts fewer (go (suc n) k rest)) next_is
    ∙ ap (λ k. all ++ with_cuts left whole ∷ with_first_cuts k (go (suc n) (slot + calls_of_blocks f.blocks) rest)) (fewer_is ∙ left_fewer whole.cuts left)

-- a function of a program within the limits is within them
names_place : (sel : Sel) (f : SelFun) (op : SelOp) → OpFits sel f op → NamesPlace f op
names_place sel f (FrameAt r at) fits = fits
names_place sel f (Set r n) fits = tt
names_place sel f (Copy r s) fits = tt
names_place sel f (Alu o w r s t) fits = tt
names_place sel f (Div signed rest w r s t) fits = tt
names_place sel f (Widen signed from to r s) fits = tt
names_place sel f (Test p w r s t) fits = tt
names_place sel f (Pick r c s t) fits = tt
names_place sel f (Load w r s) fits = tt
names_place sel f (Store w s t) fits = tt
names_place sel f (GlobalAt r g) fits = tt
names_place sel f (FunctionAt r g) fits = tt
names_place sel f (Call g r args) fits = tt
names_place sel f (CallAt s r args) fits = tt
names_place sel f (Outside which r args) fits = tt

pub is_small : (sel : Sel) (f : SelFun) → IsFunShaped sel f → sel_function_weight f ≤ MAX_CODE → IsSmall f
is_small sel f shaped light = record {
  room = shaped.room;
  params = shaped.few;
  few = λ k b below i op inside. ((shaped.blocks k b below).ops i op inside).few;
  places = λ k b below i op inside. names_place sel f _ ((shaped.blocks k b below).ops i op inside).fits;
  light = light;
}

-- each weighs no more than all
pub all_small : (sel : Sel) (fs : List SelFun) → All (IsFunShaped sel) fs → sum_by sel_function_weight fs ≤ MAX_CODE → All (λ (f : SelFun). IsSmall f) fs
all_small sel [] each light = All-nil (λ (f : SelFun). IsSmall f)
all_small sel (f ∷ fs) each light =
    let sum = sum_by-cons sel_function_weight f fs in
    All-cons (λ (g : SelFun). IsSmall g) f fs
    (is_small sel f (All-head (IsFunShaped sel) f fs each) (omega arith))
    (all_small sel fs (All-tail (IsFunShaped sel) f fs each) (omega arith))

-- and there are fewer calls than bytes
pub functions_calls_few : (fs : List SelFun) → calls_of_functions fs ≤ sum_by sel_function_weight fs
functions_calls_few [] = omega arith
functions_calls_few (f ∷ fs) =
    let sum = sum_by-cons sel_function_weight f fs in
    let calls = calls_more f fs in
    let here = blocks_calls_few f.blocks in
    let more = functions_calls_few fs in
    omega arith
  where
    blocks_calls_few : (bs : List SelBlock) → calls_of_blocks bs ≤ sum_by sel_block_weight bs
    blocks_calls_few [] = omega arith
    blocks_calls_few (b ∷ bs) =
        let sum = sum_by-cons sel_block_weight b bs in
        let calls = sum_by-cons (λ (c : SelBlock). calls_in c.ops) b bs in
        let here = calls_few b.ops in
        let more = blocks_calls_few bs in
        omega arith

-- what the code is made by, taken from where it stands
pub lowered_is : (c : Choices) (sel : Sel) (globals functions : List ℕ) (names : List (List Reg)) (homes : List (List Home)) (first : ℕ) (fs : List SelFun) →
    globals ≡ c.placing.globals → functions ≡ map slot_number c.slots.pointers → names ≡ c.names → homes ≡ c.homes → first ≡ suc (takens sel.taken) → fs ≡ sel.functions →
    functions_with globals functions c.reg_seed names homes 0 first fs ≡ lowered c sel
unfolding lowered
lowered_is c sel globals functions names homes first fs a b d e f g =
    ap (λ x. functions_with x functions c.reg_seed names homes 0 first fs) a
    ∙ ap (λ x. functions_with c.placing.globals x c.reg_seed names homes 0 first fs) b
    ∙ ap (λ x. functions_with c.placing.globals (map slot_number c.slots.pointers) c.reg_seed x homes 0 first fs) d
    ∙ ap (λ x. functions_with c.placing.globals (map slot_number c.slots.pointers) c.reg_seed c.names x 0 first fs) e
    ∙ ap (λ x. functions_with c.placing.globals (map slot_number c.slots.pointers) c.reg_seed c.names c.homes 0 x fs) f
    ∙ ap (λ x. functions_with c.placing.globals (map slot_number c.slots.pointers) c.reg_seed c.names c.homes 0 (suc (takens sel.taken)) x) g
