-- How many slots a program has, and that their positions are small.
use Rattle.std.proofs.Common.{◌≡◌, ℕ, suc, ◌+◌, ◌<◌, ◌≤◌, ◌^◌, Bool, true, false, List, [], ◌∷◌, ◌++◌, length, refl, ap, sym, ◌∙◌, subst, arith}
use Rattle.std.specs.Prelude.{All}
use Rattle.std.specs.List.{flat_map, sum_by}
use Rattle.std.proofs.lemmas.List.{length-append}
use Rattle.std.proofs.lemmas.List.Sums.{sum_by-cons}
use Rattle.rd_draw.specs.Draw.{shuffled}
use Rattle.rd_draw.proofs.Permuted.{shuffled_long, shuffled_below}
use Rattle.low_core.specs.declared.sel.Which.TheVariants as outer
use Rattle.low_core.specs.declared.sel.SelAlu.{SelAlu}
use Rattle.low_core.specs.declared.sel.SelAlu.TheVariants.{Add, Sub, Mul, And, Or, Xor, Shl, Shr, Sar}
use Rattle.low_core.specs.declared.sel.SelOp.{SelOp}
use Rattle.low_core.specs.declared.sel.SelOp.TheVariants.{Set, Copy, Alu, Div, Widen, Test, Pick, Load, Store, FrameAt, GlobalAt, FunctionAt, Call, CallAt, Outside}
use Rattle.low_core.specs.declared.sel.SelBlock.{SelBlock}
use Rattle.low_core.specs.declared.sel.SelFun.{SelFun}
use Rattle.low_core.specs.declared.sel.Sel.{Sel}
use Rattle.low_core.specs.SelParts.{ops_of}
use Rattle.low_core.specs.SelWeights.{alu_weight, sel_op_weight, sel_block_weight, sel_function_weight, calls_at, calls_of}
use Rattle.low_core.specs.SelShaped.{IsSel}
use Rattle.low_core.proofs.FewSlots.{few_slots}
use Rattle.obj_core.specs.declared.plan.Slot0.{Slot0}
use Rattle.slot_plan.specs.Slots.{jumps_from, call_slot, calls_from, all_calls_from, routine_slots, slots_of, operations, takens}

-- an operation has a slot where it is a call
one_call : (count f n : ℕ) (op : SelOp) → length (call_slot count f n op) ≡ calls_at op
one_call count f n (Call g r args) = refl
one_call count f n (CallAt s r args) = refl
one_call count f n (Outside outer.Trap r args) = refl
one_call count f n (Outside which r args) = refl
one_call count f n other = refl

pub calls_long : (count f n : ℕ) (ops : List SelOp) → length (calls_from count f n ops) ≡ sum_by calls_at ops
calls_long count f n [] = refl
calls_long count f n (op ∷ ops) =
    let here = one_call count f n op in
    let m : ℕ = n + length (call_slot count f n op) in
    let rest = calls_long count f m ops in
    let long = length-append (call_slot count f n op) (calls_from count f m ops) in
    let sum = sum_by-cons calls_at op ops in
    omega arith

-- sums over the operations of blocks put end to end
pub block_calls : (bs : List SelBlock) → sum_by calls_at (flat_map (λ (b : SelBlock). b.ops) bs) ≡ sum_by (λ (b : SelBlock). sum_by calls_at b.ops) bs
block_calls [] = refl
block_calls (b ∷ bs) = sums_append b.ops (flat_map (λ (c : SelBlock). c.ops) bs) ∙ ap (λ n. sum_by calls_at b.ops + n) (block_calls bs) ∙ sym (sum_by-cons (λ (c : SelBlock). sum_by calls_at c.ops) b bs)
  where
    sums_append : (xs ys : List SelOp) → sum_by calls_at (xs ++ ys) ≡ sum_by calls_at xs + sum_by calls_at ys
    sums_append [] ys = omega arith
    sums_append (x ∷ xs) ys =
        let whole = sum_by-cons calls_at x (xs ++ ys) in
        let part = sum_by-cons calls_at x xs in
        let more = sums_append xs ys in
        omega arith

pub all_calls_long : (count f : ℕ) (fs : List SelFun) → length (all_calls_from count f fs) ≡ sum_by (λ (g : SelFun). sum_by (λ (b : SelBlock). sum_by calls_at b.ops) g.blocks) fs
all_calls_long count f [] = refl
all_calls_long count f (g ∷ fs) =
    let here : length (calls_from count f 0 (ops_of g)) ≡ sum_by (λ (b : SelBlock). sum_by calls_at b.ops) g.blocks = calls_long count f 0 (ops_of g) ∙ block_calls g.blocks in
    let rest = all_calls_long count (suc f) fs in
    let long = length-append (calls_from count f 0 (ops_of g)) (all_calls_from count (suc f) fs) in
    let sum = sum_by-cons (λ (h : SelFun). sum_by (λ (b : SelBlock). sum_by calls_at b.ops) h.blocks) g fs in
    omega arith

pub jumps_long : (f : ℕ) (ts : List Bool) → length (jumps_from f ts) ≡ takens ts
jumps_long f [] = refl
jumps_long f (true ∷ ts) = ap suc (jumps_long (suc f) ts)
jumps_long f (false ∷ ts) = jumps_long (suc f) ts

pub takens_few : (ts : List Bool) → takens ts ≤ length ts
takens_few [] = omega arith
takens_few (true ∷ ts) = let rest = takens_few ts in omega arith
takens_few (false ∷ ts) = let rest = takens_few ts in omega arith

pub slots_long : (sel : Sel) → length (slots_of sel) ≡ 6 + takens sel.taken + calls_of sel
slots_long sel =
    let count : ℕ = length sel.functions in
    let jumps = jumps_from 0 sel.taken in
    let calls = all_calls_from count 0 sel.functions in
    let routines = routine_slots count sel.main in
    let jumps_are = jumps_long 0 sel.taken in
    let calls_are = all_calls_long count 0 sel.functions in
    let long = length-append jumps (calls ++ routines) in
    let behind = length-append calls routines in
    omega arith

-- an operation weighs something
op_weighs : (op : SelOp) → 1 ≤ sel_op_weight op
op_weighs (Alu op w r s t) = alu_weighs op
  where
    alu_weighs : (op : SelAlu) → 1 ≤ alu_weight op
    alu_weighs Add = omega arith
    alu_weighs Sub = omega arith
    alu_weighs Mul = omega arith
    alu_weighs And = omega arith
    alu_weighs Or = omega arith
    alu_weighs Xor = omega arith
    alu_weighs Shl = omega arith
    alu_weighs Shr = omega arith
    alu_weighs Sar = omega arith
op_weighs (Call f r args) = omega arith
op_weighs (CallAt s r args) = omega arith
op_weighs (Outside which r args) = omega arith
op_weighs (Set r n) = omega arith
op_weighs (Copy r s) = omega arith
op_weighs (Div signed rest w r s t) = omega arith
op_weighs (Widen signed from to r s) = omega arith
op_weighs (Test pred w r s t) = omega arith
op_weighs (Pick r c s t) = omega arith
op_weighs (Load w r s) = omega arith
op_weighs (Store w s t) = omega arith
op_weighs (FrameAt r at) = omega arith
op_weighs (GlobalAt r g) = omega arith
op_weighs (FunctionAt r f) = omega arith

ops_weigh : (ops : List SelOp) → length ops ≤ sum_by sel_op_weight ops
ops_weigh [] = omega arith
ops_weigh (op ∷ ops) =
    let here = op_weighs op in
    let sum = sum_by-cons sel_op_weight op ops in
    let rest = ops_weigh ops in
    omega arith

blocks_weigh : (bs : List SelBlock) → length (flat_map (λ (b : SelBlock). b.ops) bs) ≤ sum_by sel_block_weight bs
blocks_weigh [] = omega arith
blocks_weigh (b ∷ bs) =
    let here = ops_weigh b.ops in
    let long = length-append b.ops (flat_map (λ (c : SelBlock). c.ops) bs) in
    let sum = sum_by-cons sel_block_weight b bs in
    let rest = blocks_weigh bs in
    omega arith

functions_weigh : (fs : List SelFun) → operations fs ≤ sum_by sel_function_weight fs
functions_weigh [] = omega arith
functions_weigh (f ∷ fs) =
    let here : length (ops_of f) ≤ sum_by sel_block_weight f.blocks = blocks_weigh f.blocks in
    let sum = sum_by-cons sel_function_weight f fs in
    let rest = functions_weigh fs in
    omega arith

-- what a program of registers keeps small
pub record AreFew (sel : Sel) : Type 0 where
  pub functions : length sel.functions < 5000
  pub taken : length sel.taken < 5000
  pub operations : operations sel.functions < 2 ^ 27
  pub slots : length (slots_of sel) < 2 ^ 20
  pub pointers : takens sel.taken < length (slots_of sel)

pub bounds : (sel : Sel) → IsSel sel → AreFew sel
bounds sel shaped =
    let few = shaped.few in
    let told = shaped.told in
    let weighs = shaped.weighs in
    let all = functions_weigh sel.functions in
    let long = slots_long sel in
    let slots = few_slots sel shaped in
    let jumps = takens_few sel.taken in
    record { functions = omega arith; taken = omega arith; operations = omega arith; slots = omega arith; pointers = omega arith }

-- positions are below the number of slots
weaker : (n : ℕ) → n < 2 ^ 20 → (ps : List ℕ) → All (λ p. p < n) ps → All (λ p. p < 2 ^ 20) ps
weaker n small ps all k d h = let here = all k d h in omega (arith, here)

pub drawn : (words : ℕ → ℕ) (n : ℕ) → n < 2 ^ 20 → (length (shuffled words n) ≡ n) × All (λ p. p < 2 ^ 20) (shuffled words n)
drawn words n small = (shuffled_long words n, weaker n small (shuffled words n) (shuffled_below words n))

-- the same of the slots as a list, and of what is drawn for them
pub few_here : (sel : Sel) → IsSel sel → (l : List Slot0) → l ≡ slots_of sel → length l < 2 ^ 20
few_here sel shaped l is = let long : length l ≡ length (slots_of sel) = ap length is in let few = bounds sel shaped in let slots = few.slots in omega arith

pub enough_here : (sel : Sel) → IsSel sel → (l : List Slot0) → l ≡ slots_of sel → (words : ℕ → ℕ) (ps qs : List ℕ) → ps ≡ shuffled words (length l) → qs ≡ ps → (ts : List Bool) → ts ≡ sel.taken → takens ts < length qs
enough_here sel shaped l is words ps qs drawn_is seen ts told =
    let long : length l ≡ length (slots_of sel) = ap length is in
    let few = bounds sel shaped in
    let pointers = few.pointers in
    let same : length qs ≡ length l = ap length seen ∙ ap length drawn_is ∙ shuffled_long words (length l) in
    let count : takens ts ≡ takens sel.taken = ap takens told in
    omega arith

pub small_here : (sel : Sel) → IsSel sel → (l : List Slot0) → l ≡ slots_of sel → (words : ℕ → ℕ) (ps qs : List ℕ) → ps ≡ shuffled words (length l) → qs ≡ ps → All (λ p. p < 2 ^ 20) qs
small_here sel shaped l is words ps qs drawn_is seen =
    subst (λ (rs : List ℕ). All (λ p. p < 2 ^ 20) rs) (sym (seen ∙ drawn_is)) ((drawn words (length l) (few_here sel shaped l is)).1)

pub before_calls : (sel : Sel) → IsSel sel → (none first l : List Slot0) (s : Slot0) → none ≡ [] → first ≡ none ++ s ∷ [] → l ≡ first ++ jumps_from 0 sel.taken → (fs : List SelFun) → fs ≡ sel.functions → length l + operations fs < 2 ^ 32
before_calls sel shaped none first l s nothing put_first is fs those =
    let same : operations fs ≡ operations sel.functions = ap operations those in
    let one : length first ≡ 1 = ap length put_first ∙ ap (λ (n : List Slot0). length (n ++ s ∷ [])) nothing in
    let few = bounds sel shaped in
    let some = takens_few sel.taken in
    let jumps = jumps_long 0 sel.taken in
    let put = length-append first (jumps_from 0 sel.taken) in
    let long : length l ≡ length (first ++ jumps_from 0 sel.taken) = ap length is in
    let taken = few.taken in
    let ops = few.operations in
    omega arith
