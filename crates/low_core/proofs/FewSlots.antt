-- A program that weighs no more than code may has fewer than 2^20 slots, since a function and each call weigh 64 at least.
use Rattle.std.proofs.Common.{ℕ, ◌+◌, ◌*◌, ◌<◌, ◌≤◌, List, [], ◌∷◌, length, arith}
use Rattle.std.specs.List.{sum_by}
use Rattle.std.proofs.lemmas.List.Sums.{sum_by-cons}
use Rattle.low_core.specs.declared.sel.Which.TheVariants as outer
use Rattle.low_core.specs.declared.sel.SelOp.{SelOp}
use Rattle.low_core.specs.declared.sel.SelOp.TheVariants.{Call, CallAt, Outside}
use Rattle.low_core.specs.declared.sel.SelBlock.{SelBlock}
use Rattle.low_core.specs.declared.sel.SelFun.{SelFun}
use Rattle.low_core.specs.declared.sel.Sel.{Sel}
use Rattle.low_core.specs.SelWeights.{sel_op_weight, sel_block_weight, sel_function_weight, calls_at, most_slots_of}
use Rattle.low_core.specs.SelShaped.{IsSel}

op_weighs : (op : SelOp) → 64 * calls_at op ≤ sel_op_weight op
op_weighs (Call f r args) = omega arith
op_weighs (CallAt s r args) = omega arith
op_weighs (Outside outer.Trap r args) = omega arith
op_weighs (Outside which r args) = omega arith
op_weighs other = omega arith

-- sums of what is so for each
sums : {A : Type 0} (f g : A → ℕ) → ((x : A) → 64 * f x ≤ g x) → (xs : List A) → 64 * sum_by f xs ≤ sum_by g xs
sums f g each [] = omega arith
sums f g each (x ∷ xs) =
    let here : 64 * f x ≤ g x = each x in
    let f_is = sum_by-cons f x xs in
    let g_is = sum_by-cons g x xs in
    let more : 64 * sum_by f xs ≤ sum_by g xs = sums f g each xs in
    omega arith

block_weighs : (b : SelBlock) → 64 * sum_by calls_at b.ops ≤ sel_block_weight b
block_weighs b = let ops = sums calls_at sel_op_weight op_weighs b.ops in omega arith

function_weighs : (f : SelFun) → 64 * (1 + sum_by (λ (b : SelBlock). sum_by calls_at b.ops) f.blocks) ≤ sel_function_weight f
function_weighs f = let blocks = sums (λ (b : SelBlock). sum_by calls_at b.ops) sel_block_weight block_weighs f.blocks in omega arith

functions_weigh : (fs : List SelFun) → 64 * (length fs + sum_by (λ (f : SelFun). sum_by (λ (b : SelBlock). sum_by calls_at b.ops) f.blocks) fs) ≤ sum_by sel_function_weight fs
functions_weigh [] = omega arith
functions_weigh (f ∷ fs) =
    let here = function_weighs f in
    let calls_is = sum_by-cons (λ (g : SelFun). sum_by (λ (b : SelBlock). sum_by calls_at b.ops) g.blocks) f fs in
    let weights_is = sum_by-cons sel_function_weight f fs in
    let more = functions_weigh fs in
    omega arith

pub few_slots : (sel : Sel) → IsSel sel → most_slots_of sel < 1048576
few_slots sel shaped =
    let all = functions_weigh sel.functions in
    let limit = shaped.weighs in
    omega arith
