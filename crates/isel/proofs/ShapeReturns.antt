-- What is selected has no more returns than the module.
use Rattle.std.proofs.Common.{ℕ, ◌+◌, ◌≤◌, List, [], ◌∷◌, map, arith}
use Rattle.std.specs.List.{sum_by}
use Rattle.std.proofs.lemmas.List.Sums.{sum_by-cons}
use Rattle.ir_core.specs.declared.instruction.Term.{Term}
use Rattle.ir_core.specs.declared.instruction.Term.TheVariants.{Ret, RetValue, Br, BrIf, Switch, Unreachable}
use Rattle.ir_core.specs.declared.module.Block.{Block}
use Rattle.ir_core.specs.declared.module.Function.{Function}
use Rattle.ir_core.specs.declared.module.Module.{Module}
use Rattle.ir_core.specs.Definitions.{label_names}
use Rattle.ir_core.specs.Valid.{LocalKind}
use Rattle.ir_sound.specs.WellTyped.{Each}
use Rattle.low_core.specs.declared.sel.SelBlock.{SelBlock}
use Rattle.low_core.specs.declared.sel.SelFun.{SelFun}
use Rattle.low_core.specs.SelWeights.{is_return, sel_returns_of}
use Rattle.low_core.specs.Shaped.{returns_at, returns_of}
use Rattle.isel_rows.specs.Variables.{variables_of}
use Rattle.isel_rows.specs.Rows.{closing_of}
use Rattle.isel_rows.specs.Functions.{allocas_in, block_selected, blocks_selected, function_selected}
use Rattle.isel_rows.specs.Selected.{module_selected}
use Rattle.isel.proofs.ShapeKnown.{each_there}

-- returns
end_returns : (m : Module) (variables : List LocalKind) (labels : List (List ℕ)) (end : Term) → is_return (closing_of m variables labels end).end ≤ returns_at end
end_returns m variables labels Ret = omega arith
end_returns m variables labels (RetValue ty a) = omega arith
end_returns m variables labels (Br to) = omega arith
end_returns m variables labels (BrIf condition taken other) = omega arith
end_returns m variables labels (Switch ty a default cases) = omega arith
end_returns m variables labels Unreachable = omega arith

blocks_return : (m : Module) (variables : List LocalKind) (labels : List (List ℕ)) (at : ℕ) (bs : List Block)
    → sum_by (λ (b : SelBlock). is_return b.end) (blocks_selected m variables labels at bs) ≤ sum_by (λ (b : Block). returns_at b.end) bs
blocks_return m variables labels at [] = omega arith
blocks_return m variables labels at (b ∷ bs) =
    let next : ℕ = at + allocas_in m.types b.insts in
    let first = end_returns m variables labels b.end in
    let others = blocks_return m variables labels next bs in
    let s = sum_by-cons (λ (x : SelBlock). is_return x.end) (block_selected m variables labels at b) (blocks_selected m variables labels next bs) in
    let t = sum_by-cons (λ (x : Block). returns_at x.end) b bs in
    omega (arith, first, others, s, t)

-- sums over functions
pub sums_below : {A B : Type 0} (made : A → B) (F : B → ℕ) (G : A → ℕ) (xs : List A) → Each (λ x. F (made x) ≤ G x) xs → sum_by F (map made xs) ≤ sum_by G xs
sums_below made F G [] all = omega arith
sums_below made F G (x ∷ xs) all =
    let first = all.0 in
    let others = sums_below made F G xs all.1 in
    let s = sum_by-cons F (made x) (map made xs) in
    let t = sum_by-cons G x xs in
    omega (arith, first, others, s, t)

-- a whole program
pub module_returns : (m : Module) → sel_returns_of (module_selected m) ≤ returns_of m
module_returns m =
    let F : SelFun → ℕ = λ f. sum_by (λ (b : SelBlock). is_return b.end) f.blocks in
    let G : Function → ℕ = λ f. sum_by (λ (b : Block). returns_at b.end) f.blocks in
    sums_below (function_selected m) F G m.functions (each_there (λ f. F (function_selected m f) ≤ G f) m.functions (λ k f at. blocks_return m (variables_of f) (label_names f) 0 f.blocks))
