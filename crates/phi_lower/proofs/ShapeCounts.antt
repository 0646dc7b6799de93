-- A function without its phis has the calls of the function, and its frame has room for what is put aside.
use Rattle.std.proofs.Common.{◌≡◌, ℕ, ◌+◌, ◌*◌, ◌≤◌, Bool, true, false, List, [], ◌∷◌, ◌++◌, map, length, drop, Option, Some, None, refl, ap, sym, ◌∙◌, subst, arith, length-append}
use Rattle.std.specs.Prelude.{◌||◌, max, if◌then◌else◌}
use Rattle.std.specs.List.{All, list_all, list_any, flat_map, sum_by}
use Rattle.std.proofs.lemmas.Bool.{and_parts}
use Rattle.std.proofs.lemmas.List.Sums.{sum_by-cons}
use Rattle.ir_core.specs.declared.limit.TheConstants.{MAX_PARAMETERS, MAX_FRAME}
use Rattle.ir_core.specs.declared.ty.NamedTy.{NamedTy}
use Rattle.ir_core.specs.declared.instruction.Inst.{Inst}
use Rattle.ir_core.specs.declared.instruction.Op.{Op}
use Rattle.ir_core.specs.declared.instruction.Op.TheVariants.{Phi}
use Rattle.ir_core.specs.declared.module.Block.{Block}
use Rattle.ir_core.specs.declared.module.Extern.{Extern}
use Rattle.ir_core.specs.declared.module.Function.{Function}
use Rattle.ir_core.specs.declared.module.Module.{Module}
use Rattle.ir_core.specs.Names.{same_name}
use Rattle.ir_core.specs.Counts.{greatest, argument_counts, call_counts, parameter_counts, result_count, phi_count, alloca_bytes, inst_frame, stack_arguments, frame_count}
use Rattle.ir_core.specs.Definitions.{result_names, is_among, repeated}
use Rattle.ir_core.specs.Refusals.{IsValid}
use Rattle.ir_core.proofs.NameSets.{same_name-sym}
use Rattle.ir_sound.specs.WellTyped.{Each}
use Rattle.ir_sound.proofs.NoFaults.{unrefused}
use Rattle.ir_sound.proofs.RowLaws.{Each_both, Each_parts, Each_rows, Each_more, found_any}
use Rattle.ir_sound.proofs.SameLaws.{not_true}
use Rattle.low_core.specs.declared.moves.Move.{Move}
use Rattle.low_core.specs.declared.moves.MoveOp.{MoveOp}
use Rattle.low_core.specs.declared.moves.MoveOp.TheVariants.{Keep, Copy}
use Rattle.low_core.specs.Plain.{op_of, inst_of}
use Rattle.low_core.specs.Weights.{assigned, allocas_room, room, low_own}
use Rattle.phi_lower.specs.Lowered.{aside, phis_of, phis_with, behind_phis, copies}
use Rattle.phi_lower.proofs.Turns.{lowered, without_phis}
use Rattle.phi_lower.proofs.Runs.{is_copy, copies_value, all_copies}
use Rattle.phi_lower.proofs.EdgeLaws.{chunk_insts}
use Rattle.phi_lower.proofs.CountLaws.{blocks_counted}
use Rattle.phi_lower.proofs.SumLaws.{Apart, or_zero, found, first_sums, added_apart, sum_times}
use Rattle.phi_lower.proofs.ShapeLimits.{all_of, limits_kept}
use Rattle.phi_lower.proofs.ShapeWalk.{lowered_have, each_among}
use Rattle.phi_lower.proofs.ShapeMentions.{rows_each}

-- arguments of calls
abbrev CountsAre : (ℕ → Type 0) → Inst → Type 0
CountsAre P i = Each P (argument_counts i.op)

pub calls_kept : (P : ℕ → Type 0) (f : Function) → Each P (call_counts f) → Each P (call_counts (lowered f))
calls_kept P f all =
    let row : Block → List ℕ = λ (b : Block). flat_map (λ (i : Inst). argument_counts i.op) b.insts in
    let insts = Each_more (λ (b : Block). Each P (row b)) (λ (b : Block). Each (CountsAre P) b.insts) f.blocks (λ b has. Each_rows P (λ (i : Inst). argument_counts i.op) b.insts has) (Each_rows P row f.blocks all) in
    let kept = lowered_have (CountsAre P) (CountsAre P) (λ i has. has) (λ into ty entries from e has at. tt) (λ into ty entries has. tt) f insts in
    rows_each P row (lowered f).blocks (Each_more (λ (b : Block). Each (CountsAre P) b.insts) (λ (b : Block). Each P (row b)) (lowered f).blocks (λ b has. rows_each P (λ (i : Inst). argument_counts i.op) b.insts has) kept)

functions_pass : (P : ℕ → Type 0) (fs : List Function) → Each P (flat_map (λ (f : Function). length f.params ∷ call_counts f) fs) → Each P (flat_map (λ (f : Function). length f.params ∷ call_counts f) (map lowered fs))
functions_pass P [] all = tt
functions_pass P (f ∷ fs) all =
    let row : Function → List ℕ = λ (g : Function). length g.params ∷ call_counts g in
    let p = Each_parts P (row f) (flat_map row fs) all in
    Each_both P (row (lowered f)) (flat_map row (map lowered fs)) (p.0.0, calls_kept P f p.0.1) (functions_pass P fs p.1)

pub shaped_passed : (m : Module) → IsValid m → All (λ n. n ≤ MAX_PARAMETERS) (parameter_counts (without_phis m))
shaped_passed m valid =
    let P : ℕ → Type 0 = λ n. n ≤ MAX_PARAMETERS in
    let outer = map (λ (e : Extern). length e.params) m.externs in
    let p = Each_parts P outer (flat_map (λ (f : Function). length f.params ∷ call_counts f) m.functions) (limits_kept m (unrefused m valid.accepted).limited).parameters in
    all_of P (parameter_counts (without_phis m)) (Each_both P outer (flat_map (λ (f : Function). length f.params ∷ call_counts f) (map lowered m.functions)) p.0 (functions_pass P m.functions p.1))

-- the greatest of counts
each_below : (most : ℕ) (ns : List ℕ) → greatest ns ≤ most → Each (λ n. n ≤ most) ns
each_below most [] le = tt
each_below most (n ∷ ns) le = (let a : n ≤ max n (greatest ns) = omega arith in omega arith, each_below most ns (let a : greatest ns ≤ max n (greatest ns) = omega arith in omega arith))

all_below : (most : ℕ) (ns : List ℕ) → Each (λ n. n ≤ most) ns → greatest ns ≤ most
all_below most [] each = omega arith
all_below most (n ∷ ns) each = let a = each.0 in let b = all_below most ns each.1 in omega arith

pub stack_kept : (f : Function) → stack_arguments (lowered f) ≤ stack_arguments f
stack_kept f =
    let most = greatest (call_counts f) in
    let a = all_below most (call_counts (lowered f)) (calls_kept (λ n. n ≤ most) f (each_below most (call_counts f) (omega arith))) in
    omega arith

-- allocas
abbrev allocas_in : List NamedTy → List Inst → ℕ
allocas_in types insts = sum_by (λ (i : Inst). alloca_bytes types i.op) insts

allocas_with : (types : List NamedTy) (i : Inst) (op : Op) (is : List Inst) → i.op ≡ op → allocas_in types (drop (length (phis_of is)) is) ≡ allocas_in types is → allocas_in types (drop (length (phis_with i.result op (phis_of is))) (i ∷ is)) ≡ allocas_in types (i ∷ is)
allocas_with types i (Phi ty entries) is e go =
    let none : alloca_bytes types i.op ≡ 0 = ap (alloca_bytes types) e in
    let front = sum_by-cons (λ (j : Inst). alloca_bytes types j.op) i is in
    go ∙ (let z : allocas_in types is ≡ alloca_bytes types i.op + allocas_in types is = omega arith in z) ∙ sym front
allocas_with types i op is e go = refl

allocas_behind : (types : List NamedTy) (is : List Inst) → allocas_in types (behind_phis is) ≡ allocas_in types is
allocas_behind types [] = refl
allocas_behind types (i ∷ is) = allocas_with types i i.op is refl (allocas_behind types is)

copy_allocas : (types : List NamedTy) (ms : List Move) → list_all is_copy ms ≡ true → allocas_in types (map inst_of ms) ≡ 0
copy_allocas types [] copy = refl
copy_allocas types (x ∷ xs) copy =
    let p = and_parts (is_copy x) (list_all is_copy xs) copy in
    let front = sum_by-cons (λ (i : Inst). alloca_bytes types i.op) (inst_of x) (map inst_of xs) in
    let none = by_op x.op p.0 in
    let rest = copy_allocas types xs p.1 in
    front ∙ (let z : alloca_bytes types (op_of x.op) + allocas_in types (map inst_of xs) ≡ 0 = omega arith in z)
  where
    by_op : (op : MoveOp) → copies_value op ≡ true → alloca_bytes types (op_of op) ≡ 0
    by_op (Keep op) c = not_true c
    by_op (Copy ty a) c = refl

pub allocas_kept : (types : List NamedTy) (f : Function) → allocas_room types (lowered f) ≡ allocas_room types f
allocas_kept types f =
    blocks_counted (λ (b : Block). allocas_in types b.insts) (λ blocks b. ap (allocas_in types) (chunk_insts blocks b) ∙ allocas_behind types b.insts) (λ from to ps. copy_allocas types (copies from ps) (all_copies from ps)) f.blocks f.blocks

-- what an instruction assigns, and what is put aside for it
abbrev pub aside_names : Option (List ℕ) → Op → List (List ℕ)
aside_names (Some into) (Phi ty entries) = aside into ∷ []
aside_names into op = []

abbrev pub both_names : Inst → List (List ℕ)
both_names i = result_names i.result ++ aside_names i.result i.op

-- all of a function
abbrev pub cover : Function → List (List ℕ)
cover f = flat_map (λ (b : Block). flat_map both_names b.insts) f.blocks

-- cover what is assigned without phis
abbrev Covered : Function → List ℕ → Type 0
Covered f n = is_among (cover f) n ≡ true

assigned_covered : (f : Function) → Each (Covered f) (assigned (lowered f))
assigned_covered f =
    let F : Inst → Type 0 = λ (i : Inst). Each (Covered f) (both_names i) in
    let P : Inst → Type 0 = λ (i : Inst). Each (Covered f) (result_names i.result) in
    let row : Block → List (List ℕ) = λ (b : Block). flat_map both_names b.insts in
    let insts = Each_more (λ (b : Block). Each (Covered f) (row b)) (λ (b : Block). Each F b.insts) f.blocks (λ b has. Each_rows (Covered f) both_names b.insts has) (Each_rows (Covered f) row f.blocks (each_among (cover f) (cover f) (λ t e. e))) in
    let kept = lowered_have F P (λ i has. (Each_parts (Covered f) (result_names i.result) (aside_names i.result i.op) has).0) (λ into ty entries from e has at. has.1) (λ into ty entries has. (has.0, tt)) f insts in
    rows_each (Covered f) (λ (b : Block). flat_map (λ (i : Inst). result_names i.result) b.insts) (lowered f).blocks
    (Each_more (λ (b : Block). Each P b.insts) (λ (b : Block). Each (Covered f) (flat_map (λ (i : Inst). result_names i.result) b.insts)) (lowered f).blocks (λ b has. rows_each (Covered f) (λ (i : Inst). result_names i.result) b.insts has) kept)

-- names that stand once among others are no more than those
any_back : (names : List (List ℕ)) (t : List ℕ) → list_any (λ to. same_name to t) names ≡ is_among names t
any_back [] t = refl
any_back (n ∷ ns) t = ap (λ b. b || list_any (λ to. same_name to t) ns) (same_name-sym n t) ∙ ap (λ b. same_name t n || b) (any_back ns t)

abbrev found_once : List (List ℕ) → List ℕ → ℕ
found_once names t = found (λ (n : List ℕ). n) (λ (n : List ℕ). 1) names t

one_found : (names : List (List ℕ)) (t : List ℕ) → is_among names t ≡ true → found_once names t ≡ 1
one_found names t e = let g = found_any (λ (n : List ℕ). same_name n t) names (any_back names t ∙ e) in ap (or_zero (λ (n : List ℕ). 1)) g.first

all_found : (names before : List (List ℕ)) → Each (λ n. is_among names n ≡ true) before → length before ≤ sum_by (found_once names) before
all_found names [] each = omega arith
all_found names (n ∷ ns) each =
    let a = sum_by-cons (found_once names) n ns in
    let b = one_found names n each.0 in
    let c = all_found names ns each.1 in
    omega arith

fits_in : (names before : List (List ℕ)) → Apart before → Each (λ n. is_among names n ≡ true) before → length before ≤ length names
fits_in names before apart each =
    let a = all_found names before each in
    let b = first_sums (λ (n : List ℕ). n) (λ (n : List ℕ). 1) names before apart in
    let c = sum_times {X = List ℕ} 1 names in
    omega arith

-- so are names, each counted once
counted_in : (names before ns : List (List ℕ)) → Apart before → Each (λ n. is_among names n ≡ true) before → Each (λ n. is_among names n ≡ true) ns → length before + length ns ≤ length names + length (repeated before ns)
counted_in names before [] apart own each = let a = fits_in names before apart own in omega arith
counted_in names before (n ∷ ns) apart own each = by_test (is_among before n) refl (λ more one all. counted_in names more ns one all each.1)
  where
    by_test : (b : Bool) → is_among before n ≡ b → ((more : List (List ℕ)) → Apart more → Each (λ k. is_among names k ≡ true) more → length more + length ns ≤ length names + length (repeated more ns)) → length before + length (n ∷ ns) ≤ length names + length (if b then n ∷ repeated before ns else repeated (before ++ n ∷ []) ns)
    by_test true e go = let a = go before apart own in omega arith
    by_test false e go =
        let one : Apart (before ++ n ∷ []) = subst (λ b. Apart (if b then before else before ++ n ∷ [])) e (added_apart (n ∷ []) before apart) in
        let a = go (before ++ n ∷ []) one (Each_both (λ k. is_among names k ≡ true) before (n ∷ []) own (each.0, tt)) in
        let l = length-append before (n ∷ []) in
        omega arith

-- frames
rows_length : {X : Type 0} (row : X → List (List ℕ)) (xs : List X) → length (flat_map row xs) ≡ sum_by (λ x. length (row x)) xs
rows_length row [] = refl
rows_length row (x ∷ xs) = length-append (row x) (flat_map row xs) ∙ ap (λ n. length (row x) + n) (rows_length row xs) ∙ sym (sum_by-cons (λ y. length (row y)) x xs)

inst_room : (types : List NamedTy) (i : Inst) → 16 * length (both_names i) + alloca_bytes types i.op ≤ inst_frame types i
inst_room types i =
    let a = length-append (result_names i.result) (aside_names i.result i.op) in
    let b = results i.result in
    let c = asides i.result i.op in
    omega arith
  where
    results : (o : Option (List ℕ)) → length (result_names o) ≤ result_count o
    results (Some name) = omega arith
    results None = omega arith

    asides : (o : Option (List ℕ)) (op : Op) → length (aside_names o op) ≤ phi_count op
    asides (Some into) (Phi ty entries) = omega arith
    asides None (Phi ty entries) = omega arith
    asides o op = omega arith

insts_room : (types : List NamedTy) (is : List Inst) → 16 * length (flat_map both_names is) + allocas_in types is ≤ sum_by (inst_frame types) is
insts_room types [] = omega arith
insts_room types (i ∷ is) =
    let a = length-append (both_names i) (flat_map both_names is) in
    let b = sum_by-cons (λ (j : Inst). alloca_bytes types j.op) i is in
    let c = sum_by-cons (inst_frame types) i is in
    let d = inst_room types i in
    let e = insts_room types is in
    omega arith

blocks_room : (types : List NamedTy) (bs : List Block) → 16 * length (flat_map (λ (b : Block). flat_map both_names b.insts) bs) + sum_by (λ (b : Block). allocas_in types b.insts) bs ≤ sum_by (λ (b : Block). sum_by (inst_frame types) b.insts) bs
blocks_room types [] = omega arith
blocks_room types (b ∷ bs) =
    let a = length-append (flat_map both_names b.insts) (flat_map (λ (c : Block). flat_map both_names c.insts) bs) in
    let d = sum_by-cons (λ (c : Block). allocas_in types c.insts) b bs in
    let e = sum_by-cons (λ (c : Block). sum_by (inst_frame types) c.insts) b bs in
    let g = insts_room types b.insts in
    let h = blocks_room types bs in
    omega arith

pub shaped_room : (m : Module) (f : Function) → frame_count m.types f ≤ MAX_FRAME → room low_own (without_phis m).types (lowered f) ≤ MAX_FRAME
shaped_room m f frame =
    let a = stack_kept f in
    let b = allocas_kept m.types f in
    let c = counted_in (cover f) [] (assigned (lowered f)) tt tt (assigned_covered f) in
    let d = blocks_room m.types f.blocks in
    let most : MAX_FRAME ≡ 65536 = refl in
    omega arith
