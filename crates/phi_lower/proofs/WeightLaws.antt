-- A module without phis weighs no more than the code that was counted for the module.
use Rattle.std.proofs.Common.{◌≡◌, ℕ, suc, ◌+◌, ◌*◌, ◌≤◌, List, [], ◌∷◌, ◌++◌, map, length, drop, Option, Some, None, refl, ap, sym, ◌∙◌, subst, arith}
use Rattle.std.specs.Prelude.{slice_get}
use Rattle.std.specs.List.{flat_map, sum_by}
use Rattle.std.proofs.lemmas.List.{map-append}
use Rattle.std.proofs.lemmas.List.Sums.{sum_by-cons, sum_by-append}
use Rattle.ir_core.specs.declared.ty.Ty.{Ty}
use Rattle.ir_core.specs.declared.operand.Operand.{Operand}
use Rattle.ir_core.specs.declared.operand.Operand.TheVariants.{Local as LocalName, Const}
use Rattle.ir_core.specs.declared.instruction.Arg.{Arg}
use Rattle.ir_core.specs.declared.instruction.Case.{Case}
use Rattle.ir_core.specs.declared.instruction.Entry.{Entry}
use Rattle.ir_core.specs.declared.instruction.Inst.{Inst}
use Rattle.ir_core.specs.declared.instruction.Op.{Op}
use Rattle.ir_core.specs.declared.instruction.Op.TheVariants.{Bin, Compare, Cast, Select, Freeze, Alloca, Load, Store, Gep, Phi, Call}
use Rattle.ir_core.specs.declared.instruction.Term.{Term}
use Rattle.ir_core.specs.declared.instruction.Term.TheVariants.{Ret, RetValue, Br, BrIf, Switch, Unreachable}
use Rattle.ir_core.specs.declared.module.Block.{Block}
use Rattle.ir_core.specs.declared.module.Function.{Function}
use Rattle.ir_core.specs.Names.{same_name, first_where}
use Rattle.ir_core.specs.Typing.{labels_of}
use Rattle.ir_core.specs.Counts.{operand_code, args_code, entries_code, cases_code, op_code, end_code, block_code, function_code}
use Rattle.low_core.specs.declared.moves.Move.{Move}
use Rattle.low_core.specs.Plain.{inst_of, block_of}
use Rattle.low_core.specs.Weights.{operand_weight, args_weight, indices_weight, op_weight, cases_weight, end_weight, block_weight, function_weight}
use Rattle.phi_lower.specs.Lowered.{PhiPart, phis_of, phis_with, phis_in, phis_to, block_of_label, behind_phis, put_of, put_aside, take_of, taken_up, last_first, copies, case_to, with_ways, first_on_way, chunk_of_block, chunk_to, chunks_to, chunks_of_block, targets_of}
use Rattle.phi_lower.proofs.Turns.{lowered}
use Rattle.phi_lower.proofs.Finds.{edge_chunk}
use Rattle.phi_lower.proofs.EdgeLaws.{chunk_insts}
use Rattle.phi_lower.proofs.SumLaws.{Apart, or_zero, sum_same, sum_le, sum_both, sum_map, swapped, found, first_sums, added_apart, added_length}

-- operands
operand_le : (a : Operand) → operand_weight a ≤ operand_code a
operand_le (LocalName name) = omega arith
operand_le (Const place) = omega arith
operand_le other = omega arith

-- at least what an operand without indices counts
operand_least : (a : Operand) → 64 ≤ operand_code a
operand_least a = omega arith

args_le : (args : List Arg) → args_weight args ≤ args_code args
args_le args = sum_le (λ (a : Arg). 16 + operand_weight a.value) (λ (a : Arg). 64 + operand_code a.value) args (λ k a at. let e = operand_le a.value in omega arith)

indices_le : (args : List Arg) → indices_weight args ≤ args_code args
indices_le args = sum_le (λ (a : Arg). 116) (λ (a : Arg). 64 + operand_code a.value) args (λ k a at. let e = operand_least a.value in omega arith)

-- instructions
op_le : (op : Op) → op_weight op ≤ op_code op
op_le (Bin op ty a b) = let p = operand_le a in let q = operand_le b in omega arith
op_le (Compare pred ty a b) = let p = operand_le a in let q = operand_le b in omega arith
op_le (Cast op from a to) = let p = operand_le a in omega arith
op_le (Select condition ty a ty2 b) = let o = operand_le condition in let p = operand_le a in let q = operand_le b in omega arith
op_le (Freeze ty a) = let p = operand_le a in omega arith
op_le (Alloca ty count) = omega arith
op_le (Load ty p) = let q = operand_le p in omega arith
op_le (Store ty a p) = let o = operand_le a in let q = operand_le p in omega arith
op_le (Gep ty p indices) = let o = operand_le p in let q = indices_le indices in omega arith
op_le (Phi ty entries) = omega arith
op_le (Call ret callee args) = let o = operand_le callee in let q = args_le args in omega arith

abbrev insts_weight : List Inst → ℕ
insts_weight insts = sum_by (λ (i : Inst). op_weight i.op) insts

abbrev insts_code : List Inst → ℕ
insts_code insts = sum_by (λ (i : Inst). op_code i.op) insts

abbrev phis_code : List PhiPart → ℕ
phis_code ps = sum_by (λ (p : PhiPart). entries_code p.entries) ps

-- the instructions behind phis, and what was counted for the entries
insts_with : (i : Inst) (op : Op) (is : List Inst) → i.op ≡ op → insts_weight (behind_phis is) + phis_code (phis_of is) ≤ insts_code is → insts_weight (drop (length (phis_with i.result op (phis_of is))) (i ∷ is)) + phis_code (phis_with i.result op (phis_of is)) ≤ insts_code (i ∷ is)
insts_with i (Phi ty entries) is e go =
    let p : PhiPart = record { into = i.result; ty = ty; entries = entries } in
    let a = sum_by-cons (λ (q : PhiPart). entries_code q.entries) p (phis_of is) in
    let b = sum_by-cons (λ (j : Inst). op_code j.op) i is in
    let c : op_code i.op ≡ 128 + entries_code entries = ap op_code e in
    omega arith
insts_with i op is e go = let a = sum_le (λ (j : Inst). op_weight j.op) (λ (j : Inst). op_code j.op) (i ∷ is) (λ k j at. op_le j.op) in omega arith

insts_le : (is : List Inst) → insts_weight (behind_phis is) + phis_code (phis_of is) ≤ insts_code is
insts_le [] = omega arith
insts_le (i ∷ is) = insts_with i i.op is refl (insts_le is)

-- ends, with what their edges weigh themselves
cases_le : (cases : List Case) → cases_weight cases + 8 * length (map (λ (c : Case). c.to) cases) ≤ cases_code cases
cases_le [] = omega arith
cases_le (c ∷ cs) =
    let a = sum_by-cons (λ (d : Case). 144) c cs in
    let b = sum_by-cons (λ (d : Case). 96 + operand_code d.value) c cs in
    let e = operand_least c.value in
    let go = cases_le cs in
    omega arith

end_le : (end : Term) → end_weight end + 8 * length (labels_of end) ≤ end_code end
end_le Ret = omega arith
end_le (RetValue ty a) = let p = operand_le a in omega arith
end_le (Br to) = omega arith
end_le (BrIf condition taken other) = let p = operand_le condition in omega arith
end_le (Switch ty a default cases) = let p = operand_le a in let q = cases_le cases in omega arith
end_le Unreachable = omega arith

ways_weight : (blocks : List Block) (from : List ℕ) (end : Term) → end_weight (with_ways blocks from end) ≡ end_weight end
ways_weight blocks from Ret = refl
ways_weight blocks from (RetValue ty a) = refl
ways_weight blocks from (Br to) = refl
ways_weight blocks from (BrIf condition taken other) = refl
ways_weight blocks from (Switch ty a default cases) = ap (λ n. 96 + operand_weight a + n) (sum_map (λ (c : Case). 144) (λ (c : Case). case_to c (first_on_way blocks from c.to)) cases)
ways_weight blocks from Unreachable = refl

-- moves
abbrev moves_weight : List Move → ℕ
moves_weight ms = insts_weight (map inst_of ms)

moves_append : (xs ys : List Move) → moves_weight (xs ++ ys) ≡ moves_weight xs + moves_weight ys
moves_append xs ys = ap insts_weight (map-append inst_of xs ys) ∙ sum_by-append (λ (i : Inst). op_weight i.op) (map inst_of xs) (map inst_of ys)

moves_last : (f : PhiPart → List Move) (ps : List PhiPart) → moves_weight (last_first f ps) ≡ sum_by (λ p. moves_weight (f p)) ps
moves_last f [] = refl
moves_last f (p ∷ ps) =
    let a = moves_append (last_first f ps) (f p) in
    let b = moves_last f ps in
    let c = sum_by-cons (λ q. moves_weight (f q)) p ps in
    a ∙ (let z : moves_weight (last_first f ps) + moves_weight (f p) ≡ moves_weight (f p) + sum_by (λ q. moves_weight (f q)) ps = omega arith in z) ∙ sym c

-- what was counted for the entry of an edge
abbrev pub cost : PhiPart → List ℕ → ℕ
cost p from = found (λ (e : Entry). e.from) (λ (e : Entry). 96 + operand_code e.value) p.entries from

-- a phi has an entry for an edge
abbrev pub HasEntry : List ℕ → PhiPart → Type 0
HasEntry from p = (e : Entry) × (first_where (λ (x : Entry). same_name x.from from) p.entries ≡ Some e)

one_cost : (from : List ℕ) (p : PhiPart) → HasEntry from p → moves_weight (put_aside from p) + moves_weight (taken_up p) ≤ cost p from
one_cost from p has =
    subst (λ o. moves_weight (put_of p.into p.ty o) + moves_weight (take_of p.into p.ty) ≤ or_zero (λ (e : Entry). 96 + operand_code e.value) o) (sym has.1) (by_into p.into p.ty has.0)
  where
    by_into : (into : Option (List ℕ)) (ty : Ty) (e : Entry) → moves_weight (put_of into ty (Some e)) + moves_weight (take_of into ty) ≤ 96 + operand_code e.value
    by_into (Some into) ty e = let a = operand_le e.value in omega arith
    by_into None ty e = omega arith

copies_le : (from : List ℕ) (ps : List PhiPart) → ((k : ℕ) (p : PhiPart) → slice_get ps k ≡ Some p → HasEntry from p) → moves_weight (copies from ps) ≤ sum_by (λ p. cost p from) ps
copies_le from ps has =
    let a = moves_append (last_first (put_aside from) ps) (last_first taken_up ps) in
    let b = moves_last (put_aside from) ps in
    let c = moves_last taken_up ps in
    let d = sum_both (λ p. moves_weight (put_aside from p)) (λ p. moves_weight (taken_up p)) ps in
    let e = sum_le (λ p. moves_weight (put_aside from p) + moves_weight (taken_up p)) (λ p. cost p from) ps (λ k p at. one_cost from p (has k p at)) in
    omega arith

edge_le : (from to : List ℕ) (ps : List PhiPart) → ((k : ℕ) (p : PhiPart) → slice_get ps k ≡ Some p → HasEntry from p) → sum_by block_weight (map block_of (chunk_to from to ps)) ≤ 8 + sum_by (λ p. cost p from) ps
edge_le from to [] has = omega arith
edge_le from to (p ∷ ps) has =
    let a = sum_by-cons block_weight (block_of (edge_chunk from to (p ∷ ps))) [] in
    let b = copies_le from (p ∷ ps) has in
    omega arith

edges_le : (blocks : List Block) (from : List ℕ) (targets : List (List ℕ)) → ((j : ℕ) (t : List ℕ) → slice_get targets j ≡ Some t → (k : ℕ) (p : PhiPart) → slice_get (phis_to blocks t) k ≡ Some p → HasEntry from p) →
    sum_by block_weight (map block_of (chunks_to blocks from targets)) ≤ 8 * length targets + sum_by (λ t. sum_by (λ p. cost p from) (phis_to blocks t)) targets
edges_le blocks from [] has = omega arith
edges_le blocks from (t ∷ ts) has =
    let one = map block_of (chunk_to from t (phis_to blocks t)) in
    let others = map block_of (chunks_to blocks from ts) in
    let a : sum_by block_weight (map block_of (chunks_to blocks from (t ∷ ts))) ≡ sum_by block_weight one + sum_by block_weight others = ap (sum_by block_weight) (map-append block_of (chunk_to from t (phis_to blocks t)) (chunks_to blocks from ts)) ∙ sum_by-append block_weight one others in
    let b = edge_le from t (phis_to blocks t) (has 0 t refl) in
    let c = edges_le blocks from ts (λ j u at. has (suc j) u at) in
    let d = sum_by-cons (λ u. sum_by (λ p. cost p from) (phis_to blocks u)) t ts in
    omega arith

-- what the edges from a block cost at most: each phi of the function once
abbrev all_costs : List Block → List ℕ → ℕ
all_costs blocks from = sum_by (λ (b : Block). sum_by (λ p. cost p from) (phis_of b.insts)) blocks

target_cost : (from : List ℕ) (o : Option Block) → sum_by (λ p. cost p from) (phis_in o) ≡ or_zero (λ (b : Block). sum_by (λ p. cost p from) (phis_of b.insts)) o
target_cost from (Some b) = refl
target_cost from None = refl

targets_le : (blocks : List Block) (from : List ℕ) (targets : List (List ℕ)) → Apart targets → sum_by (λ t. sum_by (λ p. cost p from) (phis_to blocks t)) targets ≤ all_costs blocks from
targets_le blocks from targets apart =
    let a = sum_same (λ t. sum_by (λ p. cost p from) (phis_to blocks t)) (λ t. found (λ (b : Block). b.label) (λ (b : Block). sum_by (λ p. cost p from) (phis_of b.insts)) blocks t) targets (λ t. target_cost from (block_of_label blocks t)) in
    let b = first_sums (λ (b : Block). b.label) (λ (b : Block). sum_by (λ p. cost p from) (phis_of b.insts)) blocks targets apart in
    omega arith

-- a block with its edges
abbrev pub EntriesThere : List Block → Block → Type 0
EntriesThere blocks b = (j : ℕ) (t : List ℕ) → slice_get (targets_of b.end) j ≡ Some t → (k : ℕ) (p : PhiPart) → slice_get (phis_to blocks t) k ≡ Some p → HasEntry b.label p

block_le : (blocks : List Block) (b : Block) → EntriesThere blocks b → sum_by block_weight (map block_of (chunks_of_block blocks b)) + phis_code (phis_of b.insts) ≤ block_code b + all_costs blocks b.label
block_le blocks b has =
    let own = block_of (chunk_of_block blocks b) in
    let edges = map block_of (chunks_to blocks b.label (targets_of b.end)) in
    let a = sum_by-cons block_weight own edges in
    let c : insts_weight own.insts ≡ insts_weight (behind_phis b.insts) = ap insts_weight (chunk_insts blocks b) in
    let d = insts_le b.insts in
    let e = ways_weight blocks b.label b.end in
    let f = end_le b.end in
    let g = edges_le blocks b.label (targets_of b.end) has in
    let h = targets_le blocks b.label (targets_of b.end) (added_apart (labels_of b.end) [] tt) in
    let i : length (targets_of b.end) ≤ 0 + length (labels_of b.end) = added_length (labels_of b.end) [] in
    omega arith

-- all blocks
blocks_le : (blocks bs : List Block) → ((k : ℕ) (b : Block) → slice_get bs k ≡ Some b → EntriesThere blocks b) → sum_by block_weight (map block_of (flat_map (chunks_of_block blocks) bs)) + sum_by (λ (b : Block). phis_code (phis_of b.insts)) bs ≤ sum_by block_code bs + sum_by (λ (b : Block). all_costs blocks b.label) bs
blocks_le blocks [] has = omega arith
blocks_le blocks (b ∷ bs) has =
    let one = map block_of (chunks_of_block blocks b) in
    let others = map block_of (flat_map (chunks_of_block blocks) bs) in
    let a : sum_by block_weight (map block_of (flat_map (chunks_of_block blocks) (b ∷ bs))) ≡ sum_by block_weight one + sum_by block_weight others = ap (sum_by block_weight) (map-append block_of (chunks_of_block blocks b) (flat_map (chunks_of_block blocks) bs)) ∙ sum_by-append block_weight one others in
    let c = block_le blocks b (has 0 b refl) in
    let d = blocks_le blocks bs (λ k x at. has (suc k) x at) in
    let e = sum_by-cons (λ (x : Block). phis_code (phis_of x.insts)) b bs in
    let f = sum_by-cons block_code b bs in
    let g = sum_by-cons (λ (x : Block). all_costs blocks x.label) b bs in
    omega arith

-- an entry is counted once for each block that has an edge
costs_le : (blocks bs : List Block) → Apart (map (λ (b : Block). b.label) bs) → sum_by (λ (b : Block). all_costs blocks b.label) bs ≤ sum_by (λ (b : Block). phis_code (phis_of b.insts)) blocks
costs_le blocks bs apart =
    let K : Block → Block → ℕ = λ (b : Block) (c : Block). sum_by (λ p. cost p b.label) (phis_of c.insts) in
    let a : sum_by (λ (b : Block). sum_by (K b) blocks) bs ≡ sum_by (λ (c : Block). sum_by (λ b. K b c) bs) blocks = swapped K bs blocks in
    let b = sum_le (λ (c : Block). sum_by (λ b. K b c) bs) (λ (c : Block). phis_code (phis_of c.insts)) blocks (λ k c at. of_block c) in
    omega arith
  where
    of_phi : (p : PhiPart) → sum_by (λ (b : Block). cost p b.label) bs ≤ entries_code p.entries
    of_phi p =
        let a = sum_map (cost p) (λ (b : Block). b.label) bs in
        let b = first_sums (λ (e : Entry). e.from) (λ (e : Entry). 96 + operand_code e.value) p.entries (map (λ (c : Block). c.label) bs) apart in
        omega arith

    of_block : (c : Block) → sum_by (λ (b : Block). sum_by (λ p. cost p b.label) (phis_of c.insts)) bs ≤ phis_code (phis_of c.insts)
    of_block c =
        let a = swapped (λ (b : Block) (p : PhiPart). cost p b.label) bs (phis_of c.insts) in
        let b = sum_le (λ (p : PhiPart). sum_by (λ (x : Block). cost p x.label) bs) (λ (p : PhiPart). entries_code p.entries) (phis_of c.insts) (λ k p at. of_phi p) in
        omega arith

-- a function
pub function_le : (f : Function) → Apart (map (λ (b : Block). b.label) f.blocks) → ((k : ℕ) (b : Block) → slice_get f.blocks k ≡ Some b → EntriesThere f.blocks b) → function_weight (lowered f) + 512 ≤ function_code f
function_le f apart has =
    let a = blocks_le f.blocks f.blocks has in
    let b = costs_le f.blocks f.blocks apart in
    omega arith
