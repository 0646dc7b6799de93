-- A module without phis has as many returns as the module, and as many calls through locals.
use Rattle.std.proofs.Common.{◌≡◌, ℕ, ◌+◌, true, List, [], ◌∷◌, ◌++◌, map, length, drop, refl, ap, sym, ◌∙◌, arith}
use Rattle.std.specs.List.{list_all, flat_map, sum_by}
use Rattle.std.proofs.lemmas.Bool.{and_parts}
use Rattle.std.proofs.lemmas.List.{map-append}
use Rattle.std.proofs.lemmas.List.Sums.{sum_by-cons, sum_by-append}
use Rattle.ir_core.specs.declared.instruction.Inst.{Inst}
use Rattle.ir_core.specs.declared.instruction.Op.{Op}
use Rattle.ir_core.specs.declared.instruction.Op.TheVariants.{Phi}
use Rattle.ir_core.specs.declared.instruction.Term.{Term}
use Rattle.ir_core.specs.declared.instruction.Term.TheVariants.{Ret, RetValue, Br, BrIf, Switch, Unreachable}
use Rattle.ir_core.specs.declared.module.Block.{Block}
use Rattle.ir_core.specs.declared.module.Function.{Function}
use Rattle.ir_core.specs.declared.module.Module.{Module}
use Rattle.ir_sound.proofs.SameLaws.{not_true}
use Rattle.low_core.specs.declared.moves.Move.{Move}
use Rattle.low_core.specs.declared.moves.MoveOp.{MoveOp}
use Rattle.low_core.specs.declared.moves.MoveOp.TheVariants.{Keep, Copy}
use Rattle.low_core.specs.Plain.{op_of, inst_of, block_of, plain}
use Rattle.low_core.specs.Shaped.{returns_at, local_calls_at, returns_of, local_calls_of}
use Rattle.phi_lower.specs.Lowered.{PhiPart, phis_of, phis_with, phis_to, behind_phis, copies, with_ways, chunk_of_block, chunk_to, chunks_to, chunks_of_block, targets_of, bodies_without_phis}
use Rattle.phi_lower.proofs.Turns.{lowered}
use Rattle.phi_lower.proofs.Finds.{edge_chunk}
use Rattle.phi_lower.proofs.Runs.{is_copy, copies_value, all_copies}
use Rattle.phi_lower.proofs.EdgeLaws.{chunk_insts}
use Rattle.phi_lower.proofs.Keeps.{plain_is}

-- a count of blocks that is the same without their phis and nothing for edges
module _ (count : Block → ℕ) (same : (blocks : List Block) (b : Block) → count (block_of (chunk_of_block blocks b)) ≡ count b) (none : (from to : List ℕ) (ps : List PhiPart) → count (block_of (edge_chunk from to ps)) ≡ 0) where
  edge_none : (from to : List ℕ) (ps : List PhiPart) → sum_by count (map block_of (chunk_to from to ps)) ≡ 0
  edge_none from to [] = refl
  edge_none from to (p ∷ ps) = let e = none from to (p ∷ ps) in let s = sum_by-cons count (block_of (edge_chunk from to (p ∷ ps))) [] in s ∙ (let z : count (block_of (edge_chunk from to (p ∷ ps))) + sum_by count [] ≡ 0 = omega (arith, e) in z)

  edges_none : (blocks : List Block) (from : List ℕ) (targets : List (List ℕ)) → sum_by count (map block_of (chunks_to blocks from targets)) ≡ 0
  edges_none blocks from [] = refl
  edges_none blocks from (to ∷ others) =
      let one = edge_none from to (phis_to blocks to) in
      let rest = edges_none blocks from others in
      ap (sum_by count) (map-append block_of (chunk_to from to (phis_to blocks to)) (chunks_to blocks from others))
      ∙ sum_by-append count (map block_of (chunk_to from to (phis_to blocks to))) (map block_of (chunks_to blocks from others))
      ∙ (let z : sum_by count (map block_of (chunk_to from to (phis_to blocks to))) + sum_by count (map block_of (chunks_to blocks from others)) ≡ 0 = omega arith in z)

  pub blocks_counted : (blocks bs : List Block) → sum_by count (map block_of (flat_map (chunks_of_block blocks) bs)) ≡ sum_by count bs
  blocks_counted blocks [] = refl
  blocks_counted blocks (b ∷ bs) =
      let edges = map block_of (chunks_to blocks b.label (targets_of b.end)) in
      let others = map block_of (flat_map (chunks_of_block blocks) bs) in
      let own = block_of (chunk_of_block blocks b) in
      let first = same blocks b in
      let none_there = edges_none blocks b.label (targets_of b.end) in
      let rest = blocks_counted blocks bs in
      let split = sum_by-append count edges others in
      let front = sum_by-cons count own (edges ++ others) in
      let back = sum_by-cons count b bs in
      ap (λ l. sum_by count (own ∷ l)) (map-append block_of (chunks_to blocks b.label (targets_of b.end)) (flat_map (chunks_of_block blocks) bs))
      ∙ front ∙ (let z : count own + sum_by count (edges ++ others) ≡ count b + sum_by count bs = omega arith in z) ∙ sym back

  pub functions_counted : (fs : List Function) → sum_by (λ (f : Function). sum_by count f.blocks) (map lowered fs) ≡ sum_by (λ (f : Function). sum_by count f.blocks) fs
  functions_counted [] = refl
  functions_counted (f ∷ fs) =
      let sums : Function → ℕ = λ (g : Function). sum_by count g.blocks in
      sum_by-cons sums (lowered f) (map lowered fs) ∙ ap (λ n. n + sum_by sums (map lowered fs)) (blocks_counted f.blocks f.blocks) ∙ ap (λ n. sum_by count f.blocks + n) (functions_counted fs) ∙ sym (sum_by-cons sums f fs)

-- returns
ways_returns : (blocks : List Block) (from : List ℕ) (end : Term) → returns_at (with_ways blocks from end) ≡ returns_at end
ways_returns blocks from Ret = refl
ways_returns blocks from (RetValue ty a) = refl
ways_returns blocks from (Br to) = refl
ways_returns blocks from (BrIf condition taken other) = refl
ways_returns blocks from (Switch ty a default cases) = refl
ways_returns blocks from Unreachable = refl

pub as_many_returns : (m : Module) → returns_of (plain m (bodies_without_phis m)) ≡ returns_of m
as_many_returns m =
    ap returns_of (plain_is m)
    ∙ functions_counted (λ (b : Block). returns_at b.end) (λ blocks b. ways_returns blocks b.label b.end) (λ from to ps. refl) m.functions

-- calls through locals
abbrev calls_in : List Inst → ℕ
calls_in insts = sum_by (λ (i : Inst). local_calls_at i.op) insts

calls_with : (i : Inst) (op : Op) (is : List Inst) → i.op ≡ op → calls_in (drop (length (phis_of is)) is) ≡ calls_in is → calls_in (drop (length (phis_with i.result op (phis_of is))) (i ∷ is)) ≡ calls_in (i ∷ is)
calls_with i (Phi ty entries) is e go =
    let none : local_calls_at i.op ≡ 0 = ap local_calls_at e in
    let front = sum_by-cons (λ (j : Inst). local_calls_at j.op) i is in
    go ∙ (let z : calls_in is ≡ local_calls_at i.op + calls_in is = omega arith in z) ∙ sym front
calls_with i op is e go = refl

calls_behind : (is : List Inst) → calls_in (behind_phis is) ≡ calls_in is
calls_behind [] = refl
calls_behind (i ∷ is) = calls_with i i.op is refl (calls_behind is)

copy_calls : (ms : List Move) → list_all is_copy ms ≡ true → calls_in (map inst_of ms) ≡ 0
copy_calls [] copy = refl
copy_calls (x ∷ xs) copy =
    let p = and_parts (is_copy x) (list_all is_copy xs) copy in
    sum_by-cons (λ (i : Inst). local_calls_at i.op) (inst_of x) (map inst_of xs) ∙ ap (λ n. n + calls_in (map inst_of xs)) (by_op x.op p.0) ∙ (let rest = copy_calls xs p.1 in let z : 0 + calls_in (map inst_of xs) ≡ 0 = omega arith in z)
  where
    by_op : (op : MoveOp) → copies_value op ≡ true → local_calls_at (op_of op) ≡ 0
    by_op (Keep op) c = not_true c
    by_op (Copy ty a) c = refl

pub as_many_calls : (m : Module) → local_calls_of (plain m (bodies_without_phis m)) ≡ local_calls_of m
as_many_calls m =
    ap local_calls_of (plain_is m)
    ∙ functions_counted (λ (b : Block). calls_in b.insts) (λ blocks b. ap calls_in (chunk_insts blocks b) ∙ calls_behind b.insts) (λ from to ps. copy_calls (copies from ps) (all_copies from ps)) m.functions
