-- The bodies without phis are made of moves.
use Rattle.std.proofs.Common.{◌≡◌, ℕ, suc, ◌<◌, Bool, true, List, [], ◌∷◌, ◌++◌, map, length, drop, Some, refl, ap, sym, ◌∙◌, subst, arith}
use Rattle.std.proofs.lemmas.List.Elements.{All-nil, All-cons}
use Rattle.std.specs.List.{All}
use Rattle.std.specs.Prelude.{not, slice_get, if◌then◌else◌}
use Rattle.std.specs.List.{list_all, flat_map}
use Rattle.std.proofs.lemmas.Bool.{and_parts, and_from}
use Rattle.ir_core.specs.declared.instruction.Inst.{Inst}
use Rattle.ir_core.specs.declared.instruction.Op.{Op}
use Rattle.ir_core.specs.declared.instruction.Op.TheVariants.{Bin, Compare, Cast, Select, Freeze, Alloca, Load, Store, Gep, Phi, Call}
use Rattle.ir_core.specs.declared.module.Block.{Block}
use Rattle.ir_core.specs.declared.module.Function.{Function}
use Rattle.ir_core.specs.declared.module.Module.{Module}
use Rattle.ir_core.specs.Valid.{is_phi, predecessors, env_of}
use Rattle.ir_sound.specs.Typed.{no_phi, phi_typed, phis_typed, entry_typed, functions_typed}
use Rattle.ir_sound.proofs.SameLaws.{not_true}
use Rattle.ir_sound.proofs.RowLaws.{length_map}
use Rattle.ir_sound.proofs.Parts.{function_at, block_at}
use Rattle.low_core.specs.declared.moves.Chunk.{Chunk}
use Rattle.low_core.specs.declared.moves.Move.{Move}
use Rattle.low_core.specs.declared.moves.MoveOp.{MoveOp}
use Rattle.low_core.specs.declared.moves.MoveOp.TheVariants.{Keep, Copy}
use Rattle.low_core.specs.Plain.{move_of, move_op_of}
use Rattle.low_core.specs.Shaped.{keeps_moves, IsBody}
use Rattle.phi_lower.specs.Lowered.{PhiPart, phis_of, phis_with, phis_to, behind_phis, copies, chunk_to, chunks_to, chunks_of_block, targets_of, body_of, bodies_without_phis}
use Rattle.phi_lower.proofs.Runs.{is_copy, copies_value, all_copies}

-- what is no phi is a move
op_moves : (op : Op) → not (is_phi op) ≡ true → keeps_moves (move_op_of op) ≡ true
op_moves (Bin op ty a b) e = refl
op_moves (Compare pred ty a b) e = refl
op_moves (Cast op from a to) e = refl
op_moves (Select condition ty a ty2 b) e = refl
op_moves (Freeze ty a) e = refl
op_moves (Alloca ty count) e = refl
op_moves (Load ty p) e = refl
op_moves (Store ty a p) e = refl
op_moves (Gep ty p indices) e = refl
op_moves (Phi ty entries) e = not_true e
op_moves (Call ret callee args) e = refl

insts_move : (is : List Inst) → no_phi is ≡ true → list_all (λ (x : Move). keeps_moves x.op) (map move_of is) ≡ true
insts_move [] e = refl
insts_move (i ∷ is) e = let p = and_parts (not (is_phi i.op)) (no_phi is) e in and_from _ _ (op_moves i.op p.0) (insts_move is p.1)

-- behind the phis of a typed block there are none
behind_with : (from : List (List ℕ)) (i : Inst) (op : Op) (is : List Inst) → i.op ≡ op → phis_typed from (i ∷ is) ≡ true → (phis_typed from is ≡ true → no_phi (behind_phis is) ≡ true) → no_phi (drop (length (phis_with i.result op (phis_of is))) (i ∷ is)) ≡ true
behind_with from i (Phi ty entries) is e typed go = go (ap (λ o. if is_phi o then phis_typed from is else no_phi is) (sym e) ∙ (and_parts (phi_typed from i.op) (if is_phi i.op then phis_typed from is else no_phi is) typed).1)
behind_with from i op is e typed go =
    and_from _ _ (ap (λ o. not (is_phi o)) e) (ap (λ o. if is_phi o then phis_typed from is else no_phi is) (sym e) ∙ (and_parts (phi_typed from i.op) (if is_phi i.op then phis_typed from is else no_phi is) typed).1)

behind_typed : (from : List (List ℕ)) (is : List Inst) → phis_typed from is ≡ true → no_phi (behind_phis is) ≡ true
behind_typed from [] typed = refl
behind_typed from (i ∷ is) typed = behind_with from i i.op is refl typed (behind_typed from is)

-- copies are moves
copies_move : (ms : List Move) → list_all is_copy ms ≡ true → list_all (λ (x : Move). keeps_moves x.op) ms ≡ true
copies_move [] e = refl
copies_move (x ∷ xs) e = let p = and_parts (is_copy x) (list_all is_copy xs) e in and_from _ _ (by_op x.op p.0) (copies_move xs p.1)
  where
    by_op : (op : MoveOp) → copies_value op ≡ true → keeps_moves op ≡ true
    by_op (Keep op) c = not_true c
    by_op (Copy ty a) c = refl

abbrev is_made : Chunk → Bool
is_made c = list_all (λ (x : Move). keeps_moves x.op) c.moves

all_both : (xs ys : List Chunk) → list_all is_made xs ≡ true → list_all is_made ys ≡ true → list_all is_made (xs ++ ys) ≡ true
all_both [] ys p q = q
all_both (x ∷ xs) ys p q = let r = and_parts (is_made x) (list_all is_made xs) p in and_from _ _ r.0 (all_both xs ys r.1 q)

edge_made : (from to : List ℕ) (ps : List PhiPart) → list_all is_made (chunk_to from to ps) ≡ true
edge_made from to [] = refl
edge_made from to (p ∷ ps) = and_from _ _ (copies_move (copies from (p ∷ ps)) (all_copies from (p ∷ ps))) refl

edges_made : (blocks : List Block) (from : List ℕ) (targets : List (List ℕ)) → list_all is_made (chunks_to blocks from targets) ≡ true
edges_made blocks from [] = refl
edges_made blocks from (t ∷ ts) = all_both (chunk_to from t (phis_to blocks t)) (chunks_to blocks from ts) (edge_made from t (phis_to blocks t)) (edges_made blocks from ts)

blocks_made : (blocks bs : List Block) → ((k : ℕ) (b : Block) → slice_get bs k ≡ Some b → no_phi (behind_phis b.insts) ≡ true) → list_all is_made (flat_map (chunks_of_block blocks) bs) ≡ true
blocks_made blocks [] each = refl
blocks_made blocks (b ∷ bs) each =
    and_from _ _ (insts_move (behind_phis b.insts) (each 0 b refl))
    (all_both (chunks_to blocks b.label (targets_of b.end)) (flat_map (chunks_of_block blocks) bs) (edges_made blocks b.label (targets_of b.end)) (blocks_made blocks bs (λ k c at. each (suc k) c at)))

-- a function's body
body_made : (m : Module) → functions_typed m m.functions ≡ true → (number : ℕ) (f : Function) → slice_get m.functions number ≡ Some f → IsBody (body_of f)
body_made m typed number f at =
    let parts = function_at m number f typed at in
    (some_chunk f.blocks refl parts.entry, blocks_made f.blocks f.blocks (λ k b at_block. behind_typed (predecessors f.blocks b.label) b.insts (block_at m (env_of f) f k b parts.blocks at_block).phis))
  where
    some_chunk : (bs : List Block) → f.blocks ≡ bs → entry_typed bs ≡ true → 0 < length (flat_map (chunks_of_block f.blocks) f.blocks)
    some_chunk [] e entry = not_true entry
    some_chunk (b ∷ bs) e entry = subst (λ l. 0 < length (flat_map (chunks_of_block f.blocks) l)) (sym e) (omega arith)

-- so are all of them
pub bodies_made : (m : Module) → functions_typed m m.functions ≡ true → All IsBody (bodies_without_phis m)
bodies_made m typed = of_row m.functions (λ k f at. body_made m typed k f at)
  where
    of_row : (fs : List Function) → ((k : ℕ) (f : Function) → slice_get fs k ≡ Some f → IsBody (body_of f)) → All IsBody (map body_of fs)
    of_row [] each = All-nil IsBody
    of_row (f ∷ fs) each = All-cons IsBody (body_of f) (map body_of fs) (each 0 f refl) (of_row fs (λ k g at. each (suc k) g at))

pub bodies_each : (m : Module) → length (bodies_without_phis m) ≡ length m.functions
bodies_each m = length_map body_of m.functions
