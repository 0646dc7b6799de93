-- The program of registers that is selected for a program without switches: it keeps the rules, and asks for no more than that program.
use Rattle.std.proofs.Common.{◌≡◌, suc, ◌<◌, ◌≤◌, true, List, [], ◌∷◌, length, map, refl, ap, ◌∙◌, arith}
use Rattle.std.specs.Prelude.{not}
use Rattle.std.specs.List.{All, list_all}
use Rattle.std.proofs.lemmas.Bool.{and_parts, and_from}
use Rattle.ir_core.specs.declared.instruction.Op.{Op}
use Rattle.ir_core.specs.declared.instruction.Op.TheVariants.{Phi}
use Rattle.ir_core.specs.declared.module.Block.{Block}
use Rattle.ir_core.specs.declared.module.Function.{Function}
use Rattle.ir_core.specs.declared.module.Module.{Module}
use Rattle.ir_core.specs.Valid.{is_phi}
use Rattle.ir_sound.specs.Typed.{no_phi}
use Rattle.ir_sound.specs.WellTyped.{Each}
use Rattle.ir_sound.proofs.RowLaws.{Each_more, length_map}
use Rattle.ir_sound.proofs.SameLaws.{not_true}
use Rattle.low_core.specs.declared.moves.Body.{Body}
use Rattle.low_core.specs.declared.moves.Chunk.{Chunk}
use Rattle.low_core.specs.declared.moves.Lean.{Lean}
use Rattle.low_core.specs.declared.moves.Move.{Move}
use Rattle.low_core.specs.declared.moves.MoveOp.{MoveOp}
use Rattle.low_core.specs.declared.moves.MoveOp.TheVariants.{Keep, Copy}
use Rattle.low_core.specs.declared.sel.SelFun.{SelFun}
use Rattle.low_core.specs.Plain.{op_of, inst_of, block_of, with_bodies, plain}
use Rattle.low_core.specs.Plan.{NamesOneOf}
use Rattle.low_core.specs.SelParts.{ops_of}
use Rattle.low_core.specs.SelShaped.{IsSel}
use Rattle.low_core.specs.SelWeights.{sel_weight, sel_returns_of, calls_by_address_of}
use Rattle.low_core.specs.Shaped.{is_kept, keeps_moves, is_lean_end, IsBody, IsModuleShaped, IsLean, returns_of, local_calls_of}
use Rattle.low_core.specs.Weights.{weight, lean_own}
use Rattle.isel_rows.specs.Selected.{module_selected, selected}
use Rattle.isel.proofs.Mentioned.{each_of}
use Rattle.isel.proofs.Typed.{IsMoves}
use Rattle.isel.proofs.ShapeModule.{HasBlocks, functions_many, parameters_as, module_fits, module_names}
use Rattle.isel.proofs.ShapeLocalCalls.{module_calls}
use Rattle.isel.proofs.ShapeReturns.{module_returns}
use Rattle.isel.proofs.ShapeWeighs.{module_weighs}

-- as many functions with bodies as functions
bodies_many : (fs : List Function) (bs : List Body) → length bs ≡ length fs → length (with_bodies fs bs) ≡ length fs
bodies_many [] bs even = refl
bodies_many (f ∷ fs) [] even = absurd (omega (arith, even))
bodies_many (f ∷ fs) (b ∷ bs) even = ap (λ n. suc n) (bodies_many fs bs (omega (arith, even)))

-- and each has the parameters that it had
bodies_parameters : (fs : List Function) (bs : List Body) → length bs ≡ length fs → map (λ (f : Function). length f.params) (with_bodies fs bs) ≡ map (λ (f : Function). length f.params) fs
bodies_parameters [] bs even = refl
bodies_parameters (f ∷ fs) [] even = absurd (omega (arith, even))
bodies_parameters (f ∷ fs) (b ∷ bs) even = ap (λ ns. length f.params ∷ ns) (bodies_parameters fs bs (omega (arith, even)))

-- a move is no phi
move_plain : (op : MoveOp) → keeps_moves op ≡ true → not (is_phi (op_of op)) ≡ true
move_plain (Keep op) keeps = kept_plain op keeps
  where
    kept_plain : (op : Op) → is_kept op ≡ true → not (is_phi op) ≡ true
    kept_plain (Phi ty entries) kept = not_true kept
    kept_plain op kept = refl
move_plain (Copy ty a) keeps = refl

-- nor is any of a row
moves_plain : (xs : List Move) → list_all (λ (x : Move). keeps_moves x.op) xs ≡ true → no_phi (map inst_of xs) ≡ true
moves_plain [] keep = refl
moves_plain (x ∷ xs) keep = let p = and_parts (keeps_moves x.op) (list_all (λ (y : Move). keeps_moves y.op) xs) keep in and_from _ _ (move_plain x.op p.0) (moves_plain xs p.1)

-- nor any of a body
chunks_plain : (cs : List Chunk) → list_all (λ (c : Chunk). list_all (λ (x : Move). keeps_moves x.op) c.moves) cs ≡ true → list_all (λ (b : Block). no_phi b.insts) (map block_of cs) ≡ true
chunks_plain [] keep = refl
chunks_plain (c ∷ cs) keep =
    let p = and_parts (list_all (λ (x : Move). keeps_moves x.op) c.moves) (list_all (λ (d : Chunk). list_all (λ (x : Move). keeps_moves x.op) d.moves) cs) keep in
    and_from _ _ (moves_plain c.moves p.0) (chunks_plain cs p.1)

-- ends that are no switch
ends_lean : (cs : List Chunk) → list_all (λ (c : Chunk). is_lean_end c.end) cs ≡ true → list_all (λ (b : Block). is_lean_end b.end) (map block_of cs) ≡ true
ends_lean [] lean = refl
ends_lean (c ∷ cs) lean = let p = and_parts (is_lean_end c.end) (list_all (λ (d : Chunk). is_lean_end d.end) cs) lean in and_from _ _ p.0 (ends_lean cs p.1)

-- so functions with bodies are functions of moves
moves_each : (fs : List Function) (bs : List Body) → Each IsBody bs → Each (λ (b : Body). list_all (λ (c : Chunk). is_lean_end c.end) b.chunks ≡ true) bs → Each IsMoves (with_bodies fs bs)
moves_each [] bs bodies lean = tt
moves_each (f ∷ fs) [] bodies lean = tt
moves_each (f ∷ fs) (b ∷ bs) bodies lean =
    let long = length_map block_of b.chunks in
    let some = bodies.0.0 in
    (record { some_block = omega (arith, long, some); no_phis = chunks_plain b.chunks bodies.0.1; no_switches = ends_lean b.chunks lean.0 }, moves_each fs bs bodies.1 lean.1)

-- each of them has a block
some_blocks : (m : Module) → Each IsMoves m.functions → HasBlocks m
some_blocks m moves = Each_more IsMoves (λ (f : Function). 0 < length f.blocks) m.functions (λ f own. own.some_block) moves

-- a module of moves that is shaped is selected as a shaped program
pub moves_selected : (m : Module) → IsModuleShaped lean_own m → Each IsMoves m.functions → IsSel (module_selected m)
moves_selected m shaped moves = module_fits m shaped (some_blocks m moves)

-- and its operations name its globals
pub moves_name : (m : Module) → IsModuleShaped lean_own m → Each IsMoves m.functions → All (λ (f : SelFun). All (NamesOneOf (length m.globals)) (ops_of f)) (module_selected m).functions
moves_name m shaped moves = module_names m shaped (some_blocks m moves)

module _ (lean : Lean) (is : IsLean lean) where
  -- the module for which the program stands
  abbrev own : Module
  own = plain lean.base.now lean.bodies

  pub lean_moves : Each IsMoves (plain lean.base.now lean.bodies).functions
  lean_moves =
      moves_each lean.base.now.functions lean.bodies (each_of IsBody lean.bodies is.shaped.made_of_moves)
      (each_of (λ (b : Body). list_all (λ (c : Chunk). is_lean_end c.end) b.chunks ≡ true) lean.bodies is.no_switch)

  -- it is shaped
  pub selected_shaped : IsSel (selected lean.base.now lean.bodies)
  unfolding selected
  selected_shaped = moves_selected own is.shaped.shaped lean_moves

  -- it weighs no more, and has no more returns and calls by address
  pub selected_weighs : sel_weight (selected lean.base.now lean.bodies) ≤ weight (plain lean.base.now lean.bodies)
  unfolding selected
  selected_weighs = module_weighs own

  pub selected_returns : sel_returns_of (selected lean.base.now lean.bodies) ≤ returns_of (plain lean.base.now lean.bodies)
  unfolding selected
  selected_returns = module_returns own

  pub selected_calls : calls_by_address_of (selected lean.base.now lean.bodies) ≤ local_calls_of (plain lean.base.now lean.bodies)
  unfolding selected
  selected_calls = module_calls lean_own own is.shaped.shaped

  -- its functions are those of the base, each with as many parameters
  pub selected_functions : length (selected lean.base.now lean.bodies).functions ≡ length lean.base.now.functions
  unfolding selected
  selected_functions = functions_many own ∙ bodies_many lean.base.now.functions lean.bodies is.shaped.one_each

  pub selected_parameters : map (λ (f : SelFun). length f.params) (selected lean.base.now lean.bodies).functions ≡ map (λ (f : Function). length f.params) lean.base.now.functions
  unfolding selected
  selected_parameters = parameters_as own ∙ bodies_parameters lean.base.now.functions lean.bodies is.shaped.one_each

  -- it names globals of the base
  pub selected_names : All (λ (f : SelFun). All (NamesOneOf (length lean.base.now.globals)) (ops_of f)) (selected lean.base.now lean.bodies).functions
  unfolding selected
  selected_names = moves_name own is.shaped.shaped lean_moves
