-- An instruction of a block that fits keeps calls over memory.
use Rattle.std.proofs.Common.{◌≡◌, ℕ, ◌*◌, ◌+◌, ◌<◌, true, false, List, ◌∷◌, length, Option, Some, refl, sym}
use Rattle.std.specs.Prelude.{◌&&◌, slice_get}
use Rattle.std.proofs.lemmas.Bool.{and_parts}
use Rattle.ir_core.specs.declared.ty.Ty.{Ty}
use Rattle.ir_core.specs.declared.operand.Operand.{Operand}
use Rattle.ir_core.specs.declared.instruction.Arg.{Arg}
use Rattle.ir_core.specs.declared.instruction.Op.{Op}
use Rattle.ir_core.specs.declared.instruction.Op.TheVariants.{Alloca, Store, Phi, Call}
use Rattle.ir_core.specs.declared.module.Module.{Module}
use Rattle.ir_core.specs.Stops.{Answer, and_then}
use Rattle.ir_core.specs.declared.kind.Kind.{Kind}
use Rattle.ir_core.specs.declared.kind.Kind.TheVariants.{Pointer}
use Rattle.ir_core.specs.Kinds.{kind_of}
use Rattle.ir_core.specs.Shapes.{shape_of}
use Rattle.ir_core.specs.Memory.{store_at}
use Rattle.ir_core.specs.State.{Frame, State, Turn}
use Rattle.ir_core.specs.Operands.{value_of, values_of}
use Rattle.ir_core.specs.Calls.{Target, target_of, call_turn}
use Rattle.ir_core.specs.Step.{past, gives, stores, result_of, instruction_turn}
use Rattle.std.specs.List.{list_all}
use Rattle.ir_core.specs.Typing.{Env, is_value, operand_fits, arg_fits, kinds_of, op_fits, kind_given, into_fits, callee_fits, is_result}
use Rattle.ir_core.specs.Valid.{env_of, is_phi}
use Rattle.ir_sound.specs.Typed.{functions_typed}
use Rattle.ir_sound.specs.WellTyped.{Present, IsPastCall, Properly, IsOfKind, present, IsTypedTurn}
use Rattle.ir_sound.proofs.AnswerLaws.{then_gives}
use Rattle.ir_sound.proofs.Calls.{IsTarget, called_gives, target_gives}
use Rattle.ir_sound.proofs.Frames.{Calling, Here, alloca_turn, fits_awaits, further, gives_turn, stores_turn}
use Rattle.ir_sound.proofs.Objects.{globals_within, store_gives}
use Rattle.ir_sound.proofs.Operands.{AreOfKinds, Covers, args_give, value_gives}
use Rattle.ir_sound.proofs.Operations.{result_gives}
use Rattle.ir_sound.proofs.SameLaws.{not_true}

module _ (m : Module) (s : State) (f : Frame) (callers : List Frame) (h : Here m s.objects f callers) where
  -- what there is
  abbrev here : Present
  here = present m s.objects

  -- the kinds of the call's locals
  abbrev env : Env
  env = env_of h.stands.fn

  -- the globals and functions of the module are there
  pub covered : Covers m here
  covered = record { globals = globals_within m m.globals s.objects h.globals; functions = refl }

  -- an operand of the call
  pub operand_gives : (kind : Kind) (a : Operand) → operand_fits m env kind a ≡ true → Properly (IsOfKind here kind) (value_of m f.locals kind a)
  operand_gives kind a fits = value_gives m here env f.locals covered h.stands.locals kind a fits

  module _ (input : List ℕ) (bytes : (k b : ℕ) → slice_get input k ≡ Some b → b < 256) (functions : functions_typed m m.functions ≡ true) (below : f.next < length h.stands.block.insts) (into : Option (List ℕ)) where
    -- a store
    store_gives_turn : (ty : Ty) (a p : Operand) → op_fits m env (Store ty a p) ≡ true → Properly (IsTypedTurn m) (instruction_turn m input s f callers into (Store ty a p))
    store_gives_turn ty a p fits =
        let parts = and_parts (is_value (kind_of ty)) (operand_fits m env (kind_of ty) a && operand_fits m env Pointer p) fits in
        let both = and_parts (operand_fits m env (kind_of ty) a) (operand_fits m env Pointer p) parts.1 in
        then_gives (IsOfKind here (kind_of ty)) (IsTypedTurn m) (value_of m f.locals (kind_of ty) a) (λ u. and_then (value_of m f.locals Pointer p) (λ v. stores s f callers (store_at s.objects u v))) (operand_gives (kind_of ty) a both.0)
        (λ u q. then_gives (IsOfKind here Pointer) (IsTypedTurn m) (value_of m f.locals Pointer p) (λ v. stores s f callers (store_at s.objects u v)) (operand_gives Pointer p both.1)
        (λ v r. stores_turn m s f callers h (store_at s.objects u v) below (store_gives here s.objects h.cells (kind_of ty) u v q)))

    -- a call
    call_gives : (ret : Ty) (callee : Operand) (arguments : List Arg) → slice_get h.stands.block.insts f.next ≡ Some (record { result = into; op = Call ret callee arguments }) → op_fits m env (Call ret callee arguments) ≡ true → into_fits env into (kind_of ret) ≡ true → Properly (IsTypedTurn m) (instruction_turn m input s f callers into (Call ret callee arguments))
    call_gives ret callee arguments at fits in' =
        let kinds = kinds_of arguments in
        let parts = and_parts (is_result ret) (callee_fits m env (kind_of ret) kinds callee && list_all (arg_fits m env) arguments) fits in
        let both = and_parts (callee_fits m env (kind_of ret) kinds callee) (list_all (arg_fits m env) arguments) parts.1 in
        let past_call : IsPastCall h.stands.block (f.next + 1) into (kind_of ret) = record { place = f.next; ret = ret; callee = callee; arguments = arguments; at_place = at; behind = refl; gives = refl } in
        let calling : Calling m s (kind_of ret) into (past f ∷ callers) = record { waiting = (record { stands = further h.stands f.locals below h.stands.locals; past = past_call; awaits = fits_awaits env into (kind_of ret) in' }, h.waiting); cells = h.cells; globals = h.globals } in
        let rest : Target → Answer Turn = λ t. and_then (values_of m f.locals arguments) (λ vs. call_turn m input s (past f ∷ callers) (kind_of ret) kinds vs into t) in
        then_gives (IsTarget here (kind_of ret) kinds) (IsTypedTurn m) (target_of m f.locals callee) rest (target_gives m here env f.locals covered h.stands.locals (kind_of ret) kinds callee both.0)
        (λ t q. then_gives (AreOfKinds here kinds) (IsTypedTurn m) (values_of m f.locals arguments) (λ vs. call_turn m input s (past f ∷ callers) (kind_of ret) kinds vs into t) (args_give m here env f.locals covered h.stands.locals arguments both.1)
        (λ vs r. called_gives m input s (kind_of ret) kinds into (past f) callers vs bytes functions calling r t q))

    -- any instruction but a phi
    pub instruction_gives : (op : Op) → slice_get h.stands.block.insts f.next ≡ Some (record { result = into; op = op }) → is_phi op ≡ false → op_fits m env op ≡ true → into_fits env into (kind_given op) ≡ true → Properly (IsTypedTurn m) (instruction_turn m input s f callers into op)
    instruction_gives (Alloca ty count) at phi fits in' = alloca_turn m s f callers h into (count * (shape_of m.types ty).size) below in'
    instruction_gives (Store ty a p) at phi fits in' = store_gives_turn ty a p fits
    instruction_gives (Call ret callee arguments) at phi fits in' = call_gives ret callee arguments at fits in'
    instruction_gives (Phi ty entries) at phi fits in' = not_true (sym phi)
    instruction_gives op at phi fits in' =
        then_gives (IsOfKind here (kind_given op)) (IsTypedTurn m) (result_of m s.objects f.locals op) (λ v. gives s f callers into v)
        (result_gives m here env f.locals covered h.stands.locals s.objects h.cells op refl fits)
        (λ v p. gives_turn m s f callers h into (kind_given op) v below in' p)
