-- What a call reads: its arguments have values, each of its kind, and a function outside of the module has the types of the call.
use Rattle.std.proofs.Common.{◌≡◌, ℕ, true, List, ◌∷◌, Option, Some, None, Ok, slice_get, subst}
use Rattle.std.specs.Prelude.{◌&&◌}
use Rattle.std.specs.List.{list_all}
use Rattle.std.proofs.lemmas.Bool.{and_parts}
use Rattle.ir_core.specs.declared.instruction.Arg.{Arg}
use Rattle.ir_core.specs.declared.instruction.Op.TheVariants.{Call}
use Rattle.ir_core.specs.declared.memory.Value.{Value}
use Rattle.ir_core.specs.declared.module.Module.{Module}
use Rattle.ir_core.specs.declared.operand.Operand.{Operand}
use Rattle.ir_core.specs.declared.operand.Operand.TheVariants.{Global}
use Rattle.ir_core.specs.declared.ty.Ty.{Ty}
use Rattle.ir_core.specs.Calls.{outer_of, target_named}
use Rattle.ir_core.specs.Kinds.{kind_of}
use Rattle.ir_core.specs.Mentions.{of_args, of_callee}
use Rattle.ir_core.specs.Operands.{function_number, values_of}
use Rattle.ir_core.specs.State.{Frame, State}
use Rattle.ir_core.specs.Typing.{is_value, is_result, operand_fits, arg_fits, callee_fits, outer_fits, kinds_of}
use Rattle.ir_core.specs.Valid.{env_of}
use Rattle.ir_sound.specs.WellTyped.{present}
use Rattle.ir_sound.proofs.Calls.{IsTarget, target_gives}
use Rattle.ir_sound.proofs.RowLaws.{Each_parts}
use Rattle.low_core.specs.Flat.{Bytes}
use Rattle.low_core.specs.Plan.{Plan, Content}
use Rattle.low_core.specs.SelState.{SelFrame}
use Rattle.isel.proofs.Arguments.{Have}
use Rattle.isel.proofs.Beside.{memories, setting_of}
use Rattle.isel.proofs.Here.{IsHere}
use Rattle.isel.proofs.Mentioned.{IsFine}
use Rattle.isel.proofs.Premises.{Premises}
use Rattle.isel.proofs.Results.{rules, fine}
use Rattle.isel.proofs.Values.{args_have}

module _ (m : Module) (plan : Plan) (contents : List Content) (p : Premises m plan contents) (input : List ℕ) (s : State) (f : Frame) (fs : List Frame) (h : SelFrame) (hs : List SelFrame) (bytes : Bytes)
    (x : IsHere m (setting_of m plan contents) s f fs h hs bytes) where
  module _ (into : Option (List ℕ)) (ret : Ty) (callee : Operand) (args : List Arg) (there : slice_get x.call.block.insts f.next ≡ Some (record { result = into; op = Call ret callee args })) where
    -- the callee fits the types of the call, and the arguments theirs
    pub call_fits : (callee_fits m (env_of x.call.fn) (kind_of ret) (kinds_of args) callee ≡ true) × (list_all (arg_fits m (env_of x.call.fn)) args ≡ true)
    call_fits =
        let r = rules m plan contents p input s f fs h hs bytes x into (Call ret callee args) there in
        let q = and_parts (is_result ret) (callee_fits m (env_of x.call.fn) (kind_of ret) (kinds_of args) callee && list_all (arg_fits m (env_of x.call.fn)) args) r.fits in
        and_parts (callee_fits m (env_of x.call.fn) (kind_of ret) (kinds_of args) callee) (list_all (arg_fits m (env_of x.call.fn)) args) q.1

    -- arguments that were read
    pub args_read : (us : List Value) → values_of m f.locals args ≡ Ok us → Have m plan contents p input s f fs h hs bytes x args us
    args_read us is =
        let parts = Each_parts (IsFine m) (of_callee callee) (of_args args) (fine m plan contents p input s f fs h hs bytes x into (Call ret callee args) there).1 in
        args_have m plan contents p (memories (f ∷ fs) (h ∷ hs)) s.objects x.at bytes x.tied f h x.call x.typed (arg_fits m (env_of x.call.fn)) args us
        (λ a e. (and_parts (is_value (kind_of a.ty)) (operand_fits m (env_of x.call.fn) (kind_of a.ty) a.value) e).1) call_fits.1 parts.1 is

  -- a function outside of the module
  pub outer_called : (into : Option (List ℕ)) (ret : Ty) (name : List ℕ) (args : List Arg) → slice_get x.call.block.insts f.next ≡ Some (record { result = into; op = Call ret (Global name) args }) → function_number m name ≡ None
      → outer_fits (outer_of name) (kind_of ret) (kinds_of args) ≡ true
  outer_called into ret name args there none =
      let target = target_gives m (present m s.objects) (env_of x.call.fn) f.locals x.typed.covered x.typed.locals (kind_of ret) (kinds_of args) (Global name) (call_fits into ret (Global name) args there).0 in
      subst (λ o. IsTarget (present m s.objects) (kind_of ret) (kinds_of args) (target_named name o)) none target
