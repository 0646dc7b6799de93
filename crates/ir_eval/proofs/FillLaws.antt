-- No run of a valid module comes to a fill with a number that is no byte.
use Rattle.std.proofs.Common.{◌≡◌, ◌<◌, ◌^◌, ℕ, true, List, [], ◌∷◌, Ok, Some, refl, ap, sym, ◌∙◌, subst, arith}
use Rattle.std.specs.Prelude.{◌&&◌, slice_get}
use Rattle.std.specs.List.{list_all}
use Rattle.std.proofs.lemmas.Bool.{and_parts}
use Rattle.rd_num.specs.declared.width.Width.{Width}
use Rattle.rd_num.specs.declared.width.Width.TheVariants.{W1, W8, W64}
use Rattle.behavior.specs.Moment.{AreBytes}
use Rattle.ir_core.specs.declared.ty.Ty.{Ty}
use Rattle.ir_core.specs.declared.operand.Operand.{Operand}
use Rattle.ir_core.specs.declared.instruction.Arg.{Arg}
use Rattle.ir_core.specs.declared.instruction.Inst.{Inst}
use Rattle.ir_core.specs.declared.instruction.Op.TheVariants.{Call}
use Rattle.ir_core.specs.declared.module.Block.{Block}
use Rattle.ir_core.specs.declared.module.Function.{Function}
use Rattle.ir_core.specs.declared.module.Module.{Module}
use Rattle.ir_core.specs.declared.memory.Value.{Value}
use Rattle.ir_core.specs.declared.memory.Value.TheVariants.{Num}
use Rattle.ir_core.specs.declared.kind.Kind.{Kind}
use Rattle.ir_core.specs.declared.kind.Kind.TheVariants.{NoValue, Number, Pointer}
use Rattle.ir_core.specs.declared.outer.Outer.TheVariants.{Memset}
use Rattle.ir_core.specs.Kinds.{kind_of, same_kind}
use Rattle.ir_core.specs.Memory.{Memory}
use Rattle.ir_core.specs.State.{Local, Frame}
use Rattle.ir_core.specs.Operands.{values_of}
use Rattle.ir_core.specs.Calls.{Outside, target_of, same_kinds}
use Rattle.ir_core.specs.Typing.{Env, arg_fits, outer_fits, callee_fits, kinds_of, op_fits, kind_given, into_fits, inst_fits, is_result}
use Rattle.ir_core.specs.Valid.{env_of}
use Rattle.ir_sound.specs.Typed.{IsTyped}
use Rattle.ir_sound.specs.WellTyped.{Each, Properly, Present, IsLocal, IsInBlock, present, AreOver}
use Rattle.ir_sound.proofs.Calls.{IsTarget, target_gives}
use Rattle.ir_sound.proofs.Objects.{globals_within}
use Rattle.ir_sound.proofs.Operands.{Covers, AreOfKinds, args_give}
use Rattle.ir_sound.proofs.Parts.{function_at, block_at}
use Rattle.ir_sound.proofs.RowLaws.{all_at}
use Rattle.ir_sound.proofs.SameLaws.{kinds_are, some_is}
use Rattle.ir_sound.proofs.Steps.{states_are}
use Rattle.ir_run.specs.Runs.{state_after}
use Rattle.ir_run.specs.Standing.{FillsWide}

-- the kinds of what a fill is called with
abbrev fill_kinds : List Kind
fill_kinds = Pointer ∷ Number W8 ∷ Number W64 ∷ Number W1 ∷ []

-- the instruction at which a call stands fits
fits_there : (m : Module) (x : Present) (f : Frame) (s : IsInBlock m x f) (i : Inst) → IsTyped m → slice_get s.block.insts f.next ≡ Some i → op_fits m (env_of s.fn) i.op ≡ true
fits_there m x f s i typed at =
    let env = env_of s.fn in
    let function = function_at m f.function s.fn typed.functions s.in_module in
    let block = block_at m env s.fn f.block s.block function.blocks s.in_function in
    (and_parts (op_fits m env i.op) (into_fits env i.result (kind_given i.op)) (all_at (inst_fits m env) s.block.insts f.next i block.insts at)).0

-- the arguments of a fill are of its kinds
fill_values : (m : Module) (x : Present) (env : Env) (locals : List Local) → Covers m x → Each (IsLocal x env) locals → (ret : Ty) (callee : Operand) (arguments : List Arg) (vs : List Value) → op_fits m env (Call ret callee arguments) ≡ true → target_of m locals callee ≡ Ok (Outside Memset) → values_of m locals arguments ≡ Ok vs → AreOfKinds x fill_kinds vs
fill_values m x env locals c all ret callee arguments vs fits to are =
    let kinds = kinds_of arguments in
    let parts = and_parts (is_result ret) (callee_fits m env (kind_of ret) kinds callee && list_all (arg_fits m env) arguments) fits in
    let both = and_parts (callee_fits m env (kind_of ret) kinds callee) (list_all (arg_fits m env) arguments) parts.1 in
    let target : outer_fits Memset (kind_of ret) kinds ≡ true = subst (Properly (IsTarget x (kind_of ret) kinds)) to (target_gives m x env locals c all (kind_of ret) kinds callee both.0) in
    let values : AreOfKinds x kinds vs = subst (Properly (AreOfKinds x kinds)) are (args_give m x env locals c all arguments both.1) in
    let shape = and_parts (same_kind (kind_of ret) NoValue) (same_kinds kinds fill_kinds) target in
    subst (λ ks. AreOfKinds x ks vs) (kinds_are kinds fill_kinds shape.1) values

-- the second of them is a byte
fill_byte : (x : Present) (to : Value) (w : Width) (byte : ℕ) (vs : List Value) → AreOfKinds x fill_kinds (to ∷ Num w byte ∷ vs) → byte < 256
fill_byte x to w byte vs are = let h : byte < 2 ^ 8 = are.1.0.1 in omega arith

-- calls over memory stand at no fill with another number
none_wide : (m : Module) → IsTyped m → (objects : Memory) (frames : List Frame) → AreOver m frames objects → FillsWide m frames → ⊥
none_wide m typed objects frames over wide = in_call (subst (λ fs. AreOver m fs objects) wide.are over)
  where
    in_call : AreOver m (wide.frame ∷ wide.callers) objects → ⊥
    in_call there =
        let x = present m objects in
        let s = there.calls.0 in
        let fn : s.fn ≡ wide.function = some_is s.fn wide.function (sym s.in_module ∙ wide.in_function) in
        let block : s.block ≡ wide.block = some_is s.block wide.block (sym s.in_function ∙ ap (λ (f : Function). slice_get f.blocks wide.frame.block) fn ∙ wide.in_block) in
        let at : slice_get s.block.insts wide.frame.next ≡ Some wide.inst = ap (λ (b : Block). slice_get b.insts wide.frame.next) block ∙ wide.at in
        let fits : op_fits m (env_of s.fn) (Call wide.ret wide.callee wide.arguments) ≡ true = sym (ap (op_fits m (env_of s.fn)) wide.calls) ∙ fits_there m x wide.frame s wide.inst typed at in
        let covered : Covers m x = record { globals = globals_within m m.globals objects there.globals; functions = refl } in
        let values : List Value = wide.to ∷ Num wide.width wide.byte ∷ Num wide.width2 wide.count ∷ wide.volatile ∷ [] in
        let are : AreOfKinds x fill_kinds values = fill_values m x (env_of s.fn) wide.frame.locals covered s.locals wide.ret wide.callee wide.arguments values fits wide.target wide.values in
        let small : wide.byte < 256 = fill_byte x wide.to wide.width wide.byte (Num wide.width2 wide.count ∷ wide.volatile ∷ []) are in
        absurd (omega (arith, wide.wide))

-- nor does a run
pub never_wide : (m : Module) (input : List ℕ) (k : ℕ) → IsTyped m → AreBytes input → FillsWide m (state_after m input k).frames → ⊥
never_wide m input k typed bytes wide = none_wide m typed (state_after m input k).objects (state_after m input k).frames (states_are m input k bytes typed).0 wide
