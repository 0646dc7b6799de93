-- What is selected has no more calls by address than the module has calls through a local.
use Rattle.std.proofs.Common.{◌≡◌, ℕ, ◌+◌, ◌≤◌, true, List, [], ◌∷◌, ◌++◌, map, Option, refl, arith}
use Rattle.std.specs.Prelude.{◌&&◌}
use Rattle.std.specs.List.{list_all, sum_by}
use Rattle.std.proofs.lemmas.Bool.{and_parts}
use Rattle.std.proofs.lemmas.List.Sums.{sum_by-cons}
use Rattle.rd_num.specs.declared.width.Width.TheVariants.{W1}
use Rattle.ir_core.specs.declared.instruction.Inst.{Inst}
use Rattle.ir_core.specs.declared.instruction.Op.{Op}
use Rattle.ir_core.specs.declared.instruction.Op.TheVariants.{Bin, Compare, Cast, Select, Freeze, Alloca, Load, Store, Gep, Phi, Call}
use Rattle.ir_core.specs.declared.instruction.Term.{Term}
use Rattle.ir_core.specs.declared.instruction.Term.TheVariants.{Ret, RetValue, Br, BrIf, Switch, Unreachable}
use Rattle.ir_core.specs.declared.kind.Kind.{Kind}
use Rattle.ir_core.specs.declared.kind.Kind.TheVariants.{Number, Pointer}
use Rattle.ir_core.specs.declared.module.Block.{Block}
use Rattle.ir_core.specs.declared.module.Function.{Function}
use Rattle.ir_core.specs.declared.module.Module.{Module}
use Rattle.ir_core.specs.declared.operand.Operand.{Operand}
use Rattle.ir_core.specs.Counts.{alloca_bytes}
use Rattle.ir_core.specs.Definitions.{label_names}
use Rattle.ir_core.specs.Kinds.{kind_of}
use Rattle.ir_core.specs.Typing.{Env, is_result, kinds_of, callee_fits, arg_fits, op_fits}
use Rattle.ir_core.specs.Valid.{LocalKind, named_locals, env_of}
use Rattle.ir_sound.specs.WellTyped.{Each}
use Rattle.ir_context.specs.declared.path.Path.{Path}
use Rattle.ir_context.specs.Origins.{origin_of, arg_origin}
use Rattle.ir_context.specs.Paths.{path_of}
use Rattle.low_core.specs.declared.sel.SelBlock.{SelBlock}
use Rattle.low_core.specs.declared.sel.SelFun.{SelFun}
use Rattle.low_core.specs.declared.sel.SelOp.{SelOp}
use Rattle.low_core.specs.declared.sel.SelOp.TheVariants as sel
use Rattle.low_core.specs.SelWeights.{is_call_by_address, calls_by_address_of}
use Rattle.low_core.specs.Shaped.{IsModuleShaped, local_calls_at, local_calls_of}
use Rattle.isel_rows.specs.Variables.{variables_of, operand_register, width_of}
use Rattle.isel_rows.specs.Brought.{Brought, operand_brought}
use Rattle.isel_rows.specs.Calls.{register_into}
use Rattle.isel_rows.specs.Rows.{bin_op, cast_op, load_ops, stored_width, result_register, moved_ops, path_taken, ops_of, closing_of}
use Rattle.isel_rows.specs.Functions.{allocas_in, insts_ops, block_selected, blocks_selected, function_selected}
use Rattle.isel_rows.specs.Selected.{module_selected}
use Rattle.isel.proofs.ShapeKnown.{InstKnown, BlockKnown, each_there, blocks_known}
use Rattle.isel.proofs.ShapeReturns.{sums_below}
use Rattle.isel.proofs.ShapeAddresses.{addresses, both, brought_none, one_none, moved_none, bin_none, cast_none, load_none, call_calls}

module _ (m : Module) (vs : List LocalKind) where
  -- an operand, the k-th of its instruction
  abbrev At : ℕ → Kind → Operand → Brought
  At k kind a = operand_brought m vs k kind a

  -- an instruction
  op_calls : (env : Env) (at : ℕ) (into : Option (List ℕ)) (op : Op) → op_fits m env op ≡ true → addresses (ops_of m vs at into op) ≤ local_calls_at op
  op_calls env at into (Bin op ty a b) typed =
      let last : SelOp = bin_op op (width_of (kind_of ty)) (result_register vs into) (At 0 (kind_of ty) a).register (At 1 (kind_of ty) b).register in
      let first = one_none m vs 0 (kind_of ty) a ((At 1 (kind_of ty) b).ops ++ last ∷ []) in
      let second = one_none m vs 1 (kind_of ty) b (last ∷ []) in
      let own = bin_none m vs op (width_of (kind_of ty)) (result_register vs into) (At 0 (kind_of ty) a).register (At 1 (kind_of ty) b).register in
      omega (arith, first, second, own)
  op_calls env at into (Compare pred ty a b) typed =
      let last : SelOp = sel.Test pred (width_of (kind_of ty)) (result_register vs into) (At 0 (kind_of ty) a).register (At 1 (kind_of ty) b).register in
      let first = one_none m vs 0 (kind_of ty) a ((At 1 (kind_of ty) b).ops ++ last ∷ []) in
      let second = one_none m vs 1 (kind_of ty) b (last ∷ []) in
      omega (arith, first, second)
  op_calls env at into (Cast op from a to) typed =
      let last : SelOp = cast_op op (width_of (kind_of from)) (width_of (kind_of to)) (result_register vs into) (At 0 (kind_of from) a).register in
      let first = one_none m vs 0 (kind_of from) a (last ∷ []) in
      let own = cast_none m vs op (width_of (kind_of from)) (width_of (kind_of to)) (result_register vs into) (At 0 (kind_of from) a).register in
      omega (arith, first, own)
  op_calls env at into (Select condition ty a ty2 b) typed =
      let last : SelOp = sel.Pick (result_register vs into) (At 0 (Number W1) condition).register (At 1 (kind_of ty) a).register (At 2 (kind_of ty2) b).register in
      let first = one_none m vs 0 (Number W1) condition ((At 1 (kind_of ty) a).ops ++ ((At 2 (kind_of ty2) b).ops ++ last ∷ [])) in
      let second = one_none m vs 1 (kind_of ty) a ((At 2 (kind_of ty2) b).ops ++ last ∷ []) in
      let third = one_none m vs 2 (kind_of ty2) b (last ∷ []) in
      omega (arith, first, second, third)
  op_calls env at into (Freeze ty a) typed = let first = one_none m vs 0 (kind_of ty) a (sel.Copy (result_register vs into) (At 0 (kind_of ty) a).register ∷ []) in omega (arith, first)
  op_calls env at into (Alloca ty count) typed = omega arith
  op_calls env at into (Load ty p) typed =
      let first = one_none m vs 0 Pointer p (load_ops (width_of (kind_of ty)) (result_register vs into) (At 0 Pointer p).register) in
      let own = load_none m vs (width_of (kind_of ty)) (result_register vs into) (At 0 Pointer p).register in
      omega (arith, first, own)
  op_calls env at into (Store ty a p) typed =
      let last : SelOp = sel.Store (stored_width (width_of (kind_of ty))) (At 1 Pointer p).register (At 0 (kind_of ty) a).register in
      let first = one_none m vs 0 (kind_of ty) a ((At 1 Pointer p).ops ++ last ∷ []) in
      let second = one_none m vs 1 Pointer p (last ∷ []) in
      omega (arith, first, second)
  op_calls env at into (Gep ty p indices) typed =
      let path : Path = path_taken (path_of m.types ty (map (arg_origin m (named_locals vs)) indices)) in
      let first = one_none m vs 0 Pointer p (moved_ops vs (result_register vs into) path (At 0 Pointer p).register) in
      let own = moved_none m vs (result_register vs into) path (At 0 Pointer p).register in
      omega (arith, first, own)
  op_calls env at into (Call ret callee args) typed =
      let p = and_parts (is_result ret) (callee_fits m env (kind_of ret) (kinds_of args) callee && list_all (arg_fits m env) args) typed in
      let q = and_parts (callee_fits m env (kind_of ret) (kinds_of args) callee) (list_all (arg_fits m env) args) p.1 in
      call_calls m vs env (register_into vs into) ret callee args q.0
  op_calls env at into (Phi ty entries) typed = omega arith

  -- an end
  closing_none : (labels : List (List ℕ)) (end : Term) → addresses (closing_of m vs labels end).ops ≡ 0
  closing_none labels Ret = refl
  closing_none labels (RetValue ty a) = brought_none m vs (operand_register vs 0) (origin_of m (named_locals vs) (kind_of ty) a)
  closing_none labels (Br to) = refl
  closing_none labels (BrIf condition taken other) = brought_none m vs (operand_register vs 0) (origin_of m (named_locals vs) (Number W1) condition)
  closing_none labels (Switch ty a default cases) = refl
  closing_none labels Unreachable = refl

module _ (m : Module) (fn : Function) where
  abbrev vs : List LocalKind
  vs = variables_of fn

  -- instructions, and blocks
  insts_call : (at : ℕ) (insts : List Inst) → Each (InstKnown m fn) insts → addresses (insts_ops m vs at insts) ≤ sum_by (λ (i : Inst). local_calls_at i.op) insts
  insts_call at [] known = omega arith
  insts_call at (i ∷ is) known =
      let next : ℕ = at + alloca_bytes m.types i.op in
      let first = op_calls m vs (env_of fn) at i.result i.op known.0.fits in
      let others = insts_call next is known.1 in
      let e = both (ops_of m vs at i.result i.op) (insts_ops m vs next is) in
      let s = sum_by-cons (λ (x : Inst). local_calls_at x.op) i is in
      omega (arith, first, others, e, s)

  -- blocks behind so many bytes of allocas
  blocks_call : (at : ℕ) (bs : List Block) → Each (BlockKnown m fn) bs
      → sum_by (λ (b : SelBlock). addresses b.ops) (blocks_selected m vs (label_names fn) at bs) ≤ sum_by (λ (b : Block). sum_by (λ (i : Inst). local_calls_at i.op) b.insts) bs
  blocks_call at [] known = omega arith
  blocks_call at (b ∷ bs) known =
      let next : ℕ = at + allocas_in m.types b.insts in
      let insts = insts_call at b.insts known.0.insts in
      let end = closing_none m vs (label_names fn) b.end in
      let e = both (insts_ops m vs at b.insts) (closing_of m vs (label_names fn) b.end).ops in
      let others = blocks_call next bs known.1 in
      let s = sum_by-cons (λ (x : SelBlock). addresses x.ops) (block_selected m vs (label_names fn) at b) (blocks_selected m vs (label_names fn) next bs) in
      let t = sum_by-cons (λ (x : Block). sum_by (λ (i : Inst). local_calls_at i.op) x.insts) b bs in
      omega (arith, insts, end, e, others, s, t)

-- a module
pub module_calls : (own : ℕ) (m : Module) → IsModuleShaped own m → calls_by_address_of (module_selected m) ≤ local_calls_of m
module_calls own m shaped =
    let F : SelFun → ℕ = λ f. sum_by (λ (b : SelBlock). sum_by is_call_by_address b.ops) f.blocks in
    let G : Function → ℕ = λ f. sum_by (λ (b : Block). sum_by (λ (i : Inst). local_calls_at i.op) b.insts) f.blocks in
    sums_below (function_selected m) F G m.functions (each_there (λ f. F (function_selected m f) ≤ G f) m.functions (λ k f at. blocks_call m f 0 f.blocks (blocks_known own m shaped k f at)))
