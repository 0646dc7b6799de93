-- What is selected for an instruction or an end fits the function.
use Rattle.std.proofs.Common.{◌≡◌, ℕ, ◌<◌, ◌≤◌, true, false, List, [], ◌∷◌, ◌++◌, map, Option, Some, None, refl, sym, ◌∙◌, subst, arith}
use Rattle.std.specs.Prelude.{◌&&◌, nat_lt}
use Rattle.std.specs.List.{list_all}
use Rattle.std.proofs.lemmas.Bool.{and_parts, ltb-true}
use Rattle.rd_num.specs.declared.width.Width.{Width}
use Rattle.rd_num.specs.declared.width.Width.TheVariants.{W1, W8, W16, W32, W64}
use Rattle.rd_num.specs.Number.{bits}
use Rattle.ir_core.specs.declared.instruction.BinOp.{BinOp}
use Rattle.ir_core.specs.declared.instruction.BinOp.TheVariants.{Add, Sub, Mul, Udiv, Sdiv, Urem, Srem, Shl, Lshr, Ashr, And, Or, Xor}
use Rattle.ir_core.specs.declared.instruction.CastOp.{CastOp}
use Rattle.ir_core.specs.declared.instruction.CastOp.TheVariants.{Trunc, Zext, Sext}
use Rattle.ir_core.specs.declared.instruction.Op.{Op}
use Rattle.ir_core.specs.declared.instruction.Op.TheVariants.{Bin, Compare, Cast, Select, Freeze, Alloca, Load, Store, Gep, Phi, Call}
use Rattle.ir_core.specs.declared.kind.Kind.{Kind}
use Rattle.ir_core.specs.declared.kind.Kind.TheVariants.{NoValue, Number, Pointer}
use Rattle.ir_core.specs.declared.limit.TheConstants.{MAX_PARAMETERS}
use Rattle.ir_core.specs.declared.module.Function.{Function}
use Rattle.ir_core.specs.declared.module.Module.{Module}
use Rattle.ir_core.specs.declared.operand.Operand.{Operand}
use Rattle.ir_core.specs.Counts.{argument_counts}
use Rattle.ir_core.specs.Kinds.{kind_of}
use Rattle.ir_core.specs.Mentions.{OfType, of_operand, of_typed, of_args, of_callee, of_op}
use Rattle.ir_core.specs.Typing.{Env, bin_fits, cast_fits, is_result, kinds_of, callee_fits, arg_fits, operand_fits, op_fits}
use Rattle.ir_core.specs.Valid.{named_locals}
use Rattle.ir_sound.specs.WellTyped.{Each}
use Rattle.ir_sound.proofs.RowLaws.{Each_both, Each_parts}
use Rattle.ir_sound.proofs.SameLaws.{not_true}
use Rattle.ir_context.specs.declared.origin.Origin.{Origin}
use Rattle.ir_context.specs.Origins.{arg_origin}
use Rattle.ir_context.specs.Paths.{path_of}
use Rattle.low_core.specs.declared.sel.SelAlu.TheVariants as alu
use Rattle.low_core.specs.declared.sel.SelOp.{SelOp}
use Rattle.low_core.specs.declared.sel.SelOp.TheVariants as sel
use Rattle.low_core.specs.SelShaped.{IsWide, IsAnyBelow}
use Rattle.low_core.specs.Weights.{allocas_room}
use Rattle.isel_rows.specs.Variables.{width_of}
use Rattle.isel_rows.specs.Brought.{Brought, operand_brought}
use Rattle.isel_rows.specs.Calls.{register_into}
use Rattle.isel_rows.specs.Rows.{register_or_idle, result_register, bin_op, cast_op, stored_width, load_ops, moved_ops, path_taken, ops_of}
use Rattle.isel.proofs.Mentioned.{IsFine}
use Rattle.isel.proofs.ShapeForms.{vs, count, most, Fits, IsBelow, copy_fits, alu_fits, div_fits, widen_fits, test_fits, pick_fits, load_fits, store_fits, frame_fits}
use Rattle.isel.proofs.ShapeOrigins.{path_stands, taken_stands, args_stand}
use Rattle.isel.proofs.ShapeBrought.{behind_variables, operand_fits as operand_brings}
use Rattle.isel.proofs.ShapeMoved.{moved_fits}
use Rattle.isel.proofs.ShapeCalls.{into_below, call_fit}

-- the width at which is stored
stored_wide : (w : Width) → IsWide (stored_width w)
stored_wide W1 = tt
stored_wide W8 = tt
stored_wide W16 = tt
stored_wide W32 = tt
stored_wide W64 = tt

-- where truth values have no such operation, a number has more than one bit
wide_by : (op : BinOp) (w : Width) → bin_fits op (Number w) ≡ true → bin_fits op (Number W1) ≡ false → IsWide w
wide_by op W1 typed none = not_true (sym none ∙ typed)
wide_by op W8 typed none = tt
wide_by op W16 typed none = tt
wide_by op W32 typed none = tt
wide_by op W64 typed none = tt

-- and a number it is
bin_number : (op : BinOp) (kind : Kind) → bin_fits op kind ≡ true → (w : Width) × (kind ≡ Number w)
bin_number op (Number w) e = (w, refl)
bin_number And NoValue e = not_true e
bin_number Or NoValue e = not_true e
bin_number Xor NoValue e = not_true e
bin_number op NoValue e = not_true e
bin_number And Pointer e = not_true e
bin_number Or Pointer e = not_true e
bin_number Xor Pointer e = not_true e
bin_number op Pointer e = not_true e

-- widths go up
below_bits : (v w : Width) → nat_lt (bits v) (bits w) ≡ true → bits v ≤ bits w
below_bits v w less = let a = ltb-true (bits v) (bits w) less in omega (arith, a)

module _ (m : Module) (fn : Function) where
  -- a register of the function
  abbrev Below : ℕ → Type 0
  Below r = IsBelow m fn r

  -- single operations
  plain_fits : (op : BinOp) (w : Width) (r s t : ℕ) → bin_fits op (Number w) ≡ true → Below r → Below s → Below t → Fits m fn (bin_op op w r s t)
  plain_fits Add w r s t typed to first second = alu_fits m fn alu.Add w r s t (wide_by Add w typed refl) to first second
  plain_fits Sub w r s t typed to first second = alu_fits m fn alu.Sub w r s t (wide_by Sub w typed refl) to first second
  plain_fits Mul w r s t typed to first second = alu_fits m fn alu.Mul w r s t (wide_by Mul w typed refl) to first second
  plain_fits Udiv w r s t typed to first second = div_fits m fn false false w r s t (wide_by Udiv w typed refl) to first second
  plain_fits Sdiv w r s t typed to first second = div_fits m fn true false w r s t (wide_by Sdiv w typed refl) to first second
  plain_fits Urem w r s t typed to first second = div_fits m fn false true w r s t (wide_by Urem w typed refl) to first second
  plain_fits Srem w r s t typed to first second = div_fits m fn true true w r s t (wide_by Srem w typed refl) to first second
  plain_fits Shl w r s t typed to first second = alu_fits m fn alu.Shl w r s t (wide_by Shl w typed refl) to first second
  plain_fits Lshr w r s t typed to first second = alu_fits m fn alu.Shr w r s t (wide_by Lshr w typed refl) to first second
  plain_fits Ashr w r s t typed to first second = alu_fits m fn alu.Sar w r s t (wide_by Ashr w typed refl) to first second
  plain_fits And w r s t typed to first second = alu_fits m fn alu.And w r s t tt to first second
  plain_fits Or w r s t typed to first second = alu_fits m fn alu.Or w r s t tt to first second
  plain_fits Xor w r s t typed to first second = alu_fits m fn alu.Xor w r s t tt to first second

  -- an operation on two numbers
  bin_op_fits : (op : BinOp) (kind : Kind) (r s t : ℕ) → bin_fits op kind ≡ true → Below r → Below s → Below t → Fits m fn (bin_op op (width_of kind) r s t)
  bin_op_fits op kind r s t typed to first second =
      let n = bin_number op kind typed in
      subst (λ k. Fits m fn (bin_op op (width_of k) r s t)) (sym n.1) (plain_fits op n.0 r s t (subst (λ k. bin_fits op k ≡ true) n.1 typed) to first second)

  -- a cast
  cast_op_fits : (op : CastOp) (from into : Kind) (r s : ℕ) → cast_fits op from into ≡ true → Below r → Below s → Fits m fn (cast_op op (width_of from) (width_of into) r s)
  cast_op_fits Trunc (Number v) (Number w) r s typed to first = widen_fits m fn false w w r s (omega arith) to first
  cast_op_fits Zext (Number v) (Number w) r s typed to first = widen_fits m fn false v w r s (below_bits v w typed) to first
  cast_op_fits Sext (Number v) (Number w) r s typed to first = widen_fits m fn true v w r s (below_bits v w typed) to first
  cast_op_fits op from into r s typed to first = not_true typed

  -- a load
  load_ops_fit : (w : Width) (r s : ℕ) → Below r → Below s → Each (Fits m fn) (load_ops w r s)
  load_ops_fit W1 r s to first = (load_fits m fn W8 r s tt to first, (widen_fits m fn false W1 W8 r r (omega arith) to to, tt))
  load_ops_fit W8 r s to first = (load_fits m fn W8 r s tt to first, tt)
  load_ops_fit W16 r s to first = (load_fits m fn W16 r s tt to first, tt)
  load_ops_fit W32 r s to first = (load_fits m fn W32 r s tt to first, tt)
  load_ops_fit W64 r s to first = (load_fits m fn W64 r s tt to first, tt)

  -- where a result goes that is always assigned
  result_below : (into : Option (List ℕ)) → Below (result_register (vs m fn) into)
  result_below into = of_into (register_into (vs m fn) into) (into_below m fn into)
    where
      of_into : (o : Option ℕ) → IsAnyBelow (count m fn) o → Below (register_or_idle (vs m fn) o)
      of_into (Some r) below = below
      of_into None below = behind_variables m fn 6 (omega arith)

  -- one operand, or two or three
  abbrev At : ℕ → Kind → Operand → Brought
  At k kind a = operand_brought m (vs m fn) k kind a

  -- an operand in front of what fits
  one_fit : (k : ℕ) (kind : Kind) (a : Operand) (rest : List SelOp) → k < 3 → Each (IsFine m) (of_operand a) → Each (Fits m fn) rest → Each (Fits m fn) ((At k kind a).ops ++ rest)
  one_fit k kind a rest few fine others = Each_both (Fits m fn) (At k kind a).ops rest (operand_brings m fn k kind a few fine).ops others

  -- and its register
  register_fits : (k : ℕ) (kind : Kind) (a : Operand) → k < 3 → Each (IsFine m) (of_operand a) → Below (At k kind a).register
  register_fits k kind a few fine = (operand_brings m fn k kind a few fine).register

  -- the arguments of a call are few
  abbrev pub AreFew : Op → Type 0
  AreFew op = Each (λ n. (n ≤ most m fn) × (n ≤ MAX_PARAMETERS)) (argument_counts op)

  -- an instruction
  pub op_fit : (env : Env) (at : ℕ) (into : Option (List ℕ)) (op : Op) → op_fits m env op ≡ true → Each (IsFine m) (of_op op) → AreFew op → at ≤ allocas_room m.types fn → Each (Fits m fn) (ops_of m (vs m fn) at into op)
  op_fit env at into (Bin op ty a b) typed fine few room =
      let p = and_parts (bin_fits op (kind_of ty)) (operand_fits m env (kind_of ty) a && operand_fits m env (kind_of ty) b) typed in
      let q = Each_parts (IsFine m) (of_typed ty a) (of_operand b) fine in
      let last : SelOp = bin_op op (width_of (kind_of ty)) (result_register (vs m fn) into) (At 0 (kind_of ty) a).register (At 1 (kind_of ty) b).register in
      one_fit 0 (kind_of ty) a ((At 1 (kind_of ty) b).ops ++ last ∷ []) (omega arith) q.0.1
      (one_fit 1 (kind_of ty) b (last ∷ []) (omega arith) q.1 (
        bin_op_fits op (kind_of ty) (result_register (vs m fn) into) (At 0 (kind_of ty) a).register (At 1 (kind_of ty) b).register p.0 (result_below into)
            (register_fits 0 (kind_of ty) a (omega arith) q.0.1) (register_fits 1 (kind_of ty) b (omega arith) q.1),
        tt,
      ))
  op_fit env at into (Compare pred ty a b) typed fine few room =
      let q = Each_parts (IsFine m) (of_typed ty a) (of_operand b) fine in
      let last : SelOp = sel.Test pred (width_of (kind_of ty)) (result_register (vs m fn) into) (At 0 (kind_of ty) a).register (At 1 (kind_of ty) b).register in
      one_fit 0 (kind_of ty) a ((At 1 (kind_of ty) b).ops ++ last ∷ []) (omega arith) q.0.1
      (one_fit 1 (kind_of ty) b (last ∷ []) (omega arith) q.1 (
        test_fits m fn pred (width_of (kind_of ty)) (result_register (vs m fn) into) (At 0 (kind_of ty) a).register (At 1 (kind_of ty) b).register (result_below into)
            (register_fits 0 (kind_of ty) a (omega arith) q.0.1) (register_fits 1 (kind_of ty) b (omega arith) q.1),
        tt,
      ))
  op_fit env at into (Cast op from a to) typed fine few room =
      let p = and_parts (cast_fits op (kind_of from) (kind_of to)) (operand_fits m env (kind_of from) a) typed in
      let q = Each_parts (IsFine m) (of_typed from a) (OfType to ∷ []) fine in
      let source : ℕ = (At 0 (kind_of from) a).register in
      one_fit 0 (kind_of from) a (cast_op op (width_of (kind_of from)) (width_of (kind_of to)) (result_register (vs m fn) into) source ∷ []) (omega arith) q.0.1
      (cast_op_fits op (kind_of from) (kind_of to) (result_register (vs m fn) into) source p.0 (result_below into) (register_fits 0 (kind_of from) a (omega arith) q.0.1), tt)
  op_fit env at into (Select condition ty a ty2 b) typed fine few room =
      let q = Each_parts (IsFine m) (of_operand condition) (of_typed ty a ++ of_typed ty2 b) fine in
      let r = Each_parts (IsFine m) (of_typed ty a) (of_typed ty2 b) q.1 in
      let last : SelOp = sel.Pick (result_register (vs m fn) into) (At 0 (Number W1) condition).register (At 1 (kind_of ty) a).register (At 2 (kind_of ty2) b).register in
      one_fit 0 (Number W1) condition ((At 1 (kind_of ty) a).ops ++ ((At 2 (kind_of ty2) b).ops ++ last ∷ [])) (omega arith) q.0
      (one_fit 1 (kind_of ty) a ((At 2 (kind_of ty2) b).ops ++ last ∷ []) (omega arith) r.0.1
      (one_fit 2 (kind_of ty2) b (last ∷ []) (omega arith) r.1.1 (
        pick_fits m fn (result_register (vs m fn) into) (At 0 (Number W1) condition).register (At 1 (kind_of ty) a).register (At 2 (kind_of ty2) b).register (result_below into)
            (register_fits 0 (Number W1) condition (omega arith) q.0) (register_fits 1 (kind_of ty) a (omega arith) r.0.1) (register_fits 2 (kind_of ty2) b (omega arith) r.1.1),
        tt,
      )))
  op_fit env at into (Freeze ty a) typed fine few room =
      let source : ℕ = (At 0 (kind_of ty) a).register in
      one_fit 0 (kind_of ty) a (sel.Copy (result_register (vs m fn) into) source ∷ []) (omega arith) fine.1
      (copy_fits m fn (result_register (vs m fn) into) source (result_below into) (register_fits 0 (kind_of ty) a (omega arith) fine.1), tt)
  op_fit env at into (Alloca ty count) typed fine few room = (frame_fits m fn (result_register (vs m fn) into) at (result_below into) room, tt)
  op_fit env at into (Load ty p) typed fine few room =
      let source : ℕ = (At 0 Pointer p).register in
      one_fit 0 Pointer p (load_ops (width_of (kind_of ty)) (result_register (vs m fn) into) source) (omega arith) fine.1
      (load_ops_fit (width_of (kind_of ty)) (result_register (vs m fn) into) source (result_below into) (register_fits 0 Pointer p (omega arith) fine.1))
  op_fit env at into (Store ty a p) typed fine few room =
      let q = Each_parts (IsFine m) (of_typed ty a) (of_operand p) fine in
      let width : Width = stored_width (width_of (kind_of ty)) in
      let last : SelOp = sel.Store width (At 1 Pointer p).register (At 0 (kind_of ty) a).register in
      one_fit 0 (kind_of ty) a ((At 1 Pointer p).ops ++ last ∷ []) (omega arith) q.0.1
      (one_fit 1 Pointer p (last ∷ []) (omega arith) q.1 (
        store_fits m fn width (At 1 Pointer p).register (At 0 (kind_of ty) a).register (stored_wide (width_of (kind_of ty)))
            (register_fits 1 Pointer p (omega arith) q.1) (register_fits 0 (kind_of ty) a (omega arith) q.0.1),
        tt,
      ))
  op_fit env at into (Gep ty p indices) typed fine few room =
      let q = Each_parts (IsFine m) (of_typed ty p) (of_args indices) fine in
      let os : List Origin = map (arg_origin m (named_locals (vs m fn))) indices in
      let source : ℕ = (At 0 Pointer p).register in
      Each_both (Fits m fn) (At 0 Pointer p).ops (moved_ops (vs m fn) (result_register (vs m fn) into) (path_taken (path_of m.types ty os)) source) (operand_brings m fn 0 Pointer p (omega arith) q.0.1).ops
      (moved_fits m fn (result_register (vs m fn) into) (path_taken (path_of m.types ty os)) source (result_below into)
      (taken_stands m (vs m fn) (path_of m.types ty os) (λ r e. path_stands m (vs m fn) ty os r (args_stand m (vs m fn) indices q.1) e)) (register_fits 0 Pointer p (omega arith) q.0.1))
  op_fit env at into (Call ret callee args) typed fine few room =
      let p = and_parts (is_result ret) (callee_fits m env (kind_of ret) (kinds_of args) callee && list_all (arg_fits m env) args) typed in
      let r = and_parts (callee_fits m env (kind_of ret) (kinds_of args) callee) (list_all (arg_fits m env) args) p.1 in
      let q = Each_parts (IsFine m) (of_callee callee) (of_args args) fine.1 in
      call_fit m fn env into (kind_of ret) callee args r.0 few.0.0 few.0.1 q.1
  op_fit env at into (Phi ty entries) typed fine few room = tt
