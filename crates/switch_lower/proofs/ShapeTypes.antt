-- Operands, instructions and ends that fit still do, where what has a kind still has it.
use Rattle.std.proofs.Common.{◌≡◌, ℕ, ◌-◌, ◌^◌, Bool, true, false, List, [], ◌∷◌, map, Option, Some, None, refl, ap, ◌∙◌, arith}
use Rattle.std.specs.Prelude.{◌&&◌, ◌||◌, ◌%◌, is_some, pos, negsuc, ℤ}
use Rattle.std.specs.List.{list_all}
use Rattle.std.proofs.lemmas.Bool.{and_parts, and_from, lt-ltb}
use Rattle.std.proofs.lemmas.Nat.{pow_pos}
use Rattle.rd_num.specs.declared.width.Width.{Width}
use Rattle.rd_num.specs.declared.width.Width.TheVariants.{W1, W8, W16, W32, W64}
use Rattle.rd_num.specs.Number.{bits}
use Rattle.ir_core.specs.declared.kind.Kind.{Kind}
use Rattle.ir_core.specs.declared.kind.Kind.TheVariants.{NoValue, Number, Pointer}
use Rattle.ir_core.specs.declared.ty.Ty.{Ty}
use Rattle.ir_core.specs.declared.operand.Operand.{Operand}
use Rattle.ir_core.specs.declared.operand.Operand.TheVariants.{Int, Bool as Truth, Null as NullWord, Undef, Poison, Local as LocalName, Global, Const}
use Rattle.ir_core.specs.declared.instruction.Arg.{Arg}
use Rattle.ir_core.specs.declared.instruction.Entry.{Entry}
use Rattle.ir_core.specs.declared.instruction.Op.{Op}
use Rattle.ir_core.specs.declared.instruction.Op.TheVariants.{Bin, Compare, Cast, Select, Freeze, Alloca, Load, Store, Gep, Phi, Call}
use Rattle.ir_core.specs.declared.instruction.Term.{Term}
use Rattle.ir_core.specs.declared.instruction.Term.TheVariants.{Ret, RetValue, Br, BrIf, Switch, Unreachable}
use Rattle.ir_core.specs.declared.module.Function.{Function}
use Rattle.ir_core.specs.declared.module.Module.{Module}
use Rattle.ir_core.specs.Names.{same_name, first_where}
use Rattle.ir_core.specs.Kinds.{kind_of, same_kind, literal}
use Rattle.ir_core.specs.Operands.{global_number}
use Rattle.ir_core.specs.Typing.{Env, is_value, is_number, is_result, is_index, has_kind, int_fits, operand_fits, known_arg, leads_from, arg_fits, bin_fits, cast_fits, into_fits, term_fits}
use Rattle.ir_core.specs.Valid.{types_of, named_called, callee_rules, op_rules, case_number}
use Rattle.ir_sound.proofs.SameLaws.{not_true}
use Rattle.low_core.specs.declared.moves.Body.{Body}
use Rattle.low_core.specs.Plain.{plain}
use Rattle.low_core.specs.Shaped.{is_lean_end}
use Rattle.switch_lower.specs.Bodies.{bodies_without_switches}
use Rattle.switch_lower.proofs.ShapeKinds.{More}
use Rattle.switch_lower.proofs.ShapeBase.{found_same, numbers_same}

module _ (base : Module) (bodies : List Body) (env env2 : Env) (more : More env env2) where
  abbrev m : Module
  m = plain base bodies

  abbrev w : Module
  w = plain base (bodies_without_switches base bodies)

  pub operand_more : (kind : Kind) (a : Operand) → operand_fits (plain base bodies) env kind a ≡ true → operand_fits (plain base (bodies_without_switches base bodies)) env2 kind a ≡ true
  operand_more kind (Int n) e = e
  operand_more kind (Truth b) e = e
  operand_more kind NullWord e = e
  operand_more kind Undef e = e
  operand_more kind Poison e = e
  operand_more kind (LocalName name) e = let p = and_parts (is_value kind) (has_kind (env name) kind) e in and_from _ _ p.0 (more name kind p.1)
  operand_more kind (Global name) e = ap (λ o. same_kind kind Pointer && (is_some (global_number base name) || is_some o)) (numbers_same base bodies name) ∙ e
  operand_more kind (Const place) e = e

  args_more : (args : List Arg) → list_all (arg_fits m env) args ≡ true → list_all (arg_fits w env2) args ≡ true
  args_more [] e = refl
  args_more (a ∷ args) e =
      let p = and_parts (arg_fits m env a) (list_all (arg_fits m env) args) e in
      let q = and_parts (is_value (kind_of a.ty)) (operand_fits m env (kind_of a.ty) a.value) p.0 in
      and_from _ _ (and_from _ _ q.0 (operand_more (kind_of a.ty) a.value q.1)) (args_more args p.1)

  indices_more : (args : List Arg) → list_all (λ (a : Arg). is_index (kind_of a.ty) && operand_fits m env (kind_of a.ty) a.value) args ≡ true → list_all (λ (a : Arg). is_index (kind_of a.ty) && operand_fits w env2 (kind_of a.ty) a.value) args ≡ true
  indices_more [] e = refl
  indices_more (a ∷ args) e =
      let p = and_parts (is_index (kind_of a.ty) && operand_fits m env (kind_of a.ty) a.value) (list_all (λ (x : Arg). is_index (kind_of x.ty) && operand_fits m env (kind_of x.ty) x.value) args) e in
      let q = and_parts (is_index (kind_of a.ty)) (operand_fits m env (kind_of a.ty) a.value) p.0 in
      and_from _ _ (and_from _ _ q.0 (operand_more (kind_of a.ty) a.value q.1)) (indices_more args p.1)

  called_same : (name : List ℕ) (ret : Ty) (types : List Ty) (o : Option Function) → named_called w name ret types o ≡ named_called m name ret types o
  called_same name ret types (Some f) = refl
  called_same name ret types None = refl

  callee_more : (ret : Ty) (types : List Ty) (callee : Operand) → callee_rules m env ret types callee ≡ true → callee_rules w env2 ret types callee ≡ true
  callee_more ret types (LocalName name) e = more name Pointer e
  callee_more ret types (Global name) e =
      found_same (named_called w name ret types) name (λ f b. refl) base.functions bodies ∙ called_same name ret types (first_where (λ (f : Function). same_name f.name name) m.functions) ∙ e
  callee_more ret types (Int n) e = not_true e
  callee_more ret types (Truth b) e = not_true e
  callee_more ret types NullWord e = not_true e
  callee_more ret types Undef e = not_true e
  callee_more ret types Poison e = not_true e
  callee_more ret types (Const place) e = not_true e

  two_more : (test : Bool) (kind : Kind) (a b : Operand) → (test && (operand_fits m env kind a && operand_fits m env kind b)) ≡ true → (test && (operand_fits w env2 kind a && operand_fits w env2 kind b)) ≡ true
  two_more test kind a b e =
      let p = and_parts test (operand_fits m env kind a && operand_fits m env kind b) e in
      let q = and_parts (operand_fits m env kind a) (operand_fits m env kind b) p.1 in
      and_from _ _ p.0 (and_from _ _ (operand_more kind a q.0) (operand_more kind b q.1))

  one_more : (test : Bool) (kind : Kind) (a : Operand) → (test && operand_fits m env kind a) ≡ true → (test && operand_fits w env2 kind a) ≡ true
  one_more test kind a e = let p = and_parts test (operand_fits m env kind a) e in and_from _ _ p.0 (operand_more kind a p.1)

  entries_more : (kind : Kind) (es : List Entry) → list_all (λ (x : Entry). operand_fits m env kind x.value) es ≡ true → list_all (λ (x : Entry). operand_fits w env2 kind x.value) es ≡ true
  entries_more kind [] e = refl
  entries_more kind (x ∷ xs) e =
      let p = and_parts (operand_fits m env kind x.value) (list_all (λ (y : Entry). operand_fits m env kind y.value) xs) e in
      and_from _ _ (operand_more kind x.value p.0) (entries_more kind xs p.1)

  pub op_more : (op : Op) → op_rules (plain base bodies) env op ≡ true → op_rules (plain base (bodies_without_switches base bodies)) env2 op ≡ true
  op_more (Bin op ty a b) e = two_more (bin_fits op (kind_of ty)) (kind_of ty) a b e
  op_more (Compare pred ty a b) e = two_more (is_value (kind_of ty)) (kind_of ty) a b e
  op_more (Cast op from a to) e = one_more (cast_fits op (kind_of from) (kind_of to)) (kind_of from) a e
  op_more (Select condition ty a ty2 b) e =
      let two = operand_fits m env (kind_of ty) a && operand_fits m env (kind_of ty2) b in
      let p = and_parts _ ((is_value (kind_of ty) && same_kind (kind_of ty) (kind_of ty2)) && two) e in
      let q = and_parts (is_value (kind_of ty) && same_kind (kind_of ty) (kind_of ty2)) two p.1 in
      let r = and_parts (operand_fits m env (kind_of ty) a) (operand_fits m env (kind_of ty2) b) q.1 in
      and_from _ _ (operand_more (Number W1) condition p.0) (and_from _ _ q.0 (and_from _ _ (operand_more (kind_of ty) a r.0) (operand_more (kind_of ty2) b r.1)))
  op_more (Freeze ty a) e = one_more (is_value (kind_of ty)) (kind_of ty) a e
  op_more (Alloca ty count) e = refl
  op_more (Load ty p) e = one_more (is_value (kind_of ty)) Pointer p e
  op_more (Store ty a p) e =
      let q = and_parts (is_value (kind_of ty)) (operand_fits m env (kind_of ty) a && operand_fits m env Pointer p) e in
      let r = and_parts (operand_fits m env (kind_of ty) a) (operand_fits m env Pointer p) q.1 in
      and_from _ _ q.0 (and_from _ _ (operand_more (kind_of ty) a r.0) (operand_more Pointer p r.1))
  op_more (Gep ty p indices) e =
      let are : Bool = list_all (λ (a : Arg). is_index (kind_of a.ty) && operand_fits m env (kind_of a.ty) a.value) indices in
      let q = and_parts (operand_fits m env Pointer p) (are && leads_from m.types ty (map known_arg indices)) e in
      let r = and_parts are (leads_from m.types ty (map known_arg indices)) q.1 in
      and_from _ _ (operand_more Pointer p q.0) (and_from _ _ (indices_more indices r.0) r.1)
  op_more (Phi ty entries) e =
      let p = and_parts (is_value (kind_of ty)) (list_all (λ (x : Entry). operand_fits m env (kind_of ty) x.value) entries) e in
      and_from _ _ p.0 (entries_more (kind_of ty) entries p.1)
  op_more (Call ret callee args) e =
      let p = and_parts (is_result ret) (callee_rules m env ret (types_of args) callee && list_all (arg_fits m env) args) e in
      let q = and_parts (callee_rules m env ret (types_of args) callee) (list_all (arg_fits m env) args) p.1 in
      and_from _ _ p.0 (and_from _ _ (callee_more ret (types_of args) callee q.0) (args_more args q.1))

  pub into_more : (into : Option (List ℕ)) (kind : Kind) → into_fits env into kind ≡ true → into_fits env2 into kind ≡ true
  into_more (Some name) kind e = let p = and_parts (is_value kind) (has_kind (env name) kind) e in and_from _ _ p.0 (more name kind p.1)
  into_more None kind e = refl

  pub term_more : (ret : Kind) (end : Term) → is_lean_end end ≡ true → term_fits (plain base bodies) env ret end ≡ true → term_fits (plain base (bodies_without_switches base bodies)) env2 ret end ≡ true
  term_more ret Ret lean e = e
  term_more ret (RetValue ty a) lean e =
      let p = and_parts (is_value ret) (same_kind (kind_of ty) ret && operand_fits m env ret a) e in
      let q = and_parts (same_kind (kind_of ty) ret) (operand_fits m env ret a) p.1 in
      and_from _ _ p.0 (and_from _ _ q.0 (operand_more ret a q.1))
  term_more ret (Br to) lean e = refl
  term_more ret (BrIf condition taken other) lean e = operand_more (Number W1) condition e
  term_more ret (Switch ty a default cases) lean e = not_true lean
  term_more ret Unreachable lean e = refl

-- a number is a value
pub number_value : (kind : Kind) → is_number kind ≡ true → is_value kind ≡ true
number_value NoValue e = e
number_value (Number w) e = refl
number_value Pointer e = refl

-- the numbers of cases fit as literals
literal_fits : (w : Width) (n : ℤ) → int_fits (Number w) (pos (literal w n)) ≡ true
literal_fits w (pos n) = let p = pow_pos (bits w) in lt-ltb (n % 2 ^ bits w) (2 ^ bits w) (omega arith)
literal_fits w (negsuc n) = let p = pow_pos (bits w) in lt-ltb (2 ^ bits w - 1 - n % 2 ^ bits w) (2 ^ bits w) (omega arith)

pub nought_fits : (kind : Kind) → is_number kind ≡ true → int_fits kind (pos 0) ≡ true
nought_fits NoValue e = not_true e
nought_fits (Number w) e = lt-ltb 0 (2 ^ bits w) (pow_pos (bits w))
nought_fits Pointer e = not_true e

one_fits : (w : Width) → int_fits (Number w) (pos 1) ≡ true
one_fits W1 = refl
one_fits W8 = refl
one_fits W16 = refl
one_fits W32 = refl
one_fits W64 = refl

pub case_fits_number : (kind : Kind) (v : Operand) → is_number kind ≡ true → int_fits kind (pos (case_number kind v)) ≡ true
case_fits_number NoValue v e = not_true e
case_fits_number Pointer v e = not_true e
case_fits_number (Number w) (Int n) e = literal_fits w n
case_fits_number (Number w) (Truth true) e = one_fits w
case_fits_number (Number w) (Truth false) e = nought_fits (Number w) refl
case_fits_number (Number w) v e = nought_fits (Number w) refl
