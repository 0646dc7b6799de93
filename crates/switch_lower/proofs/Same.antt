-- Two calls whose locals have the same values under all names of a function, in two programs whose functions have the
-- same names: operands, arguments and operations give the same.
use Rattle.std.proofs.Common.{◌≡◌, ℕ, ◌<◌, Bool, true, false, List, [], ◌∷◌, map, Option, Some, None, Ok, Err, refl, ap, sym, ◌∙◌, true≢false}
use Rattle.std.specs.Prelude.{◌&&◌, option_map, if◌then◌else◌}
use Rattle.std.specs.List.{list_all}
use Rattle.std.proofs.lemmas.Bool.{and_parts}
use Rattle.ir_core.specs.declared.ty.Ty.{Ty}
use Rattle.ir_core.specs.declared.operand.Operand.{Operand}
use Rattle.ir_core.specs.declared.operand.Operand.TheVariants.{Int, Bool as Truth, Null as NullWord, Undef, Poison, Local as LocalName, Global, Const}
use Rattle.ir_core.specs.declared.instruction.Arg.{Arg}
use Rattle.ir_core.specs.declared.instruction.Op.{Op}
use Rattle.ir_core.specs.declared.instruction.Op.TheVariants.{Bin, Compare, Cast, Select, Freeze, Load, Gep}
use Rattle.ir_core.specs.declared.module.Function.{Function}
use Rattle.ir_core.specs.declared.module.Module.{Module}
use Rattle.ir_core.specs.declared.memory.Value.{Value}
use Rattle.ir_core.specs.declared.memory.Reason.TheVariants.{Unset}
use Rattle.ir_core.specs.declared.kind.Kind.{Kind}
use Rattle.ir_core.specs.declared.kind.Kind.TheVariants.{Number, Pointer}
use Rattle.ir_core.specs.Names.{same_name, first_where}
use Rattle.ir_core.specs.Stops.{Left, Answer, and_then, found_or}
use Rattle.ir_core.specs.Kinds.{kind_of, same_kind}
use Rattle.ir_core.specs.Memory.{Memory}
use Rattle.ir_core.specs.State.{Local, with_local}
use Rattle.ir_core.specs.Operands.{local_value, function_number, global_number, named_value, value_of, values_of}
use Rattle.ir_core.specs.Calls.{target_named, target_of}
use Rattle.ir_core.specs.Step.{result_of}
use Rattle.ir_core.specs.Typing.{Env, has_kind, is_value, is_index, operand_fits, arg_fits, bin_fits, cast_fits, known_arg, leads_from, op_fits}
use Rattle.ir_core.specs.Valid.{callee_rules}
use Rattle.rd_num.specs.declared.width.Width.TheVariants.{W1}
use Rattle.switch_lower.specs.Fresh.{zeros_of}

pub not_true : {A : Type 0} → false ≡ true → A
not_true e = absurd (true≢false (sym e))

-- the second part of a step, where both parts are the same
pub then_same : {A B : Type 0} (a b : Answer A) (rest rest2 : A → Answer B) → a ≡ b → ((x : A) → rest x ≡ rest2 x) → and_then a rest ≡ and_then b rest2
then_same {A = A} a b rest rest2 same go = ap (λ c. and_then c rest) same ∙ both b
  where
    both : (c : Answer A) → and_then c rest ≡ and_then c rest2
    both (Ok x) = go x
    both (Err stop) = refl

-- a module with other functions
abbrev pub with_functions : Module → List Function → Module
with_functions m fs = record m { functions = fs }

-- names lead to the same functions
abbrev pub NamesAgree : Module → List Function → Type 0
NamesAgree m fs = (name : List ℕ) → function_number (with_functions m fs) name ≡ function_number m name

-- names with fewer zero bytes in front stand for the same values
abbrev pub Same : ℕ → List Local → List Local → Type 0
Same padding locals locals2 = (name : List ℕ) → zeros_of name < padding → local_value locals name ≡ local_value locals2 name

-- one more local, on both sides
pub one_more : (l : Local) (locals locals2 : List Local) (name : List ℕ) → local_value locals name ≡ local_value locals2 name → local_value (l ∷ locals) name ≡ local_value (l ∷ locals2) name
one_more l locals locals2 name same = by_test (same_name l.name name)
  where
    by_test : (b : Bool) → found_or (Left Unset) (option_map (λ (x : Local). x.value) (if b then Some l else first_where (λ (x : Local). same_name x.name name) locals)) ≡ found_or (Left Unset) (option_map (λ (x : Local). x.value) (if b then Some l else first_where (λ (x : Local). same_name x.name name) locals2))
    by_test true = refl
    by_test false = same

-- a result, on both sides
pub with_same : (padding : ℕ) (into : Option (List ℕ)) (v : Value) (locals locals2 : List Local) → Same padding locals locals2 → Same padding (with_local into v locals) (with_local into v locals2)
with_same padding (Some into) v locals locals2 same = λ name few. one_more (record { name = into; value = v }) locals locals2 name (same name few)
with_same padding None v locals locals2 same = same

-- the locals of a function have fewer zero bytes in front
abbrev pub IsUnder : ℕ → Env → Type 0
IsUnder padding env = (name : List ℕ) (kind : Kind) → has_kind (env name) kind ≡ true → zeros_of name < padding

module _ (m : Module) (fs : List Function) (agree : NamesAgree m fs) (padding : ℕ) (env : Env) (under : IsUnder padding env) (locals locals2 : List Local) (same : Same padding locals locals2) where
  -- the module with other functions
  abbrev pub w : Module
  w = with_functions m fs

  -- an operand, at the kind that it fits or at another
  pub value_any : (kind fit : Kind) (a : Operand) → operand_fits m env fit a ≡ true → value_of m locals kind a ≡ value_of w locals2 kind a
  value_any kind fit (Int n) fits = refl
  value_any kind fit (Truth b) fits = refl
  value_any kind fit NullWord fits = refl
  value_any kind fit Undef fits = refl
  value_any kind fit Poison fits = refl
  value_any kind fit (LocalName name) fits = same name (under name fit (and_parts (is_value fit) (has_kind (env name) fit) fits).1)
  value_any kind fit (Global name) fits = ap (named_value (global_number m name)) (sym (agree name))
  value_any kind fit (Const place) fits = refl

  pub value_same : (kind : Kind) (a : Operand) → operand_fits m env kind a ≡ true → value_of m locals kind a ≡ value_of w locals2 kind a
  value_same kind a fits = value_any kind kind a fits

  -- arguments that pass a test by which their values fit
  pub values_same : (test : Arg → Bool) → ((a : Arg) → test a ≡ true → operand_fits m env (kind_of a.ty) a.value ≡ true) → (args : List Arg) → list_all test args ≡ true → values_of m locals args ≡ values_of w locals2 args
  values_same test each [] fits = refl
  values_same test each (a ∷ args) fits =
      let p = and_parts (test a) (list_all test args) fits in
      then_same (value_of m locals (kind_of a.ty) a.value) (value_of w locals2 (kind_of a.ty) a.value) _ _ (value_same (kind_of a.ty) a.value (each a p.0))
      (λ v. then_same (values_of m locals args) (values_of w locals2 args) _ _ (values_same test each args p.1) (λ vs. refl))

  -- those of a call
  pub arguments_same : (args : List Arg) → list_all (arg_fits m env) args ≡ true → values_of m locals args ≡ values_of w locals2 args
  arguments_same args fits = values_same (arg_fits m env) (λ a f. (and_parts (is_value (kind_of a.ty)) (operand_fits m env (kind_of a.ty) a.value) f).1) args fits

  -- what is called
  pub target_same : (ret : Ty) (types : List Ty) (callee : Operand) → callee_rules m env ret types callee ≡ true → target_of m locals callee ≡ target_of w locals2 callee
  target_same ret types (LocalName name) fits = then_same (local_value locals name) (local_value locals2 name) _ _ (same name (under name Pointer fits)) (λ v. refl)
  target_same ret types (Global name) fits = ap (λ o. Ok (target_named name o)) (sym (agree name))
  target_same ret types other fits = not_true fits

  -- an operation that gives a value and changes nothing else
  pub result_same : (objects : Memory) (op : Op) → op_fits m env op ≡ true → result_of m objects locals op ≡ result_of w objects locals2 op
  result_same objects (Bin op ty a b) fits =
      let p = and_parts (bin_fits op (kind_of ty)) (operand_fits m env (kind_of ty) a && operand_fits m env (kind_of ty) b) fits in
      let q = and_parts (operand_fits m env (kind_of ty) a) (operand_fits m env (kind_of ty) b) p.1 in
      then_same (value_of m locals (kind_of ty) a) (value_of w locals2 (kind_of ty) a) _ _ (value_same (kind_of ty) a q.0)
      (λ x. then_same (value_of m locals (kind_of ty) b) (value_of w locals2 (kind_of ty) b) _ _ (value_same (kind_of ty) b q.1) (λ y. refl))
  result_same objects (Compare pred ty a b) fits =
      let p = and_parts (is_value (kind_of ty)) (operand_fits m env (kind_of ty) a && operand_fits m env (kind_of ty) b) fits in
      let q = and_parts (operand_fits m env (kind_of ty) a) (operand_fits m env (kind_of ty) b) p.1 in
      then_same (value_of m locals (kind_of ty) a) (value_of w locals2 (kind_of ty) a) _ _ (value_same (kind_of ty) a q.0)
      (λ x. then_same (value_of m locals (kind_of ty) b) (value_of w locals2 (kind_of ty) b) _ _ (value_same (kind_of ty) b q.1) (λ y. refl))
  result_same objects (Cast op from a to) fits =
      let p = and_parts (cast_fits op (kind_of from) (kind_of to)) (operand_fits m env (kind_of from) a) fits in
      then_same (value_of m locals (kind_of from) a) (value_of w locals2 (kind_of from) a) _ _ (value_same (kind_of from) a p.1) (λ x. refl)
  result_same objects (Select condition ty a ty2 b) fits =
      let p = and_parts (operand_fits m env (Number W1) condition) ((is_value (kind_of ty) && same_kind (kind_of ty) (kind_of ty2)) && (operand_fits m env (kind_of ty) a && operand_fits m env (kind_of ty2) b)) fits in
      let q = and_parts (is_value (kind_of ty) && same_kind (kind_of ty) (kind_of ty2)) (operand_fits m env (kind_of ty) a && operand_fits m env (kind_of ty2) b) p.1 in
      let r = and_parts (operand_fits m env (kind_of ty) a) (operand_fits m env (kind_of ty2) b) q.1 in
      then_same (value_of m locals (Number W1) condition) (value_of w locals2 (Number W1) condition) _ _ (value_same (Number W1) condition p.0)
      (λ c. then_same (value_of m locals (kind_of ty) a) (value_of w locals2 (kind_of ty) a) _ _ (value_same (kind_of ty) a r.0)
      (λ x. then_same (value_of m locals (kind_of ty2) b) (value_of w locals2 (kind_of ty2) b) _ _ (value_same (kind_of ty2) b r.1) (λ y. refl)))
  result_same objects (Freeze ty a) fits = value_same (kind_of ty) a (and_parts (is_value (kind_of ty)) (operand_fits m env (kind_of ty) a) fits).1
  result_same objects (Load ty p) fits =
      then_same (value_of m locals Pointer p) (value_of w locals2 Pointer p) _ _ (value_same Pointer p (and_parts (is_value (kind_of ty)) (operand_fits m env Pointer p) fits).1) (λ x. refl)
  result_same objects (Gep ty p indices) fits =
      let index = λ (a : Arg). is_index (kind_of a.ty) && operand_fits m env (kind_of a.ty) a.value in
      let q = and_parts (operand_fits m env Pointer p) (list_all index indices && leads_from m.types ty (map known_arg indices)) fits in
      let r = and_parts (list_all index indices) (leads_from m.types ty (map known_arg indices)) q.1 in
      then_same (value_of m locals Pointer p) (value_of w locals2 Pointer p) _ _ (value_same Pointer p q.0)
      (λ x. then_same (values_of m locals indices) (values_of w locals2 indices) _ _ (values_same index (λ a f. (and_parts (is_index (kind_of a.ty)) (operand_fits m env (kind_of a.ty) a.value) f).1) indices r.0) (λ is. refl))
  result_same objects other fits = refl
