-- Two calls whose locals have the same values under all names that a text can have, in two modules whose functions have
-- the same names: operands, arguments and operations give the same.
use Rattle.std.proofs.Common.{◌≡◌, ℕ, Bool, true, false, List, [], ◌∷◌, Option, Some, None, Ok, Err, refl, ap, sym, ◌∙◌}
use Rattle.std.specs.Prelude.{◌&&◌, ◌^◌, nat_lt, length, option_map, if◌then◌else◌}
use Rattle.std.specs.List.{list_all}
use Rattle.std.proofs.lemmas.Bool.{and_parts}
use Rattle.ir_core.specs.declared.ty.Ty.{Ty}
use Rattle.ir_core.specs.declared.operand.Operand.{Operand}
use Rattle.ir_core.specs.declared.operand.Operand.TheVariants.{Int, Bool as Truth, Null as NullWord, Undef, Poison, Local as LocalName, Global, Const}
use Rattle.ir_core.specs.declared.instruction.Arg.{Arg}
use Rattle.ir_core.specs.declared.instruction.Op.{Op}
use Rattle.ir_core.specs.declared.instruction.Op.TheVariants.{Bin, Compare, Cast, Select, Freeze, Load, Gep}
use Rattle.ir_core.specs.declared.module.Function.{Function}
use Rattle.ir_core.specs.declared.module.Module.{Module}
use Rattle.ir_core.specs.declared.memory.Value.{Value}
use Rattle.ir_core.specs.declared.memory.Reason.TheVariants.{Unset}
use Rattle.ir_core.specs.Names.{same_name, first_where}
use Rattle.ir_core.specs.Stops.{Left, Answer, and_then, found_or}
use Rattle.ir_core.specs.declared.kind.Kind.{Kind}
use Rattle.ir_core.specs.declared.kind.Kind.TheVariants.{Number, Pointer}
use Rattle.ir_core.specs.Kinds.{kind_of}
use Rattle.ir_core.specs.Memory.{Memory}
use Rattle.ir_core.specs.State.{Local, with_local}
use Rattle.ir_core.specs.Operands.{local_value, function_number, global_number, named_value, value_of, values_of}
use Rattle.ir_core.specs.Calls.{target_named, target_of}
use Rattle.ir_core.specs.Step.{result_of}
use Rattle.ir_core.specs.Built.{name_built, operand_built, typed_built, type_built, arg_built, op_built, built_all, callee_built}
use Rattle.ir_sound.proofs.SameLaws.{not_true}
use Rattle.rd_num.specs.declared.width.Width.TheVariants.{W1}

-- what all of a list have that a text could say
pub all_built : {X : Type 0} (test : X → Bool) (xs : List X) → built_all test xs ≡ true → list_all test xs ≡ true
all_built test xs e = (and_parts (nat_lt (length xs) (2 ^ 32)) (list_all test xs) e).1

-- the second part of a step, where both parts are the same
pub then_same : {A B : Type 0} (a b : Answer A) (rest rest2 : A → Answer B) → a ≡ b → ((x : A) → rest x ≡ rest2 x) → and_then a rest ≡ and_then b rest2
then_same {A = A} a b rest rest2 same go = ap (λ c. and_then c rest) same ∙ both b
  where
    both : (c : Answer A) → and_then c rest ≡ and_then c rest2
    both (Ok x) = go x
    both (Err stop) = refl

-- a module with other functions
abbrev pub with_functions : Module → List Function → Module
with_functions m fs = record m { functions = fs }

-- names lead to the same functions
abbrev pub NamesAgree : Module → List Function → Type 0
NamesAgree m fs = (name : List ℕ) → function_number (with_functions m fs) name ≡ function_number m name

-- names that a text can have stand for the same values
abbrev pub Same : List Local → List Local → Type 0
Same locals locals2 = (name : List ℕ) → name_built name ≡ true → local_value locals name ≡ local_value locals2 name

-- one more local, on both sides
pub one_more : (l : Local) (locals locals2 : List Local) (name : List ℕ) → local_value locals name ≡ local_value locals2 name → local_value (l ∷ locals) name ≡ local_value (l ∷ locals2) name
one_more l locals locals2 name same = by_test (same_name l.name name)
  where
    by_test : (b : Bool) → found_or (Left Unset) (option_map (λ (x : Local). x.value) (if b then Some l else first_where (λ (x : Local). same_name x.name name) locals)) ≡ found_or (Left Unset) (option_map (λ (x : Local). x.value) (if b then Some l else first_where (λ (x : Local). same_name x.name name) locals2))
    by_test true = refl
    by_test false = same

-- a result, on both sides
pub with_same : (into : Option (List ℕ)) (v : Value) (locals locals2 : List Local) → Same locals locals2 → Same (with_local into v locals) (with_local into v locals2)
with_same (Some into) v locals locals2 same = λ name built. one_more (record { name = into; value = v }) locals locals2 name (same name built)
with_same None v locals locals2 same = same

module _ (m : Module) (fs : List Function) (agree : NamesAgree m fs) where
  -- the module with other functions
  abbrev pub w : Module
  w = with_functions m fs

  -- an operand
  pub value_same : (locals locals2 : List Local) (kind : Kind) (a : Operand) → Same locals locals2 → operand_built a ≡ true → value_of m locals kind a ≡ value_of w locals2 kind a
  value_same locals locals2 kind (Int n) same built = refl
  value_same locals locals2 kind (Truth b) same built = refl
  value_same locals locals2 kind NullWord same built = refl
  value_same locals locals2 kind Undef same built = refl
  value_same locals locals2 kind Poison same built = refl
  value_same locals locals2 kind (LocalName name) same built = same name built
  value_same locals locals2 kind (Global name) same built = ap (named_value (global_number m name)) (sym (agree name))
  value_same locals locals2 kind (Const place) same built = refl

  -- one that stands behind its type
  pub typed_same : (locals locals2 : List Local) (ty : Ty) (a : Operand) → Same locals locals2 → typed_built ty a ≡ true → value_of m locals (kind_of ty) a ≡ value_of w locals2 (kind_of ty) a
  typed_same locals locals2 ty a same built = value_same locals locals2 (kind_of ty) a same (and_parts (type_built ty) (operand_built a) built).1

  -- arguments
  pub values_same : (locals locals2 : List Local) (args : List Arg) → Same locals locals2 → list_all arg_built args ≡ true → values_of m locals args ≡ values_of w locals2 args
  values_same locals locals2 [] same built = refl
  values_same locals locals2 (a ∷ args) same built =
      let p = and_parts (arg_built a) (list_all arg_built args) built in
      then_same (value_of m locals (kind_of a.ty) a.value) (value_of w locals2 (kind_of a.ty) a.value) _ _ (typed_same locals locals2 a.ty a.value same p.0)
      (λ v. then_same (values_of m locals args) (values_of w locals2 args) _ _ (values_same locals locals2 args same p.1) (λ vs. refl))

  -- what is called
  pub target_same : (locals locals2 : List Local) (callee : Operand) → Same locals locals2 → callee_built callee ≡ true → target_of m locals callee ≡ target_of w locals2 callee
  target_same locals locals2 (LocalName name) same built = then_same (local_value locals name) (local_value locals2 name) _ _ (same name built) (λ v. refl)
  target_same locals locals2 (Global name) same built = ap (λ o. Ok (target_named name o)) (sym (agree name))
  target_same locals locals2 other same built = not_true built

  -- an operation that gives a value and changes nothing else
  pub result_same : (objects : Memory) (locals locals2 : List Local) (op : Op) → Same locals locals2 → op_built op ≡ true → result_of m objects locals op ≡ result_of w objects locals2 op
  result_same objects locals locals2 (Bin op ty a b) same built =
      let p = and_parts (typed_built ty a) (operand_built b) built in
      then_same (value_of m locals (kind_of ty) a) (value_of w locals2 (kind_of ty) a) _ _ (typed_same locals locals2 ty a same p.0)
      (λ x. then_same (value_of m locals (kind_of ty) b) (value_of w locals2 (kind_of ty) b) _ _ (value_same locals locals2 (kind_of ty) b same p.1) (λ y. refl))
  result_same objects locals locals2 (Compare pred ty a b) same built =
      let p = and_parts (typed_built ty a) (operand_built b) built in
      then_same (value_of m locals (kind_of ty) a) (value_of w locals2 (kind_of ty) a) _ _ (typed_same locals locals2 ty a same p.0)
      (λ x. then_same (value_of m locals (kind_of ty) b) (value_of w locals2 (kind_of ty) b) _ _ (value_same locals locals2 (kind_of ty) b same p.1) (λ y. refl))
  result_same objects locals locals2 (Cast op from a to) same built =
      let p = and_parts (typed_built from a) (type_built to) built in
      then_same (value_of m locals (kind_of from) a) (value_of w locals2 (kind_of from) a) _ _ (typed_same locals locals2 from a same p.0) (λ x. refl)
  result_same objects locals locals2 (Select condition ty a ty2 b) same built =
      let p = and_parts (operand_built condition) (typed_built ty a && typed_built ty2 b) built in
      let q = and_parts (typed_built ty a) (typed_built ty2 b) p.1 in
      then_same (value_of m locals (Number W1) condition) (value_of w locals2 (Number W1) condition) _ _ (value_same locals locals2 (Number W1) condition same p.0)
      (λ c. then_same (value_of m locals (kind_of ty) a) (value_of w locals2 (kind_of ty) a) _ _ (typed_same locals locals2 ty a same q.0)
      (λ x. then_same (value_of m locals (kind_of ty2) b) (value_of w locals2 (kind_of ty2) b) _ _ (typed_same locals locals2 ty2 b same q.1) (λ y. refl)))
  result_same objects locals locals2 (Freeze ty a) same built = typed_same locals locals2 ty a same built
  result_same objects locals locals2 (Load ty p) same built =
      then_same (value_of m locals Pointer p) (value_of w locals2 Pointer p) _ _ (value_same locals locals2 Pointer p same (and_parts (type_built ty) (operand_built p) built).1) (λ x. refl)
  result_same objects locals locals2 (Gep ty p indices) same built =
      let q = and_parts (typed_built ty p) (built_all arg_built indices) built in
      then_same (value_of m locals Pointer p) (value_of w locals2 Pointer p) _ _ (value_same locals locals2 Pointer p same (and_parts (type_built ty) (operand_built p) q.0).1)
      (λ x. then_same (values_of m locals indices) (values_of w locals2 indices) _ _ (values_same locals locals2 indices same (all_built arg_built indices q.1)) (λ is. refl))
  result_same objects locals locals2 other same built = refl
