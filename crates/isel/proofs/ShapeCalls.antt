-- What is selected for a call fits the function: as many arguments as parameters, and a result where there is one.
use Rattle.std.proofs.Common.{◌≡◌, ℕ, zero, suc, ◌+◌, ◌<◌, ◌≤◌, Bool, true, false, List, [], ◌∷◌, length, map, take, Option, Some, None, slice_get, refl, ap, sym, ◌∙◌, subst, arith}
use Rattle.std.specs.Prelude.{option_map, option_and_then, if◌then◌else◌}
use Rattle.std.proofs.lemmas.Bool.{and_parts}
use Rattle.std.proofs.lemmas.List.{length-take-le}
use Rattle.std.proofs.lemmas.Option.{slice_get-map}
use Rattle.rd_num.specs.declared.width.Width.TheVariants.{W1, W8, W32, W64}
use Rattle.ir_core.specs.declared.instruction.Arg.{Arg}
use Rattle.ir_core.specs.declared.kind.Kind.{Kind}
use Rattle.ir_core.specs.declared.kind.Kind.TheVariants.{NoValue, Number, Pointer}
use Rattle.ir_core.specs.declared.limit.TheConstants.{MAX_PARAMETERS}
use Rattle.ir_core.specs.declared.module.Function.{Function}
use Rattle.ir_core.specs.declared.module.Module.{Module}
use Rattle.ir_core.specs.declared.module.Param.{Param}
use Rattle.ir_core.specs.declared.operand.Operand.{Operand}
use Rattle.ir_core.specs.declared.operand.Operand.TheVariants.{Int, Bool as Truth, Null as NullWord, Undef, Poison, Local as LocalName, Global, Const}
use Rattle.ir_core.specs.declared.outer.Outer.{Outer}
use Rattle.ir_core.specs.declared.outer.Outer.TheVariants as outside
use Rattle.ir_core.specs.Calls.{outer_of, same_kinds, is_called_as}
use Rattle.ir_core.specs.Kinds.{kind_of, same_kind}
use Rattle.ir_core.specs.Mentions.{of_typed, of_args}
use Rattle.ir_core.specs.Names.{same_name, number_where, first_where}
use Rattle.ir_core.specs.Operands.{function_number}
use Rattle.ir_core.specs.Typing.{Env, kinds_of, outer_fits, named_fits, callee_fits}
use Rattle.ir_core.specs.Valid.{named_locals}
use Rattle.ir_sound.specs.WellTyped.{Each}
use Rattle.ir_sound.proofs.RowLaws.{Each_both, Each_parts, length_map, item_at, number_below}
use Rattle.ir_sound.proofs.SameLaws.{not_true, none_is, kinds_are}
use Rattle.ir_context.specs.Registers.{number_of}
use Rattle.ir_context.specs.Origins.{register_of}
use Rattle.low_core.specs.declared.sel.SelOp.{SelOp}
use Rattle.low_core.specs.declared.sel.SelOp.TheVariants.{Call, CallAt, Outside}
use Rattle.low_core.specs.declared.sel.Which.{Which}
use Rattle.low_core.specs.declared.sel.Which.TheVariants.{Putchar, Getchar, Exit, Memcpy, Memset, Trap}
use Rattle.low_core.specs.SelShaped.{IsAnyBelow, HasResult, arity}
use Rattle.isel_rows.specs.Variables.{idle_register, register_read}
use Rattle.isel_rows.specs.Brought.{AllBrought, args_brought}
use Rattle.isel_rows.specs.Calls.{register_into, behind_args, idle_ops, outside_ops, outer_ops, named_ops, call_ops}
use Rattle.isel_rows.specs.Functions.{function_selected, numbers_from}
use Rattle.isel_rows.specs.Selected.{module_selected}
use Rattle.isel.proofs.Mentioned.{IsFine}
use Rattle.isel.proofs.ShapeForms.{vs, count, most, registers_least, Fits, IsBelow, set_fits, call_fits, address_fits, outside_fits}
use Rattle.isel.proofs.ShapeOrigins.{variable_below, register_stands}
use Rattle.isel.proofs.ShapeBrought.{behind_variables, read_below, args_fit, args_count}

-- the first item that passes is that of the number
pub first_by_number : {X : Type 0} (test : X → Bool) (xs : List X) → first_where test xs ≡ option_and_then (slice_get xs) (number_where test xs)
first_by_number test [] = refl
first_by_number {X = X} test (x ∷ xs) = of_test (test x) (first_by_number test xs)
  where
    shifted : (o : Option ℕ) → option_and_then (slice_get xs) o ≡ option_and_then (slice_get (x ∷ xs)) (option_map (λ k. suc k) o)
    shifted (Some k) = refl
    shifted None = refl

    of_test : (b : Bool) → first_where test xs ≡ option_and_then (slice_get xs) (number_where test xs)
        → (if b then Some x else first_where test xs) ≡ option_and_then (slice_get (x ∷ xs)) (if b then Some 0 else option_map (λ k. suc k) (number_where test xs))
    of_test true go = refl
    of_test false go = go ∙ shifted (number_where test xs)

-- as many numbers
pub numbers_length : (first n : ℕ) → length (numbers_from first n) ≡ n
numbers_length first zero = refl
numbers_length first (suc n) = ap (λ k. suc k) (numbers_length (first + 1) n)

-- a function of the program has as many parameters as that of the module
pub selected_at : (m : Module) (f : ℕ) (g : Function) → slice_get m.functions f ≡ Some g → slice_get (module_selected m).functions f ≡ Some (function_selected m g)
selected_at m f g there = slice_get-map (function_selected m) m.functions f ∙ ap (option_map (function_selected m)) there

-- of two rows of the same kinds both are equally long
called_length : (f : Function) (ret : Kind) (args : List Arg) → is_called_as f ret (kinds_of args) ≡ true → length f.params ≡ length args
called_length f ret args e =
    let p = and_parts (same_kind (kind_of f.ret) ret) (same_kinds (map (λ (p : Param). kind_of p.ty) f.params) (kinds_of args)) e in
    let same = ap length (kinds_are (map (λ (p : Param). kind_of p.ty) f.params) (kinds_of args) p.1) in
    let a = length_map (λ (p : Param). kind_of p.ty) f.params in
    let b = length_map (λ (x : Arg). kind_of x.ty) args in
    omega (arith, same, a, b)

-- a function outside is given as many arguments as it reads
kinds_length : (args : List Arg) (ks : List Kind) → same_kinds (kinds_of args) ks ≡ true → length args ≡ length ks
kinds_length args ks e = let b = length_map (λ (x : Arg). kind_of x.ty) args in let same = ap length (kinds_are (kinds_of args) ks e) in omega (arith, same, b)

-- a front of arguments is fine
front_fine : (m : Module) (n : ℕ) (args : List Arg) → Each (IsFine m) (of_args args) → Each (IsFine m) (of_args (take n args))
front_fine m zero args fine = tt
front_fine m (suc n) [] fine = tt
front_fine m (suc n) (a ∷ args) fine =
    let p = Each_parts (IsFine m) (of_typed a.ty a.value) (of_args args) fine in
    Each_both (IsFine m) (of_typed a.ty a.value) (of_args (take n args)) p.0 (front_fine m n args p.1)

module _ (m : Module) (fn : Function) where
  -- where a result goes
  pub into_below : (into : Option (List ℕ)) → IsAnyBelow (count m fn) (register_into (vs m fn) into)
  into_below None = tt
  into_below (Some name) = of_number (number_of (named_locals (vs m fn)) name) (variable_below m (vs m fn) name)
    where
      of_number : (o : Option ℕ) → ((k : ℕ) → o ≡ Some k → k < length (vs m fn)) → IsAnyBelow (count m fn) o
      of_number None go = tt
      of_number (Some k) go = let least = registers_least m fn in let low = go k refl in omega (arith, least, low)

  -- a call behind its arguments
  arguments_fit : (args : List Arg) (call : List ℕ → SelOp) → length args ≤ most m fn → Each (IsFine m) (of_args args) → ((rs : List ℕ) → length rs ≡ length args → Each (IsBelow m fn) rs → Fits m fn (call rs))
      → Each (Fits m fn) (behind_args (args_brought m (vs m fn) 0 args) call)
  arguments_fit args call few fine go =
      let b : AllBrought = args_brought m (vs m fn) 0 args in
      let a = args_fit m fn 0 args (omega (arith, few)) fine in
      Each_both (Fits m fn) b.ops (call b.registers ∷ []) a.ops (go b.registers (args_count m (vs m fn) 0 args) a.registers, tt)

  -- a function outside
  outer_fit : (into : Option ℕ) (which : Which) (args : List Arg) → arity which ≤ length args → HasResult which into → IsAnyBelow (count m fn) into → length args ≤ most m fn → length args ≤ MAX_PARAMETERS → Each (IsFine m) (of_args args)
      → Each (Fits m fn) (outside_ops m (vs m fn) into which args)
  outer_fit into which args enough result to few limit fine =
      let long = length-take-le (arity which) args enough in
      let front : length (take (arity which) args) ≤ length args = omega (arith, long, enough) in
      arguments_fit (take (arity which) args) (λ rs. Outside which into rs) (omega (arith, few, front)) (front_fine m (arity which) args fine)
      (λ rs same below. outside_fits m fn which into rs (same ∙ long) result to below (omega (arith, few, front, same)) (omega (arith, limit, front, same)))

  idle_fits : Each (Fits m fn) (idle_ops (vs m fn))
  idle_fits = (set_fits m fn (idle_register (vs m fn)) 0 (behind_variables m fn 6 (omega arith)) (omega arith), tt)

  -- by the name of a function outside
  outside_fit : (into : Option ℕ) (o : Outer) (ret : Kind) (args : List Arg) → outer_fits o ret (kinds_of args) ≡ true → IsAnyBelow (count m fn) into → length args ≤ most m fn → length args ≤ MAX_PARAMETERS → Each (IsFine m) (of_args args)
      → Each (Fits m fn) (outer_ops m (vs m fn) into o args)
  outside_fit into outside.Putchar ret args typed to few limit fine =
      let n = kinds_length args (Number W32 ∷ []) (and_parts (same_kind ret (Number W32)) (same_kinds (kinds_of args) (Number W32 ∷ [])) typed).1 in
      outer_fit into Putchar args (omega (arith, n)) (printed into) to few limit fine
    where
      printed : (o : Option ℕ) → HasResult Putchar o
      printed None = tt
      printed (Some r) = tt
  outside_fit into outside.Getchar ret args typed to few limit fine = outer_fit into Getchar args (omega arith) (taken into) to few limit fine
    where
      taken : (o : Option ℕ) → HasResult Getchar o
      taken None = tt
      taken (Some r) = tt
  outside_fit into outside.Exit ret args typed to few limit fine =
      let n = kinds_length args (Number W32 ∷ []) (and_parts (same_kind ret NoValue) (same_kinds (kinds_of args) (Number W32 ∷ [])) typed).1 in
      outer_fit None Exit args (omega (arith, n)) tt tt few limit fine
  outside_fit into outside.Memcpy ret args typed to few limit fine =
      let ks : List Kind = Pointer ∷ Pointer ∷ Number W64 ∷ Number W1 ∷ [] in
      let n = kinds_length args ks (and_parts (same_kind ret NoValue) (same_kinds (kinds_of args) ks) typed).1 in
      outer_fit None Memcpy args (omega (arith, n)) tt tt few limit fine
  outside_fit into outside.Memset ret args typed to few limit fine =
      let ks : List Kind = Pointer ∷ Number W8 ∷ Number W64 ∷ Number W1 ∷ [] in
      let n = kinds_length args ks (and_parts (same_kind ret NoValue) (same_kinds (kinds_of args) ks) typed).1 in
      outer_fit None Memset args (omega (arith, n)) tt tt few limit fine
  outside_fit into outside.TrapNow ret args typed to few limit fine = outer_fit None Trap args (omega arith) tt tt few limit fine
  outside_fit into outside.Lifetime ret args typed to few limit fine = idle_fits
  outside_fit into outside.NoOuter ret args typed to few limit fine = idle_fits

  -- by a name
  named_fit : (into : Option ℕ) (ret : Kind) (args : List Arg) (name : List ℕ) (o : Option ℕ) → named_fits m name ret (kinds_of args) (option_and_then (slice_get m.functions) o) ≡ true
      → ((k : ℕ) → o ≡ Some k → k < length m.functions) → IsAnyBelow (count m fn) into → length args ≤ most m fn → length args ≤ MAX_PARAMETERS → Each (IsFine m) (of_args args)
      → Each (Fits m fn) (named_ops m (vs m fn) into args name o)
  named_fit into ret args name None typed there to few limit fine = outside_fit into (outer_of name) ret args typed to few limit fine
  named_fit into ret args name (Some f) typed there to few limit fine = of_function (slice_get m.functions f) refl typed
    where
      of_function : (o : Option Function) → slice_get m.functions f ≡ o → named_fits m name ret (kinds_of args) o ≡ true → Each (Fits m fn) (named_ops m (vs m fn) into args name (Some f))
      of_function (Some g) is typed =
          arguments_fit args (λ rs. Call f into rs) few fine
          (λ rs same below. call_fits m fn f into rs
          (record { fn = function_selected m g; stands = selected_at m f g is; params = numbers_length 0 (length g.params) ∙ called_length g ret args typed ∙ sym same })
          to below (omega (arith, few, same)) (omega (arith, limit, same)))
      of_function None is typed = let x = item_at m.functions f (there f refl) in none_is x.0 (sym is ∙ x.1)

  -- by what is called
  pub call_fit : (env : Env) (into : Option (List ℕ)) (ret : Kind) (callee : Operand) (args : List Arg) → callee_fits m env ret (kinds_of args) callee ≡ true → length args ≤ most m fn → length args ≤ MAX_PARAMETERS
      → Each (IsFine m) (of_args args) → Each (Fits m fn) (call_ops m (vs m fn) (register_into (vs m fn) into) callee args)
  call_fit env into ret (Global name) args typed few limit fine =
      let test : Function → Bool = λ f. same_name f.name name in
      named_fit (register_into (vs m fn) into) ret args name (function_number m name)
      (subst (λ o. named_fits m name ret (kinds_of args) o ≡ true) (first_by_number test m.functions) typed)
      (λ k e. number_below test m.functions k e) (into_below into) few limit fine
  call_fit env into ret (LocalName name) args typed few limit fine =
      let number : Option ℕ = number_of (named_locals (vs m fn)) name in
      let source : ℕ = register_read (vs m fn) (register_of number) in
      arguments_fit args (λ rs. CallAt source (register_into (vs m fn) into) rs) few fine
      (λ rs same below. address_fits m fn source (register_into (vs m fn) into) rs (read_below m fn (register_of number) (register_stands m (vs m fn) number (variable_below m (vs m fn) name))) (into_below into) below
      (omega (arith, few, same)) (omega (arith, limit, same)))
  call_fit env into ret (Int n) args typed few limit fine = not_true typed
  call_fit env into ret (Truth b) args typed few limit fine = not_true typed
  call_fit env into ret NullWord args typed few limit fine = not_true typed
  call_fit env into ret Undef args typed few limit fine = not_true typed
  call_fit env into ret Poison args typed few limit fine = not_true typed
  call_fit env into ret (Const place) args typed few limit fine = not_true typed
