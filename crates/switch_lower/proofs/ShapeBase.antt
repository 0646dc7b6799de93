-- Without switches a program has the types, the globals, the declarations and the names of functions that it had.
use Rattle.std.proofs.Common.{◌≡◌, ℕ, suc, ◌≤◌, Bool, true, false, List, [], ◌∷◌, ◌++◌, map, length, Option, Some, refl, ap, sym, ◌∙◌, subst}
use Rattle.std.specs.Prelude.{◌&&◌, ◌||◌, not, codes, is_some, option_map, if◌then◌else◌}
use Rattle.std.specs.List.{All, list_any, flat_map}
use Rattle.std.proofs.lemmas.Bool.{or_parts}
use Rattle.std.proofs.Math.Path.{fun_ext}
use Rattle.ir_core.specs.declared.limit.TheConstants.{MAX_NESTING, MAX_SIZE, MAX_FUNCTIONS, MAX_PARAMETERS}
use Rattle.ir_core.specs.declared.ty.Ty.{Ty}
use Rattle.ir_core.specs.declared.init.Init.{fold-Init}
use Rattle.ir_core.specs.declared.init.Init.TheOpen.{Init-F, Elem-F}
use Rattle.ir_core.specs.declared.kind.Kind.TheVariants.{Pointer}
use Rattle.ir_core.specs.declared.operand.Operand.{Operand}
use Rattle.ir_core.specs.declared.operand.Operand.TheVariants.{Int, Bool as Truth, Null as NullWord, Undef, Poison, Local as LocalName, Global, Const}
use Rattle.ir_core.specs.declared.module.Extern.{Extern}
use Rattle.ir_core.specs.declared.module.Function.{Function}
use Rattle.ir_core.specs.declared.module.GlobalVar.{GlobalVar}
use Rattle.ir_core.specs.declared.module.Module.{Module}
use Rattle.ir_core.specs.Names.{same_name, number_where, first_where}
use Rattle.ir_core.specs.Kinds.{kind_of, same_kind}
use Rattle.ir_core.specs.Operands.{global_number, function_number}
use Rattle.ir_core.specs.Counts.{depth_of, size_count, call_counts, parameter_counts}
use Rattle.ir_core.specs.Definitions.{global_mark, variable_names, extern_names, function_names, repeated}
use Rattle.ir_core.specs.Mentions.{of_function, of_global, mentions, written_types}
use Rattle.ir_core.specs.Valid.{Fitted, value_fits, init_fits_at, init_fits, extern_fits}
use Rattle.ir_core.specs.Refusals.{symbols, main_of, has_main, is_of_symbol, wrong_declaration, wrong_use, wrong_definition, external}
use Rattle.ir_sound.specs.WellTyped.{Each}
use Rattle.ir_sound.proofs.NoFaults.{both_empty, each_empty}
use Rattle.ir_sound.proofs.RowLaws.{Each_both, Each_parts, Each_rows, Each_more}
use Rattle.ir_sound.proofs.SameLaws.{not_true}
use Rattle.low_core.specs.declared.moves.Body.{Body}
use Rattle.low_core.specs.Plain.{with_bodies, plain}
use Rattle.switch_lower.specs.Bodies.{bodies_of, bodies_without_switches}
use Rattle.switch_lower.proofs.ShapeRows.{all_of, each_of, rows_each}
use Rattle.switch_lower.proofs.ShapeFunctions.{low_function, lean_function, functions_length, functions_named, functions_each}
use Rattle.switch_lower.proofs.ShapeLocals.{calls_kept}
use Rattle.switch_lower.proofs.ShapeMentions.{function_kept, mentions_kept, types_kept}

-- what is found under a name
abbrev named : List ℕ → Function → Bool
named name f = same_name f.name name

pub found_same : {A : Type 0} (P : Option Function → A) (name : List ℕ) → ((f : Function) (b : Body) → P (Some (lean_function f b)) ≡ P (Some (low_function f b))) → (fs : List Function) (bs : List Body) → P (first_where (λ (f : Function). same_name f.name name) (with_bodies fs (bodies_of fs bs))) ≡ P (first_where (λ (f : Function). same_name f.name name) (with_bodies fs bs))
found_same P name same [] bs = refl
found_same P name same (f ∷ fs) [] = refl
found_same P name same (f ∷ fs) (b ∷ bs) = by_test (same_name f.name name) (found_same P name same fs bs)
  where
    by_test : (t : Bool) → P (first_where (named name) (with_bodies fs (bodies_of fs bs))) ≡ P (first_where (named name) (with_bodies fs bs)) → P (if t then Some (lean_function f b) else first_where (named name) (with_bodies fs (bodies_of fs bs))) ≡ P (if t then Some (low_function f b) else first_where (named name) (with_bodies fs bs))
    by_test true go = same f b
    by_test false go = go

number_same : (name : List ℕ) (fs : List Function) (bs : List Body) → number_where (named name) (with_bodies fs (bodies_of fs bs)) ≡ number_where (named name) (with_bodies fs bs)
number_same name [] bs = refl
number_same name (f ∷ fs) [] = refl
number_same name (f ∷ fs) (b ∷ bs) = ap (λ o. if same_name f.name name then Some 0 else option_map (λ n. suc n) o) (number_same name fs bs)

module _ (base : Module) (bodies : List Body) where
  abbrev m : Module
  m = plain base bodies

  abbrev w : Module
  w = plain base (bodies_without_switches base bodies)

  pub numbers_same : (name : List ℕ) → function_number (plain base (bodies_without_switches base bodies)) name ≡ function_number (plain base bodies) name
  numbers_same name = number_same name base.functions bodies

  pub names_same : function_names (plain base (bodies_without_switches base bodies)) ≡ function_names (plain base bodies)
  names_same = functions_named base.functions bodies

  pub symbols_same : symbols (plain base (bodies_without_switches base bodies)) ≡ symbols (plain base bodies)
  symbols_same = ap (λ ns. variable_names base ++ (extern_names base ++ ns)) names_same

  pub lean_symbols : repeated [] (symbols (plain base bodies)) ≡ [] → repeated [] (symbols (plain base (bodies_without_switches base bodies))) ≡ []
  lean_symbols none = ap (repeated []) symbols_same ∙ none

  pub lean_few : length (plain base bodies).functions ≤ MAX_FUNCTIONS → length (plain base (bodies_without_switches base bodies)).functions ≤ MAX_FUNCTIONS
  lean_few few = subst (λ n. n ≤ MAX_FUNCTIONS) (sym (functions_length base.functions bodies)) few

  pub lean_main : has_main (main_of (plain base bodies)) ≡ true → has_main (main_of (plain base (bodies_without_switches base bodies))) ≡ true
  lean_main main = found_same has_main (codes "main") (λ f b. refl) base.functions bodies ∙ main

  -- initialisers
  value_same : (ty : Ty) (v : Operand) → value_fits w ty v ≡ value_fits m ty v
  value_same ty (Int n) = refl
  value_same ty (Truth b) = refl
  value_same ty NullWord = refl
  value_same ty Undef = refl
  value_same ty Poison = refl
  value_same ty (LocalName name) = refl
  value_same ty (Global name) = ap (λ o. same_kind (kind_of ty) Pointer && (is_some (global_number base name) || is_some o)) (numbers_same name)
  value_same ty (Const place) = refl

  level_same : (z : Init-F (Ty → Bool) Fitted) (ty : Ty) → init_fits_at w z ty ≡ init_fits_at m z ty
  level_same (Init-F.Value v) ty = value_same ty v
  level_same Init-F.Zero ty = refl
  level_same (Init-F.Text bytes) ty = refl
  level_same (Init-F.Array es) ty = refl
  level_same (Init-F.Struct es) ty = refl
  level_same (Init-F.Packed es) ty = refl

  inits_same : init_fits w ≡ init_fits m
  inits_same =
      let same : init_fits_at w ≡ init_fits_at m = fun_ext (λ z. fun_ext (λ ty. level_same z ty)) in
      ap (λ at. fold-Init (Ty → Bool) Fitted at (λ (e : Elem-F (Ty → Bool) Fitted). record { ty = e.ty; fits = e.init e.ty })) same

  pub lean_globals : All (λ (g : GlobalVar). init_fits (plain base bodies) g.init g.ty ≡ true) base.globals → All (λ (g : GlobalVar). init_fits (plain base (bodies_without_switches base bodies)) g.init g.ty ≡ true) base.globals
  lean_globals all = subst (λ fits. All (λ (g : GlobalVar). fits g.init g.ty ≡ true) base.globals) (sym inits_same) all

  -- types that are written
  pub lean_nested : All (λ ty. depth_of base.types ty ≤ MAX_NESTING) (written_types (plain base bodies)) → All (λ ty. depth_of base.types ty ≤ MAX_NESTING) (written_types (plain base (bodies_without_switches base bodies)))
  lean_nested all = all_of (λ ty. depth_of base.types ty ≤ MAX_NESTING) (written_types w) (types_kept (λ ty. depth_of base.types ty ≤ MAX_NESTING) base bodies (each_of (λ ty. depth_of base.types ty ≤ MAX_NESTING) (written_types m) all))

  pub lean_sized : All (λ ty. size_count base.types ty ≤ MAX_SIZE) (written_types (plain base bodies)) → All (λ ty. size_count base.types ty ≤ MAX_SIZE) (written_types (plain base (bodies_without_switches base bodies)))
  lean_sized all = all_of (λ ty. size_count base.types ty ≤ MAX_SIZE) (written_types w) (types_kept (λ ty. size_count base.types ty ≤ MAX_SIZE) base bodies (each_of (λ ty. size_count base.types ty ≤ MAX_SIZE) (written_types m) all))

  -- parameters and arguments
  abbrev row : Function → List ℕ
  row f = length f.params ∷ call_counts f

  pub lean_passed : All (λ n. n ≤ MAX_PARAMETERS) (parameter_counts (plain base bodies)) → All (λ n. n ≤ MAX_PARAMETERS) (parameter_counts (plain base (bodies_without_switches base bodies)))
  lean_passed all =
      let P : ℕ → Type 0 = λ n. n ≤ MAX_PARAMETERS in
      let outer = map (λ (e : Extern). length e.params) base.externs in
      let p = Each_parts P outer (flat_map row m.functions) (each_of P (parameter_counts m) all) in
      let functions = functions_each (λ (f : Function). Each P (row f)) (λ (f : Function). Each P (row f)) (λ f b has. (has.0, subst (Each P) (sym (calls_kept f b)) has.1)) base.functions bodies (Each_rows P row m.functions p.1) in
      all_of P (parameter_counts w) (Each_both P outer (flat_map row w.functions) p.0 (rows_each P row w.functions functions))

-- nothing comes of rows that are empty
pub empty_each : {X S : Type 0} (faults : X → List S) (xs : List X) → Each (λ x. faults x ≡ []) xs → flat_map faults xs ≡ []
empty_each faults [] all = refl
empty_each faults (x ∷ xs) all = ap (λ l. l ++ flat_map faults xs) all.0 ∙ empty_each faults xs all.1

-- a test that no item passes
none_any : {X : Type 0} (test : X → Bool) (xs : List X) → list_any test xs ≡ false → Each (λ x. test x ≡ false) xs
none_any test [] e = tt
none_any test (x ∷ xs) e = let p = or_parts (test x) (list_any test xs) e in (p.0, none_any test xs p.1)

any_none : {X : Type 0} (test : X → Bool) (xs : List X) → Each (λ x. test x ≡ false) xs → list_any test xs ≡ false
any_none test [] all = refl
any_none test (x ∷ xs) all = ap (λ b. b || list_any test xs) all.0 ∙ any_none test xs all.1

-- what stands outside of the module
pub lean_outside : (base : Module) (bodies : List Body) → external (plain base bodies) ≡ [] → external (plain base (bodies_without_switches base bodies)) ≡ []
lean_outside base bodies none =
    let m = plain base bodies in
    let w = plain base (bodies_without_switches base bodies) in
    let mine : Function → List (List ℕ) = λ (f : Function). wrong_definition f.name ++ flat_map (wrong_use base) (of_function f) in
    let p = both_empty (flat_map (wrong_use m) (flat_map of_global base.globals) ++ flat_map (wrong_declaration m) base.externs) (flat_map mine m.functions) none in
    let q = both_empty (flat_map (wrong_use m) (flat_map of_global base.globals)) (flat_map (wrong_declaration m) base.externs) p.0 in
    ap (λ l. l ++ flat_map (wrong_declaration w) base.externs ++ flat_map mine w.functions) q.0
    ∙ ap (λ l. l ++ flat_map mine w.functions) (empty_each (wrong_declaration w) base.externs (Each_more (λ (e : Extern). wrong_declaration m e ≡ []) (λ (e : Extern). wrong_declaration w e ≡ []) base.externs declared (each_empty (wrong_declaration m) base.externs q.1)))
    ∙ empty_each mine w.functions (functions_each (λ (f : Function). mine f ≡ []) (λ (f : Function). mine f ≡ []) uses base.functions bodies (each_empty mine m.functions p.1))
  where
    by_tests : (name : List ℕ) (x y fits : Bool) → (x ≡ false → y ≡ false) → (if x && not fits then global_mark name ∷ [] else []) ≡ [] → (if y && not fits then global_mark name ∷ [] else []) ≡ []
    by_tests name x false fits less none = refl
    by_tests name x true true less none = refl
    by_tests name true true false less none = none
    by_tests name false true false less none = not_true (sym (less refl))

    declared : (e : Extern) → wrong_declaration (plain base bodies) e ≡ [] → wrong_declaration (plain base (bodies_without_switches base bodies)) e ≡ []
    declared e none = by_tests e.name (list_any (is_of_symbol e.name) (mentions (plain base bodies))) (list_any (is_of_symbol e.name) (mentions (plain base (bodies_without_switches base bodies)))) (extern_fits e)
        (λ unused. any_none (is_of_symbol e.name) (mentions (plain base (bodies_without_switches base bodies))) (mentions_kept (λ x. is_of_symbol e.name x ≡ false) (λ name. refl) (λ name. refl) base bodies (none_any (is_of_symbol e.name) (mentions (plain base bodies)) unused))) none

    uses : (f : Function) (b : Body) → wrong_definition f.name ++ flat_map (wrong_use base) (of_function (low_function f b)) ≡ [] → wrong_definition f.name ++ flat_map (wrong_use base) (of_function (lean_function f b)) ≡ []
    uses f b none =
        let q = both_empty (wrong_definition f.name) (flat_map (wrong_use base) (of_function (low_function f b))) none in
        ap (λ l. l ++ flat_map (wrong_use base) (of_function (lean_function f b))) q.0
        ∙ empty_each (wrong_use base) (of_function (lean_function f b)) (function_kept (λ x. wrong_use base x ≡ []) (λ name. refl) (λ name. refl) f b (each_empty (wrong_use base) (of_function (low_function f b)) q.1))
