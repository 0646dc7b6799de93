-- A module without its phis has the types, the globals, the declarations and the names of functions of the module.
use Rattle.std.proofs.Common.{◌≡◌, ℕ, ◌+◌, ◌≤◌, Bool, true, List, [], ◌∷◌, ◌++◌, map, length, Option, Some, None, refl, ap, sym, ◌∙◌, subst, arith}
use Rattle.std.specs.Prelude.{◌&&◌, ◌||◌, codes, is_some, option_map}
use Rattle.std.specs.List.{All, flat_map, enumerate_from}
use Rattle.std.proofs.lemmas.List.{append-nil, append_assoc}
use Rattle.std.proofs.Math.Path.{fun_ext}
use Rattle.ir_core.specs.declared.limit.Spot.{Spot}
use Rattle.ir_core.specs.declared.limit.TheConstants.{MAX_FUNCTIONS, MAX_CODE}
use Rattle.ir_core.specs.declared.ty.Ty.{Ty}
use Rattle.ir_core.specs.declared.init.Init.{fold-Init}
use Rattle.ir_core.specs.declared.init.Init.TheOpen.{Init-F, Elem-F}
use Rattle.ir_core.specs.declared.operand.Operand.{Operand}
use Rattle.ir_core.specs.declared.operand.Operand.TheVariants.{Int, Bool as Truth, Null as NullWord, Undef, Poison, Local as LocalName, Global, Const}
use Rattle.ir_core.specs.declared.module.Extern.{Extern}
use Rattle.ir_core.specs.declared.module.Function.{Function}
use Rattle.ir_core.specs.declared.module.GlobalVar.{GlobalVar}
use Rattle.ir_core.specs.declared.module.Module.{Module}
use Rattle.ir_core.specs.Names.{same_name}
use Rattle.ir_core.specs.declared.kind.Kind.TheVariants.{Pointer}
use Rattle.ir_core.specs.Kinds.{kind_of, same_kind}
use Rattle.ir_core.specs.Operands.{global_number}
use Rattle.ir_core.specs.Definitions.{local_mark, global_mark, type_names, variable_names, extern_names, function_names, local_names, repeated, repeated_in}
use Rattle.ir_core.specs.Valid.{Fitted, value_fits, init_fits_at, init_fits, declaration_fits, unless, faults_in_function}
use Rattle.ir_core.specs.Refusals.{IsValid, symbols, main_of, has_main}
use Rattle.ir_core.proofs.Distinct.{fresh, fresh_back, types_differ}
use Rattle.ir_sound.specs.WellTyped.{Each}
use Rattle.ir_sound.proofs.NoFaults.{both_empty, map_empty, unless_passes, unrefused}
use Rattle.ir_sound.proofs.RowLaws.{length_map}
use Rattle.low_core.specs.Plain.{plain}
use Rattle.low_core.specs.Weights.{weight}
use Rattle.phi_lower.specs.Lowered.{bodies_without_phis}
use Rattle.phi_lower.proofs.Turns.{lowered, without_phis}
use Rattle.phi_lower.proofs.Finds.{first_map}
use Rattle.phi_lower.proofs.Keeps.{plain_is, agreed}
use Rattle.phi_lower.proofs.LightLaws.{valid_weighs}
use Rattle.phi_lower.proofs.ShapeLimits.{all_of, limits_kept}

-- functions keep their names
names_same : (fs : List Function) → map (λ (f : Function). f.name) (map lowered fs) ≡ map (λ (f : Function). f.name) fs
names_same [] = refl
names_same (f ∷ fs) = ap (λ ns. f.name ∷ ns) (names_same fs)

pub functions_named : (m : Module) → function_names (without_phis m) ≡ function_names m
functions_named m = names_same m.functions

pub symbols_same : (m : Module) → symbols (without_phis m) ≡ symbols m
symbols_same m = ap (λ ns. variable_names m ++ (extern_names m ++ ns)) (functions_named m)

-- rows of names that don't repeat, one behind the other
both_apart : (before xs ys : List (List ℕ)) → repeated before xs ≡ [] → repeated (before ++ xs) ys ≡ [] → repeated before (xs ++ ys) ≡ []
both_apart before [] ys first second = ap (λ b. repeated b ys) (sym (append-nil before)) ∙ second
both_apart before (x ∷ xs) ys first second =
    let f = fresh before x xs first in
    fresh_back before x (xs ++ ys) (record { new = f.new; rest = both_apart (before ++ x ∷ []) xs ys f.rest (ap (λ b. repeated b ys) (append_assoc before (x ∷ []) xs) ∙ second) })

-- names of functions that don't repeat behind others
functions_apart : (before : List (List ℕ)) (fs : List Function) → repeated_in before fs ≡ [] → repeated before (map (λ (f : Function). f.name) fs) ≡ []
functions_apart before [] none = refl
functions_apart before (f ∷ fs) none =
    let p = both_empty (map global_mark (repeated before (f.name ∷ [])) ++ map local_mark (repeated [] (local_names f))) (repeated_in (before ++ f.name ∷ []) fs) none in
    let q = both_empty (map global_mark (repeated before (f.name ∷ []))) (map local_mark (repeated [] (local_names f))) p.0 in
    let name = fresh before f.name [] (map_empty global_mark (repeated before (f.name ∷ [])) q.0) in
    fresh_back before f.name (map (λ (g : Function). g.name) fs) (record { new = name.new; rest = functions_apart (before ++ f.name ∷ []) fs p.1 })

pub shaped_types : (m : Module) → IsValid m → repeated [] (type_names (without_phis m)) ≡ []
shaped_types m valid = types_differ m (unrefused m valid.accepted).doubled

pub shaped_symbols : (m : Module) → IsValid m → repeated [] (symbols (without_phis m)) ≡ []
shaped_symbols m valid =
    let front = variable_names m ++ extern_names m in
    let p = both_empty (map local_mark (repeated [] (type_names m)) ++ map global_mark (repeated [] front)) (repeated_in front m.functions) (unrefused m valid.accepted).doubled in
    let q = both_empty (map local_mark (repeated [] (type_names m))) (map global_mark (repeated [] front)) p.0 in
    let outer = map_empty global_mark (repeated [] front) q.1 in
    ap (repeated []) (symbols_same m) ∙ ap (repeated []) (sym (append_assoc (variable_names m) (extern_names m) (function_names m)))
    ∙ both_apart [] front (function_names m) outer (functions_apart front m.functions p.1)

-- as many functions
pub shaped_few : (m : Module) → IsValid m → length (without_phis m).functions ≤ MAX_FUNCTIONS
shaped_few m valid = let e : length (map lowered m.functions) ≡ length m.functions = length_map lowered m.functions in let k = (limits_kept m (unrefused m valid.accepted).limited).functions in omega arith

-- `main`
main_same : (o : Option Function) → has_main (option_map lowered o) ≡ has_main o
main_same (Some f) = refl
main_same None = refl

pub shaped_main : (m : Module) → IsValid m → has_main (main_of (without_phis m)) ≡ true
shaped_main m valid =
    ap has_main (first_map (λ (f : Function). same_name f.name (codes "main")) lowered m.functions) ∙ main_same (main_of m) ∙ (unrefused m valid.accepted).main

-- initialisers
value_same : (m : Module) (ty : Ty) (v : Operand) → value_fits (without_phis m) ty v ≡ value_fits m ty v
value_same m ty (Int n) = refl
value_same m ty (Truth b) = refl
value_same m ty NullWord = refl
value_same m ty Undef = refl
value_same m ty Poison = refl
value_same m ty (LocalName name) = refl
value_same m ty (Global name) = ap (λ o. same_kind (kind_of ty) Pointer && (is_some (global_number m name) || is_some o)) (agreed m name)
value_same m ty (Const place) = refl

level_same : (m : Module) (z : Init-F (Ty → Bool) Fitted) (ty : Ty) → init_fits_at (without_phis m) z ty ≡ init_fits_at m z ty
level_same m (Init-F.Value v) ty = value_same m ty v
level_same m Init-F.Zero ty = refl
level_same m (Init-F.Text bytes) ty = refl
level_same m (Init-F.Array es) ty = refl
level_same m (Init-F.Struct es) ty = refl
level_same m (Init-F.Packed es) ty = refl

pub inits_same : (m : Module) → init_fits (without_phis m) ≡ init_fits m
inits_same m =
    let same : init_fits_at (without_phis m) ≡ init_fits_at m = fun_ext (λ z. fun_ext (λ ty. level_same m z ty)) in
    ap (λ at. fold-Init (Ty → Bool) Fitted at (λ (e : Elem-F (Ty → Bool) Fitted). record { ty = e.ty; fits = e.init e.ty })) same

globals_fit : (m : Module) (k : ℕ) (gs : List GlobalVar) → flat_map (λ (p : ℕ × GlobalVar). unless (init_fits m p.1.init p.1.ty) (Spot.Global p.0)) (enumerate_from k gs) ≡ [] → Each (λ (g : GlobalVar). init_fits m g.init g.ty ≡ true) gs
globals_fit m k [] none = tt
globals_fit m k (g ∷ gs) none =
    let p = both_empty (unless (init_fits m g.init g.ty) (Spot.Global k)) (flat_map (λ (q : ℕ × GlobalVar). unless (init_fits m q.1.init q.1.ty) (Spot.Global q.0)) (enumerate_from (k + 1) gs)) none in
    (unless_passes (init_fits m g.init g.ty) (Spot.Global k) p.0, globals_fit m (k + 1) gs p.1)

externs_fit : (k : ℕ) (es : List Extern) → flat_map (λ (p : ℕ × Extern). unless (declaration_fits p.1) (Spot.Extern p.0)) (enumerate_from k es) ≡ [] → Each (λ (e : Extern). declaration_fits e ≡ true) es
externs_fit k [] none = tt
externs_fit k (e ∷ es) none =
    let p = both_empty (unless (declaration_fits e) (Spot.Extern k)) (flat_map (λ (q : ℕ × Extern). unless (declaration_fits q.1) (Spot.Extern q.0)) (enumerate_from (k + 1) es)) none in
    (unless_passes (declaration_fits e) (Spot.Extern k) p.0, externs_fit (k + 1) es p.1)

abbrev outer_faults : Module → List Spot
outer_faults m = flat_map (λ (p : ℕ × GlobalVar). unless (init_fits m p.1.init p.1.ty) (Spot.Global p.0)) (enumerate_from 0 m.globals)

abbrev declared_faults : Module → List Spot
declared_faults m = flat_map (λ (p : ℕ × Extern). unless (declaration_fits p.1) (Spot.Extern p.0)) (enumerate_from 0 m.externs)

pub shaped_globals : (m : Module) → IsValid m → All (λ (g : GlobalVar). init_fits (without_phis m) g.init g.ty ≡ true) m.globals
shaped_globals m valid =
    let p = both_empty (outer_faults m ++ declared_faults m) (flat_map (faults_in_function m) (enumerate_from 0 m.functions)) (unrefused m valid.accepted).typed in
    let q = both_empty (outer_faults m) (declared_faults m) p.0 in
    subst (λ fits. All (λ (g : GlobalVar). fits g.init g.ty ≡ true) m.globals) (sym (inits_same m)) (all_of (λ (g : GlobalVar). init_fits m g.init g.ty ≡ true) m.globals (globals_fit m 0 m.globals q.0))

pub shaped_declared : (m : Module) → IsValid m → All (λ (e : Extern). declaration_fits e ≡ true) m.externs
shaped_declared m valid =
    let p = both_empty (outer_faults m ++ declared_faults m) (flat_map (faults_in_function m) (enumerate_from 0 m.functions)) (unrefused m valid.accepted).typed in
    let q = both_empty (outer_faults m) (declared_faults m) p.0 in
    all_of (λ (e : Extern). declaration_fits e ≡ true) m.externs (externs_fit 0 m.externs q.1)

-- the weight
pub shaped_weighs : (m : Module) → IsValid m → weight (without_phis m) + 512 ≤ MAX_CODE
shaped_weighs m valid =
    let e : weight (plain m (bodies_without_phis m)) ≡ weight (without_phis m) = ap weight (plain_is m) in
    let w = valid_weighs m valid in
    let k = (limits_kept m (unrefused m valid.accepted).limited).code in
    omega arith
