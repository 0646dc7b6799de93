-- A call of a name by the types of its definition fits the kinds of that function.
use Rattle.std.proofs.Common.{◌≡◌, ℕ, Bool, true, false, List, [], ◌∷◌, map, Option, Some, None, refl, ap, sym, ◌∙◌, subst}
use Rattle.std.specs.Prelude.{◌&&◌, if◌then◌else◌}
use Rattle.std.proofs.lemmas.Bool.{and_parts, and_from}
use Rattle.ir_core.specs.declared.ty.Ty.{Ty}
use Rattle.ir_core.specs.declared.operand.Operand.{Operand}
use Rattle.ir_core.specs.declared.operand.Operand.TheVariants.{Int, Bool as Truth, Null as NullWord, Undef, Poison, Local as LocalName, Global, Const}
use Rattle.ir_core.specs.declared.instruction.Arg.{Arg}
use Rattle.ir_core.specs.declared.instruction.Op.{Op}
use Rattle.ir_core.specs.declared.instruction.Op.TheVariants.{Call}
use Rattle.ir_core.specs.declared.module.Param.{Param}
use Rattle.ir_core.specs.declared.module.Extern.{Extern}
use Rattle.ir_core.specs.declared.module.Function.{Function}
use Rattle.ir_core.specs.declared.module.Module.{Module}
use Rattle.ir_core.specs.Names.{same_name, first_where}
use Rattle.ir_core.specs.Kinds.{kind_of, same_kind}
use Rattle.ir_core.specs.Calls.{outer_of, same_kinds}
use Rattle.ir_core.specs.Typing.{Env, is_result, kinds_of, outer_fits, named_fits, callee_fits, op_fits}
use Rattle.ir_core.specs.Valid.{all_two, same_ty, types_of, extern_fits, extern_called, named_called, callee_rules, op_rules}
use Rattle.ir_sound.proofs.SameLaws.{kind_itself, kinds_itself, name_is, not_true}
use Rattle.ir_sound.proofs.SameTypes.{ty_is, tys_are}

-- of the types of arguments the kinds
kinds_of_types : (args : List Arg) → map kind_of (types_of args) ≡ kinds_of args
kinds_of_types [] = refl
kinds_of_types (a ∷ args) = ap (λ ks. kind_of a.ty ∷ ks) (kinds_of_types args)

-- and of parameters
kinds_of_params : (ps : List Param) → map kind_of (map (λ (p : Param). p.ty) ps) ≡ map (λ (p : Param). kind_of p.ty) ps
kinds_of_params [] = refl
kinds_of_params (p ∷ ps) = ap (λ ks. kind_of p.ty ∷ ks) (kinds_of_params ps)

-- a declaration that is called
extern_rules : (m : Module) (name : List ℕ) (ret : Ty) (args : List Arg) → extern_called ret (types_of args) (first_where (λ (e : Extern). same_name e.name name) m.externs) ≡ true → outer_fits (outer_of name) (kind_of ret) (kinds_of args) ≡ true
extern_rules m name ret args rules = of_externs m.externs rules
  where
    one : (e : Extern) → same_name e.name name ≡ true → extern_called ret (types_of args) (Some e) ≡ true → outer_fits (outer_of name) (kind_of ret) (kinds_of args) ≡ true
    one e same c =
        let p = and_parts (extern_fits e) (same_ty e.ret ret && all_two same_ty e.params (types_of args)) c in
        let q = and_parts (same_ty e.ret ret) (all_two same_ty e.params (types_of args)) p.1 in
        subst (λ ks. outer_fits (outer_of name) (kind_of ret) ks ≡ true) (ap (map kind_of) (tys_are e.params (types_of args) q.1) ∙ kinds_of_types args)
        (subst (λ t. outer_fits (outer_of name) (kind_of t) (map kind_of e.params) ≡ true) (ty_is e.ret ret q.0)
        (subst (λ n. outer_fits (outer_of n) (kind_of e.ret) (map kind_of e.params) ≡ true) (name_is e.name name same) (and_parts (outer_fits (outer_of e.name) (kind_of e.ret) (map kind_of e.params)) (is_result e.ret) p.0).0))

    of_test : (e : Extern) (es : List Extern) (b : Bool) → same_name e.name name ≡ b → (extern_called ret (types_of args) (first_where (λ (x : Extern). same_name x.name name) es) ≡ true → outer_fits (outer_of name) (kind_of ret) (kinds_of args) ≡ true) → extern_called ret (types_of args) (if b then Some e else first_where (λ (x : Extern). same_name x.name name) es) ≡ true → outer_fits (outer_of name) (kind_of ret) (kinds_of args) ≡ true
    of_test e es true same go c = one e same c
    of_test e es false same go c = go c

    of_externs : (es : List Extern) → extern_called ret (types_of args) (first_where (λ (e : Extern). same_name e.name name) es) ≡ true → outer_fits (outer_of name) (kind_of ret) (kinds_of args) ≡ true
    of_externs [] c = not_true c
    of_externs (e ∷ es) c = of_test e es (same_name e.name name) refl (of_externs es) c

-- a callee
callee_agreed : (m : Module) (env : Env) (ret : Ty) (args : List Arg) (callee : Operand) → callee_rules m env ret (types_of args) callee ≡ true → callee_fits m env (kind_of ret) (kinds_of args) callee ≡ true
callee_agreed m env ret args (LocalName name) rules = rules
callee_agreed m env ret args (Global name) rules = of_function (first_where (λ (f : Function). same_name f.name name) m.functions) rules
  where
    of_function : (o : Option Function) → named_called m name ret (types_of args) o ≡ true → named_fits m name (kind_of ret) (kinds_of args) o ≡ true
    of_function (Some f) e =
        let p = and_parts (same_ty f.ret ret) (all_two same_ty (map (λ (q : Param). q.ty) f.params) (types_of args)) e in
        let r = ap kind_of (ty_is f.ret ret p.0) in
        let ks = sym (kinds_of_params f.params) ∙ ap (map kind_of) (tys_are (map (λ (q : Param). q.ty) f.params) (types_of args) p.1) ∙ kinds_of_types args in
        and_from _ _ (subst (λ k. same_kind (kind_of f.ret) k ≡ true) r (kind_itself (kind_of f.ret)))
        (subst (λ js. same_kinds (map (λ (q : Param). kind_of q.ty) f.params) js ≡ true) ks (kinds_itself (map (λ (q : Param). kind_of q.ty) f.params)))
    of_function None e = extern_rules m name ret args e
callee_agreed m env ret args (Int n) rules = not_true rules
callee_agreed m env ret args (Truth b) rules = not_true rules
callee_agreed m env ret args NullWord rules = not_true rules
callee_agreed m env ret args Undef rules = not_true rules
callee_agreed m env ret args Poison rules = not_true rules
callee_agreed m env ret args (Const p) rules = not_true rules

-- an instruction
pub op_agreed : (m : Module) (env : Env) (op : Op) → op_rules m env op ≡ true → op_fits m env op ≡ true
op_agreed m env (Call ret callee arguments) rules =
    let p = and_parts _ _ rules in
    let q = and_parts _ _ p.1 in
    and_from _ _ p.0 (and_from _ _ (callee_agreed m env ret arguments callee q.0) q.1)
op_agreed m env op rules = rules
