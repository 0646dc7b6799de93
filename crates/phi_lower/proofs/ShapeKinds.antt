-- The kinds of locals of a function without phis: a local has the kind that it had, and one beside it the same.
use Rattle.std.proofs.Common.{◌≡◌, ℕ, zero, suc, true, List, [], ◌∷◌, map, Option, Some, None, refl, ap, sym, ◌∙◌}
use Rattle.std.specs.Prelude.{◌&&◌, ◌||◌, option_map}
use Rattle.std.specs.List.{list_any}
use Rattle.std.proofs.lemmas.Bool.{and_parts}
use Rattle.ir_core.specs.declared.instruction.Inst.{Inst}
use Rattle.ir_core.specs.declared.instruction.Op.{Op}
use Rattle.ir_core.specs.declared.instruction.Op.TheVariants.{Store, Phi}
use Rattle.ir_core.specs.declared.module.Block.{Block}
use Rattle.ir_core.specs.declared.module.Param.{Param}
use Rattle.ir_core.specs.declared.module.Function.{Function}
use Rattle.ir_core.specs.declared.kind.Kind.{Kind}
use Rattle.ir_core.specs.Names.{same_name, first_where}
use Rattle.ir_core.specs.Built.{name_built, type_built, result_named, op_built, inst_built, result_built, param_built, blocks_built, built_all}
use Rattle.ir_core.specs.Definitions.{is_among}
use Rattle.ir_core.specs.Typing.{Env, has_kind, kind_given}
use Rattle.ir_core.specs.Valid.{LocalKind, param_kind, result_local, inst_local, kinds_in, results_of, locals_of, kind_in, env_of}
use Rattle.ir_core.proofs.NameSets.{same_name-sym}
use Rattle.ir_sound.specs.WellTyped.{Each}
use Rattle.ir_sound.proofs.Locals.{Agreed, locals_agree}
use Rattle.ir_sound.proofs.RowLaws.{Each_at, Each_and, Each_both, Each_parts, Each_rows, Each_more, Each_from, found_any, first_passes}
use Rattle.ir_sound.proofs.SameLaws.{not_true, name_is, same_itself, none_is, has_kind_is}
use Rattle.phi_lower.proofs.Same.{all_built}
use Rattle.phi_lower.proofs.Turns.{lowered}
use Rattle.phi_lower.proofs.Finds.{or_left, or_right, apart_zero}
use Rattle.phi_lower.proofs.ShapeWalk.{lowered_have}
use Rattle.phi_lower.proofs.ShapeMentions.{rows_each}
use Rattle.phi_lower.proofs.ShapeBuilt.{BlockIsBuilt, blocks_parts, IsFine}
use Rattle.phi_lower.proofs.ShapeKnown.{local_stays}

-- the kinds of locals, and of what stands beside them
abbrev pub beside : Env → Env
beside env [] = env []
beside env (zero ∷ name) = env name
beside env (suc n ∷ name) = env (suc n ∷ name)

beside_built : (env : Env) (name : List ℕ) → name_built name ≡ true → beside env name ≡ env name
beside_built env [] built = refl
beside_built env (zero ∷ name) built = not_true (sym (apart_zero name (zero ∷ name) built) ∙ same_itself (zero ∷ name))
beside_built env (suc n ∷ name) built = refl

-- a result has a name that a text could say
built_name : (op : Op) (name : List ℕ) → result_named op (Some name) ≡ true → name_built name ≡ true
built_name (Store ty a p) name e = not_true e
built_name op name e = e

-- what is known of an instruction
abbrev pub HasKind : Env → Inst → Type 0
HasKind env i = (inst_built i ≡ true) × (Each (Agreed env) (inst_local i))

abbrev Beside : Env → Inst → Type 0
Beside env i = Each (Agreed (beside env)) (inst_local i)

kept_kind : (env : Env) (o : Option (List ℕ)) (op : Op) → result_named op o ≡ true → Each (Agreed env) (result_local o (kind_given op)) → Each (Agreed (beside env)) (result_local o (kind_given op))
kept_kind env (Some name) op named all = (beside_built env name (built_name op name named) ∙ all.0, tt)
kept_kind env None op named all = tt

-- all of a function
pub insts_kinds : (f : Function) → IsFine f → Each (λ (b : Block). Each (HasKind (env_of f)) b.insts) f.blocks
insts_kinds f fine =
    let env = env_of f in
    let rows = Each_rows (Agreed env) (λ (b : Block). kinds_in b.insts) f.blocks (Each_parts (Agreed env) (map param_kind f.params) (results_of f.blocks) (locals_agree f fine.single)).1 in
    Each_more (λ (b : Block). BlockIsBuilt b × Each (Agreed env) (kinds_in b.insts)) (λ (b : Block). Each (HasKind env) b.insts) f.blocks
    (λ b has. Each_and (λ (i : Inst). inst_built i ≡ true) (λ (i : Inst). Each (Agreed env) (inst_local i)) b.insts has.0.insts (Each_rows (Agreed env) inst_local b.insts has.1))
    (Each_and BlockIsBuilt (λ (b : Block). Each (Agreed env) (kinds_in b.insts)) f.blocks (blocks_parts f fine.built) rows)

results_beside : (f : Function) → IsFine f → Each (Agreed (beside (env_of f))) (results_of (lowered f).blocks)
results_beside f fine =
    let env = env_of f in
    let kept = lowered_have (HasKind env) (Beside env)
    (λ i has. kept_kind env i.result i.op (and_parts (op_built i.op) (result_named i.op i.result) has.0).1 has.1)
    (λ into ty entries from e has at. (has.1.0, tt))
    (λ into ty entries has. kept_kind env (Some into) (Phi ty entries) (and_parts (op_built (Phi ty entries)) (result_named (Phi ty entries) (Some into)) has.0).1 has.1)
    f (insts_kinds f fine) in
    rows_each (Agreed (beside env)) (λ (b : Block). kinds_in b.insts) (lowered f).blocks
    (Each_more (λ (b : Block). Each (Beside env) b.insts) (λ (b : Block). Each (Agreed (beside env)) (kinds_in b.insts)) (lowered f).blocks (λ b has. rows_each (Agreed (beside env)) inst_local b.insts has) kept)

params_beside : (env : Env) (ps : List Param) → Each (λ (p : Param). param_built p ≡ true) ps → Each (Agreed env) (map param_kind ps) → Each (Agreed (beside env)) (map param_kind ps)
params_beside env [] built all = tt
params_beside env (p ∷ ps) built all = (beside_built env p.name (and_parts (type_built p.ty) (name_built p.name) built.0).1 ∙ all.0, params_beside env ps built.1 all.1)

locals_beside : (f : Function) → IsFine f → Each (Agreed (beside (env_of f))) (locals_of (lowered f))
locals_beside f fine =
    let env = env_of f in
    let p = and_parts (name_built f.name && result_built f.ret) (built_all param_built f.params && blocks_built f.blocks) fine.built in
    let built = Each_from param_built f.params (all_built param_built f.params (and_parts (built_all param_built f.params) (blocks_built f.blocks) p.1).0) in
    Each_both (Agreed (beside env)) (map param_kind f.params) (results_of (lowered f).blocks)
    (params_beside env f.params built (Each_parts (Agreed env) (map param_kind f.params) (results_of f.blocks) (locals_agree f fine.single)).0) (results_beside f fine)

-- the first local of a name has the kind that all of that name have
any_local : (all : List LocalKind) (name : List ℕ) → list_any (λ (l : LocalKind). same_name l.name name) all ≡ is_among (map (λ (l : LocalKind). l.name) all) name
any_local [] name = refl
any_local (l ∷ ls) name = ap (λ b. b || list_any (λ (x : LocalKind). same_name x.name name) ls) (same_name-sym l.name name) ∙ ap (λ b. same_name name l.name || b) (any_local ls name)

env_is : (E : Env) (all : List LocalKind) → Each (Agreed E) all → (name : List ℕ) → is_among (map (λ (l : LocalKind). l.name) all) name ≡ true → kind_in all name ≡ E name
env_is E all agreed name there =
    let g = found_any (λ (l : LocalKind). same_name l.name name) all (any_local all name ∙ there) in
    ap (option_map (λ (l : LocalKind). l.kind)) g.first ∙ sym (Each_at (Agreed E) all g.number g.item agreed g.at_number) ∙ ap E (name_is g.item.name name g.passes)

pub kind_is_beside : (f : Function) → IsFine f → (name : List ℕ) → is_among (map (λ (l : LocalKind). l.name) (locals_of (lowered f))) name ≡ true → env_of (lowered f) name ≡ beside (env_of f) name
kind_is_beside f fine name there = env_is (beside (env_of f)) (locals_of (lowered f)) (locals_beside f fine) name there

-- so each local has the kind of its definitions
pub locals_kinds : (f : Function) → IsFine f → Each (Agreed (env_of (lowered f))) (locals_of (lowered f))
locals_kinds f fine = rows (locals_of (lowered f)) (λ name e. e) (locals_beside f fine)
  where
    rows : (ls : List LocalKind) → ((name : List ℕ) → is_among (map (λ (l : LocalKind). l.name) ls) name ≡ true → is_among (map (λ (l : LocalKind). l.name) (locals_of (lowered f))) name ≡ true) → Each (Agreed (beside (env_of f))) ls → Each (Agreed (env_of (lowered f))) ls
    rows [] are all = tt
    rows (l ∷ ls) are all = (
      kind_is_beside f fine l.name (are l.name (or_left (same_name l.name l.name) (is_among (map (λ (x : LocalKind). x.name) ls) l.name) (same_itself l.name))) ∙ all.0,
      rows ls (λ name e. are name (or_right (same_name name l.name) (is_among (map (λ (x : LocalKind). x.name) ls) name) e)) all.1,
    )

-- what has a kind still has it
abbrev pub More : Env → Env → Type 0
More env env2 = (name : List ℕ) → name_built name ≡ true → (k : Kind) → has_kind (env name) k ≡ true → has_kind (env2 name) k ≡ true

pub kinds_stay : (f : Function) → IsFine f → More (env_of f) (env_of (lowered f))
kinds_stay f fine name built k e =
    let there : is_among (map (λ (l : LocalKind). l.name) (locals_of f)) name ≡ true = sym (any_local (locals_of f) name) ∙ of_first (first_where (λ (l : LocalKind). same_name l.name name) (locals_of f)) refl (has_kind_is (env_of f name) k e) in
    ap (λ o. has_kind o k) (kind_is_beside f fine name (local_stays f fine name there) ∙ beside_built (env_of f) name built) ∙ e
  where
    of_first : (o : Option LocalKind) → first_where (λ (l : LocalKind). same_name l.name name) (locals_of f) ≡ o → option_map (λ (l : LocalKind). l.kind) o ≡ Some k → list_any (λ (l : LocalKind). same_name l.name name) (locals_of f) ≡ true
    of_first (Some l) at has = first_passes (λ (x : LocalKind). same_name x.name name) (locals_of f) l at
    of_first None at has = none_is k has
