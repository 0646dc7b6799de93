-- Where no name of a function is defined twice, each local has the kind of its definition.
use Rattle.std.proofs.Common.{◌≡◌, ℕ, Bool, true, false, List, [], ◌∷◌, ◌++◌, Option, Some, None, refl, ap, sym, ◌∙◌, subst}
use Rattle.std.specs.Prelude.{◌||◌, option_map, if◌then◌else◌}
use Rattle.std.proofs.lemmas.Bool.{and_from}
use Rattle.std.proofs.lemmas.List.{append_assoc}
use Rattle.ir_core.specs.declared.kind.Kind.{Kind}
use Rattle.ir_core.specs.declared.module.Function.{Function}
use Rattle.ir_core.specs.Names.{same_name, first_where}
use Rattle.ir_core.specs.Definitions.{is_among, repeated, local_names}
use Rattle.ir_core.specs.Typing.{Env, has_kind, into_fits}
use Rattle.ir_core.specs.Valid.{LocalKind, result_local, locals_of, named_locals, kind_in, env_of, names_value}
use Rattle.ir_core.proofs.Distinct.{fresh, named-append, locals_differ}
use Rattle.ir_sound.specs.WellTyped.{Each}
use Rattle.ir_sound.proofs.SameLaws.{differ_back, kind_itself, not_true, same_itself}

-- a local has the kind of its definition
abbrev pub Agreed : Env → LocalKind → Type 0
Agreed env l = env l.name ≡ Some l.kind

-- the first local of its name does
agreed_behind : (before : List LocalKind) (l : LocalKind) (ls : List LocalKind) → is_among (named_locals before) l.name ≡ false → Agreed (kind_in (before ++ l ∷ ls)) l
agreed_behind [] l ls new = ap (λ b. option_map (λ (h : LocalKind). h.kind) (if b then Some l else first_where (λ (h : LocalKind). same_name h.name l.name) ls)) (same_itself l.name)
agreed_behind (b ∷ bs) l ls new =
    ap (λ c. option_map (λ (h : LocalKind). h.kind) (if c then Some b else first_where (λ (h : LocalKind). same_name h.name l.name) (bs ++ l ∷ ls)))
    (differ_back l.name b.name (first_false (same_name l.name b.name) (is_among (named_locals bs) l.name) new))
    ∙ agreed_behind bs l ls (second_false (same_name l.name b.name) (is_among (named_locals bs) l.name) new)
  where
    first_false : (a c : Bool) → (a || c) ≡ false → a ≡ false
    first_false false c e = refl
    first_false true c e = not_true (sym e)

    second_false : (a c : Bool) → (a || c) ≡ false → c ≡ false
    second_false false c e = e
    second_false true c e = not_true (sym e)

-- so do all locals behind others, where none repeats
all_behind : (before ls : List LocalKind) → repeated (named_locals before) (named_locals ls) ≡ [] → Each (Agreed (kind_in (before ++ ls))) ls
all_behind before [] none = tt
all_behind before (l ∷ ls) none =
    let f = fresh (named_locals before) l.name (named_locals ls) none in
    let rest = all_behind (before ++ l ∷ []) ls (ap (λ ns. repeated ns (named_locals ls)) (named-append before (l ∷ [])) ∙ f.rest) in
    (agreed_behind before l ls f.new, subst (λ all. Each (Agreed (kind_in all)) ls) (append_assoc before (l ∷ []) ls) rest)

-- the locals of a function
pub locals_agree : (f : Function) → repeated [] (local_names f) ≡ [] → Each (Agreed (env_of f)) (locals_of f)
locals_agree f none = all_behind [] (locals_of f) (locals_differ f none)

-- a result that has a value's kind fits its local
pub result_agreed : (env : Env) (into : Option (List ℕ)) (kind : Kind) → Each (Agreed env) (result_local into kind) → names_value into kind ≡ true → into_fits env into kind ≡ true
result_agreed env (Some name) kind all named = and_from _ _ named (subst (λ o. has_kind o kind ≡ true) (sym all.0) (kind_itself kind))
result_agreed env None kind all named = refl
