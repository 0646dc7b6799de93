-- Variables of a function, and registers that hold their values once one was given another.
use Rattle.std.proofs.Common.{◌≡◌, ◌≢◌, ℕ, zero, suc, ◌<◌, Bool, true, false, List, [], ◌∷◌, ◌++◌, length, Option, Some, None, slice_get, slice_set, refl, ap, sym, ◌∙◌, subst, inl, inr, arith}
use Rattle.std.specs.Prelude.{◌||◌, option_map, option_and_then, if◌then◌else◌}
use Rattle.std.proofs.lemmas.Bool.{cases_eq}
use Rattle.std.proofs.lemmas.List.Folds.{list_any-append}
use Rattle.ir_core.specs.declared.kind.Kind.{Kind}
use Rattle.ir_core.specs.declared.memory.Value.{Value}
use Rattle.ir_core.specs.declared.module.Function.{Function}
use Rattle.ir_core.specs.Definitions.{is_among}
use Rattle.ir_core.specs.Names.{same_name, first_where}
use Rattle.ir_core.specs.State.{Local, with_local}
use Rattle.ir_core.specs.Valid.{LocalKind, locals_of, named_locals, kind_in, env_of}
use Rattle.ir_sound.proofs.RowLaws.{length_map}
use Rattle.ir_sound.proofs.SameLaws.{name_is, differ_back}
use Rattle.ir_context.specs.Registers.{register, number_of}
use Rattle.ir_context.proofs.RegisterLaws.{stands_given}
use Rattle.low_core.specs.Contents.{Addresses, word_of}
use Rattle.low_core.specs.Bridge.{IsKnown}
use Rattle.flat_memory.proofs.Lists.{get_set_other, length_set}
use Rattle.isel_rows.specs.Variables.{variables_of, first_of_each}
use Rattle.isel_rows.specs.Rows.{register_or_idle, result_register}
use Rattle.isel.proofs.Beside.{Holds}
use Rattle.isel.proofs.Words.{HasWord}

-- a local with a kind is a variable of that kind
pub record IsVariable (vs : List LocalKind) (name : List ℕ) (kind : Kind) : Type 0 where
  pub number : ℕ
  pub is : number_of (named_locals vs) name ≡ Some number
  pub local : LocalKind
  pub there : slice_get vs number ≡ Some local
  pub of_kind : local.kind ≡ kind
  pub within : number < length vs

variable_behind : (before : List (List ℕ)) (ls : List LocalKind) (name : List ℕ) (kind : Kind) → is_among before name ≡ false → kind_in ls name ≡ Some kind → IsVariable (first_of_each before ls) name kind
variable_behind before [] name kind new e = absurd (cc)
variable_behind before (l ∷ ls) name kind new e = by (same_name l.name name) (is_among before l.name) refl refl e (λ f. variable_behind before ls name kind new f) (λ more f. variable_behind (before ++ l.name ∷ []) ls name kind more f)
  where
    here : (rest : List LocalKind) → same_name l.name name ≡ true → l.kind ≡ kind → IsVariable (l ∷ rest) name kind
    here rest same is = record {
      number = 0;
      is = ap (λ b. if b then Some 0 else option_map (λ n. suc n) (number_of (named_locals rest) name)) same;
      local = l;
      there = refl;
      of_kind = is;
      within = omega arith;
    }

    after : (rest : List LocalKind) → same_name l.name name ≡ false → IsVariable rest name kind → IsVariable (l ∷ rest) name kind
    after rest other v = let low = v.within in record {
      number = suc v.number;
      is = ap (λ b. if b then Some 0 else option_map (λ n. suc n) (number_of (named_locals rest) name)) other ∙ ap (option_map (λ n. suc n)) v.is;
      local = v.local;
      there = v.there;
      of_kind = v.of_kind;
      within = omega (arith, low);
    }

    more_new : same_name l.name name ≡ false → is_among (before ++ l.name ∷ []) name ≡ false
    more_new other = list_any-append (same_name name) before (l.name ∷ []) ∙ ap (λ b. b || (same_name name l.name || false)) new ∙ ap (λ b. b || false) (differ_back l.name name other)

    by : (same among : Bool) → same_name l.name name ≡ same → is_among before l.name ≡ among
        → option_map (λ (k : LocalKind). k.kind) (if same then Some l else first_where (λ (k : LocalKind). same_name k.name name) ls) ≡ Some kind
        → (kind_in ls name ≡ Some kind → IsVariable (first_of_each before ls) name kind)
        → (is_among (before ++ l.name ∷ []) name ≡ false → kind_in ls name ≡ Some kind → IsVariable (first_of_each (before ++ l.name ∷ []) ls) name kind)
        → IsVariable (if among then first_of_each before ls else l ∷ first_of_each (before ++ l.name ∷ []) ls) name kind
    by true true is there f skip go =
        let same : l.name ≡ name = name_is l.name name is in
        let no : is_among before l.name ≡ false = ap (is_among before) same ∙ new in
        absurd (cc)
    by true false is there f skip go = here (first_of_each (before ++ l.name ∷ []) ls) is (let k : l.kind ≡ kind = cc in k)
    by false true is there f skip go = skip f
    by false false is there f skip go = after (first_of_each (before ++ l.name ∷ []) ls) is (go (more_new is) f)

pub variable_of : (fn : Function) (name : List ℕ) (kind : Kind) → env_of fn name ≡ Some kind → IsVariable (variables_of fn) name kind
variable_of fn name kind e = variable_behind [] (locals_of fn) name kind refl e

-- the value of a register that was written
written_there : (values : List (Option Value)) (k : ℕ) (v u : Value) → register (slice_set values k (Some v)) k ≡ Some u → v ≡ u
written_there [] k v u e = absurd (cc)
written_there (r ∷ values) zero v u e = cc
written_there (r ∷ values) (suc k) v u e = written_there values k v u e

-- and of another
other_there : (values : List (Option Value)) (k j : ℕ) (v : Value) → j ≢ k → register (slice_set values k (Some v)) j ≡ register values j
other_there values k j v apart = ap (option_and_then (λ (o : Option Value). o)) (get_set_other values k j (Some v) (λ e. apart (sym e)))

-- variables hold their values once one was given another
pub holds_given : (objects : ℕ) (taken : List Bool) (at : Addresses) (vs : List LocalKind) (locals : List Local) (registers after : List (Option ℕ)) (into : Option (List ℕ)) (v : Value)
    → (x : Holds objects taken at (named_locals vs) locals registers) → ((name : List ℕ) → into ≡ Some name → (k : ℕ) × (number_of (named_locals vs) name ≡ Some k) × (k < length vs))
    → HasWord after (result_register vs into) (word_of at v)
    → ((j : ℕ) (u : Value) → j ≢ result_register vs into → register x.values j ≡ Some u → HasWord after j (word_of at u)) → IsKnown objects taken v
    → Holds objects taken at (named_locals vs) (with_local into v locals) after
holds_given objects taken at vs locals registers after None v x variable word others known =
    record {
      values = x.values;
      count = x.count;
      stand = x.stand;
      words = λ j u e. others j u (λ same. let low = value_below x.values j u e in let c = x.count in let l = length_map (λ (k : LocalKind). k.name) vs in omega arith) e;
      known = x.known;
    }
  where
    value_below : (values : List (Option Value)) (j : ℕ) (u : Value) → register values j ≡ Some u → j < length values
    value_below [] j u e = absurd (cc)
    value_below (r ∷ values) zero u e = omega arith
    value_below (r ∷ values) (suc j) u e = let r = value_below values j u e in omega arith
holds_given objects taken at vs locals registers after (Some name) v x variable word others known =
    let k : ℕ = (variable name refl).0 in
    let number : number_of (named_locals vs) name ≡ Some k = (variable name refl).1 in
    let low : k < length vs = (variable name refl).2 in
    let count : length x.values ≡ length (named_locals vs) = x.count in
    let same : length (named_locals vs) ≡ length vs = length_map (λ (j : LocalKind). j.name) vs in
    let register_is : result_register vs (Some name) ≡ k = ap (register_or_idle vs) number in
    let there : HasWord after k (word_of at v) = subst (λ r. HasWord after r (word_of at v)) register_is word in
    record {
      values = slice_set x.values k (Some v);
      count = length_set x.values k (Some v) ∙ x.count;
      stand = stands_given (named_locals vs) x.values locals name k v (omega (arith, low, count, same)) number x.stand;
      words = λ j u e. elim (cases_eq j k) [
        | inl is ↦
            let e2 : register (slice_set x.values k (Some v)) k ≡ Some u = ap (register (slice_set x.values k (Some v))) (sym is) ∙ e in
            ap (slice_get after) is ∙ there ∙ ap (λ w. Some (Some (word_of at w))) (written_there x.values k v u e2)
        | inr apart ↦ others j u (λ is. apart (is ∙ register_is)) (sym (other_there x.values k j v apart) ∙ e)
      ];
      known = λ j u e. elim (cases_eq j k) [
        | inl is ↦
            let e2 : register (slice_set x.values k (Some v)) k ≡ Some u = ap (register (slice_set x.values k (Some v))) (sym is) ∙ e in
            subst (IsKnown objects taken) (written_there x.values k v u e2) known
        | inr apart ↦ x.known j u (sym (other_there x.values k j v apart) ∙ e)
      ];
    }
