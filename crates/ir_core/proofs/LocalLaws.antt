-- Rows of locals that a loop adds, one item after another.
use Rattle.std.proofs.Common.{◌≡◌, ℕ, suc, Bool, true, false, Option, Some, None, if◌then◌else◌, ◌+◌, ◌<◌, List, [], ◌∷◌, ◌++◌, length, get_or, take, drop, map, refl, ap, sym, ◌∙◌}
use Rattle.std.specs.Prelude.{option_map, option_and_then, slice_get}
use Rattle.std.specs.List.{flat_map}
use Rattle.std.proofs.lemmas.List.{map-append, append_assoc}
use Rattle.ir_core.specs.declared.module.Function.{Function}
use Rattle.ir_core.specs.Kinds.{Kind}
use Rattle.ir_core.specs.Definitions.{repeated, local_names}
use Rattle.ir_core.specs.Valid.{LocalKind, named_locals, local_kinds, kind_in, param_kind, results_of}
use Rattle.ir_core.specs.Names.{same_name, number_where, first_where}
use Rattle.ir_core.proofs.Distinct.{named-append, repeated_split, locals_differ}
use Rattle.ir_core.proofs.LoopLaws.{flat_take, flat_drop}

module _ {X : Type 0} (f : X → List LocalKind) (xs : List X) (i : ℕ) (x : X) (inside : i < length xs) (item : x ≡ get_or xs i x) where
  -- what the item and the rest repeat
  parts : (names : List (List ℕ)) → repeated names (named_locals (flat_map f (drop i xs))) ≡ [] → (repeated names (named_locals (f x)) ≡ []) × (repeated (names ++ named_locals (f x)) (named_locals (flat_map f (drop (i + 1) xs))) ≡ [])
  parts names none =
      repeated_split names (named_locals (f x)) (named_locals (flat_map f (drop (i + 1) xs)))
      (sym (ap (repeated names) (ap named_locals (flat_drop xs i x inside item f) ∙ named-append (f x) (flat_map f (drop (i + 1) xs)))) ∙ none)

  -- the item repeats nothing
  pub item_differs : (names : List (List ℕ)) → repeated names (named_locals (flat_map f (drop i xs))) ≡ [] → repeated names (named_locals (f x)) ≡ []
  item_differs names none = (parts names none).0

  -- nor does the rest behind it
  pub rest_differs : (names after : List (List ℕ)) → repeated names (named_locals (flat_map f (drop i xs))) ≡ [] → after ≡ names ++ named_locals (f x) → repeated after (named_locals (flat_map f (drop (i + 1) xs))) ≡ []
  rest_differs names after none is = ap (λ b. repeated b (named_locals (flat_map f (drop (i + 1) xs)))) is ∙ (parts names none).1

  -- names with those of one more item
  pub names_more : (start names after : List (List ℕ)) → names ≡ start ++ named_locals (flat_map f (take i xs)) → after ≡ names ++ named_locals (f x) → after ≡ start ++ named_locals (flat_map f (take (i + 1) xs))
  names_more start names after so_far is =
      is ∙ ap (λ b. b ++ named_locals (f x)) so_far ∙ append_assoc start (named_locals (flat_map f (take i xs))) (named_locals (f x))
      ∙ ap (λ b. start ++ b) (sym (named-append (flat_map f (take i xs)) (f x)) ∙ ap named_locals (sym (flat_take xs i x inside item f)))

  -- kinds with those of one more item
  pub kinds_more : (start kinds after : List Kind) → kinds ≡ start ++ local_kinds (flat_map f (take i xs)) → after ≡ kinds ++ local_kinds (f x) → after ≡ start ++ local_kinds (flat_map f (take (i + 1) xs))
  kinds_more start kinds after so_far is =
      is ∙ ap (λ b. b ++ local_kinds (f x)) so_far ∙ append_assoc start (local_kinds (flat_map f (take i xs))) (local_kinds (f x))
      ∙ ap (λ b. start ++ b) (sym (map-append (λ (l : LocalKind). l.kind) (flat_map f (take i xs)) (f x)) ∙ ap local_kinds (sym (flat_take xs i x inside item f)))

-- the kind of a local by its number among the names
pub kind_found : (all : List LocalKind) (name : List ℕ) → option_and_then (slice_get (local_kinds all)) (number_where (λ n. same_name n name) (named_locals all)) ≡ kind_in all name
kind_found [] name = refl
kind_found (l ∷ ls) name = of_bool (same_name l.name name) (kind_found ls name)
  where
    further : (o : Option ℕ) → option_and_then (slice_get (local_kinds (l ∷ ls))) (option_map (λ n. suc n) o) ≡ option_and_then (slice_get (local_kinds ls)) o
    further None = refl
    further (Some n) = refl

    of_bool : (b : Bool) → option_and_then (slice_get (local_kinds ls)) (number_where (λ n. same_name n name) (named_locals ls)) ≡ kind_in ls name
        → option_and_then (slice_get (local_kinds (l ∷ ls))) (if b then Some 0 else option_map (λ n. suc n) (number_where (λ n. same_name n name) (named_locals ls))) ≡ option_map (λ (k : LocalKind). k.kind) (if b then Some l else first_where (λ (k : LocalKind). same_name k.name name) ls)
    of_bool true go = refl
    of_bool false go = further (number_where (λ n. same_name n name) (named_locals ls)) ∙ go

-- also among names and kinds that are those of locals
pub kind_looked_up : (all : List LocalKind) (names : List (List ℕ)) (kinds : List Kind) (name : List ℕ) (o : Option ℕ) → names ≡ named_locals all → kinds ≡ local_kinds all → o ≡ number_where (λ n. same_name n name) names → option_and_then (slice_get kinds) o ≡ kind_in all name
kind_looked_up all names kinds name o n k e = ap (λ ks. option_and_then (slice_get ks) o) k ∙ ap (option_and_then (slice_get (local_kinds all))) (e ∙ ap (number_where (λ m. same_name m name)) n) ∙ kind_found all name

-- the parameters of a function differ, and its results from them and each other
pub params_and_results : (f : Function) → repeated [] (local_names f) ≡ [] → (repeated [] (named_locals (map param_kind f.params)) ≡ []) × (repeated (named_locals (map param_kind f.params)) (named_locals (results_of f.blocks)) ≡ [])
params_and_results f none =
    repeated_split [] (named_locals (map param_kind f.params)) (named_locals (results_of f.blocks))
    (ap (repeated []) (sym (named-append (map param_kind f.params) (results_of f.blocks))) ∙ locals_differ f none)
