-- Without switches a program mentions nothing that it doesn't define.
use Rattle.std.proofs.Common.{◌≡◌, ℕ, Bool, true, false, List, [], ◌∷◌, ◌++◌, map, refl, ap, sym, ◌∙◌}
use Rattle.std.specs.Prelude.{◌||◌, if◌then◌else◌}
use Rattle.std.specs.List.{flat_map, list_any, filter}
use Rattle.std.proofs.lemmas.Bool.{or_right}
use Rattle.ir_core.specs.declared.ty.Ty.{Ty}
use Rattle.ir_core.specs.declared.operand.Operand.{Operand}
use Rattle.ir_core.specs.declared.instruction.Pred.{Pred}
use Rattle.ir_core.specs.declared.module.Function.{Function}
use Rattle.ir_core.specs.declared.module.Module.{Module}
use Rattle.ir_core.specs.Names.{same_name}
use Rattle.ir_core.specs.Definitions.{local_mark, global_mark, extern_names, label_names, is_among}
use Rattle.ir_core.specs.Mentions.{Mention, OfType, OfLabel, OfLocal, OfCallee, OfBase, OfSymbol, of_function, outside_functions}
use Rattle.ir_core.specs.Valid.{LocalKind, locals_of}
use Rattle.ir_core.specs.Refusals.{Inside, outside, inside, unless_among, unknown_in, unknown}
use Rattle.ir_core.proofs.NameSets.{same_name-sym}
use Rattle.ir_sound.proofs.NoFaults.{both_empty, each_empty, not_empty}
use Rattle.ir_sound.proofs.RowLaws.{Each_more}
use Rattle.low_core.specs.declared.moves.Body.{Body}
use Rattle.low_core.specs.declared.moves.Chunk.{Chunk}
use Rattle.low_core.specs.Plain.{plain}
use Rattle.switch_lower.specs.Fresh.{test_name, chunk_name, padding_for}
use Rattle.switch_lower.specs.Tree.{compare_chunk}
use Rattle.switch_lower.specs.Bodies.{body_of, bodies_without_switches}
use Rattle.switch_lower.proofs.ShapeRows.{In}
use Rattle.switch_lower.proofs.ShapeChunks.{choice}
use Rattle.switch_lower.proofs.ShapeFunctions.{low_function, lean_function, functions_each}
use Rattle.switch_lower.proofs.ShapeLabels.{labels_are, label_in, label_stays}
use Rattle.switch_lower.proofs.ShapeLocals.{other_local, locals_kept}
use Rattle.switch_lower.proofs.ShapeKinds.{test_there}
use Rattle.switch_lower.proofs.ShapeMentions.{function_says}
use Rattle.switch_lower.proofs.ShapeBase.{names_same, symbols_same, empty_each}

-- a name that is missed nowhere is there, and back
there_of : (names : List (List ℕ)) (name marked : List ℕ) → unless_among names name marked ≡ [] → is_among names name ≡ true
there_of names name marked e = by_test (is_among names name) e
  where
    by_test : (b : Bool) → (if b then [] else marked ∷ []) ≡ [] → b ≡ true
    by_test true f = refl
    by_test false f = not_empty marked [] f

of_there : (names : List (List ℕ)) (name marked : List ℕ) → is_among names name ≡ true → unless_among names name marked ≡ []
of_there names name marked e = ap (λ b. if b then [] else marked ∷ []) e

-- locals by their names
any_local : (all : List LocalKind) (name : List ℕ) → list_any (λ (l : LocalKind). same_name l.name name) all ≡ is_among (map (λ (l : LocalKind). l.name) all) name
any_local [] name = refl
any_local (l ∷ ls) name = ap (λ b. b || list_any (λ (x : LocalKind). same_name x.name name) ls) (same_name-sym l.name name) ∙ ap (λ b. same_name name l.name || b) (any_local ls name)

-- what is among what is kept
or_more : (c x y : Bool) → (x ≡ true → y ≡ true) → (c || x) ≡ true → (c || y) ≡ true
or_more true x y go e = refl
or_more false x y go e = go e

kept_among : (keep : LocalKind → Bool) (ls : List LocalKind) (name : List ℕ) → is_among (map (λ (l : LocalKind). l.name) (filter keep ls)) name ≡ true → is_among (map (λ (l : LocalKind). l.name) ls) name ≡ true
kept_among keep [] name e = e
kept_among keep (l ∷ ls) name e = by_test (keep l) e (kept_among keep ls name)
  where
    by_test : (b : Bool) → is_among (map (λ (x : LocalKind). x.name) (if b then l ∷ filter keep ls else filter keep ls)) name ≡ true
        → (is_among (map (λ (x : LocalKind). x.name) (filter keep ls)) name ≡ true → is_among (map (λ (x : LocalKind). x.name) ls) name ≡ true)
        → (same_name name l.name || is_among (map (λ (x : LocalKind). x.name) ls) name) ≡ true
    by_test true f go = or_more (same_name name l.name) _ _ go f
    by_test false f go = or_right _ _ (go f)

module _ (f : Function) (b : Body) where
  -- a local stays one
  local_stays : (name : List ℕ) → is_among (inside (low_function f b)).locals name ≡ true → is_among (inside (lean_function f b)).locals name ≡ true
  local_stays name e =
      kept_among (other_local (padding_for (low_function f b))) (locals_of (lean_function f b)) name (ap (λ ls. is_among (map (λ (l : LocalKind). l.name) ls) name) (locals_kept f b) ∙ e)

  -- so does a label
  label_still : (name : List ℕ) → is_among (label_names (low_function f b)) name ≡ true → is_among (label_names (lean_function f b)) name ≡ true
  label_still name e =
      ap (λ ns. is_among ns name) (labels_are (body_of f b).chunks) ∙ label_stays (padding_for (low_function f b)) 0 name b.chunks (ap (λ ns. is_among ns name) (sym (labels_are b.chunks)) ∙ e)

module _ (base : Module) (bodies : List Body) where
  abbrev m : Module
  m = plain base bodies

  abbrev w : Module
  w = plain base (bodies_without_switches base bodies)

  -- names are looked up in the same lists
  unknown_same : (at : Inside) (x : Mention) → unknown_in w at x ≡ unknown_in m at x
  unknown_same at (OfType ty) = refl
  unknown_same at (OfLabel name) = refl
  unknown_same at (OfLocal name) = refl
  unknown_same at (OfCallee name) = ap (λ ns. unless_among (extern_names base ++ ns) name (global_mark name)) (names_same base bodies)
  unknown_same at (OfBase name) = refl
  unknown_same at (OfSymbol name) = ap (λ ns. unless_among ns name (global_mark name)) (symbols_same base bodies)

  -- a function that mentions nothing unknown
  function_known : (f : Function) (b : Body) → flat_map (unknown_in m (inside (low_function f b))) (of_function (low_function f b)) ≡ [] → flat_map (unknown_in w (inside (lean_function f b))) (of_function (lean_function f b)) ≡ []
  function_known f b none =
      empty_each (unknown_in w (inside lean)) (of_function lean)
      (function_says f b (λ x. unknown_in m (inside low) x ≡ []) (λ x. unknown_in w (inside lean) x ≡ []) more labelled tested (each_empty (unknown_in m (inside low)) (of_function low) none))
    where
      low : Function
      low = low_function f b

      lean : Function
      lean = lean_function f b

      more : (x : Mention) → unknown_in m (inside (low_function f b)) x ≡ [] → unknown_in w (inside (lean_function f b)) x ≡ []
      more (OfType ty) e = e
      more (OfLabel name) e = of_there (label_names (lean_function f b)) name (local_mark name) (label_still f b name (there_of (label_names (low_function f b)) name (local_mark name) e))
      more (OfLocal name) e = of_there (inside (lean_function f b)).locals name (local_mark name) (local_stays f b name (there_of (inside (low_function f b)).locals name (local_mark name) e))
      more (OfCallee name) e = unknown_same (inside (lean_function f b)) (OfCallee name) ∙ e
      more (OfBase name) e = e
      more (OfSymbol name) e = unknown_same (inside (lean_function f b)) (OfSymbol name) ∙ e

      labelled : (n : ℕ) (x : Chunk) → In x (body_of f b).chunks → x.label ≡ chunk_name (padding_for (low_function f b)) n → unknown_in w (inside (lean_function f b)) (OfLabel (chunk_name (padding_for (low_function f b)) n)) ≡ []
      labelled n x there e =
          let name = chunk_name (padding_for (low_function f b)) n in
          of_there (label_names (lean_function f b)) name (local_mark name) (ap (λ ns. is_among ns name) (labels_are (body_of f b).chunks) ∙ ap (is_among _) (sym e) ∙ label_in x (body_of f b).chunks there)

      tested : (ty : Ty) (a : Operand) (default : List ℕ) (at : ℕ) (pred : Pred) (number : ℕ) (taken other : List ℕ) → In (compare_chunk (choice (padding_for (low_function f b)) ty a default) at pred number taken other) (body_of f b).chunks
          → unknown_in w (inside (lean_function f b)) (OfLocal (test_name (padding_for (low_function f b)))) ≡ []
      tested ty a default at pred number taken other there =
          let name = test_name (padding_for (low_function f b)) in
          of_there (inside (lean_function f b)).locals name (local_mark name) (sym (any_local (locals_of (lean_function f b)) name) ∙ test_there f b ty a default at pred number taken other there)

  pub lean_known : unknown (plain base bodies) ≡ [] → unknown (plain base (bodies_without_switches base bodies)) ≡ []
  lean_known none =
      let row : Function → List (List ℕ) = λ (f : Function). flat_map (unknown_in m (inside f)) (of_function f) in
      let rows : Function → List (List ℕ) = λ (f : Function). flat_map (unknown_in w (inside f)) (of_function f) in
      let p = both_empty (flat_map (unknown_in m outside) (outside_functions base)) (flat_map row m.functions) none in
      let outer = empty_each (unknown_in w outside) (outside_functions base) (Each_more (λ x. unknown_in m outside x ≡ []) (λ x. unknown_in w outside x ≡ []) (outside_functions base) (λ x e. unknown_same outside x ∙ e) (each_empty (unknown_in m outside) (outside_functions base) p.0)) in
      ap (λ l. l ++ flat_map rows w.functions) outer ∙ empty_each rows w.functions (functions_each (λ (f : Function). row f ≡ []) (λ (f : Function). rows f ≡ []) function_known base.functions bodies (each_empty row m.functions p.1))
