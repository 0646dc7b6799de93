-- A frame has room for the variable of tests.
use Rattle.std.proofs.Common.{◌≡◌, ℕ, ◌+◌, ◌≤◌, Bool, true, false, List, [], ◌∷◌, ◌++◌, length, refl, ap, sym, ◌∙◌, subst, arith, append-nil, ◌-◌}
use Rattle.std.specs.Prelude.{◌||◌, not, if◌then◌else◌}
use Rattle.std.specs.List.{filter, sum_by}
use Rattle.ir_core.specs.declared.ty.NamedTy.{NamedTy}
use Rattle.ir_core.specs.declared.instruction.Inst.{Inst}
use Rattle.ir_core.specs.declared.module.Block.{Block}
use Rattle.ir_core.specs.declared.module.Function.{Function}
use Rattle.ir_core.specs.Names.{same_name}
use Rattle.ir_core.specs.Counts.{greatest, alloca_bytes, stack_arguments}
use Rattle.ir_core.specs.Definitions.{is_among, repeated}
use Rattle.ir_core.specs.declared.limit.TheConstants.{REGISTER_PARAMETERS}
use Rattle.ir_core.proofs.NameSets.{same_name-sym}
use Rattle.ir_sound.proofs.SameLaws.{name_is}
use Rattle.low_core.specs.declared.moves.Body.{Body}
use Rattle.low_core.specs.Weights.{assigned, count_apart, room, low_own, lean_own}
use Rattle.switch_lower.specs.Bodies.{padding_in}
use Rattle.switch_lower.specs.Fresh.{test_name, padding_for}
use Rattle.switch_lower.proofs.ShapeRows.{any_append, filter_both}
use Rattle.switch_lower.proofs.ShapeChunks.{sum_kept}
use Rattle.switch_lower.proofs.ShapeFunctions.{low_function, lean_function}
use Rattle.switch_lower.proofs.ShapeLocals.{is_other, assigned_kept, calls_kept}

-- the names that a list adds to others, each once
abbrev firsts : List (List ℕ) → List (List ℕ) → List (List ℕ)
firsts before [] = []
firsts before (n ∷ ns) = if is_among before n then firsts before ns else n ∷ firsts (before ++ n ∷ []) ns

firsts_length : (before ns : List (List ℕ)) → length (firsts before ns) + length (repeated before ns) ≡ length ns
firsts_length before [] = refl
firsts_length before (n ∷ ns) = by_test (is_among before n) (firsts_length before ns) (firsts_length (before ++ n ∷ []) ns)
  where
    by_test : (b : Bool) → length (firsts before ns) + length (repeated before ns) ≡ length ns → length (firsts (before ++ n ∷ []) ns) + length (repeated (before ++ n ∷ []) ns) ≡ length ns
        → length (if b then firsts before ns else n ∷ firsts (before ++ n ∷ []) ns) + length (if b then n ∷ repeated before ns else repeated (before ++ n ∷ []) ns) ≡ length (n ∷ ns)
    by_test true e f = omega arith
    by_test false e f = omega arith

-- without one name there is at most one less
module _ (t : List ℕ) where
  abbrev differs : List ℕ → Bool
  differs n = not (same_name t n)

  abbrev others : List (List ℕ) → List (List ℕ)
  others ns = filter differs ns

  abbrev extra : List (List ℕ) → ℕ
  extra before = if is_among before t then 0 else 1

  among_others : (n : List ℕ) (ns : List (List ℕ)) → same_name t n ≡ false → is_among (others ns) n ≡ is_among ns n
  among_others n [] e = refl
  among_others n (k ∷ ks) e = by_test (same_name t k) refl (among_others n ks e)
    where
      by_test : (b : Bool) → same_name t k ≡ b → is_among (others ks) n ≡ is_among ks n → is_among (if not b then k ∷ others ks else others ks) n ≡ (same_name n k || is_among ks n)
      by_test true f go = go ∙ ap (λ b. b || is_among ks n) (sym (same_name-sym n k ∙ ap (λ l. same_name l n) (sym (name_is t k f)) ∙ e))
      by_test false f go = ap (λ b. same_name n k || b) go

  others_one : (n : List ℕ) → same_name t n ≡ true → others (n ∷ []) ≡ []
  others_one n e = ap (λ b. if not b then n ∷ [] else []) e

  others_more : (n : List ℕ) (ns : List (List ℕ)) → same_name t n ≡ false → others (n ∷ ns) ≡ n ∷ others ns
  others_more n ns e = ap (λ b. if not b then n ∷ others ns else others ns) e

  others_less : (n : List ℕ) (ns : List (List ℕ)) → same_name t n ≡ true → others (n ∷ ns) ≡ others ns
  others_less n ns e = ap (λ b. if not b then n ∷ others ns else others ns) e

  one_less : (before ns : List (List ℕ)) → length (firsts before ns) ≤ length (firsts (others before) (others ns)) + extra before
  one_less before [] = omega arith
  one_less before (n ∷ ns) = by_name (same_name t n) refl (one_less before ns) (one_less (before ++ n ∷ []) ns)
    where
      long : List (List ℕ)
      long = before ++ n ∷ []

      -- the name itself, which may be new
      itself : (b : Bool) → same_name t n ≡ true → is_among before n ≡ b → length (firsts before ns) ≤ length (firsts (others before) (others ns)) + extra before → length (firsts long ns) ≤ length (firsts (others long) (others ns)) + extra long
          → length (if b then firsts before ns else n ∷ firsts long ns) ≤ length (firsts (others before) (others ns)) + extra before
      itself true same e short more = short
      itself false same e short more =
          let is = name_is t n same in
          let none : is_among before t ≡ false = ap (is_among before) is ∙ e in
          let there : is_among long t ≡ true = any_append (same_name t) before (n ∷ []) ∙ ap (λ b. b || (same_name t n || false)) none ∙ ap (λ b. b || false) same in
          let left : others long ≡ others before = filter_both differs before (n ∷ []) ∙ ap (λ l. others before ++ l) (others_one n same) ∙ append-nil (others before) in
          let a : extra before ≡ 1 = ap (λ b. if b then 0 else 1) none in
          let c : extra long ≡ 0 = ap (λ b. if b then 0 else 1) there in
          let d : length (firsts (others long) (others ns)) ≡ length (firsts (others before) (others ns)) = ap (λ l. length (firsts l (others ns))) left in
          omega arith

      -- another name is new in both or in neither
      another : (b : Bool) → same_name t n ≡ false → is_among before n ≡ b → length (firsts before ns) ≤ length (firsts (others before) (others ns)) + extra before → length (firsts long ns) ≤ length (firsts (others long) (others ns)) + extra long
          → length (if b then firsts before ns else n ∷ firsts long ns) ≤ length (if b then firsts (others before) (others ns) else n ∷ firsts (others before ++ n ∷ []) (others ns)) + extra before
      another true differ e short more = short
      another false differ e short more =
          let left : others long ≡ others before ++ n ∷ [] = filter_both differs before (n ∷ []) ∙ ap (λ l. others before ++ l) (others_more n [] differ) in
          let same : is_among long t ≡ is_among before t = any_append (same_name t) before (n ∷ []) ∙ ap (λ b. is_among before t || (b || false)) differ ∙ either (is_among before t) in
          let c : extra long ≡ extra before = ap (λ b. if b then 0 else 1) same in
          let d : length (firsts (others long) (others ns)) ≡ length (firsts (others before ++ n ∷ []) (others ns)) = ap (λ l. length (firsts l (others ns))) left in
          omega arith
        where
          either : (b : Bool) → (b || false) ≡ b
          either true = refl
          either false = refl

      by_name : (b : Bool) → same_name t n ≡ b → length (firsts before ns) ≤ length (firsts (others before) (others ns)) + extra before → length (firsts long ns) ≤ length (firsts (others long) (others ns)) + extra long
          → length (firsts before (n ∷ ns)) ≤ length (firsts (others before) (others (n ∷ ns))) + extra before
      by_name true e short more = subst (λ l. length (firsts before (n ∷ ns)) ≤ length (firsts (others before) l) + extra before) (sym (others_less n ns e)) (itself (is_among before n) e refl short more)
      by_name false e short more =
          subst (λ l. length (firsts before (n ∷ ns)) ≤ length (firsts (others before) l) + extra before) (sym (others_more n ns e))
          (subst (λ b. length (firsts before (n ∷ ns)) ≤ length (if b then firsts (others before) (others ns) else n ∷ firsts (others before ++ n ∷ []) (others ns)) + extra before) (sym (among_others n before e))
          (another (is_among before n) e refl short more))

  pub apart_less : (ns : List (List ℕ)) → count_apart ns ≤ count_apart (others ns) + 1
  apart_less ns =
      let a = firsts_length [] ns in
      let b = firsts_length [] (others ns) in
      let c = one_less [] ns in
      omega arith

pub lean_room : (types : List NamedTy) (f : Function) (b : Body) → room lean_own types (lean_function f b) ≤ room low_own types (low_function f b)
lean_room types f b =
    let low = low_function f b in
    let lean = lean_function f b in
    let a : stack_arguments lean ≡ stack_arguments low = ap (λ l. greatest l - REGISTER_PARAMETERS) (calls_kept f b) in
    let c = apart_less (test_name (padding_for low)) (assigned lean) in
    let d : count_apart (filter (is_other (padding_for low)) (assigned lean)) ≡ count_apart (assigned low) = ap count_apart (assigned_kept f b) in
    let e = sum_kept (λ (x : Block). sum_by (λ (i : Inst). alloca_bytes types i.op) x.insts) (λ s at pred number taken other. refl) (λ s at. refl) (λ c to. omega arith) (padding_in f b) 0 b.chunks in
    omega arith
