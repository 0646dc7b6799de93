-- The instructions and ends of a function without switches keep the rules of types.
use Rattle.std.proofs.Common.{◌≡◌, ℕ, ◌+◌, Bool, true, false, List, [], ◌∷◌, ◌++◌, map, length, refl, ap, sym, ◌∙◌, arith}
use Rattle.std.specs.Prelude.{◌&&◌, ◌||◌, not, pos}
use Rattle.std.specs.List.{list_all, list_any, enumerate_from}
use Rattle.std.proofs.lemmas.Bool.{and_parts, and_from, eqb-true, eq-eqb}
use Rattle.std.proofs.lemmas.List.{map-append}
use Rattle.ir_core.specs.declared.ty.Ty.{Ty}
use Rattle.ir_core.specs.declared.operand.Operand.{Operand}
use Rattle.ir_core.specs.declared.instruction.Case.{Case}
use Rattle.ir_core.specs.declared.instruction.Inst.{Inst}
use Rattle.ir_core.specs.declared.instruction.Pred.{Pred}
use Rattle.ir_core.specs.declared.instruction.Op.{Op}
use Rattle.ir_core.specs.declared.instruction.Op.TheVariants.{Alloca}
use Rattle.ir_core.specs.declared.instruction.Term.{Term}
use Rattle.ir_core.specs.declared.instruction.Term.TheVariants.{Ret, RetValue, Br, BrIf, Switch, Unreachable}
use Rattle.ir_core.specs.declared.module.Function.{Function}
use Rattle.ir_core.specs.declared.module.Module.{Module}
use Rattle.ir_core.specs.Names.{same_name}
use Rattle.ir_core.specs.Kinds.{kind_of}
use Rattle.ir_core.specs.Typing.{is_value, is_number, int_fits, operand_fits, case_fits, labels_of, kind_given, into_fits, term_fits}
use Rattle.ir_core.specs.Valid.{env_of, op_rules, names_value, alloca_fits, case_number, cases_differ, is_entry, spares_entry, end_fits}
use Rattle.ir_sound.specs.WellTyped.{Each}
use Rattle.ir_sound.proofs.RowLaws.{length_map}
use Rattle.ir_sound.proofs.SameLaws.{not_true}
use Rattle.low_core.specs.declared.moves.Body.{Body}
use Rattle.low_core.specs.declared.moves.Chunk.{Chunk}
use Rattle.low_core.specs.Plain.{block_of, plain}
use Rattle.low_core.specs.Shaped.{is_lean_end, move_fits, chunk_fits}
use Rattle.switch_lower.specs.Ways.{ways}
use Rattle.switch_lower.specs.Fresh.{test_name, chunk_name, padding_for}
use Rattle.switch_lower.specs.Tree.{compare_chunk, read_chunk}
use Rattle.switch_lower.specs.Bodies.{with_end, chunks_by, chunks_for, chunks_from, body_of, bodies_without_switches}
use Rattle.switch_lower.proofs.ShapeRows.{In, in_left, in_right, each_in, all_both}
use Rattle.switch_lower.proofs.ShapeTree.{tree_have}
use Rattle.switch_lower.proofs.ShapeWays.{ways_have}
use Rattle.switch_lower.proofs.ShapeChunks.{choice, switch_tree}
use Rattle.switch_lower.proofs.ShapeFunctions.{low_function, lean_function}
use Rattle.switch_lower.proofs.ShapeFresh.{HasOldNames, zeros_apart}
use Rattle.switch_lower.proofs.ShapeLocals.{chunks_old}
use Rattle.switch_lower.proofs.ShapeKinds.{kinds_stay, test_there, test_has_kind}
use Rattle.switch_lower.proofs.ShapeTypes.{operand_more, op_more, into_more, term_more, number_value, nought_fits, case_fits_number}

-- items with their numbers, of two rows
numbers_both : {X : Type 0} (n : ℕ) (xs ys : List X) → enumerate_from n (xs ++ ys) ≡ enumerate_from n xs ++ enumerate_from (n + length xs) ys
numbers_both n [] ys = let e : n ≡ n + 0 = omega arith in ap (λ k. enumerate_from k ys) e
numbers_both n (x ∷ xs) ys =
    let e : n + 1 + length xs ≡ n + length (x ∷ xs) = omega arith in
    ap (λ l. (n, x) ∷ l) (numbers_both (n + 1) xs ys) ∙ ap (λ k. (n, x) ∷ enumerate_from (n + 1) xs ++ enumerate_from k ys) e

-- a test that none passes
not_any : {X : Type 0} (test : X → Bool) (xs : List X) → not (list_any test xs) ≡ true → Each (λ x. test x ≡ false) xs
not_any test [] e = tt
not_any test (x ∷ xs) e = by_test (test x) refl e (λ f. not_any test xs f)
  where
    by_test : (b : Bool) → test x ≡ b → not (b || list_any test xs) ≡ true → (not (list_any test xs) ≡ true → Each (λ y. test y ≡ false) xs) → Each (λ y. test y ≡ false) (x ∷ xs)
    by_test true t f go = not_true f
    by_test false t f go = (t, go f)

any_not : {X : Type 0} (test : X → Bool) (xs : List X) → Each (λ x. test x ≡ false) xs → not (list_any test xs) ≡ true
any_not test [] all = refl
any_not test (x ∷ xs) all = ap (λ b. not (b || list_any test xs)) all.0 ∙ any_not test xs all.1

-- the entry keeps its label, and no new chunk has it
first_same : (padding at : ℕ) (c : Chunk) (end : Term) (more : List Chunk) (label : List ℕ) → is_entry (map block_of (chunks_by padding at c end ++ more)) label ≡ same_name label c.label
first_same padding at c Ret more label = refl
first_same padding at c (RetValue ty a) more label = refl
first_same padding at c (Br to) more label = refl
first_same padding at c (BrIf condition taken other) more label = refl
first_same padding at c (Switch ty a default cases) more label = refl
first_same padding at c Unreachable more label = refl

entry_same : (padding at : ℕ) (cs : List Chunk) (label : List ℕ) → is_entry (map block_of (chunks_from padding at cs)) label ≡ is_entry (map block_of cs) label
entry_same padding at [] label = refl
entry_same padding at (c ∷ cs) label = first_same padding at c c.end (chunks_from padding (at + length (chunks_for padding at c)) cs) label

entry_new : (padding n : ℕ) (cs : List Chunk) → Each (λ (c : Chunk). HasOldNames padding (block_of c)) cs → is_entry (map block_of cs) (chunk_name padding n) ≡ false
entry_new padding n [] old = refl
entry_new padding n (c ∷ cs) old = zeros_apart padding _ c.label old.0.label

-- cases that fit lead on with their numbers
cases_lead : (m : Module) (ty : Ty) (L : List ℕ → Type 0) → is_number (kind_of ty) ≡ true → (cases : List Case) → Each L (map (λ (c : Case). c.to) cases) → Each (λ (c : Case). (int_fits (kind_of ty) (pos (case_number (kind_of ty) c.value)) ≡ true) × L c.to) cases
cases_lead m ty L number [] labels = tt
cases_lead m ty L number (c ∷ cs) labels = ((case_fits_number (kind_of ty) c.value number, labels.0), cases_lead m ty L number cs labels.1)

-- an end that isn't a switch has no cases that could be the same
lean_differ : (end : Term) → is_lean_end end ≡ true → cases_differ end ≡ true
lean_differ (Switch ty a default cases) e = not_true e
lean_differ end e = refl

alloca_stays : (k n : ℕ) (op : Op) → (k ≡ 0 → n ≡ 0) → alloca_fits k op ≡ true → alloca_fits n op ≡ true
alloca_stays k n (Alloca ty count) first e = eq-eqb n 0 (first (eqb-true k 0 e))
alloca_stays k n op first e = refl

module _ (base : Module) (bodies : List Body) (f : Function) (b : Body) where
  abbrev m : Module
  m = plain base bodies

  abbrev w : Module
  w = plain base (bodies_without_switches base bodies)

  abbrev low : Function
  low = low_function f b

  abbrev lean : Function
  lean = lean_function f b

  abbrev padding : ℕ
  padding = padding_for (low_function f b)

  abbrev t : List ℕ
  t = test_name (padding_for (low_function f b))

  -- labels to which a chunk may lead
  abbrev Spared : List ℕ → Type 0
  Spared label = is_entry lean.blocks label ≡ false

  old_spared : (label : List ℕ) → is_entry low.blocks label ≡ false → Spared label
  old_spared label e = entry_same padding 0 b.chunks label ∙ e

  new_spared : (n : ℕ) → Spared (chunk_name padding n)
  new_spared n = old_spared (chunk_name padding n) (entry_new padding n b.chunks (chunks_old f b))

  all_spared : (labels : List (List ℕ)) → Each (λ l. is_entry low.blocks l ≡ false) labels → Each Spared labels
  all_spared [] all = tt
  all_spared (l ∷ ls) all = (old_spared l all.0, all_spared ls all.1)

  -- moves
  moves_fit : (k n : ℕ) (is : List Inst) → (k ≡ 0 → n ≡ 0) → list_all (move_fits m low k) is ≡ true → list_all (move_fits w lean n) is ≡ true
  moves_fit k n [] first e = refl
  moves_fit k n (i ∷ is) first e =
      let env = env_of low in
      let env2 = env_of lean in
      let more = kinds_stay f b in
      let p = and_parts (move_fits m low k i) (list_all (move_fits m low k) is) e in
      let q = and_parts (op_rules m env i.op && names_value i.result (kind_given i.op)) (into_fits env i.result (kind_given i.op) && alloca_fits k i.op) p.0 in
      let r = and_parts (op_rules m env i.op) (names_value i.result (kind_given i.op)) q.0 in
      let s = and_parts (into_fits env i.result (kind_given i.op)) (alloca_fits k i.op) q.1 in
      and_from _ _ (and_from _ _ (and_from _ _ (op_more base bodies env env2 more i.op r.0) r.1) (and_from _ _ (into_more base bodies env env2 more i.result (kind_given i.op) s.0) (alloca_stays k n i.op first s.1))) (moves_fit k n is first p.1)

  -- ends
  lean_end_fits : (end : Term) → is_lean_end end ≡ true → end_fits m low end ≡ true → end_fits w lean end ≡ true
  lean_end_fits end plain e =
      let p = and_parts (term_fits m (env_of low) (kind_of f.ret) end) (cases_differ end && spares_entry low.blocks end) e in
      let q = and_parts (cases_differ end) (spares_entry low.blocks end) p.1 in
      and_from _ _ (term_more base bodies (env_of low) (env_of lean) (kinds_stay f b) (kind_of f.ret) end plain p.0)
      (and_from _ _ (lean_differ end plain) (any_not (is_entry lean.blocks) (labels_of end) (all_spared (labels_of end) (not_any (is_entry low.blocks) (labels_of end) q.1))))

  -- chunks of a tree
  abbrev whole : List Chunk
  whole = (body_of f b).chunks

  abbrev Fits : Chunk → Type 0
  Fits c = (n : ℕ) → chunk_fits w lean (n, block_of c) ≡ true

  abbrev FitsIn : Chunk → Type 0
  FitsIn c = In c whole → Fits c

  fit_all : (cs : List Chunk) → Each (λ c. In c whole) cs → Each FitsIn cs → Each Fits cs
  fit_all [] there all = tt
  fit_all (c ∷ cs) there all = (all.0 there.0, fit_all cs there.1 all.1)

  numbered_fit : (n : ℕ) (cs : List Chunk) → Each Fits cs → list_all (chunk_fits w lean) (enumerate_from n (map block_of cs)) ≡ true
  numbered_fit n [] all = refl
  numbered_fit n (c ∷ cs) all = and_from _ _ (all.0 n) (numbered_fit (n + 1) cs all.1)

  module _ (ty : Ty) (a : Operand) (default : List ℕ) (number : is_number (kind_of ty) ≡ true) (value : operand_fits m (env_of low) (kind_of ty) a ≡ true) where
    compare_fits : (at : ℕ) (pred : Pred) (n : ℕ) (taken other : List ℕ) → int_fits (kind_of ty) (pos n) ≡ true → Spared taken → Spared other → FitsIn (compare_chunk (choice padding ty a default) at pred n taken other)
    compare_fits at pred n taken other literal first second there k =
        let kind = test_has_kind f b (test_there f b ty a default at pred n taken other there) in
        let has = operand_more base bodies (env_of low) (env_of lean) (kinds_stay f b) (kind_of ty) a value in
        let is : is_value (kind_of ty) ≡ true = number_value (kind_of ty) number in
        let op = and_from _ _ is (and_from _ _ has literal) in
        let moves = and_from _ true (and_from _ _ (and_from _ true op refl) (and_from _ true kind refl)) refl in
        and_from _ _ moves (and_from _ _ kind (any_not (is_entry lean.blocks) (taken ∷ other ∷ []) (first, (second, tt))))

    read_fits : (at : ℕ) → Spared default → FitsIn (read_chunk (choice padding ty a default) at)
    read_fits at spared there k =
        let has = operand_more base bodies (env_of low) (env_of lean) (kinds_stay f b) (kind_of ty) a value in
        let is : is_value (kind_of ty) ≡ true = number_value (kind_of ty) number in
        let op = and_from _ _ is has in
        let moves = and_from _ true (and_from _ true (and_from _ true op refl) refl) refl in
        and_from _ _ moves (any_not (is_entry lean.blocks) (default ∷ []) (spared, tt))

  -- what stands in the place of a chunk
  one_fits : (k at : ℕ) (c : Chunk) (end : Term) → c.end ≡ end → (k ≡ 0 → at ≡ 0) → chunk_fits m low (k, block_of c) ≡ true → ((x : Chunk) → In x (chunks_by padding at c end) → In x whole)
      → list_all (chunk_fits w lean) (enumerate_from at (map block_of (chunks_by padding at c end))) ≡ true
  one_fits k at c (Switch ty a default cases) e first fits are =
      let first_chunk = with_end c (Br (chunk_name padding (at + 1))) in
      let ws = ways ty cases in
      let new = switch_tree padding (at + 1) ty a default cases in
      let p = and_parts (list_all (move_fits m low k) (block_of c).insts) (end_fits m low c.end) fits in
      let end : end_fits m low (Switch ty a default cases) ≡ true = ap (end_fits m low) (sym e) ∙ p.1 in
      let q = and_parts (term_fits m (env_of low) (kind_of f.ret) (Switch ty a default cases)) (cases_differ (Switch ty a default cases) && spares_entry low.blocks (Switch ty a default cases)) end in
      let r = and_parts (is_number (kind_of ty)) (operand_fits m (env_of low) (kind_of ty) a && list_all (case_fits m (kind_of ty)) cases) q.0 in
      let s = and_parts (operand_fits m (env_of low) (kind_of ty) a) (list_all (case_fits m (kind_of ty)) cases) r.1 in
      let labels = all_spared (default ∷ map (λ (x : Case). x.to) cases) (not_any (is_entry low.blocks) (default ∷ map (λ (x : Case). x.to) cases) (and_parts (cases_differ (Switch ty a default cases)) (spares_entry low.blocks (Switch ty a default cases)) q.1).1) in
      let tree = tree_have (choice padding ty a default) FitsIn (λ n. int_fits (kind_of ty) (pos n) ≡ true) Spared (at + 1) (at + 1 + length new) (nought_fits (kind_of ty) r.0) labels.0 (λ n le less. new_spared n)
      (compare_fits ty a default r.0 s.0) (λ n. read_fits ty a default r.0 s.0 n labels.0)
      (length ws) (at + 1) ws (omega arith) (omega arith) (ways_have (λ n. int_fits (kind_of ty) (pos n) ≡ true) Spared ty cases (cases_lead m ty Spared r.0 cases labels.1)) in
      and_from _ _ (and_from _ _ (moves_fit k at (block_of c).insts first p.0) (any_not (is_entry lean.blocks) (chunk_name padding (at + 1) ∷ []) (new_spared (at + 1), tt)))
      (numbered_fit (at + 1) new (fit_all new (each_in whole new (λ x there. are x (in_right x (first_chunk ∷ []) new there))) tree))
  one_fits k at c end e first fits are =
      let p = and_parts (list_all (move_fits m low k) (block_of c).insts) (end_fits m low c.end) fits in
      and_from _ true (and_from _ _ (moves_fit k at (block_of c).insts first p.0) (lean_end_fits c.end (ap is_lean_end e) p.1)) refl

  chunks_fit : (k at : ℕ) (cs : List Chunk) → (k ≡ 0 → at ≡ 0) → list_all (chunk_fits m low) (enumerate_from k (map block_of cs)) ≡ true → ((x : Chunk) → In x (chunks_from padding at cs) → In x whole)
      → list_all (chunk_fits w lean) (enumerate_from at (map block_of (chunks_from padding at cs))) ≡ true
  chunks_fit k at [] first fits are = refl
  chunks_fit k at (c ∷ cs) first fits are =
      let one = chunks_for padding at c in
      let others = chunks_from padding (at + length one) cs in
      let p = and_parts (chunk_fits m low (k, block_of c)) (list_all (chunk_fits m low) (enumerate_from (k + 1) (map block_of cs))) fits in
      let rest = chunks_fit (k + 1) (at + length one) cs (λ e. absurd (omega arith)) p.1 (λ x there. are x (in_right x one others there)) in
      let long : length (map block_of one) ≡ length one = length_map block_of one in
      ap (λ l. list_all (chunk_fits w lean) (enumerate_from at l)) (map-append block_of one others)
      ∙ ap (list_all (chunk_fits w lean)) (numbers_both at (map block_of one) (map block_of others))
      ∙ all_both (chunk_fits w lean) (enumerate_from at (map block_of one)) (enumerate_from (at + length (map block_of one)) (map block_of others)) (one_fits k at c c.end refl first p.0 (λ x there. are x (in_left x one others there)))
      (ap (λ n. list_all (chunk_fits w lean) (enumerate_from (at + n) (map block_of others))) long ∙ rest)

  pub lean_fits : list_all (chunk_fits (plain base bodies) (low_function f b)) (enumerate_from 0 (low_function f b).blocks) ≡ true → list_all (chunk_fits (plain base (bodies_without_switches base bodies)) (lean_function f b)) (enumerate_from 0 (lean_function f b).blocks) ≡ true
  lean_fits fits = chunks_fit 0 0 b.chunks (λ e. refl) fits (λ x there. there)
