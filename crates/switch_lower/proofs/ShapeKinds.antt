-- The kinds of locals of a function without switches: a local has the kind that it had, and the variable of tests is a
-- truth value.
use Rattle.std.proofs.Common.{◌≡◌, ℕ, zero, suc, ◌+◌, Bool, true, false, List, [], ◌∷◌, map, length, Option, Some, None, refl, ap, sym, ◌∙◌}
use Rattle.std.specs.Prelude.{not, option_map, slice_get, if◌then◌else◌}
use Rattle.std.specs.List.{list_any, filter}
use Rattle.std.proofs.lemmas.Bool.{or_left, or_right}
use Rattle.rd_num.specs.declared.width.Width.TheVariants.{W1}
use Rattle.ir_core.specs.declared.kind.Kind.{Kind}
use Rattle.ir_core.specs.declared.kind.Kind.TheVariants.{Number}
use Rattle.ir_core.specs.declared.ty.Ty.{Ty}
use Rattle.ir_core.specs.declared.operand.Operand.{Operand}
use Rattle.ir_core.specs.declared.instruction.Inst.{Inst}
use Rattle.ir_core.specs.declared.instruction.Pred.{Pred}
use Rattle.ir_core.specs.declared.module.Block.{Block}
use Rattle.ir_core.specs.declared.module.Param.{Param}
use Rattle.ir_core.specs.declared.module.Function.{Function}
use Rattle.ir_core.specs.Names.{same_name, first_where}
use Rattle.ir_core.specs.Definitions.{result_names}
use Rattle.ir_core.specs.Typing.{Env, has_kind, kind_given}
use Rattle.ir_core.specs.Valid.{LocalKind, param_kind, result_local, inst_local, kinds_in, results_of, locals_of, env_of}
use Rattle.ir_sound.specs.WellTyped.{Each}
use Rattle.ir_sound.proofs.RowLaws.{Each_both, Each_more, found_any, first_has}
use Rattle.ir_sound.proofs.SameLaws.{not_true, name_is, same_itself, kind_itself}
use Rattle.low_core.specs.declared.moves.Body.{Body}
use Rattle.low_core.specs.declared.moves.Chunk.{Chunk}
use Rattle.low_core.specs.Plain.{block_of}
use Rattle.switch_lower.specs.Ways.{ways}
use Rattle.switch_lower.specs.Fresh.{test_name, padding_for}
use Rattle.switch_lower.specs.Tree.{compare_chunk}
use Rattle.switch_lower.specs.Bodies.{body_of}
use Rattle.switch_lower.proofs.ShapeRows.{In, any_append, map_each, rows_each}
use Rattle.switch_lower.proofs.ShapeChunks.{choice, plain_tree, chunks_have}
use Rattle.switch_lower.proofs.ShapeFunctions.{low_function, lean_function}
use Rattle.switch_lower.proofs.ShapeFresh.{IsOld, HasOldNames, test_apart, params_old}
use Rattle.switch_lower.proofs.ShapeLocals.{other_local, locals_kept, chunks_old}

-- the first that passes among items that are kept
module _ {X : Type 0} (test keep : X → Bool) where
  first_kept : (xs : List X) → ((x : X) → test x ≡ true → keep x ≡ true) → first_where test (filter keep xs) ≡ first_where test xs
  first_kept [] goes = refl
  first_kept (x ∷ xs) goes = by_test (test x) (keep x) refl refl (first_kept xs goes)
    where
      by_test : (b c : Bool) → test x ≡ b → keep x ≡ c → first_where test (filter keep xs) ≡ first_where test xs → first_where test (if c then x ∷ filter keep xs else filter keep xs) ≡ (if b then Some x else first_where test xs)
      by_test true true e f go = ap (λ b. if b then Some x else first_where test (filter keep xs)) e
      by_test false true e f go = ap (λ b. if b then Some x else first_where test (filter keep xs)) e ∙ go
      by_test true false e f go = not_true (sym f ∙ goes x e)
      by_test false false e f go = go

  first_left : (xs : List X) → ((x : X) → test x ≡ true → keep x ≡ false) → first_where test (filter keep xs) ≡ None
  first_left [] goes = refl
  first_left (x ∷ xs) goes = by_test (test x) (keep x) refl refl (first_left xs goes)
    where
      by_test : (b c : Bool) → test x ≡ b → keep x ≡ c → first_where test (filter keep xs) ≡ None → first_where test (if c then x ∷ filter keep xs else filter keep xs) ≡ None
      by_test true true e f go = not_true (sym (goes x e) ∙ f)
      by_test false true e f go = ap (λ b. if b then Some x else first_where test (filter keep xs)) e ∙ go
      by_test b false e f go = go

-- what has a kind still has it
abbrev pub More : Env → Env → Type 0
More env env2 = (name : List ℕ) (k : Kind) → has_kind (env name) k ≡ true → has_kind (env2 name) k ≡ true

module _ (f : Function) (b : Body) where
  abbrev padding : ℕ
  padding = padding_for (low_function f b)

  abbrev t : List ℕ
  t = test_name (padding_for (low_function f b))

  abbrev lean : Function
  lean = lean_function f b

  abbrev named : List ℕ → LocalKind → Bool
  named name l = same_name l.name name

  env_kept : (name : List ℕ) → same_name t name ≡ false → env_of lean name ≡ env_of (low_function f b) name
  env_kept name other =
      ap (option_map (λ (l : LocalKind). l.kind)) (sym (first_kept (named name) (other_local padding) (locals_of lean) (λ l e. ap not (ap (same_name t) (name_is l.name name e) ∙ other))))
      ∙ ap (λ ls. option_map (λ (l : LocalKind). l.kind) (first_where (named name) ls)) (locals_kept f b)

  env_none : (name : List ℕ) → same_name t name ≡ true → env_of (low_function f b) name ≡ None
  env_none name same =
      ap (λ ls. option_map (λ (l : LocalKind). l.kind) (first_where (named name) ls)) (sym (locals_kept f b))
      ∙ ap (option_map (λ (l : LocalKind). l.kind)) (first_left (named name) (other_local padding) (locals_of lean) (λ l e. ap not (ap (same_name t) (name_is l.name name e) ∙ same)))

  pub kinds_stay : More (env_of (low_function f b)) (env_of (lean_function f b))
  kinds_stay name k e = by_test (same_name t name) refl
    where
      by_test : (c : Bool) → same_name t name ≡ c → has_kind (env_of lean name) k ≡ true
      by_test true same = not_true (sym (ap (λ o. has_kind o k) (env_none name same)) ∙ e)
      by_test false other = ap (λ o. has_kind o k) (env_kept name other) ∙ e

  -- the variable of tests is a truth value wherever it is assigned
  abbrev IsTruth : LocalKind → Type 0
  IsTruth l = same_name l.name t ≡ true → l.kind ≡ Number W1

  old_truth : (o : Option (List ℕ)) (k : Kind) → Each (IsOld padding) (result_names o) → Each IsTruth (result_local o k)
  old_truth (Some name) k old = ((λ same. not_true (sym (test_apart padding name old.0) ∙ ap (same_name t) (name_is name t same) ∙ same_itself t)), tt)
  old_truth None k old = tt

  params_truth : (ps : List Param) → Each (IsOld padding) (map (λ (p : Param). p.name) ps) → Each IsTruth (map param_kind ps)
  params_truth [] old = tt
  params_truth (p ∷ ps) old = ((λ same. not_true (sym (test_apart padding p.name old.0) ∙ ap (same_name t) (name_is p.name t same) ∙ same_itself t)), params_truth ps old.1)

  abbrev ChunkTruth : Chunk → Type 0
  ChunkTruth c = Each IsTruth (kinds_in (block_of c).insts)

  old_chunk : (c : Chunk) → HasOldNames padding (block_of c) → ChunkTruth c
  old_chunk c old = rows_each IsTruth inst_local (block_of c).insts (Each_more (λ (i : Inst). Each (IsOld padding) (result_names i.result)) (λ (i : Inst). Each IsTruth (inst_local i)) (block_of c).insts (λ i all. old_truth i.result (kind_given i.op) all) old.results)

  chunks_truth : Each ChunkTruth (body_of f b).chunks
  chunks_truth =
      chunks_have padding (body_of f b).chunks (λ c. HasOldNames padding (block_of c)) ChunkTruth (λ c old e. old_chunk c old)
      (λ at c ty a default cases old e are. (old_chunk c old, plain_tree ChunkTruth (choice padding ty a default) (λ n pred number taken other. ((λ same. refl), tt)) (λ n. tt) (length (ways ty cases)) (at + 1) (ways ty cases)))
      0 b.chunks (chunks_old f b) (λ x there. there)

  locals_truth : Each IsTruth (locals_of lean)
  locals_truth =
      Each_both IsTruth (map param_kind f.params) (results_of lean.blocks) (params_truth f.params (params_old (low_function f b)))
      (rows_each IsTruth (λ (x : Block). kinds_in x.insts) lean.blocks (map_each (λ (x : Block). Each IsTruth (kinds_in x.insts)) block_of (body_of f b).chunks chunks_truth))

  -- and is a local where a chunk compares
  any_local : (test : LocalKind → Bool) (x : Chunk) (cs : List Chunk) → In x cs → list_any test (kinds_in (block_of x).insts) ≡ true → list_any test (results_of (map block_of cs)) ≡ true
  any_local test x cs there e = at_place cs there.0 there.1
    where
      at_place : (zs : List Chunk) (k : ℕ) → slice_get zs k ≡ Some x → list_any test (results_of (map block_of zs)) ≡ true
      at_place [] k g = absurd (cc)
      at_place (z ∷ zs) zero g =
          let same : z ≡ x = cc in
          any_append test (kinds_in (block_of z).insts) (results_of (map block_of zs)) ∙ or_left _ _ (ap (λ (c : Chunk). list_any test (kinds_in (block_of c).insts)) same ∙ e)
      at_place (z ∷ zs) (suc k) g = any_append test (kinds_in (block_of z).insts) (results_of (map block_of zs)) ∙ or_right _ _ (at_place zs k g)

  pub test_there : (ty : Ty) (a : Operand) (default : List ℕ) (at : ℕ) (pred : Pred) (number : ℕ) (taken other : List ℕ) → In (compare_chunk (choice padding ty a default) at pred number taken other) (body_of f b).chunks → list_any (named t) (locals_of (lean_function f b)) ≡ true
  test_there ty a default at pred number taken other there =
      any_append (named t) (map param_kind f.params) (results_of lean.blocks)
      ∙ or_right _ _ (any_local (named t) (compare_chunk (choice padding ty a default) at pred number taken other) (body_of f b).chunks there (or_left _ _ (same_itself t)))

  pub test_kind : list_any (named t) (locals_of lean) ≡ true → env_of (lean_function f b) (test_name (padding_for (low_function f b))) ≡ Some (Number W1)
  test_kind there =
      let g = found_any (named t) (locals_of lean) there in
      ap (option_map (λ (l : LocalKind). l.kind)) g.first ∙ ap Some (first_has IsTruth (named t) (locals_of lean) g.item locals_truth g.first g.passes)

  pub test_has_kind : list_any (named t) (locals_of lean) ≡ true → has_kind (env_of (lean_function f b) (test_name (padding_for (low_function f b)))) (Number W1) ≡ true
  test_has_kind there = ap (λ o. has_kind o (Number W1)) (test_kind there) ∙ kind_itself (Number W1)
