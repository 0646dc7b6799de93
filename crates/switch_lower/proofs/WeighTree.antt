-- A compare tree weighs no more than its switch.
use Rattle.std.proofs.Common.{◌≡◌, ℕ, zero, suc, ◌+◌, ◌*◌, ◌≤◌, Bool, true, false, List, [], ◌∷◌, ◌++◌, map, length, take, drop, refl, ap, ◌∙◌, arith, length-append}
use Rattle.std.specs.Prelude.{◌&&◌, nat_le}
use Rattle.std.specs.List.{list_all, sum_by}
use Rattle.std.proofs.lemmas.Bool.{and_parts, leb-false}
use Rattle.std.proofs.lemmas.List.{map-append}
use Rattle.std.proofs.lemmas.List.Sums.{sum_by-cons, sum_by-append}
use Rattle.ir_core.specs.declared.kind.Kind.{Kind}
use Rattle.ir_core.specs.declared.kind.Kind.TheVariants.{NoValue, Number, Pointer}
use Rattle.ir_core.specs.declared.operand.Operand.{Operand}
use Rattle.ir_core.specs.declared.operand.Operand.TheVariants.{Int, Bool as Truth, Null as NullWord, Undef, Poison, Local as LocalName, Global, Const}
use Rattle.ir_core.specs.declared.instruction.Case.{Case}
use Rattle.ir_core.specs.declared.instruction.Pred.{Pred}
use Rattle.ir_core.specs.declared.instruction.Term.{Term}
use Rattle.ir_core.specs.declared.instruction.Term.TheVariants.{Ret, RetValue, Br, BrIf, Switch, Unreachable}
use Rattle.ir_core.specs.declared.module.Block.{Block}
use Rattle.ir_core.specs.declared.module.Function.{Function}
use Rattle.ir_core.specs.declared.module.Module.{Module}
use Rattle.ir_core.specs.Kinds.{kind_of}
use Rattle.ir_core.specs.Typing.{Env, is_number, operand_fits, case_fits, term_fits}
use Rattle.ir_core.specs.Valid.{env_of, cases_differ, spares_entry, end_fits}
use Rattle.ir_sound.specs.WellTyped.{Each}
use Rattle.ir_sound.proofs.SameLaws.{not_true}
use Rattle.low_core.specs.declared.moves.Chunk.{Chunk}
use Rattle.low_core.specs.Plain.{block_of}
use Rattle.low_core.specs.Weights.{operand_weight, cases_weight, end_weight, block_weight}
use Rattle.switch_lower.specs.Ways.{Way, ways}
use Rattle.switch_lower.specs.Fresh.{chunk_name}
use Rattle.switch_lower.specs.Tree.{Choice, compare_chunk, read_chunk, row, ways_within, size_within, tree, tree_of}
use Rattle.switch_lower.specs.Bodies.{with_end, chunks_by, chunks_for, chunks_from}
use Rattle.switch_lower.proofs.ShapeTree.{front_length, rest_length, tests_length, tree_full, left_half, right_half, parted}
use Rattle.switch_lower.proofs.ShapeWays.{ways_length}
use Rattle.switch_lower.proofs.ShapeChunks.{choice, switch_tree, plain_tree}

-- a value of a switch: what is no place weighs little
abbrev pub Light : Term → Type 0
Light (Switch ty a default cases) = operand_weight a ≤ 20
Light end = Unit {0}

light_operand : (m : Module) (env : Env) (kind : Kind) (a : Operand) → is_number kind ≡ true → operand_fits m env kind a ≡ true → operand_weight a ≤ 20
light_operand m env kind (Int n) number fits = omega arith
light_operand m env kind (Truth b) number fits = omega arith
light_operand m env kind NullWord number fits = omega arith
light_operand m env kind Undef number fits = omega arith
light_operand m env kind Poison number fits = omega arith
light_operand m env kind (LocalName name) number fits = omega arith
light_operand m env kind (Global name) number fits = omega arith
light_operand m env NoValue (Const place) number fits = not_true number
light_operand m env Pointer (Const place) number fits = not_true number
light_operand m env (Number w) (Const place) number fits = not_true fits

pub end_light : (m : Module) (f : Function) (end : Term) → end_fits m f end ≡ true → Light end
end_light m f (Switch ty a default cases) fits =
    let p = and_parts (term_fits m (env_of f) (kind_of f.ret) (Switch ty a default cases)) (cases_differ (Switch ty a default cases) && spares_entry f.blocks (Switch ty a default cases)) fits in
    let q = and_parts (is_number (kind_of ty)) (operand_fits m (env_of f) (kind_of ty) a && list_all (case_fits m (kind_of ty)) cases) p.0 in
    let r = and_parts (operand_fits m (env_of f) (kind_of ty) a) (list_all (case_fits m (kind_of ty)) cases) q.1 in
    light_operand m (env_of f) (kind_of ty) a q.0 r.0
end_light m f end fits = tt

-- how many chunks a tree has: one for each way, and one more for each four of them but the last four
module _ (s : Choice) where
  pub tree_size : (d at : ℕ) (ws : List Way) → 1 ≤ length ws → 4 * length (tree s d at ws) + 1 ≤ 5 * length ws
  tree_size zero at ws some = of_ways ws some
    where
      of_ways : (ws : List Way) → 1 ≤ length ws → 4 * length (row s at ws) + 1 ≤ 5 * length ws
      of_ways [] le = absurd (omega arith)
      of_ways (w ∷ ws) le = let t = tests_length s at (w ∷ ws) in omega arith
  tree_size (suc d) at ws some = by_test (nat_le (length ws) (ways_within d)) refl (tree_size d at ws some) (λ le. tree_size d (at + size_within d) (drop (ways_within d) ws) le)
    where
      by_test : (b : Bool) → nat_le (length ws) (ways_within d) ≡ b → 4 * length (tree s d at ws) + 1 ≤ 5 * length ws
          → (1 ≤ length (drop (ways_within d) ws) → 4 * length (right_half s d at ws) + 1 ≤ 5 * length (drop (ways_within d) ws))
          → 4 * length (parted s b d at ws) + 1 ≤ 5 * length ws
      by_test true e whole right = whole
      by_test false e whole right =
          let more = leb-false (length ws) (ways_within d) e in
          let full = tree_full s d (at + 1) (take (ways_within d) ws) (front_length d ws more) in
          let rest = rest_length d ws more in
          let r = right (omega arith) in
          let l = length-append (left_half s d at ws) (right_half s d at ws) in
          omega arith

  -- its weight
  compare_light : operand_weight s.value ≤ 20 → (at : ℕ) (pred : Pred) (number : ℕ) (taken other : List ℕ) → block_weight (block_of (compare_chunk s at pred number taken other)) ≤ 112
  compare_light light at pred number taken other = omega arith

  read_light : operand_weight s.value ≤ 20 → (at : ℕ) → block_weight (block_of (read_chunk s at)) ≤ 112
  read_light light at = omega arith

  chunks_light : (cs : List Chunk) → Each (λ (x : Chunk). block_weight (block_of x) ≤ 112) cs → sum_by block_weight (map block_of cs) ≤ length cs * 112
  chunks_light [] all = omega arith
  chunks_light (c ∷ cs) all =
      let a = sum_by-cons block_weight (block_of c) (map block_of cs) in
      let b = chunks_light cs all.1 in
      let d = all.0 in
      omega arith

  tree_weight : operand_weight s.value ≤ 20 → (at : ℕ) (ws : List Way) → sum_by block_weight (map block_of (tree_of s at ws)) ≤ 144 * length ws + 88 + operand_weight s.value
  tree_weight light at [] = omega arith
  tree_weight light at (w ∷ ws) =
      let a = chunks_light (tree_of s at (w ∷ ws)) (plain_tree (λ (x : Chunk). block_weight (block_of x) ≤ 112) s (compare_light light) (read_light light) (length (w ∷ ws)) at (w ∷ ws)) in
      let b = tree_size (length (w ∷ ws)) at (w ∷ ws) (omega arith) in
      omega arith

-- cases
cases_weigh : (cases : List Case) → cases_weight cases ≡ 144 * length cases
cases_weigh [] = refl
cases_weigh (c ∷ cs) = let a = sum_by-cons (λ (d : Case). 144) c cs in let b = cases_weigh cs in omega arith

-- what stands in the place of a chunk, and of chunks
chunk_weigh : (padding at : ℕ) (c : Chunk) (end : Term) → c.end ≡ end → Light end → sum_by block_weight (map block_of (chunks_by padding at c end)) ≤ block_weight (block_of c)
chunk_weigh padding at c (Switch ty a default cases) e light =
    let own = block_of (with_end c (Br (chunk_name padding (at + 1)))) in
    let new = switch_tree padding (at + 1) ty a default cases in
    let p = sum_by-cons block_weight own (map block_of new) in
    let q = tree_weight (choice padding ty a default) light (at + 1) (ways ty cases) in
    let r = ways_length ty cases in
    let t = cases_weigh cases in
    let u : end_weight c.end ≡ 96 + operand_weight a + cases_weight cases = ap end_weight e in
    omega arith
chunk_weigh padding at c end e light = let p = sum_by-cons block_weight (block_of c) [] in omega arith

pub chunks_weigh : (padding at : ℕ) (cs : List Chunk) → Each (λ (c : Chunk). Light c.end) cs → sum_by block_weight (map block_of (chunks_from padding at cs)) ≤ sum_by block_weight (map block_of cs)
chunks_weigh padding at [] light = omega arith
chunks_weigh padding at (c ∷ cs) light =
    let one = chunks_for padding at c in
    let others = chunks_from padding (at + length one) cs in
    let p : sum_by block_weight (map block_of (one ++ others)) ≡ sum_by block_weight (map block_of one) + sum_by block_weight (map block_of others) = ap (sum_by block_weight) (map-append block_of one others) ∙ sum_by-append block_weight (map block_of one) (map block_of others) in
    let q = chunk_weigh padding at c c.end refl light.0 in
    let r = chunks_weigh padding (at + length one) cs light.1 in
    let t = sum_by-cons block_weight (block_of c) (map block_of cs) in
    omega arith

-- a chunk weighs at least eight
end_least : (end : Term) → 8 ≤ end_weight end
end_least Ret = omega arith
end_least (RetValue ty a) = omega arith
end_least (Br to) = omega arith
end_least (BrIf condition taken other) = omega arith
end_least (Switch ty a default cases) = omega arith
end_least Unreachable = omega arith

pub chunks_least : (bs : List Block) → 8 * length bs ≤ sum_by block_weight bs
chunks_least [] = omega arith
chunks_least (b ∷ bs) =
    let a = sum_by-cons block_weight b bs in
    let d = end_least b.end in
    let e = chunks_least bs in
    omega arith
