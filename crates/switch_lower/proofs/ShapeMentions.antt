-- What bodies mention, and what they mention without their switches: the same, but for labels and the variable of tests.
use Rattle.std.proofs.Common.{◌≡◌, ℕ, ◌+◌, ◌≤◌, ◌<◌, List, [], ◌∷◌, ◌++◌, map, length, subst, arith}
use Rattle.std.specs.List.{flat_map}
use Rattle.ir_core.specs.declared.ty.Ty.{Ty}
use Rattle.ir_core.specs.declared.operand.Operand.{Operand}
use Rattle.ir_core.specs.declared.instruction.Case.{Case}
use Rattle.ir_core.specs.declared.instruction.Inst.{Inst}
use Rattle.ir_core.specs.declared.instruction.Pred.{Pred}
use Rattle.ir_core.specs.declared.instruction.Term.TheVariants.{Br, Switch}
use Rattle.ir_core.specs.declared.module.Block.{Block}
use Rattle.ir_core.specs.declared.module.Param.{Param}
use Rattle.ir_core.specs.declared.module.Function.{Function}
use Rattle.ir_core.specs.declared.module.Module.{Module}
use Rattle.ir_core.specs.Mentions.{Mention, OfType, OfLabel, OfLocal, of_operand, of_typed, of_op, of_cases, of_end, of_block, of_function, outside_functions, mentions, types_in, written_types}
use Rattle.ir_sound.specs.WellTyped.{Each}
use Rattle.ir_sound.proofs.RowLaws.{Each_both, Each_parts, Each_rows, Each_more, each_mapped}
use Rattle.low_core.specs.declared.moves.Body.{Body}
use Rattle.low_core.specs.declared.moves.Chunk.{Chunk}
use Rattle.low_core.specs.Plain.{block_of, with_bodies, plain}
use Rattle.switch_lower.specs.Ways.{ways}
use Rattle.switch_lower.specs.Fresh.{test_name, chunk_name, padding_for}
use Rattle.switch_lower.specs.Tree.{compare_chunk}
use Rattle.switch_lower.specs.Bodies.{with_end, body_of, bodies_of, bodies_without_switches}
use Rattle.switch_lower.proofs.ShapeRows.{In, rows_each, map_each, each_in}
use Rattle.switch_lower.proofs.ShapeTree.{tree_have, tree_some, tree_numbered}
use Rattle.switch_lower.proofs.ShapeWays.{ways_have}
use Rattle.switch_lower.proofs.ShapeLabels.{numbered_in}
use Rattle.switch_lower.proofs.ShapeChunks.{choice, switch_tree, chunks_have}
use Rattle.switch_lower.proofs.ShapeFunctions.{low_function, lean_function, functions_each}

-- labels of cases
cases_mentioned : (Q : Mention → Type 0) (cases : List Case) → Each Q (of_cases cases) → Each (λ (c : Case). Unit {0} × Q (OfLabel c.to)) cases
cases_mentioned Q [] all = tt
cases_mentioned Q (c ∷ cs) all =
    let p = Each_parts Q (of_typed c.ty c.value ++ OfLabel c.to ∷ []) (of_cases cs) all in
    ((tt, (Each_parts Q (of_typed c.ty c.value) (OfLabel c.to ∷ []) p.0).1.0), cases_mentioned Q cs p.1)

-- a function whose mentions have Q, and without switches R
module _ (f : Function) (b : Body) (Q R : Mention → Type 0) (more : (x : Mention) → Q x → R x)
    (label_there : (n : ℕ) (x : Chunk) → In x (body_of f b).chunks → x.label ≡ chunk_name (padding_for (low_function f b)) n → R (OfLabel (chunk_name (padding_for (low_function f b)) n)))
    (test_there : (ty : Ty) (a : Operand) (default : List ℕ) (at : ℕ) (pred : Pred) (number : ℕ) (taken other : List ℕ) → In (compare_chunk (choice (padding_for (low_function f b)) ty a default) at pred number taken other) (body_of f b).chunks → R (OfLocal (test_name (padding_for (low_function f b))))) where
  abbrev padding : ℕ
  padding = padding_for (low_function f b)

  abbrev whole : List Chunk
  whole = (body_of f b).chunks

  abbrev Mentions : Chunk → Type 0
  Mentions c = Each Q (of_block (block_of c))

  abbrev Says : Chunk → Type 0
  Says c = In c whole → Each R (of_block (block_of c))

  stay : (c : Chunk) → Mentions c → Says c
  stay c all there = Each_more Q R (of_block (block_of c)) more all

  leads : (at : ℕ) (c : Chunk) (ty : Ty) (a : Operand) (default : List ℕ) (cases : List Case) → Mentions c → c.end ≡ Switch ty a default cases
      → ((x : Chunk) → In x (switch_tree padding (at + 1) ty a default cases) → In x whole)
      → Says (with_end c (Br (chunk_name padding (at + 1)))) × Each Says (switch_tree padding (at + 1) ty a default cases)
  leads at c ty a default cases all e are =
      let s = choice padding ty a default in
      let ws = ways ty cases in
      let new = switch_tree padding (at + 1) ty a default cases in
      let p = Each_parts Q (flat_map (λ (i : Inst). of_op i.op) (block_of c).insts) (of_end c.end) all in
      let end : Each Q (of_end (Switch ty a default cases)) = subst (λ z. Each Q (of_end z)) e p.1 in
      let q = Each_parts Q (of_typed ty a) (OfLabel default ∷ of_cases cases) end in
      let value = Each_more Q R (of_operand a) more q.0.1 in
      let numbers = tree_numbered s (length ws) (at + 1) ws in
      let label : (n : ℕ) → at + 1 ≤ n → n < at + 1 + length new → R (OfLabel (chunk_name padding n)) = λ n le less. let x = numbered_in padding (at + 1) new numbers n le less in label_there n x.0 (are x.0 x.1.0) x.1.1 in
      let some = tree_some s (length ws) (at + 1) ws in (
        λ there. Each_both R (flat_map (λ (i : Inst). of_op i.op) (block_of c).insts) (OfLabel (chunk_name padding (at + 1)) ∷ []) (Each_more Q R (flat_map (λ (i : Inst). of_op i.op) (block_of c).insts) more p.0) (label (at + 1) (omega arith) (omega arith), tt),
        tree_have s Says (λ n. Unit {0}) (λ l. R (OfLabel l)) (at + 1) (at + 1 + length new) tt (more (OfLabel default) q.1.0) label
            (λ n pred number taken other u first second there. (more (OfType ty) q.0.0, Each_both R ((of_operand a ++ []) ++ []) (OfLocal (test_name padding) ∷ OfLabel taken ∷ OfLabel other ∷ []) (Each_both R (of_operand a ++ []) [] (Each_both R (of_operand a) [] value tt) tt) (test_there ty a default n pred number taken other there, (first, (second, tt)))))
            (λ n there. (more (OfType ty) q.0.0, Each_both R (of_operand a ++ []) (OfLabel default ∷ []) (Each_both R (of_operand a) [] value tt) (more (OfLabel default) q.1.0, tt)))
            (length ws) (at + 1) ws (omega arith) (omega arith) (ways_have (λ n. Unit {0}) (λ l. R (OfLabel l)) ty cases (Each_more (λ (x : Case). Unit {0} × Q (OfLabel x.to)) (λ (x : Case). Unit {0} × R (OfLabel x.to)) cases (λ x has. (tt, more (OfLabel x.to) has.1)) (cases_mentioned Q cases q.1.1))),
      )

  apply_each : (cs : List Chunk) → Each (λ c. In c whole) cs → Each Says cs → Each (λ c. Each R (of_block (block_of c))) cs
  apply_each [] there say = tt
  apply_each (c ∷ cs) there say = (say.0 there.0, apply_each cs there.1 say.1)

  pub function_says : Each Q (of_function (low_function f b)) → Each R (of_function (lean_function f b))
  function_says all =
      let types = map (λ (p : Param). OfType p.ty) f.params in
      let p = Each_parts Q types (flat_map of_block (low_function f b).blocks) all.1 in
      let own = each_mapped (λ (x : Block). Each Q (of_block x)) block_of b.chunks (Each_rows Q of_block (low_function f b).blocks p.1) in
      let say = chunks_have padding whole Mentions Says (λ c has e. stay c has) leads 0 b.chunks own (λ x there. there) in
      let blocks = apply_each whole (each_in whole whole (λ x there. there)) say in
      (more (OfType f.ret) all.0, Each_both R types (flat_map of_block (lean_function f b).blocks) (Each_more Q R types more p.0) (rows_each R of_block (lean_function f b).blocks (map_each (λ (x : Block). Each R (of_block x)) block_of whole blocks)))

-- what is said of neither locals nor labels
module _ (R : Mention → Type 0) (local : (name : List ℕ) → R (OfLocal name)) (label : (name : List ℕ) → R (OfLabel name)) where
  pub function_kept : (f : Function) (b : Body) → Each R (of_function (low_function f b)) → Each R (of_function (lean_function f b))
  function_kept f b all = function_says f b R R (λ x has. has) (λ n x there e. label (chunk_name (padding_for (low_function f b)) n)) (λ ty a default at pred number taken other there. local (test_name (padding_for (low_function f b)))) all

  functions_kept : (fs : List Function) (bs : List Body) → Each R (flat_map of_function (with_bodies fs bs)) → Each R (flat_map of_function (with_bodies fs (bodies_of fs bs)))
  functions_kept fs bs all =
      rows_each R of_function (with_bodies fs (bodies_of fs bs)) (functions_each (λ (f : Function). Each R (of_function f)) (λ (f : Function). Each R (of_function f)) function_kept fs bs (Each_rows R of_function (with_bodies fs bs) all))

  pub mentions_kept : (base : Module) (bodies : List Body) → Each R (mentions (plain base bodies)) → Each R (mentions (plain base (bodies_without_switches base bodies)))
  mentions_kept base bodies all =
      let p = Each_parts R (outside_functions base) (flat_map of_function (with_bodies base.functions bodies)) all in
      Each_both R (outside_functions base) (flat_map of_function (with_bodies base.functions (bodies_of base.functions bodies))) p.0 (functions_kept base.functions bodies p.1)

-- types that are written
pub types_kept : (P : Ty → Type 0) (base : Module) (bodies : List Body) → Each P (written_types (plain base bodies)) → Each P (written_types (plain base (bodies_without_switches base bodies)))
types_kept P base bodies all =
    rows_each P types_in (mentions (plain base (bodies_without_switches base bodies)))
    (mentions_kept (λ x. Each P (types_in x)) (λ name. tt) (λ name. tt) base bodies (Each_rows P types_in (mentions (plain base bodies)) all))
