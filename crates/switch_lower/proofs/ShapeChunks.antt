-- What stands in the place of chunks: what all of it has, and sums over it.
use Rattle.std.proofs.Common.{◌≡◌, ℕ, ◌+◌, ◌≤◌, true, List, [], ◌∷◌, ◌++◌, map, length, refl, ap, ◌∙◌, arith}
use Rattle.std.specs.List.{sum_by}
use Rattle.std.proofs.lemmas.List.{map-append}
use Rattle.std.proofs.lemmas.List.Sums.{sum_by-cons, sum_by-append}
use Rattle.ir_core.specs.declared.ty.Ty.{Ty}
use Rattle.ir_core.specs.declared.operand.Operand.{Operand}
use Rattle.ir_core.specs.declared.instruction.Case.{Case}
use Rattle.ir_core.specs.declared.instruction.Pred.{Pred}
use Rattle.ir_core.specs.declared.instruction.Term.{Term}
use Rattle.ir_core.specs.declared.instruction.Term.TheVariants.{Br, Switch}
use Rattle.ir_core.specs.declared.module.Block.{Block}
use Rattle.ir_sound.specs.WellTyped.{Each}
use Rattle.ir_sound.proofs.RowLaws.{Each_both}
use Rattle.low_core.specs.declared.moves.Chunk.{Chunk}
use Rattle.low_core.specs.Plain.{block_of}
use Rattle.low_core.specs.Shaped.{is_lean_end}
use Rattle.switch_lower.specs.Ways.{Way, ways}
use Rattle.switch_lower.specs.Fresh.{chunk_name}
use Rattle.switch_lower.specs.Tree.{Choice, compare_chunk, read_chunk, tree, tree_of}
use Rattle.switch_lower.specs.Bodies.{with_end, chunks_by, chunks_for, chunks_from}
use Rattle.switch_lower.proofs.ShapeRows.{In, in_left, in_right}
use Rattle.switch_lower.proofs.ShapeTree.{tree_have}

-- the compare tree of a switch, the first chunk of which stands at a number
abbrev pub choice : ℕ → Ty → Operand → List ℕ → Choice
choice padding ty a default = record { ty = ty; value = a; default = default; padding = padding }

abbrev pub switch_tree : ℕ → ℕ → Ty → Operand → List ℕ → List Case → List Chunk
switch_tree padding at ty a default cases = tree_of (choice padding ty a default) at (ways ty cases)

-- all chunks, of which each old one has B, and each new one is to have Q; what is new stands in the whole
module _ (padding : ℕ) (whole : List Chunk) (B Q : Chunk → Type 0)
    (stay : (c : Chunk) → B c → is_lean_end c.end ≡ true → Q c)
    (lead : (at : ℕ) (c : Chunk) (ty : Ty) (a : Operand) (default : List ℕ) (cases : List Case) → B c → c.end ≡ Switch ty a default cases
    → ((x : Chunk) → In x (switch_tree padding (at + 1) ty a default cases) → In x whole)
    → Q (with_end c (Br (chunk_name padding (at + 1)))) × Each Q (switch_tree padding (at + 1) ty a default cases)) where
  chunk_has : (at : ℕ) (c : Chunk) (end : Term) → c.end ≡ end → B c → ((x : Chunk) → In x (chunks_by padding at c end) → In x whole) → Each Q (chunks_by padding at c end)
  chunk_has at c (Switch ty a default cases) e has are = lead at c ty a default cases has e (λ x there. are x (in_right x (with_end c (Br (chunk_name padding (at + 1))) ∷ []) (switch_tree padding (at + 1) ty a default cases) there))
  chunk_has at c end e has are = (stay c has (ap is_lean_end e), tt)

  pub chunks_have : (at : ℕ) (cs : List Chunk) → Each B cs → ((x : Chunk) → In x (chunks_from padding at cs) → In x whole) → Each Q (chunks_from padding at cs)
  chunks_have at [] all are = tt
  chunks_have at (c ∷ cs) all are =
      let one = chunks_for padding at c in
      let others = chunks_from padding (at + length one) cs in
      Each_both Q one others (chunk_has at c c.end refl all.0 (λ x there. are x (in_left x one others there))) (chunks_have (at + length one) cs all.1 (λ x there. are x (in_right x one others there)))

-- what chunks of a tree have whatever their numbers and labels are
pub plain_tree : (Q : Chunk → Type 0) (s : Choice) → ((at : ℕ) (pred : Pred) (number : ℕ) (taken other : List ℕ) → Q (compare_chunk s at pred number taken other)) → ((at : ℕ) → Q (read_chunk s at)) → (d at : ℕ) (ws : List Way) → Each Q (tree s d at ws)
plain_tree Q s compare read d at ws =
    tree_have s Q (λ n. Unit {0}) (λ l. Unit {0}) 0 (at + length (tree s d at ws)) tt tt (λ n le most. tt) (λ n pred number taken other p q r. compare n pred number taken other) read d at ws (omega arith) (omega arith) (nothing ws)
  where
    nothing : (ws : List Way) → Each (λ (w : Way). Unit {0} × Unit {0}) ws
    nothing [] = tt
    nothing (w ∷ ws) = ((tt, tt), nothing ws)

-- a sum to which new chunks bring nothing
module _ (F : Block → ℕ)
    (compare : (s : Choice) (at : ℕ) (pred : Pred) (number : ℕ) (taken other : List ℕ) → F (block_of (compare_chunk s at pred number taken other)) ≡ 0)
    (read : (s : Choice) (at : ℕ) → F (block_of (read_chunk s at)) ≡ 0)
    (lead : (c : Chunk) (to : List ℕ) → F (block_of (with_end c (Br to))) ≤ F (block_of c)) where
  nothing : (cs : List Chunk) → Each (λ (c : Chunk). F (block_of c) ≡ 0) cs → sum_by F (map block_of cs) ≡ 0
  nothing [] all = refl
  nothing (c ∷ cs) all = let a = sum_by-cons F (block_of c) (map block_of cs) in let b = nothing cs all.1 in let e = all.0 in a ∙ (let z : F (block_of c) + sum_by F (map block_of cs) ≡ 0 = omega arith in z)

  chunk_sum : (padding at : ℕ) (c : Chunk) (end : Term) → sum_by F (map block_of (chunks_by padding at c end)) ≤ F (block_of c)
  chunk_sum padding at c (Switch ty a default cases) =
      let s = choice padding ty a default in
      let own = block_of (with_end c (Br (chunk_name padding (at + 1)))) in
      let new = switch_tree padding (at + 1) ty a default cases in
      let e = sum_by-cons F own (map block_of new) in
      let f = nothing new (plain_tree (λ (x : Chunk). F (block_of x) ≡ 0) s (compare s) (read s) (length (ways ty cases)) (at + 1) (ways ty cases)) in
      let g = lead c (chunk_name padding (at + 1)) in
      omega arith
  chunk_sum padding at c end = let e = sum_by-cons F (block_of c) [] in omega arith

  pub sum_kept : (padding at : ℕ) (cs : List Chunk) → sum_by F (map block_of (chunks_from padding at cs)) ≤ sum_by F (map block_of cs)
  sum_kept padding at [] = omega arith
  sum_kept padding at (c ∷ cs) =
      let one = chunks_for padding at c in
      let others = chunks_from padding (at + length one) cs in
      let e : sum_by F (map block_of (one ++ others)) ≡ sum_by F (map block_of one) + sum_by F (map block_of others) = ap (sum_by F) (map-append block_of one others) ∙ sum_by-append F (map block_of one) (map block_of others) in
      let f = chunk_sum padding at c c.end in
      let g = sum_by-cons F (block_of c) (map block_of cs) in
      let h = sum_kept padding (at + length one) cs in
      omega arith
