-- What is left of a block: an operation and what is behind it, or the end.
use Rattle.std.proofs.Common.{◌≡◌, ℕ, zero, suc, ◌+◌, List, [], ◌∷◌, ◌++◌, drop, take, Some, None, refl, ◌∙◌, ap, subst, arith, append_assoc}
use Rattle.std.specs.Prelude.{slice_get}
use Rattle.std.proofs.lemmas.List.Sums.{sum_by-cons}
use Rattle.low_core.specs.declared.sel.SelBlock.{SelBlock}
use Rattle.low_core.specs.declared.sel.SelEnd.{SelEnd}
use Rattle.low_core.specs.declared.sel.SelOp.{SelOp}
use Rattle.low_core.specs.declared.sel.Sel.{Sel}
use Rattle.low_core.specs.SelWeights.{calls_at}
use Rattle.obj_rows.specs.Marked.{Marked, row_size, Stands}
use Rattle.obj_rows.proofs.Rows.{row_size-append}
use Rattle.frame_lower.specs.Blocks.{calls_in, ops_row}
use Rattle.frame_lower.specs.Chain.{slot_behind, starts_in, rest_row, rest_in}
use Rattle.frame_lower.specs.Rows.{Making, marked_op, end_row}

-- an operation that is there begins what is left
drop_there : (ops : List SelOp) (n : ℕ) (op : SelOp) → slice_get ops n ≡ Some op → drop n ops ≡ op ∷ drop (n + 1) ops
drop_there [] n op there = absurd (cc)
drop_there (p ∷ ops) zero op there = let same : p ≡ op = cc in ap (λ q. q ∷ ops) same
drop_there (p ∷ ops) (suc n) op there =
    let next : suc (n + 1) ≡ suc n + 1 = omega arith in
    drop_there ops n op there ∙ ap (λ m. op ∷ drop m (p ∷ ops)) next

drop_none : (ops : List SelOp) (n : ℕ) → slice_get ops n ≡ None → drop n ops ≡ []
drop_none [] zero there = refl
drop_none [] (suc n) there = refl
drop_none (p ∷ ops) zero there = absurd (cc)
drop_none (p ∷ ops) (suc n) there = drop_none ops n there

calls_more : (op : SelOp) (ops : List SelOp) → calls_in (op ∷ ops) ≡ calls_at op + calls_in ops
calls_more op ops = sum_by-cons calls_at op ops

take_there : (ops : List SelOp) (n : ℕ) (op : SelOp) → slice_get ops n ≡ Some op → calls_in (take (n + 1) ops) ≡ calls_in (take n ops) + calls_at op
take_there [] n op there = absurd (cc)
take_there (p ∷ ops) zero op there =
    let same : p ≡ op = cc in
    let one = calls_more p [] in
    let none : calls_in [] ≡ 0 = refl in
    ap (λ q. calls_in (q ∷ [])) same ∙ (let e = calls_more op [] in omega (arith, e, none))
take_there (p ∷ ops) (suc n) op there =
    let e = calls_more p (take (n + 1) ops) in
    let f = calls_more p (take n ops) in
    let more = take_there ops n op there in
    let next : suc n + 1 ≡ suc (n + 1) = omega arith in
    ap (λ m. calls_in (take m (p ∷ ops))) next ∙ omega (arith, e, f, more)

-- the slot behind one more operation
pub slot_more : (sel : Sel) (g k n : ℕ) (b : SelBlock) (op : SelOp) → slice_get b.ops n ≡ Some op → slot_behind sel g k (take n b.ops) + calls_at op ≡ slot_behind sel g k (take (n + 1) b.ops)
slot_more sel g k n b op there = let e = take_there b.ops n op there in omega (arith, e)

-- a row of operations falls into the first and the others
pub rest_more : (by : Making) (starts : ℕ → ℕ) (at slot : ℕ) (op : SelOp) (ops : List SelOp) (e : SelEnd) →
    rest_row by starts at slot (op ∷ ops) e ≡ marked_op by slot op ++ rest_row by starts (at + row_size (marked_op by slot op)) (slot + calls_at op) ops e
rest_more by starts at slot op ops e =
    let first = marked_op by slot op in
    let others = ops_row by (slot + calls_at op) ops in
    let far : at + row_size (first ++ others) ≡ at + row_size first + row_size others = let l = row_size-append first others in omega (arith, l) in
    append_assoc first others (end_row by starts (at + row_size (first ++ others)) e) ∙ ap (λ p. first ++ (others ++ end_row by starts p e)) far

module _ (sel : Sel) (by : ℕ → Making) (g k n : ℕ) (b : SelBlock) (row : List Marked) (at : ℕ) (stands : Stands row at (rest_in sel by g at k n b)) where
  -- where an operation is next, it stands here, and what is left stands behind it
  pub op_stands : (op : SelOp) → slice_get b.ops n ≡ Some op → let first = marked_op (by g) (slot_behind sel g k (take n b.ops)) op in Stands row at (first ++ rest_in sel by g (at + row_size first) k (n + 1) b)
  op_stands op there =
      let slot = slot_behind sel g k (take n b.ops) in
      let first = marked_op (by g) slot op in
      let split : rest_in sel by g at k n b ≡ first ++ rest_in sel by g (at + row_size first) k (n + 1) b =
      ap (λ ops. rest_row (by g) (starts_in sel by g) at slot ops b.end) (drop_there b.ops n op there) ∙
      rest_more (by g) (starts_in sel by g) at slot op (drop (n + 1) b.ops) b.end ∙
      ap (λ s. first ++ rest_row (by g) (starts_in sel by g) (at + row_size first) s (drop (n + 1) b.ops) b.end) (slot_more sel g k n b op there) in
      subst (Stands row at) split stands

  -- past the last one the end stands here
  pub end_stands : slice_get b.ops n ≡ None → Stands row at (end_row (by g) (starts_in sel by g) at b.end)
  end_stands none =
      let here : at + 0 ≡ at = omega arith in
      subst (Stands row at) (ap (λ ops. rest_row (by g) (starts_in sel by g) at (slot_behind sel g k (take n b.ops)) ops b.end) (drop_none b.ops n none) ∙ ap (λ p. end_row (by g) (starts_in sel by g) p b.end) here) stands
