-- Slots of calls, function by function and block by block.
use Rattle.std.proofs.Common.{◌≡◌, ℕ, suc, ◌+◌, ◌-◌, ◌<◌, ◌≤◌, zero, drop, slice_index_or, List, [], ◌∷◌, ◌++◌, length, ap, sym, ◌∙◌, arith}
use Rattle.std.specs.List.{flat_map}
use Rattle.std.proofs.lemmas.List.{append_assoc, length-append}
use Rattle.low_core.specs.declared.sel.SelOp.{SelOp}
use Rattle.low_core.specs.declared.sel.SelBlock.{SelBlock}
use Rattle.obj_core.specs.declared.plan.Slot0.{Slot0}
use Rattle.slot_plan.specs.Slots.{call_slot, calls_from}

-- calls of some operations, and of those behind them
pub calls_append : (count f n : ℕ) (xs ys : List SelOp) → calls_from count f n (xs ++ ys) ≡ calls_from count f n xs ++ calls_from count f (n + length (calls_from count f n xs)) ys
calls_append count f n [] ys = ap (λ k. calls_from count f k ys) (nothing n)
  where
    nothing : (n : ℕ) → n ≡ n + 0
    nothing n = omega arith
calls_append count f n (a ∷ xs) ys =
    let here = call_slot count f n a in
    let m : ℕ = n + length here in
    let rest = calls_append count f m xs ys in
    let long = length-append here (calls_from count f m xs) in
    let same : m + length (calls_from count f m xs) ≡ n + length (here ++ calls_from count f m xs) = omega (arith, long) in
    ap (λ r. here ++ r) rest ∙ sym (append_assoc here (calls_from count f m xs) (calls_from count f (m + length (calls_from count f m xs)) ys))
    ∙ ap (λ k. (here ++ calls_from count f m xs) ++ calls_from count f k ys) same

-- those of one block, and of the blocks behind it
pub calls_of_block : (count f n : ℕ) (b : SelBlock) (bs : List SelBlock) →
    calls_from count f n (b.ops ++ flat_map (λ (c : SelBlock). c.ops) bs) ≡
    calls_from count f n b.ops ++ calls_from count f (n + length (calls_from count f n b.ops)) (flat_map (λ (c : SelBlock). c.ops) bs)
calls_of_block count f n b bs = calls_append count f n b.ops (flat_map (λ (c : SelBlock). c.ops) bs)

-- once a block's calls are added, what is left to add is that of the blocks behind it
pub next_block : (count f first : ℕ) (all new : List Slot0) (b : SelBlock) (bs : List SelBlock) (whole : List Slot0) → first ≤ length all →
    all ++ calls_from count f (length all - first) (b.ops ++ flat_map (λ (c : SelBlock). c.ops) bs) ≡ whole →
    new ≡ all ++ calls_from count f (length all - first) b.ops →
    new ++ calls_from count f (length new - first) (flat_map (λ (c : SelBlock). c.ops) bs) ≡ whole
next_block count f first all new b bs whole behind is added =
    let n : ℕ = length all - first in
    let here = calls_from count f n b.ops in
    let rest = flat_map (λ (c : SelBlock). c.ops) bs in
    let long : length (all ++ here) ≡ length all + length here = length-append all here in
    let same : (length (all ++ here)) - first ≡ n + length here = omega (arith, long) in
    ap (λ l. l ++ calls_from count f (length l - first) rest) added
    ∙ ap (λ k. (all ++ here) ++ calls_from count f k rest) same
    ∙ append_assoc all here (calls_from count f (n + length here) rest)
    ∙ ap (λ l. all ++ l) (sym (calls_of_block count f n b bs))
    ∙ is

-- what is left of a list at one of its places
pub one_left : {A : Type 0} (xs : List A) (i : ℕ) (x : A) → i < length xs → x ≡ slice_index_or xs i x → drop i xs ≡ x ∷ drop (i + 1) xs
one_left [] i x h is = absurd (omega arith)
one_left (y ∷ xs) zero x h is = ap (λ z. z ∷ xs) (sym is)
one_left (y ∷ xs) (suc i) x h is = one_left xs i x (omega arith) is ∙ (let one : i + 1 ≡ suc i = omega arith in let two : suc i + 1 ≡ suc (suc i) = omega arith in ap (λ k. x ∷ drop k xs) one ∙ ap (λ k. x ∷ drop k (y ∷ xs)) (sym two))
