-- Rows that are written one behind the other.
use Rattle.std.proofs.Common.{◌≡◌, ℕ, ◌+◌, List, [], ◌∷◌, ◌++◌, Option, pos, length, drop, ◌-◌, ◌<◌, refl, ap, sym, ◌∙◌, arith}
use Rattle.x86_core.specs.declared.instr.Instr.{Instr}
use Rattle.x86_core.specs.declared.instr.Instr.TheVariants.{Jmp, AluImm, Ret, Pop}
use Rattle.std.specs.Prelude.{slice_index}
use Rattle.std.proofs.lemmas.List.{drop_more}
use Rattle.obj_core.specs.Saved.{saved_register}
use Rattle.x86_core.specs.declared.reg.Reg.TheVariants.{R15, Rsp}
use Rattle.x86_core.specs.declared.instr.Wide.{Wide}
use Rattle.x86_core.specs.declared.instr.ImmOp.{ImmOp}
use Rattle.frame_rows.specs.declared.spot.Spot.{Spot}
use Rattle.obj_rows.specs.Marked.{Marked, linked, unlinked, all_unlinked, row_size}
use Rattle.std.proofs.lemmas.List.Sums.{sum_by-cons}
use Rattle.low_core.specs.declared.sel.SelOp.{SelOp}
use Rattle.low_core.specs.SelWeights.{calls_at}
use Rattle.low_core.specs.declared.sel.SelBlock.{SelBlock}
use Rattle.frame_lower.specs.Blocks.{calls_in, ops_row, block_row}
use Rattle.frame_lower.specs.Calls.{pass_row, take_row, call_row, receive_row}
use Rattle.low_core.specs.declared.sel.SelFun.{SelFun}
use Rattle.frame_lower.specs.Functions.{front_row}
use Rattle.frame_lower.specs.declared.code.Code.{Code}
use Rattle.low_core.specs.declared.sel.SelEnd.{SelEnd}
use Rattle.frame_lower.specs.Rows.{Making, count_row, push_row, pop_row, leave_row, closing_row, branch_row, end_row}
use Rattle.frame_lower.specs.Writing.{with_one, with_row}
use Rattle.frame_lower.proofs.Long.{row_long}

pub row_joined : (xs ys : List Marked) (c : Code) → with_row (xs ++ ys) c ≡ with_row ys (with_row xs c)
row_joined [] ys c = refl
row_joined (x ∷ xs) ys c = row_joined xs ys (with_one x c)

pub unlinked_joined : (xs ys : List Instr) → all_unlinked (xs ++ ys) ≡ all_unlinked xs ++ all_unlinked ys
unlinked_joined [] ys = refl
unlinked_joined (x ∷ xs) ys = ap (λ zs. unlinked x ∷ zs) (unlinked_joined xs ys)

-- a call
pub call_joined : (homes : ℕ → Spot) (wanted : List Instr) (slot : ℕ) (into : Option ℕ) (args : List ℕ) (c : Code) →
    with_row (call_row homes wanted slot into args) c
    ≡ with_row (linked (Jmp (pos 0)) slot ∷ all_unlinked (take_row homes into)) (with_row (all_unlinked wanted) (with_row (all_unlinked (pass_row homes args)) c))
call_joined homes wanted slot into args c =
    let rest = linked (Jmp (pos 0)) slot ∷ all_unlinked (take_row homes into) in
    row_joined (all_unlinked (pass_row homes args ++ wanted)) rest c
    ∙ ap (with_row rest) (ap (λ xs. with_row xs c) (unlinked_joined (pass_row homes args) wanted) ∙ row_joined (all_unlinked (pass_row homes args)) (all_unlinked wanted) c)

-- the calls of one more operation
pub calls_more : (op : SelOp) (ops : List SelOp) → calls_in (op ∷ ops) ≡ calls_at op + calls_in ops
calls_more op ops = sum_by-cons calls_at op ops

-- the way out of a function
pub leave_joined : (by : Making) (c : Code) →
    with_one (unlinked Ret) (with_one (unlinked (AluImm ImmOp.Add Wide.W64 R15 (pos 1))) (with_row (all_unlinked (pop_row by.order)) (with_one (unlinked (AluImm ImmOp.Add Wide.W64 Rsp (pos by.room))) c)))
    ≡ with_row (all_unlinked (leave_row by)) c
leave_joined by c =
    let first = with_one (unlinked (AluImm ImmOp.Add Wide.W64 Rsp (pos by.room))) c in
    let last = AluImm ImmOp.Add Wide.W64 R15 (pos 1) ∷ Ret ∷ [] in
    sym (ap (λ xs. with_row xs first) (unlinked_joined (pop_row by.order) last) ∙ row_joined (all_unlinked (pop_row by.order)) (all_unlinked last) first)

-- one more register is given back
pub popped_next : (order : List ℕ) (k : ℕ) (c : Code) → k < length order →
    with_row (all_unlinked (pop_row (drop (length order - (k + 1)) order))) c
    ≡ with_one (unlinked (Pop (saved_register (slice_index order (length order - 1 - k))))) (with_row (all_unlinked (pop_row (drop (length order - k) order))) c)
popped_next order k c inside =
    let i = length order - 1 - k in
    let place = slice_index order i in
    let rest = drop (i + 1) order in
    let e : length order - (k + 1) ≡ i = omega arith in
    let f : i + 1 ≡ length order - k = omega arith in
    ap (λ j. with_row (all_unlinked (pop_row (drop j order))) c) e
    ∙ ap (λ xs. with_row (all_unlinked (pop_row xs)) c) (drop_more order i 0 (omega arith))
    ∙ ap (λ xs. with_row xs c) (unlinked_joined (pop_row rest) (Pop (saved_register place) ∷ []))
    ∙ row_joined (all_unlinked (pop_row rest)) (all_unlinked (Pop (saved_register place) ∷ [])) c
    ∙ ap (λ j. with_one (unlinked (Pop (saved_register place))) (with_row (all_unlinked (pop_row (drop j order))) c)) f

-- an end: what it does in front of its branches, and these
pub end_joined : (by : Making) (starts : ℕ → ℕ) (e : SelEnd) (c : Code) →
    with_row (end_row by starts (length c.bytes) e) c
    ≡ with_row (all_unlinked (branch_row starts (length (with_row (all_unlinked (closing_row by e)) c).bytes) e)) (with_row (all_unlinked (closing_row by e)) c)
end_joined by starts e c =
    let closing = all_unlinked (closing_row by e) in
    let d = with_row closing c in
    row_joined closing (all_unlinked (branch_row starts (length c.bytes + row_size closing) e)) c
    ∙ ap (λ n. with_row (all_unlinked (branch_row starts n e)) d) (sym (row_long closing c))

-- a block: its operations and its end
pub block_joined : (by : Making) (starts : ℕ → ℕ) (slot : ℕ) (b : SelBlock) (c : Code) →
    with_row (block_row by starts (length c.bytes) slot b) c
    ≡ with_row (end_row by starts (length (with_row (ops_row by slot b.ops) c).bytes) b.end) (with_row (ops_row by slot b.ops) c)
block_joined by starts slot b c =
    let ops = ops_row by slot b.ops in
    let d = with_row ops c in
    row_joined ops (end_row by starts (length c.bytes + row_size ops) b.end) c
    ∙ ap (λ n. with_row (end_row by starts n b.end) d) (sym (row_long ops c))

-- what stands in front of the first block
pub front_joined : (by : Making) (f : SelFun) (c : Code) →
    with_row (all_unlinked (receive_row by.homes by.room f.params)) (with_one (unlinked (AluImm ImmOp.Sub Wide.W64 Rsp (pos by.room))) (with_row (all_unlinked (push_row by.order)) (with_row (all_unlinked count_row) c)))
    ≡ with_row (front_row by f) c
front_joined by f c =
    let last = AluImm ImmOp.Sub Wide.W64 Rsp (pos by.room) ∷ receive_row by.homes by.room f.params in
    let d = with_row (all_unlinked count_row) c in
    sym (ap (λ xs. with_row xs c) (unlinked_joined count_row (push_row by.order ++ last)) ∙ row_joined (all_unlinked count_row) (all_unlinked (push_row by.order ++ last)) c
    ∙ ap (λ xs. with_row xs d) (unlinked_joined (push_row by.order) last) ∙ row_joined (all_unlinked (push_row by.order)) (all_unlinked last) d)
