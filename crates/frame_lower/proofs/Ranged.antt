-- The instructions of a function can be spelled: their constants and displacements are in range, and only its calls are linked.
use Rattle.std.proofs.Common.{◌≡◌, ℕ, ◌+◌, ◌-◌, ◌*◌, ◌<◌, ◌≤◌, ◌^◌, List, [], ◌∷◌, ◌++◌, length, drop, Option, Some, None, pos, refl, arith, length-drop}
use Rattle.std.specs.List.{All, sum_by}
use Rattle.std.proofs.lemmas.List.Elements.{All-head, All-tail}
use Rattle.std.proofs.lemmas.List.Sums.{sum_by-cons}
use Rattle.x86_core.specs.declared.reg.Reg.{Reg}
use Rattle.x86_core.specs.declared.reg.Reg.TheVariants.{Rax, R11, R15, Rsp}
use Rattle.x86_core.specs.declared.instr.Wide.{Wide}
use Rattle.x86_core.specs.declared.instr.ImmOp.{ImmOp}
use Rattle.x86_core.specs.declared.instr.Instr.{Instr}
use Rattle.x86_core.specs.declared.instr.Instr.TheVariants as instr
use Rattle.x86_core.specs.Encoding.{IsInstr}
use Rattle.low_core.specs.declared.sel.Which.TheVariants.{Putchar, Getchar, Exit, Memcpy, Memset, Trap}
use Rattle.low_core.specs.declared.sel.SelOp.{SelOp}
use Rattle.low_core.specs.declared.sel.SelOp.TheVariants.{Set, Copy, Alu, Div, Widen, Test, Pick, Load, Store, FrameAt, GlobalAt, FunctionAt, Call, CallAt, Outside}
use Rattle.low_core.specs.declared.sel.SelEnd.{SelEnd}
use Rattle.low_core.specs.declared.sel.SelEnd.TheVariants.{Go, If, Ret}
use Rattle.low_core.specs.declared.sel.SelEnd.TheVariants as end
use Rattle.low_core.specs.declared.sel.SelBlock.{SelBlock}
use Rattle.low_core.specs.declared.sel.SelFun.{SelFun}
use Rattle.low_core.specs.SelWeights.{calls_at, sel_block_weight, sel_function_weight}
use Rattle.frame_rows.specs.declared.spot.Spot.{Spot}
use Rattle.frame_rows.specs.declared.spot.Spot.TheVariants.{Own, Frame}
use Rattle.frame_rows.specs.Code.{home_read, home_write, op_row}
use Rattle.frame_rows.specs.Sizes.{AreInstrs, row_bytes}
use Rattle.frame_rows.specs.Steps.{IsReady}
use Rattle.frame_rows.specs.Ties.{IsHome}
use Rattle.frame_rows.proofs.Ranges.{instrs-append, op_instrs}
use Rattle.obj_core.specs.Object.{Each}
use Rattle.obj_core.specs.Saved.{saved_register}
use Rattle.obj_rows.specs.Marked.{Marked, linked, all_unlinked, row_size, IsLinkable, IsRow}
use Rattle.frame_lower.specs.Calls.{argument_registers, into_registers, into_words, pass_row, take_row, call_row, from_registers, from_words, receive_row}
use Rattle.frame_lower.specs.Frames.{kept_bytes}
use Rattle.frame_lower.specs.Rows.{Making, marked_op, count_row, push_row, pop_row, leave_row, closing_row, branch_row, end_row}
use Rattle.frame_lower.specs.Blocks.{calls_in, ops_row, block_row, block_bytes, blocks_row, starts_from, start_in}
use Rattle.frame_lower.specs.Functions.{front_row, function_row}
use Rattle.frame_lower.proofs.Displacements.{between_in}
use Rattle.frame_lower.proofs.Sizes.{ops_light, closing_few, block_light, front_light, unlinked_size}
use Rattle.frame_lower.proofs.Functions.{starts_below}

-- an operation whose constants are in range, and a call of few arguments
abbrev pub IsNear : Making → SelOp → Type 0
IsNear by (Call g r args) = length args ≤ 32
IsNear by (CallAt s r args) = length args ≤ 32
IsNear by (Outside which r args) = length args ≤ 32
IsNear by op = IsReady by.plan 0 (8 * by.words) op

-- a function whose displacements and constants are all in range
pub record IsRanged (by : Making) (f : SelFun) : Type 0 where
  pub homes : (x : ℕ) → IsHome by.words (by.homes x)
  pub words : 8 * by.words < 2 ^ 30
  pub room : by.room < 2 ^ 30
  pub five : length by.order ≤ 5
  pub params : length f.params ≤ 32
  pub ops : All (λ (b : SelBlock). All (IsNear by) b.ops) f.blocks
  pub light : sel_function_weight f < 2 ^ 30

pub each_append : {T : Type 0} (P : T → Type 0) (xs ys : List T) → Each P xs → Each P ys → Each P (xs ++ ys)
each_append P [] ys hx hy = hy
each_append P (x ∷ xs) ys hx hy = (hx.0, each_append P xs ys hx.1 hy)

-- a row without links
unlinked_row : (is : List Instr) → AreInstrs is → IsRow (all_unlinked is)
unlinked_row [] h = tt
unlinked_row (i ∷ is) h = ((h.0, tt), unlinked_row is h.1)

row_append : (xs ys : List Marked) → IsRow xs → IsRow ys → IsRow (xs ++ ys)
row_append xs ys hx hy = each_append (λ (x : Marked). IsInstr x.instr × IsLinkable x.instr x.slot) xs ys hx hy

module _ (by : Making) (spots : (x : ℕ) → IsHome by.words (by.homes x)) (near : 8 * by.words < 2 ^ 31) where
  reads : (x : ℕ) (t : Reg) → IsInstr (home_read (by.homes x) t)
  reads x t = by_spot (by.homes x) (spots x)
    where
      by_spot : (h : Spot) → IsHome by.words h → IsInstr (home_read h t)
      by_spot (Own r) is = tt
      by_spot (Frame k) is = omega (arith, is, near)

  writes : (x : ℕ) (t : Reg) → IsInstr (home_write (by.homes x) t)
  writes x t = by_spot (by.homes x) (spots x)
    where
      by_spot : (h : Spot) → IsHome by.words h → IsInstr (home_write h t)
      by_spot (Own r) is = tt
      by_spot (Frame k) is = omega (arith, is, near)

  registers_row : (ts : List Reg) (args : List ℕ) → AreInstrs (into_registers by.homes ts args)
  registers_row [] args = tt
  registers_row (t ∷ ts) [] = tt
  registers_row (t ∷ ts) (a ∷ as') = (reads a t, registers_row ts as')

  words_row : (k : ℕ) (args : List ℕ) → k + length args ≤ 2 ^ 20 → AreInstrs (into_words by.homes k args)
  words_row k [] few = tt
  words_row k (a ∷ as') few = (reads a Rax, ((let few2 = few in omega (arith, few2)), words_row (k + 1) as' (omega (arith, few))))

  pass_instrs : (args : List ℕ) → length args ≤ 32 → AreInstrs (pass_row by.homes args)
  pass_instrs args few =
      let d : length (drop 6 args) ≡ length args - 6 = length-drop 6 args in
      instrs-append (into_words by.homes 0 (drop 6 args)) (into_registers by.homes argument_registers args)
      (words_row 0 (drop 6 args) (omega (arith, few, d))) (registers_row argument_registers args)

  take_instrs : (into : Option ℕ) → AreInstrs (take_row by.homes into)
  take_instrs None = tt
  take_instrs (Some r) = (writes r Rax, tt)

  call_ranged : (wanted : List Instr) (slot : ℕ) (into : Option ℕ) (args : List ℕ) → AreInstrs wanted → length args ≤ 32 → IsRow (call_row by.homes wanted slot into args)
  call_ranged wanted slot into args want few =
      row_append (all_unlinked (pass_row by.homes args ++ wanted)) (linked (instr.Jmp (pos 0)) slot ∷ all_unlinked (take_row by.homes into))
      (unlinked_row (pass_row by.homes args ++ wanted) (instrs-append (pass_row by.homes args) wanted (pass_instrs args few) want))
      (((omega arith), refl), unlinked_row (take_row by.homes into) (take_instrs into))

  plain_ranged : (op : SelOp) → IsReady by.plan 0 (8 * by.words) op → IsRow (all_unlinked (op_row by.homes by.plan (8 * by.words) op))
  plain_ranged op ready = unlinked_row (op_row by.homes by.plan (8 * by.words) op) (op_instrs by.homes by.plan 0 by.words (8 * by.words) spots near op ready)

  op_ranged : (slot : ℕ) (op : SelOp) → IsNear by op → IsRow (marked_op by slot op)
  op_ranged slot (Set r n) h = plain_ranged (Set r n) h
  op_ranged slot (Copy r s) h = plain_ranged (Copy r s) h
  op_ranged slot (Alu o w r s t) h = plain_ranged (Alu o w r s t) h
  op_ranged slot (Div signed rest w r s t) h = plain_ranged (Div signed rest w r s t) h
  op_ranged slot (Widen signed from to r s) h = plain_ranged (Widen signed from to r s) h
  op_ranged slot (Test p w r s t) h = plain_ranged (Test p w r s t) h
  op_ranged slot (Pick r c s t) h = plain_ranged (Pick r c s t) h
  op_ranged slot (Load w r s) h = plain_ranged (Load w r s) h
  op_ranged slot (Store w s t) h = plain_ranged (Store w s t) h
  op_ranged slot (FrameAt r at) h = plain_ranged (FrameAt r at) h
  op_ranged slot (GlobalAt r g) h = plain_ranged (GlobalAt r g) h
  op_ranged slot (FunctionAt r g) h = plain_ranged (FunctionAt r g) h
  op_ranged slot (Call g r args) h = call_ranged [] slot r args tt h
  op_ranged slot (CallAt s r args) h = call_ranged (home_read (by.homes s) R11 ∷ []) slot r args (reads s R11, tt) h
  op_ranged slot (Outside Trap r args) h = ((tt, tt), tt)
  op_ranged slot (Outside Putchar r args) h = call_ranged [] slot r args tt h
  op_ranged slot (Outside Getchar r args) h = call_ranged [] slot r args tt h
  op_ranged slot (Outside Exit r args) h = call_ranged [] slot r args tt h
  op_ranged slot (Outside Memcpy r args) h = call_ranged [] slot r args tt h
  op_ranged slot (Outside Memset r args) h = call_ranged [] slot r args tt h

  ops_ranged : (slot : ℕ) (ops : List SelOp) → All (IsNear by) ops → IsRow (ops_row by slot ops)
  ops_ranged slot [] h = tt
  ops_ranged slot (op ∷ ops) h =
      row_append (marked_op by slot op) (ops_row by (slot + calls_at op) ops) (op_ranged slot op (All-head (IsNear by) op ops h)) (ops_ranged (slot + calls_at op) ops (All-tail (IsNear by) op ops h))

  pops_instrs : (order : List ℕ) → AreInstrs (pop_row order)
  pops_instrs [] = tt
  pops_instrs (place ∷ order) = instrs-append (pop_row order) (instr.Pop (saved_register place) ∷ []) (pops_instrs order) (tt, tt)

  leave_instrs : by.room < 2 ^ 30 → AreInstrs (leave_row by)
  leave_instrs room =
      ((omega (arith, room)), instrs-append (pop_row by.order) (instr.AluImm ImmOp.Add Wide.W64 R15 (pos 1) ∷ instr.Ret ∷ []) (pops_instrs by.order) ((omega arith), (tt, tt)))

  closing_instrs : by.room < 2 ^ 30 → (e : SelEnd) → AreInstrs (closing_row by e)
  closing_instrs room (Go b) = tt
  closing_instrs room (If c b d) = (reads c Rax, ((omega arith), tt))
  closing_instrs room (Ret (Some r)) = (reads r Rax, leave_instrs room)
  closing_instrs room (Ret None) = leave_instrs room
  closing_instrs room end.Trap = (tt, tt)

  branch_instrs : (starts : ℕ → ℕ) → ((n : ℕ) → starts n < 2 ^ 30) → (at : ℕ) → at < 2 ^ 30 → (e : SelEnd) → AreInstrs (branch_row starts at e)
  branch_instrs starts low at below (Go b) = let l = low b in (between_in (at + 5) (starts b) (omega (arith, below)) (omega (arith, l)), tt)
  branch_instrs starts low at below (If c b d) =
      let l = low b in let k = low d in
      (between_in (at + 6) (starts b) (omega (arith, below)) (omega (arith, l)), (between_in (at + 11) (starts d) (omega (arith, below)) (omega (arith, k)), tt))
  branch_instrs starts low at below (Ret r) = tt
  branch_instrs starts low at below end.Trap = tt

  end_ranged : by.room < 2 ^ 30 → (starts : ℕ → ℕ) → ((n : ℕ) → starts n < 2 ^ 30) → (at : ℕ) (e : SelEnd) → at + row_bytes (closing_row by e) < 2 ^ 30 → IsRow (end_row by starts at e)
  end_ranged room starts low at e below =
      let closing = all_unlinked (closing_row by e) in
      let s = unlinked_size (closing_row by e) in
      row_append closing (all_unlinked (branch_row starts (at + row_size closing) e)) (unlinked_row (closing_row by e) (closing_instrs room e))
      (unlinked_row (branch_row starts (at + row_size closing) e) (branch_instrs starts low (at + row_size closing) (omega (arith, s, below)) e))

  block_ranged : by.room < 2 ^ 30 → length by.order ≤ 5 → (starts : ℕ → ℕ) → ((n : ℕ) → starts n < 2 ^ 30) → (at slot : ℕ) (b : SelBlock) → All (IsNear by) b.ops → at + sel_block_weight b < 2 ^ 30 → IsRow (block_row by starts at slot b)
  block_ranged room five starts low at slot b h below =
      let ops = ops_row by slot b.ops in
      let o = ops_light by slot b.ops in
      let c = closing_few by five b.end in
      row_append ops (end_row by starts (at + row_size ops) b.end) (ops_ranged slot b.ops h) (end_ranged room starts low (at + row_size ops) b.end (omega (arith, o, c, below)))

  blocks_ranged : by.room < 2 ^ 30 → length by.order ≤ 5 → (starts : ℕ → ℕ) → ((n : ℕ) → starts n < 2 ^ 30) → (at slot : ℕ) (bs : List SelBlock) → All (λ (b : SelBlock). All (IsNear by) b.ops) bs → at + sum_by sel_block_weight bs < 2 ^ 30 → IsRow (blocks_row by starts at slot bs)
  blocks_ranged room five starts low at slot [] h below = tt
  blocks_ranged room five starts low at slot (b ∷ bs) h below =
      let w = sum_by-cons sel_block_weight b bs in
      let l = block_light by five b in
      row_append (block_row by starts at slot b) (blocks_row by starts (at + block_bytes by b) (slot + calls_in b.ops) bs)
      (block_ranged room five starts low at slot b (All-head (λ (c : SelBlock). All (IsNear by) c.ops) b bs h) (omega (arith, w, below)))
      (blocks_ranged room five starts low (at + block_bytes by b) (slot + calls_in b.ops) bs (All-tail (λ (c : SelBlock). All (IsNear by) c.ops) b bs h) (omega (arith, w, l, below)))

  stores_instrs : (ts : List Reg) (params : List ℕ) → AreInstrs (from_registers by.homes ts params)
  stores_instrs [] params = tt
  stores_instrs (t ∷ ts) [] = tt
  stores_instrs (t ∷ ts) (p ∷ ps) = (writes p t, stores_instrs ts ps)

  fetches_instrs : (at : ℕ) (params : List ℕ) → at + 8 * length params < 2 ^ 31 → AreInstrs (from_words by.homes at params)
  fetches_instrs at [] few = tt
  fetches_instrs at (p ∷ ps) few = ((omega (arith, few)), (writes p Rax, fetches_instrs (at + 8) ps (omega (arith, few))))

  pushes_instrs : (order : List ℕ) → AreInstrs (push_row order)
  pushes_instrs [] = tt
  pushes_instrs (place ∷ order) = (tt, pushes_instrs order)

  front_ranged : by.room < 2 ^ 30 → (f : SelFun) → length f.params ≤ 32 → IsRow (front_row by f)
  front_ranged room f few =
      let receive = receive_row by.homes by.room f.params in
      let stack = instr.AluImm ImmOp.Sub Wide.W64 Rsp (pos by.room) in
      let d : length (drop 6 f.params) ≡ length f.params - 6 = length-drop 6 f.params in
      unlinked_row (count_row ++ (push_row by.order ++ (stack ∷ receive))) (
        (omega arith),
        (
          (omega arith),
          (
            tt,
            instrs-append (push_row by.order) (stack ∷ receive) (pushes_instrs by.order) (
              (omega (arith, room)),
              instrs-append (from_registers by.homes argument_registers f.params) (from_words by.homes (by.room + kept_bytes) (drop 6 f.params))
                  (stores_instrs argument_registers f.params) (fetches_instrs (by.room + kept_bytes) (drop 6 f.params) (omega (arith, room, few, d))),
            ),
          ),
        ),
      )

-- a whole function
pub function_ranged : (by : Making) (slot : ℕ) (f : SelFun) → IsRanged by f → IsRow (function_row by slot f)
function_ranged by slot f r =
    let near : 8 * by.words < 2 ^ 31 = (let w = r.words in omega (arith, w)) in
    let front = front_row by f in
    let starts = start_in (starts_from by (row_size front) f.blocks) in
    let light = r.light in
    let long = front_light by r.five f r.params in
    row_append front (blocks_row by starts (row_size front) slot f.blocks) (front_ranged by r.homes near r.room f r.params)
    (blocks_ranged by r.homes near r.room r.five starts (starts_below by (2 ^ 30) (row_size front) f.blocks r.five (omega arith) (omega (arith, light, long))) (row_size front) slot f.blocks r.ops (omega (arith, light, long)))
