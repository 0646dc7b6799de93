-- How many bytes rows have: wherever they stand and whatever slots they go by the same, and no more than their parts weigh.
use Rattle.std.proofs.Common.{◌≡◌, ℕ, ◌+◌, ◌-◌, ◌*◌, ◌≤◌, List, [], ◌∷◌, ◌++◌, length, drop, Option, Some, None, pos, refl, ap, sym, ◌∙◌, arith, length-drop}
use Rattle.std.proofs.lemmas.List.Sums.{sum_by-cons}
use Rattle.std.specs.List.{sum_by}
use Rattle.x86_core.specs.declared.reg.Reg.{Reg}
use Rattle.x86_core.specs.declared.reg.Reg.TheVariants.{Rax, Rcx, Rdx, Rbx, Rsp, Rbp, Rsi, Rdi, R8, R9, R10, R11, R12, R13, R14, R15}
use Rattle.x86_core.specs.declared.instr.Wide.{Wide}
use Rattle.x86_core.specs.declared.instr.ImmOp.{ImmOp}
use Rattle.std.proofs.lemmas.Bool.{leb-true}
use Rattle.x86_core.specs.declared.instr.Instr.{Instr}
use Rattle.x86_core.specs.declared.instr.Instr.TheVariants as instr
use Rattle.x86_core.specs.Encoding.{encoding}
use Rattle.low_core.specs.declared.sel.Which.TheVariants.{Putchar, Getchar, Exit, Memcpy, Memset, Trap}
use Rattle.low_core.specs.declared.sel.SelOp.{SelOp}
use Rattle.low_core.specs.declared.sel.SelOp.TheVariants.{Set, Copy, Alu, Div, Widen, Test, Pick, Load, Store, FrameAt, GlobalAt, FunctionAt, Call, CallAt, Outside}
use Rattle.low_core.specs.declared.sel.SelEnd.{SelEnd}
use Rattle.low_core.specs.declared.sel.SelEnd.TheVariants.{Go, If, Ret}
use Rattle.low_core.specs.declared.sel.SelEnd.TheVariants as end
use Rattle.low_core.specs.declared.sel.SelBlock.{SelBlock}
use Rattle.low_core.specs.SelWeights.{sel_op_weight, sel_end_weight, sel_block_weight, sel_function_weight, calls_at, call_weight}
use Rattle.frame_rows.specs.declared.spot.Spot.{Spot}
use Rattle.frame_rows.specs.declared.spot.Spot.TheVariants.{Own, Frame}
use Rattle.frame_rows.specs.Code.{home_read, home_write, op_row}
use Rattle.frame_rows.specs.Sizes.{row_bytes, IsNoCall}
use Rattle.frame_rows.proofs.Lengths.{row_bytes-append, op_sized}
use Rattle.obj_core.specs.Disassembly.{size_of}
use Rattle.obj_core.specs.Saved.{saved_register}
use Rattle.obj_rows.specs.Marked.{linked, all_unlinked, row_size}
use Rattle.obj_rows.proofs.Rows.{row_size-append}
use Rattle.frame_lower.specs.Calls.{argument_registers, into_registers, into_words, pass_row, take_row, call_row, from_registers, from_words, receive_row}
use Rattle.frame_lower.specs.Frames.{kept_bytes}
use Rattle.frame_lower.specs.Functions.{front_row, function_row}
use Rattle.low_core.specs.declared.sel.SelFun.{SelFun}
use Rattle.frame_lower.specs.Rows.{Making, marked_op, count_row, push_row, pop_row, leave_row, closing_row, branch_row, end_row}
use Rattle.frame_lower.specs.Blocks.{calls_in, ops_row, block_row, block_bytes, blocks_row, starts_from, start_in}

pub unlinked_size : (is : List Instr) → row_size (all_unlinked is) ≡ row_bytes is
unlinked_size [] = refl
unlinked_size (i ∷ is) = ap (λ n. size_of i + n) (unlinked_size is)

-- a home takes at most eight bytes
read_size : (h : Spot) (t : Reg) → length (encoding (home_read h t)) ≤ 8
read_size (Own r) t = let e : length (encoding (home_read (Own r) t)) ≡ 3 = refl in omega (arith, e)
read_size (Frame k) t = let e : length (encoding (home_read (Frame k) t)) ≡ 8 = refl in omega (arith, e)

write_size : (h : Spot) (t : Reg) → length (encoding (home_write h t)) ≤ 8
write_size (Own r) t = let e : length (encoding (home_write (Own r) t)) ≡ 3 = refl in omega (arith, e)
write_size (Frame k) t = let e : length (encoding (home_write (Frame k) t)) ≡ 8 = refl in omega (arith, e)

module _ (homes : ℕ → Spot) where
  registers_size : (ts : List Reg) (args : List ℕ) → row_bytes (into_registers homes ts args) ≤ 8 * length ts
  registers_size [] args = omega arith
  registers_size (t ∷ ts) [] = omega arith
  registers_size (t ∷ ts) (a ∷ as') = let r = registers_size ts as' in let h = read_size (homes a) t in omega arith

  registers_few : (ts : List Reg) (args : List ℕ) → row_bytes (into_registers homes ts args) ≤ 8 * length args
  registers_few [] args = omega arith
  registers_few (t ∷ ts) [] = omega arith
  registers_few (t ∷ ts) (a ∷ as') = let r = registers_few ts as' in let h = read_size (homes a) t in omega arith

  words_size : (k : ℕ) (args : List ℕ) → row_bytes (into_words homes k args) ≤ 16 * length args
  words_size k [] = omega arith
  words_size k (a ∷ as') =
      let r = words_size (k + 1) as' in
      let h = read_size (homes a) Rax in
      let w = write_size (Frame k) Rax in
      omega arith

  pass_size : (args : List ℕ) → row_bytes (pass_row homes args) ≤ 16 * length args
  pass_size args =
      let a = row_bytes-append (into_words homes 0 (drop 6 args)) (into_registers homes argument_registers args) in
      let w = words_size 0 (drop 6 args) in
      let r = registers_size argument_registers args in
      let f = registers_few argument_registers args in
      let d : length (drop 6 args) ≡ length args - 6 = length-drop 6 args in
      omega arith

  take_size : (into : Option ℕ) → row_bytes (take_row homes into) ≤ 8
  take_size None = omega arith
  take_size (Some r) = let w = write_size (homes r) Rax in omega arith

  -- a call
  call_size : (wanted : List Instr) (slot : ℕ) (into : Option ℕ) (args : List ℕ) →
      row_size (call_row homes wanted slot into args) ≡ row_bytes (pass_row homes args ++ wanted) + (5 + row_bytes (take_row homes into))
  call_size wanted slot into args =
      let front = pass_row homes args ++ wanted in
      row_size-append (all_unlinked front) (linked (instr.Jmp (pos 0)) slot ∷ all_unlinked (take_row homes into))
      ∙ ap (λ n. n + (5 + row_size (all_unlinked (take_row homes into)))) (unlinked_size front)
      ∙ ap (λ n. row_bytes front + (5 + n)) (unlinked_size (take_row homes into))

  call_light : (wanted : List Instr) → row_bytes wanted ≤ 8 → (slot : ℕ) (into : Option ℕ) (args : List ℕ) →
      row_size (call_row homes wanted slot into args) ≤ call_weight (length args)
  call_light wanted few slot into args =
      let c = call_size wanted slot into args in
      let a = row_bytes-append (pass_row homes args) wanted in
      let p = pass_size args in
      let t = take_size into in
      omega arith

few_pop : (r : Reg) → length (encoding (instr.Pop r)) ≤ 2
few_pop Rax = leb-true _ _ refl
few_pop Rcx = leb-true _ _ refl
few_pop Rdx = leb-true _ _ refl
few_pop Rbx = leb-true _ _ refl
few_pop Rsp = leb-true _ _ refl
few_pop Rbp = leb-true _ _ refl
few_pop Rsi = leb-true _ _ refl
few_pop Rdi = leb-true _ _ refl
few_pop R8 = leb-true _ _ refl
few_pop R9 = leb-true _ _ refl
few_pop R10 = leb-true _ _ refl
few_pop R11 = leb-true _ _ refl
few_pop R12 = leb-true _ _ refl
few_pop R13 = leb-true _ _ refl
few_pop R14 = leb-true _ _ refl
few_pop R15 = leb-true _ _ refl

few_push : (r : Reg) → length (encoding (instr.Push r)) ≤ 2
few_push Rax = leb-true _ _ refl
few_push Rcx = leb-true _ _ refl
few_push Rdx = leb-true _ _ refl
few_push Rbx = leb-true _ _ refl
few_push Rsp = leb-true _ _ refl
few_push Rbp = leb-true _ _ refl
few_push Rsi = leb-true _ _ refl
few_push Rdi = leb-true _ _ refl
few_push R8 = leb-true _ _ refl
few_push R9 = leb-true _ _ refl
few_push R10 = leb-true _ _ refl
few_push R11 = leb-true _ _ refl
few_push R12 = leb-true _ _ refl
few_push R13 = leb-true _ _ refl
few_push R14 = leb-true _ _ refl
few_push R15 = leb-true _ _ refl

-- calls are fewer than bytes
call_few : (op : SelOp) → calls_at op ≤ sel_op_weight op
call_few (Set r n) = omega arith
call_few (Copy r s) = omega arith
call_few (Alu o w r s t) = omega arith
call_few (Div signed rest w r s t) = omega arith
call_few (Widen signed from to r s) = omega arith
call_few (Test p w r s t) = omega arith
call_few (Pick r c s t) = omega arith
call_few (Load w r s) = omega arith
call_few (Store w s t) = omega arith
call_few (FrameAt r at) = omega arith
call_few (GlobalAt r g) = omega arith
call_few (FunctionAt r g) = omega arith
call_few (Call g r args) = omega arith
call_few (CallAt s r args) = omega arith
call_few (Outside Putchar r args) = omega arith
call_few (Outside Getchar r args) = omega arith
call_few (Outside Exit r args) = omega arith
call_few (Outside Memcpy r args) = omega arith
call_few (Outside Memset r args) = omega arith
call_few (Outside Trap r args) = omega arith

pub calls_few : (ops : List SelOp) → calls_in ops ≤ sum_by sel_op_weight ops
calls_few [] = omega arith
calls_few (op ∷ ops) =
    let a = sum_by-cons calls_at op ops in
    let w = sum_by-cons sel_op_weight op ops in
    let r = calls_few ops in
    let c = call_few op in
    omega arith

-- the bytes of the branches of an end
abbrev branch_most : SelEnd → ℕ
branch_most (Go b) = 5
branch_most (If c b d) = 11
branch_most (Ret r) = 0
branch_most end.Trap = 0

module _ (by : Making) where
  plain_light : (op : SelOp) → IsNoCall op → row_size (all_unlinked (op_row by.homes by.plan (8 * by.words) op)) ≤ sel_op_weight op
  plain_light op none =
      let u = unlinked_size (op_row by.homes by.plan (8 * by.words) op) in
      let s = (op_sized by.homes by.plan (8 * by.words) op none).long in
      omega arith

  pub op_light : (slot : ℕ) (op : SelOp) → row_size (marked_op by slot op) ≤ sel_op_weight op
  op_light slot (Set r n) = plain_light (Set r n) tt
  op_light slot (Copy r s) = plain_light (Copy r s) tt
  op_light slot (Alu o w r s t) = plain_light (Alu o w r s t) tt
  op_light slot (Div signed rest w r s t) = plain_light (Div signed rest w r s t) tt
  op_light slot (Widen signed from to r s) = plain_light (Widen signed from to r s) tt
  op_light slot (Test p w r s t) = plain_light (Test p w r s t) tt
  op_light slot (Pick r c s t) = plain_light (Pick r c s t) tt
  op_light slot (Load w r s) = plain_light (Load w r s) tt
  op_light slot (Store w s t) = plain_light (Store w s t) tt
  op_light slot (FrameAt r at) = plain_light (FrameAt r at) tt
  op_light slot (GlobalAt r g) = plain_light (GlobalAt r g) tt
  op_light slot (FunctionAt r g) = plain_light (FunctionAt r g) tt
  op_light slot (Call g r args) = call_light by.homes [] (omega arith) slot r args
  op_light slot (CallAt s r args) = call_light by.homes (home_read (by.homes s) R11 ∷ []) (let h = read_size (by.homes s) R11 in omega arith) slot r args
  op_light slot (Outside Putchar r args) = call_light by.homes [] (omega arith) slot r args
  op_light slot (Outside Getchar r args) = call_light by.homes [] (omega arith) slot r args
  op_light slot (Outside Exit r args) = call_light by.homes [] (omega arith) slot r args
  op_light slot (Outside Memcpy r args) = call_light by.homes [] (omega arith) slot r args
  op_light slot (Outside Memset r args) = call_light by.homes [] (omega arith) slot r args
  op_light slot (Outside Trap r args) = let e : row_size (marked_op by slot (Outside Trap r args)) ≡ 2 = refl in omega (arith, e)

  -- it has the same bytes by any slot
  call_same : (wanted : List Instr) (slot other : ℕ) (into : Option ℕ) (args : List ℕ) → row_size (call_row by.homes wanted slot into args) ≡ row_size (call_row by.homes wanted other into args)
  call_same wanted slot other into args = call_size by.homes wanted slot into args ∙ sym (call_size by.homes wanted other into args)

  op_same : (slot other : ℕ) (op : SelOp) → row_size (marked_op by slot op) ≡ row_size (marked_op by other op)
  op_same slot other (Set r n) = refl
  op_same slot other (Copy r s) = refl
  op_same slot other (Alu o w r s t) = refl
  op_same slot other (Div signed rest w r s t) = refl
  op_same slot other (Widen signed from to r s) = refl
  op_same slot other (Test p w r s t) = refl
  op_same slot other (Pick r c s t) = refl
  op_same slot other (Load w r s) = refl
  op_same slot other (Store w s t) = refl
  op_same slot other (FrameAt r at) = refl
  op_same slot other (GlobalAt r g) = refl
  op_same slot other (FunctionAt r g) = refl
  op_same slot other (Call g r args) = call_same [] slot other r args
  op_same slot other (CallAt s r args) = call_same (home_read (by.homes s) R11 ∷ []) slot other r args
  op_same slot other (Outside Putchar r args) = call_same [] slot other r args
  op_same slot other (Outside Getchar r args) = call_same [] slot other r args
  op_same slot other (Outside Exit r args) = call_same [] slot other r args
  op_same slot other (Outside Memcpy r args) = call_same [] slot other r args
  op_same slot other (Outside Memset r args) = call_same [] slot other r args
  op_same slot other (Outside Trap r args) = refl

  pub ops_same : (slot other : ℕ) (ops : List SelOp) → row_size (ops_row by slot ops) ≡ row_size (ops_row by other ops)
  ops_same slot other [] = refl
  ops_same slot other (op ∷ ops) =
      row_size-append (marked_op by slot op) (ops_row by (slot + calls_at op) ops)
      ∙ ap (λ n. n + row_size (ops_row by (slot + calls_at op) ops)) (op_same slot other op)
      ∙ ap (λ n. row_size (marked_op by other op) + n) (ops_same (slot + calls_at op) (other + calls_at op) ops)
      ∙ sym (row_size-append (marked_op by other op) (ops_row by (other + calls_at op) ops))

  pub ops_light : (slot : ℕ) (ops : List SelOp) → row_size (ops_row by slot ops) ≤ sum_by sel_op_weight ops
  ops_light slot [] = omega arith
  ops_light slot (op ∷ ops) =
      let a = row_size-append (marked_op by slot op) (ops_row by (slot + calls_at op) ops) in
      let o = op_light slot op in
      let r = ops_light (slot + calls_at op) ops in
      let s = sum_by-cons sel_op_weight op ops in
      omega arith

  pop_size : (order : List ℕ) → row_bytes (pop_row order) ≤ 2 * length order
  pop_size [] = omega arith
  pop_size (place ∷ order) =
      let a = row_bytes-append (pop_row order) (instr.Pop (saved_register place) ∷ []) in
      let r = pop_size order in
      let p = few_pop (saved_register place) in
      omega arith

  leave_size : length by.order ≤ 5 → row_bytes (leave_row by) ≤ 25
  leave_size five =
      let a = row_bytes-append (pop_row by.order) (instr.AluImm ImmOp.Add Wide.W64 R15 (pos 1) ∷ instr.Ret ∷ []) in
      let p = pop_size by.order in
      omega arith

  closing_light : length by.order ≤ 5 → (e : SelEnd) → row_bytes (closing_row by e) + branch_most e ≤ sel_end_weight e
  closing_light five (Go b) = omega arith
  closing_light five (If c b d) = let h = read_size (by.homes c) Rax in omega arith
  closing_light five (Ret (Some r)) = let h = read_size (by.homes r) Rax in let l = leave_size five in omega arith
  closing_light five (Ret None) = let l = leave_size five in omega arith
  closing_light five end.Trap = omega arith

  branch_size : (starts : ℕ → ℕ) (at : ℕ) (e : SelEnd) → row_size (all_unlinked (branch_row starts at e)) ≡ branch_most e
  branch_size starts at (Go b) = refl
  branch_size starts at (If c b d) = refl
  branch_size starts at (Ret r) = refl
  branch_size starts at end.Trap = refl

  end_size : (starts : ℕ → ℕ) (at : ℕ) (e : SelEnd) → row_size (end_row by starts at e) ≡ row_bytes (closing_row by e) + branch_most e
  end_size starts at e =
      let closing = all_unlinked (closing_row by e) in
      row_size-append closing (all_unlinked (branch_row starts (at + row_size closing) e))
      ∙ ap (λ n. row_size closing + n) (branch_size starts (at + row_size closing) e)
      ∙ ap (λ n. n + branch_most e) (unlinked_size (closing_row by e))

  block_size : (starts : ℕ → ℕ) (at slot : ℕ) (b : SelBlock) → row_size (block_row by starts at slot b) ≡ row_size (ops_row by 0 b.ops) + (row_bytes (closing_row by b.end) + branch_most b.end)
  block_size starts at slot b =
      let ops = ops_row by slot b.ops in
      row_size-append ops (end_row by starts (at + row_size ops) b.end)
      ∙ ap (λ n. row_size ops + n) (end_size starts (at + row_size ops) b.end)
      ∙ ap (λ n. n + (row_bytes (closing_row by b.end) + branch_most b.end)) (ops_same slot 0 b.ops)

  -- a block has the same bytes everywhere
  pub block_same : (starts : ℕ → ℕ) (at slot : ℕ) (b : SelBlock) → row_size (block_row by starts at slot b) ≡ block_bytes by b
  block_same starts at slot b = block_size starts at slot b ∙ sym (block_size (λ n. 0) 0 0 b)

  pub block_light : length by.order ≤ 5 → (b : SelBlock) → block_bytes by b ≤ sel_block_weight b
  block_light five b =
      let s = block_size (λ n. 0) 0 0 b in
      let o = ops_light 0 b.ops in
      let c = closing_light five b.end in
      omega arith

  -- what an end does in front of its branches
  pub closing_few : length by.order ≤ 5 → (e : SelEnd) → row_bytes (closing_row by e) ≤ sel_end_weight e
  closing_few five e = let c = closing_light five e in omega arith

  -- what stands in front of the first block
  store_size : (t : Reg) (p : ℕ) → length (encoding (home_write (by.homes p) t)) ≤ 8
  store_size t p = write_size (by.homes p) t

  stores_size : (ts : List Reg) (params : List ℕ) → row_bytes (from_registers by.homes ts params) ≤ 8 * length ts
  stores_size [] params = omega arith
  stores_size (t ∷ ts) [] = omega arith
  stores_size (t ∷ ts) (p ∷ ps) = let r = stores_size ts ps in let h = store_size t p in omega arith

  fetches_size : (at : ℕ) (params : List ℕ) → row_bytes (from_words by.homes at params) ≤ 16 * length params
  fetches_size at [] = omega arith
  fetches_size at (p ∷ ps) = let r = fetches_size (at + 8) ps in let h = store_size Rax p in omega arith

  push_size : (order : List ℕ) → row_bytes (push_row order) ≤ 2 * length order
  push_size [] = omega arith
  push_size (place ∷ order) = let r = push_size order in let p = few_push (saved_register place) in omega arith

  pub front_light : length by.order ≤ 5 → (f : SelFun) → length f.params ≤ 32 → row_size (front_row by f) ≤ 512
  front_light five f few =
      let stack = instr.AluImm ImmOp.Sub Wide.W64 Rsp (pos by.room) in
      let receive = receive_row by.homes by.room f.params in
      let u = unlinked_size (count_row ++ (push_row by.order ++ (stack ∷ receive))) in
      let a = row_bytes-append count_row (push_row by.order ++ (stack ∷ receive)) in
      let b = row_bytes-append (push_row by.order) (stack ∷ receive) in
      let c = row_bytes-append (from_registers by.homes argument_registers f.params) (from_words by.homes (by.room + kept_bytes) (drop 6 f.params)) in
      let p = push_size by.order in
      let s = stores_size argument_registers f.params in
      let w = fetches_size (by.room + kept_bytes) (drop 6 f.params) in
      let d : length (drop 6 f.params) ≡ length f.params - 6 = length-drop 6 f.params in
      omega arith

  pub blocks_light : length by.order ≤ 5 → (starts : ℕ → ℕ) (at slot : ℕ) (bs : List SelBlock) → row_size (blocks_row by starts at slot bs) ≤ sum_by sel_block_weight bs
  blocks_light five starts at slot [] = omega arith
  blocks_light five starts at slot (b ∷ bs) =
      let a = row_size-append (block_row by starts at slot b) (blocks_row by starts (at + block_bytes by b) (slot + calls_in b.ops) bs) in
      let s = block_same starts at slot b in
      let l = block_light five b in
      let r = blocks_light five starts (at + block_bytes by b) (slot + calls_in b.ops) bs in
      let w = sum_by-cons sel_block_weight b bs in
      omega arith

  -- a function
  pub function_light : length by.order ≤ 5 → (slot : ℕ) (f : SelFun) → length f.params ≤ 32 → row_size (function_row by slot f) ≤ sel_function_weight f
  function_light five slot f few =
      let front = front_row by f in
      let starts = start_in (starts_from by (row_size front) f.blocks) in
      let a = row_size-append front (blocks_row by starts (row_size front) slot f.blocks) in
      let l = front_light five f few in
      let b = blocks_light five starts (row_size front) slot f.blocks in
      omega arith
