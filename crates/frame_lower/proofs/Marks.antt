-- The slots to which the code of a function is linked: those of its calls, one after another.
use Rattle.std.proofs.Common.{◌≡◌, ℕ, zero, suc, ◌+◌, ◌*◌, List, [], ◌∷◌, ◌++◌, map, length, Option, Some, None, pos, refl, ap, sym, ◌∙◌, arith}
use Rattle.std.proofs.lemmas.List.{append_assoc}
use Rattle.std.proofs.lemmas.List.Sums.{sum_by-cons}
use Rattle.x86_core.specs.declared.reg.Reg.TheVariants.{R11, Rsp}
use Rattle.x86_core.specs.declared.instr.Wide.{Wide}
use Rattle.x86_core.specs.declared.instr.ImmOp.{ImmOp}
use Rattle.x86_core.specs.declared.instr.Instr.{Instr}
use Rattle.x86_core.specs.declared.instr.Instr.TheVariants as instr
use Rattle.low_core.specs.declared.sel.Which.TheVariants.{Putchar, Getchar, Exit, Memcpy, Memset, Trap}
use Rattle.low_core.specs.declared.sel.SelOp.{SelOp}
use Rattle.low_core.specs.declared.sel.SelOp.TheVariants.{Set, Copy, Alu, Div, Widen, Test, Pick, Load, Store, FrameAt, GlobalAt, FunctionAt, Call, CallAt, Outside}
use Rattle.low_core.specs.declared.sel.SelEnd.{SelEnd}
use Rattle.low_core.specs.declared.sel.SelBlock.{SelBlock}
use Rattle.low_core.specs.declared.sel.SelFun.{SelFun}
use Rattle.low_core.specs.SelWeights.{calls_at}
use Rattle.frame_rows.specs.declared.spot.Spot.{Spot}
use Rattle.frame_rows.specs.Code.{home_read, op_row}
use Rattle.obj_core.specs.declared.object.Link.{Link}
use Rattle.obj_core.specs.Disassembly.{size_of}
use Rattle.obj_rows.specs.Marked.{Marked, linked, all_unlinked, row_size, link_ending, links_from}
use Rattle.frame_lower.specs.Calls.{pass_row, take_row, call_row, receive_row}
use Rattle.frame_lower.specs.Rows.{Making, marked_op, count_row, push_row, closing_row, branch_row, end_row}
use Rattle.frame_lower.specs.Blocks.{calls_in, ops_row, block_row, block_bytes, calls_of_blocks, blocks_row, starts_from, start_in}
use Rattle.frame_lower.specs.Functions.{front_row, function_row, saved_function}

-- the slot of a mark, where there is one
abbrev pub mark : Option ℕ → List ℕ
mark None = []
mark (Some k) = k ∷ []

-- the slots of a row, in their order
abbrev pub marks : List Marked → List ℕ
marks [] = []
marks (x ∷ xs) = mark x.slot ++ marks xs

-- so many numbers from one on
abbrev pub numbered : ℕ → ℕ → List ℕ
numbered first zero = []
numbered first (suc count) = first ∷ numbered (first + 1) count

pub marks_append : (xs ys : List Marked) → marks (xs ++ ys) ≡ marks xs ++ marks ys
marks_append [] ys = refl
marks_append (x ∷ xs) ys = ap (λ l. mark x.slot ++ l) (marks_append xs ys) ∙ sym (append_assoc (mark x.slot) (marks xs) (marks ys))

pub marks_unlinked : (is : List Instr) → marks (all_unlinked is) ≡ []
marks_unlinked [] = refl
marks_unlinked (i ∷ is) = marks_unlinked is

pub numbered_append : (first a b : ℕ) → numbered first (a + b) ≡ numbered first a ++ numbered (first + a) b
numbered_append first zero b = ap (numbered first) (let e : 0 + b ≡ b = omega arith in e) ∙ ap (λ n. numbered n b) (let e : first ≡ first + 0 = omega arith in e)
numbered_append first (suc a) b =
    ap (numbered first) (let e : suc a + b ≡ suc (a + b) = omega arith in e)
    ∙ ap (λ l. first ∷ l) (numbered_append (first + 1) a b ∙ ap (λ n. numbered (first + 1) a ++ numbered n b) (let e : first + 1 + a ≡ first + suc a = omega arith in e))

-- a call has one
call_marks : (homes : ℕ → Spot) (wanted : List Instr) (slot : ℕ) (into : Option ℕ) (args : List ℕ) → marks (call_row homes wanted slot into args) ≡ slot ∷ []
call_marks homes wanted slot into args =
    let front = pass_row homes args ++ wanted in
    let rest = linked (instr.Jmp (pos 0)) slot ∷ all_unlinked (take_row homes into) in
    marks_append (all_unlinked front) rest ∙ ap (λ l. l ++ marks rest) (marks_unlinked front) ∙ ap (λ l. slot ∷ l) (marks_unlinked (take_row homes into))

module _ (by : Making) where
  pub op_marks : (slot : ℕ) (op : SelOp) → marks (marked_op by slot op) ≡ numbered slot (calls_at op)
  op_marks slot (Call g r args) = call_marks by.homes [] slot r args
  op_marks slot (CallAt s r args) = call_marks by.homes (home_read (by.homes s) R11 ∷ []) slot r args
  op_marks slot (Outside Trap r args) = refl
  op_marks slot (Outside Putchar r args) = call_marks by.homes [] slot r args
  op_marks slot (Outside Getchar r args) = call_marks by.homes [] slot r args
  op_marks slot (Outside Exit r args) = call_marks by.homes [] slot r args
  op_marks slot (Outside Memcpy r args) = call_marks by.homes [] slot r args
  op_marks slot (Outside Memset r args) = call_marks by.homes [] slot r args
  op_marks slot (Set r n) = marks_unlinked (op_row by.homes by.plan (8 * by.words) (Set r n))
  op_marks slot (Copy r s) = marks_unlinked (op_row by.homes by.plan (8 * by.words) (Copy r s))
  op_marks slot (Alu o w r s t) = marks_unlinked (op_row by.homes by.plan (8 * by.words) (Alu o w r s t))
  op_marks slot (Div signed rest w r s t) = marks_unlinked (op_row by.homes by.plan (8 * by.words) (Div signed rest w r s t))
  op_marks slot (Widen signed from to r s) = marks_unlinked (op_row by.homes by.plan (8 * by.words) (Widen signed from to r s))
  op_marks slot (Test p w r s t) = marks_unlinked (op_row by.homes by.plan (8 * by.words) (Test p w r s t))
  op_marks slot (Pick r c s t) = marks_unlinked (op_row by.homes by.plan (8 * by.words) (Pick r c s t))
  op_marks slot (Load w r s) = marks_unlinked (op_row by.homes by.plan (8 * by.words) (Load w r s))
  op_marks slot (Store w s t) = marks_unlinked (op_row by.homes by.plan (8 * by.words) (Store w s t))
  op_marks slot (FrameAt r at) = marks_unlinked (op_row by.homes by.plan (8 * by.words) (FrameAt r at))
  op_marks slot (GlobalAt r g) = marks_unlinked (op_row by.homes by.plan (8 * by.words) (GlobalAt r g))
  op_marks slot (FunctionAt r g) = marks_unlinked (op_row by.homes by.plan (8 * by.words) (FunctionAt r g))

  pub ops_marks : (slot : ℕ) (ops : List SelOp) → marks (ops_row by slot ops) ≡ numbered slot (calls_in ops)
  ops_marks slot [] = refl
  ops_marks slot (op ∷ ops) =
      marks_append (marked_op by slot op) (ops_row by (slot + calls_at op) ops)
      ∙ ap (λ l. l ++ marks (ops_row by (slot + calls_at op) ops)) (op_marks slot op)
      ∙ ap (λ l. numbered slot (calls_at op) ++ l) (ops_marks (slot + calls_at op) ops)
      ∙ sym (numbered_append slot (calls_at op) (calls_in ops))
      ∙ ap (numbered slot) (sym (sum_by-cons calls_at op ops))

  end_marks : (starts : ℕ → ℕ) (at : ℕ) (e : SelEnd) → marks (end_row by starts at e) ≡ []
  end_marks starts at e =
      let closing = all_unlinked (closing_row by e) in
      let branches = branch_row starts (at + row_size closing) e in
      marks_append closing (all_unlinked branches) ∙ ap (λ l. l ++ marks (all_unlinked branches)) (marks_unlinked (closing_row by e)) ∙ marks_unlinked branches

  pub block_marks : (starts : ℕ → ℕ) (at slot : ℕ) (b : SelBlock) → marks (block_row by starts at slot b) ≡ numbered slot (calls_in b.ops)
  block_marks starts at slot b =
      let ops = ops_row by slot b.ops in
      marks_append ops (end_row by starts (at + row_size ops) b.end) ∙ ap (λ l. marks ops ++ l) (end_marks starts (at + row_size ops) b.end)
      ∙ nothing (marks ops) ∙ ops_marks slot b.ops
    where
      nothing : (xs : List ℕ) → xs ++ [] ≡ xs
      nothing [] = refl
      nothing (x ∷ xs) = ap (λ l. x ∷ l) (nothing xs)

  pub blocks_marks : (starts : ℕ → ℕ) (at slot : ℕ) (bs : List SelBlock) → marks (blocks_row by starts at slot bs) ≡ numbered slot (calls_of_blocks bs)
  blocks_marks starts at slot [] = refl
  blocks_marks starts at slot (b ∷ bs) =
      let rest = blocks_row by starts (at + block_bytes by b) (slot + calls_in b.ops) bs in
      marks_append (block_row by starts at slot b) rest
      ∙ ap (λ l. l ++ marks rest) (block_marks starts at slot b)
      ∙ ap (λ l. numbered slot (calls_in b.ops) ++ l) (blocks_marks starts (at + block_bytes by b) (slot + calls_in b.ops) bs)
      ∙ sym (numbered_append slot (calls_in b.ops) (calls_of_blocks bs))
      ∙ ap (numbered slot) (sym (sum_by-cons (λ (c : SelBlock). calls_in c.ops) b bs))

  pub function_marks : (slot : ℕ) (f : SelFun) → marks (function_row by slot f) ≡ numbered slot (calls_of_blocks f.blocks)
  function_marks slot f =
      let front = front_row by f in
      let blocks = blocks_row by (start_in (starts_from by (row_size front) f.blocks)) (row_size front) slot f.blocks in
      let instrs = count_row ++ (push_row by.order ++ (instr.AluImm ImmOp.Sub Wide.W64 Rsp (pos by.room) ∷ receive_row by.homes by.room f.params)) in
      marks_append front blocks ∙ ap (λ l. l ++ marks blocks) (marks_unlinked instrs) ∙ blocks_marks (start_in (starts_from by (row_size front) f.blocks)) (row_size front) slot f.blocks

-- the links of a row are linked to the slots of its marks
pub links_marks : (off : ℕ) (row : List Marked) → map (λ (l : Link). l.slot) (links_from off row) ≡ marks row
links_marks off [] = refl
links_marks off (x ∷ xs) = one x.slot (off + size_of x.instr) (links_from (off + size_of x.instr) xs) ∙ ap (λ l. mark x.slot ++ l) (links_marks (off + size_of x.instr) xs)
  where
    one : (slot : Option ℕ) (end : ℕ) (ls : List Link) → map (λ (l : Link). l.slot) (link_ending slot end ++ ls) ≡ mark slot ++ map (λ (l : Link). l.slot) ls
    one None end ls = refl
    one (Some k) end ls = refl

-- as many as there are calls
numbered_long : (first count : ℕ) → length (numbered first count) ≡ count
numbered_long first zero = refl
numbered_long first (suc count) = ap suc (numbered_long (first + 1) count)

map_long : (ls : List Link) → length (map (λ (l : Link). l.slot) ls) ≡ length ls
map_long [] = refl
map_long (l ∷ ls) = ap suc (map_long ls)

pub links_long : (by : Making) (slot : ℕ) (f : SelFun) → length (saved_function (function_row by slot f)).links ≡ calls_of_blocks f.blocks
links_long by slot f =
    let row = function_row by slot f in
    sym (map_long (links_from 0 row)) ∙ ap length (links_marks 0 row ∙ function_marks by slot f) ∙ numbered_long slot (calls_of_blocks f.blocks)
