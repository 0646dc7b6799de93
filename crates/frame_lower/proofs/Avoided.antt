-- Functions whose homes are all words of their frames do nothing that is a slot's own, and name the five saved registers where they push and pop them alone.
use Rattle.std.proofs.Common.{◌≡◌, ℕ, ◌+◌, ◌*◌, Bool, true, false, not, ◌&&◌, ◌||◌, nat_eq, nat_lt, if◌then◌else◌, List, [], ◌∷◌, ◌++◌, drop, Option, Some, None, pos, slice_index, refl, ap, ◌∙◌, arith}
use Rattle.std.specs.List.{list_all}
use Rattle.std.proofs.lemmas.Bool.{and_parts}
use Rattle.x86_core.specs.declared.reg.Reg.{Reg}
use Rattle.x86_core.specs.declared.reg.Reg.TheVariants.{Rax, Rcx, Rdx, Rbx, Rbp, Rsi, Rdi, R8, R9, R11, R12, R13, R14, R15, Rsp}
use Rattle.x86_core.specs.declared.instr.Wide.{Wide}
use Rattle.x86_core.specs.declared.instr.ImmOp.{ImmOp}
use Rattle.x86_core.specs.declared.instr.Instr.{Instr}
use Rattle.x86_core.specs.declared.instr.Instr.TheVariants as instr
use Rattle.low_core.specs.declared.sel.Which.TheVariants.{Putchar, Getchar, Exit, Memcpy, Memset, Trap}
use Rattle.low_core.specs.declared.sel.SelOp.{SelOp}
use Rattle.low_core.specs.declared.sel.SelOp.TheVariants.{Set, Copy, Alu, Div, Widen, Test, Pick, Load, Store, FrameAt, GlobalAt, FunctionAt, Call, CallAt, Outside}
use Rattle.low_core.specs.declared.sel.SelEnd.{SelEnd}
use Rattle.low_core.specs.declared.sel.SelEnd.TheVariants.{Go, If, Ret}
use Rattle.low_core.specs.declared.sel.SelEnd.TheVariants as end
use Rattle.low_core.specs.declared.sel.SelBlock.{SelBlock}
use Rattle.low_core.specs.declared.sel.SelFun.{SelFun}
use Rattle.low_core.specs.SelWeights.{calls_at}
use Rattle.frame_rows.specs.Code.{home_read, op_row}
use Rattle.obj_core.specs.Object.{Each}
use Rattle.obj_core.specs.Saved.{saved_register, name_of, five_of, is_push_or_pop, is_among, registers_of, occurs, one_if, count_in, agree, are_first_colors}
use Rattle.obj_core.specs.Slots.{name_purpose}
use Rattle.obj_core.specs.WellFormed.{is_slots_own}
use Rattle.obj_rows.specs.Marked.{Marked, linked, all_unlinked, instrs_of, row_size}
use Rattle.frame_lower.specs.Calls.{argument_registers, into_registers, into_words, pass_row, take_row, call_row, from_registers, from_words, receive_row}
use Rattle.frame_lower.specs.Frames.{kept_bytes}
use Rattle.frame_lower.specs.Rows.{Making, marked_op, count_row, push_row, pop_row, leave_row, closing_row, branch_row, end_row}
use Rattle.frame_lower.specs.Blocks.{calls_in, ops_row, block_row, block_bytes, blocks_row, starts_from, start_in}
use Rattle.frame_lower.specs.Functions.{front_row, function_row}
use Rattle.frame_lower.proofs.Tame.{avoids, tame, AreTame, AreWords, tame-append, read_tame, write_tame, op_tame}

marked_append : (xs ys : List Marked) → AreTame (instrs_of xs) → AreTame (instrs_of ys) → AreTame (instrs_of (xs ++ ys))
marked_append [] ys hx hy = hy
marked_append (x ∷ xs) ys hx hy = (hx.0, marked_append xs ys hx.1 hy)

unlinked_tame : (is : List Instr) → AreTame is → AreTame (instrs_of (all_unlinked is))
unlinked_tame [] h = tt
unlinked_tame (i ∷ is) h = (h.0, unlinked_tame is h.1)

-- pushes and pops are
push_tame : (r : Reg) → tame (instr.Push r) ≡ true
push_tame r = refl

pop_tame : (r : Reg) → tame (instr.Pop r) ≡ true
pop_tame r = refl

module _ (by : Making) (words : AreWords by.homes) where
  registers_tame : (args : List ℕ) → AreTame (into_registers by.homes argument_registers args)
  registers_tame [] = tt
  registers_tame (a ∷ []) = (read_tame by.homes words a Rdi (λ k. refl), tt)
  registers_tame (a ∷ b ∷ []) = (read_tame by.homes words a Rdi (λ k. refl), (read_tame by.homes words b Rsi (λ k. refl), tt))
  registers_tame (a ∷ b ∷ c ∷ []) = (read_tame by.homes words a Rdi (λ k. refl), (read_tame by.homes words b Rsi (λ k. refl), (read_tame by.homes words c Rdx (λ k. refl), tt)))
  registers_tame (a ∷ b ∷ c ∷ d ∷ []) =
      (read_tame by.homes words a Rdi (λ k. refl), (read_tame by.homes words b Rsi (λ k. refl), (read_tame by.homes words c Rdx (λ k. refl), (read_tame by.homes words d Rcx (λ k. refl), tt))))
  registers_tame (a ∷ b ∷ c ∷ d ∷ e ∷ []) =
      (read_tame by.homes words a Rdi (λ k. refl), (read_tame by.homes words b Rsi (λ k. refl), (read_tame by.homes words c Rdx (λ k. refl), (read_tame by.homes words d Rcx (λ k. refl), (read_tame by.homes words e R8 (λ k. refl), tt)))))
  registers_tame (a ∷ b ∷ c ∷ d ∷ e ∷ f ∷ more) =
      (read_tame by.homes words a Rdi (λ k. refl), (read_tame by.homes words b Rsi (λ k. refl), (read_tame by.homes words c Rdx (λ k. refl), (read_tame by.homes words d Rcx (λ k. refl), (read_tame by.homes words e R8 (λ k. refl), (read_tame by.homes words f R9 (λ k. refl), tt))))))

  words_tame : (k : ℕ) (args : List ℕ) → AreTame (into_words by.homes k args)
  words_tame k [] = tt
  words_tame k (a ∷ as') = (read_tame by.homes words a Rax (λ j. refl), (refl, words_tame (k + 1) as'))

  pass_tame : (args : List ℕ) → AreTame (pass_row by.homes args)
  pass_tame args = tame-append (into_words by.homes 0 (drop 6 args)) (into_registers by.homes argument_registers args) (words_tame 0 (drop 6 args)) (registers_tame args)

  take_tame : (into : Option ℕ) → AreTame (take_row by.homes into)
  take_tame None = tt
  take_tame (Some r) = (write_tame by.homes words r Rax (λ k. refl), tt)

  call_tame : (wanted : List Instr) (slot : ℕ) (into : Option ℕ) (args : List ℕ) → AreTame wanted → AreTame (instrs_of (call_row by.homes wanted slot into args))
  call_tame wanted slot into args want =
      marked_append (all_unlinked (pass_row by.homes args ++ wanted)) (linked (instr.Jmp (pos 0)) slot ∷ all_unlinked (take_row by.homes into))
      (unlinked_tame (pass_row by.homes args ++ wanted) (tame-append (pass_row by.homes args) wanted (pass_tame args) want))
      (refl, unlinked_tame (take_row by.homes into) (take_tame into))

  plain_tame : (op : SelOp) → AreTame (instrs_of (all_unlinked (op_row by.homes by.plan (8 * by.words) op)))
  plain_tame op = unlinked_tame (op_row by.homes by.plan (8 * by.words) op) (op_tame by.homes words by.plan (8 * by.words) op)

  marked_op_tame : (slot : ℕ) (op : SelOp) → AreTame (instrs_of (marked_op by slot op))
  marked_op_tame slot (Set r n) = plain_tame (Set r n)
  marked_op_tame slot (Copy r s) = plain_tame (Copy r s)
  marked_op_tame slot (Alu o w r s t) = plain_tame (Alu o w r s t)
  marked_op_tame slot (Div signed rest w r s t) = plain_tame (Div signed rest w r s t)
  marked_op_tame slot (Widen signed from to r s) = plain_tame (Widen signed from to r s)
  marked_op_tame slot (Test p w r s t) = plain_tame (Test p w r s t)
  marked_op_tame slot (Pick r c s t) = plain_tame (Pick r c s t)
  marked_op_tame slot (Load w r s) = plain_tame (Load w r s)
  marked_op_tame slot (Store w s t) = plain_tame (Store w s t)
  marked_op_tame slot (FrameAt r at) = plain_tame (FrameAt r at)
  marked_op_tame slot (GlobalAt r g) = plain_tame (GlobalAt r g)
  marked_op_tame slot (FunctionAt r g) = plain_tame (FunctionAt r g)
  marked_op_tame slot (Call g r args) = call_tame [] slot r args tt
  marked_op_tame slot (CallAt s r args) = call_tame (home_read (by.homes s) R11 ∷ []) slot r args (read_tame by.homes words s R11 (λ k. refl), tt)
  marked_op_tame slot (Outside Trap r args) = (refl, tt)
  marked_op_tame slot (Outside Putchar r args) = call_tame [] slot r args tt
  marked_op_tame slot (Outside Getchar r args) = call_tame [] slot r args tt
  marked_op_tame slot (Outside Exit r args) = call_tame [] slot r args tt
  marked_op_tame slot (Outside Memcpy r args) = call_tame [] slot r args tt
  marked_op_tame slot (Outside Memset r args) = call_tame [] slot r args tt

  ops_tame : (slot : ℕ) (ops : List SelOp) → AreTame (instrs_of (ops_row by slot ops))
  ops_tame slot [] = tt
  ops_tame slot (op ∷ ops) = marked_append (marked_op by slot op) (ops_row by (slot + calls_at op) ops) (marked_op_tame slot op) (ops_tame (slot + calls_at op) ops)

  pops_tame : (order : List ℕ) → AreTame (pop_row order)
  pops_tame [] = tt
  pops_tame (place ∷ order) = tame-append (pop_row order) (instr.Pop (saved_register place) ∷ []) (pops_tame order) (pop_tame (saved_register place), tt)

  leave_tame : AreTame (leave_row by)
  leave_tame = (refl, tame-append (pop_row by.order) (instr.AluImm ImmOp.Add Wide.W64 R15 (pos 1) ∷ instr.Ret ∷ []) (pops_tame by.order) (refl, (refl, tt)))

  closing_tame : (e : SelEnd) → AreTame (closing_row by e)
  closing_tame (Go b) = tt
  closing_tame (If c b d) = (read_tame by.homes words c Rax (λ k. refl), (refl, tt))
  closing_tame (Ret (Some r)) = (read_tame by.homes words r Rax (λ k. refl), leave_tame)
  closing_tame (Ret None) = leave_tame
  closing_tame end.Trap = (refl, tt)

  branch_tame : (starts : ℕ → ℕ) (at : ℕ) (e : SelEnd) → AreTame (branch_row starts at e)
  branch_tame starts at (Go b) = (refl, tt)
  branch_tame starts at (If c b d) = (refl, (refl, tt))
  branch_tame starts at (Ret r) = tt
  branch_tame starts at end.Trap = tt

  end_tame : (starts : ℕ → ℕ) (at : ℕ) (e : SelEnd) → AreTame (instrs_of (end_row by starts at e))
  end_tame starts at e =
      let closing = all_unlinked (closing_row by e) in
      marked_append closing (all_unlinked (branch_row starts (at + row_size closing) e)) (unlinked_tame (closing_row by e) (closing_tame e))
      (unlinked_tame (branch_row starts (at + row_size closing) e) (branch_tame starts (at + row_size closing) e))

  blocks_tame : (starts : ℕ → ℕ) (at slot : ℕ) (bs : List SelBlock) → AreTame (instrs_of (blocks_row by starts at slot bs))
  blocks_tame starts at slot [] = tt
  blocks_tame starts at slot (b ∷ bs) =
      let ops = ops_row by slot b.ops in
      marked_append (block_row by starts at slot b) (blocks_row by starts (at + block_bytes by b) (slot + calls_in b.ops) bs)
      (marked_append ops (end_row by starts (at + row_size ops) b.end) (ops_tame slot b.ops) (end_tame starts (at + row_size ops) b.end))
      (blocks_tame starts (at + block_bytes by b) (slot + calls_in b.ops) bs)

  stores_tame : (params : List ℕ) → AreTame (from_registers by.homes argument_registers params)
  stores_tame [] = tt
  stores_tame (a ∷ []) = (write_tame by.homes words a Rdi (λ k. refl), tt)
  stores_tame (a ∷ b ∷ []) = (write_tame by.homes words a Rdi (λ k. refl), (write_tame by.homes words b Rsi (λ k. refl), tt))
  stores_tame (a ∷ b ∷ c ∷ []) = (write_tame by.homes words a Rdi (λ k. refl), (write_tame by.homes words b Rsi (λ k. refl), (write_tame by.homes words c Rdx (λ k. refl), tt)))
  stores_tame (a ∷ b ∷ c ∷ d ∷ []) =
      (write_tame by.homes words a Rdi (λ k. refl), (write_tame by.homes words b Rsi (λ k. refl), (write_tame by.homes words c Rdx (λ k. refl), (write_tame by.homes words d Rcx (λ k. refl), tt))))
  stores_tame (a ∷ b ∷ c ∷ d ∷ e ∷ []) =
      (write_tame by.homes words a Rdi (λ k. refl), (write_tame by.homes words b Rsi (λ k. refl), (write_tame by.homes words c Rdx (λ k. refl), (write_tame by.homes words d Rcx (λ k. refl), (write_tame by.homes words e R8 (λ k. refl), tt)))))
  stores_tame (a ∷ b ∷ c ∷ d ∷ e ∷ f ∷ more) =
      (write_tame by.homes words a Rdi (λ k. refl), (write_tame by.homes words b Rsi (λ k. refl), (write_tame by.homes words c Rdx (λ k. refl), (write_tame by.homes words d Rcx (λ k. refl), (write_tame by.homes words e R8 (λ k. refl), (write_tame by.homes words f R9 (λ k. refl), tt))))))

  fetches_tame : (at : ℕ) (params : List ℕ) → AreTame (from_words by.homes at params)
  fetches_tame at [] = tt
  fetches_tame at (p ∷ ps) = (refl, (write_tame by.homes words p Rax (λ k. refl), fetches_tame (at + 8) ps))

  pushes_tame : (order : List ℕ) → AreTame (push_row order)
  pushes_tame [] = tt
  pushes_tame (place ∷ order) = (push_tame (saved_register place), pushes_tame order)

  pub function_tame : (slot : ℕ) (f : SelFun) → AreTame (instrs_of (function_row by slot f))
  function_tame slot f =
      let front = front_row by f in
      let receive = receive_row by.homes by.room f.params in
      let stack = instr.AluImm ImmOp.Sub Wide.W64 Rsp (pos by.room) in
      marked_append front (blocks_row by (start_in (starts_from by (row_size front) f.blocks)) (row_size front) slot f.blocks)
      (unlinked_tame (count_row ++ (push_row by.order ++ (stack ∷ receive))) (
        refl,
        (
          refl,
          (
            refl,
            tame-append (push_row by.order) (stack ∷ receive) (pushes_tame by.order)
                (refl, tame-append (from_registers by.homes argument_registers f.params) (from_words by.homes (by.room + kept_bytes) (drop 6 f.params)) (stores_tame f.params) (fetches_tame (by.room + kept_bytes) (drop 6 f.params))),
          ),
        ),
      ))
      (blocks_tame (start_in (starts_from by (row_size front) f.blocks)) (row_size front) slot f.blocks)

-- what is tame is no slot's own
not_true : (b : Bool) → not b ≡ true → b ≡ false
not_true true e = absurd cc
not_true false e = refl

pub tame_transfers : (is : List Instr) → AreTame is → Each (λ i. is_slots_own i ≡ false) is
tame_transfers [] h = tt
tame_transfers (i ∷ is) h = (not_true (is_slots_own i) (and_parts (not (is_slots_own i)) _ h.0).0, tame_transfers is h.1)

-- and names none of the five
avoids_one : (r : Reg) (i : Instr) → avoids r i ≡ true → (if is_push_or_pop i then false else is_among r (registers_of i)) ≡ false
avoids_one r i e = by (is_push_or_pop i) (is_among r (registers_of i)) e
  where
    by : (p q : Bool) → (if p then true else not q) ≡ true → (if p then false else q) ≡ false
    by true q h = refl
    by false q h = not_true q h

one_avoided : (i : Instr) → tame i ≡ true → (n : ℕ) → avoids (saved_register n) i ≡ true
one_avoided i h n =
    let a = and_parts (not (is_slots_own i)) _ h in
    let b = and_parts (avoids Rbx i) _ a.1 in
    let c = and_parts (avoids Rbp i) _ b.1 in
    let d = and_parts (avoids R12 i) _ c.1 in
    let e = and_parts (avoids R13 i) _ d.1 in
    by (nat_eq n 0) (nat_eq n 1) (nat_eq n 2) (nat_eq n 3) b.0 c.0 d.0 e.0 e.1
  where
    by : (p q r s : Bool) → avoids Rbx i ≡ true → avoids Rbp i ≡ true → avoids R12 i ≡ true → avoids R13 i ≡ true → avoids R14 i ≡ true →
        avoids (if p then Rbx else (if q then Rbp else (if r then R12 else (if s then R13 else R14)))) i ≡ true
    by true q r s x0 x1 x2 x3 x4 = x0
    by false true r s x0 x1 x2 x3 x4 = x1
    by false false true s x0 x1 x2 x3 x4 = x2
    by false false false true x0 x1 x2 x3 x4 = x3
    by false false false false x0 x1 x2 x3 x4 = x4

pub never_occurs : (is : List Instr) → AreTame is → (n : ℕ) → occurs (saved_register n) is ≡ false
never_occurs [] h n = refl
never_occurs (i ∷ is) h n =
    ap (λ b. b || occurs (saved_register n) is) (avoids_one (saved_register n) i (one_avoided i h.0 n)) ∙ never_occurs is h.1 n

-- so no colour is in use
pub no_colors : (reg_seed function : ℕ) (is : List Instr) → AreTame is → are_first_colors reg_seed function is ≡ true
no_colors reg_seed function is h =
    ap (λ n. are_colors n) none ∙ all (used 0) (used 1) (used 2) (used 3) (used 4) (unused 0) (unused 1) (unused 2) (unused 3) (unused 4)
  where
    used : ℕ → Bool
    used color = occurs (name_of reg_seed function color) is

    unused : (color : ℕ) → used color ≡ false
    unused color = never_occurs is h (slice_index (five_of reg_seed name_purpose function) color)

    are_colors : ℕ → Bool
    are_colors n = list_all (λ color. agree (occurs (name_of reg_seed function color) is) (nat_lt color n)) (0 ∷ 1 ∷ 2 ∷ 3 ∷ 4 ∷ [])

    all : (a b c d e : Bool) → a ≡ false → b ≡ false → c ≡ false → d ≡ false → e ≡ false → (agree a false && (agree b false && (agree c false && (agree d false && (agree e false && true))))) ≡ true
    all false false false false false p q r s t = refl
    all true b c d e p q r s t = absurd cc
    all false true c d e p q r s t = absurd cc
    all false false true d e p q r s t = absurd cc
    all false false false true e p q r s t = absurd cc
    all false false false false true p q r s t = absurd cc

    one_none : (b : Bool) → b ≡ false → one_if b ≡ 0
    one_none true e = absurd cc
    one_none false e = refl

    none : count_in is ≡ 0
    none =
        let a = one_none (occurs (saved_register 0) is) (never_occurs is h 0) in
        let b = one_none (occurs (saved_register 1) is) (never_occurs is h 1) in
        let c = one_none (occurs (saved_register 2) is) (never_occurs is h 2) in
        let d = one_none (occurs (saved_register 3) is) (never_occurs is h 3) in
        let e = one_none (occurs (saved_register 4) is) (never_occurs is h 4) in
        omega (arith, a, b, c, d, e)
