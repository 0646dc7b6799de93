-- A function ends with an instruction that nothing runs past, begins with the prologue of functions that save registers, and its cuts are good.
use Rattle.std.proofs.Common.{◌≡◌, ℕ, zero, suc, ◌+◌, ◌<◌, ◌≤◌, Bool, true, false, ◌&&◌, ◌||◌, nat_eq, nat_lt, if◌then◌else◌, List, [], ◌∷◌, ◌++◌, length, take, Some, None, pos, refl, ap, sym, subst, ◌∙◌, arith, append_assoc}
use Rattle.std.proofs.lemmas.Bool.{eq-eqb, lt-ltb, and_from}
use Rattle.std.proofs.lemmas.List.{append-nil}
use Rattle.x86_core.specs.declared.reg.Reg.TheVariants.{R15, Rsp}
use Rattle.x86_core.specs.declared.instr.Wide.{Wide}
use Rattle.x86_core.specs.declared.instr.ImmOp.{ImmOp}
use Rattle.x86_core.specs.declared.instr.Cond.{Cond}
use Rattle.x86_core.specs.declared.instr.Instr.{Instr}
use Rattle.x86_core.specs.declared.instr.Instr.TheVariants as instr
use Rattle.x86_core.specs.Encoding.{encoding}
use Rattle.x86_core.proofs.Laws.{some_bytes}
use Rattle.low_core.specs.declared.sel.SelEnd.{SelEnd}
use Rattle.low_core.specs.declared.sel.SelEnd.TheVariants.{Go, If, Ret}
use Rattle.low_core.specs.declared.sel.SelEnd.TheVariants as end
use Rattle.low_core.specs.declared.sel.SelBlock.{SelBlock}
use Rattle.low_core.specs.declared.sel.SelFun.{SelFun}
use Rattle.frame_rows.specs.Code.{home_read}
use Rattle.obj_core.specs.Disassembly.{Found, found, found_from, size_of, spelled, starts_at}
use Rattle.obj_core.specs.Saved.{five_of, prologue, same_bytes, begins_with}
use Rattle.obj_core.specs.Slots.{push_purpose}
use Rattle.obj_core.specs.WellFormed.{end_of, is_end, stops_at, is_good_cut, bad_cut}
use Rattle.obj_rows.specs.Marked.{Marked, all_unlinked, instrs_of, row_size}
use Rattle.obj_rows.proofs.Rows.{instrs_of-append, instrs_of-unlinked}
use Rattle.frame_lower.specs.Calls.{receive_row}
use Rattle.frame_lower.specs.Rows.{Making, between, jump_bytes, choice_bytes, count_row, push_row, pop_row, leave_row, closing_row, branch_row, end_row}
use Rattle.frame_lower.specs.Blocks.{calls_in, ops_row, block_row, block_bytes, blocks_row, starts_from, start_in}
use Rattle.frame_lower.specs.Functions.{front_row, function_row, cuts_from}

-- the last instruction is one that nothing runs past
pub record IsClosed (is : List Instr) : Type 0 where
  pub front : List Instr
  pub last : Instr
  pub are : is ≡ front ++ last ∷ []
  pub ends : is_end last ≡ true

closed_behind : (xs ys : List Instr) → IsClosed ys → IsClosed (xs ++ ys)
closed_behind xs ys c = record { front = xs ++ c.front; last = c.last; are = ap (λ l. xs ++ l) c.are ∙ sym (append_assoc xs c.front (c.last ∷ [])); ends = c.ends }

one_closed : (i : Instr) → is_end i ≡ true → IsClosed (i ∷ [])
one_closed i e = record { front = []; last = i; are = refl; ends = e }

rows_closed : (xs ys : List Marked) → IsClosed (instrs_of ys) → IsClosed (instrs_of (xs ++ ys))
rows_closed xs ys c = subst IsClosed (sym (instrs_of-append xs ys)) (closed_behind (instrs_of xs) (instrs_of ys) c)

unlinked_closed : (is : List Instr) → IsClosed is → IsClosed (instrs_of (all_unlinked is))
unlinked_closed is c = subst IsClosed (sym (instrs_of-unlinked is)) c

module _ (by : Making) where
  leave_closed : IsClosed (leave_row by)
  leave_closed =
      closed_behind (instr.AluImm ImmOp.Add Wide.W64 Rsp (pos by.room) ∷ []) (pop_row by.order ++ (instr.AluImm ImmOp.Add Wide.W64 R15 (pos 1) ∷ instr.Ret ∷ []))
      (closed_behind (pop_row by.order) (instr.AluImm ImmOp.Add Wide.W64 R15 (pos 1) ∷ instr.Ret ∷ []) (closed_behind (instr.AluImm ImmOp.Add Wide.W64 R15 (pos 1) ∷ []) (instr.Ret ∷ []) (one_closed instr.Ret refl)))

  none_behind : (xs : List Marked) → IsClosed (instrs_of xs) → IsClosed (instrs_of (xs ++ []))
  none_behind xs c = subst (λ l. IsClosed (instrs_of l)) (sym (append-nil xs)) c

  end_closed : (starts : ℕ → ℕ) (at : ℕ) (e : SelEnd) → IsClosed (instrs_of (end_row by starts at e))
  end_closed starts at (Go b) = one_closed _ refl
  end_closed starts at (If c b d) =
      let closing = all_unlinked (closing_row by (If c b d)) in
      let branches = branch_row starts (at + row_size closing) (If c b d) in
      rows_closed closing (all_unlinked branches) (unlinked_closed branches (closed_behind (instr.Jcc Cond.Ne (between (at + row_size closing + choice_bytes) (starts b)) ∷ []) (instr.Jmp (between (at + row_size closing + (choice_bytes + jump_bytes)) (starts d)) ∷ []) (one_closed (instr.Jmp (between (at + row_size closing + (choice_bytes + jump_bytes)) (starts d))) refl)))
  end_closed starts at (Ret (Some r)) =
      none_behind (all_unlinked (closing_row by (Ret (Some r)))) (unlinked_closed (closing_row by (Ret (Some r))) (closed_behind (home_read (by.homes r) _ ∷ []) (leave_row by) leave_closed))
  end_closed starts at (Ret None) = none_behind (all_unlinked (closing_row by (Ret None))) (unlinked_closed (leave_row by) leave_closed)
  end_closed starts at end.Trap = one_closed instr.Ud2 refl

  blocks_closed : (starts : ℕ → ℕ) (at slot : ℕ) (bs : List SelBlock) → 0 < length bs → IsClosed (instrs_of (blocks_row by starts at slot bs))
  blocks_closed starts at slot [] some = absurd (omega arith)
  blocks_closed starts at slot (b ∷ []) some =
      let ops = ops_row by slot b.ops in
      none_behind (block_row by starts at slot b) (rows_closed ops (end_row by starts (at + row_size ops) b.end) (end_closed starts (at + row_size ops) b.end))
  blocks_closed starts at slot (b ∷ c ∷ bs) some =
      rows_closed (block_row by starts at slot b) (blocks_row by starts (at + block_bytes by b) (slot + calls_in b.ops) (c ∷ bs)) (blocks_closed starts (at + block_bytes by b) (slot + calls_in b.ops) (c ∷ bs) (omega arith))

  pub function_closed : (slot : ℕ) (f : SelFun) → 0 < length f.blocks → IsClosed (instrs_of (function_row by slot f))
  function_closed slot f some =
      let front = front_row by f in
      rows_closed front (blocks_row by (start_in (starts_from by (row_size front) f.blocks)) (row_size front) slot f.blocks)
      (blocks_closed (start_in (starts_from by (row_size front) f.blocks)) (row_size front) slot f.blocks some)

-- bytes begin with their first ones
same_same : (bs : List ℕ) → same_bytes bs bs ≡ true
same_same [] = refl
same_same (b ∷ bs) = and_from (nat_eq b b) (same_bytes bs bs) (eq-eqb b b refl) (same_same bs)

take_front : (xs ys : List ℕ) → take (length xs) (xs ++ ys) ≡ xs
take_front [] ys = refl
take_front (x ∷ xs) ys = ap (λ l. x ∷ l) (take_front xs ys)

begins_front : (xs ys : List ℕ) → begins_with xs (xs ++ ys) ≡ true
begins_front xs ys = ap (same_bytes xs) (take_front xs ys) ∙ same_same xs

spelled_both : (xs ys : List Instr) → spelled (xs ++ ys) ≡ spelled xs ++ spelled ys
spelled_both [] ys = refl
spelled_both (i ∷ xs) ys = ap (λ l. encoding i ++ l) (spelled_both xs ys) ∙ sym (append_assoc (encoding i) (spelled xs) (spelled ys))

-- the prologue stands in front
pub function_begins : (by : Making) (slot : ℕ) (f : SelFun) (reg_seed number : ℕ) → by.order ≡ five_of reg_seed push_purpose number →
    begins_with (prologue reg_seed number) (spelled (instrs_of (function_row by slot f))) ≡ true
function_begins by slot f reg_seed number drawn =
    let first : List Instr = instr.AluImm ImmOp.Sub Wide.W64 R15 (pos 1) ∷ instr.Jcc Cond.Ae (pos 1) ∷ instr.Int3 ∷ push_row by.order in
    let stack = instr.AluImm ImmOp.Sub Wide.W64 Rsp (pos by.room) in
    let receive = receive_row by.homes by.room f.params in
    let front = front_row by f in
    let blocks = blocks_row by (start_in (starts_from by (row_size front) f.blocks)) (row_size front) slot f.blocks in
    let split : instrs_of (function_row by slot f) ≡ first ++ ((stack ∷ receive) ++ instrs_of blocks) =
    instrs_of-append front blocks ∙ ap (λ l. l ++ instrs_of blocks) (instrs_of-unlinked (count_row ++ (push_row by.order ++ (stack ∷ receive))))
    ∙ append_assoc first (stack ∷ receive) (instrs_of blocks) in
    let its : spelled first ≡ prologue reg_seed number = ap (λ order. spelled (instr.AluImm ImmOp.Sub Wide.W64 R15 (pos 1) ∷ instr.Jcc Cond.Ae (pos 1) ∷ instr.Int3 ∷ push_row order)) drawn in
    ap (begins_with (prologue reg_seed number)) (ap spelled split ∙ spelled_both first ((stack ∷ receive) ++ instrs_of blocks))
    ∙ ap (λ p. begins_with p (spelled first ++ spelled ((stack ∷ receive) ++ instrs_of blocks))) (sym its)
    ∙ begins_front (spelled first) (spelled ((stack ∷ receive) ++ instrs_of blocks))

-- an instruction starts, or is one that nothing runs past, behind others too
second_holds : (a b : Bool) → b ≡ true → (a || b) ≡ true
second_holds true b e = refl
second_holds false b e = e

first_holds : (a b : Bool) → a ≡ true → (a || b) ≡ true
first_holds true b e = refl
first_holds false b e = absurd cc

module _ (all : List Found) where
  -- what the cuts of the rest ask of all instructions: where one that nothing runs past ends, it does, and the next one starts there
  abbrev pub Knows : ℕ → List Instr → Type 0
  Knows at [] = Unit {0}
  Knows at (i ∷ []) = Unit {0}
  Knows at (i ∷ j ∷ is) = (starts_at all (at + size_of i) ≡ true) × ((is_end i ≡ true → stops_at all (at + size_of i) ≡ true) × Knows (at + size_of i) (j ∷ is))

  cuts_good : (before at : ℕ) (is : List Instr) → before ≤ at → Knows at is → bad_cut before all (cuts_from at is) ≡ []
  cuts_good before at [] low k = refl
  cuts_good before at (i ∷ []) low k = refl
  cuts_good before at (i ∷ j ∷ is) low k =
      let some = some_bytes i in
      by (is_end i) refl (cuts_good before (at + size_of i) (j ∷ is) (omega (arith, low, some)) k.1.1) (cuts_good (at + size_of i) (at + size_of i) (j ∷ is) (omega arith) k.1.1)
    where
      by : (e : Bool) → is_end i ≡ e → bad_cut before all (cuts_from (at + size_of i) (j ∷ is)) ≡ [] → bad_cut (at + size_of i) all (cuts_from (at + size_of i) (j ∷ is)) ≡ [] → bad_cut before all (if e then (at + size_of i) ∷ cuts_from (at + size_of i) (j ∷ is) else cuts_from (at + size_of i) (j ∷ is)) ≡ []
      by false e passed kept = passed
      by true e passed kept =
          let some = some_bytes i in
          let good : is_good_cut before all (at + size_of i) ≡ true =
          and_from (nat_lt before (at + size_of i)) (starts_at all (at + size_of i) && stops_at all (at + size_of i)) (lt-ltb before (at + size_of i) (omega (arith, low, some)))
          (and_from (starts_at all (at + size_of i)) (stops_at all (at + size_of i)) k.0 (k.1.0 e)) in
          let rest = bad_cut (at + size_of i) all (cuts_from (at + size_of i) (j ∷ is)) in
          ap (λ b. if b then rest else (at + size_of i) ∷ []) good ∙ kept

-- as all instructions from a place on do, with more in front
knows_more : (f : Found) (all : List Found) (at : ℕ) (is : List Instr) → Knows all at is → Knows (f ∷ all) at is
knows_more f all at [] k = tt
knows_more f all at (i ∷ []) k = tt
knows_more f all at (i ∷ j ∷ is) k = (
  second_holds (nat_eq f.at (at + size_of i)) (starts_at all (at + size_of i)) k.0,
  ((λ e. second_holds (nat_eq (end_of f) (at + size_of i) && is_end f.instr) (stops_at all (at + size_of i)) (k.1.0 e)), knows_more f all (at + size_of i) (j ∷ is) k.1.1),
)

knows_own : (at : ℕ) (is : List Instr) → Knows (found_from at is) at is
knows_own at [] = tt
knows_own at (i ∷ []) = tt
knows_own at (i ∷ j ∷ is) =
    let next = at + size_of i in
    let behind = found_from (next + size_of j) is in (
      second_holds (nat_eq at next) (nat_eq next next || starts_at behind next) (first_holds (nat_eq next next) (starts_at behind next) (eq-eqb next next refl)),
      (
        (λ e. first_holds (nat_eq next next && is_end i) (stops_at (found_from next (j ∷ is)) next) (and_from (nat_eq next next) (is_end i) (eq-eqb next next refl) e)),
        knows_more (record { at = at; instr = i }) (found_from next (j ∷ is)) next (j ∷ is) (knows_own next (j ∷ is)),
      ),
    )

-- the first ones of good cuts are good
first_good : (before : ℕ) (all : List Found) (cuts : List ℕ) (count : ℕ) → bad_cut before all cuts ≡ [] → bad_cut before all (take count cuts) ≡ []
first_good before all cuts zero h = refl
first_good before all [] (suc count) h = refl
first_good before all (c ∷ cuts) (suc count) h = by (is_good_cut before all c) (λ e. first_good c all cuts count e) h
  where
    by : (b : Bool) → (bad_cut c all cuts ≡ [] → bad_cut c all (take count cuts) ≡ []) → (if b then bad_cut c all cuts else c ∷ []) ≡ [] → (if b then bad_cut c all (take count cuts) else c ∷ []) ≡ []
    by true others e = others e
    by false others e = absurd cc

pub cuts_are_good : (is : List Instr) (count : ℕ) → bad_cut 0 (found is) (take count (cuts_from 0 is)) ≡ []
cuts_are_good is count = first_good 0 (found is) (cuts_from 0 is) count (cuts_good (found is) 0 0 is (omega arith) (knows_own 0 is))
