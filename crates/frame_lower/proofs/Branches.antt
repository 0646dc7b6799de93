-- Each branch of a function that isn't linked leads to an instruction of the function.
use Rattle.std.proofs.Common.{◌≡◌, ℕ, zero, suc, ◌+◌, ◌*◌, ◌<◌, ◌≤◌, ◌^◌, List, [], ◌∷◌, ◌++◌, length, drop, Option, Some, None, pos, refl, ap, sym, subst, ◌∙◌, arith}
use Rattle.std.specs.Prelude.{ℤ}
use Rattle.std.specs.List.{All, sum_by}
use Rattle.std.proofs.lemmas.List.Elements.{All-head, All-tail}
use Rattle.std.proofs.lemmas.List.Sums.{sum_by-cons}
use Rattle.x86_core.specs.declared.reg.Reg.{Reg}
use Rattle.x86_core.specs.declared.reg.Reg.TheVariants.{R11, R15, Rsp}
use Rattle.x86_core.specs.declared.instr.Wide.{Wide}
use Rattle.x86_core.specs.declared.instr.ImmOp.{ImmOp}
use Rattle.x86_core.specs.declared.instr.Instr.{Instr}
use Rattle.x86_core.specs.declared.instr.Instr.TheVariants as instr
use Rattle.x86_core.specs.Arithmetic.{moved}
use Rattle.low_core.specs.declared.sel.Which.TheVariants.{Putchar, Getchar, Exit, Memcpy, Memset, Trap}
use Rattle.low_core.specs.declared.sel.SelOp.{SelOp}
use Rattle.low_core.specs.declared.sel.SelOp.TheVariants.{Set, Copy, Alu, Div, Widen, Test, Pick, Load, Store, FrameAt, GlobalAt, FunctionAt, Call, CallAt, Outside}
use Rattle.low_core.specs.declared.sel.SelEnd.{SelEnd}
use Rattle.low_core.specs.declared.sel.SelEnd.TheVariants.{Go, If, Ret}
use Rattle.low_core.specs.declared.sel.SelEnd.TheVariants as end
use Rattle.low_core.specs.declared.sel.SelBlock.{SelBlock}
use Rattle.low_core.specs.declared.sel.SelFun.{SelFun}
use Rattle.low_core.specs.SelParts.{leads_to}
use Rattle.low_core.specs.SelWeights.{calls_at, sel_block_weight, sel_function_weight}
use Rattle.frame_rows.specs.declared.spot.Spot.{Spot}
use Rattle.frame_rows.specs.declared.spot.Spot.TheVariants.{Own, Frame}
use Rattle.frame_rows.specs.Code.{home_read, home_write, op_row}
use Rattle.obj_core.specs.Saved.{saved_register}
use Rattle.obj_core.specs.Disassembly.{size_of}
use Rattle.obj_core.specs.WellFormed.{displacement}
use Rattle.obj_rows.specs.Marked.{Marked, unlinked, linked, all_unlinked, row_size, Stands, LeadsInside}
use Rattle.obj_rows.proofs.Rows.{all_unlinked-append, stands_whole, stands_first, stands_behind}
use Rattle.frame_lower.specs.Calls.{argument_registers, into_registers, into_words, pass_row, take_row, call_row, from_registers, from_words, receive_row}
use Rattle.frame_lower.specs.Frames.{kept_bytes}
use Rattle.frame_lower.specs.Rows.{Making, between, marked_op, count_row, push_row, pop_row, leave_row, closing_row, branch_row, end_row}
use Rattle.frame_lower.specs.Blocks.{calls_in, ops_row, block_row, block_bytes, blocks_row, starts_from, start_in}
use Rattle.frame_lower.specs.Functions.{front_row, function_row}
use Rattle.frame_lower.proofs.Displacements.{leads}
use Rattle.frame_lower.proofs.Functions.{starts_below}
use Rattle.frame_lower.proofs.Sizes.{unlinked_size, ops_light, closing_few, block_same, block_light, front_light}
use Rattle.frame_lower.proofs.Tame.{AreCalm, AreWords, calm_straight, op_calm}

-- where something stands an instruction stands
pub some_stands : (row : List Marked) (off : ℕ) (xs ys : List Marked) (y : Marked) → Stands row off (xs ++ y ∷ ys) → (z : Marked) × Stands row off (z ∷ [])
some_stands row off [] ys y s = (y, stands_first row off (y ∷ []) ys s)
some_stands row off (x ∷ xs) ys y s = (x, stands_first row off (x ∷ []) (xs ++ y ∷ ys) s)

module _ (row : List Marked) where
  -- a branch that isn't linked leads to an instruction
  abbrev pub Lead : ℕ → Marked → Type 0
  Lead at x = x.slot ≡ None → (by : ℤ) → displacement x.instr ≡ Some by → (y : Marked) × Stands row (moved (at + size_of x.instr) by) (y ∷ [])

  abbrev pub AllLead : ℕ → List Marked → Type 0
  AllLead at [] = Unit {0}
  AllLead at (x ∷ xs) = Lead at x × AllLead (at + size_of x.instr) xs

  pub lead_append : (at : ℕ) (xs ys : List Marked) → AllLead at xs → AllLead (at + row_size xs) ys → AllLead at (xs ++ ys)
  lead_append at [] ys hx hy = let e : at + 0 ≡ at = omega arith in subst (λ n. AllLead n ys) e hy
  lead_append at (x ∷ xs) ys hx hy =
      let e : at + (size_of x.instr + row_size xs) ≡ at + size_of x.instr + row_size xs = omega arith in
      (hx.0, lead_append (at + size_of x.instr) xs ys hx.1 (subst (λ n. AllLead n ys) e hy))

  -- what doesn't branch
  abbrev AreStraight : List Instr → Type 0
  AreStraight [] = Unit {0}
  AreStraight (i ∷ is) = (displacement i ≡ None) × AreStraight is

  none_lead : (at : ℕ) (i : Instr) → displacement i ≡ None → Lead at (unlinked i)
  none_lead at i none slot by is = let both : None ≡ Some by = sym none ∙ is in absurd cc

  straight_lead : (at : ℕ) (is : List Instr) → AreStraight is → AllLead at (all_unlinked is)
  straight_lead at [] h = tt
  straight_lead at (i ∷ is) h = (none_lead at i h.0, straight_lead (at + size_of i) is h.1)

  straight-append : (xs ys : List Instr) → AreStraight xs → AreStraight ys → AreStraight (xs ++ ys)
  straight-append [] ys hx hy = hy
  straight-append (i ∷ xs) ys hx hy = (hx.0, straight-append xs ys hx.1 hy)

  linked_lead : (at k : ℕ) (i : Instr) → Lead at (linked i k)
  linked_lead at k i none by is = absurd cc

  pub lead_at : (at : ℕ) (before : List Marked) (x : Marked) (behind : List Marked) → AllLead at (before ++ x ∷ behind) → Lead (at + row_size before) x
  lead_at at [] x behind all = let e : at ≡ at + 0 = omega arith in subst (λ n. Lead n x) e all.0
  lead_at at (y ∷ before) x behind all =
      let e : at + size_of y.instr + row_size before ≡ at + (size_of y.instr + row_size before) = omega arith in
      subst (λ n. Lead n x) e (lead_at (at + size_of y.instr) before x behind all.1)

pub leads_inside : (row : List Marked) → AllLead row 0 row → LeadsInside row
leads_inside row all off x by s none is =
    let there : off ≡ 0 + row_size s.before = (let e = s.offset in omega (arith, e)) in
    let here : Lead row (0 + row_size s.before) x = lead_at row 0 s.before x s.behind (subst (AllLead row 0) s.split all) in
    let r = here none by is in
    (r.0, subst (λ n. Stands row (moved (n + size_of x.instr) by) (r.0 ∷ [])) (sym there) r.1)

calm_rows : (row : List Marked) (is : List Instr) → AreCalm is → AreStraight row is
calm_rows row [] h = tt
calm_rows row (i ∷ is) h = (calm_straight i h.0, calm_rows row is h.1)

module _ (row : List Marked) (by : Making) (words : AreWords by.homes) where
  read_straight : (h : Spot) (t : Reg) → displacement (home_read h t) ≡ None
  read_straight (Own r) t = refl
  read_straight (Frame k) t = refl

  write_straight : (h : Spot) (t : Reg) → displacement (home_write h t) ≡ None
  write_straight (Own r) t = refl
  write_straight (Frame k) t = refl

  registers_straight : (ts : List Reg) (args : List ℕ) → AreStraight row (into_registers by.homes ts args)
  registers_straight [] args = tt
  registers_straight (t ∷ ts) [] = tt
  registers_straight (t ∷ ts) (a ∷ as') = (read_straight (by.homes a) t, registers_straight ts as')

  words_straight : (k : ℕ) (args : List ℕ) → AreStraight row (into_words by.homes k args)
  words_straight k [] = tt
  words_straight k (a ∷ as') = (read_straight (by.homes a) _, (refl, words_straight (k + 1) as'))

  pass_straight : (args : List ℕ) → AreStraight row (pass_row by.homes args)
  pass_straight args = straight-append row (into_words by.homes 0 (drop 6 args)) (into_registers by.homes argument_registers args) (words_straight 0 (drop 6 args)) (registers_straight argument_registers args)

  take_straight : (into : Option ℕ) → AreStraight row (take_row by.homes into)
  take_straight None = tt
  take_straight (Some r) = (write_straight (by.homes r) _, tt)

  call_lead : (at : ℕ) (wanted : List Instr) (slot : ℕ) (into : Option ℕ) (args : List ℕ) → AreStraight row wanted → AllLead row at (call_row by.homes wanted slot into args)
  call_lead at wanted slot into args want =
      let front = pass_row by.homes args ++ wanted in
      lead_append row at (all_unlinked front) (linked (instr.Jmp (pos 0)) slot ∷ all_unlinked (take_row by.homes into))
      (straight_lead row at front (straight-append row (pass_row by.homes args) wanted (pass_straight args) want))
      (linked_lead row (at + row_size (all_unlinked front)) slot (instr.Jmp (pos 0)), straight_lead row _ (take_row by.homes into) (take_straight into))

  plain_lead : (at : ℕ) (op : SelOp) → AllLead row at (all_unlinked (op_row by.homes by.plan (8 * by.words) op))
  plain_lead at op = straight_lead row at (op_row by.homes by.plan (8 * by.words) op) (calm_rows row (op_row by.homes by.plan (8 * by.words) op) (op_calm by.homes words by.plan (8 * by.words) op))

  op_lead : (at slot : ℕ) (op : SelOp) → AllLead row at (marked_op by slot op)
  op_lead at slot (Set r n) = plain_lead at (Set r n)
  op_lead at slot (Copy r s) = plain_lead at (Copy r s)
  op_lead at slot (Alu o w r s t) = plain_lead at (Alu o w r s t)
  op_lead at slot (Div signed rest w r s t) = plain_lead at (Div signed rest w r s t)
  op_lead at slot (Widen signed from to r s) = plain_lead at (Widen signed from to r s)
  op_lead at slot (Test p w r s t) = plain_lead at (Test p w r s t)
  op_lead at slot (Pick r c s t) = plain_lead at (Pick r c s t)
  op_lead at slot (Load w r s) = plain_lead at (Load w r s)
  op_lead at slot (Store w s t) = plain_lead at (Store w s t)
  op_lead at slot (FrameAt r n) = plain_lead at (FrameAt r n)
  op_lead at slot (GlobalAt r g) = plain_lead at (GlobalAt r g)
  op_lead at slot (FunctionAt r g) = plain_lead at (FunctionAt r g)
  op_lead at slot (Call g r args) = call_lead at [] slot r args tt
  op_lead at slot (CallAt s r args) = call_lead at (home_read (by.homes s) R11 ∷ []) slot r args (read_straight (by.homes s) R11, tt)
  op_lead at slot (Outside Trap r args) = (none_lead row at instr.Ud2 refl, tt)
  op_lead at slot (Outside Putchar r args) = call_lead at [] slot r args tt
  op_lead at slot (Outside Getchar r args) = call_lead at [] slot r args tt
  op_lead at slot (Outside Exit r args) = call_lead at [] slot r args tt
  op_lead at slot (Outside Memcpy r args) = call_lead at [] slot r args tt
  op_lead at slot (Outside Memset r args) = call_lead at [] slot r args tt

  ops_lead : (at slot : ℕ) (ops : List SelOp) → AllLead row at (ops_row by slot ops)
  ops_lead at slot [] = tt
  ops_lead at slot (op ∷ ops) = lead_append row at (marked_op by slot op) (ops_row by (slot + calls_at op) ops) (op_lead at slot op) (ops_lead (at + row_size (marked_op by slot op)) (slot + calls_at op) ops)

  pops_straight : (order : List ℕ) → AreStraight row (pop_row order)
  pops_straight [] = tt
  pops_straight (place ∷ order) = straight-append row (pop_row order) (instr.Pop (saved_register place) ∷ []) (pops_straight order) (refl, tt)

  leave_straight : AreStraight row (leave_row by)
  leave_straight = (refl, straight-append row (pop_row by.order) (instr.AluImm ImmOp.Add Wide.W64 R15 (pos 1) ∷ instr.Ret ∷ []) (pops_straight by.order) (refl, (refl, tt)))

  closing_straight : (e : SelEnd) → AreStraight row (closing_row by e)
  closing_straight (Go b) = tt
  closing_straight (If c b d) = (read_straight (by.homes c) _, (refl, tt))
  closing_straight (Ret (Some r)) = (read_straight (by.homes r) _, leave_straight)
  closing_straight (Ret None) = leave_straight
  closing_straight end.Trap = (refl, tt)

  -- blocks to which there are branches begin with an instruction
  module _ (starts : ℕ → ℕ) (count : ℕ) (below : (n : ℕ) → starts n < 2 ^ 30) (there : (n : ℕ) → n < count → (y : Marked) × Stands row (starts n) (y ∷ [])) where
    goes : (from b : ℕ) → from < 2 ^ 31 → b < count → (d : ℤ) → Some (between from (starts b)) ≡ Some d → (y : Marked) × Stands row (moved from d) (y ∷ [])
    goes from b low inside d is =
        let l = below b in
        let same : between from (starts b) ≡ d = cc in
        let to : moved from d ≡ starts b = ap (moved from) (sym same) ∙ leads from (starts b) low (omega (arith, l)) in
        let r = there b inside in
        (r.0, subst (λ n. Stands row n (r.0 ∷ [])) (sym to) r.1)

    branch_lead : (at : ℕ) → at < 2 ^ 30 → (e : SelEnd) → All (λ n. n < count) (leads_to e) → AllLead row at (all_unlinked (branch_row starts at e))
    branch_lead at low (Go b) inside = ((λ none d is. goes (at + 5) b (omega (arith, low)) (All-head (λ n. n < count) b [] inside) d is), tt)
    branch_lead at low (If c b d) inside =
        let e : at + 6 + 5 ≡ at + 11 = omega arith in (
          (λ none k is. goes (at + 6) b (omega (arith, low)) (All-head (λ n. n < count) b (d ∷ []) inside) k is),
          ((λ none k is. subst (λ n. (y : Marked) × Stands row (moved n k) (y ∷ [])) (sym e) (goes (at + 11) d (omega (arith, low)) (All-head (λ n. n < count) d [] (All-tail (λ n. n < count) b (d ∷ []) inside)) k is)), tt),
        )
    branch_lead at low (Ret r) inside = tt
    branch_lead at low end.Trap inside = tt

    block_lead : length by.order ≤ 5 → (at slot : ℕ) (b : SelBlock) → at + sel_block_weight b < 2 ^ 30 → All (λ n. n < count) (leads_to b.end) → AllLead row at (block_row by starts at slot b)
    block_lead five at slot b low inside =
        let ops = ops_row by slot b.ops in
        let off : ℕ = at + row_size ops in
        let closing = all_unlinked (closing_row by b.end) in
        let o = ops_light by slot b.ops in
        let c = closing_few by five b.end in
        let u = unlinked_size (closing_row by b.end) in
        lead_append row at ops (end_row by starts off b.end) (ops_lead at slot b.ops)
        (lead_append row off closing (all_unlinked (branch_row starts (off + row_size closing) b.end)) (straight_lead row off (closing_row by b.end) (closing_straight b.end))
        (branch_lead (off + row_size closing) (omega (arith, low, o, c, u)) b.end inside))

    blocks_lead : length by.order ≤ 5 → (at slot : ℕ) (bs : List SelBlock) → at + sum_by sel_block_weight bs < 2 ^ 30 → All (λ (b : SelBlock). All (λ n. n < count) (leads_to b.end)) bs → AllLead row at (blocks_row by starts at slot bs)
    blocks_lead five at slot [] low inside = tt
    blocks_lead five at slot (b ∷ bs) low inside =
        let w = sum_by-cons sel_block_weight b bs in
        let l = block_light by five b in
        let s = block_same by starts at slot b in
        lead_append row at (block_row by starts at slot b) (blocks_row by starts (at + block_bytes by b) (slot + calls_in b.ops) bs)
        (block_lead five at slot b (omega (arith, low, w)) (All-head (λ (c : SelBlock). All (λ n. n < count) (leads_to c.end)) b bs inside))
        (subst (λ n. AllLead row (at + n) (blocks_row by starts (at + block_bytes by b) (slot + calls_in b.ops) bs)) (sym s)
        (blocks_lead five (at + block_bytes by b) (slot + calls_in b.ops) bs (omega (arith, low, w, l)) (All-tail (λ (c : SelBlock). All (λ n. n < count) (leads_to c.end)) b bs inside)))

  -- an end has an instruction
  end_some : (starts : ℕ → ℕ) (at : ℕ) (e : SelEnd) → (x : Marked) × (xs : List Marked) × (end_row by starts at e ≡ x ∷ xs)
  end_some starts at (Go b) = (_, _, refl)
  end_some starts at (If c b d) = (_, _, refl)
  end_some starts at (Ret (Some r)) = (_, _, refl)
  end_some starts at (Ret None) = (_, _, refl)
  end_some starts at end.Trap = (_, _, refl)

  -- blocks begin where they should
  pub block_begins : (starts : ℕ → ℕ) (at slot : ℕ) (bs : List SelBlock) → Stands row at (blocks_row by starts at slot bs) → (n : ℕ) → n < length bs → (y : Marked) × Stands row (start_in (starts_from by at bs) n) (y ∷ [])
  block_begins starts at slot [] s n inside = absurd (omega (arith, inside))
  block_begins starts at slot (b ∷ bs) s zero inside =
      let ops = ops_row by slot b.ops in
      let off : ℕ = at + row_size ops in
      let e = end_some starts off b.end in
      let here : Stands row at (ops ++ end_row by starts off b.end) = stands_first row at (block_row by starts at slot b) (blocks_row by starts (at + block_bytes by b) (slot + calls_in b.ops) bs) s in
      some_stands row at ops e.1 e.0 (subst (λ xs. Stands row at (ops ++ xs)) e.2 here)
  block_begins starts at slot (b ∷ bs) s (suc n) inside =
      let rest = blocks_row by starts (at + block_bytes by b) (slot + calls_in b.ops) bs in
      let next : Stands row (at + row_size (block_row by starts at slot b)) rest = stands_behind row at (block_row by starts at slot b) rest s in
      block_begins starts (at + block_bytes by b) (slot + calls_in b.ops) bs (subst (λ k. Stands row (at + k) rest) (block_same by starts at slot b) next) n (omega (arith, inside))

  -- in front of them nothing branches but past the stop where no call is left
  pub front_lead : (f : SelFun) → ((y : Marked) × Stands row 14 (y ∷ [])) → AllLead row 0 (front_row by f)
  front_lead f past = (
    none_lead row 0 (instr.AluImm ImmOp.Sub Wide.W64 R15 (pos 1)) refl,
    ((λ none d is. over d is), (none_lead row 13 instr.Int3 refl, straight_lead row 14 rest rest_straight)),
  )
    where
      receive : List Instr
      receive = receive_row by.homes by.room f.params

      rest : List Instr
      rest = push_row by.order ++ (instr.AluImm ImmOp.Sub Wide.W64 Rsp (pos by.room) ∷ receive)

      over : (d : ℤ) → Some (pos 1) ≡ Some d → (y : Marked) × Stands row (moved 13 d) (y ∷ [])
      over d is = let same : pos 1 ≡ d = cc in subst (λ z. (y : Marked) × Stands row (moved 13 z) (y ∷ [])) same past

      stores : (ts : List Reg) (params : List ℕ) → AreStraight row (from_registers by.homes ts params)
      stores [] params = tt
      stores (t ∷ ts) [] = tt
      stores (t ∷ ts) (p ∷ ps) = (write_straight (by.homes p) t, stores ts ps)

      fetches : (at : ℕ) (params : List ℕ) → AreStraight row (from_words by.homes at params)
      fetches at [] = tt
      fetches at (p ∷ ps) = (refl, (write_straight (by.homes p) _, fetches (at + 8) ps))

      pushes : (order : List ℕ) → AreStraight row (push_row order)
      pushes [] = tt
      pushes (place ∷ order) = (refl, pushes order)

      rest_straight : AreStraight row rest
      rest_straight =
          straight-append row (push_row by.order) (instr.AluImm ImmOp.Sub Wide.W64 Rsp (pos by.room) ∷ receive) (pushes by.order)
          (refl, straight-append row (from_registers by.homes argument_registers f.params) (from_words by.homes (by.room + kept_bytes) (drop 6 f.params)) (stores argument_registers f.params) (fetches (by.room + kept_bytes) (drop 6 f.params)))

-- a whole function
pub function_leads : (by : Making) (slot : ℕ) (f : SelFun) → AreWords by.homes → length by.order ≤ 5 → length f.params ≤ 32 → sel_function_weight f < 2 ^ 30 →
    All (λ (b : SelBlock). All (λ n. n < length f.blocks) (leads_to b.end)) f.blocks → LeadsInside (function_row by slot f)
function_leads by slot f words five few light inside =
    let row = function_row by slot f in
    let front = front_row by f in
    let starts = start_in (starts_from by (row_size front) f.blocks) in
    let blocks = blocks_row by starts (row_size front) slot f.blocks in
    let long = front_light by five f few in
    let stack = instr.AluImm ImmOp.Sub Wide.W64 Rsp (pos by.room) in
    let receive = receive_row by.homes by.room f.params in
    let behind : Stands row (0 + row_size front) blocks = stands_behind row 0 front blocks (stands_whole row) in
    let there = block_begins row by words starts (row_size front) slot f.blocks (subst (λ n. Stands row n blocks) (let e : 0 + row_size front ≡ row_size front = omega arith in e) behind) in
    let first = stands_behind row 0 (all_unlinked count_row) (all_unlinked (push_row by.order ++ (stack ∷ receive))) (stands_first row 0 front blocks (stands_whole row)) in
    let past = some_stands row 14 (all_unlinked (push_row by.order)) (all_unlinked receive) (unlinked stack) (subst (Stands row 14) (all_unlinked-append (push_row by.order) (stack ∷ receive)) first) in
    leads_inside row (lead_append row 0 front blocks (front_lead row by words f past)
    (subst (λ n. AllLead row n blocks) (let e : row_size front ≡ 0 + row_size front = omega arith in e)
    (blocks_lead row by words starts (length f.blocks) (starts_below by (2 ^ 30) (row_size front) f.blocks five (omega arith) (omega (arith, light, long))) there five (row_size front) slot f.blocks (omega (arith, light, long)) inside)))
