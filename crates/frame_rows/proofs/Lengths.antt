-- How many bytes and how many instructions rows have: no more than operations weigh.
use Rattle.std.proofs.Common.{◌≡◌, ℕ, ◌+◌, ◌≤◌, Bool, true, false, List, [], ◌∷◌, ◌++◌, length, refl, arith, length-append}
use Rattle.std.proofs.lemmas.Bool.{leb-true}
use Rattle.rd_num.specs.declared.width.Width.{Width}
use Rattle.rd_num.specs.declared.width.Width.TheVariants.{W1, W8, W16, W32, W64}
use Rattle.ir_core.specs.declared.instruction.Pred.{Pred}
use Rattle.x86_core.specs.declared.reg.Reg.{Reg}
use Rattle.x86_core.specs.declared.reg.Reg.TheVariants.{Rax, Rcx, Rdx}
use Rattle.x86_core.specs.declared.instr.Wide.{Wide}
use Rattle.x86_core.specs.declared.instr.AluOp.{AluOp}
use Rattle.x86_core.specs.declared.instr.WidenKind.{WidenKind}
use Rattle.x86_core.specs.declared.instr.Cond.{Cond}
use Rattle.x86_core.specs.declared.instr.Instr.{Instr}
use Rattle.x86_core.specs.declared.instr.Instr.TheVariants as instr
use Rattle.x86_core.specs.Encoding.{encoding}
use Rattle.low_core.specs.declared.sel.SelAlu.{SelAlu}
use Rattle.low_core.specs.declared.sel.SelAlu.TheVariants.{Add, Sub, Mul, And, Or, Xor, Shl, Shr, Sar}
use Rattle.low_core.specs.declared.sel.SelOp.{SelOp}
use Rattle.low_core.specs.declared.sel.SelOp.TheVariants.{Set, Copy, Alu, Div, Widen, Test, Pick, Load, Store, FrameAt, GlobalAt, FunctionAt, Call, CallAt, Outside}
use Rattle.low_core.specs.SelShaped.{IsWide}
use Rattle.low_core.specs.SelWeights.{alu_weight, sel_op_weight}
use Rattle.low_core.specs.Plan.{Plan}
use Rattle.frame_rows.specs.declared.spot.Spot.{Spot}
use Rattle.frame_rows.specs.declared.spot.Spot.TheVariants.{Own, Frame}
use Rattle.frame_rows.specs.Code.{home_read, home_write, cut, filled, alu_row, is_signed, condition, test_row, widen_row, access_size, at_rax, div_row, both, result_row, assigned_row, op_row}
use Rattle.frame_rows.specs.Sizes.{row_bytes, IsSized, IsNoCall}

-- a number that is told
told : (m n : ℕ) → m ≡ n → m ≤ n
told m n e = omega (arith, e)

-- a home takes at most eight bytes, and at least three
record Home (i : Instr) : Type 0 where
  least : 3 ≤ length (encoding i)
  most : length (encoding i) ≤ 8

read_bytes : (h : Spot) (t : Reg) → Home (home_read h t)
read_bytes (Own r) t = record { least = let e : length (encoding (home_read (Own r) t)) ≡ 3 = refl in omega (arith, e); most = let e : length (encoding (home_read (Own r) t)) ≡ 3 = refl in omega (arith, e) }
read_bytes (Frame k) t = record { least = let e : length (encoding (home_read (Frame k) t)) ≡ 8 = refl in omega (arith, e); most = let e : length (encoding (home_read (Frame k) t)) ≡ 8 = refl in omega (arith, e) }

write_bytes : (h : Spot) (t : Reg) → Home (home_write h t)
write_bytes (Own r) t = record { least = let e : length (encoding (home_write (Own r) t)) ≡ 3 = refl in omega (arith, e); most = let e : length (encoding (home_write (Own r) t)) ≡ 3 = refl in omega (arith, e) }
write_bytes (Frame k) t = record { least = let e : length (encoding (home_write (Frame k) t)) ≡ 8 = refl in omega (arith, e); most = let e : length (encoding (home_write (Frame k) t)) ≡ 8 = refl in omega (arith, e) }

-- what lies between operands and result
alu_bytes : (o : SelAlu) (w : Width) → row_bytes (alu_row o w) + 24 ≤ alu_weight o
alu_bytes Add W1 = leb-true _ _ refl
alu_bytes Add W8 = leb-true _ _ refl
alu_bytes Add W16 = leb-true _ _ refl
alu_bytes Add W32 = leb-true _ _ refl
alu_bytes Add W64 = leb-true _ _ refl
alu_bytes Sub W1 = leb-true _ _ refl
alu_bytes Sub W8 = leb-true _ _ refl
alu_bytes Sub W16 = leb-true _ _ refl
alu_bytes Sub W32 = leb-true _ _ refl
alu_bytes Sub W64 = leb-true _ _ refl
alu_bytes Mul W1 = leb-true _ _ refl
alu_bytes Mul W8 = leb-true _ _ refl
alu_bytes Mul W16 = leb-true _ _ refl
alu_bytes Mul W32 = leb-true _ _ refl
alu_bytes Mul W64 = leb-true _ _ refl
alu_bytes And W1 = leb-true _ _ refl
alu_bytes And W8 = leb-true _ _ refl
alu_bytes And W16 = leb-true _ _ refl
alu_bytes And W32 = leb-true _ _ refl
alu_bytes And W64 = leb-true _ _ refl
alu_bytes Or W1 = leb-true _ _ refl
alu_bytes Or W8 = leb-true _ _ refl
alu_bytes Or W16 = leb-true _ _ refl
alu_bytes Or W32 = leb-true _ _ refl
alu_bytes Or W64 = leb-true _ _ refl
alu_bytes Xor W1 = leb-true _ _ refl
alu_bytes Xor W8 = leb-true _ _ refl
alu_bytes Xor W16 = leb-true _ _ refl
alu_bytes Xor W32 = leb-true _ _ refl
alu_bytes Xor W64 = leb-true _ _ refl
alu_bytes Shl W1 = leb-true _ _ refl
alu_bytes Shl W8 = leb-true _ _ refl
alu_bytes Shl W16 = leb-true _ _ refl
alu_bytes Shl W32 = leb-true _ _ refl
alu_bytes Shl W64 = leb-true _ _ refl
alu_bytes Shr W1 = leb-true _ _ refl
alu_bytes Shr W8 = leb-true _ _ refl
alu_bytes Shr W16 = leb-true _ _ refl
alu_bytes Shr W32 = leb-true _ _ refl
alu_bytes Shr W64 = leb-true _ _ refl
alu_bytes Sar W1 = leb-true _ _ refl
alu_bytes Sar W8 = leb-true _ _ refl
alu_bytes Sar W16 = leb-true _ _ refl
alu_bytes Sar W32 = leb-true _ _ refl
alu_bytes Sar W64 = leb-true _ _ refl

div_bytes : (signed rest : Bool) (w : Width) → row_bytes (div_row signed rest w) + 24 ≤ 48
div_bytes true true W1 = leb-true _ _ refl
div_bytes true true W8 = leb-true _ _ refl
div_bytes true true W16 = leb-true _ _ refl
div_bytes true true W32 = leb-true _ _ refl
div_bytes true true W64 = leb-true _ _ refl
div_bytes true false W1 = leb-true _ _ refl
div_bytes true false W8 = leb-true _ _ refl
div_bytes true false W16 = leb-true _ _ refl
div_bytes true false W32 = leb-true _ _ refl
div_bytes true false W64 = leb-true _ _ refl
div_bytes false true W1 = leb-true _ _ refl
div_bytes false true W8 = leb-true _ _ refl
div_bytes false true W16 = leb-true _ _ refl
div_bytes false true W32 = leb-true _ _ refl
div_bytes false true W64 = leb-true _ _ refl
div_bytes false false W1 = leb-true _ _ refl
div_bytes false false W8 = leb-true _ _ refl
div_bytes false false W16 = leb-true _ _ refl
div_bytes false false W32 = leb-true _ _ refl
div_bytes false false W64 = leb-true _ _ refl

compare_bytes : (signed : Bool) (c : Cond) (w : Width) → IsWide w → row_bytes (filled signed w Rax ∷ filled signed w Rcx ∷ instr.Alu AluOp.Cmp Wide.W64 Rax Rcx ∷ instr.SetCond c Rax ∷ instr.Widen WidenKind.Zero8 Rax Rax ∷ []) ≤ 20
compare_bytes true c W1 wide = absurd wide
compare_bytes true c W8 wide = leb-true _ _ refl
compare_bytes true c W16 wide = leb-true _ _ refl
compare_bytes true c W32 wide = leb-true _ _ refl
compare_bytes true c W64 wide = leb-true _ _ refl
compare_bytes false c W1 wide = absurd wide
compare_bytes false c W8 wide = leb-true _ _ refl
compare_bytes false c W16 wide = leb-true _ _ refl
compare_bytes false c W32 wide = leb-true _ _ refl
compare_bytes false c W64 wide = leb-true _ _ refl

test_bytes : (p : Pred) (w : Width) → row_bytes (test_row p w) ≤ 20
test_bytes p W1 = leb-true _ _ refl
test_bytes p W8 = compare_bytes (is_signed p) (condition p) W8 tt
test_bytes p W16 = compare_bytes (is_signed p) (condition p) W16 tt
test_bytes p W32 = compare_bytes (is_signed p) (condition p) W32 tt
test_bytes p W64 = compare_bytes (is_signed p) (condition p) W64 tt

cut_bytes : (w : Width) → length (encoding (cut w Rax)) ≤ 6
cut_bytes W1 = leb-true _ _ refl
cut_bytes W8 = leb-true _ _ refl
cut_bytes W16 = leb-true _ _ refl
cut_bytes W32 = leb-true _ _ refl
cut_bytes W64 = leb-true _ _ refl

filled_bytes : (signed : Bool) (w : Width) → length (encoding (filled signed w Rax)) ≤ 6
filled_bytes true W1 = leb-true _ _ refl
filled_bytes true W8 = leb-true _ _ refl
filled_bytes true W16 = leb-true _ _ refl
filled_bytes true W32 = leb-true _ _ refl
filled_bytes true W64 = leb-true _ _ refl
filled_bytes false W1 = leb-true _ _ refl
filled_bytes false W8 = leb-true _ _ refl
filled_bytes false W16 = leb-true _ _ refl
filled_bytes false W32 = leb-true _ _ refl
filled_bytes false W64 = leb-true _ _ refl

load_bytes : (w : Width) → length (encoding (instr.Load (access_size w) Rax at_rax)) ≤ 7
load_bytes W1 = leb-true _ _ refl
load_bytes W8 = leb-true _ _ refl
load_bytes W16 = leb-true _ _ refl
load_bytes W32 = leb-true _ _ refl
load_bytes W64 = leb-true _ _ refl

store_bytes : (w : Width) → length (encoding (instr.Store (access_size w) at_rax Rcx)) ≤ 7
store_bytes W1 = leb-true _ _ refl
store_bytes W8 = leb-true _ _ refl
store_bytes W16 = leb-true _ _ refl
store_bytes W32 = leb-true _ _ refl
store_bytes W64 = leb-true _ _ refl

-- how many instructions lie between
alu_count : (o : SelAlu) (w : Width) → length (alu_row o w) ≤ 4
alu_count Add w = leb-true _ _ refl
alu_count Sub w = leb-true _ _ refl
alu_count Mul w = leb-true _ _ refl
alu_count And w = leb-true _ _ refl
alu_count Or w = leb-true _ _ refl
alu_count Xor w = leb-true _ _ refl
alu_count Shl w = leb-true _ _ refl
alu_count Shr w = leb-true _ _ refl
alu_count Sar w = leb-true _ _ refl

test_count : (p : Pred) (w : Width) → length (test_row p w) ≤ 6
test_count p W1 = leb-true _ _ refl
test_count p W8 = leb-true _ _ refl
test_count p W16 = leb-true _ _ refl
test_count p W32 = leb-true _ _ refl
test_count p W64 = leb-true _ _ refl

div_count : (signed rest : Bool) (w : Width) → length (div_row signed rest w) ≤ 5
div_count signed true W1 = leb-true _ _ refl
div_count signed true W8 = leb-true _ _ refl
div_count signed true W16 = leb-true _ _ refl
div_count signed true W32 = leb-true _ _ refl
div_count signed true W64 = leb-true _ _ refl
div_count signed false W1 = leb-true _ _ refl
div_count signed false W8 = leb-true _ _ refl
div_count signed false W16 = leb-true _ _ refl
div_count signed false W32 = leb-true _ _ refl
div_count signed false W64 = leb-true _ _ refl

pub row_bytes-append : (xs ys : List Instr) → row_bytes (xs ++ ys) ≡ row_bytes xs + row_bytes ys
row_bytes-append [] ys = omega arith
row_bytes-append (i ∷ xs) ys = let e = row_bytes-append xs ys in omega (arith, e)

module _ (homes : ℕ → Spot) (plan : Plan) (own : ℕ) where
  -- a row whose result goes to a home
  assigned_sized : (r : ℕ) (row : List Instr) (n b : ℕ) → length row ≤ n → row_bytes row + 8 ≤ b → IsSized (assigned_row homes r row) (n + 1) b
  assigned_sized r row n b count long =
      let w = write_bytes (homes r) Rax in
      let l = length-append row (home_write (homes r) Rax ∷ []) in
      let e : row_bytes (assigned_row homes r row) ≡ row_bytes row + (length (encoding (home_write (homes r) Rax)) + 0) = row_bytes-append row (home_write (homes r) Rax ∷ []) in
      let least = w.least in
      let most = w.most in
      record { some = omega (arith, l); count = omega (arith, l, count); long = omega (arith, e, most, long); some_bytes = omega (arith, e, least) }

  -- two operands first
  both_sized : (r x y : ℕ) (row : List Instr) (n b : ℕ) → length row ≤ n → row_bytes row + 24 ≤ b → IsSized (assigned_row homes r (both homes x y row)) (n + 3) b
  both_sized r x y row n b count long =
      let p = read_bytes (homes x) Rax in
      let q = read_bytes (homes y) Rcx in
      let lp = p.most in
      let lq = q.most in
      let e : row_bytes (both homes x y row) ≡ length (encoding (home_read (homes x) Rax)) + (length (encoding (home_read (homes y) Rcx)) + row_bytes row) = refl in
      wider (assigned_row homes r (both homes x y row)) (n + 2 + 1) (n + 3) b (omega arith) (assigned_sized r (both homes x y row) (n + 2) b (omega (arith, count)) (omega (arith, e, lp, lq, long)))
    where
      wider : (row : List Instr) (n m b : ℕ) → n ≤ m → IsSized row n b → IsSized row m b
      wider row n m b le x = let c = x.count in record { some = x.some; count = omega (arith, c, le); long = x.long; some_bytes = x.some_bytes }

  filled_sized : (signed : Bool) (from to : Width) (r x : ℕ) → IsSized (assigned_row homes r (home_read (homes x) Rax ∷ filled signed from Rax ∷ cut to Rax ∷ [])) 9 34
  filled_sized signed from to r x =
      let p = read_bytes (homes x) Rax in
      let q = cut_bytes to in
      let l = filled_bytes signed from in
      let lp = p.most in
      let row : List Instr = home_read (homes x) Rax ∷ filled signed from Rax ∷ cut to Rax ∷ [] in
      let e : row_bytes row ≡ length (encoding (home_read (homes x) Rax)) + (length (encoding (filled signed from Rax)) + (length (encoding (cut to Rax)) + 0)) = refl in
      assigned_sized r row 8 34 (leb-true _ _ refl) (omega (arith, e, lp, q, l))

  widen_sized : (signed : Bool) (from to : Width) (r x : ℕ) → IsSized (op_row homes plan own (Widen signed from to r x)) 9 34
  widen_sized true W1 to r x =
      let p = read_bytes (homes x) Rcx in
      let q = cut_bytes to in
      let lp = p.most in
      let e : row_bytes (widen_row (homes x) true W1 to) ≡ length (encoding (home_read (homes x) Rcx)) + (11 + (length (encoding (cut to Rax)) + 0)) = bit_row to in
      assigned_sized r (widen_row (homes x) true W1 to) 8 34 (leb-true _ _ refl) (omega (arith, e, lp, q))
    where
      bit_row : (to : Width) → row_bytes (widen_row (homes x) true W1 to) ≡ length (encoding (home_read (homes x) Rcx)) + (11 + (length (encoding (cut to Rax)) + 0))
      bit_row W1 = refl
      bit_row W8 = refl
      bit_row W16 = refl
      bit_row W32 = refl
      bit_row W64 = refl
  widen_sized true W8 to r x = filled_sized true W8 to r x
  widen_sized true W16 to r x = filled_sized true W16 to r x
  widen_sized true W32 to r x = filled_sized true W32 to r x
  widen_sized true W64 to r x = filled_sized true W64 to r x
  widen_sized false W1 to r x = filled_sized false W1 to r x
  widen_sized false W8 to r x = filled_sized false W8 to r x
  widen_sized false W16 to r x = filled_sized false W16 to r x
  widen_sized false W32 to r x = filled_sized false W32 to r x
  widen_sized false W64 to r x = filled_sized false W64 to r x

  pick_sized : (r c x y : ℕ) → IsSized (op_row homes plan own (Pick r c x y)) 9 44
  pick_sized r c x y =
      let p = read_bytes (homes c) Rdx in
      let q = read_bytes (homes x) Rax in
      let o = read_bytes (homes y) Rcx in
      let lp = p.most in
      let lq = q.most in
      let lo = o.most in
      let row = result_row homes plan own (Pick r c x y) in
      let e : row_bytes row ≡ length (encoding (home_read (homes c) Rdx)) + (length (encoding (home_read (homes x) Rax)) + (length (encoding (home_read (homes y) Rcx)) + 10)) = refl in
      assigned_sized r row 8 44 (leb-true _ _ refl) (omega (arith, e, lp, lq, lo))

  load_sized : (w : Width) (r x : ℕ) → IsSized (op_row homes plan own (Load w r x)) 9 24
  load_sized w r x =
      let p = read_bytes (homes x) Rax in
      let lp = p.most in
      let l = load_bytes w in
      let row = result_row homes plan own (Load w r x) in
      let e : row_bytes row ≡ length (encoding (home_read (homes x) Rax)) + (length (encoding (instr.Load (access_size w) Rax at_rax)) + 0) = refl in
      assigned_sized r row 8 24 (leb-true _ _ refl) (omega (arith, e, lp, l))

  store_sized : (w : Width) (x y : ℕ) → IsSized (op_row homes plan own (Store w x y)) 9 24
  store_sized w x y =
      let p = read_bytes (homes x) Rax in
      let q = read_bytes (homes y) Rcx in
      let lp = p.most in
      let lq = q.most in
      let ls = p.least in
      let l = store_bytes w in
      let e : row_bytes (op_row homes plan own (Store w x y)) ≡ length (encoding (home_read (homes x) Rax)) + (length (encoding (home_read (homes y) Rcx)) + (length (encoding (instr.Store (access_size w) at_rax Rcx)) + 0)) = refl in
      record { some = leb-true _ _ refl; count = leb-true _ _ refl; long = omega (arith, e, lp, lq, l); some_bytes = omega (arith, e, ls) }

  copy_sized : (r x : ℕ) → IsSized (op_row homes plan own (Copy r x)) 9 16
  copy_sized r x =
      let p = read_bytes (homes x) Rax in
      let lp = p.most in
      let e : row_bytes (home_read (homes x) Rax ∷ []) ≡ length (encoding (home_read (homes x) Rax)) + 0 = refl in
      assigned_sized r (home_read (homes x) Rax ∷ []) 8 16 (leb-true _ _ refl) (omega (arith, e, lp))

  -- every operation but calls
  pub op_sized : (op : SelOp) → IsNoCall op → IsSized (op_row homes plan own op) 9 (sel_op_weight op)
  op_sized (Set r n) h = assigned_sized r (result_row homes plan own (Set r n)) 8 18 (leb-true _ _ refl) (leb-true _ _ refl)
  op_sized (Copy r x) h = copy_sized r x
  op_sized (Alu o w r x y) h = both_sized r x y (alu_row o w) 6 (alu_weight o) (let c = alu_count o w in omega (arith, c)) (alu_bytes o w)
  op_sized (Div signed rest w r x y) h = both_sized r x y (div_row signed rest w) 6 48 (let c = div_count signed rest w in omega (arith, c)) (div_bytes signed rest w)
  op_sized (Widen signed from to r x) h = widen_sized signed from to r x
  op_sized (Test p w r x y) h = both_sized r x y (test_row p w) 6 44 (test_count p w) (let l = test_bytes p w in omega (arith, l))
  op_sized (Pick r c x y) h = pick_sized r c x y
  op_sized (Load w r x) h = load_sized w r x
  op_sized (Store w x y) h = store_sized w x y
  op_sized (FrameAt r at) h = assigned_sized r (result_row homes plan own (FrameAt r at)) 8 16 (leb-true _ _ refl) (leb-true _ _ refl)
  op_sized (GlobalAt r g) h = assigned_sized r (result_row homes plan own (GlobalAt r g)) 8 18 (leb-true _ _ refl) (leb-true _ _ refl)
  op_sized (FunctionAt r g) h = assigned_sized r (result_row homes plan own (FunctionAt r g)) 8 18 (leb-true _ _ refl) (leb-true _ _ refl)
  op_sized (Call g r args) h = absurd h
  op_sized (CallAt x r args) h = absurd h
  op_sized (Outside which r args) h = absurd h
