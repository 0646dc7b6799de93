-- Constants and displacements of rows are in range.
use Rattle.std.proofs.Common.{◌≡◌, ℕ, zero, suc, ◌*◌, ◌<◌, ◌^◌, Bool, true, false, List, [], ◌∷◌, ◌++◌, get_or, Some, refl, arith}
use Rattle.std.specs.Prelude.{slice_get}
use Rattle.rd_num.specs.declared.width.Width.{Width}
use Rattle.rd_num.specs.declared.width.Width.TheVariants.{W1, W8, W16, W32, W64}
use Rattle.ir_core.specs.declared.instruction.Pred.{Pred}
use Rattle.x86_core.specs.declared.reg.Reg.{Reg}
use Rattle.x86_core.specs.declared.reg.Reg.TheVariants.{Rax, Rcx, Rdx}
use Rattle.x86_core.specs.declared.instr.HighSize.{HighSize}
use Rattle.x86_core.specs.declared.instr.Instr.{Instr}
use Rattle.x86_core.specs.Encoding.{IsInstr}
use Rattle.low_core.specs.declared.sel.SelAlu.{SelAlu}
use Rattle.low_core.specs.declared.sel.SelAlu.TheVariants.{Add, Sub, Mul, And, Or, Xor, Shl, Shr, Sar}
use Rattle.low_core.specs.declared.sel.SelOp.{SelOp}
use Rattle.low_core.specs.declared.sel.SelOp.TheVariants.{Set, Copy, Alu, Div, Widen, Test, Pick, Load, Store, FrameAt, GlobalAt, FunctionAt, Call, CallAt, Outside}
use Rattle.low_core.specs.Plan.{Plan}
use Rattle.frame_rows.specs.declared.spot.Spot.{Spot}
use Rattle.frame_rows.specs.declared.spot.Spot.TheVariants.{Own, Frame}
use Rattle.frame_rows.specs.Code.{home_read, home_write, cut, sign_filled, filled, multiply, amount, alu_row, is_signed, test_row, widen_row, high_half, div_row, both, result_row, assigned_row, op_row}
use Rattle.frame_rows.specs.Ties.{IsHome}
use Rattle.frame_rows.specs.Sizes.{AreInstrs}
use Rattle.frame_rows.specs.Steps.{IsReady}

pub instrs-append : (xs ys : List Instr) → AreInstrs xs → AreInstrs ys → AreInstrs (xs ++ ys)
instrs-append [] ys hx hy = hy
instrs-append (i ∷ xs) ys hx hy = (hx.0, instrs-append xs ys hx.1 hy)

cut_instr : (w : Width) (t : Reg) → IsInstr (cut w t)
cut_instr W1 t = omega arith
cut_instr W8 t = tt
cut_instr W16 t = tt
cut_instr W32 t = tt
cut_instr W64 t = tt

sign_instr : (w : Width) (t : Reg) → IsInstr (sign_filled w t)
sign_instr W1 t = tt
sign_instr W8 t = tt
sign_instr W16 t = tt
sign_instr W32 t = tt
sign_instr W64 t = tt

filled_instr : (signed : Bool) (w : Width) (t : Reg) → IsInstr (filled signed w t)
filled_instr true w t = sign_instr w t
filled_instr false w t = cut_instr w t

multiply_instr : (w : Width) → IsInstr (multiply w)
multiply_instr W1 = tt
multiply_instr W8 = tt
multiply_instr W16 = tt
multiply_instr W32 = tt
multiply_instr W64 = tt

amount_instr : (w : Width) → IsInstr (amount w)
amount_instr W1 = omega arith
amount_instr W8 = omega arith
amount_instr W16 = omega arith
amount_instr W32 = omega arith
amount_instr W64 = omega arith

alu_instrs : (o : SelAlu) (w : Width) → AreInstrs (alu_row o w)
alu_instrs Add w = (tt, (cut_instr w Rax, tt))
alu_instrs Sub w = (tt, (cut_instr w Rax, tt))
alu_instrs Mul w = (multiply_instr w, (cut_instr w Rax, tt))
alu_instrs And w = (tt, (cut_instr w Rax, tt))
alu_instrs Or w = (tt, (cut_instr w Rax, tt))
alu_instrs Xor w = (tt, (cut_instr w Rax, tt))
alu_instrs Shl w = (amount_instr w, (tt, (cut_instr w Rax, tt)))
alu_instrs Shr w = (amount_instr w, (cut_instr w Rax, (tt, tt)))
alu_instrs Sar w = (amount_instr w, (sign_instr w Rax, (tt, (cut_instr w Rax, tt))))

test_instrs : (p : Pred) (w : Width) → AreInstrs (test_row p w)
test_instrs p W1 = (omega arith, (tt, (tt, (tt, (tt, (tt, tt))))))
test_instrs p W8 = (filled_instr (is_signed p) W8 Rax, (filled_instr (is_signed p) W8 Rcx, (tt, (tt, (tt, tt)))))
test_instrs p W16 = (filled_instr (is_signed p) W16 Rax, (filled_instr (is_signed p) W16 Rcx, (tt, (tt, (tt, tt)))))
test_instrs p W32 = (filled_instr (is_signed p) W32 Rax, (filled_instr (is_signed p) W32 Rcx, (tt, (tt, (tt, tt)))))
test_instrs p W64 = (filled_instr (is_signed p) W64 Rax, (filled_instr (is_signed p) W64 Rcx, (tt, (tt, (tt, tt)))))

high_instr : (signed : Bool) (size : HighSize) → IsInstr (high_half signed size)
high_instr true size = tt
high_instr false size = omega arith

div_instrs : (signed rest : Bool) (w : Width) → AreInstrs (div_row signed rest w)
div_instrs signed true W1 = (filled_instr signed W8 Rax, (tt, (omega arith, (tt, (cut_instr W8 Rax, tt)))))
div_instrs signed false W1 = (filled_instr signed W8 Rax, (tt, (cut_instr W8 Rax, tt)))
div_instrs signed true W8 = (filled_instr signed W8 Rax, (tt, (omega arith, (tt, (cut_instr W8 Rax, tt)))))
div_instrs signed false W8 = (filled_instr signed W8 Rax, (tt, (cut_instr W8 Rax, tt)))
div_instrs signed rest W16 = (high_instr signed HighSize.W16, (tt, (tt, (cut_instr W16 Rax, tt))))
div_instrs signed rest W32 = (high_instr signed HighSize.W32, (tt, (tt, (cut_instr W32 Rax, tt))))
div_instrs signed rest W64 = (high_instr signed HighSize.W64, (tt, (tt, (cut_instr W64 Rax, tt))))

module _ (homes : ℕ → Spot) (plan : Plan) (base words own : ℕ) (spots : (x : ℕ) → IsHome words (homes x)) (near : 8 * words < 2 ^ 31) where
  read_instr : (x : ℕ) (t : Reg) → IsInstr (home_read (homes x) t)
  read_instr x t = by_spot (homes x) (spots x)
    where
      by_spot : (h : Spot) → IsHome words h → IsInstr (home_read h t)
      by_spot (Own r) is = tt
      by_spot (Frame k) is = omega (arith, is, near)

  write_instr : (x : ℕ) (t : Reg) → IsInstr (home_write (homes x) t)
  write_instr x t = by_spot (homes x) (spots x)
    where
      by_spot : (h : Spot) → IsHome words h → IsInstr (home_write h t)
      by_spot (Own r) is = tt
      by_spot (Frame k) is = omega (arith, is, near)

  assigned_instrs : (r : ℕ) (row : List Instr) → AreInstrs row → AreInstrs (assigned_row homes r row)
  assigned_instrs r row h = instrs-append row (home_write (homes r) Rax ∷ []) h (write_instr r Rax, tt)

  both_instrs : (x y : ℕ) (row : List Instr) → AreInstrs row → AreInstrs (both homes x y row)
  both_instrs x y row h = (read_instr x Rax, (read_instr y Rcx, h))

  -- an entry of a list of addresses, or 0
  entry_small : (xs : List ℕ) (k : ℕ) → ((n : ℕ) → slice_get xs k ≡ Some n → n < 2 ^ 64) → get_or xs k 0 < 2 ^ 64
  entry_small [] k h = omega arith
  entry_small (x ∷ xs) zero h = h x refl
  entry_small (x ∷ xs) (suc k) h = entry_small xs k h

  widen_instrs : (signed : Bool) (from to : Width) (x : ℕ) → AreInstrs (widen_row (homes x) signed from to)
  widen_instrs true W1 to x = (read_instr x Rcx, (omega arith, (tt, (tt, (cut_instr to Rax, tt)))))
  widen_instrs false W1 to x = (read_instr x Rax, (cut_instr W1 Rax, (cut_instr to Rax, tt)))
  widen_instrs true W8 to x = (read_instr x Rax, (filled_instr true W8 Rax, (cut_instr to Rax, tt)))
  widen_instrs true W16 to x = (read_instr x Rax, (filled_instr true W16 Rax, (cut_instr to Rax, tt)))
  widen_instrs true W32 to x = (read_instr x Rax, (filled_instr true W32 Rax, (cut_instr to Rax, tt)))
  widen_instrs true W64 to x = (read_instr x Rax, (filled_instr true W64 Rax, (cut_instr to Rax, tt)))
  widen_instrs false W8 to x = (read_instr x Rax, (filled_instr false W8 Rax, (cut_instr to Rax, tt)))
  widen_instrs false W16 to x = (read_instr x Rax, (filled_instr false W16 Rax, (cut_instr to Rax, tt)))
  widen_instrs false W32 to x = (read_instr x Rax, (filled_instr false W32 Rax, (cut_instr to Rax, tt)))
  widen_instrs false W64 to x = (read_instr x Rax, (filled_instr false W64 Rax, (cut_instr to Rax, tt)))

  -- every operation but calls
  pub op_instrs : (op : SelOp) → IsReady plan base own op → AreInstrs (op_row homes plan own op)
  op_instrs (Set r n) h = assigned_instrs r (result_row homes plan own (Set r n)) (h, tt)
  op_instrs (Copy r x) h = assigned_instrs r (result_row homes plan own (Copy r x)) (read_instr x Rax, tt)
  op_instrs (Alu o w r x y) h = assigned_instrs r (both homes x y (alu_row o w)) (both_instrs x y (alu_row o w) (alu_instrs o w))
  op_instrs (Div signed rest w r x y) h = assigned_instrs r (both homes x y (div_row signed rest w)) (both_instrs x y (div_row signed rest w) (div_instrs signed rest w))
  op_instrs (Widen signed from to r x) h = assigned_instrs r (widen_row (homes x) signed from to) (widen_instrs signed from to x)
  op_instrs (Test p w r x y) h = assigned_instrs r (both homes x y (test_row p w)) (both_instrs x y (test_row p w) (test_instrs p w))
  op_instrs (Pick r c x y) h = assigned_instrs r (result_row homes plan own (Pick r c x y)) (read_instr c Rdx, (read_instr x Rax, (read_instr y Rcx, (omega arith, (tt, tt)))))
  op_instrs (Load w r x) h = assigned_instrs r (result_row homes plan own (Load w r x)) (read_instr x Rax, (omega arith, tt))
  op_instrs (Store w x y) h = (read_instr x Rax, (read_instr y Rcx, (omega arith, tt)))
  op_instrs (FrameAt r at) h = assigned_instrs r (result_row homes plan own (FrameAt r at)) (h.0, tt)
  op_instrs (GlobalAt r g) h = assigned_instrs r (result_row homes plan own (GlobalAt r g)) (entry_small plan.globals g h, tt)
  op_instrs (FunctionAt r g) h = assigned_instrs r (result_row homes plan own (FunctionAt r g)) (entry_small plan.functions g h, tt)
  op_instrs (Call g r args) h = absurd h
  op_instrs (CallAt x r args) h = absurd h
  op_instrs (Outside which r args) h = absurd h
