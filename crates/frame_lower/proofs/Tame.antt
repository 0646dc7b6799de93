-- Rows do nothing that is a slot's own, and name none of the five saved registers where all homes are words of the frame.
use Rattle.std.proofs.Common.{◌≡◌, ℕ, Bool, true, false, not, ◌&&◌, if◌then◌else◌, List, [], ◌∷◌, ◌++◌, Option, Some, None, is_none, refl, sym, subst}
use Rattle.std.specs.Prelude.{ℤ}
use Rattle.std.proofs.lemmas.Bool.{and_parts}
use Rattle.rd_num.specs.declared.width.Width.{Width}
use Rattle.rd_num.specs.declared.width.Width.TheVariants.{W1, W8, W16, W32, W64}
use Rattle.ir_core.specs.declared.instruction.Pred.{Pred}
use Rattle.x86_core.specs.declared.reg.Reg.{Reg}
use Rattle.x86_core.specs.declared.reg.Reg.TheVariants.{Rax, Rcx, Rdx, Rbx, Rbp, R12, R13, R14}
use Rattle.x86_core.specs.declared.instr.HighSize.{HighSize}
use Rattle.x86_core.specs.declared.instr.Wide.{Wide}
use Rattle.x86_core.specs.declared.instr.Instr.{Instr}
use Rattle.x86_core.specs.declared.instr.Instr.TheVariants as instr
use Rattle.low_core.specs.declared.sel.SelAlu.{SelAlu}
use Rattle.low_core.specs.declared.sel.SelAlu.TheVariants.{Add, Sub, Mul, And, Or, Xor, Shl, Shr, Sar}
use Rattle.low_core.specs.declared.sel.SelOp.{SelOp}
use Rattle.low_core.specs.declared.sel.SelOp.TheVariants.{Set, Copy, Alu, Div, Widen, Test, Pick, Load, Store, FrameAt, GlobalAt, FunctionAt, Call, CallAt, Outside}
use Rattle.low_core.specs.Plan.{Plan}
use Rattle.frame_rows.specs.declared.spot.Spot.{Spot}
use Rattle.frame_rows.specs.declared.spot.Spot.TheVariants.{Frame}
use Rattle.frame_rows.specs.Code.{home_read, home_write, cut, sign_filled, filled, multiply, alu_row, is_signed, test_row, widen_row, high_half, div_row, both, result_row, assigned_row, op_row}
use Rattle.obj_core.specs.Saved.{is_push_or_pop, is_among, registers_of}
use Rattle.obj_core.specs.WellFormed.{displacement, is_slots_own}

-- a register isn't named, but where it is pushed or popped
abbrev pub avoids : Reg → Instr → Bool
avoids r i = if is_push_or_pop i then true else not (is_among r (registers_of i))

-- an instruction that is no slot's own, and avoids the five
abbrev pub tame : Instr → Bool
tame i = not (is_slots_own i) && (avoids Rbx i && (avoids Rbp i && (avoids R12 i && (avoids R13 i && avoids R14 i))))

-- each of a row
abbrev pub AreTame : List Instr → Type 0
AreTame [] = Unit {0}
AreTame (i ∷ row) = (tame i ≡ true) × AreTame row

-- one that doesn't branch, too
abbrev pub calm : Instr → Bool
calm i = tame i && is_none (displacement i)

abbrev pub AreCalm : List Instr → Type 0
AreCalm [] = Unit {0}
AreCalm (i ∷ row) = (calm i ≡ true) × AreCalm row

pub calm_tame : (is : List Instr) → AreCalm is → AreTame is
calm_tame [] h = tt
calm_tame (i ∷ is) h = ((and_parts (tame i) (is_none (displacement i)) h.0).0, calm_tame is h.1)

pub calm_straight : (i : Instr) → calm i ≡ true → displacement i ≡ None
calm_straight i h = by (displacement i) (and_parts (tame i) (is_none (displacement i)) h).1
  where
    by : (d : Option ℤ) → is_none d ≡ true → d ≡ None
    by None e = refl
    by (Some n) e = absurd cc

-- all homes are words of the frame
abbrev pub AreWords : (ℕ → Spot) → Type 0
AreWords homes = (x : ℕ) → (k : ℕ) × (homes x ≡ Frame k)

pub calm-append : (xs ys : List Instr) → AreCalm xs → AreCalm ys → AreCalm (xs ++ ys)
calm-append [] ys hx hy = hy
calm-append (i ∷ xs) ys hx hy = (hx.0, calm-append xs ys hx.1 hy)

cut_calm : (w : Width) → calm (cut w Rax) ≡ true
cut_calm W1 = refl
cut_calm W8 = refl
cut_calm W16 = refl
cut_calm W32 = refl
cut_calm W64 = refl

sign_calm : (w : Width) → calm (sign_filled w Rax) ≡ true
sign_calm W1 = refl
sign_calm W8 = refl
sign_calm W16 = refl
sign_calm W32 = refl
sign_calm W64 = refl

filled_calm : (signed : Bool) (w : Width) → calm (filled signed w Rax) ≡ true
filled_calm true w = sign_calm w
filled_calm false w = cut_calm w

second_calm : (signed : Bool) (w : Width) → calm (filled signed w Rcx) ≡ true
second_calm true W1 = refl
second_calm true W8 = refl
second_calm true W16 = refl
second_calm true W32 = refl
second_calm true W64 = refl
second_calm false W1 = refl
second_calm false W8 = refl
second_calm false W16 = refl
second_calm false W32 = refl
second_calm false W64 = refl

multiply_calm : (w : Width) → calm (multiply w) ≡ true
multiply_calm W1 = refl
multiply_calm W8 = refl
multiply_calm W16 = refl
multiply_calm W32 = refl
multiply_calm W64 = refl

alu_calm : (o : SelAlu) (w : Width) → AreCalm (alu_row o w)
alu_calm Add w = (refl, (cut_calm w, tt))
alu_calm Sub w = (refl, (cut_calm w, tt))
alu_calm Mul w = (multiply_calm w, (cut_calm w, tt))
alu_calm And w = (refl, (cut_calm w, tt))
alu_calm Or w = (refl, (cut_calm w, tt))
alu_calm Xor w = (refl, (cut_calm w, tt))
alu_calm Shl w = (refl, (refl, (cut_calm w, tt)))
alu_calm Shr w = (refl, (cut_calm w, (refl, tt)))
alu_calm Sar w = (refl, (sign_calm w, (refl, (cut_calm w, tt))))

test_calm : (p : Pred) (w : Width) → AreCalm (test_row p w)
test_calm p W1 = (refl, (refl, (refl, (refl, (refl, (refl, tt))))))
test_calm p W8 = (filled_calm (is_signed p) W8, (second_calm (is_signed p) W8, (refl, (refl, (refl, tt)))))
test_calm p W16 = (filled_calm (is_signed p) W16, (second_calm (is_signed p) W16, (refl, (refl, (refl, tt)))))
test_calm p W32 = (filled_calm (is_signed p) W32, (second_calm (is_signed p) W32, (refl, (refl, (refl, tt)))))
test_calm p W64 = (filled_calm (is_signed p) W64, (second_calm (is_signed p) W64, (refl, (refl, (refl, tt)))))

high_calm : (signed : Bool) (size : HighSize) → calm (high_half signed size) ≡ true
high_calm true size = refl
high_calm false size = refl

taken_calm : (rest : Bool) → calm (instr.Mov Wide.W64 Rax (if rest then Rdx else Rax)) ≡ true
taken_calm true = refl
taken_calm false = refl

div_calm : (signed rest : Bool) (w : Width) → AreCalm (div_row signed rest w)
div_calm signed true W1 = (filled_calm signed W8, (refl, (refl, (refl, (cut_calm W8, tt)))))
div_calm signed false W1 = (filled_calm signed W8, (refl, (cut_calm W8, tt)))
div_calm signed true W8 = (filled_calm signed W8, (refl, (refl, (refl, (cut_calm W8, tt)))))
div_calm signed false W8 = (filled_calm signed W8, (refl, (cut_calm W8, tt)))
div_calm signed rest W16 = (high_calm signed HighSize.W16, (refl, (taken_calm rest, (cut_calm W16, tt))))
div_calm signed rest W32 = (high_calm signed HighSize.W32, (refl, (taken_calm rest, (cut_calm W32, tt))))
div_calm signed rest W64 = (high_calm signed HighSize.W64, (refl, (taken_calm rest, (cut_calm W64, tt))))

module _ (homes : ℕ → Spot) (words : AreWords homes) where
  -- a load from a home, and a store into one, by a register for which both are calm
  pub read_calm : (x : ℕ) (t : Reg) → ((k : ℕ) → calm (home_read (Frame k) t) ≡ true) → calm (home_read (homes x) t) ≡ true
  read_calm x t each = subst (λ h. calm (home_read h t) ≡ true) (sym (words x).1) (each (words x).0)

  pub write_calm : (x : ℕ) (t : Reg) → ((k : ℕ) → calm (home_write (Frame k) t) ≡ true) → calm (home_write (homes x) t) ≡ true
  write_calm x t each = subst (λ h. calm (home_write h t) ≡ true) (sym (words x).1) (each (words x).0)

  assigned_calm : (r : ℕ) (row : List Instr) → AreCalm row → AreCalm (assigned_row homes r row)
  assigned_calm r row h = calm-append row (home_write (homes r) Rax ∷ []) h (write_calm r Rax (λ k. refl), tt)

  both_calm : (x y : ℕ) (row : List Instr) → AreCalm row → AreCalm (both homes x y row)
  both_calm x y row h = (read_calm x Rax (λ k. refl), (read_calm y Rcx (λ k. refl), h))

  widen_calm : (signed : Bool) (from to : Width) (x : ℕ) → AreCalm (widen_row (homes x) signed from to)
  widen_calm true W1 to x = (read_calm x Rcx (λ k. refl), (refl, (refl, (refl, (cut_calm to, tt)))))
  widen_calm false W1 to x = (read_calm x Rax (λ k. refl), (cut_calm W1, (cut_calm to, tt)))
  widen_calm true W8 to x = (read_calm x Rax (λ k. refl), (sign_calm W8, (cut_calm to, tt)))
  widen_calm true W16 to x = (read_calm x Rax (λ k. refl), (sign_calm W16, (cut_calm to, tt)))
  widen_calm true W32 to x = (read_calm x Rax (λ k. refl), (sign_calm W32, (cut_calm to, tt)))
  widen_calm true W64 to x = (read_calm x Rax (λ k. refl), (sign_calm W64, (cut_calm to, tt)))
  widen_calm false W8 to x = (read_calm x Rax (λ k. refl), (cut_calm W8, (cut_calm to, tt)))
  widen_calm false W16 to x = (read_calm x Rax (λ k. refl), (cut_calm W16, (cut_calm to, tt)))
  widen_calm false W32 to x = (read_calm x Rax (λ k. refl), (cut_calm W32, (cut_calm to, tt)))
  widen_calm false W64 to x = (read_calm x Rax (λ k. refl), (cut_calm W64, (cut_calm to, tt)))

  module _ (plan : Plan) (own : ℕ) where
    -- every operation; a call has no row here
    pub op_calm : (op : SelOp) → AreCalm (op_row homes plan own op)
    op_calm (Set r n) = assigned_calm r (result_row homes plan own (Set r n)) (refl, tt)
    op_calm (Copy r x) = assigned_calm r (result_row homes plan own (Copy r x)) (read_calm x Rax (λ k. refl), tt)
    op_calm (Alu o w r x y) = assigned_calm r (both homes x y (alu_row o w)) (both_calm x y (alu_row o w) (alu_calm o w))
    op_calm (Div signed rest w r x y) = assigned_calm r (both homes x y (div_row signed rest w)) (both_calm x y (div_row signed rest w) (div_calm signed rest w))
    op_calm (Widen signed from to r x) = assigned_calm r (widen_row (homes x) signed from to) (widen_calm signed from to x)
    op_calm (Test p w r x y) = assigned_calm r (both homes x y (test_row p w)) (both_calm x y (test_row p w) (test_calm p w))
    op_calm (Pick r c x y) = assigned_calm r (result_row homes plan own (Pick r c x y)) (read_calm c Rdx (λ k. refl), (read_calm x Rax (λ k. refl), (read_calm y Rcx (λ k. refl), (refl, (refl, tt)))))
    op_calm (Load w r x) = assigned_calm r (result_row homes plan own (Load w r x)) (read_calm x Rax (λ k. refl), (refl, tt))
    op_calm (Store w x y) = (read_calm x Rax (λ k. refl), (read_calm y Rcx (λ k. refl), (refl, tt)))
    op_calm (FrameAt r at) = assigned_calm r (result_row homes plan own (FrameAt r at)) (refl, tt)
    op_calm (GlobalAt r g) = assigned_calm r (result_row homes plan own (GlobalAt r g)) (refl, tt)
    op_calm (FunctionAt r g) = assigned_calm r (result_row homes plan own (FunctionAt r g)) (refl, tt)
    op_calm (Call g r args) = tt
    op_calm (CallAt x r args) = tt
    op_calm (Outside which r args) = tt

pub tame-append : (xs ys : List Instr) → AreTame xs → AreTame ys → AreTame (xs ++ ys)
tame-append [] ys hx hy = hy
tame-append (i ∷ xs) ys hx hy = (hx.0, tame-append xs ys hx.1 hy)

module _ (homes : ℕ → Spot) (words : AreWords homes) where
  pub read_tame : (x : ℕ) (t : Reg) → ((k : ℕ) → tame (home_read (Frame k) t) ≡ true) → tame (home_read (homes x) t) ≡ true
  read_tame x t each = subst (λ h. tame (home_read h t) ≡ true) (sym (words x).1) (each (words x).0)

  pub write_tame : (x : ℕ) (t : Reg) → ((k : ℕ) → tame (home_write (Frame k) t) ≡ true) → tame (home_write (homes x) t) ≡ true
  write_tame x t each = subst (λ h. tame (home_write h t) ≡ true) (sym (words x).1) (each (words x).0)

  pub op_tame : (plan : Plan) (own : ℕ) (op : SelOp) → AreTame (op_row homes plan own op)
  op_tame plan own op = calm_tame (op_row homes plan own op) (op_calm homes words plan own op)
