-- An instruction with the parts of a guard's is that instruction.
use Rattle.std.proofs.Common.{◌≡◌, ℕ, zero, suc, ◌*◌, ◌≤◌, inl, inr, Bool, true, false, ◌&&◌, if◌then◌else◌, List, [], ◌∷◌, refl, sym, ◌∙◌, ap, subst, arith}
use Rattle.std.specs.Prelude.{nat_eq, nat_le, ℤ, pos}
use Rattle.std.specs.Ordering.{int_eq}
use Rattle.std.proofs.lemmas.Bool.{eqb-true, eq-eqb, leb-true, le-leb, or_cases, or_right, and_parts}
use Rattle.std.proofs.lemmas.Bool.Decides.{Decides-int_eq}
use Rattle.x86_core.specs.declared.reg.Reg.{Reg}
use Rattle.x86_core.specs.declared.reg.Reg.TheVariants.{Rax, Rcx, Rdx, Rbx, Rsp, Rbp, Rsi, Rdi, R8, R9, R10, R11, R12, R13, R14, R15}
use Rattle.x86_core.specs.declared.instr.Wide.{Wide}
use Rattle.x86_core.specs.declared.instr.ImmOp.{ImmOp}
use Rattle.x86_core.specs.declared.instr.Cond.{Cond}
use Rattle.x86_core.specs.declared.instr.Instr.{Instr}
use Rattle.x86_core.specs.declared.instr.Instr.TheVariants.{Mov, AluImm, Jcc, Ud2, MovImm64, MovImm32, Alu, Imul, Shift, Div, High, Widen, Load, Store, Lea, Push, Pop, SetCond, Cmov, Jmp, Call, Ret, CallR11, JmpR11, Syscall, Int3, Nop}
use Rattle.x86_core.specs.Encoding.{encoding, IsInstr}
use Rattle.x86_core.proofs.Laws.{encodings_differ}
use Rattle.obj_core.specs.Slots.{slot_base}
use Rattle.obj_core.specs.Object.{Each}
use Rattle.obj_core.specs.Saved.{same_bytes}
use Rattle.guard_check.specs.Guard.{guard, is_same}
use Rattle.guard_check.specs.Checking.{nth_of}
use Rattle.guard_check.specs.Steps.{is_whole, is_r10, is_r11, is_sub, is_cmp, is_and, is_below, is_equal, is_operation, is_branch, is_step}
use Rattle.guard_check.proofs.Rows.{same_numbers}
use Rattle.guard_check.proofs.Places.{each_guard}
use Rattle.guard_check.proofs.Counted.{same_bool, and_both}

abbrev nth : ℕ → ℕ → Instr
nth slots n = nth_of Ud2 (guard slots) n

whole_is : (w : Wide) → is_whole w ≡ true → w ≡ Wide.W64
whole_is Wide.W32 h = absurd (cc)
whole_is Wide.W64 h = refl

r10_is : (x : Reg) → is_r10 x ≡ true → x ≡ R10
r10_is Rax h = absurd (cc)
r10_is Rcx h = absurd (cc)
r10_is Rdx h = absurd (cc)
r10_is Rbx h = absurd (cc)
r10_is Rsp h = absurd (cc)
r10_is Rbp h = absurd (cc)
r10_is Rsi h = absurd (cc)
r10_is Rdi h = absurd (cc)
r10_is R8 h = absurd (cc)
r10_is R9 h = absurd (cc)
r10_is R10 h = refl
r10_is R11 h = absurd (cc)
r10_is R12 h = absurd (cc)
r10_is R13 h = absurd (cc)
r10_is R14 h = absurd (cc)
r10_is R15 h = absurd (cc)

r11_is : (x : Reg) → is_r11 x ≡ true → x ≡ R11
r11_is Rax h = absurd (cc)
r11_is Rcx h = absurd (cc)
r11_is Rdx h = absurd (cc)
r11_is Rbx h = absurd (cc)
r11_is Rsp h = absurd (cc)
r11_is Rbp h = absurd (cc)
r11_is Rsi h = absurd (cc)
r11_is Rdi h = absurd (cc)
r11_is R8 h = absurd (cc)
r11_is R9 h = absurd (cc)
r11_is R10 h = absurd (cc)
r11_is R11 h = refl
r11_is R12 h = absurd (cc)
r11_is R13 h = absurd (cc)
r11_is R14 h = absurd (cc)
r11_is R15 h = absurd (cc)

sub_is : (x : ImmOp) → is_sub x ≡ true → x ≡ ImmOp.Sub
sub_is ImmOp.Add h = absurd (cc)
sub_is ImmOp.Or h = absurd (cc)
sub_is ImmOp.And h = absurd (cc)
sub_is ImmOp.Sub h = refl
sub_is ImmOp.Xor h = absurd (cc)
sub_is ImmOp.Cmp h = absurd (cc)

cmp_is : (x : ImmOp) → is_cmp x ≡ true → x ≡ ImmOp.Cmp
cmp_is ImmOp.Add h = absurd (cc)
cmp_is ImmOp.Or h = absurd (cc)
cmp_is ImmOp.And h = absurd (cc)
cmp_is ImmOp.Sub h = absurd (cc)
cmp_is ImmOp.Xor h = absurd (cc)
cmp_is ImmOp.Cmp h = refl

and_is : (x : ImmOp) → is_and x ≡ true → x ≡ ImmOp.And
and_is ImmOp.Add h = absurd (cc)
and_is ImmOp.Or h = absurd (cc)
and_is ImmOp.And h = refl
and_is ImmOp.Sub h = absurd (cc)
and_is ImmOp.Xor h = absurd (cc)
and_is ImmOp.Cmp h = absurd (cc)

below_is : (x : Cond) → is_below x ≡ true → x ≡ Cond.B
below_is Cond.O h = absurd (cc)
below_is Cond.No h = absurd (cc)
below_is Cond.B h = refl
below_is Cond.Ae h = absurd (cc)
below_is Cond.E h = absurd (cc)
below_is Cond.Ne h = absurd (cc)
below_is Cond.Be h = absurd (cc)
below_is Cond.A h = absurd (cc)
below_is Cond.S h = absurd (cc)
below_is Cond.Ns h = absurd (cc)
below_is Cond.L h = absurd (cc)
below_is Cond.Ge h = absurd (cc)
below_is Cond.Le h = absurd (cc)
below_is Cond.G h = absurd (cc)

equal_is : (x : Cond) → is_equal x ≡ true → x ≡ Cond.E
equal_is Cond.O h = absurd (cc)
equal_is Cond.No h = absurd (cc)
equal_is Cond.B h = absurd (cc)
equal_is Cond.Ae h = absurd (cc)
equal_is Cond.E h = refl
equal_is Cond.Ne h = absurd (cc)
equal_is Cond.Be h = absurd (cc)
equal_is Cond.A h = absurd (cc)
equal_is Cond.S h = absurd (cc)
equal_is Cond.Ns h = absurd (cc)
equal_is Cond.L h = absurd (cc)
equal_is Cond.Ge h = absurd (cc)
equal_is Cond.Le h = absurd (cc)
equal_is Cond.G h = absurd (cc)

module _ (slots n : ℕ) (o : ImmOp) (k : ℤ) where
  abbrev Is : Type 0
  Is = AluImm o Wide.W64 R10 k ≡ nth slots n

  made : (m : ℕ) → n ≡ m → AluImm o Wide.W64 R10 k ≡ nth slots m → Is
  made m e h = h ∙ ap (λ x. nth slots x) (sym e)

  same : (p : ImmOp) (j : ℤ) → o ≡ p → k ≡ j → AluImm o Wide.W64 R10 k ≡ AluImm p Wide.W64 R10 j
  same p j e f = ap (λ x. AluImm x Wide.W64 R10 k) e ∙ ap (λ x. AluImm p Wide.W64 R10 x) f

  at_7 : (t : Bool) → nat_eq n 7 ≡ t → (if t then is_cmp o && int_eq k (pos 5) else false) ≡ true → Is
  at_7 true e h =
      let both = and_parts (is_cmp o) (int_eq k (pos 5)) h in
      made 7 (eqb-true n 7 e) (same ImmOp.Cmp (pos 5) (cmp_is o both.0) ((Decides-int_eq k (pos 5)).0 both.1))
  at_7 false e h = absurd (cc)

  at_5 : (t : Bool) → nat_eq n 5 ≡ t → (if t then is_and o && int_eq k (pos 15) else (if nat_eq n 7 then is_cmp o && int_eq k (pos 5) else false)) ≡ true → Is
  at_5 true e h =
      let both = and_parts (is_and o) (int_eq k (pos 15)) h in
      made 5 (eqb-true n 5 e) (same ImmOp.And (pos 15) (and_is o both.0) ((Decides-int_eq k (pos 15)).0 both.1))
  at_5 false e h = at_7 (nat_eq n 7) refl h

  at_2 : (t : Bool) → nat_eq n 2 ≡ t → (if t then is_cmp o && int_eq k (pos (16 * slots)) else (if nat_eq n 5 then is_and o && int_eq k (pos 15) else (if nat_eq n 7 then is_cmp o && int_eq k (pos 5) else false))) ≡ true → Is
  at_2 true e h =
      let both = and_parts (is_cmp o) (int_eq k (pos (16 * slots))) h in
      made 2 (eqb-true n 2 e) (same ImmOp.Cmp (pos (16 * slots)) (cmp_is o both.0) ((Decides-int_eq k (pos (16 * slots))).0 both.1))
  at_2 false e h = at_5 (nat_eq n 5) refl h

  at_1 : (t : Bool) → nat_eq n 1 ≡ t → (if t then is_sub o && int_eq k (pos slot_base) else (if nat_eq n 2 then is_cmp o && int_eq k (pos (16 * slots)) else (if nat_eq n 5 then is_and o && int_eq k (pos 15) else (if nat_eq n 7 then is_cmp o && int_eq k (pos 5) else false)))) ≡ true → Is
  at_1 true e h =
      let both = and_parts (is_sub o) (int_eq k (pos slot_base)) h in
      made 1 (eqb-true n 1 e) (same ImmOp.Sub (pos slot_base) (sub_is o both.0) ((Decides-int_eq k (pos slot_base)).0 both.1))
  at_1 false e h = at_2 (nat_eq n 2) refl h

  operation_is : is_operation slots n o k ≡ true → Is
  operation_is h = at_1 (nat_eq n 1) refl h

module _ (slots n : ℕ) (o : Cond) (k : ℤ) where
  abbrev IsJump : Type 0
  IsJump = Jcc o k ≡ nth slots n

  jump_made : (m : ℕ) → n ≡ m → Jcc o k ≡ nth slots m → IsJump
  jump_made m e h = h ∙ ap (λ x. nth slots x) (sym e)

  jump_same : (p : Cond) (j : ℤ) → o ≡ p → k ≡ j → Jcc o k ≡ Jcc p j
  jump_same p j e f = ap (λ x. Jcc x k) e ∙ ap (λ x. Jcc p x) f

  at_8 : (t : Bool) → nat_eq n 8 ≡ t → (if t then is_equal o && int_eq k (pos 2) else false) ≡ true → IsJump
  at_8 true e h =
      let both = and_parts (is_equal o) (int_eq k (pos 2)) h in
      jump_made 8 (eqb-true n 8 e) (jump_same Cond.E (pos 2) (equal_is o both.0) ((Decides-int_eq k (pos 2)).0 both.1))
  at_8 false e h = absurd (cc)

  at_6 : (t : Bool) → nat_eq n 6 ≡ t → (if t then is_equal o && int_eq k (pos 15) else (if nat_eq n 8 then is_equal o && int_eq k (pos 2) else false)) ≡ true → IsJump
  at_6 true e h =
      let both = and_parts (is_equal o) (int_eq k (pos 15)) h in
      jump_made 6 (eqb-true n 6 e) (jump_same Cond.E (pos 15) (equal_is o both.0) ((Decides-int_eq k (pos 15)).0 both.1))
  at_6 false e h = at_8 (nat_eq n 8) refl h

  at_3 : (t : Bool) → nat_eq n 3 ≡ t → (if t then is_below o && int_eq k (pos 2) else (if nat_eq n 6 then is_equal o && int_eq k (pos 15) else (if nat_eq n 8 then is_equal o && int_eq k (pos 2) else false))) ≡ true → IsJump
  at_3 true e h =
      let both = and_parts (is_below o) (int_eq k (pos 2)) h in
      jump_made 3 (eqb-true n 3 e) (jump_same Cond.B (pos 2) (below_is o both.0) ((Decides-int_eq k (pos 2)).0 both.1))
  at_3 false e h = at_6 (nat_eq n 6) refl h

  branch_is : is_branch n o k ≡ true → IsJump
  branch_is h = at_3 (nat_eq n 3) refl h

-- behind the ninth instruction the last one stands
last_is : (slots n : ℕ) → 9 ≤ n → Ud2 ≡ nth slots n
last_is slots zero h = absurd (omega (arith, h))
last_is slots (suc zero) h = absurd (omega (arith, h))
last_is slots (suc (suc zero)) h = absurd (omega (arith, h))
last_is slots (suc (suc (suc zero))) h = absurd (omega (arith, h))
last_is slots (suc (suc (suc (suc zero)))) h = absurd (omega (arith, h))
last_is slots (suc (suc (suc (suc (suc zero))))) h = absurd (omega (arith, h))
last_is slots (suc (suc (suc (suc (suc (suc zero)))))) h = absurd (omega (arith, h))
last_is slots (suc (suc (suc (suc (suc (suc (suc zero))))))) h = absurd (omega (arith, h))
last_is slots (suc (suc (suc (suc (suc (suc (suc (suc zero)))))))) h = absurd (omega (arith, h))
last_is slots (suc (suc (suc (suc (suc (suc (suc (suc (suc zero))))))))) h = refl
last_is slots (suc (suc (suc (suc (suc (suc (suc (suc (suc (suc n)))))))))) h = refl

step_is : (slots n : ℕ) (i : Instr) → is_step slots n i ≡ true → i ≡ nth slots n
step_is slots n (Mov w d s) h =
    let number = and_parts (nat_eq n 0) (is_whole w && (is_r10 d && is_r11 s)) h in
    let wide = and_parts (is_whole w) (is_r10 d && is_r11 s) number.1 in
    let regs = and_parts (is_r10 d) (is_r11 s) wide.1 in
    let none : n ≡ 0 = eqb-true n 0 number.0 in
    ap (λ x. Mov x d s) (whole_is w wide.0) ∙ ap (λ x. Mov Wide.W64 x s) (r10_is d regs.0) ∙
    ap (λ x. Mov Wide.W64 R10 x) (r11_is s regs.1) ∙ ap (λ x. nth slots x) (sym none)
step_is slots n (AluImm op w r k) h =
    let wide = and_parts (is_whole w) (is_r10 r && is_operation slots n op k) h in
    let reg = and_parts (is_r10 r) (is_operation slots n op k) wide.1 in
    ap (λ x. AluImm op x r k) (whole_is w wide.0) ∙ ap (λ x. AluImm op Wide.W64 x k) (r10_is r reg.0) ∙ operation_is slots n op k reg.1
step_is slots n (Jcc c by) h = branch_is slots n c by h
step_is slots n Ud2 h =
    elim (or_cases (nat_eq n 4) (nat_le 9 n) h) [
      | inl e ↦ ap (λ x. nth slots x) (sym (eqb-true n 4 e))
      | inr e ↦ last_is slots n (leb-true 9 n e)
    ]
step_is slots n (MovImm64 r v) h = absurd (cc)
step_is slots n (MovImm32 r v) h = absurd (cc)
step_is slots n (Alu o w d s) h = absurd (cc)
step_is slots n (Imul w d s) h = absurd (cc)
step_is slots n (Shift o w d) h = absurd (cc)
step_is slots n (Div b s r) h = absurd (cc)
step_is slots n (High s) h = absurd (cc)
step_is slots n (Widen k d s) h = absurd (cc)
step_is slots n (Load s r m) h = absurd (cc)
step_is slots n (Store s m r) h = absurd (cc)
step_is slots n (Lea r m) h = absurd (cc)
step_is slots n (Push r) h = absurd (cc)
step_is slots n (Pop r) h = absurd (cc)
step_is slots n (SetCond c r) h = absurd (cc)
step_is slots n (Cmov c d s) h = absurd (cc)
step_is slots n (Jmp by) h = absurd (cc)
step_is slots n (Call by) h = absurd (cc)
step_is slots n Ret h = absurd (cc)
step_is slots n CallR11 h = absurd (cc)
step_is slots n JmpR11 h = absurd (cc)
step_is slots n Syscall h = absurd (cc)
step_is slots n Int3 h = absurd (cc)
step_is slots n Nop h = absurd (cc)

is_itself : (k : ℤ) → int_eq k k ≡ true
is_itself k = (Decides-int_eq k k).1 refl

-- each instruction of a guard has its own parts
has_parts : (slots n : ℕ) → is_step slots n (nth slots n) ≡ true
has_parts slots zero = refl
has_parts slots (suc zero) = refl
has_parts slots (suc (suc zero)) = is_itself (pos (16 * slots))
has_parts slots (suc (suc (suc zero))) = refl
has_parts slots (suc (suc (suc (suc zero)))) = refl
has_parts slots (suc (suc (suc (suc (suc zero))))) = refl
has_parts slots (suc (suc (suc (suc (suc (suc zero)))))) = refl
has_parts slots (suc (suc (suc (suc (suc (suc (suc zero))))))) = refl
has_parts slots (suc (suc (suc (suc (suc (suc (suc (suc zero)))))))) = refl
has_parts slots (suc (suc (suc (suc (suc (suc (suc (suc (suc zero))))))))) = refl
has_parts slots (suc (suc (suc (suc (suc (suc (suc (suc (suc (suc n)))))))))) = or_right (nat_eq (suc (suc (suc (suc (suc (suc (suc (suc (suc (suc n)))))))))) 4) (nat_le 9 (suc (suc (suc (suc (suc (suc (suc (suc (suc (suc n))))))))))) (le-leb 9 (suc (suc (suc (suc (suc (suc (suc (suc (suc (suc n)))))))))) (omega arith))

nth_is_instr : (is : List Instr) (n : ℕ) → Each IsInstr is → IsInstr (nth_of Ud2 is n)
nth_is_instr [] n h = tt
nth_is_instr (i ∷ is) zero h = h.0
nth_is_instr (i ∷ is) (suc n) h = nth_is_instr is n h.1

-- the parts tell the same as the bytes
pub parts_tell : (slots n : ℕ) (i : Instr) → slots ≤ 1048576 → IsInstr i → is_step slots n i ≡ is_same (nth slots n) i
parts_tell slots n i few is_instr =
    same_bool _ _
    (λ h. same_as (encoding (nth slots n)) (encoding i) (ap encoding (sym (step_is slots n i h))))
    (λ h. subst (λ x. is_step slots n x ≡ true)
    (encodings_differ (nth slots n) i (nth_is_instr (guard slots) n (each_guard slots few)) is_instr (same_numbers _ _ h))
    (has_parts slots n))
  where
    same_self : (xs : List ℕ) → same_bytes xs xs ≡ true
    same_self [] = refl
    same_self (x ∷ xs) = and_both (nat_eq x x) (same_bytes xs xs) (eq-eqb x x refl) (same_self xs)

    same_as : (xs ys : List ℕ) → xs ≡ ys → same_bytes xs ys ≡ true
    same_as xs ys e = subst (λ r. same_bytes xs r ≡ true) e (same_self xs)
