-- The row of instructions that each operation becomes, over any homes of its registers. Operands come from their homes into
-- scratch registers, the first into rax, the second into rcx; the result is made in rax and goes to its home.
use Rattle.std.specs.Prelude.{ℕ, ◌+◌, ◌-◌, ◌*◌, Bool, true, false, if◌then◌else◌, List, [], ◌∷◌, ◌++◌, get_or, pos}
use Rattle.rd_num.specs.declared.width.Width.{Width}
use Rattle.rd_num.specs.declared.width.Width.TheVariants.{W1, W8, W16, W32, W64}
use Rattle.rd_num.specs.Number.{bits}
use Rattle.ir_core.specs.declared.instruction.Pred.{Pred}
use Rattle.ir_core.specs.declared.instruction.Pred.TheVariants.{Eq, Ne, Ult, Ule, Ugt, Uge, Slt, Sle, Sgt, Sge}
use Rattle.x86_core.specs.declared.reg.Reg.{Reg}
use Rattle.x86_core.specs.declared.reg.Reg.TheVariants.{Rax, Rcx, Rdx, Rsp}
use Rattle.x86_core.specs.declared.instr.Wide.{Wide}
use Rattle.x86_core.specs.declared.instr.Size.{Size}
use Rattle.x86_core.specs.declared.instr.HighSize.{HighSize}
use Rattle.x86_core.specs.declared.instr.AluOp.{AluOp}
use Rattle.x86_core.specs.declared.instr.ImmOp.{ImmOp}
use Rattle.x86_core.specs.declared.instr.ShiftOp.{ShiftOp}
use Rattle.x86_core.specs.declared.instr.WidenKind.{WidenKind}
use Rattle.x86_core.specs.declared.instr.Cond.{Cond}
use Rattle.x86_core.specs.declared.instr.Mem.{Mem}
use Rattle.x86_core.specs.declared.instr.Instr.{Instr}
use Rattle.x86_core.specs.declared.instr.Instr.TheVariants as instr
use Rattle.low_core.specs.declared.sel.SelAlu.{SelAlu}
use Rattle.low_core.specs.declared.sel.SelAlu.TheVariants.{Add, Sub, Mul, And, Or, Xor, Shl, Shr, Sar}
use Rattle.low_core.specs.declared.sel.SelOp.{SelOp}
use Rattle.low_core.specs.declared.sel.SelOp.TheVariants.{Set, Copy, Alu, Div, Widen, Test, Pick, Load, Store, FrameAt, GlobalAt, FunctionAt}
use Rattle.low_core.specs.Plan.{Plan}
use Rattle.frame_rows.specs.declared.spot.Spot.{Spot}
use Rattle.frame_rows.specs.declared.spot.Spot.TheVariants.{Own, Frame}

-- a word of the frame, whose lowest one is at rsp
abbrev pub frame_word : ℕ → Mem
frame_word k = record { base = Rsp; disp = pos (8 * k) }

-- from a home into a scratch register
abbrev pub home_read : Spot → Reg → Instr
home_read (Own r) t = instr.Mov Wide.W64 t r
home_read (Frame k) t = instr.Load Size.W64 t (frame_word k)

-- from a scratch register to a home
abbrev pub home_write : Spot → Reg → Instr
home_write (Own r) t = instr.Mov Wide.W64 r t
home_write (Frame k) t = instr.Store Size.W64 (frame_word k) t

-- the low bits of a register, with zeros above
abbrev pub cut : Width → Reg → Instr
cut W1 t = instr.AluImm ImmOp.And Wide.W32 t (pos 1)
cut W8 t = instr.Widen WidenKind.Zero8 t t
cut W16 t = instr.Widen WidenKind.Zero16 t t
cut W32 t = instr.Mov Wide.W32 t t
cut W64 t = instr.Mov Wide.W64 t t

-- the low bits with copies of the sign above; a single bit is left to others
abbrev pub sign_filled : Width → Reg → Instr
sign_filled W1 t = instr.Mov Wide.W64 t t
sign_filled W8 t = instr.Widen WidenKind.Sign8 t t
sign_filled W16 t = instr.Widen WidenKind.Sign16 t t
sign_filled W32 t = instr.Widen WidenKind.Sign32 t t
sign_filled W64 t = instr.Mov Wide.W64 t t

-- either of them
abbrev pub filled : Bool → Width → Reg → Instr
filled true w t = sign_filled w t
filled false w t = cut w t

-- operations are done on 32 bits, and on 64 where there are so many
abbrev pub wide_of : Width → Wide
wide_of W64 = Wide.W64
wide_of w = Wide.W32

-- the product of two bits is their conjunction
abbrev pub multiply : Width → Instr
multiply W1 = instr.Alu AluOp.And Wide.W32 Rax Rcx
multiply w = instr.Imul (wide_of w) Rax Rcx

-- a shift takes its amount from rcx, modulo the width
abbrev pub amount : Width → Instr
amount w = instr.AluImm ImmOp.And Wide.W32 Rcx (pos (bits w - 1))

-- rax by rcx
abbrev pub alu_row : SelAlu → Width → List Instr
alu_row Add w = instr.Alu AluOp.Add (wide_of w) Rax Rcx ∷ cut w Rax ∷ []
alu_row Sub w = instr.Alu AluOp.Sub (wide_of w) Rax Rcx ∷ cut w Rax ∷ []
alu_row Mul w = multiply w ∷ cut w Rax ∷ []
alu_row And w = instr.Alu AluOp.And (wide_of w) Rax Rcx ∷ cut w Rax ∷ []
alu_row Or w = instr.Alu AluOp.Or (wide_of w) Rax Rcx ∷ cut w Rax ∷ []
alu_row Xor w = instr.Alu AluOp.Xor (wide_of w) Rax Rcx ∷ cut w Rax ∷ []
alu_row Shl w = amount w ∷ instr.Shift ShiftOp.Shl Wide.W64 Rax ∷ cut w Rax ∷ []
alu_row Shr w = amount w ∷ cut w Rax ∷ instr.Shift ShiftOp.Shr Wide.W64 Rax ∷ []
alu_row Sar w = amount w ∷ sign_filled w Rax ∷ instr.Shift ShiftOp.Sar Wide.W64 Rax ∷ cut w Rax ∷ []

-- whether a comparison is one of signed numbers
abbrev pub is_signed : Pred → Bool
is_signed Eq = false
is_signed Ne = false
is_signed Ult = false
is_signed Ule = false
is_signed Ugt = false
is_signed Uge = false
is_signed Slt = true
is_signed Sle = true
is_signed Sgt = true
is_signed Sge = true

-- both operands ready to be compared in 64 bits; single bits as unsigned numbers
abbrev pub ready : Pred → Width → List Instr
ready p W1 = instr.MovImm32 Rdx 1 ∷ instr.Alu AluOp.And Wide.W32 Rax Rdx ∷ instr.Alu AluOp.And Wide.W32 Rcx Rdx ∷ []
ready p w = filled (is_signed p) w Rax ∷ filled (is_signed p) w Rcx ∷ []

-- the condition after the comparison
abbrev pub condition : Pred → Cond
condition Eq = Cond.E
condition Ne = Cond.Ne
condition Ult = Cond.B
condition Ule = Cond.Be
condition Ugt = Cond.A
condition Uge = Cond.Ae
condition Slt = Cond.L
condition Sle = Cond.Le
condition Sgt = Cond.G
condition Sge = Cond.Ge

-- of signed single bits the set one is the lesser
abbrev pub bit_condition : Pred → Cond
bit_condition Slt = Cond.A
bit_condition Sle = Cond.Ae
bit_condition Sgt = Cond.B
bit_condition Sge = Cond.Be
bit_condition p = condition p

abbrev pub condition_at : Pred → Width → Cond
condition_at p W1 = bit_condition p
condition_at p w = condition p

-- rax against rcx
abbrev pub test_row : Pred → Width → List Instr
test_row p w = ready p w ++ (instr.Alu AluOp.Cmp Wide.W64 Rax Rcx ∷ instr.SetCond (condition_at p w) Rax ∷ instr.Widen WidenKind.Zero8 Rax Rax ∷ [])

-- a single bit whose sign goes into all bits of rax is taken from 0
abbrev pub widen_row : Spot → Bool → Width → Width → List Instr
widen_row h true W1 to =
    home_read h Rcx ∷ instr.AluImm ImmOp.And Wide.W32 Rcx (pos 1) ∷ instr.Alu AluOp.Sub Wide.W32 Rax Rax ∷ instr.Alu AluOp.Sub Wide.W64 Rax Rcx ∷ cut to Rax ∷ []
widen_row h signed from to = home_read h Rax ∷ filled signed from Rax ∷ cut to Rax ∷ []

abbrev pub access_size : Width → Size
access_size W1 = Size.W8
access_size W8 = Size.W8
access_size W16 = Size.W16
access_size W32 = Size.W32
access_size W64 = Size.W64

-- the place whose address is in rax
abbrev pub at_rax : Mem
at_rax = record { base = Rax; disp = pos 0 }

-- the upper half of a dividend, in rdx
abbrev pub high_half : Bool → HighSize → Instr
high_half true size = instr.High size
high_half false size = instr.MovImm32 Rdx 0

-- the quotient is in rax, the remainder in rdx
abbrev pub divided_in : Bool → Bool → HighSize → Size → List Instr
divided_in signed rest high size = high_half signed high ∷ instr.Div signed size Rcx ∷ instr.Mov Wide.W64 Rax (if rest then Rdx else Rax) ∷ []

-- the quotient of eight bits is the lowest byte of rax, the remainder the next one
abbrev pub divided_bytes : Bool → Bool → List Instr
divided_bytes signed false = filled signed W8 Rax ∷ instr.Div signed Size.W8 Rcx ∷ []
divided_bytes signed true = filled signed W8 Rax ∷ instr.Div signed Size.W8 Rcx ∷ instr.MovImm32 Rcx 8 ∷ instr.Shift ShiftOp.Shr Wide.W32 Rax ∷ []

-- rax by rcx; there are no divisions of single bits
abbrev pub div_row : Bool → Bool → Width → List Instr
div_row signed rest W1 = divided_bytes signed rest ++ cut W8 Rax ∷ []
div_row signed rest W8 = divided_bytes signed rest ++ cut W8 Rax ∷ []
div_row signed rest W16 = divided_in signed rest HighSize.W16 Size.W16 ++ cut W16 Rax ∷ []
div_row signed rest W32 = divided_in signed rest HighSize.W32 Size.W32 ++ cut W32 Rax ∷ []
div_row signed rest W64 = divided_in signed rest HighSize.W64 Size.W64 ++ cut W64 Rax ∷ []

module _ (homes : ℕ → Spot) where
  -- two operands
  abbrev pub both : ℕ → ℕ → List Instr → List Instr
  both s t row = home_read (homes s) Rax ∷ home_read (homes t) Rcx ∷ row

  -- what makes the result of an operation in rax, where the function's own memory begins so many bytes above rsp; a call and
  -- a store have none
  abbrev pub result_row : Plan → ℕ → SelOp → List Instr
  result_row plan own (Set r n) = instr.MovImm64 Rax n ∷ []
  result_row plan own (Copy r s) = home_read (homes s) Rax ∷ []
  result_row plan own (Alu op w r s t) = both s t (alu_row op w)
  result_row plan own (Div signed rest w r s t) = both s t (div_row signed rest w)
  result_row plan own (Widen signed from to r s) = widen_row (homes s) signed from to
  result_row plan own (Test p w r s t) = both s t (test_row p w)
  result_row plan own (Pick r c s t) = home_read (homes c) Rdx ∷ both s t (instr.AluImm ImmOp.And Wide.W32 Rdx (pos 1) ∷ instr.Cmov Cond.E Rax Rcx ∷ [])
  result_row plan own (Load w r s) = home_read (homes s) Rax ∷ instr.Load (access_size w) Rax at_rax ∷ []
  result_row plan own (FrameAt r at) = instr.Lea Rax (record { base = Rsp; disp = pos (own + at) }) ∷ []
  result_row plan own (GlobalAt r g) = instr.MovImm64 Rax (get_or plan.globals g 0) ∷ []
  result_row plan own (FunctionAt r g) = instr.MovImm64 Rax (get_or plan.functions g 0) ∷ []
  result_row plan own other = []

  -- a result goes to its home
  abbrev pub assigned_row : ℕ → List Instr → List Instr
  assigned_row r row = row ++ home_write (homes r) Rax ∷ []

  -- an operation; calls are not here
  abbrev pub op_row : Plan → ℕ → SelOp → List Instr
  op_row plan own (Set r n) = assigned_row r (result_row plan own (Set r n))
  op_row plan own (Copy r s) = assigned_row r (result_row plan own (Copy r s))
  op_row plan own (Alu op w r s t) = assigned_row r (result_row plan own (Alu op w r s t))
  op_row plan own (Div signed rest w r s t) = assigned_row r (result_row plan own (Div signed rest w r s t))
  op_row plan own (Widen signed from to r s) = assigned_row r (result_row plan own (Widen signed from to r s))
  op_row plan own (Test p w r s t) = assigned_row r (result_row plan own (Test p w r s t))
  op_row plan own (Pick r c s t) = assigned_row r (result_row plan own (Pick r c s t))
  op_row plan own (Load w r s) = assigned_row r (result_row plan own (Load w r s))
  op_row plan own (Store w s t) = both s t (instr.Store (access_size w) at_rax Rcx ∷ [])
  op_row plan own (FrameAt r at) = assigned_row r (result_row plan own (FrameAt r at))
  op_row plan own (GlobalAt r g) = assigned_row r (result_row plan own (GlobalAt r g))
  op_row plan own (FunctionAt r g) = assigned_row r (result_row plan own (FunctionAt r g))
  op_row plan own other = []
