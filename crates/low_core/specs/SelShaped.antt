-- What each pass may ask of a program of registers: numbers have what they name, widths and counts fit, limits are kept.
use Rattle.std.specs.Prelude.{◌≡◌, ℕ, ◌+◌, ◌^◌, ◌<◌, ◌≤◌, ◌⊎◌, List, [], ◌∷◌, length, All, true, slice_get, Option, Some, None}
use Rattle.rd_num.specs.declared.width.Width.{Width}
use Rattle.rd_num.specs.declared.width.Width.TheVariants.{W1, W8, W16, W32, W64}
use Rattle.rd_num.specs.Number.{bits}
use Rattle.ir_core.specs.declared.limit.TheConstants.{MAX_FUNCTIONS, MAX_PARAMETERS, MAX_FRAME, MAX_CODE}
use Rattle.low_core.specs.declared.sel.SelAlu.{SelAlu}
use Rattle.low_core.specs.declared.sel.SelAlu.TheVariants.{Add, Sub, Mul, And, Or, Xor, Shl, Shr, Sar}
use Rattle.low_core.specs.declared.sel.Which.{Which}
use Rattle.low_core.specs.declared.sel.Which.TheVariants.{Putchar, Getchar, Exit, Memcpy, Memset}
use Rattle.low_core.specs.declared.sel.Which.TheVariants as outer
use Rattle.low_core.specs.declared.sel.SelOp.{SelOp}
use Rattle.low_core.specs.declared.sel.SelOp.TheVariants.{Set, Alu, Div, Widen, Load, Store, FrameAt, FunctionAt, Call, Outside}
use Rattle.low_core.specs.declared.sel.SelEnd.{SelEnd}
use Rattle.low_core.specs.declared.sel.SelEnd.TheVariants.{Ret}
use Rattle.low_core.specs.declared.sel.SelBlock.{SelBlock}
use Rattle.low_core.specs.declared.sel.SelFun.{SelFun}
use Rattle.low_core.specs.declared.sel.Sel.{Sel}
use Rattle.low_core.specs.SelParts.{reads_of, assigns_of, end_reads, leads_to}
use Rattle.low_core.specs.SelWeights.{sel_weight, sel_room, arguments_of}

-- numbers of one bit have no arithmetic
abbrev pub IsWide : Width → Type 0
IsWide W1 = ⊥
IsWide W8 = Unit {0}
IsWide W16 = Unit {0}
IsWide W32 = Unit {0}
IsWide W64 = Unit {0}

-- but `and`, `or` and `xor`
abbrev pub AluFits : SelAlu → Width → Type 0
AluFits And w = Unit {0}
AluFits Or w = Unit {0}
AluFits Xor w = Unit {0}
AluFits Add w = IsWide w
AluFits Sub w = IsWide w
AluFits Mul w = IsWide w
AluFits Shl w = IsWide w
AluFits Shr w = IsWide w
AluFits Sar w = IsWide w

-- a register that is assigned is one of the function's
abbrev pub IsAnyBelow : ℕ → Option ℕ → Type 0
IsAnyBelow count None = Unit {0}
IsAnyBelow count (Some r) = r < count

-- a function outside takes so many arguments, and gives a result or doesn't
abbrev pub arity : Which → ℕ
arity Putchar = 1
arity Getchar = 0
arity Exit = 1
arity Memcpy = 3
arity Memset = 3
arity outer.Trap = 0

abbrev pub HasResult : Which → Option ℕ → Type 0
HasResult which None = Unit {0}
HasResult Putchar (Some r) = Unit {0}
HasResult Getchar (Some r) = Unit {0}
HasResult which (Some r) = ⊥

-- a function is called with as many arguments as it has parameters
pub record IsCallOf (sel : Sel) (f arguments : ℕ) : Type 0 where
  pub fn : SelFun
  pub stands : slice_get sel.functions f ≡ Some fn
  pub params : length fn.params ≡ arguments

-- what an operation names besides registers, its widths, and a number as a word
abbrev pub OpFits : Sel → SelFun → SelOp → Type 0
OpFits sel f (Set r n) = n < 2 ^ 64
OpFits sel f (Alu op w r s t) = AluFits op w
OpFits sel f (Div signed rest w r s t) = IsWide w
OpFits sel f (Widen signed from to r s) = bits from ≤ bits to
OpFits sel f (Load w r s) = IsWide w
OpFits sel f (Store w s t) = IsWide w
OpFits sel f (FrameAt r at) = at ≤ f.frame
OpFits sel f (FunctionAt r g) = slice_get sel.taken g ≡ Some true
OpFits sel f (Call g r args) = IsCallOf sel g (length args)
OpFits sel f (Outside which r args) = (length args ≡ arity which) × HasResult which r
OpFits sel f other = Unit {0}

-- an operation of a function
pub record IsOpShaped (sel : Sel) (f : SelFun) (op : SelOp) : Type 0 where
  pub reads : All (λ r. r < f.registers) (reads_of op)
  pub assigns : IsAnyBelow f.registers (assigns_of op)
  pub fits : OpFits sel f op
  pub few : arguments_of op ≤ MAX_PARAMETERS

-- a block
pub record IsBlockShaped (sel : Sel) (f : SelFun) (b : SelBlock) : Type 0 where
  pub ops : All (IsOpShaped sel f) b.ops
  pub end_reads : All (λ r. r < f.registers) (end_reads b.end)
  pub targets : All (λ n. n < length f.blocks) (leads_to b.end)

-- no number stands twice
abbrev pub IsNoneOf : ℕ → List ℕ → Type 0
IsNoneOf n ns = All (λ m. m ≡ n → ⊥) ns

abbrev pub AreApart : List ℕ → Type 0
AreApart [] = Unit {0}
AreApart (n ∷ ns) = IsNoneOf n ns × AreApart ns

-- a function
pub record IsFunShaped (sel : Sel) (f : SelFun) : Type 0 where
  pub some_block : 0 < length f.blocks
  pub params : All (λ r. r < f.registers) f.params
  pub params_apart : AreApart f.params
  pub few : length f.params ≤ MAX_PARAMETERS
  pub blocks : All (IsBlockShaped sel f) f.blocks
  pub room : sel_room f ≤ MAX_FRAME

-- an end that is a return has a result
abbrev pub GivesResult : SelEnd → Type 0
GivesResult (Ret None) = ⊥
GivesResult other = Unit {0}

-- the function with which a run begins: it has two parameters or none, and gives a result
pub record IsMain (f : SelFun) : Type 0 where
  pub params : (length f.params ≡ 0) ⊎ (length f.params ≡ 2)
  pub results : All (λ (b : SelBlock). GivesResult b.end) f.blocks

-- a program of registers
pub record IsSel (sel : Sel) : Type 0 where
  pub few : length sel.functions ≤ MAX_FUNCTIONS
  pub functions : All (IsFunShaped sel) sel.functions
  pub told : length sel.taken ≡ length sel.functions
  pub main_fun : SelFun
  pub main_stands : slice_get sel.functions sel.main ≡ Some main_fun
  pub main : IsMain main_fun
  pub weighs : sel_weight sel + 512 ≤ MAX_CODE
