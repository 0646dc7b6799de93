-- Instructions as operations on numbered registers, and ends as ends.
use Rattle.std.specs.Prelude.{ℕ, List, [], ◌∷◌, ◌++◌, true, false, map, nat_eq, if◌then◌else◌, Option, Some, None}
use Rattle.rd_num.specs.declared.width.Width.{Width}
use Rattle.rd_num.specs.declared.width.Width.TheVariants.{W1, W8, W16, W32, W64}
use Rattle.ir_core.specs.declared.instruction.BinOp.{BinOp}
use Rattle.ir_core.specs.declared.instruction.BinOp.TheVariants as bin
use Rattle.ir_core.specs.declared.instruction.CastOp.{CastOp}
use Rattle.ir_core.specs.declared.instruction.CastOp.TheVariants.{Trunc, Zext, Sext}
use Rattle.ir_core.specs.declared.instruction.Op.{Op}
use Rattle.ir_core.specs.declared.instruction.Op.TheVariants.{Bin, Compare, Cast, Select, Freeze, Alloca, Load, Store, Gep, Phi, Call}
use Rattle.ir_core.specs.declared.instruction.Term.{Term}
use Rattle.ir_core.specs.declared.instruction.Term.TheVariants.{Ret, RetValue, Br, BrIf, Switch, Unreachable}
use Rattle.ir_core.specs.declared.kind.Kind.TheVariants.{Number, Pointer}
use Rattle.ir_core.specs.declared.module.Module.{Module}
use Rattle.ir_core.specs.Kinds.{kind_of}
use Rattle.ir_core.specs.Valid.{LocalKind, named_locals}
use Rattle.ir_context.specs.declared.path.Path.{Path}
use Rattle.ir_context.specs.declared.path.Stride.{Stride}
use Rattle.ir_context.specs.Registers.{number_of}
use Rattle.ir_context.specs.Origins.{arg_origin}
use Rattle.ir_context.specs.Paths.{path_of, empty_path}
use Rattle.low_core.specs.declared.sel.SelAlu.TheVariants.{Add, Sub, Mul, And, Or, Xor, Shl, Shr, Sar}
use Rattle.low_core.specs.declared.sel.SelOp.{SelOp}
use Rattle.low_core.specs.declared.sel.SelOp.TheVariants.{Set, Copy, Alu, Div, Widen, Test, Pick, FrameAt}
use Rattle.low_core.specs.declared.sel.SelOp.TheVariants as sel
use Rattle.low_core.specs.declared.sel.SelEnd.{SelEnd}
use Rattle.low_core.specs.declared.sel.SelEnd.TheVariants.{Go, If}
use Rattle.low_core.specs.declared.sel.SelEnd.TheVariants as end
use Rattle.isel_rows.specs.Variables.{number_or_first, bytes_register, index_register, moved_register, idle_register, register_read, width_of, width_read}
use Rattle.isel_rows.specs.Brought.{Brought, operand_brought}
use Rattle.isel_rows.specs.Calls.{register_into, call_ops}

-- the register of a result that is always assigned
abbrev pub register_or_idle : List LocalKind → Option ℕ → ℕ
register_or_idle vs (Some r) = r
register_or_idle vs None = idle_register vs

abbrev pub result_register : List LocalKind → Option (List ℕ) → ℕ
result_register vs into = register_or_idle vs (register_into vs into)

-- an operation on two registers
abbrev pub bin_op : BinOp → Width → ℕ → ℕ → ℕ → SelOp
bin_op bin.Add w r s t = Alu Add w r s t
bin_op bin.Sub w r s t = Alu Sub w r s t
bin_op bin.Mul w r s t = Alu Mul w r s t
bin_op bin.Udiv w r s t = Div false false w r s t
bin_op bin.Sdiv w r s t = Div true false w r s t
bin_op bin.Urem w r s t = Div false true w r s t
bin_op bin.Srem w r s t = Div true true w r s t
bin_op bin.Shl w r s t = Alu Shl w r s t
bin_op bin.Lshr w r s t = Alu Shr w r s t
bin_op bin.Ashr w r s t = Alu Sar w r s t
bin_op bin.And w r s t = Alu And w r s t
bin_op bin.Or w r s t = Alu Or w r s t
bin_op bin.Xor w r s t = Alu Xor w r s t

-- a number as one of another width; the low bits of a number are those of its word
abbrev pub cast_op : CastOp → Width → Width → ℕ → ℕ → SelOp
cast_op Trunc from to r s = Widen false to to r s
cast_op Zext from to r s = Widen false from to r s
cast_op Sext from to r s = Widen true from to r s

-- the width at which a width is loaded and stored: a truth value has a byte
abbrev pub stored_width : Width → Width
stored_width W1 = W8
stored_width W8 = W8
stored_width W16 = W16
stored_width W32 = W32
stored_width W64 = W64

-- a load; of a byte with a truth value the lowest bit counts
abbrev pub load_ops : Width → ℕ → ℕ → List SelOp
load_ops W1 r s = sel.Load W8 r s ∷ Widen false W1 W8 r r ∷ []
load_ops w r s = sel.Load w r s ∷ []

-- one operand, or two, and then operations on them
abbrev pub behind : Brought → (ℕ → List SelOp) → List SelOp
behind b go = b.ops ++ go b.register

-- a pointer in a register, so many bytes on: the operations, and its register then
abbrev pub constant_moved : List LocalKind → ℕ → ℕ → Brought
constant_moved vs from by =
    if nat_eq by 0 then record { ops = []; register = from }
    else record { ops = Set (bytes_register vs) by ∷ Alu Add W64 (moved_register vs) from (bytes_register vs) ∷ []; register = moved_register vs }

-- one more index: widened with its sign, times the bytes between what it counts
abbrev pub stride_ops : List LocalKind → ℕ → Stride → List SelOp
stride_ops vs from s =
    Widen true (width_read vs s.index) W64 (index_register vs) (register_read vs s.index) ∷ Set (bytes_register vs) s.size
    ∷ Alu Mul W64 (index_register vs) (index_register vs) (bytes_register vs) ∷ Alu Add W64 (moved_register vs) from (index_register vs) ∷ []

-- all of them
abbrev pub strides_moved : List LocalKind → ℕ → List Stride → Brought
strides_moved vs from [] = record { ops = []; register = from }
strides_moved vs from (s ∷ ss) =
    let others = strides_moved vs (moved_register vs) ss in
    record { ops = stride_ops vs from s ++ others.ops; register = others.register }

-- a pointer along a path into a register
abbrev pub moved_ops : List LocalKind → ℕ → Path → ℕ → List SelOp
moved_ops vs r p from =
    let first = constant_moved vs from p.constant in
    let others = strides_moved vs first.register p.strides in
    first.ops ++ (others.ops ++ Copy r others.register ∷ [])

-- where indices lead nowhere there is no path, and nothing is moved
abbrev pub path_taken : Option Path → Path
path_taken (Some p) = p
path_taken None = empty_path

-- an instruction of a module whose variables are these; an alloca begins so many bytes into the frame's own memory
abbrev pub ops_of : Module → List LocalKind → ℕ → Option (List ℕ) → Op → List SelOp
ops_of m vs at into (Bin op ty a b) =
    behind (operand_brought m vs 0 (kind_of ty) a) (λ s. behind (operand_brought m vs 1 (kind_of ty) b) (λ t. bin_op op (width_of (kind_of ty)) (result_register vs into) s t ∷ []))
ops_of m vs at into (Compare pred ty a b) =
    behind (operand_brought m vs 0 (kind_of ty) a) (λ s. behind (operand_brought m vs 1 (kind_of ty) b) (λ t. Test pred (width_of (kind_of ty)) (result_register vs into) s t ∷ []))
ops_of m vs at into (Cast op from a to) =
    behind (operand_brought m vs 0 (kind_of from) a) (λ s. cast_op op (width_of (kind_of from)) (width_of (kind_of to)) (result_register vs into) s ∷ [])
ops_of m vs at into (Select condition ty a ty2 b) =
    behind (operand_brought m vs 0 (Number W1) condition) (λ c. behind (operand_brought m vs 1 (kind_of ty) a) (λ s. behind (operand_brought m vs 2 (kind_of ty2) b) (λ t.
    Pick (result_register vs into) c s t ∷ [])))
ops_of m vs at into (Freeze ty a) = behind (operand_brought m vs 0 (kind_of ty) a) (λ s. Copy (result_register vs into) s ∷ [])
ops_of m vs at into (Alloca ty count) = FrameAt (result_register vs into) at ∷ []
ops_of m vs at into (Load ty p) = behind (operand_brought m vs 0 Pointer p) (λ s. load_ops (width_of (kind_of ty)) (result_register vs into) s)
ops_of m vs at into (Store ty a p) =
    behind (operand_brought m vs 0 (kind_of ty) a) (λ t. behind (operand_brought m vs 1 Pointer p) (λ s. sel.Store (stored_width (width_of (kind_of ty))) s t ∷ []))
ops_of m vs at into (Gep ty p indices) =
    behind (operand_brought m vs 0 Pointer p) (λ s. moved_ops vs (result_register vs into) (path_taken (path_of m.types ty (map (arg_origin m (named_locals vs)) indices))) s)
ops_of m vs at into (Call ret callee args) = call_ops m vs (register_into vs into) callee args
ops_of m vs at into (Phi ty entries) = []

-- the number of a label's block among its function's
abbrev pub block_number : List (List ℕ) → List ℕ → ℕ
block_number labels to = number_or_first (number_of labels to)

-- an end, and what it reads in front of it
pub record Closing : Type 0 where
  pub ops : List SelOp
  pub end : SelEnd

abbrev pub closing : Brought → (ℕ → SelEnd) → Closing
closing b go = record { ops = b.ops; end = go b.register }

abbrev pub closing_of : Module → List LocalKind → List (List ℕ) → Term → Closing
closing_of m vs labels Ret = record { ops = []; end = end.Ret None }
closing_of m vs labels (RetValue ty a) = closing (operand_brought m vs 0 (kind_of ty) a) (λ s. end.Ret (Some s))
closing_of m vs labels (Br to) = record { ops = []; end = Go (block_number labels to) }
closing_of m vs labels (BrIf condition taken other) =
    closing (operand_brought m vs 0 (Number W1) condition) (λ c. If c (block_number labels taken) (block_number labels other))
closing_of m vs labels (Switch ty a default cases) = record { ops = []; end = end.Trap }
closing_of m vs labels Unreachable = record { ops = []; end = end.Trap }
