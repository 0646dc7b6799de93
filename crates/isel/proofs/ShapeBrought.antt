-- What brings operands and arguments into registers fits the function.
use Rattle.std.proofs.Common.{◌≡◌, ℕ, ◌+◌, ◌<◌, ◌≤◌, Bool, true, false, List, [], ◌∷◌, length, refl, arith}
use Rattle.std.specs.Prelude.{nat_eq, if◌then◌else◌}
use Rattle.rd_num.specs.declared.width.Width.TheVariants.{W64}
use Rattle.ir_core.specs.declared.instruction.Arg.{Arg}
use Rattle.ir_core.specs.declared.kind.Kind.{Kind}
use Rattle.ir_core.specs.declared.memory.Value.{Value}
use Rattle.ir_core.specs.declared.memory.Value.TheVariants.{Num, Null, At, Fun}
use Rattle.ir_core.specs.declared.module.Function.{Function}
use Rattle.ir_core.specs.declared.module.Module.{Module}
use Rattle.ir_core.specs.declared.operand.Operand.{Operand}
use Rattle.ir_core.specs.Kinds.{kind_of}
use Rattle.ir_core.specs.Mentions.{of_operand, of_typed, of_args}
use Rattle.ir_core.specs.Valid.{LocalKind, named_locals}
use Rattle.ir_sound.specs.WellTyped.{Each}
use Rattle.ir_sound.proofs.RowLaws.{Each_both, Each_parts}
use Rattle.ir_context.specs.declared.origin.Origin.{Origin}
use Rattle.ir_context.specs.declared.origin.Origin.TheVariants.{Known, Register, Unset, Malformed}
use Rattle.ir_context.specs.Origins.{arg_origin, origin_of}
use Rattle.low_core.specs.declared.sel.SelAlu.TheVariants.{Add}
use Rattle.low_core.specs.declared.sel.SelOp.{SelOp}
use Rattle.low_core.specs.declared.sel.SelOp.TheVariants.{Set, Alu, GlobalAt}
use Rattle.isel_rows.specs.Variables.{operand_register, bytes_register, argument_register, register_read}
use Rattle.isel_rows.specs.Brought.{Brought, AllBrought, place_ops, value_ops, brought, operand_brought, args_brought}
use Rattle.isel.proofs.Mentioned.{IsFine}
use Rattle.isel.proofs.ShapeForms.{vs, most, registers_room, registers_least, Fits, IsBelow, set_fits, alu_fits, global_fits, function_fits}
use Rattle.isel.proofs.ShapeOrigins.{ValueStands, OriginStands, operand_stands}

module _ (m : Module) (fn : Function) where
  -- a register of the function
  abbrev Below : ℕ → Type 0
  Below r = IsBelow m fn r

  -- operations that fit
  abbrev Each_fits : List SelOp → Type 0
  Each_fits ops = Each (Fits m fn) ops

  -- an origin that stands for something of the module or the function
  abbrev pub Stands : Origin → Type 0
  Stands o = OriginStands m (vs m fn) o

  -- one of eight registers behind the variables
  pub behind_variables : (k : ℕ) → k < 8 → Below (length (vs m fn) + k)
  behind_variables k few = let least = registers_least m fn in omega (arith, few, least)

  -- what is read of an origin
  pub read_below : (o : Origin) → Stands o → Below (register_read (vs m fn) o)
  read_below (Register k) stands = let least = registers_least m fn in omega (arith, stands, least)
  read_below (Known v) stands = behind_variables 7 (omega arith)
  read_below Unset stands = behind_variables 7 (omega arith)
  read_below Malformed stands = behind_variables 7 (omega arith)

  -- a place, and a value
  place_fits : (r g by : ℕ) → Below r → ValueStands m (vs m fn) (At g by) → Each_fits (place_ops (vs m fn) r g by)
  place_fits r g by to stands = of_test (nat_eq by 0)
    where
      bytes : ℕ
      bytes = bytes_register (vs m fn)

      there : Fits m fn (GlobalAt r g)
      there = global_fits m fn r g to stands.0

      of_test : (b : Bool) → Each_fits (if b then GlobalAt r g ∷ [] else GlobalAt r g ∷ Set bytes by ∷ Alu Add W64 r r bytes ∷ [])
      of_test true = (there, tt)
      of_test false = (there, (set_fits m fn bytes by (behind_variables 3 (omega arith)) stands.1, (alu_fits m fn Add W64 r r bytes tt to to (behind_variables 3 (omega arith)), tt)))

  -- any value that is known
  value_fits : (r : ℕ) (v : Value) → Below r → ValueStands m (vs m fn) v → Each_fits (value_ops (vs m fn) r v)
  value_fits r (Num w n) to stands = (set_fits m fn r n to stands, tt)
  value_fits r Null to stands = (set_fits m fn r 0 to (omega arith), tt)
  value_fits r (At g by) to stands = place_fits r g by to stands
  value_fits r (Fun f) to stands = (function_fits m fn r f to stands, tt)

  -- operations that fit, and then a register of the function
  pub record BroughtFits (b : Brought) : Type 0 where
    pub ops : Each_fits b.ops
    pub register : Below b.register

  -- an origin
  pub brought_fits : (r : ℕ) (o : Origin) → Below r → Stands o → BroughtFits (brought (vs m fn) r o)
  brought_fits r (Known v) to stands = record { ops = value_fits r v to stands; register = to }
  brought_fits r (Register k) to stands = record { ops = tt; register = read_below (Register k) stands }
  brought_fits r Unset to stands = record { ops = tt; register = read_below Unset tt }
  brought_fits r Malformed to stands = record { ops = tt; register = read_below Malformed tt }

  -- an operand, the k-th of its instruction
  pub operand_fits : (k : ℕ) (kind : Kind) (a : Operand) → k < 3 → Each (IsFine m) (of_operand a) → BroughtFits (operand_brought m (vs m fn) k kind a)
  operand_fits k kind a few fine = brought_fits (operand_register (vs m fn) k) (origin_of m (named_locals (vs m fn)) kind a) (behind_variables k (omega (arith, few))) (operand_stands m (vs m fn) kind a fine)

  -- arguments from the k-th on
  pub record AllFit (b : AllBrought) : Type 0 where
    pub ops : Each_fits b.ops
    pub registers : Each Below b.registers

  -- they fit, where the function has registers for as many
  pub args_fit : (k : ℕ) (args : List Arg) → k + length args ≤ most m fn → Each (IsFine m) (of_args args) → AllFit (args_brought m (vs m fn) k args)
  args_fit k [] few fine = record { ops = tt; registers = tt }
  args_fit k (a ∷ args) few fine =
      let room = registers_room m fn in
      let p = Each_parts (IsFine m) (of_typed a.ty a.value) (of_args args) fine in
      let first = brought_fits (argument_register (vs m fn) k) (arg_origin m (named_locals (vs m fn)) a) (omega (arith, few, room)) (operand_stands m (vs m fn) (kind_of a.ty) a.value p.0.1) in
      let others = args_fit (k + 1) args (omega (arith, few)) p.1 in
      record {
        ops = Each_both (Fits m fn) (brought (vs m fn) (argument_register (vs m fn) k) (arg_origin m (named_locals (vs m fn)) a)).ops (args_brought m (vs m fn) (k + 1) args).ops first.ops others.ops;
        registers = (first.register, others.registers);
      }

-- as many registers as arguments
pub args_count : (m : Module) (variables : List LocalKind) (k : ℕ) (args : List Arg) → length (args_brought m variables k args).registers ≡ length args
args_count m variables k [] = refl
args_count m variables k (a ∷ args) = let others = args_count m variables (k + 1) args in omega (arith, others)
