-- Registers that occur in functions.
use Rattle.std.specs.Prelude.{◌≡◌, ℕ, ◌<◌, ◌⊎◌, Bool, true, List, [], ◌∷◌, ◌++◌, length, Option, Some, None, slice_get, slice_set}
use Rattle.std.specs.List.{flat_map}
use Rattle.low_core.specs.declared.sel.SelOp.{SelOp}
use Rattle.low_core.specs.declared.sel.SelBlock.{SelBlock}
use Rattle.low_core.specs.declared.sel.SelFun.{SelFun}
use Rattle.low_core.specs.SelParts.{reads_of, assigns_of, end_reads, IsOneOf}
use Rattle.low_core.specs.Liveness.{Point, points_of, Reads, Assigns}

-- a register that is a parameter, or that an operation or an end has
pub record Occurs (f : SelFun) (r : ℕ) : Type 0 where
  pub position : ℕ
  pub point : Point
  pub stands : slice_get (points_of f) position ≡ Some point
  pub has : Reads point r ⊎ Assigns f.params point r

-- marks at the places of registers
abbrev pub marked : List Bool → List ℕ → List Bool
marked seen [] = seen
marked seen (r ∷ rs) = marked (slice_set seen r true) rs

abbrev pub assigned : Option ℕ → List ℕ
assigned None = []
assigned (Some r) = r ∷ []

abbrev pub op_registers : SelOp → List ℕ
op_registers op = reads_of op ++ assigned (assigns_of op)

abbrev pub block_registers : SelBlock → List ℕ
block_registers b = flat_map op_registers b.ops ++ end_reads b.end

abbrev pub registers_of : SelFun → List ℕ
registers_of f = f.params ++ flat_map block_registers f.blocks

-- which registers of a function occur
pub record TellsOccurring (f : SelFun) (seen : List Bool) : Type 0 where
  pub long : length seen ≡ f.registers
  pub sound : (x : ℕ) → slice_get seen x ≡ Some true → IsOneOf x (registers_of f)
  pub complete : (x : ℕ) → x < f.registers → IsOneOf x (registers_of f) → slice_get seen x ≡ Some true
