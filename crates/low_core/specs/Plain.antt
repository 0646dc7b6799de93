-- The module for which bodies stand: a chunk is a block, and a copy is a `freeze`, which gives its operand's value. In
-- that module a local may be given a value more than once; it has the newest. So a program without phis has the values,
-- the memory, the calls and the stops of modules, and its meaning is no other definition.
use Rattle.std.specs.Prelude.{List, [], ◌∷◌, map}
use Rattle.behavior.specs.Moment.{Behavior}
use Rattle.ir_core.specs.declared.instruction.Inst.{Inst}
use Rattle.ir_core.specs.declared.instruction.Op.{Op}
use Rattle.ir_core.specs.declared.instruction.Op.TheVariants.{Freeze}
use Rattle.ir_core.specs.declared.module.Block.{Block}
use Rattle.ir_core.specs.declared.module.Function.{Function}
use Rattle.ir_core.specs.declared.module.Module.{Module}
use Rattle.ir_core.specs.Run.{source_run}
use Rattle.low_core.specs.declared.moves.MoveOp.{MoveOp}
use Rattle.low_core.specs.declared.moves.MoveOp.TheVariants.{Keep, Copy}
use Rattle.low_core.specs.declared.moves.Move.{Move}
use Rattle.low_core.specs.declared.moves.Chunk.{Chunk}
use Rattle.low_core.specs.declared.moves.Body.{Body}

-- what a move does
abbrev pub op_of : MoveOp → Op
op_of (Keep op) = op
op_of (Copy ty a) = Freeze ty a

-- a move as an instruction
abbrev pub inst_of : Move → Inst
inst_of x = record { result = x.to; op = op_of x.op }

-- a chunk as a block
abbrev pub block_of : Chunk → Block
block_of c = record { label = c.label; insts = map inst_of c.moves; end = c.end }

-- a function with other blocks
abbrev pub with_blocks : Function → List Block → Function
with_blocks f blocks = record f { blocks = blocks }

-- each function with the body of its number
abbrev pub with_bodies : List Function → List Body → List Function
with_bodies [] bodies = []
with_bodies (f ∷ fs) [] = []
with_bodies (f ∷ fs) (b ∷ bs) = with_blocks f (map block_of b.chunks) ∷ with_bodies fs bs

-- the base with these bodies
abbrev pub plain : Module → List Body → Module
plain m bodies = record m { functions = with_bodies m.functions bodies }

-- what a program without phis shows
abbrev pub moves_run : Module → List Body → Behavior
moves_run m bodies = source_run (plain m bodies)

-- an instruction as a move
abbrev pub move_op_of : Op → MoveOp
move_op_of (Freeze ty a) = Copy ty a
move_op_of op = Keep op

abbrev pub move_of : Inst → Move
move_of i = record { to = i.result; op = move_op_of i.op }

-- a block as a chunk
abbrev pub chunk_of : Block → Chunk
chunk_of b = record { label = b.label; moves = map move_of b.insts; end = b.end }

-- the blocks of a module as bodies
abbrev pub bodies_of : Module → List Body
bodies_of m = map (λ (f : Function). record { chunks = map chunk_of f.blocks }) m.functions
