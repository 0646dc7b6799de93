-- Bodies without switches. A chunk that ends in a switch keeps its moves and leads to the compare tree, which stands
-- right behind it. All other chunks stay as they are, in their order.
use Rattle.std.specs.Prelude.{ℕ, ◌+◌, List, [], ◌∷◌, ◌++◌, length, map}
use Rattle.ir_core.specs.declared.instruction.Term.{Term}
use Rattle.ir_core.specs.declared.instruction.Term.TheVariants.{Br, Switch}
use Rattle.ir_core.specs.declared.module.Function.{Function}
use Rattle.ir_core.specs.declared.module.Module.{Module}
use Rattle.low_core.specs.declared.moves.Chunk.{Chunk}
use Rattle.low_core.specs.declared.moves.Body.{Body}
use Rattle.low_core.specs.Plain.{block_of, with_blocks}
use Rattle.switch_lower.specs.Ways.{ways}
use Rattle.switch_lower.specs.Fresh.{padding_for, chunk_name}
use Rattle.switch_lower.specs.Tree.{tree_of}

-- a chunk with another end
abbrev pub with_end : Chunk → Term → Chunk
with_end c end = record c { end = end }

-- what stands in the place of a chunk with this end, at a number in its body
abbrev pub chunks_by : ℕ → ℕ → Chunk → Term → List Chunk
chunks_by padding at c (Switch ty a default cases) =
    with_end c (Br (chunk_name padding (at + 1)))
    ∷ tree_of (record { ty = ty; value = a; default = default; padding = padding }) (at + 1) (ways ty cases)
chunks_by padding at c other = c ∷ []

abbrev pub chunks_for : ℕ → ℕ → Chunk → List Chunk
chunks_for padding at c = chunks_by padding at c c.end

-- what stands in the place of chunks, the first of it at a number in its body
abbrev pub chunks_from : ℕ → ℕ → List Chunk → List Chunk
chunks_from padding at [] = []
chunks_from padding at (c ∷ cs) = chunks_for padding at c ++ chunks_from padding (at + length (chunks_for padding at c)) cs

-- the zero bytes of the new names of a function with this body
abbrev pub padding_in : Function → Body → ℕ
padding_in f b = padding_for (with_blocks f (map block_of b.chunks))

-- the body of a function without switches
abbrev pub body_of : Function → Body → Body
body_of f b = record { chunks = chunks_from (padding_in f b) 0 b.chunks }

-- the bodies of functions without switches
abbrev pub bodies_of : List Function → List Body → List Body
bodies_of [] bodies = []
bodies_of (f ∷ fs) [] = []
bodies_of (f ∷ fs) (b ∷ bs) = body_of f b ∷ bodies_of fs bs

abbrev pub bodies_without_switches : Module → List Body → List Body
bodies_without_switches m bodies = bodies_of m.functions bodies
