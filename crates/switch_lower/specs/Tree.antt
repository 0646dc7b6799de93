-- The compare tree of a switch: chunks one behind another, of which the first stands at a number in its body.
--
-- By hand, at 7, for a value %v of type i8; the new variable is t, and the new label at n is [n]:
--
--   no way          [7]: %v is read, br d
--   1 to b, 255 to a
--                   [7]: t = icmp eq i8 %v, 1      br t, b, [8]
--                   [8]: t = icmp eq i8 %v, 255    br t, a, d
--   1 to a, 2 to b, 3 to a, 4 to c, 9 to a
--                   [7]: t = icmp ult i8 %v, 9     br t, [8], [12]
--                   [8]: t = icmp eq i8 %v, 1      br t, a, [9]
--                   [9]: t = icmp eq i8 %v, 2      br t, b, [10]
--                  [10]: t = icmp eq i8 %v, 3      br t, a, [11]
--                  [11]: t = icmp eq i8 %v, 4      br t, c, d
--                  [12]: t = icmp eq i8 %v, 9      br t, a, d
use Rattle.std.specs.Prelude.{ℕ, zero, suc, ◌+◌, ◌*◌, ◌^◌, List, [], ◌∷◌, ◌++◌, length, take, drop, nat_le, if◌then◌else◌, pos, Some, None}
use Rattle.ir_core.specs.declared.ty.Ty.{Ty}
use Rattle.ir_core.specs.declared.operand.Operand.{Operand}
use Rattle.ir_core.specs.declared.operand.Operand.TheVariants.{Int, Local as LocalName}
use Rattle.ir_core.specs.declared.instruction.Pred.{Pred}
use Rattle.ir_core.specs.declared.instruction.Pred.TheVariants.{Eq, Ult}
use Rattle.ir_core.specs.declared.instruction.Op.TheVariants.{Compare}
use Rattle.ir_core.specs.declared.instruction.Term.TheVariants.{Br, BrIf}
use Rattle.low_core.specs.declared.moves.MoveOp.TheVariants.{Keep, Copy}
use Rattle.low_core.specs.declared.moves.Chunk.{Chunk}
use Rattle.switch_lower.specs.Ways.{Way}
use Rattle.switch_lower.specs.Fresh.{test_name, chunk_name}

-- what all tests of a switch share: its value, where it leads by default, and how many zero bytes new names begin with
pub record Choice : Type 0 where
  pub ty : Ty
  pub value : Operand
  pub default : List ℕ
  pub padding : ℕ

-- compares the value with a number, and goes to one label or to another
abbrev pub compare_chunk : Choice → ℕ → Pred → ℕ → List ℕ → List ℕ → Chunk
compare_chunk s at pred number taken other = record {
  label = chunk_name s.padding at;
  moves = record { to = Some (test_name s.padding); op = Keep (Compare pred s.ty s.value (Int (pos number))) } ∷ [];
  end = BrIf (LocalName (test_name s.padding)) taken other;
}

-- reads the value, as a switch without cases does
abbrev pub read_chunk : Choice → ℕ → Chunk
read_chunk s at = record { label = chunk_name s.padding at; moves = record { to = None; op = Copy s.ty s.value } ∷ []; end = Br s.default }

-- where to go on: to the tests of further ways, which stand at a number, or by default
abbrev pub onward : Choice → ℕ → List Way → List ℕ
onward s at [] = s.default
onward s at (w ∷ ws) = chunk_name s.padding at

-- a test for each way, one after another
abbrev pub tests : Choice → ℕ → List Way → List Chunk
tests s at [] = []
tests s at (w ∷ ws) = compare_chunk s at Eq w.0 w.1 (onward s (at + 1) ws) ∷ tests s (at + 1) ws

-- a row of tests; where there are none the value is read
abbrev pub row : Choice → ℕ → List Way → List Chunk
row s at [] = read_chunk s at ∷ []
row s at (w ∷ ws) = tests s at (w ∷ ws)

-- the least number
abbrev pub least : List Way → ℕ
least [] = 0
least (w ∷ ws) = w.0

-- how many ways a tree of a depth can have, with four in each of its rows
abbrev pub ways_within : ℕ → ℕ
ways_within depth = 4 * 2 ^ depth

-- how many chunks it has then, with the comparison in front of it: one for each way, and one for each row
abbrev pub size_within : ℕ → ℕ
size_within depth = 5 * 2 ^ depth

-- a tree of at most a depth: smaller numbers fill its left half, and greater ones, if there are any, are the right half
abbrev pub tree : Choice → ℕ → ℕ → List Way → List Chunk
tree s zero at ws = row s at ws
tree s (suc d) at ws =
    if nat_le (length ws) (ways_within d) then tree s d at ws
    else (compare_chunk s at Ult (least (drop (ways_within d) ws)) (chunk_name s.padding (at + 1)) (chunk_name s.padding (at + size_within d))
    ∷ tree s d (at + 1) (take (ways_within d) ws) ++ tree s d (at + size_within d) (drop (ways_within d) ws))

-- as deep as it needs to be
abbrev pub tree_of : Choice → ℕ → List Way → List Chunk
tree_of s at ws = tree s (length ws) at ws
