-- The ways out of a switch: numbers with the labels to which they lead, the least number first.
--
--   switch i8 %v, label %d [ i8 -1, label %a   i8 1, label %b ]      1 to b, 255 to a
use Rattle.std.specs.Prelude.{ℕ, List, [], ◌∷◌}
use Rattle.std.specs.Ordering.{nat_cmp}
use Rattle.std.specs.BTreeMap.{insert_entry}
use Rattle.ir_core.specs.declared.ty.Ty.{Ty}
use Rattle.ir_core.specs.declared.instruction.Case.{Case}
use Rattle.ir_core.specs.Kinds.{kind_of}
use Rattle.ir_core.specs.Valid.{case_number}

-- a number below 2^N, N being the width of the switch, and where it leads
abbrev pub Way : Type 0
Way = ℕ × List ℕ

-- of cases; where a number comes twice its first case counts
abbrev pub ways : Ty → List Case → List Way
ways ty [] = []
ways ty (c ∷ cs) = insert_entry nat_cmp (ways ty cs) (case_number (kind_of ty) c.value) c.to
