-- Registers, and the locals of a call for which they stand.
use Rattle.std.specs.Prelude.{◌≡◌, ℕ, List, Option, Some, None, option_map, option_and_then, slice_get, slice_set}
use Rattle.ir_core.specs.declared.memory.Value.{Value}
use Rattle.ir_core.specs.Names.{same_name, number_where, first_where}
use Rattle.ir_core.specs.State.{Local}

-- the value that a place has, where it has one
abbrev pub register : List (Option Value) → ℕ → Option Value
register registers number = option_and_then (λ (o : Option Value). o) (slice_get registers number)

-- the places once one of them, where it is there, was given a value
abbrev pub with_register : Option ℕ → Value → List (Option Value) → List (Option Value)
with_register (Some k) v registers = slice_set registers k (Some v)
with_register None v registers = registers

-- the value that a local was given, where it was given one
abbrev pub given : List Local → List ℕ → Option Value
given locals name = option_map (λ (l : Local). l.value) (first_where (λ (l : Local). same_name l.name name) locals)

-- the number of a name
abbrev pub number_of : List (List ℕ) → List ℕ → Option ℕ
number_of names name = number_where (λ (n : List ℕ). same_name n name) names

-- each name has the value of its place, and what is no name has none
abbrev pub StandFor : List (List ℕ) → List (Option Value) → List Local → Type 0
StandFor names registers locals = (name : List ℕ) → given locals name ≡ option_and_then (register registers) (number_of names name)
