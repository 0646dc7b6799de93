-- Names that differ from all names of a function: they begin with one zero byte more than any of these.
use Rattle.std.specs.Prelude.{ℕ, zero, suc, ◌+◌, List, [], ◌∷◌, ◌++◌, map, nat_eq, if◌then◌else◌}
use Rattle.rd_num.specs.Number.{le_bytes}
use Rattle.ir_core.specs.declared.module.Function.{Function}
use Rattle.ir_core.specs.Counts.{greatest}
use Rattle.ir_core.specs.Definitions.{local_names}

-- the zero bytes with which a name begins
abbrev pub zeros_of : List ℕ → ℕ
zeros_of [] = 0
zeros_of (b ∷ bs) = if nat_eq b 0 then 1 + zeros_of bs else 0

-- one zero byte more than the names of parameters, variables and labels begin with
abbrev pub padding_for : Function → ℕ
padding_for f = 1 + greatest (map zeros_of (local_names f))

-- so many zero bytes
abbrev pub zero_bytes : ℕ → List ℕ
zero_bytes zero = []
zero_bytes (suc k) = 0 ∷ zero_bytes k

-- the variable of a function in which tests leave their answer
abbrev pub test_name : ℕ → List ℕ
test_name padding = zero_bytes padding

-- the label of the new chunk that stands at a number in its body
abbrev pub chunk_name : ℕ → ℕ → List ℕ
chunk_name padding at = zero_bytes padding ++ le_bytes 8 at
