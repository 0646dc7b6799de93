-- The first entries of a phi, one for each block.
use Rattle.std.specs.Prelude.{ℕ, List, [], ◌∷◌, ◌++◌, map, fold, if◌then◌else◌}
use Rattle.ir_core.specs.declared.instruction.Entry.{Entry}
use Rattle.ir_core.specs.Definitions.{is_among}

-- the blocks for which entries are
abbrev pub entry_names : List Entry → List (List ℕ)
entry_names entries = map (λ (e : Entry). e.from) entries

-- first entries, and one more if it is for another block
abbrev pub with_first : List Entry → Entry → List Entry
with_first firsts e = if is_among (entry_names firsts) e.from then firsts else firsts ++ e ∷ []

-- the first entries among entries
abbrev pub firsts_in : List Entry → List Entry
firsts_in entries = fold with_first [] entries
