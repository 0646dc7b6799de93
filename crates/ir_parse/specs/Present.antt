-- How private calls put parts that leave a trace behind those that were read.
use Rattle.std.specs.Prelude.{List, ◌++◌, Option, flat_map, option_to_list}
use Rattle.ir_grammar.specs.Reading.{Read, done, fault}

-- what was read, in front of those of a row that leave a trace
abbrev pub put_present : {A : Type 0} → List A → Read (List (Option A)) → Read (List A)
put_present xs (done ys ts) = done (xs ++ flat_map option_to_list ys) ts
put_present xs (fault left) = fault left
