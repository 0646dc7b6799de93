use Rattle.std.proofs.Common.{◌≡◌, length, map, string_bytes}
use Rattle.std.specs.Option.{option_copied, option_to_list}
use Rattle.rd_words.specs.Read.{arguments_of, value_behind, value_of}
use Rattle.rd_words.proofs.arguments.value.Given as goal

-- the value so far, and those of the words that are left
abbrev pub invariant-loop-rest : goal.invariant-loop-rest
invariant-loop-rest l = value_behind l.option (option_to_list (option_copied l.found)) (arguments_of (map string_bytes l.rest)) ≡ value_of l.option (map string_bytes l.words)

abbrev pub decreases-loop-rest : goal.decreases-loop-rest
decreases-loop-rest l = length l.rest
