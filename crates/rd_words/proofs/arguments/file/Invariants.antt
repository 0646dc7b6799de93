use Rattle.std.proofs.Common.{◌≡◌, length, map, string_bytes}
use Rattle.std.specs.Option.{option_copied, option_to_list}
use Rattle.rd_words.specs.Read.{arguments_of, file_behind, file_of}
use Rattle.rd_words.proofs.arguments.file.Given as goal

-- the file so far, and those of the words that are left
abbrev pub invariant-loop-rest : goal.invariant-loop-rest
invariant-loop-rest l = file_behind (option_to_list (option_copied l.found)) (arguments_of (map string_bytes l.rest)) ≡ file_of (map string_bytes l.words)

abbrev pub decreases-loop-rest : goal.decreases-loop-rest
decreases-loop-rest l = length l.rest
