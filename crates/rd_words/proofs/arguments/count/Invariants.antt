use Rattle.std.proofs.Common.{◌≡◌, ◌+◌, ◌≤◌, length, map, string_bytes}
use Rattle.rd_words.specs.Read.{arguments_of, count_behind}
use Rattle.rd_words.proofs.arguments.count.Given as goal

-- the arguments so far, and those of the words that are left
abbrev pub invariant-loop-rest : goal.invariant-loop-rest
invariant-loop-rest l = record {
  few : l.count + length l.rest ≤ length l.words;
  counted : count_behind l.count (arguments_of (map string_bytes l.rest)) ≡ count_behind 0 (arguments_of (map string_bytes l.words));
}

abbrev pub decreases-loop-rest : goal.decreases-loop-rest
decreases-loop-rest l = length l.rest
