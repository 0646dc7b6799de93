use Rattle.std.proofs.Common.{◌≡◌, ◌<◌, ◌^◌, drop}
use Rattle.rd_num.specs.Numeral.{number_behind}
use Rattle.rd_num.proofs.numeral.hexadecimal.Given as goal

-- the digits so far are in the number
abbrev pub invariant-loop-c : goal.invariant-loop-c
invariant-loop-c l = record {
  small : l.n < 16 ^ l.c-index;
  rest : number_behind 16 l.n (drop l.c-index l.word) ≡ number_behind 16 0 l.word;
}
