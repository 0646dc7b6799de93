use Rattle.std.proofs.Common.{◌≡◌, ◌<◌, ◌^◌, true, take}
use Rattle.std.specs.List.{list_all}
use Rattle.std.specs.Char.{is_ascii_digit}
use Rattle.std.specs.Str.Parse.{digits_value}
use Rattle.ir_lex.proofs.number.magnitude.Given as goal

-- the bytes so far are digits, and write the number
abbrev pub invariant-loop-d : goal.invariant-loop-d
invariant-loop-d l = record {
  fits : l.n < 10 ^ l.d-index;
  value : l.n ≡ digits_value 10 (take l.d-index l.digits);
  digits : list_all is_ascii_digit (take l.d-index l.digits) ≡ true;
}
