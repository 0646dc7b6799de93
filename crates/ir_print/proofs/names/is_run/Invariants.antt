use Rattle.std.proofs.Common.{◌≡◌, drop}
use Rattle.std.specs.List.{list_all}
use Rattle.ir_lex.specs.Tokens.{is_run_byte}
use Rattle.ir_print.proofs.names.is_run.Given as goal

abbrev pub invariant-loop-byte : goal.invariant-loop-byte
invariant-loop-byte l = list_all is_run_byte (drop l.byte-index l.name) ≡ list_all is_run_byte l.name
