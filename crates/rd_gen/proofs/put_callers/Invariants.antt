use Rattle.std.proofs.Common.{◌≡◌, ◌++◌, ◌-◌}
use Rattle.std.specs.List.{flat_map, range_with_len}
use Rattle.rd_gen.specs.Workload.{caller_text}
use Rattle.rd_gen.proofs.put_callers.Given as goal

-- what is put so far, and the functions that are left, are all
abbrev pub invariant-loop-i : goal.invariant-loop-i
invariant-loop-i l = l.text ++ flat_map caller_text (range_with_len l.i (l.fn.number - l.i)) ≡ l.fn.text ++ flat_map caller_text (range_with_len 1 (l.fn.number - 1))
