use Rattle.std.proofs.Common.{◌≡◌, ◌++◌, drop}
use Rattle.watch_script.specs.ShowText.{register_lines}
use Rattle.watch_script.proofs.state.put_registers.Given as goal

abbrev pub invariant-loop-r : goal.invariant-loop-r
invariant-loop-r l = l.text ++ register_lines (drop l.r-index l.r-items) l.regs ≡ l.fn.text ++ register_lines l.r-items l.regs
