use Rattle.std.proofs.Common.{◌≡◌, ◌++◌, take, flat_map}
use Rattle.ir_print.specs.Instructions.{inst_text}
use Rattle.ir_print.proofs.function.put_insts.Given as goal

abbrev pub invariant-loop-inst : goal.invariant-loop-inst
invariant-loop-inst l = l.text ≡ l.fn.text ++ flat_map inst_text (take l.inst-index l.insts)
