use Rattle.std.proofs.Common.{◌≡◌, ◌++◌, take}
use Rattle.ir_print.specs.Names.{after_commas}
use Rattle.ir_print.specs.Types.{type_text}
use Rattle.ir_print.proofs.function.put_more_types.Given as goal

abbrev pub invariant-loop-ty : goal.invariant-loop-ty
invariant-loop-ty l = l.text ≡ l.fn.text ++ after_commas type_text (take l.ty-index l.types)
