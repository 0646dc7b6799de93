use Rattle.ir_context.proofs.OperandLaws.{gep_moves}
use Rattle.ir_context.proofs.law.pointers_move_along_paths.Goals as goal

pub returns : goal.returns
returns c m env names ty pointer indices all small fits = gep_moves m env names ty pointer indices all small fits
