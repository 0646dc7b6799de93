use Rattle.ir_sound.proofs.ValidTyped.{known_typed}
use Rattle.ir_sound.proofs.valid_is_typed.Goals as goal

pub returns : goal.returns
returns c = known_typed
