use Rattle.ir_sound.proofs.ValidTyped.{known_typed}
use Rattle.ir_sound.proofs.Steps.{run_proper}
use Rattle.ir_sound.proofs.never_malformed.Goals as goal

pub returns : goal.returns
returns c m input n known bytes = run_proper m input n bytes (known_typed m known)
