use Rattle.ir_sound.proofs.Start.{start_is}
use Rattle.ir_sound.proofs.Steps.{step_is, turn_is, states_are}
use Rattle.ir_sound.proofs.stays_typed.Goals as goal

pub returns-clause-start : goal.returns-clause-start
returns-clause-start c = start_is

pub returns-clause-step : goal.returns-clause-step
returns-clause-step c m input s typed bytes is = step_is m input bytes typed s is

pub returns-clause-turn : goal.returns-clause-turn
returns-clause-turn c m input s typed bytes is = turn_is m input bytes typed s is

pub returns-clause-states : goal.returns-clause-states
returns-clause-states c m input n typed bytes = states_are m input n bytes typed
