use Rattle.ir_names.proofs.StartLaws.{one_taken, many_taken}
use Rattle.ir_names.proofs.start.fits_params.Goals as goal

pub returns-in_default : goal.returns-in_default
returns-in_default c = one_taken c.args.params.now c.in_default.len_at_least c.in_default.len_below

pub returns-in_default-2 : goal.returns-in_default-2
returns-in_default-2 c = many_taken c.args.params.now c.in_default.len_at_least
