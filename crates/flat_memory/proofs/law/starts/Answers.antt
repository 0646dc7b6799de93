use Rattle.flat_memory.proofs.Start.{start_law, setting_fits}
use Rattle.flat_memory.proofs.law.starts.Goals as goal

pub returns : goal.returns
returns c = record { tied = start_law; setting = setting_fits }
