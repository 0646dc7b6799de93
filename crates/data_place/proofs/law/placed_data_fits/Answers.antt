use Rattle.data_place.proofs.FitLaws.{data_fits}
use Rattle.data_place.proofs.law.placed_data_fits.Goals as goal

pub returns : goal.returns
returns c sel contents plan pointers constants others placed few functions slots = data_fits sel contents plan constants others placed few pointers functions slots
