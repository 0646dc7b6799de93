use Rattle.data_place.proofs.FitLaws.{are_data}
use Rattle.data_place.proofs.law.contents_are_data.Goals as goal

pub returns : goal.returns
returns c = are_data
