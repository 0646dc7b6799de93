use Rattle.data_place.proofs.ByteLaws.{stands}
use Rattle.data_place.proofs.law.placed_bytes_stand.Goals as goal

pub returns : goal.returns
returns c = stands
