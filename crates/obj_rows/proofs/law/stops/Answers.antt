use Rattle.obj_rows.proofs.Runs.{row_stops}
use Rattle.obj_rows.proofs.law.stops.Goals as goal

pub returns : goal.returns
returns h = λ o n row part off c ending out is. row_stops o n row is out part off c ending
