use Rattle.obj_rows.proofs.Runs.{row_through}
use Rattle.obj_rows.proofs.law.passes.Goals as goal

pub returns : goal.returns
returns h = λ o n row part off c d out is. row_through o n row is out part off c d
