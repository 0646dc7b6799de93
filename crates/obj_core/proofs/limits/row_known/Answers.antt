use Rattle.obj_core.proofs.Totals.{few_pieces, few_places, little_pieces, little_row}
use Rattle.obj_core.proofs.limits.row_known.Goals as goal

pub returns-clause-few : goal.returns-clause-few
returns-clause-few c = few_pieces c.args.o.now c.requires

pub returns-clause-order : goal.returns-clause-order
returns-clause-order c = few_places c.args.o.now c.requires c.args.layout_seed

pub returns-clause-pieces : goal.returns-clause-pieces
returns-clause-pieces c = little_pieces c.args.o.now c.requires

pub returns-clause-row : goal.returns-clause-row
returns-clause-row c = little_row c.args.o.now c.requires c.args.layout_seed
