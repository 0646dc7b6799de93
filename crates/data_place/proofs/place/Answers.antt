use Rattle.data_place.proofs.HoldLaws.{if_few, if_whole}
use Rattle.data_place.proofs.place.Goals as goal

pub returns-clause-few : goal.returns-clause-few
returns-clause-few c = if_few c.module-whole.result.now c.module-whole.ensures.valid c.as_slice.result.now c.placing.result c.placing.ensures

pub returns-clause-whole : goal.returns-clause-whole
returns-clause-whole c = if_whole c.module-whole.result.now c.module-whole.ensures.valid c.as_slice.result.now c.placing.result c.placing.ensures
