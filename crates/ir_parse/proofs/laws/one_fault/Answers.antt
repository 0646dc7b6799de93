use Rattle.ir_parse.proofs.Cuts.{one_place, one_word, one_kind}
use Rattle.ir_parse.proofs.laws.one_fault.Goals as goal

pub returns : goal.returns
returns c = record { place = one_place; word = one_word; kind = one_kind }
