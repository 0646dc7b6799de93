use Rattle.std.proofs.Common.{arith, length, take, drop, length-take}
use Rattle.xom_memory.proofs.Laid.{read_one}
use Rattle.xom_memory.proofs.pages.read_front.Goals as goal

pub returns-clause-front : goal.returns-clause-front
returns-clause-front c =
    read_one c.args.pages.now c.args.count c.args.from c.min-size.result (length (take c.min-size.result c.args.out.now)) c.read_part.new.out (drop c.min-size.result c.args.out.now)
    (omega arith) (omega arith) (omega arith) (omega (arith, length-take c.min-size.result c.args.out.now)) c.read_part.ensures
