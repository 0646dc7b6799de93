-- One zero less stands behind one byte more.
use Rattle.std.proofs.Common.{refl, rules}
use Rattle.x86_encode.proofs.Zeros.{zeros_behind}
use Rattle.x86_encode.proofs.spelling.Spelling.put.Goals as goal

pub invariant_of-self : goal.invariant_of-self
invariant_of-self c = (search rules, zeros_behind c.self.inside.bytes c.self.inside.len _ c.args.b refl (search rules) c.self.invariant.1)
