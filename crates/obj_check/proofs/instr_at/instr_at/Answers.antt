use Rattle.std.proofs.Common.{refl, subst}
use Rattle.std.proofs.lemmas.List.{take_rest}
use Rattle.x86_core.specs.Encoding.{Begins}
use Rattle.obj_check.proofs.Rows.{stands_at}
use Rattle.obj_check.proofs.instr_at.instr_at.Goals as goal

-- the instruction that was decoded stands at the offset
pub returns-in-One : goal.returns-in-One
returns-in-One c =
    let b = c.in-One.ensures.begins c.in-One.instr c.in-One.len refl in
    let rest = take_rest c.args.bytes.now c.args.at in
    stands_at c.args.bytes.now c.args.at c.in-One.instr c.in-One.len (subst (λ r. Begins r c.in-One.instr) rest b.0) b.1
