use Rattle.std.proofs.Common.{◌≡◌, ◌+◌, refl, subst, sym, rules}
use Rattle.obj_lay.specs.Putting.{IsDecoded}
use Rattle.obj_lay.proofs.Put.{decoded_here}
use Rattle.obj_lay.proofs.instr_at.instr_at.Goals as goal

-- the instruction that was decoded stands at the offset
pub returns-in-One : goal.returns-in-One
returns-in-One c =
    let b = c.in-One.ensures.begins c.in-One.instr c.in-One.len refl in
    let same : c.from.result ≡ c.in-One.len = search rules in
    subst (λ k. IsDecoded c.args.bytes.now c.args.at (record { at = c.args.at; end = c.args.at + k; instr = c.in-One.instr })) (sym same)
    (decoded_here c.args.bytes.now c.args.at c.in-One.instr c.in-One.len (search rules) c.in-One.ensures.decoding b.0 b.1)
