use Rattle.std.proofs.Common.{◌≡◌, ℕ, List, [], ◌∷◌, length, arith, sym, ◌∙◌, eqb-true}
use Rattle.x86_core.specs.declared.image.Segment.{Segment}
use Rattle.xom_memory.specs.Access.{bytes_at}
use Rattle.xom_memory.proofs.Allowed.{read_nothing}
use Rattle.xom_memory.proofs.memory.Memory.read_into.Goals as goal

-- no bytes are what an empty range has
nothing : (segments : List Segment) (at : ℕ) (out : List ℕ) → length out ≡ 0 → out ≡ bytes_at segments at (length out)
nothing segments at [] e = sym (read_nothing segments at)
nothing segments at (b ∷ bs) e = absurd (omega arith)

pub returns-then-is_empty-clause-read : goal.returns-then-is_empty-clause-read
returns-then-is_empty-clause-read c = nothing c.args.self.now c.args.at c.args.out.now (eqb-true _ _ (sym c.is_empty.ensures ∙ c.if-is_empty.true))
