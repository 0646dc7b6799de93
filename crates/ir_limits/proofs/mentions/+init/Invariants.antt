-- the first of what is left is that of all
use Rattle.std.proofs.Common.{◌≡◌, ◌∷◌, drop}
use Rattle.std.specs.List.{flat_map}
use Rattle.ir_core.specs.declared.init.Elem.{Elem}
use Rattle.ir_core.specs.Mentions.{OfType, of_init}
use Rattle.ir_limits.specs.Past.{past_in}
use Rattle.ir_limits.proofs.mentions.+init.Given as goal

abbrev pub invariant-past_elems-loop-e : goal.invariant-past_elems-loop-e
invariant-past_elems-loop-e l = past_in l.gauge (flat_map (λ (e : Elem). OfType e.ty ∷ of_init e.init) (drop l.e-index l.es)) ≡ past_in l.gauge (flat_map (λ (e : Elem). OfType e.ty ∷ of_init e.init) l.es)
