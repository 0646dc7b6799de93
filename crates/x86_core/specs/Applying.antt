-- What an instruction leaves behind when it is applied in place.
use Rattle.x86_core.specs.declared.effect.Next.{Next}
use Rattle.x86_core.specs.declared.effect.Next.TheVariants.{Fall}

-- an instruction that goes on to the next one leaves something new, and any other what was there
abbrev pub where_it_falls : {A : Type 0} → Next → A → A → A
where_it_falls Fall new old = new
where_it_falls other new old = old
