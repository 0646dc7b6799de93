-- Answers that have a property, or else a proper stop, part after part.
use Rattle.std.proofs.Common.{Bool, true, false, Ok, Err}
use Rattle.std.specs.Prelude.{if◌then◌else◌}
use Rattle.ir_core.specs.Stops.{Answer, and_then}
use Rattle.ir_sound.specs.WellTyped.{Properly}

-- a step of two parts
pub then_gives : {A B : Type 0} (P : A → Type 0) (Q : B → Type 0) (a : Answer A) (rest : A → Answer B) → Properly P a → ((x : A) → P x → Properly Q (rest x)) → Properly Q (and_then a rest)
then_gives P Q (Ok x) rest p go = go x p
then_gives P Q (Err e) rest p go = p

-- a property that follows
pub gives_more : {A : Type 0} (P Q : A → Type 0) (a : Answer A) → Properly P a → ((x : A) → P x → Q x) → Properly Q a
gives_more P Q (Ok x) p go = go x p
gives_more P Q (Err e) p go = p

-- of a choice, each
pub if_gives : {A : Type 0} (P : A → Type 0) (b : Bool) (a c : Answer A) → Properly P a → Properly P c → Properly P (if b then a else c)
if_gives P true a c p q = p
if_gives P false a c p q = q
