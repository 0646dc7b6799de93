-- Each event is answered as an event of its kind.
use Rattle.std.proofs.Common.{◌≡◌, ℕ, suc, Bool, true, false, ◌&&◌, List, [], ◌∷◌, ◌++◌, length, Option, Some, None, refl, ap, if◌then◌else◌, ◌∙◌}
use Rattle.x86_core.specs.Memory.{writes, is_allowed}
use Rattle.x86_core.specs.Observation.{observe, reply_to}
use Rattle.x86_core.specs.Step.{State}
use Rattle.watch_script.specs.declared.event.Event.{Event}
use Rattle.watch_script.specs.declared.event.Event.TheVariants.{Read, Write}
use Rattle.watch_script.specs.declared.reply.Reply.{Reply}
use Rattle.watch_script.specs.declared.reply.Reply.TheVariants.{Written, Refused}
use Rattle.watch_script.specs.Report.{reply_of, reply_in}
use Rattle.watch_script.specs.Suiting.{is_suited, are_suited}

pub suited_length : (es : List Event) (rs : List Reply) → are_suited es rs ≡ true → length rs ≡ length es
suited_length [] [] h = refl
suited_length [] (r ∷ rs) h = absurd (cc)
suited_length (e ∷ es) [] h = absurd (cc)
suited_length (e ∷ es) (r ∷ rs) h = by (is_suited e r) h (suited_length es rs)
  where
    by : (t : Bool) → (t && are_suited es rs) ≡ true → (are_suited es rs ≡ true → length rs ≡ length es) → suc (length rs) ≡ suc (length es)
    by true h others = ap suc (others h)
    by false h others = absurd (cc)

-- what an event is answered suits it
pub suits : {P : Type 0} (e : Event) (s : State P) (r : Reply) → r ≡ reply_in e s → is_suited e r ≡ true
suits (Read after at len) s r is = ap (is_suited (Read after at len)) is ∙ by (reply_to (observe s) at len)
  where
    by : (o : Option (List ℕ)) → is_suited (Read after at len) (reply_of o) ≡ true
    by (Some bytes) = refl
    by None = refl
suits (Write after at bytes) s r is = ap (is_suited (Write after at bytes)) is ∙ by (is_allowed writes s.segments at (length bytes))
  where
    by : (t : Bool) → is_suited (Write after at bytes) (if t then Written else Refused) ≡ true
    by true = refl
    by false = refl

-- one event and its reply more
suited_both : (es fs : List Event) (rs ss : List Reply) → are_suited es rs ≡ true → are_suited fs ss ≡ true → are_suited (es ++ fs) (rs ++ ss) ≡ true
suited_both [] fs [] ss h k = k
suited_both [] fs (r ∷ rs) ss h k = absurd (cc)
suited_both (e ∷ es) fs [] ss h k = absurd (cc)
suited_both (e ∷ es) fs (r ∷ rs) ss h k = by (is_suited e r) h (λ g. suited_both es fs rs ss g k)
  where
    by : (t : Bool) → (t && are_suited es rs) ≡ true → (are_suited es rs ≡ true → are_suited (es ++ fs) (rs ++ ss) ≡ true) → (t && are_suited (es ++ fs) (rs ++ ss)) ≡ true
    by true h others = others h
    by false h others = absurd (cc)

pub suited_more : (es : List Event) (rs : List Reply) (e : Event) (r : Reply) → are_suited es rs ≡ true → is_suited e r ≡ true → are_suited (es ++ e ∷ []) (rs ++ r ∷ []) ≡ true
suited_more es rs e r h k = suited_both es (e ∷ []) rs (r ∷ []) h (rw k refl)
