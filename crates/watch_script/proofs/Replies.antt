-- What a write by somebody who looks on answers.
use Rattle.std.proofs.Common.{◌≡◌, ℕ, Bool, true, false, ◌&&◌, ◌||◌, nat_eq, List, [], ◌∷◌, length, Option, Some, None, refl, sym, ap, if◌then◌else◌}
use Rattle.x86_core.specs.declared.image.Segment.{Segment}
use Rattle.x86_core.specs.Memory.{writes, covers, one_covers, is_allowed, with_bytes, behind, write_at}
use Rattle.x86_core.specs.Step.{State}
use Rattle.x86_core.specs.Run.{Write as Writes, wrote, acted}
use Rattle.x86_core.specs.Machine.{machine_step}
use Rattle.watch_script.specs.declared.event.Event.TheVariants.{Write}
use Rattle.watch_script.specs.declared.reply.Reply.TheVariants.{Written, Refused}
use Rattle.watch_script.specs.Report.{reply_in}

pub written_reply : (after at : ℕ) (bytes : List ℕ) (s : State ℕ) → is_allowed writes s.segments at (length bytes) ≡ true → Written ≡ reply_in (Write after at bytes) s
written_reply after at bytes s e = rw e refl

pub refused_reply : (after at : ℕ) (bytes : List ℕ) (s : State ℕ) → is_allowed writes s.segments at (length bytes) ≡ false → Refused ≡ reply_in (Write after at bytes) s
refused_reply after at bytes s e = rw e refl

-- no segment takes the bytes
none_takes : (ss : List Segment) (at : ℕ) (bytes : List ℕ) → one_covers writes ss at (length bytes) ≡ false → write_at ss at bytes ≡ None
none_takes [] at bytes h = refl
none_takes (s ∷ ss) at bytes h = by (writes s.rights && covers s at (length bytes)) h (none_takes ss at bytes)
  where
    by : (t : Bool) → (t || one_covers writes ss at (length bytes)) ≡ false → (one_covers writes ss at (length bytes) ≡ false → write_at ss at bytes ≡ None) →
        (if t then Some (with_bytes s at bytes ∷ ss) else behind s (write_at ss at bytes)) ≡ None
    by true h others = absurd (cc)
    by false h others = ap (behind s) (others h)

-- a range of some bytes is refused where no segment covers it
not_covered : (t u : Bool) → (t || u) ≡ false → u ≡ false
not_covered true u h = absurd (cc)
not_covered false u h = h

-- a write that is refused does nothing
pub refused_state : (at : ℕ) (bytes : List ℕ) (s : State ℕ) → is_allowed writes s.segments at (length bytes) ≡ false → s ≡ acted machine_step (Writes at bytes) s
refused_state at [] s h = refl
refused_state at (b ∷ bs) s h = sym (ap (λ o. wrote o s) (none_takes s.segments at (b ∷ bs) (not_covered (nat_eq (length (b ∷ bs)) 0) (one_covers writes s.segments at (length (b ∷ bs))) h)))
