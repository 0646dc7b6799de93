-- What every step keeps: what was printed stays and grows at its end, the count of bytes taken doesn't fall, and a
-- run that has stopped stays as it is.
use Rattle.std.proofs.Common.{◌≡◌, ℕ, Bool, true, false, List, [], ◌∷◌, Option, Some, None, refl, sym, ◌∙◌, ap, arith}
use Rattle.std.proofs.lemmas.List.{append-nil}
use Rattle.behavior.specs.Ending.{Ending, Going}
use Rattle.behavior.specs.Moment.{HasStopped}
use Rattle.behavior.specs.System.{Grows, System}
use Rattle.x86_core.specs.declared.flags.Flags.{Flags}
use Rattle.x86_core.specs.declared.image.Segment.{Segment}
use Rattle.x86_core.specs.declared.effect.Access.{Access}
use Rattle.x86_core.specs.declared.effect.Access.TheVariants.{Nothing, Read, Write}
use Rattle.x86_core.specs.declared.effect.Next.{Next}
use Rattle.x86_core.specs.declared.effect.Next.TheVariants as next
use Rattle.x86_core.specs.declared.effect.Change.{Change}
use Rattle.x86_core.specs.declared.reg.Reg.{Reg}
use Rattle.x86_core.specs.declared.reg.Reg.TheVariants.{R11, Rsi, Rsp}
use Rattle.x86_core.specs.Arithmetic.{holds}
use Rattle.x86_core.specs.Effect.{effect_of}
use Rattle.rd_num.specs.Number.{le_bytes, le_number}
use Rattle.x86_core.specs.Registers.{word}
use Rattle.x86_core.specs.Memory.{read_at, write_at}
use Rattle.x86_core.specs.Step.{State, moment_of, Fetched, Stops, Plain, Goes, Tests, Calls, Returns, Follows, CallsWord, Systems, size_bytes, after_read, after_write, by_access, by_change, tested, landed, returned, below, called, called_word, after_print, after_take, next_byte, Request, Exits, Idles, Prints, Takes, Unknowns, request_of, served, act, step_of}

module _ {P : Type 0} where
  -- nothing is printed and nothing taken
  abbrev Silent : State P → State P → Type 0
  Silent s t = (t.printed ≡ s.printed) × (t.taken ≡ s.taken)

  abbrev Grown : State P → State P → Type 0
  Grown s t = Grows (moment_of s) (moment_of t)

  silent_grows : (s t : State P) → Silent s t → Grown s t
  silent_grows s t h = record { more = []; printed = h.0 ∙ sym (append-nil s.printed); taken = let e = h.1 in omega arith }

  read_silent : (o : Option (List ℕ)) (c : Change) (into : Reg) (after : P) (s : State P) → Silent s (after_read o c into after s)
  read_silent None c into after s = (refl, refl)
  read_silent (Some bytes) c into after s = (refl, refl)

  write_silent : (o : Option (List Segment)) (c : Change) (after : P) (s : State P) → Silent s (after_write o c after s)
  write_silent None c after s = (refl, refl)
  write_silent (Some segments) c after s = (refl, refl)

  access_silent : (a : Access) (c : Change) (after : P) (s : State P) → Silent s (by_access a c after s)
  access_silent Nothing c after s = (refl, refl)
  access_silent (Read at size into) c after s = read_silent (read_at s.segments at (size_bytes size)) c into after s
  access_silent (Write at size n) c after s = write_silent (write_at s.segments at (le_bytes (size_bytes size) n)) c after s

  change_silent : (n : Next) (c : Change) (after : P) (s : State P) → Silent s (by_change n c after s)
  change_silent next.Divide c after s = (refl, refl)
  change_silent next.NoFlag c after s = (refl, refl)
  change_silent n c after s = access_silent c.access c after s

  test_silent : (o : Option Bool) (to after : P) (s : State P) → Silent s (tested o to after s)
  test_silent None to after s = (refl, refl)
  test_silent (Some true) to after s = (refl, refl)
  test_silent (Some false) to after s = (refl, refl)

  land_silent : (o : Option P) (regs : List ℕ) (s : State P) → Silent s (landed o regs s)
  land_silent None regs s = (refl, refl)
  land_silent (Some p) regs s = (refl, refl)

  return_silent : (land : ℕ → Option P) (o : Option (List ℕ)) (s : State P) → Silent s (returned land o s)
  return_silent land None s = (refl, refl)
  return_silent land (Some bytes) s = land_silent (land (le_number bytes)) _ s

  call_silent : (to : P) (o : Option (List Segment)) (s : State P) → Silent s (called to o s)
  call_silent to None s = (refl, refl)
  call_silent to (Some segments) s = (refl, refl)

  word_silent : (to : Option P) (o : Option (List Segment)) (s : State P) → Silent s (called_word to o s)
  word_silent to None s = (refl, refl)
  word_silent None (Some segments) s = (refl, refl)
  word_silent (Some p) (Some segments) s = (refl, refl)

  print_grows : (o : Option (List ℕ)) (count : ℕ) (after : P) (back : ℕ) (s : State P) → Grown s (after_print o count after back s)
  print_grows None count after back s = silent_grows s (after_print None count after back s) (refl, refl)
  print_grows (Some bytes) count after back s = record { more = bytes; printed = refl; taken = omega arith }

  take_grows : (o : Option (List Segment)) (bytes : List ℕ) (after : P) (back : ℕ) (s : State P) → Grown s (after_take o bytes after back s)
  take_grows None bytes after back s = silent_grows s (after_take None bytes after back s) (refl, refl)
  take_grows (Some segments) [] after back s = silent_grows s (after_take (Some segments) [] after back s) (refl, refl)
  take_grows (Some segments) (b ∷ bs) after back s = record { more = []; printed = sym (append-nil s.printed); taken = omega arith }

  serve_grows : (r : Request) (after : P) (back : ℕ) (s : State P) → Grown s (served r after back s)
  serve_grows Exits after back s = silent_grows s (served Exits after back s) (refl, refl)
  serve_grows Idles after back s = silent_grows s (served Idles after back s) (refl, refl)
  serve_grows (Prints count) after back s = print_grows (read_at s.segments (word s.regs Rsi) count) count after back s
  serve_grows Takes after back s = take_grows (write_at s.segments (word s.regs Rsi) (next_byte s.left ∷ [])) s.left after back s
  serve_grows Unknowns after back s = silent_grows s (served Unknowns after back s) (refl, refl)

  act_grows : (land : ℕ → Option P) (x : Fetched P) (s : State P) → Grown s (act land x s)
  act_grows land (Stops e) s = silent_grows s (act land (Stops e) s) (refl, refl)
  act_grows land (Plain i after) s = let c = effect_of i s.regs s.flags in silent_grows s (act land (Plain i after) s) (change_silent c.next c after s)
  act_grows land (Goes to) s = silent_grows s (act land (Goes to) s) (refl, refl)
  act_grows land (Tests c to after) s = silent_grows s (act land (Tests c to after) s) (test_silent (holds c s.flags) to after s)
  act_grows land (Calls to back) s = silent_grows s (act land (Calls to back) s) (call_silent to (write_at s.segments (below s.regs) (le_bytes 8 back)) s)
  act_grows land Returns s = silent_grows s (act land Returns s) (return_silent land (read_at s.segments (word s.regs Rsp) 8) s)
  act_grows land Follows s = silent_grows s (act land Follows s) (land_silent (land (word s.regs R11)) s.regs s)
  act_grows land (CallsWord back) s = silent_grows s (act land (CallsWord back) s) (word_silent (land (word s.regs R11)) (write_at s.segments (below s.regs) (le_bytes 8 back)) s)
  act_grows land (Systems after back) s = serve_grows (request_of s.regs) after back s

  module _ (fetch : List Segment → P → Fetched P) (land : ℕ → Option P) where
    going_or_not : (e : Ending) (regs : List ℕ) (flags : Flags) (place : P) (segments : List Segment) (left printed : List ℕ) (taken : ℕ) →
        let s : State P = record { regs = regs; flags = flags; place = place; segments = segments; left = left; printed = printed; taken = taken; ending = e } in Grown s (step_of fetch land s)
    going_or_not Going regs flags place segments left printed taken =
        act_grows land (fetch segments place) (record { regs = regs; flags = flags; place = place; segments = segments; left = left; printed = printed; taken = taken; ending = Going })
    going_or_not e regs flags place segments left printed taken =
        let s : State P = record { regs = regs; flags = flags; place = place; segments = segments; left = left; printed = printed; taken = taken; ending = e } in
        silent_grows s s (refl, refl)

    pub step_grows : (s : State P) → Grows (moment_of s) (moment_of (step_of fetch land s))
    step_grows s = going_or_not s.ending s.regs s.flags s.place s.segments s.left s.printed s.taken

    stopped_or_not : (e : Ending) (regs : List ℕ) (flags : Flags) (place : P) (segments : List Segment) (left printed : List ℕ) (taken : ℕ) →
        let s : State P = record { regs = regs; flags = flags; place = place; segments = segments; left = left; printed = printed; taken = taken; ending = e } in HasStopped (moment_of s) → step_of fetch land s ≡ s
    stopped_or_not Going regs flags place segments left printed taken h = absurd (cc)
    stopped_or_not e regs flags place segments left printed taken h = refl

    pub step_stays : (s : State P) → HasStopped (moment_of s) → step_of fetch land s ≡ s
    step_stays s h = stopped_or_not s.ending s.regs s.flags s.place s.segments s.left s.printed s.taken h

    -- a machine as a system, for simulations
    abbrev pub machine_system : System (State P)
    machine_system = record {
      step = step_of fetch land;
      moment = moment_of;
      grows = step_grows;
      stays = λ s h. ap moment_of (step_stays s h);
    }
