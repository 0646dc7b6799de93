-- A step of a guarded object's run keeps what is known at its places, so no run strays.
use Rattle.std.proofs.Common.{◌≡◌, ℕ, zero, suc, ◌^◌, ◌<◌, ◌≤◌, inl, inr, Bool, true, false, ◌&&◌, if◌then◌else◌, List, [], ◌∷◌, Option, Some, None, refl, sym, ap, subst, lit≤, arith}
use Rattle.std.specs.Prelude.{min, nat_eq, slice_get, slice_index, replicate, negsuc}
use Rattle.std.proofs.Math.Logic.{∥∥₁_elim}
use Rattle.std.proofs.Props.{props}
use Rattle.rd_num.specs.Number.{le_bytes, le_number}
use Rattle.behavior.specs.Ending.{Ending, Going, Ended, Divide, NoFlag, BadCall, PageFault, Strayed, if_going}
use Rattle.behavior.specs.Moment.{AreBytes}
use Rattle.x86_core.specs.declared.reg.Reg.{Reg}
use Rattle.x86_core.specs.declared.reg.Reg.TheVariants.{Rax, Rcx, Rdx, Rsp, Rsi, Rdi, R11}
use Rattle.x86_core.specs.declared.flags.Flag.{Flag}
use Rattle.x86_core.specs.declared.flags.Flag.TheVariants.{Zero, One, Unknown}
use Rattle.x86_core.specs.declared.flags.Flags.{Flags}
use Rattle.x86_core.specs.declared.instr.Size.{Size}
use Rattle.x86_core.specs.declared.image.Segment.{Segment}
use Rattle.x86_core.specs.declared.effect.Access.{Access}
use Rattle.x86_core.specs.declared.effect.Access.TheVariants.{Nothing, Read, Write}
use Rattle.x86_core.specs.declared.effect.Next.{Next}
use Rattle.x86_core.specs.declared.effect.Next.TheVariants as next
use Rattle.x86_core.specs.declared.effect.Change.{Change}
use Rattle.x86_core.specs.Registers.{word, with_word}
use Rattle.x86_core.specs.Arithmetic.{holds}
use Rattle.x86_core.specs.Effect.{effect_of}
use Rattle.x86_core.specs.Memory.{read_at, write_at}
use Rattle.x86_core.specs.Step.{State, Fetched, Stops, Plain, Goes, Tests, Calls, Returns, Follows, CallsWord, Systems, size_bytes, after_read, after_write, by_access, by_change, tested, landed, below, called, called_word, flag_number, answered, bad_address, after_print, after_take, next_byte, Request, Exits, Idles, Prints, Takes, Unknowns, request_of, served, act}
use Rattle.x86_core.specs.Run.{Act, Step, Write as Writes, wrote, run_over}
use Rattle.obj_core.specs.declared.object.Object.{Object}
use Rattle.obj_core.specs.declared.object.Slot.{Slot}
use Rattle.obj_core.specs.declared.object.Place.{Place}
use Rattle.obj_core.specs.Landing.{LandsAt}
use Rattle.obj_core.specs.WellFormed.{Violation, IsWellFormed, is_entry}
use Rattle.obj_core.specs.SymbolicMachine.{symbolic_fetch, symbolic_land, symbolic_step, symbolic_start, symbolic_run}
use Rattle.obj_core.proofs.Landing.{slots_land}
use Rattle.guard_check.specs.Form.{is_indirect, guard_violation, HasGuardForm, IsFirstUnguarded}
use Rattle.guard_check.specs.Straight.{IsLanding, WriteBytes, NeverStrays, AwaitsWord, KeepsWords}
use Rattle.guard_check.proofs.Words.{AreWords, words_with, index_other}
use Rattle.guard_check.proofs.Effects.{effect_words, moved_small}
use Rattle.guard_check.proofs.Bytes.{HoldBytes, ReadBytes, read_bytes, StillBytes, write_bytes, number_bytes, word_bounded, start_bytes}
use Rattle.guard_check.proofs.Kept.{one_disassembly, first_is_entry}
use Rattle.guard_check.proofs.Places.{Sound, Freely, Keeps, place_keeps, word_lands}

-- the bytes of a size are at most eight
size_most : (size : Size) → size_bytes size ≤ 8
size_most Size.W8 = lit≤ tt
size_most Size.W16 = lit≤ tt
size_most Size.W32 = lit≤ tt
size_most Size.W64 = lit≤ tt

-- the count of a request to print is small
SmallCount : Request → Type 0
SmallCount r = (count : ℕ) → r ≡ Prints count → count < 2 ^ 64

count_of : (a b c e g : Bool) (n count : ℕ) → n ≤ 4096 → (if a then Exits else (if b then (if e then Idles else Prints n) else (if c then (if g then Idles else Takes) else Unknowns))) ≡ Prints count → count < 2 ^ 64
count_of true b c e g n count h q = absurd (cc)
count_of false true c true g n count h q = absurd (cc)
count_of false true c false g n count h q = let same : n ≡ count = cc in omega (arith, same, h)
count_of false false true e true n count h q = absurd (cc)
count_of false false true e false n count h q = absurd (cc)
count_of false false false e g n count h q = absurd (cc)

request_small : (regs : List ℕ) (count : ℕ) → request_of regs ≡ Prints count → count < 2 ^ 64
unfolding request_of
request_small regs count e =
    let n = min (word regs Rdx) 4096 in
    count_of (nat_eq (word regs Rax) 60) (nat_eq (word regs Rax) 1 && nat_eq (word regs Rdi) 1) (nat_eq (word regs Rax) 0 && nat_eq (word regs Rdi) 0) (nat_eq n 0) (nat_eq n 0) n count (omega arith) e

flag_small : (f : Flag) → flag_number f ≤ 1
flag_small Zero = lit≤ tt
flag_small One = lit≤ tt
flag_small Unknown = lit≤ tt

-- the registers after a system call
answered_words : (regs : List ℕ) (flags : Flags) (answer back : ℕ) → AreWords regs → answer < 2 ^ 64 → back < 2 ^ 64 → AreWords (answered regs flags answer back)
answered_words regs flags answer back h a b =
    let c = flag_small flags.c in
    let z = flag_small flags.z in
    let s = flag_small flags.s in
    let o = flag_small flags.o in
    words_with (with_word (with_word regs Rax answer) Rcx back) R11 _ (words_with (with_word regs Rax answer) Rcx back (words_with regs Rax answer h a) b)
    (omega (arith, c, z, s, o))

module _ (o : Object) (well : IsWellFormed o) (kept : guard_violation o well.disassemblies ≡ None) where
  -- what a run keeps
  record Straight (s : State Place) : Type 0 where
    going : s.ending ≡ Strayed → ⊥
    sound : Sound o well.disassemblies s.place s.regs s.flags
    words : AreWords s.regs
    memory : HoldBytes s.segments
    input : AreBytes s.left

  -- the word below the stack's word changes no r11
  same_r11 : (regs : List ℕ) (n : ℕ) → word (with_word regs Rsp n) R11 ≡ word regs R11
  same_r11 regs n = index_other regs 4 n 11 (λ e. absurd (omega (arith, e)))

  -- a landing place
  landing_sound : (p : Place) (w : ℕ) → LandsAt o w p → (regs : List ℕ) (flags : Flags) → IsLanding o (word regs R11) → Sound o well.disassemblies p regs flags
  landing_sound (Place.Code n off) w h regs flags l = absurd h
  landing_sound (Place.Slot k at) w h regs flags l = λ indirect lt. l

  module _ (s : State Place) (h : Straight s) where
    -- a run that stops
    stops : (e : Ending) → (e ≡ Strayed → ⊥) → Straight (record s { ending = e })
    stops e other = record { going = other; sound = h.sound; words = h.words; memory = h.memory; input = h.input }

    -- after an instruction
    read_straight : (c : Change) (into : Reg) (after : Place) (n : ℕ) → n ≤ 8 → AreWords c.regs → Freely o well.disassemblies after → (x : Option (List ℕ)) → ReadBytes n x → Straight (after_read x c into after s)
    read_straight c into after n le words free None r = stops PageFault (λ e. absurd (cc))
    read_straight c into after n le words free (Some bytes) r = record {
      going = h.going;
      sound = free _ c.flags;
      words = words_with c.regs into (le_number bytes) words (word_bounded bytes r.0 (let k = r.1 in omega (arith, k, le)));
      memory = h.memory;
      input = h.input;
    }

    write_straight : (c : Change) (after : Place) → AreWords c.regs → Freely o well.disassemblies after → (x : Option (List Segment)) → StillBytes x → Straight (after_write x c after s)
    write_straight c after words free None r = stops PageFault (λ e. absurd (cc))
    write_straight c after words free (Some ss) r = record { going = h.going; sound = free c.regs c.flags; words = words; memory = r; input = h.input }

    access_straight : (x : Access) (c : Change) (after : Place) → AreWords c.regs → Freely o well.disassemblies after → Straight (by_access x c after s)
    access_straight Nothing c after words free = record { going = h.going; sound = free c.regs c.flags; words = words; memory = h.memory; input = h.input }
    access_straight (Read at size into) c after words free = read_straight c into after (size_bytes size) (size_most size) words free _ (read_bytes s.segments at (size_bytes size) h.memory)
    access_straight (Write at size n) c after words free = write_straight c after words free _ (write_bytes s.segments at (le_bytes (size_bytes size) n) (number_bytes (size_bytes size) n) h.memory)

    untouched_straight : (c : Change) (after : Place) → AreWords c.regs → Sound o well.disassemblies after c.regs c.flags → c.access ≡ Nothing → Straight (by_access c.access c after s)
    untouched_straight c after words sound e =
        subst (λ x. Straight (by_access x c after s)) (sym e)
        (record { going = h.going; sound = sound; words = words; memory = h.memory; input = h.input })

    change_straight : (n : Next) (c : Change) (after : Place) → Straight (by_access c.access c after s) → Straight (by_change n c after s)
    change_straight next.Divide c after k = stops Divide (λ e. absurd (cc))
    change_straight next.NoFlag c after k = stops NoFlag (λ e. absurd (cc))
    change_straight n c after k = k

    test_straight : (x : Option Bool) (to after : Place) → (x ≡ Some true → Sound o well.disassemblies to s.regs s.flags) → (x ≡ Some false → Sound o well.disassemblies after s.regs s.flags) → Straight (tested x to after s)
    test_straight None to after k l = stops NoFlag (λ e. absurd (cc))
    test_straight (Some true) to after k l = record { going = h.going; sound = k refl; words = h.words; memory = h.memory; input = h.input }
    test_straight (Some false) to after k l = record { going = h.going; sound = l refl; words = h.words; memory = h.memory; input = h.input }

    -- calls
    stack_words : AreWords (with_word s.regs Rsp (below s.regs))
    stack_words = words_with s.regs Rsp _ h.words (moved_small (word s.regs Rsp) (negsuc 7))

    call_straight : (to : Place) → Freely o well.disassemblies to → (x : Option (List Segment)) → StillBytes x → Straight (called to x s)
    call_straight to free None r = stops PageFault (λ e. absurd (cc))
    call_straight to free (Some ss) r = record { going = h.going; sound = free _ s.flags; words = stack_words; memory = r; input = h.input }

    -- by the word in r11
    follow_straight : IsLanding o (word s.regs R11) → Straight (landed (symbolic_land o (word s.regs R11)) s.regs s)
    follow_straight l =
        subst (λ x. Straight (landed x s.regs s)) (sym (slots_land o (word s.regs R11) l.0 l.1))
        (record { going = h.going; sound = landing_sound l.0 (word s.regs R11) l.1 s.regs s.flags l; words = h.words; memory = h.memory; input = h.input })

    word_straight : IsLanding o (word s.regs R11) → (x : Option (List Segment)) → StillBytes x → Straight (called_word (symbolic_land o (word s.regs R11)) x s)
    word_straight l None r = stops PageFault (λ e. absurd (cc))
    word_straight l (Some ss) r =
        let regs = with_word s.regs Rsp (below s.regs) in
        subst (λ x. Straight (landed x regs (record s { segments = ss }))) (sym (slots_land o (word s.regs R11) l.0 l.1))
        (record { going = h.going; sound = landing_sound l.0 (word s.regs R11) l.1 regs s.flags (subst (IsLanding o) (sym (same_r11 s.regs (below s.regs))) l); words = stack_words; memory = r; input = h.input })

    -- system calls
    module _ (after : Place) (free : Freely o well.disassemblies after) (back : ℕ) (small : back < 2 ^ 64) where
      answer_words : (answer : ℕ) → answer < 2 ^ 64 → AreWords (answered s.regs s.flags answer back)
      answer_words answer lt = answered_words s.regs s.flags answer back h.words lt small

      print_straight : (count : ℕ) → count < 2 ^ 64 → (x : Option (List ℕ)) → Straight (after_print x count after back s)
      print_straight count lt None = record { going = h.going; sound = free _ s.flags; words = answer_words bad_address (lit≤ tt); memory = h.memory; input = h.input }
      print_straight count lt (Some bytes) = record { going = h.going; sound = free _ s.flags; words = answer_words count lt; memory = h.memory; input = h.input }

      take_straight : (x : Option (List Segment)) (bytes : List ℕ) → StillBytes x → AreBytes bytes → Straight (after_take x bytes after back s)
      take_straight None bytes r b = record { going = h.going; sound = free _ s.flags; words = answer_words bad_address (lit≤ tt); memory = h.memory; input = h.input }
      take_straight (Some ss) [] r b = record { going = h.going; sound = free _ s.flags; words = answer_words 0 (lit≤ tt); memory = h.memory; input = h.input }
      take_straight (Some ss) (x ∷ xs) r b = record { going = h.going; sound = free _ s.flags; words = answer_words 1 (lit≤ tt); memory = r; input = b.1 }

      next_is_byte : (bytes : List ℕ) → AreBytes bytes → AreBytes (next_byte bytes ∷ [])
      next_is_byte [] b = (lit≤ tt, tt)
      next_is_byte (x ∷ xs) b = (b.0, tt)

      serve_straight : (r : Request) → ((count : ℕ) → r ≡ Prints count → count < 2 ^ 64) → Straight (served r after back s)
      serve_straight Exits k = stops (Ended _) (λ e. absurd (cc))
      serve_straight Idles k = record { going = h.going; sound = free _ s.flags; words = answer_words 0 (lit≤ tt); memory = h.memory; input = h.input }
      serve_straight (Prints count) k = print_straight count (k count refl) (read_at s.segments (word s.regs Rsi) count)
      serve_straight Takes k = take_straight _ s.left (write_bytes s.segments (word s.regs Rsi) (next_byte s.left ∷ []) (next_is_byte s.left h.input) h.memory) h.input
      serve_straight Unknowns k = stops BadCall (λ e. absurd (cc))

    -- what is fetched is done
    act_straight : (x : Fetched Place) → Keeps o well.disassemblies s.regs s.flags x → Straight (act (symbolic_land o) x s)
    act_straight (Stops e) k = stops e k
    act_straight (Plain i after) k =
        let c = effect_of i s.regs s.flags in
        let words = effect_words i s.regs s.flags k.0 h.words in
        change_straight c.next c after (elim k.1 [ inl free ↦ access_straight c.access c after words free | inr x ↦ untouched_straight c after words x.1 x.0 ])
    act_straight (Goes to) k = record { going = h.going; sound = k; words = h.words; memory = h.memory; input = h.input }
    act_straight (Tests c to after) k = test_straight (holds c s.flags) to after k.0 k.1
    act_straight (Calls to back) k = call_straight to k _ (write_bytes s.segments (below s.regs) (le_bytes 8 back) (number_bytes 8 back) h.memory)
    act_straight Returns k = absurd k
    act_straight Follows k = follow_straight k
    act_straight (CallsWord back) k = word_straight k _ (write_bytes s.segments (below s.regs) (le_bytes 8 back) (number_bytes 8 back) h.memory)
    act_straight (Systems after back) k = serve_straight after k.1 back k.0 (request_of s.regs) (request_small s.regs)

    -- a step, unless the run has stopped
    by_ending : (e : Ending) (x : State Place) → Straight x → Straight (if_going e x s)
    by_ending Going x k = k
    by_ending e x k = h

    step_straight : Straight (symbolic_step o s)
    step_straight = by_ending s.ending _ (act_straight (symbolic_fetch o s.place) (place_keeps o well kept s.regs s.flags h.words s.place h.sound))

    -- a write by somebody who looks on
    wrote_straight : (x : Option (List Segment)) → StillBytes x → Straight (wrote x s)
    wrote_straight None r = h
    wrote_straight (Some ss) r = record { going = h.going; sound = h.sound; words = h.words; memory = r; input = h.input }

  -- any list of acts
  run_straight : (acts : List Act) → WriteBytes acts → (s : State Place) → Straight s → Straight (run_over (symbolic_step o) acts s)
  run_straight [] b s h = h
  run_straight (Step ∷ acts) b s h = run_straight acts b (symbolic_step o s) (step_straight s h)
  run_straight (Writes at [] ∷ acts) b s h = run_straight acts b.1 s h
  run_straight (Writes at (x ∷ xs) ∷ acts) b s h = run_straight acts b.1 (wrote (write_at s.segments at (x ∷ xs)) s) (wrote_straight s h _ (write_bytes s.segments at (x ∷ xs) b.0 h.memory))

  -- at the start
  entry_plain : (x : Option Slot) → ((s : Slot) → x ≡ Some s → is_entry s ≡ true) → is_indirect x ≡ false
  entry_plain None k = refl
  entry_plain (Some (Slot.Entry f)) k = refl
  entry_plain (Some (Slot.Jump f)) k = refl
  entry_plain (Some (Slot.Call f back)) k = refl
  entry_plain (Some (Slot.Indirect back)) k = let both : false ≡ true = k (Slot.Indirect back) refl in absurd (cc)
  entry_plain (Some (Slot.System back)) k = refl

  zeros : AreWords (replicate 16 0)
  zeros = record { long = refl; small = λ i. zero_at 16 i }
    where
      zero_at : (n i : ℕ) → slice_index (replicate n 0) i < 2 ^ 64
      zero_at zero zero = lit≤ tt
      zero_at zero (suc i) = lit≤ tt
      zero_at (suc n) zero = lit≤ tt
      zero_at (suc n) (suc i) = zero_at n i

  start_straight : (input : List ℕ) → AreBytes input → Straight (symbolic_start o input)
  start_straight input b =
      let data_is = well.object in
      record {
        going = λ e. absurd (cc);
        sound = λ indirect lt. let plain = entry_plain (slice_get o.slots 0) (first_is_entry o well) in absurd (cc);
        words = words_with (with_word (replicate 16 0) Rax 0) Rsp _ (words_with (replicate 16 0) Rax 0 zeros (lit≤ tt)) (lit≤ tt);
        memory = start_bytes o.ro o.rw data_is.ro data_is.rw;
        input = b;
      }

  run_is_straight : (input : List ℕ) (acts : List Act) → AreBytes input → WriteBytes acts → Straight (symbolic_run o input acts)
  run_is_straight input acts b w = run_straight acts w (symbolic_start o input) (start_straight input b)

-- the two ways to read an object's code are one
form_kept : (o : Object) (well : IsWellFormed o) → HasGuardForm o → guard_violation o well.disassemblies ≡ None
form_kept o well form = subst (λ d. guard_violation o d ≡ None) (one_disassembly o.functions form.disassemblies well.disassemblies form.disassembled well.disassembled) form.kept

-- no run strays
pub never_strays : (o : Object) → IsWellFormed o → HasGuardForm o → NeverStrays o
never_strays o well form input acts b w e = let s = run_is_straight o well (form_kept o well form) input acts b w in s.going e

-- where a run goes on by the word in r11, it lands
awaits_landing : (o : Object) (well : IsWellFormed o) (kept : guard_violation o well.disassemblies ≡ None) (p : Place) (regs : List ℕ) (flags : Flags) → AreWords regs → Sound o well.disassemblies p regs flags → AwaitsWord o p → IsLanding o (word regs R11)
awaits_landing o well kept (Place.Code n off) regs flags words sound a = word_lands o well kept regs flags words n off sound a
awaits_landing o well kept (Place.Slot k at) regs flags words sound a = sound a.0 a.1

pub keeps_words : (o : Object) → IsWellFormed o → HasGuardForm o → KeepsWords o
keeps_words o well form input acts b w a =
    let kept = form_kept o well form in
    let s = run_is_straight o well kept input acts b w in
    awaits_landing o well kept _ _ _ s.words s.sound a

-- what is only known to be well formed and guarded does not stray either
pub straight_of : (o : Object) → ∥ IsWellFormed o ∥₁ → ∥ HasGuardForm o ∥₁ → NeverStrays o
straight_of o well form input acts b w e = ∥∥₁_elim well (hlevel props) (λ x. ∥∥₁_elim form (hlevel props) (λ y. never_strays o x y input acts b w e))

-- an object that breaks a rule is not guarded
pub not_both : (o : Object) (v : Violation) → IsFirstUnguarded o v → HasGuardForm o → ⊥
not_both o v first form =
    let same : guard_violation o form.disassemblies ≡ guard_violation o first.disassemblies = ap (guard_violation o) (one_disassembly o.functions form.disassemblies first.disassemblies form.disassembled first.disassembled) in
    let kept = form.kept in
    let found = first.first in
    absurd (cc)
