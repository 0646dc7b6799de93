-- A step does the same over places and over their addresses.
use Rattle.std.proofs.Common.{◌≡◌, ◌≢◌, ℕ, Bool, true, false, List, [], ◌∷◌, Option, Some, None, refl, sym, ◌∙◌, ap, subst}
use Rattle.std.specs.Prelude.{pos}
use Rattle.behavior.specs.Ending.{Strayed}
use Rattle.rd_num.specs.Number.{le_bytes, le_number}
use Rattle.x86_core.specs.declared.reg.Reg.{Reg}
use Rattle.x86_core.specs.declared.reg.Reg.TheVariants.{Rsp, Rsi, R11}
use Rattle.x86_core.specs.declared.image.Segment.{Segment}
use Rattle.x86_core.specs.declared.effect.Access.{Access}
use Rattle.x86_core.specs.declared.effect.Access.TheVariants.{Nothing, Read, Write}
use Rattle.x86_core.specs.declared.effect.Next.{Next}
use Rattle.x86_core.specs.declared.effect.Next.TheVariants as next
use Rattle.x86_core.specs.declared.effect.Change.{Change}
use Rattle.x86_core.specs.Registers.{word, with_word}
use Rattle.x86_core.specs.Arithmetic.{holds, moved}
use Rattle.x86_core.specs.Effect.{effect_of}
use Rattle.x86_core.specs.Memory.{read_at, write_at, data_of, code_of}
use Rattle.x86_core.specs.Step.{State, Fetched, Stops, Plain, Goes, Tests, Calls, Returns, Follows, CallsWord, Systems, size_bytes, after_read, after_write, by_access, by_change, tested, landed, returned, below, called, called_word, after_print, after_take, next_byte, Request, Exits, Idles, Prints, Takes, Unknowns, request_of, served, act}
use Rattle.x86_core.specs.Run.{wrote}
use Rattle.obj_core.specs.declared.object.Place.{Place}
use Rattle.obj_lay.specs.Held.{AreHidden}
use Rattle.obj_lay.specs.Mirrors.{at_address, Mirrors}
use Rattle.obj_lay.proofs.lockstep.Segments.{read_same, write_same, data_after, CodeStays, code_stays}

-- what is fetched, with addresses for places
abbrev pub addressed : (Place → ℕ) → Fetched Place → Fetched ℕ
addressed f (Stops e) = Stops e
addressed f (Plain i after) = Plain i (f after)
addressed f (Goes to) = Goes (f to)
addressed f (Tests c to after) = Tests c (f to) (f after)
addressed f (Calls to back) = Calls (f to) back
addressed f Returns = Returns
addressed f Follows = Follows
addressed f (CallsWord back) = CallsWord back
addressed f (Systems after back) = Systems (f after) back

-- a step may stand at each place that it comes to, but by a word
abbrev pub StaysWithin : (Place → Bool) → Fetched Place → Type 0
StaysWithin is_place (Stops e) = Unit {0}
StaysWithin is_place (Plain i after) = is_place after ≡ true
StaysWithin is_place (Goes to) = is_place to ≡ true
StaysWithin is_place (Tests c to after) = (is_place to ≡ true) × (is_place after ≡ true)
StaysWithin is_place (Calls to back) = is_place to ≡ true
StaysWithin is_place Returns = Unit {0}
StaysWithin is_place Follows = Unit {0}
StaysWithin is_place (CallsWord back) = Unit {0}
StaysWithin is_place (Systems after back) = is_place after ≡ true

-- the place of a word is one, and stands at the word
abbrev pub IsPlaceAt : (Place → ℕ) → (Place → Bool) → ℕ → Option Place → Type 0
IsPlaceAt place is_place w None = Unit {0}
IsPlaceAt place is_place w (Some p) = (place p ≡ w) × (is_place p ≡ true)

module _ (exec : List Segment) (hidden : AreHidden exec) (place : Place → ℕ) (is_place : Place → Bool) (a : State Place) (segments : List Segment) (readable : data_of segments ≡ a.segments) (runs : code_of segments ≡ exec) (here : is_place a.place ≡ true) where
  -- the state of the machine
  abbrev b : State ℕ
  b = at_address place segments a

  -- a state of the machine that stands for one of the object
  abbrev R : State Place → State ℕ → Type 0
  R = Mirrors exec place is_place

  -- where memory stays
  unwritten : (a2 : State Place) → a2.segments ≡ a.segments → is_place a2.place ≡ true → R a2 (at_address place segments a2)
  unwritten a2 e k = record { segments = segments; same = refl; readable = readable ∙ sym e; runs = runs; here = k }

  -- a read has one answer
  over_read : (at n : ℕ) (M : Option (List ℕ) → Option (List ℕ) → Type 0) → ((o : Option (List ℕ)) → M o o) → M (read_at a.segments at n) (read_at segments at n)
  over_read at n M both =
      let e : read_at segments at n ≡ read_at a.segments at n = read_same segments at n ∙ ap (λ ss. read_at ss at n) readable in
      subst (M (read_at a.segments at n)) (sym e) (both (read_at a.segments at n))

  -- a write has one answer, but for the code behind it
  over_write : (at : ℕ) (bs : List ℕ) (M : Option (List Segment) → Option (List Segment) → Type 0) → ((o : Option (List Segment)) → CodeStays exec o → M (data_after o) o) → M (write_at a.segments at bs) (write_at segments at bs)
  over_write at bs M both =
      let e : write_at a.segments at bs ≡ data_after (write_at segments at bs) = ap (λ ss. write_at ss at bs) (sym readable) ∙ write_same segments at bs in
      let stays : CodeStays exec (write_at segments at bs) = subst (λ c. CodeStays c (write_at segments at bs)) runs (code_stays segments at bs (subst AreHidden (sym runs) hidden)) in
      subst (λ o. M o (write_at segments at bs)) (sym e) (both (write_at segments at bs) stays)

  -- after each answer of memory
  read_mirrors : (c : Change) (into : Reg) (after : Place) → is_place after ≡ true → (o : Option (List ℕ)) → R (after_read o c into after a) (after_read o c into (place after) b)
  read_mirrors c into after k None = unwritten (after_read None c into after a) refl here
  read_mirrors c into after k (Some bytes) = unwritten (after_read (Some bytes) c into after a) refl k

  write_mirrors : (c : Change) (after : Place) → is_place after ≡ true → (o : Option (List Segment)) → CodeStays exec o → R (after_write (data_after o) c after a) (after_write o c (place after) b)
  write_mirrors c after k None h = unwritten (after_write None c after a) refl here
  write_mirrors c after k (Some ss) h = record { segments = ss; same = refl; readable = refl; runs = h; here = k }

  -- an instruction with its access
  access_mirrors : (x : Access) (c : Change) (after : Place) → is_place after ≡ true → R (by_access x c after a) (by_access x c (place after) b)
  access_mirrors Nothing c after k = unwritten (by_access Nothing c after a) refl k
  access_mirrors (Read at size into) c after k = over_read at (size_bytes size) (λ x y. R (after_read x c into after a) (after_read y c into (place after) b)) (read_mirrors c into after k)
  access_mirrors (Write at size n) c after k = over_write at (le_bytes (size_bytes size) n) (λ x y. R (after_write x c after a) (after_write y c (place after) b)) (write_mirrors c after k)

  -- an instruction that goes on, or has no answer
  change_mirrors : (n : Next) (c : Change) (after : Place) → is_place after ≡ true → R (by_change n c after a) (by_change n c (place after) b)
  change_mirrors next.Divide c after k = unwritten (by_change next.Divide c after a) refl here
  change_mirrors next.NoFlag c after k = unwritten (by_change next.NoFlag c after a) refl here
  change_mirrors n c after k = access_mirrors c.access c after k

  -- a branch under a condition
  test_mirrors : (o : Option Bool) (to after : Place) → is_place to ≡ true → is_place after ≡ true → R (tested o to after a) (tested o (place to) (place after) b)
  test_mirrors None to after k l = unwritten (tested None to after a) refl here
  test_mirrors (Some true) to after k l = unwritten (tested (Some true) to after a) refl k
  test_mirrors (Some false) to after k l = unwritten (tested (Some false) to after a) refl l

  -- to the place of a word
  land_mirrors : (w : ℕ) (regs : List ℕ) (o : Option Place) → IsPlaceAt place is_place w o → (landed o regs a).ending ≢ Strayed → R (landed o regs a) (landed (Some w) regs b)
  land_mirrors w regs None h straight = absurd (straight refl)
  land_mirrors w regs (Some p) h straight = subst (λ n. R (landed (Some p) regs a) (landed (Some n) regs b)) h.0 (unwritten (landed (Some p) regs a) refl h.1)

  -- a call
  call_mirrors : (to : Place) → is_place to ≡ true → (o : Option (List Segment)) → CodeStays exec o → R (called to (data_after o) a) (called (place to) o b)
  call_mirrors to k None h = unwritten (called to None a) refl here
  call_mirrors to k (Some ss) h = record { segments = ss; same = refl; readable = refl; runs = h; here = k }

  -- a call of a word
  word_mirrors : (w : ℕ) (p : Option Place) → IsPlaceAt place is_place w p → (o : Option (List Segment)) → CodeStays exec o → (called_word p (data_after o) a).ending ≢ Strayed → R (called_word p (data_after o) a) (called_word (Some w) o b)
  word_mirrors w p h None c straight = unwritten (called_word p None a) refl here
  word_mirrors w None h (Some ss) c straight = absurd (straight refl)
  word_mirrors w (Some p) h (Some ss) c straight =
      subst (λ n. R (called_word (Some p) (Some (data_of ss)) a) (called_word (Some n) (Some ss) b)) h.0
      (record { segments = ss; same = refl; readable = refl; runs = c; here = h.1 })

  -- the system calls
  print_mirrors : (count : ℕ) (after : Place) (back : ℕ) → is_place after ≡ true → (o : Option (List ℕ)) → R (after_print o count after back a) (after_print o count (place after) back b)
  print_mirrors count after back k None = unwritten (after_print None count after back a) refl k
  print_mirrors count after back k (Some bytes) = unwritten (after_print (Some bytes) count after back a) refl k

  take_mirrors : (bytes : List ℕ) (after : Place) (back : ℕ) → is_place after ≡ true → (o : Option (List Segment)) → CodeStays exec o → R (after_take (data_after o) bytes after back a) (after_take o bytes (place after) back b)
  take_mirrors bytes after back k None h = unwritten (after_take None bytes after back a) refl k
  take_mirrors [] after back k (Some ss) h = unwritten (after_take (Some (data_of ss)) [] after back a) refl k
  take_mirrors (x ∷ xs) after back k (Some ss) h = record { segments = ss; same = refl; readable = refl; runs = h; here = k }

  serve_mirrors : (r : Request) (after : Place) (back : ℕ) → is_place after ≡ true → R (served r after back a) (served r (place after) back b)
  serve_mirrors Exits after back k = unwritten (served Exits after back a) refl here
  serve_mirrors Idles after back k = unwritten (served Idles after back a) refl k
  serve_mirrors (Prints count) after back k = over_read (word a.regs Rsi) count (λ x y. R (after_print x count after back a) (after_print y count (place after) back b)) (print_mirrors count after back k)
  serve_mirrors Takes after back k = over_write (word a.regs Rsi) (next_byte a.left ∷ []) (λ x y. R (after_take x a.left after back a) (after_take y a.left (place after) back b)) (take_mirrors a.left after back k)
  serve_mirrors Unknowns after back k = unwritten (served Unknowns after back a) refl here

  module _ (land : ℕ → Option Place) (lands : (w : ℕ) → IsPlaceAt place is_place w (land w)) where
    -- a return
    return_mirrors : (o : Option (List ℕ)) → (returned land o a).ending ≢ Strayed → R (returned land o a) (returned Some o b)
    return_mirrors None straight = unwritten (returned land None a) refl here
    return_mirrors (Some bytes) straight = land_mirrors (le_number bytes) (with_word a.regs Rsp (moved (word a.regs Rsp) (pos 8))) (land (le_number bytes)) (lands (le_number bytes)) straight

    -- what was fetched is done, unless it strays
    pub act_mirrors : (x : Fetched Place) → StaysWithin is_place x → (act land x a).ending ≢ Strayed → Mirrors exec place is_place (act land x a) (act Some (addressed place x) (at_address place segments a))
    act_mirrors (Stops e) k straight = unwritten (act land (Stops e) a) refl here
    act_mirrors (Plain i after) k straight = let c = effect_of i a.regs a.flags in change_mirrors c.next c after k
    act_mirrors (Goes to) k straight = unwritten (act land (Goes to) a) refl k
    act_mirrors (Tests c to after) k straight = test_mirrors (holds c a.flags) to after k.0 k.1
    act_mirrors (Calls to back) k straight = over_write (below a.regs) (le_bytes 8 back) (λ x y. R (called to x a) (called (place to) y b)) (call_mirrors to k)
    act_mirrors Returns k straight =
        over_read (word a.regs Rsp) 8 (λ x y. (returned land x a).ending ≢ Strayed → R (returned land x a) (returned Some y b)) return_mirrors straight
    act_mirrors Follows k straight = land_mirrors (word a.regs R11) a.regs (land (word a.regs R11)) (lands (word a.regs R11)) straight
    act_mirrors (CallsWord back) k straight =
        let w = word a.regs R11 in
        over_write (below a.regs) (le_bytes 8 back) (λ x y. (called_word (land w) x a).ending ≢ Strayed → R (called_word (land w) x a) (called_word (Some w) y b)) (word_mirrors w (land w) (lands w)) straight
    act_mirrors (Systems after back) k straight = serve_mirrors (request_of a.regs) after back k

  -- a write by somebody who looks on
  written_mirrors : (o : Option (List Segment)) → CodeStays exec o → R (wrote (data_after o) a) (wrote o b)
  written_mirrors None h = unwritten a refl here
  written_mirrors (Some ss) h = record { segments = ss; same = refl; readable = refl; runs = h; here = here }

  pub write_act_mirrors : (at : ℕ) (bs : List ℕ) → Mirrors exec place is_place (wrote (write_at a.segments at bs) a) (wrote (write_at segments at bs) (at_address place segments a))
  write_act_mirrors at bs = over_write at bs (λ x y. R (wrote x a) (wrote y b)) written_mirrors
