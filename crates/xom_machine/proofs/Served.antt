-- What the kernel does is what the machine's definition says, for each of its answers and each fault of the outside.
use Rattle.std.proofs.Common.{◌≡◌, ℕ, ◌+◌, ◌<◌, Bool, true, false, List, [], ◌∷◌, length, Option, Some, None, Result, Ok, Err, refl, sym, ap, subst, ◌∙◌, inl, inr, arith, length-append}
use Rattle.rd_io.specs.Outside.{Gets, GetsPart, Counts, CountsPart, Takes}
use Rattle.rd_io.specs.declared.RunFault.{RunFault}
use Rattle.rd_io.specs.declared.RunFault.TheVariants as fault
use Rattle.rd_io.proofs.Grown.{gets_both, counts_both}
use Rattle.x86_core.specs.declared.reg.Reg.TheVariants.{Rsi}
use Rattle.x86_core.specs.declared.image.Segment.{Segment}
use Rattle.x86_core.specs.Registers.{word}
use Rattle.x86_core.specs.Memory.{writes, is_allowed, one_covers, read_at, write_at}
use Rattle.x86_core.specs.Step.{State, answered, bad_address, after_print, after_take, next_byte, served}
use Rattle.x86_core.specs.Step as request
use Rattle.xom_memory.proofs.Allowed.{write_refused, write_allowed}
use Rattle.xom_machine.specs.declared.context.Context.{Context}
use Rattle.xom_machine.specs.declared.machine.Machine.{Machine}
use Rattle.xom_machine.specs.Whole.{over}
use Rattle.xom_machine.specs.Standing.{state_of, StreamsTold, streams, Stands}
use Rattle.xom_machine.specs.Calls.{Did, Ran, Kept, Becomes, GotPart, AsksIn, piece_of}

-- a context and a memory that are the same are the same machine
pub whole_same : (c c2 : Context) (s s2 : List Segment) → c ≡ c2 → s ≡ s2 → over c s ≡ over c2 s2
whole_same c c2 s s2 e f = ap (λ (x : Context). over x s) e ∙ ap (over c2) f

-- what the machine does alone leaves the outside as it is
pub silent : (f : State ℕ → State ℕ) (m m2 : Machine) (a : StreamsTold) → Becomes f m m2 → Did f m m2 a a
unfolding Did
silent f m m2 a h xs printed taken first left got counted =
    let P : State ℕ → Type 0 = λ s. Stands s m2 first a in
    subst P (h xs printed taken) (record { machine = refl; left = left; written = got; total = counted })

pub done : (f : State ℕ → State ℕ) (m m2 m3 : Machine) (a b : StreamsTold) → m2 ≡ m3 → Did f m m3 a b → Ran {T = Unit {0}} f m m2 a b (Ok tt)
unfolding Ran
done f m m2 m3 a b e d = let P : Machine → Type 0 = λ n. Did f m n a b in subst P (sym e) d

pub done_alone : (f : State ℕ → State ℕ) (m m2 m3 : Machine) (a : StreamsTold) → m2 ≡ m3 → Becomes f m m3 → Ran {T = Unit {0}} f m m2 a a (Ok tt)
done_alone f m m2 m3 a e h = done f m m2 m3 a a e (silent f m m3 a h)

pub cut_off : (f : State ℕ → State ℕ) (m : Machine) (a b : StreamsTold) (e : RunFault) → Kept f m a b e → Ran {T = Unit {0}} f m m a b (Err e)
unfolding Ran
cut_off f m a b e k = (refl, k)

-- what the machine does alone where the outside told the same before and after
pub done_unasked : (f : State ℕ → State ℕ) (m m2 m3 : Machine) (a b : StreamsTold) → m2 ≡ m3 → Becomes f m m3 → b ≡ a → Ran {T = Unit {0}} f m m2 a b (Ok tt)
done_unasked f m m2 m3 a b e h same = let P : StreamsTold → Type 0 = λ t. Ran {T = Unit {0}} f m m2 a t (Ok tt) in subst P (sym same) (done_alone f m m2 m3 a e h)

-- memory was wanting before the outside had a part
pub wanted : (f : State ℕ → State ℕ) (m m2 : Machine) (a b : StreamsTold) → m2 ≡ m → b ≡ a → Ran {T = Unit {0}} f m m2 a b (Err fault.NoMemory)
unfolding Ran
wanted f m m2 a b e same = (e, inl same)

-- the input failed
pub asked_in_vain : (f : State ℕ → State ℕ) (m m2 : Machine) (a b : StreamsTold) → m2 ≡ m → AsksIn f m → b ≡ a → Ran {T = Unit {0}} f m m2 a b (Err fault.Input)
unfolding Ran
asked_in_vain f m m2 a b e asks same = (e, (asks, same))

-- the same for another that does the same from each state in which the machine stands
pub ran_as : {T : Type 0} (f h : State ℕ → State ℕ) (m m2 : Machine) (a b : StreamsTold) (r : Result T RunFault) →
    ((left printed : List ℕ) (taken : ℕ) → f (state_of m left printed taken) ≡ h (state_of m left printed taken)) → Ran f m m2 a b r → Ran h m m2 a b r
unfolding Ran Did
ran_as f h m m2 a b (Ok x) same d = λ xs printed taken first left got counted. let P : State ℕ → Type 0 = λ s. Stands s m2 first b in subst P (same xs printed taken) (d xs printed taken first left got counted)
ran_as f h m m2 a b (Err e) same d = (d.0, kept e d.1)
  where
    kept : (e : RunFault) → Kept f m a b e → Kept h m a b e
    kept fault.Input k = (ap (λ (s : State ℕ). s.taken) (sym (same (0 ∷ []) [] 0)) ∙ k.0, k.1)
    kept fault.Output k = let P : List ℕ → Type 0 = λ p. GotPart a b [] p in (k.0, subst P (ap (λ (s : State ℕ). s.printed) (same [] [] 0)) k.1)
    kept fault.NoMemory (inl k) = inl k
    kept fault.NoMemory (inr k) = let P : List ℕ → Type 0 = λ p. GotPart a b [] p in inr (k.0, subst P (ap (λ (s : State ℕ). s.printed) (same [] [] 0)) k.1)

module _ (m : Machine) (after : ℕ) where
  abbrev with_answer : ℕ → Machine
  with_answer n = record m { regs = answered m.regs m.flags n after; next = after }

  pub print_refused : (count : ℕ) → read_at m.memory (word m.regs Rsi) count ≡ None → Becomes (served (request.Prints count) after after) m (with_answer bad_address)
  print_refused count e left printed taken =
      ap (λ o. after_print o count after after (state_of m left printed taken)) (sym e)

  pub print_done : (count : ℕ) (bytes : List ℕ) (left : Option (List ℕ)) (w w2 : Option (List ℕ)) (t t2 : Option ℕ) → read_at m.memory (word m.regs Rsi) count ≡ Some bytes →
      Gets w w2 bytes → Counts t t2 (length bytes) → Did (served (request.Prints count) after after) m (with_answer count) (streams left w t) (streams left w2 t2)
  unfolding Did
  print_done count bytes left w w2 t t2 e g c xs printed taken first is got counted =
      let s : State ℕ = state_of m xs printed taken in
      let P : Option (List ℕ) → Type 0 = λ o. Stands (after_print o count after after s) (with_answer count) first (streams left w2 t2) in
      subst P (sym e) (record {
        machine = refl;
        left = is;
        written = gets_both first.written w w2 printed bytes got g;
        total = let Q : ℕ → Type 0 = λ n. Counts first.total t2 n in subst Q (sym (length-append printed bytes)) (counts_both first.total t t2 (length printed) (length bytes) counted c);
      })

  -- the piece that a print puts
  piece : (count : ℕ) (bytes : List ℕ) → read_at m.memory (word m.regs Rsi) count ≡ Some bytes → bytes ≡ piece_of (served (request.Prints count) after after) m
  piece count bytes e = ap (λ o. (after_print o count after after (state_of m [] [] 0)).printed) (sym e)

  pub print_cut : (count : ℕ) (bytes : List ℕ) (left : Option (List ℕ)) (w w2 : Option (List ℕ)) (t t2 : Option ℕ) → read_at m.memory (word m.regs Rsi) count ≡ Some bytes →
      0 < length bytes → GetsPart w w2 bytes → CountsPart t t2 (length bytes) →
      GotPart (streams left w t) (streams left w2 t2) [] (piece_of (served (request.Prints count) after after) m)
  print_cut count bytes left w w2 t t2 e some g c =
      let P : List ℕ → Type 0 = λ p. GotPart (streams left w t) (streams left w2 t2) [] p in
      subst P (piece count bytes e) (record { some = some; written = g; total = (c.0, (c.1.0, let e : c.0 ≡ 0 + c.0 = omega arith in let Q : ℕ → Type 0 = λ n. Counts t t2 n in subst Q e c.1.1)) })

  -- where a byte may not be written, no byte of any input may
  refused_byte : (b : ℕ) → is_allowed writes m.memory (word m.regs Rsi) 1 ≡ false → write_at m.memory (word m.regs Rsi) (b ∷ []) ≡ None
  refused_byte b e = by (write_at m.memory (word m.regs Rsi) (b ∷ [])) refl
    where
      by : (o : Option (List Segment)) → write_at m.memory (word m.regs Rsi) (b ∷ []) ≡ o → o ≡ None
      by None f = refl
      by (Some ss) f = let h : one_covers writes m.memory (word m.regs Rsi) 1 ≡ true = write_allowed m.memory ss (word m.regs Rsi) (b ∷ []) f in absurd (cc)

  pub take_refused : is_allowed writes m.memory (word m.regs Rsi) 1 ≡ false → Becomes (served request.Takes after after) m (with_answer bad_address)
  take_refused e left printed taken =
      ap (λ o. after_take o left after after (state_of m left printed taken)) (sym (refused_byte (next_byte left) e))

  -- where a byte may be written, some segments are left by a write
  some_after : (b : ℕ) → is_allowed writes m.memory (word m.regs Rsi) 1 ≡ true → (ss : List Segment) × (write_at m.memory (word m.regs Rsi) (b ∷ []) ≡ Some ss)
  some_after b e = by (write_at m.memory (word m.regs Rsi) (b ∷ [])) refl
    where
      by : (o : Option (List Segment)) → write_at m.memory (word m.regs Rsi) (b ∷ []) ≡ o → (ss : List Segment) × (o ≡ Some ss)
      by None f = let h : one_covers writes m.memory (word m.regs Rsi) 1 ≡ false = write_refused m.memory (word m.regs Rsi) (b ∷ []) f in absurd (cc)
      by (Some ss) f = (ss, refl)

  pub take_asks : is_allowed writes m.memory (word m.regs Rsi) 1 ≡ true → AsksIn (served request.Takes after after) m
  take_asks e = let x = some_after 0 e in ap (λ o. (after_take o (0 ∷ []) after after (state_of m (0 ∷ []) [] 0)).taken) x.1

  pub take_end : (E : Type 0) (l l2 w : Option (List ℕ)) (t : Option ℕ) (o : Option ℕ) → o ≡ None → is_allowed writes m.memory (word m.regs Rsi) 1 ≡ true → Takes {E = E} l l2 (Ok o) →
      Did (served request.Takes after after) m (with_answer 0) (streams l w t) (streams l2 w t)
  unfolding Did
  take_end E None l2 w t o n e h xs printed taken first is got counted = absurd (cc)
  take_end E (Some []) l2 w t o n e h [] printed taken first is got counted =
      let x = some_after 0 e in
      let s : State ℕ = state_of m [] printed taken in
      let P : Option (List Segment) → Type 0 = λ o. Stands (after_take o [] after after s) (with_answer 0) first (streams l2 w t) in
      subst P (sym x.1) (record { machine = refl; left = h.1; written = got; total = counted })
  take_end E (Some []) l2 w t o n e h (y ∷ ys) printed taken first is got counted = absurd (cc)
  take_end E (Some (x ∷ xs)) l2 w t o n e h ys printed taken first is got counted = let f = h.0 in absurd (cc)

  pub take_done : (E : Type 0) (l l2 w : Option (List ℕ)) (t : Option ℕ) (b : ℕ) (o : Option ℕ) (ss : List Segment) → o ≡ Some b → write_at m.memory (word m.regs Rsi) (b ∷ []) ≡ Some ss → Takes {E = E} l l2 (Ok o) →
      Did (served request.Takes after after) m (record m { memory = ss; regs = answered m.regs m.flags 1 after; next = after }) (streams l w t) (streams l2 w t)
  unfolding Did
  take_done E None l2 w t b o ss n e h xs printed taken first is got counted = absurd (cc)
  take_done E (Some []) l2 w t b o ss n e h xs printed taken first is got counted = let f = h.0 in absurd (cc)
  take_done E (Some (x ∷ xs)) l2 w t b o ss n e h ys printed taken first is got counted =
      let all : x ∷ xs ≡ ys = cc in
      let first_byte : b ≡ x = let f = h.0 in cc in
      let s : State ℕ = state_of m (x ∷ xs) printed taken in
      let m2 : Machine = record m { memory = ss; regs = answered m.regs m.flags 1 after; next = after } in
      let P : Option (List Segment) → Type 0 = λ o. Stands (after_take o (x ∷ xs) after after s) m2 first (streams l2 w t) in
      let f : write_at m.memory (word m.regs Rsi) (x ∷ []) ≡ Some ss = subst (λ (n : ℕ). write_at m.memory (word m.regs Rsi) (n ∷ []) ≡ Some ss) first_byte e in
      let Q : List ℕ → Type 0 = λ zs. Stands (served request.Takes after after (state_of m zs printed taken)) m2 first (streams l2 w t) in
      subst Q all (subst P (sym f) (record { machine = refl; left = h.1; written = got; total = counted }))

-- a source that failed has lost nothing
pub take_lost : (E : Type 0) (l l2 : Option (List ℕ)) (e : E) → Takes {E = E} l l2 (Err e) → l2 ≡ l
take_lost E None l2 e h = h
take_lost E (Some xs) l2 e h = h

pub not_true : (b : Bool) → (b ≡ true → false ≡ true) → b ≡ false
not_true true h = sym (h refl)
not_true false h = refl

-- a call that needs the machine alone, by what it is that the registers ask for
pub by_request : (m m2 m3 : Machine) (after : ℕ) (a : StreamsTold) (r r2 : request.Request) → r ≡ r2 → m2 ≡ m3 → Becomes (served r after after) m m3 → Ran {T = Unit {0}} (served r2 after after) m m2 a a (Ok tt)
by_request m m2 m3 after a r r2 e f h =
    let P : request.Request → Type 0 = λ r. Ran {T = Unit {0}} (served r after after) m m2 a a (Ok tt) in
    subst P e (done_alone (served r after after) m m2 m3 a f h)
