-- System calls: what registers ask for, and what a step at the slot gives.
use Rattle.std.proofs.Common.{◌≡◌, ℕ, ◌+◌, ◌≤◌, true, ◌&&◌, nat_eq, min, if◌then◌else◌, List, [], ◌∷◌, ◌++◌, Some, refl, sym, ◌∙◌, ap, arith}
use Rattle.std.specs.Prelude.{slice_get, ◌%◌}
use Rattle.std.proofs.lemmas.Bool.{ne_eqb}
use Rattle.behavior.specs.Ending.{Ended}
use Rattle.x86_core.specs.declared.reg.Reg.TheVariants.{Rax, Rdi, Rsi, Rdx}
use Rattle.x86_core.specs.Registers.{word}
use Rattle.x86_core.specs.Memory.{reads, one_covers, read_at, write_at}
use Rattle.x86_core.specs.Step.{State, Request, Exits, Idles, Prints, Takes, Unknowns, request_of, served, after_print, after_take}
use Rattle.x86_rows.specs.Addresses.{range_at, AreDisjoint, Written}
use Rattle.x86_rows.specs.Straight.{Core}
use Rattle.x86_rows.proofs.Reading.{read_range}
use Rattle.obj_core.specs.declared.object.Object.{Object}
use Rattle.obj_core.specs.declared.object.Slot.{Slot}
use Rattle.obj_core.specs.declared.object.CodeAt.{CodeAt}
use Rattle.obj_core.specs.declared.object.Place.{Place}
use Rattle.obj_core.specs.Slots.{slot_start}
use Rattle.obj_core.specs.SymbolicMachine.{symbolic_step}
use Rattle.obj_rows.specs.Standing.{Outside, standing, after_call}
use Rattle.obj_rows.proofs.Slots.{system_serves}

-- the request of a call with these numbers
abbrev asked : ℕ → ℕ → ℕ → Request
asked call first count =
    if nat_eq call 60 then Exits else
    (if nat_eq call 1 && nat_eq first 1 then (if nat_eq count 0 then Idles else Prints count) else
    (if nat_eq call 0 && nat_eq first 0 then (if nat_eq count 0 then Idles else Takes) else Unknowns))

request_is : (regs : List ℕ) (call first count : ℕ) → word regs Rax ≡ call → word regs Rdi ≡ first → min (word regs Rdx) 4096 ≡ count → request_of regs ≡ asked call first count
unfolding request_of
request_is regs call first count a b c =
    ap (λ n. asked n (word regs Rdi) (min (word regs Rdx) 4096)) a ∙ ap (λ n. asked call n (min (word regs Rdx) 4096)) b ∙ ap (asked call first) c

-- to end
pub asks_to_exit : (regs : List ℕ) → word regs Rax ≡ 60 → request_of regs ≡ Exits
asks_to_exit regs e = request_is regs 60 (word regs Rdi) (min (word regs Rdx) 4096) e refl refl

-- to print up to 4,096 bytes
pub asks_to_print : (regs : List ℕ) (count : ℕ) → word regs Rax ≡ 1 → word regs Rdi ≡ 1 → word regs Rdx ≡ count → 1 ≤ count → count ≤ 4096 → request_of regs ≡ Prints count
asks_to_print regs count e f g some few =
    let least : min (word regs Rdx) 4096 ≡ count = omega (arith, g, few) in
    request_is regs 1 1 count e f least ∙ ap (λ b. if b then Idles else Prints count) (ne_eqb count 0 (λ z. omega (arith, some, z)))

-- to take a byte
pub asks_to_take : (regs : List ℕ) → word regs Rax ≡ 0 → word regs Rdi ≡ 0 → 1 ≤ word regs Rdx → request_of regs ≡ Takes
asks_to_take regs e f some =
    let count = min (word regs Rdx) 4096 in
    request_is regs 0 0 count e f refl ∙ ap (λ b. if b then Idles else Takes) (ne_eqb count 0 (λ z. omega (arith, some, z)))

module _ (o : Object) (out : Outside) (k : ℕ) (c : Core) (back : CodeAt) (found : slice_get o.slots k ≡ Some (Slot.System back)) where
  abbrev here : State Place
  here = standing out (Place.Slot k 0) c

  abbrev behind : ℕ
  behind = slot_start o k + 2

  serves : (r : Request) → request_of c.regs ≡ r → symbolic_step o here ≡ served r (Place.Slot k 2) behind here
  serves r asks = system_serves o out k c back found ∙ ap (λ x. served x (Place.Slot k 2) behind here) asks

  -- the run ends with the low byte of rdi
  pub exits : request_of c.regs ≡ Exits → symbolic_step o here ≡ record here { ending = Ended (word c.regs Rdi % 256) }
  exits asks = serves Exits asks

  -- bytes are printed that may be read
  pub prints : (count at : ℕ) → request_of c.regs ≡ Prints count → word c.regs Rsi ≡ at → AreDisjoint c.segments → 1 ≤ count → one_covers reads c.segments at count ≡ true →
      symbolic_step o here ≡ standing (record out { printed = out.printed ++ range_at c.segments at count }) (Place.Slot k 2) (after_call c count behind)
  prints count at asks there apart some allowed =
      let read : read_at c.segments (word c.regs Rsi) count ≡ Some (range_at c.segments at count) = ap (λ p. read_at c.segments p count) there ∙ read_range c.segments at count apart some allowed in
      serves (Prints count) asks ∙ ap (λ x. after_print x count (Place.Slot k 2) behind here) read

  -- a byte of the input is put where it may be written
  pub takes : (at b : ℕ) (bs : List ℕ) → request_of c.regs ≡ Takes → word c.regs Rsi ≡ at → out.left ≡ b ∷ bs → (x : Written c.segments at (b ∷ [])) →
      symbolic_step o here ≡ standing (record out { left = bs; taken = out.taken + 1 }) (Place.Slot k 2) (after_call (record c { segments = x.segments }) 1 behind)
  takes at b bs asks there left x =
      serves Takes asks ∙
      ap (λ (l : List ℕ). served Takes (Place.Slot k 2) behind (record here { left = l })) left ∙
      ap (λ p. after_take (write_at c.segments p (b ∷ [])) (b ∷ bs) (Place.Slot k 2) behind (record here { left = b ∷ bs })) there ∙
      ap (λ w. after_take w (b ∷ bs) (Place.Slot k 2) behind (record here { left = b ∷ bs })) x.gives

  -- at the end of the input nothing is put there
  pub takes_none : (at : ℕ) → request_of c.regs ≡ Takes → word c.regs Rsi ≡ at → out.left ≡ [] → Written c.segments at (0 ∷ []) → symbolic_step o here ≡ standing out (Place.Slot k 2) (after_call c 0 behind)
  takes_none at asks there left x =
      let none : State Place = record here { left = [] } in
      serves Takes asks ∙
      ap (λ (l : List ℕ). served Takes (Place.Slot k 2) behind (record here { left = l })) left ∙
      ap (λ p. after_take (write_at c.segments p (0 ∷ [])) [] (Place.Slot k 2) behind none) there ∙
      ap (λ w. after_take w [] (Place.Slot k 2) behind none) x.gives ∙
      ap (λ (l : List ℕ). standing (record out { left = l }) (Place.Slot k 2) (after_call c 0 behind)) (sym left)
