-- What is noted of a row with one instruction more.
use Rattle.std.proofs.Common.{◌≡◌, ℕ, ◌+◌, ◌<◌, ◌≤◌, Bool, true, false, ◌||◌, ◌&&◌, List, [], ◌∷◌, ◌++◌, length, Option, None, Some, refl, sym, ◌∙◌, ap, subst, length-append, arith}
use Rattle.std.specs.Prelude.{nat_eq, if◌then◌else◌}
use Rattle.x86_core.specs.declared.instr.Instr.{Instr}
use Rattle.x86_core.specs.declared.reg.Reg.{Reg}
use Rattle.x86_core.specs.Encoding.{encoding}
use Rattle.obj_core.specs.Disassembly.{Found, found, found_from, size_of, spelled, starts_at, IsDisassembly}
use Rattle.obj_core.specs.Saved.{registers_of, is_push_or_pop, is_among, occurs}
use Rattle.obj_core.specs.WellFormed.{displacement, is_zero, is_slots_own, is_end, end_of, fills_zero, stops_at, forbidden_in, open_end}
use Rattle.obj_check.specs.declared.instr_at.InstrAt.{InstrAt}
use Rattle.obj_check.specs.declared.notes.Notes.{Notes}
use Rattle.obj_check.specs.Instrs.{StandsAt}
use Rattle.obj_check.specs.Noted.{HasRoom, KeepsRoom, AreNotesOf, AddsNote}
use Rattle.obj_check.specs.Least.{lesser_of, least_with}
use Rattle.obj_check.specs.Disassembled.{IsNoted}
use Rattle.obj_check.proofs.Rows.{RowTo, row_more, row_disassembly, some_row, disassembly_is}
use Rattle.obj_check.proofs.Tables.{least_append}

or_swap : (a b c : Bool) → (a || (b || c)) ≡ (b || (a || c))
or_swap true true c = refl
or_swap true false c = refl
or_swap false true c = refl
or_swap false false c = refl

found_push : (k : ℕ) (row : List Instr) (i : Instr) → found_from k (row ++ i ∷ []) ≡ found_from k row ++ record { at = k + length (spelled row); instr = i } ∷ []
found_push k [] i = let e : k ≡ k + 0 = omega arith in ap (λ (n : ℕ). let x : Found = record { at = n; instr = i } in x ∷ []) e
found_push k (j ∷ row) i =
    let e : (k + size_of j) + length (spelled row) ≡ k + length (encoding j ++ spelled row) = omega (arith, length-append (encoding j) (spelled row)) in
    ap (λ r. let x : Found = record { at = k; instr = j } in x ∷ r) (found_push (k + size_of j) row i ∙ ap (λ (n : ℕ). let x : Found = record { at = n; instr = i } in found_from (k + size_of j) row ++ x ∷ []) e)

starts_push : (xs : List Found) (x : Found) (k : ℕ) → starts_at (xs ++ x ∷ []) k ≡ (nat_eq x.at k || starts_at xs k)
starts_push [] x k = refl
starts_push (y ∷ ys) x k = ap (λ (b : Bool). nat_eq y.at k || b) (starts_push ys x k) ∙ or_swap (nat_eq y.at k) (nat_eq x.at k) (starts_at ys k)

zeros_push : (xs : List Found) (x : Found) (k : ℕ) → fills_zero (xs ++ x ∷ []) k ≡ ((nat_eq (end_of x) (k + 4) && is_zero (displacement x.instr)) || fills_zero xs k)
zeros_push [] x k = refl
zeros_push (y ∷ ys) x k =
    ap (λ (b : Bool). (nat_eq (end_of y) (k + 4) && is_zero (displacement y.instr)) || b) (zeros_push ys x k) ∙
    or_swap (nat_eq (end_of y) (k + 4) && is_zero (displacement y.instr)) (nat_eq (end_of x) (k + 4) && is_zero (displacement x.instr)) (fills_zero ys k)

stops_push : (xs : List Found) (x : Found) (k : ℕ) → stops_at (xs ++ x ∷ []) k ≡ ((nat_eq (end_of x) k && is_end x.instr) || stops_at xs k)
stops_push [] x k = refl
stops_push (y ∷ ys) x k =
    ap (λ (b : Bool). (nat_eq (end_of y) k && is_end y.instr) || b) (stops_push ys x k) ∙
    or_swap (nat_eq (end_of y) k && is_end y.instr) (nat_eq (end_of x) k && is_end x.instr) (stops_at ys k)

occurs_push : (row : List Instr) (i : Instr) (r : Reg) → occurs r (row ++ i ∷ []) ≡ ((if is_push_or_pop i then false else is_among r (registers_of i)) || occurs r row)
occurs_push [] i r = refl
occurs_push (j ∷ row) i r =
    let here : Instr → Bool = λ h. if is_push_or_pop h then false else is_among r (registers_of h) in
    ap (λ (b : Bool). here j || b) (occurs_push row i r) ∙ or_swap (here j) (here i) (occurs r row)

one_more_if : (b : Bool) (n : ℕ) (ms ns : List ℕ) → (if b then n ∷ (ms ++ ns) else (ms ++ ns)) ≡ (if b then n ∷ ms else ms) ++ ns
one_more_if true n ms ns = refl
one_more_if false n ms ns = refl

forbidden_push : (xs : List Found) (x : Found) → forbidden_in (xs ++ x ∷ []) ≡ forbidden_in xs ++ forbidden_in (x ∷ [])
forbidden_push [] x = refl
forbidden_push (y ∷ ys) x =
    ap (λ (ms : List ℕ). if is_slots_own y.instr then y.at ∷ ms else ms) (forbidden_push ys x) ∙ one_more_if (is_slots_own y.instr) y.at (forbidden_in ys) (forbidden_in (x ∷ []))

least_if : (b : Bool) (least : Option ℕ) (n : ℕ) → least_with least (if b then n ∷ [] else []) ≡ (if b then lesser_of least n else least)
least_if true least n = refl
least_if false least n = refl

transfer_push : (xs : List Found) (x : Found) → least_with None (forbidden_in (xs ++ x ∷ [])) ≡ (if is_slots_own x.instr then lesser_of (least_with None (forbidden_in xs)) x.at else least_with None (forbidden_in xs))
transfer_push xs x =
    ap (least_with None) (forbidden_push xs x) ∙ sym (least_append None (forbidden_in xs) (forbidden_in (x ∷ []))) ∙ least_if (is_slots_own x.instr) (least_with None (forbidden_in xs)) x.at

end_push : (xs : List Found) (x : Found) → open_end (xs ++ x ∷ []) ≡ open_end (x ∷ [])
end_push [] x = refl
end_push (y ∷ []) x = refl
end_push (y ∷ z ∷ zs) x = end_push (z ∷ zs) x

by_end : (b : Bool) (n : ℕ) → least_with None (if b then [] else n ∷ []) ≡ (if b then None else Some n)
by_end true n = refl
by_end false n = refl

open_push : (xs : List Found) (x : Found) → least_with None (open_end (xs ++ x ∷ [])) ≡ (if is_end x.instr then None else Some x.at)
open_push xs x = ap (least_with None) (end_push xs x) ∙ by_end (is_end x.instr) x.at

abbrev at_end : List Instr → Instr → Found
at_end row i = record { at = 0 + length (spelled row); instr = i }

pub notes_more : (row : List Instr) (old new : Notes) (p : InstrAt) → AreNotesOf row old → AddsNote old p new → p.at ≡ length (spelled row) → p.end ≡ p.at + size_of p.instr → AreNotesOf (row ++ p.instr ∷ []) new
notes_more row old new p h m e z =
    let x = at_end row p.instr in
    let here : p.at ≡ x.at = omega arith in
    let ends : p.end ≡ end_of x = z ∙ ap (λ (n : ℕ). n + size_of p.instr) here in
    let all : found (row ++ p.instr ∷ []) ≡ found row ++ x ∷ [] = found_push 0 row p.instr in
    record {
      starts = λ k. m.starts k ∙ ap (λ (b : Bool). nat_eq p.at k || b) (h.starts k) ∙ ap (λ (n : ℕ). nat_eq n k || starts_at (found row) k) here ∙ sym (starts_push (found row) x k) ∙ ap (λ (xs : List Found). starts_at xs k) (sym all);
      zeros = λ k.
          m.zeros (k + 4) ∙ ap (λ (b : Bool). (nat_eq p.end (k + 4) && is_zero (displacement p.instr)) || b) (h.zeros k) ∙
          ap (λ (n : ℕ). (nat_eq n (k + 4) && is_zero (displacement p.instr)) || fills_zero (found row) k) ends ∙
          sym (zeros_push (found row) x k) ∙ ap (λ (xs : List Found). fills_zero xs k) (sym all);
      stops = λ k.
          m.stops k ∙ ap (λ (b : Bool). (nat_eq p.end k && is_end p.instr) || b) (h.stops k) ∙
          ap (λ (n : ℕ). (nat_eq n k && is_end p.instr) || stops_at (found row) k) ends ∙
          sym (stops_push (found row) x k) ∙ ap (λ (xs : List Found). stops_at xs k) (sym all);
      registers = λ r.
          m.registers r ∙ ap (λ (b : Bool). (if is_push_or_pop p.instr then false else is_among r (registers_of p.instr)) || b) (h.registers r) ∙ sym (occurs_push row p.instr r);
      transfer =
          m.transfer ∙ ap (λ (o : Option ℕ). if is_slots_own p.instr then lesser_of o p.at else o) h.transfer ∙
          ap (λ (n : ℕ). if is_slots_own p.instr then lesser_of (least_with None (forbidden_in (found row))) n else least_with None (forbidden_in (found row))) here ∙
          sym (transfer_push (found row) x) ∙ ap (λ (xs : List Found). least_with None (forbidden_in xs)) (sym all);
      last_open =
          m.last_open ∙ ap (λ (n : ℕ). if is_end p.instr then None else Some n) here ∙
          sym (open_push (found row) x) ∙ ap (λ (xs : List Found). least_with None (open_end xs)) (sym all);
    }

-- the bytes up to an offset are instructions, and these are noted
pub record NotedTo (bytes : List ℕ) (at : ℕ) (c : Notes) : Type 0 where
  pub instrs : List Instr
  pub row : RowTo bytes at instrs
  pub notes : AreNotesOf instrs c
  pub room : HasRoom (length bytes) c

pub noted_more : (bytes : List ℕ) (at : ℕ) (old new : Notes) (p : InstrAt) → NotedTo bytes at old → StandsAt bytes at p → KeepsRoom old new → AddsNote old p new → NotedTo bytes p.end new
noted_more bytes at old new p h s keeps more =
    let a = h.room.starts in
    let b = h.room.zeros in
    let g = h.room.stops in
    let d = h.room.registers in
    let ka = keeps.starts in
    let kb = keeps.zeros in
    let kg = keeps.stops in
    let kd = keeps.registers in
    record {
      instrs = h.instrs ++ p.instr ∷ [];
      row = row_more bytes at h.instrs p h.row s;
      notes = notes_more h.instrs old new p h.notes more (s.here ∙ h.row.long) s.is_whole.end;
      room = record { starts = omega arith; zeros = omega arith; stops = omega arith; registers = omega arith };
    }

pub noted_whole : (bytes : List ℕ) (at : ℕ) (c : Notes) → 0 < length bytes → NotedTo bytes at c → length bytes ≤ at → IsNoted bytes c
noted_whole bytes at c some h past =
    let all = row_disassembly bytes at h.instrs h.row past in
    let same = sym (disassembly_is bytes h.instrs all) in
    record {
      disassembly = subst (λ (row : List Instr). IsDisassembly bytes row) same all;
      some = subst (λ (row : List Instr). 1 ≤ length row) same (some_row bytes h.instrs some all);
      notes = subst (λ (row : List Instr). AreNotesOf row c) same h.notes;
    }
