-- The way out of a function, to where the word above the pushed registers leads.
use Rattle.std.proofs.Common.{◌≡◌, ℕ, ◌+◌, ◌^◌, ◌<◌, ◌≤◌, true, List, [], ◌∷◌, ◌++◌, length, None, refl, sym, ◌∙◌, ap, subst, arith, append_assoc, length-append}
use Rattle.std.specs.Prelude.{pos}
use Rattle.behavior.specs.Simulation.{Comes}
use Rattle.behavior.proofs.Stretch.{comes_one, comes_join, comes_wider}
use Rattle.x86_core.specs.declared.flags.Flags.{Flags}
use Rattle.x86_core.specs.declared.image.Segment.{Segment}
use Rattle.x86_core.specs.declared.reg.Reg.{Reg}
use Rattle.x86_core.specs.declared.reg.Reg.TheVariants.{Rbx, Rbp, R12, R13, R14}
use Rattle.x86_core.specs.declared.instr.Instr.{Instr}
use Rattle.x86_core.specs.declared.instr.Instr.TheVariants.{Pop, Ret}
use Rattle.x86_core.specs.Arithmetic.{moved}
use Rattle.x86_core.specs.Data.{stack_start, stack_end}
use Rattle.x86_core.specs.Step.{State}
use Rattle.x86_rows.specs.Straight.{Through, exec}
use Rattle.x86_rows.specs.Saving.{IsStack}
use Rattle.x86_rows.proofs.Rows.{exec-through}
use Rattle.obj_core.specs.declared.object.Object.{Object}
use Rattle.obj_core.specs.declared.object.Place.{Place}
use Rattle.obj_core.specs.Saved.{saved_register}
use Rattle.obj_core.specs.SymbolicMachine.{symbolic_step}
use Rattle.obj_rows.specs.Marked.{Marked, unlinked, all_unlinked, row_size, Stands, IsFunction}
use Rattle.obj_rows.specs.Standing.{Outside, standing}
use Rattle.obj_rows.proofs.Branches.{returns}
use Rattle.obj_rows.proofs.Rows.{all_unlinked-append, instrs_of-unlinked, length-unlinked, stands_first, stands_behind}
use Rattle.obj_rows.proofs.Runs.{row_comes}
use Rattle.frame_rows.specs.Words.{Words, held_in, core_of}
use Rattle.frame_rows.specs.Ties.{is_home}
use Rattle.frame_lower.specs.Chain.{IsWay}
use Rattle.frame_lower.specs.Rows.{Making, pop_row, leave_row}
use Rattle.frame_lower.proofs.Leaving.{gives_room, one_more, Leaves}

pop_long : (order : List ℕ) → length (pop_row order) ≡ length order
pop_long [] = refl
pop_long (place ∷ order) = let e = pop_long order in let l = length-append (pop_row order) (Pop (saved_register place) ∷ []) in omega (arith, e, l)

-- a home doesn't hang on rsp
pub home_rsp : (w : Words) (p : ℕ) (r : Reg) → is_home r ≡ true → held_in (record w { rsp = p }) r ≡ held_in w r
home_rsp w p Rbx is = refl
home_rsp w p Rbp is = refl
home_rsp w p R12 is = refl
home_rsp w p R13 is = refl
home_rsp w p R14 is = refl
home_rsp w p r is = absurd (cc)

-- what a function does before it returns, behind a row of its own
abbrev pub straight : Making → List Instr → List Instr
straight by first = first ++ (gives_room by.room ∷ (pop_row by.order ++ one_more ∷ []))

falls_apart : (by : Making) (first : List Instr) → first ++ leave_row by ≡ straight by first ++ Ret ∷ []
falls_apart by first =
    let pops = pop_row by.order in
    ap (λ r. first ++ (gives_room by.room ∷ r)) (sym (append_assoc pops (one_more ∷ []) (Ret ∷ []))) ∙ sym (append_assoc first (gives_room by.room ∷ (pops ++ one_more ∷ [])) (Ret ∷ []))

straight_long : (by : Making) (first : List Instr) → length by.order ≡ 5 → length (straight by first) ≡ length first + 7
straight_long by first five =
    let pops = pop_row by.order in
    let p = pop_long by.order in
    let a = length-append first (gives_room by.room ∷ (pops ++ one_more ∷ [])) in
    let b = length-append pops (one_more ∷ []) in
    omega (arith, p, a, b, five)

module _ (o : Object) (g : ℕ) (row : List Marked) (is : IsFunction o g row) (out : Outside) (by : Making) (five : length by.order ≡ 5) where
  abbrev at : ℕ → Words → Flags → List Segment → State Place
  at off w f ss = standing out (Place.Code g off) (core_of w f ss)

  -- where the registers were pushed above the frame at a base, the row leads to the word's place
  pub return_comes : (first : List Instr) (off base : ℕ) (w w1 : Words) (f : Flags) (ss : List Segment) (place : Place) → Stands row off (all_unlinked (first ++ leave_row by)) → length first ≤ 1 →
      exec first (core_of w f ss) ≡ Through (core_of w1 f ss) →
      IsStack stack_start stack_end ss → w1.rsp ≡ base → stack_start ≤ base → base + by.room + 48 ≤ stack_end → w1.r15 < 2 ^ 32 → IsWay o ss (base + by.room + 40) place → (x : Leaves by.order by.room w1 f ss base) →
      Comes (symbolic_step o) 1 20 (at off w f ss) (standing out place (core_of (record x.after { rsp = base + by.room + 48 }) x.flags ss))
  return_comes first off base w w1 f ss place stands few runs stack rsp low high count way x =
      let part = straight by first in
      let marked = all_unlinked part in
      let split : Stands row off (marked ++ unlinked Ret ∷ []) = subst (Stands row off) (ap all_unlinked (falls_apart by first) ∙ all_unlinked-append part (Ret ∷ [])) stands in
      let off1 = off + row_size marked in
      let t0 = at off w f ss in
      let c1 = core_of x.after x.flags ss in
      let t1 = standing out (Place.Code g off1) c1 in
      let t2 = standing out place (core_of (record x.after { rsp = base + by.room + 48 }) x.flags ss) in
      let passed : exec part (core_of w f ss) ≡ Through c1 = exec-through first (gives_room by.room ∷ (pop_row by.order ++ one_more ∷ [])) (core_of w f ss) (core_of w1 f ss) runs ∙ x.runs [] in
      let there : x.after.rsp ≡ base + by.room + 40 = let t = x.top in omega (arith, t, five) in
      let below = stack.below in
      let up : moved x.after.rsp (pos 8) ≡ base + by.room + 48 = ap (λ n. moved n (pos 8)) there ∙ omega (arith, high, below) in
      let long = straight_long by first five in
      let same = length-unlinked part in
      let n = length marked in
      comes_wider (symbolic_step o) (n + 1) (n + 1) 1 20 t0 t2 (omega arith) (omega (arith, long, same, few))
      (comes_join (symbolic_step o) n n 1 1 t0 t1 t2
      (row_comes o g row is out marked off (core_of w f ss) c1 (stands_first row off marked (unlinked Ret ∷ []) split) (ap (λ r. exec r (core_of w f ss)) (instrs_of-unlinked part) ∙ passed))
      (comes_one (symbolic_step o) t1 t2
      (returns o g row is out off1 c1 None (base + by.room + 40) way.word place (stands_behind row off marked (unlinked Ret ∷ []) split) there stack.disjoint
      (stack.readable (base + by.room + 40) 8 (omega (arith, low)) (omega (arith, high)) (omega arith)) way.there way.small way.lands ∙
      ap (λ p. standing out place (core_of (record x.after { rsp = p }) x.flags ss)) up)))
