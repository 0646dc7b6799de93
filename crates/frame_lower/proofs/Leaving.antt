-- The way out of a function: its room goes, and the registers that it pushed have their words again.
use Rattle.std.proofs.Common.{◌≡◌, ℕ, ◌+◌, ◌*◌, ◌%◌, ◌^◌, ◌<◌, ◌≤◌, true, inr, List, ◌∷◌, ◌++◌, length, refl, sym, ◌∙◌, ap, arith}
use Rattle.std.specs.Prelude.{pos}
use Rattle.x86_core.specs.declared.flags.Flags.{Flags}
use Rattle.x86_core.specs.declared.reg.Reg.{Reg}
use Rattle.x86_core.specs.declared.reg.Reg.TheVariants.{Rax, Rbx, Rsp, Rbp, R12, R13, R14, R15}
use Rattle.x86_core.specs.declared.image.Segment.{Segment}
use Rattle.x86_core.specs.declared.instr.Wide.{Wide}
use Rattle.x86_core.specs.declared.instr.ImmOp.{ImmOp}
use Rattle.x86_core.specs.declared.instr.Instr.{Instr}
use Rattle.x86_core.specs.declared.instr.Instr.TheVariants.{AluImm}
use Rattle.x86_core.specs.Effect.{effect_of}
use Rattle.x86_rows.specs.Straight.{Core, Through, ran, exec}
use Rattle.x86_rows.specs.Saving.{IsStack, IsOneOf, restored}
use Rattle.x86_rows.specs.Saving as saving
use Rattle.x86_rows.proofs.Rows.{exec-through, exec-first}
use Rattle.x86_rows.proofs.Saving.{pops, restored_long, restored_top, restored_other}
use Rattle.frame_rows.specs.Words.{Words, in_order, held_in, core_of}
use Rattle.frame_rows.specs.Ties.{is_home}
use Rattle.frame_lower.specs.Chain.{upward, Saved}
use Rattle.frame_lower.specs.Rows.{pop_row}
use Rattle.frame_lower.proofs.Order.{pops_upward, upward_long, upward_spare, upward_none, home_spares}
use Rattle.frame_lower.proofs.Saved.{word_back}
use Rattle.frame_lower.proofs.Sixteen.{words_of, words_again, word_named}

-- the room of so many bytes goes; a call more may be made
abbrev pub gives_room : ℕ → Instr
gives_room room = AluImm ImmOp.Add Wide.W64 Rsp (pos room)

abbrev pub one_more : Instr
one_more = AluImm ImmOp.Add Wide.W64 R15 (pos 1)

-- an instruction is passed, and leaves these words
record Raised (i : Instr) (w : Words) (f : Flags) (ss : List Segment) (after : Words) : Type 0 where
  flags : Flags
  runs : ran i (core_of w f ss) ≡ Through (core_of after flags ss)

room_raw : (w : Words) (f : Flags) (ss : List Segment) (room : ℕ) → Raised (gives_room room) w f ss (record w { rsp = (w.rsp % 2 ^ 64 + room % 2 ^ 64) % 2 ^ 64 })
unfolding effect_of
room_raw w f ss room = record { flags = _; runs = refl }

one_raw : (w : Words) (f : Flags) (ss : List Segment) → Raised one_more w f ss (record w { r15 = (w.r15 % 2 ^ 64 + 1) % 2 ^ 64 })
unfolding effect_of
one_raw w f ss = record { flags = _; runs = refl }

room_given : (w : Words) (f : Flags) (ss : List Segment) (room base : ℕ) → w.rsp ≡ base → base + room < 2 ^ 64 → Raised (gives_room room) w f ss (record w { rsp = base + room })
room_given w f ss room base is below =
    let e : (w.rsp % 2 ^ 64 + room % 2 ^ 64) % 2 ^ 64 ≡ base + room = omega (arith, is, below) in
    let x = room_raw w f ss room in
    record { flags = x.flags; runs = x.runs ∙ ap (λ n. Through (core_of (record w { rsp = n }) x.flags ss)) e }

one_given : (w : Words) (f : Flags) (ss : List Segment) (n : ℕ) → w.r15 ≡ n → n < 2 ^ 32 → Raised one_more w f ss (record w { r15 = n + 1 })
one_given w f ss n is few =
    let e : (w.r15 % 2 ^ 64 + 1) % 2 ^ 64 ≡ n + 1 = omega (arith, is, few) in
    let x = one_raw w f ss in
    record { flags = x.flags; runs = x.runs ∙ ap (λ m. Through (core_of (record w { r15 = m }) x.flags ss)) e }

-- rsp is above the pushed registers, rax has the result, a call more may be made, and each register that was pushed has the word
-- that stands where it was pushed; memory is as it was, and the row leads to what stands behind it
pub record Leaves (order : List ℕ) (room : ℕ) (w : Words) (f : Flags) (ss : List Segment) (base : ℕ) : Type 0 where
  pub after : Words
  pub flags : Flags
  pub runs : (behind : List Instr) → exec (gives_room room ∷ (pop_row order ++ (one_more ∷ behind))) (core_of w f ss) ≡ exec behind (core_of after flags ss)
  pub top : after.rsp ≡ base + room + 8 * length order
  pub result : after.rax ≡ w.rax
  pub count : after.r15 ≡ w.r15 + 1
  pub back : (r : Reg) (n : ℕ) → is_home r ≡ true → n < 2 ^ 64 → IsOneOf r (upward order) → Saved ss (upward order) (base + room) r n → held_in after r ≡ n

home_again : (v : Words) (n : ℕ) (r : Reg) → is_home r ≡ true → held_in (record v { r15 = n }) r ≡ held_in v r
home_again v n Rbx is = refl
home_again v n Rbp is = refl
home_again v n R12 is = refl
home_again v n R13 is = refl
home_again v n R14 is = refl
home_again v n r is = absurd (cc)

pub leaves : (low high : ℕ) (order : List ℕ) (room : ℕ) (w : Words) (f : Flags) (ss : List Segment) (base : ℕ) → IsStack low high ss → w.rsp ≡ base → w.r15 < 2 ^ 32 → low ≤ base + room → base + room + 8 * length order ≤ high →
    Leaves order room w f ss base
leaves low high order room w f ss base stack at few from to =
    let long = upward_long order in
    let below = stack.below in
    let p = base + room in
    let w2 : Words = record w { rsp = p } in
    let given = room_given w f ss room base at (omega (arith, to, below)) in
    let taken = restored ss (upward order) p (in_order w2) in
    let w3 = words_of taken in
    let again : in_order w3 ≡ taken = words_again taken (restored_long ss (upward order) p (in_order w2)) in
    let count : w3.r15 ≡ w.r15 = restored_other ss (upward order) p (in_order w2) R15 (λ e. absurd (cc)) (upward_none order R15 refl) in
    let one = one_given w3 given.flags ss w.r15 count few in
    let w4 : Words = record w3 { r15 = w.r15 + 1 } in
    let popped = pops low high (upward order) (core_of w2 given.flags ss) p (upward_spare order) refl stack refl from (omega (arith, to, long)) in
    record {
      after = w4;
      flags = one.flags;
      runs = λ behind.
          let c2 : Core = core_of w2 given.flags ss in
          let c3 : Core = record c2 { regs = taken } in
          exec-first (gives_room room) (pop_row order ++ (one_more ∷ behind)) (core_of w f ss) c2 given.runs ∙
          ap (λ row. exec (row ++ (one_more ∷ behind)) c2) (pops_upward order) ∙
          exec-through (saving.pop_row (upward order)) (one_more ∷ behind) c2 c3 popped ∙
          ap (λ regs. exec (one_more ∷ behind) (record c2 { regs = regs })) (sym again) ∙
          exec-first one_more behind (core_of w3 given.flags ss) (core_of w4 one.flags ss) one.runs;
      top = restored_top ss (upward order) p (in_order w2) (upward_spare order) refl refl ∙ omega (arith, long);
      result = restored_other ss (upward order) p (in_order w2) Rax (λ e. absurd (cc)) (upward_none order Rax refl);
      count = refl;
      back = λ r n is small one saved. home_again w3 (w.r15 + 1) r is ∙ word_named taken r ∙ word_back ss (upward order) p (in_order w2) r n (home_spares r is) refl small saved (inr one);
    }
