-- Branches, and jumps to words, where they stand in a function.
use Rattle.std.proofs.Common.{◌≡◌, ℕ, ◌+◌, ◌^◌, ◌<◌, Bool, true, false, List, [], ◌∷◌, Option, Some, None, ◌∙◌, ap, lit≤, arith}
use Rattle.std.specs.Prelude.{ℤ}
use Rattle.behavior.specs.Ending.{Strayed}
use Rattle.rd_num.specs.Number.{le_bytes, le_number}
use Rattle.x86_core.specs.declared.reg.Reg.TheVariants.{Rsp, R11}
use Rattle.x86_core.specs.declared.instr.Cond.{Cond}
use Rattle.x86_core.specs.declared.instr.Instr.TheVariants.{Jcc, Jmp, JmpR11, Ret}
use Rattle.x86_core.specs.Registers.{word}
use Rattle.x86_core.specs.Arithmetic.{holds}
use Rattle.x86_core.specs.Memory.{reads, one_covers, read_at}
use Rattle.x86_core.specs.Step.{State, tested, landed, returned}
use Rattle.x86_rows.specs.Addresses.{range_at, AreDisjoint}
use Rattle.x86_rows.specs.Straight.{Core}
use Rattle.x86_rows.proofs.Reading.{read_range}
use Rattle.x86_rows.proofs.Numbers.{number_again}
use Rattle.obj_core.specs.declared.object.Object.{Object}
use Rattle.obj_core.specs.declared.object.Place.{Place}
use Rattle.obj_core.specs.Disassembly.{size_of}
use Rattle.obj_core.specs.SymbolicMachine.{target, symbolic_land, symbolic_step}
use Rattle.obj_rows.specs.Marked.{Marked, Stands, IsFunction}
use Rattle.obj_rows.specs.Standing.{Outside, standing, popped}
use Rattle.obj_rows.proofs.Fetching.{step_here}

module _ (o : Object) (n : ℕ) (row : List Marked) (is : IsFunction o n row) (out : Outside) (off : ℕ) (c : Core) where
  abbrev here : State Place
  here = standing out (Place.Code n off) c

  -- a jump goes to the slot of its link, or where its displacement leads
  pub jumps : (slot : Option ℕ) (by : ℤ) → Stands row off (record { instr = Jmp by; slot = slot } ∷ []) → symbolic_step o here ≡ standing out (target n (off + size_of (Jmp by)) slot by) c
  jumps slot by stands = step_here o n row is off (record { instr = Jmp by; slot = slot }) stands out c

  -- a branch whose condition is known
  branch_by : (cond : Cond) (slot : Option ℕ) (by : ℤ) (t : Bool) → Stands row off (record { instr = Jcc cond by; slot = slot } ∷ []) → holds cond c.flags ≡ Some t →
      symbolic_step o here ≡ (let end = off + size_of (Jcc cond by) in tested (Some t) (target n end slot by) (Place.Code n end) here)
  branch_by cond slot by t stands known =
      let end = off + size_of (Jcc cond by) in
      step_here o n row is off (record { instr = Jcc cond by; slot = slot }) stands out c ∙ ap (λ h. tested h (target n end slot by) (Place.Code n end) here) known

  pub branches : (cond : Cond) (slot : Option ℕ) (by : ℤ) → Stands row off (record { instr = Jcc cond by; slot = slot } ∷ []) → holds cond c.flags ≡ Some true → symbolic_step o here ≡ standing out (target n (off + size_of (Jcc cond by)) slot by) c
  branches cond slot by stands known = branch_by cond slot by true stands known

  pub falls : (cond : Cond) (slot : Option ℕ) (by : ℤ) → Stands row off (record { instr = Jcc cond by; slot = slot } ∷ []) → holds cond c.flags ≡ Some false → symbolic_step o here ≡ standing out (Place.Code n (off + size_of (Jcc cond by))) c
  falls cond slot by stands known = branch_by cond slot by false stands known

  -- a jump to the word in r11
  follows_by : (slot : Option ℕ) (p : Option Place) → Stands row off (record { instr = JmpR11; slot = slot } ∷ []) → symbolic_land o (word c.regs R11) ≡ p → symbolic_step o here ≡ landed p c.regs here
  follows_by slot p stands lands = step_here o n row is off (record { instr = JmpR11; slot = slot }) stands out c ∙ ap (λ q. landed q c.regs here) lands

  pub follows : (slot : Option ℕ) (p : Place) → Stands row off (record { instr = JmpR11; slot = slot } ∷ []) → symbolic_land o (word c.regs R11) ≡ Some p → symbolic_step o here ≡ standing out p c
  follows slot p stands lands = follows_by slot (Some p) stands lands

  pub follows_astray : (slot : Option ℕ) → Stands row off (record { instr = JmpR11; slot = slot } ∷ []) → symbolic_land o (word c.regs R11) ≡ None → symbolic_step o here ≡ record here { ending = Strayed }
  follows_astray slot stands lands = follows_by slot None stands lands

  -- a return to the word on the stack
  returns_by : (slot : Option ℕ) (at w : ℕ) (p : Option Place) → Stands row off (record { instr = Ret; slot = slot } ∷ []) → word c.regs Rsp ≡ at → AreDisjoint c.segments → one_covers reads c.segments at 8 ≡ true →
      range_at c.segments at 8 ≡ le_bytes 8 w → w < 2 ^ 64 → symbolic_land o w ≡ p → symbolic_step o here ≡ landed p (popped c).regs here
  returns_by slot at w p stands there apart allowed bytes small lands =
      let read : read_at c.segments (word c.regs Rsp) 8 ≡ Some (le_bytes 8 w) = ap (λ q. read_at c.segments q 8) there ∙ read_range c.segments at 8 apart (lit≤ tt) allowed ∙ ap Some bytes in
      let again : le_number (le_bytes 8 w) ≡ w = number_again 8 w ∙ omega (arith, small) in
      step_here o n row is off (record { instr = Ret; slot = slot }) stands out c ∙
      ap (λ x. returned (symbolic_land o) x here) read ∙ ap (λ k. landed (symbolic_land o k) (popped c).regs here) again ∙ ap (λ q. landed q (popped c).regs here) lands

  pub returns : (slot : Option ℕ) (at w : ℕ) (p : Place) → Stands row off (record { instr = Ret; slot = slot } ∷ []) → word c.regs Rsp ≡ at → AreDisjoint c.segments → one_covers reads c.segments at 8 ≡ true →
      range_at c.segments at 8 ≡ le_bytes 8 w → w < 2 ^ 64 → symbolic_land o w ≡ Some p → symbolic_step o here ≡ standing out p (popped c)
  returns slot at w p stands there apart allowed bytes small lands = returns_by slot at w (Some p) stands there apart allowed bytes small lands

  pub returns_astray : (slot : Option ℕ) (at w : ℕ) → Stands row off (record { instr = Ret; slot = slot } ∷ []) → word c.regs Rsp ≡ at → AreDisjoint c.segments → one_covers reads c.segments at 8 ≡ true →
      range_at c.segments at 8 ≡ le_bytes 8 w → w < 2 ^ 64 → symbolic_land o w ≡ None → symbolic_step o here ≡ record here { ending = Strayed }
  returns_astray slot at w stands there apart allowed bytes small lands = returns_by slot at w None stands there apart allowed bytes small lands
