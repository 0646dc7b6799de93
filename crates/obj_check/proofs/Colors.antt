-- The registers of the first colours.
use Rattle.std.proofs.Common.{◌≡◌, ℕ, Bool, true, false, ◌&&◌, List, refl, ap, ◌∙◌}
use Rattle.x86_core.specs.declared.instr.Instr.{Instr}
use Rattle.x86_core.specs.declared.reg.Reg.{Reg}
use Rattle.obj_core.specs.Slots.{name_purpose}
use Rattle.obj_core.specs.Saved.{five_of, occurs, are_first_colors}
use Rattle.obj_check.specs.Orders.{is_colored, are_colored}

and_true : (b : Bool) → b ≡ (b && true)
and_true true = refl
and_true false = refl

colors_by : (reg_seed n : ℕ) (instrs : List Instr) → are_colored (five_of reg_seed name_purpose n) (λ r. occurs r instrs) ≡ are_first_colors reg_seed n instrs
colors_by reg_seed n instrs =
    let t : ℕ → Bool = λ k. is_colored (five_of reg_seed name_purpose n) (λ r. occurs r instrs) k in
    ap (λ (b : Bool). t 0 && (t 1 && (t 2 && (t 3 && b)))) (and_true (t 4))

-- registers that are used where they occur have the first colours where those that occur have them
pub colors_are : (reg_seed n : ℕ) (instrs : List Instr) (used : Reg → Bool) → ((r : Reg) → used r ≡ occurs r instrs) → are_colored (five_of reg_seed name_purpose n) used ≡ are_first_colors reg_seed n instrs
colors_are reg_seed n instrs used h =
    let same : used ≡ (λ (r : Reg). occurs r instrs) = λ i r. h r i in
    ap (are_colored (five_of reg_seed name_purpose n)) same ∙ colors_by reg_seed n instrs
