-- The rows of operations and of ends in a function.
use Rattle.std.specs.Prelude.{ℕ, ◌+◌, ◌*◌, List, [], ◌∷◌, ◌++◌, map, Some, None, ℤ, pos, ◌-ℤ◌}
use Rattle.x86_core.specs.declared.reg.Reg.TheVariants.{Rax, R11, R15, Rsp}
use Rattle.x86_core.specs.declared.instr.Wide.{Wide}
use Rattle.x86_core.specs.declared.instr.ImmOp.{ImmOp}
use Rattle.x86_core.specs.declared.instr.Cond.{Cond}
use Rattle.x86_core.specs.declared.instr.Instr.{Instr}
use Rattle.x86_core.specs.declared.instr.Instr.TheVariants as instr
use Rattle.low_core.specs.declared.sel.Which.TheVariants.{Trap}
use Rattle.low_core.specs.declared.sel.SelOp.{SelOp}
use Rattle.low_core.specs.declared.sel.SelOp.TheVariants.{Call, CallAt, Outside}
use Rattle.low_core.specs.declared.sel.SelEnd.{SelEnd}
use Rattle.low_core.specs.declared.sel.SelEnd.TheVariants.{Go, If, Ret}
use Rattle.low_core.specs.declared.sel.SelEnd.TheVariants as end
use Rattle.low_core.specs.Plan.{Plan}
use Rattle.frame_rows.specs.declared.spot.Spot.{Spot}
use Rattle.frame_rows.specs.Code.{home_read, op_row}
use Rattle.obj_core.specs.Saved.{saved_register}
use Rattle.obj_rows.specs.Marked.{Marked, unlinked, all_unlinked, row_size}
use Rattle.frame_lower.specs.Calls.{call_row}

-- what the code of a function is made by
pub record Making : Type 0 where
  -- where its registers live
  pub homes : ℕ → Spot
  -- the addresses of globals and of functions
  pub plan : Plan
  -- the words of its frame, and the bytes that it makes room for
  pub words : ℕ
  pub room : ℕ
  -- the five registers that it saves, by their places, in the order in which it pushes them
  pub order : List ℕ

-- the displacement from one place of a function to another
abbrev pub between : ℕ → ℕ → ℤ
between from to = pos to -ℤ pos from

-- an operation; where it goes by a slot, by this one
abbrev pub marked_op : Making → ℕ → SelOp → List Marked
marked_op by slot (Call g r args) = call_row by.homes [] slot r args
marked_op by slot (CallAt s r args) = call_row by.homes (home_read (by.homes s) R11 ∷ []) slot r args
marked_op by slot (Outside Trap r args) = unlinked instr.Ud2 ∷ []
marked_op by slot (Outside which r args) = call_row by.homes [] slot r args
marked_op by slot op = all_unlinked (op_row by.homes by.plan (8 * by.words) op)

-- the five registers are pushed; the last one is given back first
abbrev pub push_row : List ℕ → List Instr
push_row order = map (λ place. instr.Push (saved_register place)) order

abbrev pub pop_row : List ℕ → List Instr
pop_row [] = []
pop_row (place ∷ order) = pop_row order ++ instr.Pop (saved_register place) ∷ []

-- one call fewer may be made, and none past the last
abbrev pub count_row : List Instr
count_row = instr.AluImm ImmOp.Sub Wide.W64 R15 (pos 1) ∷ instr.Jcc Cond.Ae (pos 1) ∷ instr.Int3 ∷ []

-- the way out of a function
abbrev pub leave_row : Making → List Instr
leave_row by = instr.AluImm ImmOp.Add Wide.W64 Rsp (pos by.room) ∷ (pop_row by.order ++ (instr.AluImm ImmOp.Add Wide.W64 R15 (pos 1) ∷ instr.Ret ∷ []))

-- what an end does in front of its branches
abbrev pub closing_row : Making → SelEnd → List Instr
closing_row by (Go b) = []
closing_row by (If c b d) = home_read (by.homes c) Rax ∷ instr.AluImm ImmOp.And Wide.W32 Rax (pos 1) ∷ []
closing_row by (Ret (Some r)) = home_read (by.homes r) Rax ∷ leave_row by
closing_row by (Ret None) = leave_row by
closing_row by end.Trap = instr.Ud2 ∷ []

-- how many bytes the two branches have
abbrev pub jump_bytes : ℕ
jump_bytes = 5

abbrev pub choice_bytes : ℕ
choice_bytes = 6

-- branches at an offset, to blocks that start at these
abbrev pub branch_row : (ℕ → ℕ) → ℕ → SelEnd → List Instr
branch_row starts at (Go b) = instr.Jmp (between (at + jump_bytes) (starts b)) ∷ []
branch_row starts at (If c b d) =
    instr.Jcc Cond.Ne (between (at + choice_bytes) (starts b)) ∷ instr.Jmp (between (at + (choice_bytes + jump_bytes)) (starts d)) ∷ []
branch_row starts at (Ret r) = []
branch_row starts at end.Trap = []

-- an end at an offset
abbrev pub end_row : Making → (ℕ → ℕ) → ℕ → SelEnd → List Marked
end_row by starts at e =
    let closing = all_unlinked (closing_row by e) in
    closing ++ all_unlinked (branch_row starts (at + row_size closing) e)
