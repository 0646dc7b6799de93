-- A step of a run that goes on, once it is known where the run stands.
use Rattle.std.proofs.Common.{◌≡◌, ℕ, ◌%◌, List, [], ◌∷◌, Option, Some, None, Ok, ap, ◌∙◌}
use Rattle.std.specs.Prelude.{slice_get}
use Rattle.behavior.specs.Ending.{Ended, Going, if_going}
use Rattle.rd_num.specs.declared.width.Width.{Width}
use Rattle.ir_core.specs.declared.ty.Ty.{Ty}
use Rattle.ir_core.specs.declared.operand.Operand.{Operand}
use Rattle.ir_core.specs.declared.instruction.BinOp.{BinOp}
use Rattle.ir_core.specs.declared.instruction.Op.{Op}
use Rattle.ir_core.specs.declared.instruction.Inst.{Inst}
use Rattle.ir_core.specs.declared.instruction.Term.{Term}
use Rattle.ir_core.specs.declared.memory.Value.TheVariants.{Num}
use Rattle.ir_core.specs.Kinds.{Number, kind_of}
use Rattle.ir_core.specs.Arithmetic.{binary}
use Rattle.ir_core.specs.Operands.{value_of}
use Rattle.ir_core.specs.Calls.{return_turn}
use Rattle.ir_core.specs.declared.module.Block.{Block}
use Rattle.ir_core.specs.declared.module.Function.{Function}
use Rattle.ir_core.specs.declared.module.Module.{Module}
use Rattle.ir_core.specs.Stops.{and_then, found_or, Malformed}
use Rattle.ir_core.specs.State.{Frame, State, turned}
use Rattle.ir_core.specs.Step.{binary_value, gives, terminator_turn, turn_at, turn_of, source_step}

-- where a call stands: its function, its block, and its next instruction, none where the terminator is next
pub record Stands (m : Module) (f : Frame) (fn : Function) (b : Block) (next : Option Inst) : Type 0 where
  pub in_module : slice_get m.functions f.function ≡ Some fn
  pub in_function : slice_get fn.blocks f.block ≡ Some b
  pub in_block : slice_get b.insts f.next ≡ next

-- what the innermost call does next
pub turn_here : (m : Module) (input : List ℕ) (s : State) (f : Frame) (callers : List Frame) (fn : Function) (b : Block) (next : Option Inst) → Stands m f fn b next → turn_of m input s (f ∷ callers) ≡ turn_at m input s f callers fn b next
turn_here m input s f callers fn b next h =
    ap (λ o. and_then (found_or Malformed o) (λ g. and_then (found_or Malformed (slice_get g.blocks f.block)) (λ c. turn_at m input s f callers g c (slice_get c.insts f.next)))) h.in_module
    ∙ ap (λ o. and_then (found_or Malformed o) (λ c. turn_at m input s f callers fn c (slice_get c.insts f.next))) h.in_function
    ∙ ap (λ o. turn_at m input s f callers fn b o) h.in_block

-- a step of a run that goes on
pub step_going : (m : Module) (input : List ℕ) (s : State) → s.ending ≡ Going → source_step m input s ≡ turned s (turn_of m input s s.frames)
unfolding source_step
step_going m input s going = ap (λ e. if_going e (turned s (turn_of m input s s.frames)) s) going

-- a step of a run that goes on and stands there
pub step_here : (m : Module) (input : List ℕ) (s : State) (f : Frame) (callers : List Frame) (fn : Function) (b : Block) (next : Option Inst) → s.ending ≡ Going → s.frames ≡ f ∷ callers → Stands m f fn b next → source_step m input s ≡ turned s (turn_at m input s f callers fn b next)
step_here m input s f callers fn b next going top h =
    step_going m input s going ∙ ap (λ fs. turned s (turn_of m input s fs)) top ∙ ap (turned s) (turn_here m input s f callers fn b next h)

-- an operation on two numbers gives its result to its local, and nothing else changes
pub binary_here : (m : Module) (input : List ℕ) (s : State) (f : Frame) (callers : List Frame) (fn : Function) (b : Block) (into : Option (List ℕ)) (op : BinOp) (ty : Ty) (left right : Operand) (w u v : Width) (x y n : ℕ) → s.ending ≡ Going → s.frames ≡ f ∷ callers → Stands m f fn b (Some (record { result = into; op = Op.Bin op ty left right })) → kind_of ty ≡ Number w → value_of m f.locals (Number w) left ≡ Ok (Num u x) → value_of m f.locals (Number w) right ≡ Ok (Num v y) → binary op w x y ≡ Ok n → source_step m input s ≡ turned s (gives s f callers into (Num w n))
binary_here m input s f callers fn b into op ty left right w u v x y n going top stands kind first second result =
    step_here m input s f callers fn b (Some (record { result = into; op = Op.Bin op ty left right })) going top stands
    ∙ ap (λ k. turned s (and_then (and_then (value_of m f.locals k left) (λ p. and_then (value_of m f.locals k right) (λ q. binary_value op k p q))) (λ r. gives s f callers into r))) kind
    ∙ ap (λ o. turned s (and_then (and_then o (λ p. and_then (value_of m f.locals (Number w) right) (λ q. binary_value op (Number w) p q))) (λ r. gives s f callers into r))) first
    ∙ ap (λ o. turned s (and_then (and_then o (λ q. binary_value op (Number w) (Num u x) q)) (λ r. gives s f callers into r))) second
    ∙ ap (λ o. turned s (and_then (and_then o (λ k. Ok (Num w k))) (λ r. gives s f callers into r))) result

-- a return from the first call ends the run with the low 8 bits of its result
pub last_return_here : (m : Module) (input : List ℕ) (s : State) (f : Frame) (fn : Function) (b : Block) (ty : Ty) (result : Operand) (w : Width) (n : ℕ) → s.ending ≡ Going → s.frames ≡ f ∷ [] → Stands m f fn b None → b.end ≡ Term.RetValue ty result → value_of m f.locals (kind_of ty) result ≡ Ok (Num w n) → source_step m input s ≡ record s { ending = Ended (n % 256) }
last_return_here m input s f fn b ty result w n going top stands end value =
    step_here m input s f [] fn b None going top stands
    ∙ ap (λ t. turned s (terminator_turn m s f [] fn b.label t)) end
    ∙ ap (λ o. turned s (and_then o (λ r. return_turn s f [] (Some r)))) value
