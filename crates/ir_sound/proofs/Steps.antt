-- Each step keeps calls over memory, and so does a run.
use Rattle.std.proofs.Common.{◌≡◌, ◌≢◌, ℕ, zero, suc, ◌<◌, true, List, [], ◌∷◌, Option, Some, None, Ok, Err, refl, sym, subst}
use Rattle.std.specs.Prelude.{slice_get}
use Rattle.std.proofs.lemmas.Bool.{and_parts}
use Rattle.behavior.specs.Ending.{Ending, Going, if_going}
use Rattle.behavior.specs.Moment.{AreBytes}
use Rattle.behavior.specs.System.{iter}
use Rattle.ir_core.specs.declared.instruction.Inst.{Inst}
use Rattle.ir_core.specs.declared.module.Module.{Module}
use Rattle.ir_core.specs.declared.memory.Reason.{Reason}
use Rattle.ir_core.specs.declared.memory.Reason.TheVariants.{Bounds, Dead, Constant, Unset, Mixed, Order, Equal, Callee, Overlap, Gep as WasGep}
use Rattle.ir_core.specs.Stops.{Stop, Ended, Divide, Trap, Depth, Left, Malformed, Answer, ending_of, malformed_number}
use Rattle.ir_core.specs.State.{Frame, State, Turn, turned}
use Rattle.ir_core.specs.Step.{turn_at, turn_of, source_step}
use Rattle.std.specs.List.{list_all}
use Rattle.ir_core.specs.Typing.{op_fits, kind_given, into_fits, inst_fits}
use Rattle.ir_core.specs.Valid.{env_of, predecessors}
use Rattle.ir_core.proofs.Steps.{turn_here}
use Rattle.ir_core.specs.Run.{source_start, source_run}
use Rattle.behavior.specs.Ending as ending
use Rattle.ir_sound.specs.Typed.{block_typed, functions_typed, IsTyped}
use Rattle.ir_sound.specs.WellTyped.{IsProper, Properly, AreOver, IsTypedTurn, IsProperEnding, IsWellTyped}
use Rattle.ir_sound.proofs.Edges.{past_is_none}
use Rattle.ir_sound.proofs.Frames.{Here}
use Rattle.ir_sound.proofs.Parts.{BlockParts, block_at, function_at}
use Rattle.ir_sound.proofs.RowLaws.{all_at, below_at}
use Rattle.ir_sound.proofs.SameLaws.{none_is, some_is}
use Rattle.ir_sound.proofs.Start.{start_is}
use Rattle.ir_sound.proofs.Instructions.{instruction_gives}
use Rattle.ir_sound.proofs.Terminators.{end_gives}

-- the bytes of an input, by their places
pub byte_at : (input : List ℕ) → AreBytes input → (k b : ℕ) → slice_get input k ≡ Some b → b < 256
byte_at [] are k b e = none_is b e
byte_at (i ∷ is) are zero b e = subst (λ n. n < 256) (some_is i b e) are.0
byte_at (i ∷ is) are (suc k) b e = byte_at is are.1 k b e

-- what the innermost call does next
here_gives : (m : Module) (input : List ℕ) (s : State) (f : Frame) (callers : List Frame) → ((k b : ℕ) → slice_get input k ≡ Some b → b < 256) → functions_typed m m.functions ≡ true → (h : Here m s.objects f callers) → (next : Option Inst) → slice_get h.stands.block.insts f.next ≡ next → Properly (IsTypedTurn m) (turn_at m input s f callers h.stands.fn h.stands.block next)
here_gives m input s f callers bytes functions h next at =
    let function = function_at m f.function h.stands.fn functions h.stands.in_module in
    of_next next at function.blocks (block_at m (env_of h.stands.fn) h.stands.fn f.block h.stands.block function.blocks h.stands.in_function)
  where
    of_next : (o : Option Inst) → slice_get h.stands.block.insts f.next ≡ o → list_all (block_typed m (env_of h.stands.fn) h.stands.fn) h.stands.fn.blocks ≡ true → BlockParts m (env_of h.stands.fn) h.stands.fn h.stands.block → Properly (IsTypedTurn m) (turn_at m input s f callers h.stands.fn h.stands.block o)
    of_next (Some i) e blocks parts =
        let env = env_of h.stands.fn in
        let b = h.stands.block in
        let one = and_parts (op_fits m env i.op) (into_fits env i.result (kind_given i.op)) (all_at (inst_fits m env) b.insts f.next i parts.insts e) in
        let other = past_is_none (predecessors h.stands.fn.blocks b.label) b.insts f.next i parts.phis e h.stands.past_phis in
        instruction_gives m s f callers h input bytes functions (below_at b.insts f.next i e) i.result i.op e other one.0 one.1
    of_next None e blocks parts = end_gives m s f callers h blocks parts

-- a turn of calls over memory
pub turn_gives : (m : Module) (input : List ℕ) (s : State) → ((k b : ℕ) → slice_get input k ≡ Some b → b < 256) → functions_typed m m.functions ≡ true → (frames : List Frame) → AreOver m frames s.objects → Properly (IsTypedTurn m) (turn_of m input s frames)
turn_gives m input s bytes functions [] over = absurd over.calls
turn_gives m input s bytes functions (f ∷ callers) over =
    let stands = over.calls.0 in
    let h : Here m s.objects f callers = record { stands = stands; waiting = over.calls.1; cells = over.cells; globals = over.globals } in
    let next = slice_get stands.block.insts f.next in
    subst (Properly (IsTypedTurn m)) (sym (turn_here m input s f callers stands.fn stands.block next (record { in_module = stands.in_module; in_function = stands.in_function; in_block = refl })))
    (here_gives m input s f callers bytes functions h next refl)

-- no reason has the number of the malformed stop
proper_reason : (r : Reason) → IsProperEnding (ending_of (Left r))
proper_reason Bounds = λ e. absurd (cc)
proper_reason Dead = λ e. absurd (cc)
proper_reason Constant = λ e. absurd (cc)
proper_reason Unset = λ e. absurd (cc)
proper_reason Mixed = λ e. absurd (cc)
proper_reason Order = λ e. absurd (cc)
proper_reason Equal = λ e. absurd (cc)
proper_reason Callee = λ e. absurd (cc)
proper_reason Overlap = λ e. absurd (cc)
proper_reason WasGep = λ e. absurd (cc)

-- a proper stop is a proper ending
proper_ending : (stop : Stop) → IsProper stop → IsProperEnding (ending_of stop)
proper_ending (Ended status) p = λ e. absurd (cc)
proper_ending Divide p = λ e. absurd (cc)
proper_ending Trap p = λ e. absurd (cc)
proper_ending Depth p = λ e. absurd (cc)
proper_ending (Left reason) p = proper_reason reason
proper_ending Malformed p = absurd p

-- the state after a turn
turned_is : (m : Module) (s : State) (a : Answer Turn) → Properly (IsTypedTurn m) a → IsWellTyped m s → IsWellTyped m (turned s a)
turned_is m s (Ok t) p is = (p, λ e. absurd (cc))
turned_is m s (Err stop) p is = (is.0, proper_ending stop p)

-- a run that has stopped stays
if_going_is : {S : Type 0} (P : S → Type 0) (e : Ending) (a b : S) → P a → P b → P (if_going e a b)
if_going_is P Going a b p q = p
if_going_is P e a b p q = q

-- a step keeps a state well typed
pub step_is : (m : Module) (input : List ℕ) → AreBytes input → IsTyped m → (s : State) → IsWellTyped m s → IsWellTyped m (source_step m input s)
unfolding source_step
step_is m input bytes typed s is =
    if_going_is (IsWellTyped m) s.ending (turned s (turn_of m input s s.frames)) s (turned_is m s (turn_of m input s s.frames) (turn_gives m input s (byte_at input bytes) typed.functions s.frames is.0) is) is

-- so do all
pub steps_are : (m : Module) (input : List ℕ) → AreBytes input → IsTyped m → (n : ℕ) (s : State) → IsWellTyped m s → IsWellTyped m (iter (source_step m input) n s)
steps_are m input bytes typed zero s is = is
steps_are m input bytes typed (suc n) s is = steps_are m input bytes typed n (source_step m input s) (step_is m input bytes typed s is)

-- an answer that is no malformed stop
not_malformed : {A : Type 0} (P : A → Type 0) (a : Answer A) → Properly P a → a ≢ Err Malformed
not_malformed P (Ok t) p = λ e. absurd (cc)
not_malformed P (Err Malformed) p = absurd p
not_malformed P (Err (Ended status)) p = λ e. absurd (cc)
not_malformed P (Err Divide) p = λ e. absurd (cc)
not_malformed P (Err Trap) p = λ e. absurd (cc)
not_malformed P (Err Depth) p = λ e. absurd (cc)
not_malformed P (Err (Left reason)) p = λ e. absurd (cc)

-- what a well typed state does next isn't malformed
pub turn_is : (m : Module) (input : List ℕ) → AreBytes input → IsTyped m → (s : State) → IsWellTyped m s → turn_of m input s s.frames ≢ Err Malformed
turn_is m input bytes typed s is = not_malformed (IsTypedTurn m) (turn_of m input s s.frames) (turn_gives m input s (byte_at input bytes) typed.functions s.frames is.0)

-- each state of a run is well typed
pub states_are : (m : Module) (input : List ℕ) (n : ℕ) → AreBytes input → IsTyped m → IsWellTyped m (iter (source_step m input) n (source_start m))
states_are m input n bytes typed = steps_are m input bytes typed n (source_start m) (start_is m typed)

-- so no run comes to the malformed stop
pub run_proper : (m : Module) (input : List ℕ) (n : ℕ) → AreBytes input → IsTyped m → (source_run m input n).ending ≢ ending.Left malformed_number
unfolding source_run
run_proper m input n bytes typed = (states_are m input n bytes typed).1
