-- What is assumed of a module and of a plan, and what then holds at each instruction.
use Rattle.std.proofs.Common.{◌≡◌, ℕ, ◌≤◌, List, [], ◌∷◌, length, Option, Some, refl, sym, ◌∙◌, subst, arith}
use Rattle.std.specs.Prelude.{slice_get}
use Rattle.ir_core.specs.declared.instruction.Inst.{Inst}
use Rattle.ir_core.specs.declared.module.Block.{Block}
use Rattle.ir_core.specs.declared.module.Function.{Function}
use Rattle.ir_core.specs.declared.module.GlobalVar.{GlobalVar}
use Rattle.ir_core.specs.declared.module.Module.{Module}
use Rattle.ir_core.specs.Memory.{Memory}
use Rattle.ir_core.specs.State.{Frame}
use Rattle.ir_core.specs.Valid.{env_of}
use Rattle.ir_sound.specs.Typed.{IsTyped}
use Rattle.ir_sound.specs.WellTyped.{Each, IsLocal, IsOwn, IsInBlock, AreGlobals, AreOver, present}
use Rattle.ir_sound.proofs.Operands.{Covers}
use Rattle.ir_sound.proofs.RowLaws.{Each_at}
use Rattle.low_core.specs.Plan.{Plan, Content, PlanFits}
use Rattle.low_core.specs.SelShaped.{IsSel}
use Rattle.low_core.specs.Shaped.{IsModuleShaped}
use Rattle.low_core.specs.Weights.{lean_own}
use Rattle.flat_memory.specs.Accesses.{SettingFits}
use Rattle.isel_rows.specs.Selected.{module_selected}
use Rattle.isel.proofs.Beside.{setting_of}
use Rattle.isel.proofs.Typed.{IsMoves, InstRules, EndRules, function_shaped, inst_rules, end_rules}

-- a module that stands for bodies without switches, and a plan that fits
pub record Premises (m : Module) (plan : Plan) (contents : List Content) : Type 0 where
  pub shaped : IsModuleShaped lean_own m
  pub moves : Each IsMoves m.functions
  pub typed : IsTyped m
  pub selected : IsSel (module_selected m)
  pub fits : PlanFits (module_selected m) contents plan
  pub setting : SettingFits (setting_of m plan contents)
  pub globals : length contents ≡ length m.globals

-- there are as many objects as globals at least
globals_few : (m : Module) (gs : List GlobalVar) (objects : Memory) → AreGlobals m gs objects → length gs ≤ length objects
globals_few m [] objects are = omega arith
globals_few m (g ∷ gs) [] are = absurd are
globals_few m (g ∷ gs) (o ∷ os) are = let r = globals_few m gs os are.1 in omega arith

pub covers : (m : Module) (objects : Memory) → AreGlobals m m.globals objects → Covers m (present m objects)
covers m objects are = record { globals = globals_few m m.globals objects are; functions = refl }

-- what is known of the innermost call by its types
pub record CallTyped (m : Module) (fn : Function) (objects : Memory) (f : Frame) : Type 0 where
  pub covered : Covers m (present m objects)
  pub locals : Each (IsLocal (present m objects) (env_of fn)) f.locals
  pub own : Each (IsOwn (present m objects)) f.objects

pub call_typed : (m : Module) (fn : Function) (objects : Memory) (f : Frame) (fs : List Frame) → AreOver m (f ∷ fs) objects → slice_get m.functions f.function ≡ Some fn → CallTyped m fn objects f
call_typed m fn objects f fs over at =
    let stands : IsInBlock m (present m objects) f = over.calls.0 in
    let same : stands.fn ≡ fn = some_same stands.fn fn (sym stands.in_module ∙ at) in
    record {
      covered = covers m objects over.globals;
      locals = subst (λ g. Each (IsLocal (present m objects) (env_of g)) f.locals) same stands.locals;
      own = stands.objects;
    }
  where
    some_same : (a b : Function) → let o : Option Function = Some a in o ≡ Some b → a ≡ b
    some_same a b e = cc

module _ (m : Module) (plan : Plan) (contents : List Content) (p : Premises m plan contents) where
  -- what the shape says of an instruction that stands there
  pub rules_at : (number : ℕ) (fn : Function) → slice_get m.functions number ≡ Some fn → (k : ℕ) (b : Block) → slice_get fn.blocks k ≡ Some b → (j : ℕ) (i : Inst) → slice_get b.insts j ≡ Some i → InstRules m fn k i
  rules_at number fn in_module k b in_function j i there = inst_rules lean_own m p.shaped fn (function_shaped lean_own m p.shaped number fn in_module) k b in_function j i there

  -- and of an end
  pub end_at : (number : ℕ) (fn : Function) → slice_get m.functions number ≡ Some fn → (k : ℕ) (b : Block) → slice_get fn.blocks k ≡ Some b → EndRules m fn b
  end_at number fn in_module k b in_function = end_rules lean_own m p.shaped fn (function_shaped lean_own m p.shaped number fn in_module) k b in_function

  -- a function of it
  pub moves_at : (number : ℕ) (fn : Function) → slice_get m.functions number ≡ Some fn → IsMoves fn
  moves_at number fn in_module = Each_at IsMoves m.functions number fn p.moves in_module
