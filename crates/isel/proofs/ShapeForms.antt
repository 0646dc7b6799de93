-- Operations that fit a function which is selected: by the form of an operation, what is asked of its numbers and widths.
use Rattle.std.proofs.Common.{◌≡◌, ℕ, ◌+◌, ◌^◌, ◌<◌, ◌≤◌, Bool, true, List, [], ◌∷◌, length, map, Option, Some, slice_get, arith}
use Rattle.std.specs.List.{All}
use Rattle.std.proofs.lemmas.List.Elements.{All-nil, All-cons}
use Rattle.rd_num.specs.declared.width.Width.{Width}
use Rattle.rd_num.specs.Number.{bits}
use Rattle.ir_core.specs.declared.instruction.Pred.{Pred}
use Rattle.ir_core.specs.declared.limit.TheConstants.{MAX_PARAMETERS}
use Rattle.ir_core.specs.declared.module.Function.{Function}
use Rattle.ir_core.specs.declared.module.Module.{Module}
use Rattle.ir_core.specs.Counts.{greatest, call_counts}
use Rattle.ir_core.specs.Valid.{LocalKind}
use Rattle.ir_sound.specs.WellTyped.{Each}
use Rattle.low_core.specs.declared.sel.SelAlu.{SelAlu}
use Rattle.low_core.specs.declared.sel.SelOp.{SelOp}
use Rattle.low_core.specs.declared.sel.SelOp.TheVariants.{Set, Copy, Alu, Div, Widen, Test, Pick, Load, Store, FrameAt, GlobalAt, FunctionAt, Call, CallAt, Outside}
use Rattle.low_core.specs.declared.sel.Which.{Which}
use Rattle.low_core.specs.Plan.{NamesOneOf}
use Rattle.low_core.specs.SelShaped.{IsWide, AluFits, IsAnyBelow, HasResult, IsCallOf, IsOpShaped, arity}
use Rattle.low_core.specs.SelWeights.{arguments_of}
use Rattle.low_core.specs.Weights.{allocas_room}
use Rattle.isel_rows.specs.Variables.{variables_of, registers_count}
use Rattle.isel_rows.specs.Functions.{function_selected}
use Rattle.isel_rows.specs.Selected.{is_taken, module_selected}

-- what each has holds of all
pub all_of : {X : Type 0} (P : X → Type 0) (xs : List X) → Each P xs → All P xs
all_of P [] each = All-nil P
all_of P (x ∷ xs) each = All-cons P x xs each.0 (all_of P xs each.1)

module _ (m : Module) (fn : Function) where
  abbrev pub vs : List LocalKind
  vs = variables_of fn

  -- as many registers as the function has, and the most arguments of a call in it
  abbrev pub count : ℕ
  count = registers_count (variables_of fn) fn

  abbrev pub most : ℕ
  most = greatest (call_counts fn)

  -- those of variables, eight more, and those of arguments
  pub registers_room : length vs + 8 + most ≤ count
  registers_room = omega arith

  pub registers_least : length vs + 14 ≤ count
  registers_least = omega arith

  -- an operation fits: it is shaped, a global that it names is one of the module, and it has no more arguments than a call of the function has
  abbrev pub Fits : SelOp → Type 0
  Fits op = IsOpShaped (module_selected m) (function_selected m fn) op × NamesOneOf (length m.globals) op × (arguments_of op ≤ most)

  -- a register is one of the function
  abbrev pub IsBelow : ℕ → Type 0
  IsBelow r = r < count

  -- registers that are read
  abbrev Below : List ℕ → Type 0
  Below rs = All IsBelow rs

  no_reads : Below []
  no_reads = All-nil IsBelow

  -- one register
  one_read : (s : ℕ) → s < count → Below (s ∷ [])
  one_read s first = All-cons IsBelow s [] first (All-nil IsBelow)

  -- two of them
  two_reads : (s t : ℕ) → s < count → t < count → Below (s ∷ t ∷ [])
  two_reads s t first second = All-cons IsBelow s (t ∷ []) first (one_read t second)

  -- operations that assign a register
  pub set_fits : (r n : ℕ) → r < count → n < 2 ^ 64 → Fits (Set r n)
  set_fits r n to word = (record { reads = no_reads; assigns = to; fits = word; few = omega arith }, tt, omega arith)

  -- a copy
  pub copy_fits : (r s : ℕ) → r < count → s < count → Fits (Copy r s)
  copy_fits r s to first = (record { reads = one_read s first; assigns = to; fits = tt; few = omega arith }, tt, omega arith)

  -- arithmetic
  pub alu_fits : (op : SelAlu) (w : Width) (r s t : ℕ) → AluFits op w → r < count → s < count → t < count → Fits (Alu op w r s t)
  alu_fits op w r s t wide to first second = (record { reads = two_reads s t first second; assigns = to; fits = wide; few = omega arith }, tt, omega arith)

  -- a division
  pub div_fits : (signed rest : Bool) (w : Width) (r s t : ℕ) → IsWide w → r < count → s < count → t < count → Fits (Div signed rest w r s t)
  div_fits signed rest w r s t wide to first second = (record { reads = two_reads s t first second; assigns = to; fits = wide; few = omega arith }, tt, omega arith)

  -- a number of another width
  pub widen_fits : (signed : Bool) (from into : Width) (r s : ℕ) → bits from ≤ bits into → r < count → s < count → Fits (Widen signed from into r s)
  widen_fits signed from into r s up to first = (record { reads = one_read s first; assigns = to; fits = up; few = omega arith }, tt, omega arith)

  -- a comparison
  pub test_fits : (pred : Pred) (w : Width) (r s t : ℕ) → r < count → s < count → t < count → Fits (Test pred w r s t)
  test_fits pred w r s t to first second = (record { reads = two_reads s t first second; assigns = to; fits = tt; few = omega arith }, tt, omega arith)

  -- a choice
  pub pick_fits : (r c s t : ℕ) → r < count → c < count → s < count → t < count → Fits (Pick r c s t)
  pick_fits r c s t to condition first second = (record { reads = All-cons IsBelow c (s ∷ t ∷ []) condition (two_reads s t first second); assigns = to; fits = tt; few = omega arith }, tt, omega arith)

  -- a load
  pub load_fits : (w : Width) (r s : ℕ) → IsWide w → r < count → s < count → Fits (Load w r s)
  load_fits w r s wide to first = (record { reads = one_read s first; assigns = to; fits = wide; few = omega arith }, tt, omega arith)

  -- a store
  pub store_fits : (w : Width) (s t : ℕ) → IsWide w → s < count → t < count → Fits (Store w s t)
  store_fits w s t wide first second = (record { reads = two_reads s t first second; assigns = tt; fits = wide; few = omega arith }, tt, omega arith)

  -- a place in the frame
  pub frame_fits : (r at : ℕ) → r < count → at ≤ allocas_room m.types fn → Fits (FrameAt r at)
  frame_fits r at to room = (record { reads = no_reads; assigns = to; fits = room; few = omega arith }, tt, omega arith)

  -- a global
  pub global_fits : (r g : ℕ) → r < count → g < length m.globals → Fits (GlobalAt r g)
  global_fits r g to there = (record { reads = no_reads; assigns = to; fits = tt; few = omega arith }, there, omega arith)

  -- a function as a pointer
  pub function_fits : (r f : ℕ) → r < count → slice_get (map (is_taken m) m.functions) f ≡ Some true → Fits (FunctionAt r f)
  function_fits r f to taken = (record { reads = no_reads; assigns = to; fits = taken; few = omega arith }, tt, omega arith)

  -- calls
  pub call_fits : (f : ℕ) (into : Option ℕ) (rs : List ℕ) → IsCallOf (module_selected m) f (length rs) → IsAnyBelow count into → Each IsBelow rs → length rs ≤ most → length rs ≤ MAX_PARAMETERS → Fits (Call f into rs)
  call_fits f into rs is to below some few = (record { reads = all_of IsBelow rs below; assigns = to; fits = is; few = few }, tt, some)

  -- a call by address
  pub address_fits : (s : ℕ) (into : Option ℕ) (rs : List ℕ) → s < count → IsAnyBelow count into → Each IsBelow rs → length rs ≤ most → length rs ≤ MAX_PARAMETERS → Fits (CallAt s into rs)
  address_fits s into rs first to below some few = (record { reads = All-cons IsBelow s rs first (all_of IsBelow rs below); assigns = to; fits = tt; few = few }, tt, some)

  -- a call of a function outside
  pub outside_fits : (which : Which) (into : Option ℕ) (rs : List ℕ) → length rs ≡ arity which → HasResult which into → IsAnyBelow count into → Each IsBelow rs → length rs ≤ most → length rs ≤ MAX_PARAMETERS → Fits (Outside which into rs)
  outside_fits which into rs as_many result to below some few = (record { reads = all_of IsBelow rs below; assigns = to; fits = (as_many, result); few = few }, tt, some)
