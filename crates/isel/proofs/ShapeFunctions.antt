-- A function that is selected is shaped: parameters, blocks, and room in its frame.
use Rattle.std.proofs.Common.{◌≡◌, ℕ, zero, suc, ◌+◌, ◌-◌, ◌<◌, ◌≤◌, List, [], ◌∷◌, length, map, Some, slice_get, arith}
use Rattle.std.specs.List.{flat_map}
use Rattle.ir_core.specs.declared.limit.TheConstants.{MAX_FRAME}
use Rattle.ir_core.specs.declared.module.Function.{Function}
use Rattle.ir_core.specs.declared.module.Module.{Module}
use Rattle.ir_core.specs.Counts.{greatest}
use Rattle.ir_core.specs.Definitions.{label_names}
use Rattle.ir_sound.specs.WellTyped.{Each}
use Rattle.ir_sound.proofs.RowLaws.{Each_both, Each_more}
use Rattle.low_core.specs.declared.sel.SelBlock.{SelBlock}
use Rattle.low_core.specs.declared.sel.SelOp.{SelOp}
use Rattle.low_core.specs.SelParts.{ops_of}
use Rattle.low_core.specs.SelShaped.{AreApart, IsBlockShaped, IsFunShaped}
use Rattle.low_core.specs.SelWeights.{arguments_of, words_passed, sel_room}
use Rattle.low_core.specs.Shaped.{IsModuleShaped}
use Rattle.low_core.specs.Weights.{lean_own}
use Rattle.isel_rows.specs.Variables.{variables_of}
use Rattle.isel_rows.specs.Functions.{numbers_from, function_selected}
use Rattle.isel_rows.specs.Selected.{module_selected}
use Rattle.isel.proofs.ShapeForms.{all_of, most, count, Fits, IsBelow, registers_least}
use Rattle.isel.proofs.ShapeCalls.{numbers_length}
use Rattle.isel.proofs.ShapeKnown.{parameters_few, blocks_known}
use Rattle.isel.proofs.ShapeBlocks.{BlockFits, blocks_length, function_blocks}
use Rattle.isel.proofs.ShapeVariables.{variables_few, variables_enough}
use Rattle.isel.proofs.Typed.{function_shaped}

-- of each row each item
pub rows_each : {X Y : Type 0} (P : X → Type 0) (row : Y → List X) (ys : List Y) → Each (λ y. Each P (row y)) ys → Each P (flat_map row ys)
rows_each P row [] all = tt
rows_each P row (y ∷ ys) all = Each_both P (row y) (flat_map row ys) all.0 (rows_each P row ys all.1)

-- numbers from one on are below their end, and apart
numbers_below : (end first n : ℕ) → first + n ≤ end → Each (λ r. r < end) (numbers_from first n)
numbers_below end first zero room = tt
numbers_below end first (suc n) room = ((let z : first < end = omega (arith, room) in z), numbers_below end (first + 1) n (omega (arith, room)))

-- those that begin past a number differ from it
numbers_past : (k first n : ℕ) → k < first → Each (λ r. r ≡ k → ⊥) (numbers_from first n)
numbers_past k first zero less = tt
numbers_past k first (suc n) less = ((λ e. omega (arith, e, less)), numbers_past k (first + 1) n (omega (arith, less)))

-- so no number stands twice
numbers_apart : (first n : ℕ) → AreApart (numbers_from first n)
numbers_apart first zero = tt
numbers_apart first (suc n) = (all_of (λ r. r ≡ first → ⊥) (numbers_from (first + 1) n) (numbers_past first (first + 1) n (omega arith)), numbers_apart (first + 1) n)

-- the arguments that are passed on the stack
passed_few : (limit : ℕ) (ops : List SelOp) → Each (λ (op : SelOp). arguments_of op ≤ limit) ops → greatest (map (λ (op : SelOp). arguments_of op - 6) ops) ≤ limit - 6
passed_few limit [] few = omega arith
passed_few limit (op ∷ ops) few = let a = few.0 in let b = passed_few limit ops few.1 in omega (arith, a, b)

module _ (m : Module) (shaped : IsModuleShaped lean_own m) (number : ℕ) (fn : Function) (in_module : slice_get m.functions number ≡ Some fn) (some_block : 0 < length fn.blocks) where
  pub blocks_fit : Each (BlockFits m fn some_block) (function_selected m fn).blocks
  blocks_fit = function_blocks m fn some_block (blocks_known lean_own m shaped number fn in_module)

  -- all of its operations fit
  pub ops_fit : Each (Fits m fn) (ops_of (function_selected m fn))
  ops_fit =
      let blocks = (function_selected m fn).blocks in
      rows_each (Fits m fn) (λ (b : SelBlock). b.ops) blocks (Each_more (BlockFits m fn some_block) (λ (b : SelBlock). Each (Fits m fn) b.ops) blocks (λ b fit. fit.ops) blocks_fit)

  words_few : words_passed (function_selected m fn) ≤ most m fn - 6
  words_few = let ops = ops_of (function_selected m fn) in passed_few (most m fn) ops (Each_more (Fits m fn) (λ (op : SelOp). arguments_of op ≤ most m fn) ops (λ op fit. fit.2) ops_fit)

  -- room for its registers and the words that it passes
  room_fits : sel_room (function_selected m fn) ≤ MAX_FRAME
  room_fits =
      let own = (function_shaped lean_own m shaped number fn in_module).room in
      let few = variables_few fn in
      let words = words_few in
      omega (arith, own, few, words)

  pub function_fits : IsFunShaped (module_selected m) (function_selected m fn)
  function_fits =
      let shape = function_shaped lean_own m shaped number fn in_module in
      let sel = function_selected m fn in
      let enough = variables_enough fn shape.params in
      let least = registers_least m fn in
      let long = blocks_length m (variables_of fn) (label_names fn) 0 fn.blocks in
      let params = numbers_length 0 (length fn.params) in
      let few = parameters_few lean_own m shaped number fn in_module in
      record {
        some_block = omega (arith, long, some_block);
        params = all_of (IsBelow m fn) sel.params (numbers_below (count m fn) 0 (length fn.params) (omega (arith, enough, least)));
        params_apart = numbers_apart 0 (length fn.params);
        few = omega (arith, params, few);
        blocks = all_of (IsBlockShaped (module_selected m) sel) sel.blocks (Each_more (BlockFits m fn some_block) (IsBlockShaped (module_selected m) sel) sel.blocks (λ b fit. fit.shaped) blocks_fit);
        room = room_fits;
      }
