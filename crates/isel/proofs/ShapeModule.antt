-- The program of registers that is selected for a shaped module keeps the rules of such programs.
use Rattle.std.proofs.Common.{◌≡◌, ℕ, ◌<◌, List, [], ◌∷◌, length, map, Some, slice_get, refl, ap, sym, ◌∙◌, arith}
use Rattle.std.specs.List.{All}
use Rattle.ir_core.specs.declared.module.Function.{Function}
use Rattle.ir_core.specs.declared.module.Module.{Module}
use Rattle.ir_sound.specs.WellTyped.{Each}
use Rattle.ir_sound.proofs.RowLaws.{Each_at, Each_more, length_map}
use Rattle.low_core.specs.declared.sel.SelFun.{SelFun}
use Rattle.low_core.specs.Plan.{NamesOneOf}
use Rattle.low_core.specs.SelParts.{ops_of}
use Rattle.low_core.specs.SelShaped.{IsFunShaped, IsSel}
use Rattle.low_core.specs.Shaped.{IsModuleShaped}
use Rattle.low_core.specs.Weights.{lean_own}
use Rattle.isel_rows.specs.Functions.{function_selected}
use Rattle.isel_rows.specs.Selected.{is_taken, module_selected}
use Rattle.isel.proofs.ShapeForms.{all_of, Fits}
use Rattle.isel.proofs.ShapeCalls.{numbers_length, selected_at}
use Rattle.isel.proofs.ShapeKnown.{each_there, blocks_known}
use Rattle.isel.proofs.ShapeFunctions.{ops_fit, function_fits}
use Rattle.isel.proofs.ShapeMain.{main_at, main_there, main_selected}
use Rattle.isel.proofs.ShapeWeighs.{module_weighs}

-- each function has a block
abbrev pub HasBlocks : Module → Type 0
HasBlocks m = Each (λ (f : Function). 0 < length f.blocks) m.functions

-- what holds of what is made of each
each_made : {A B : Type 0} (P : B → Type 0) (f : A → B) (xs : List A) → Each (λ x. P (f x)) xs → Each P (map f xs)
each_made P f [] all = tt
each_made P f (x ∷ xs) all = (all.0, each_made P f xs all.1)

-- as many functions, each with as many parameters
pub functions_many : (m : Module) → length (module_selected m).functions ≡ length m.functions
functions_many m = length_map (function_selected m) m.functions

-- a function as it is selected
pub record SelectedAs (m : Module) (number : ℕ) (fn : Function) : Type 0 where
  pub selected : SelFun
  pub there : slice_get (module_selected m).functions number ≡ Some selected
  pub params : length selected.params ≡ length fn.params

-- each function is
pub function_as : (m : Module) (number : ℕ) (fn : Function) → slice_get m.functions number ≡ Some fn → SelectedAs m number fn
function_as m number fn at = record { selected = function_selected m fn; there = selected_at m number fn at; params = numbers_length 0 (length fn.params) }

-- the numbers of parameters in a row
params_as : (m : Module) (fs : List Function) → map (λ (f : SelFun). length f.params) (map (function_selected m) fs) ≡ map (λ (f : Function). length f.params) fs
params_as m [] = refl
params_as m (f ∷ fs) = ap (λ n. n ∷ map (λ (g : SelFun). length g.params) (map (function_selected m) fs)) (numbers_length 0 (length f.params)) ∙ ap (λ ns. length f.params ∷ ns) (params_as m fs)

-- those of a whole module
pub parameters_as : (m : Module) → map (λ (f : SelFun). length f.params) (module_selected m).functions ≡ map (λ (f : Function). length f.params) m.functions
parameters_as m = params_as m m.functions

module _ (m : Module) (shaped : IsModuleShaped lean_own m) (blocks : HasBlocks m) where
  -- a function at a place has a block
  some_block : (number : ℕ) (fn : Function) → slice_get m.functions number ≡ Some fn → 0 < length fn.blocks
  some_block number fn at = Each_at (λ (f : Function). 0 < length f.blocks) m.functions number fn blocks at

  functions_fit : Each (IsFunShaped (module_selected m)) (module_selected m).functions
  functions_fit =
      each_made (IsFunShaped (module_selected m)) (function_selected m) m.functions
      (each_there (λ f. IsFunShaped (module_selected m) (function_selected m f)) m.functions (λ number f at. function_fits m shaped number f at (some_block number f at)))

  -- it is shaped
  pub module_fits : IsSel (module_selected m)
  module_fits =
      let x = main_at m shaped.main in
      let many = functions_many m in
      let few = shaped.few in
      let weighs = shaped.weighs in
      let less = module_weighs m in
      record {
        few = omega (arith, many, few);
        functions = all_of (IsFunShaped (module_selected m)) (module_selected m).functions functions_fit;
        told = length_map (is_taken m) m.functions ∙ sym many;
        main_fun = function_selected m x.fn;
        main_stands = main_there m x;
        main = main_selected m x.fn x.main (blocks_known lean_own m shaped x.number x.fn x.there);
        weighs = omega (arith, weighs, less);
      }

  -- its operations name globals of the module
  names_fit : (number : ℕ) (fn : Function) → slice_get m.functions number ≡ Some fn → All (NamesOneOf (length m.globals)) (ops_of (function_selected m fn))
  names_fit number fn at =
      let ops = ops_of (function_selected m fn) in
      all_of (NamesOneOf (length m.globals)) ops (Each_more (Fits m fn) (NamesOneOf (length m.globals)) ops (λ op fit. fit.1) (ops_fit m shaped number fn at (some_block number fn at)))

  pub module_names : All (λ (f : SelFun). All (NamesOneOf (length m.globals)) (ops_of f)) (module_selected m).functions
  module_names =
      let P : SelFun → Type 0 = λ f. All (NamesOneOf (length m.globals)) (ops_of f) in
      all_of P (module_selected m).functions (each_made P (function_selected m) m.functions (each_there (λ f. P (function_selected m f)) m.functions names_fit))
