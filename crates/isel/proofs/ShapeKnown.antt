-- What is known of each instruction and each end of a module that is shaped: types, mentions, and few arguments.
use Rattle.std.proofs.Common.{◌≡◌, ℕ, suc, ◌≤◌, true, List, [], ◌∷◌, length, map, Some, slice_get, refl, arith}
use Rattle.std.specs.List.{flat_map}
use Rattle.ir_core.specs.declared.instruction.Inst.{Inst}
use Rattle.ir_core.specs.declared.limit.TheConstants.{MAX_PARAMETERS}
use Rattle.ir_core.specs.declared.module.Block.{Block}
use Rattle.ir_core.specs.declared.module.Extern.{Extern}
use Rattle.ir_core.specs.declared.module.Function.{Function}
use Rattle.ir_core.specs.declared.module.Module.{Module}
use Rattle.ir_core.specs.Counts.{greatest, argument_counts, call_counts, parameter_counts}
use Rattle.ir_core.specs.Kinds.{kind_of}
use Rattle.ir_core.specs.Mentions.{of_op, of_end}
use Rattle.ir_core.specs.Typing.{op_fits, term_fits}
use Rattle.ir_core.specs.Valid.{env_of}
use Rattle.ir_sound.specs.WellTyped.{Each}
use Rattle.ir_sound.proofs.RowLaws.{Each_at, Each_and, Each_more, Each_parts, Each_rows}
use Rattle.low_core.specs.Shaped.{IsModuleShaped, IsFunctionShaped}
use Rattle.isel.proofs.Mentioned.{IsFine, each_of, inst_fine, end_fine}
use Rattle.isel.proofs.ShapeOps.{AreFew}
use Rattle.isel.proofs.Typed.{inst_rules, end_rules, function_shaped}

-- what holds at each place holds of each
pub each_there : {X : Type 0} (P : X → Type 0) (xs : List X) → ((k : ℕ) (x : X) → slice_get xs k ≡ Some x → P x) → Each P xs
each_there P [] go = tt
each_there P (x ∷ xs) go = (go 0 x refl, each_there P xs (λ k y at. go (suc k) y at))

-- no count is past the greatest
below_greatest : (ns : List ℕ) → Each (λ n. n ≤ greatest ns) ns
below_greatest [] = tt
below_greatest (n ∷ ns) = ((let z : n ≤ greatest (n ∷ ns) = omega arith in z), Each_more (λ k. k ≤ greatest ns) (λ k. k ≤ greatest (n ∷ ns)) ns (λ k le. omega (arith, le)) (below_greatest ns))

module _ (own : ℕ) (m : Module) (shaped : IsModuleShaped own m) where
  -- parameters of a function, and arguments of its calls
  counts_few : (number : ℕ) (fn : Function) → slice_get m.functions number ≡ Some fn → Each (λ n. n ≤ MAX_PARAMETERS) (length fn.params ∷ call_counts fn)
  counts_few number fn at =
      let P : ℕ → Type 0 = λ n. n ≤ MAX_PARAMETERS in
      let row : Function → List ℕ = λ f. length f.params ∷ call_counts f in
      let all = each_of P (parameter_counts m) shaped.passed in
      Each_at (λ (f : Function). Each P (row f)) m.functions number fn (Each_rows P row m.functions (Each_parts P (map (λ (e : Extern). length e.params) m.externs) (flat_map row m.functions) all).1) at

  -- the parameters are few
  pub parameters_few : (number : ℕ) (fn : Function) → slice_get m.functions number ≡ Some fn → length fn.params ≤ MAX_PARAMETERS
  parameters_few number fn at = (counts_few number fn at).0

  -- so are the arguments of each call
  arguments_few : (number : ℕ) (fn : Function) → slice_get m.functions number ≡ Some fn → (k : ℕ) (b : Block) → slice_get fn.blocks k ≡ Some b → (j : ℕ) (i : Inst) → slice_get b.insts j ≡ Some i → AreFew m fn i.op
  arguments_few number fn in_module k b in_function j i at =
      let P : ℕ → Type 0 = λ n. (n ≤ greatest (call_counts fn)) × (n ≤ MAX_PARAMETERS) in
      let row : Inst → List ℕ = λ x. argument_counts x.op in
      let rows : Block → List ℕ = λ c. flat_map row c.insts in
      let all = Each_and (λ n. n ≤ greatest (call_counts fn)) (λ n. n ≤ MAX_PARAMETERS) (call_counts fn) (below_greatest (call_counts fn)) (counts_few number fn in_module).1 in
      Each_at (λ (x : Inst). Each P (row x)) b.insts j i (Each_rows P row b.insts (Each_at (λ (c : Block). Each P (rows c)) fn.blocks k b (Each_rows P rows fn.blocks all) in_function)) at

-- an instruction, and a block
module _ (m : Module) (fn : Function) where
  -- what is known of an instruction
  pub record InstKnown (i : Inst) : Type 0 where
    pub fits : op_fits m (env_of fn) i.op ≡ true
    pub fine : Each (IsFine m) (of_op i.op)
    pub few : AreFew m fn i.op

  -- what is known of a block
  pub record BlockKnown (b : Block) : Type 0 where
    pub insts : Each InstKnown b.insts
    pub fits : term_fits m (env_of fn) (kind_of fn.ret) b.end ≡ true
    pub fine : Each (IsFine m) (of_end b.end)

-- all of it is known of a shaped module
pub blocks_known : (own : ℕ) (m : Module) → IsModuleShaped own m → (number : ℕ) (fn : Function) → slice_get m.functions number ≡ Some fn → Each (BlockKnown m fn) fn.blocks
blocks_known own m shaped number fn in_module = each_there (BlockKnown m fn) fn.blocks block
  where
    shape : IsFunctionShaped own m fn
    shape = function_shaped own m shaped number fn in_module

    block : (k : ℕ) (b : Block) → slice_get fn.blocks k ≡ Some b → BlockKnown m fn b
    block k b at = record {
      insts = each_there (InstKnown m fn) b.insts (λ j i there. record {
        fits = (inst_rules own m shaped fn shape k b at j i there).fits;
        fine = inst_fine own m shaped number fn in_module k b at j i there;
        few = arguments_few own m shaped number fn in_module k b at j i there;
      });
      fits = (end_rules own m shaped fn shape k b at).fits;
      fine = end_fine own m shaped number fn in_module k b at;
    }
