-- Bodies without switches weigh no more than the bodies, and have no more returns and calls through a local.
use Rattle.std.proofs.Common.{◌≤◌, List, [], ◌∷◌, refl, arith}
use Rattle.std.specs.List.{sum_by}
use Rattle.ir_core.specs.declared.instruction.Inst.{Inst}
use Rattle.ir_core.specs.declared.module.Block.{Block}
use Rattle.ir_core.specs.declared.module.Function.{Function}
use Rattle.ir_core.specs.declared.module.Module.{Module}
use Rattle.ir_sound.specs.WellTyped.{Each}
use Rattle.ir_sound.proofs.RowLaws.{Each_more, each_mapped}
use Rattle.low_core.specs.declared.moves.Body.{Body}
use Rattle.low_core.specs.Plain.{block_of, plain}
use Rattle.low_core.specs.Shaped.{IsFunctionShaped, AreShaped, returns_at, returns_of, local_calls_at, local_calls_of}
use Rattle.low_core.specs.Weights.{function_weight, weight, low_own}
use Rattle.switch_lower.specs.Bodies.{padding_in, bodies_without_switches}
use Rattle.switch_lower.proofs.ShapeRows.{each_of}
use Rattle.switch_lower.proofs.ShapeChunks.{sum_kept}
use Rattle.switch_lower.proofs.ShapeFunctions.{low_function, lean_function, functions_sum, ends_fit}
use Rattle.switch_lower.proofs.WeighTree.{Light, end_light, chunks_weigh}

-- the switches of a function weigh little for their values
abbrev pub IsLight : Function → Type 0
IsLight f = Each (λ (b : Block). Light b.end) f.blocks

pub shaped_light : (m : Module) (f : Function) → IsFunctionShaped low_own m f → IsLight f
shaped_light m f shaped = Each_more _ (λ (b : Block). Light b.end) f.blocks (λ b e. end_light m f b.end e) (ends_fit m f 0 f.blocks shaped.fits)

pub function_weighs : (f : Function) (b : Body) → IsLight (low_function f b) → function_weight (lean_function f b) ≤ function_weight (low_function f b)
function_weighs f b light = let a = chunks_weigh (padding_in f b) 0 b.chunks (each_mapped (λ (x : Block). Light x.end) block_of b.chunks light) in omega arith

pub bodies_weigh : (base : Module) (bodies : List Body) → AreShaped low_own base bodies → weight (plain base (bodies_without_switches base bodies)) ≤ weight (plain base bodies)
bodies_weigh base bodies low =
    let functions = (plain base bodies).functions in
    functions_sum function_weight IsLight function_weighs base.functions bodies
    (Each_more (IsFunctionShaped low_own (plain base bodies)) IsLight functions (shaped_light (plain base bodies)) (each_of (IsFunctionShaped low_own (plain base bodies)) functions low.shaped.functions))

-- returns and calls
nothing_known : (fs : List Function) → Each (λ (f : Function). Unit {0}) fs
nothing_known [] = tt
nothing_known (f ∷ fs) = (tt, nothing_known fs)

pub bodies_return : (base : Module) (bodies : List Body) → returns_of (plain base (bodies_without_switches base bodies)) ≤ returns_of (plain base bodies)
bodies_return base bodies =
    functions_sum (λ (f : Function). sum_by (λ (b : Block). returns_at b.end) f.blocks) (λ (f : Function). Unit {0})
    (λ f b u. sum_kept (λ (x : Block). returns_at x.end) (λ s at pred number taken other. refl) (λ s at. refl) (λ c to. omega arith) (padding_in f b) 0 b.chunks)
    base.functions bodies (nothing_known (plain base bodies).functions)

pub bodies_call : (base : Module) (bodies : List Body) → local_calls_of (plain base (bodies_without_switches base bodies)) ≤ local_calls_of (plain base bodies)
bodies_call base bodies =
    functions_sum (λ (f : Function). sum_by (λ (b : Block). sum_by (λ (i : Inst). local_calls_at i.op) b.insts) f.blocks) (λ (f : Function). Unit {0})
    (λ f b u. sum_kept (λ (x : Block). sum_by (λ (i : Inst). local_calls_at i.op) x.insts) (λ s at pred number taken other. refl) (λ s at. refl) (λ c to. omega arith) (padding_in f b) 0 b.chunks)
    base.functions bodies (nothing_known (plain base bodies).functions)
