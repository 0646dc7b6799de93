-- Functions with their bodies, and with bodies without switches: one beside the other.
use Rattle.std.proofs.Common.{◌≡◌, ℕ, ◌+◌, ◌≤◌, suc, true, List, [], ◌∷◌, map, length, refl, ap, arith}
use Rattle.std.specs.Prelude.{◌&&◌}
use Rattle.std.specs.List.{list_all, sum_by, enumerate_from}
use Rattle.std.proofs.lemmas.Bool.{and_parts}
use Rattle.std.proofs.lemmas.List.Sums.{sum_by-cons}
use Rattle.ir_core.specs.declared.module.Block.{Block}
use Rattle.ir_core.specs.declared.module.Function.{Function}
use Rattle.ir_core.specs.declared.module.Module.{Module}
use Rattle.ir_core.specs.Valid.{end_fits}
use Rattle.ir_sound.specs.WellTyped.{Each}
use Rattle.low_core.specs.declared.moves.Body.{Body}
use Rattle.low_core.specs.Plain.{block_of, with_blocks, with_bodies}
use Rattle.low_core.specs.Shaped.{move_fits, chunk_fits}
use Rattle.switch_lower.specs.Bodies.{body_of, bodies_of}

-- a function with a body, and with that body without switches
abbrev pub low_function : Function → Body → Function
low_function f b = with_blocks f (map block_of b.chunks)

abbrev pub lean_function : Function → Body → Function
lean_function f b = with_blocks f (map block_of (body_of f b).chunks)

-- as many bodies as functions
pub bodies_length : (fs : List Function) (bs : List Body) → length bs ≡ length fs → length (bodies_of fs bs) ≡ length fs
bodies_length [] bs e = refl
bodies_length (f ∷ fs) [] e = absurd (omega arith)
bodies_length (f ∷ fs) (b ∷ bs) e = ap (λ n. suc n) (bodies_length fs bs (omega arith))

pub functions_length : (fs : List Function) (bs : List Body) → length (with_bodies fs (bodies_of fs bs)) ≡ length (with_bodies fs bs)
functions_length [] bs = refl
functions_length (f ∷ fs) [] = refl
functions_length (f ∷ fs) (b ∷ bs) = ap (λ n. suc n) (functions_length fs bs)

-- functions keep their names
pub functions_named : (fs : List Function) (bs : List Body) → map (λ (f : Function). f.name) (with_bodies fs (bodies_of fs bs)) ≡ map (λ (f : Function). f.name) (with_bodies fs bs)
functions_named [] bs = refl
functions_named (f ∷ fs) [] = refl
functions_named (f ∷ fs) (b ∷ bs) = ap (λ ns. f.name ∷ ns) (functions_named fs bs)

-- what each function has, each function without switches has something for it
pub functions_each : (P Q : Function → Type 0) → ((f : Function) (b : Body) → P (low_function f b) → Q (lean_function f b)) → (fs : List Function) (bs : List Body) → Each P (with_bodies fs bs) → Each Q (with_bodies fs (bodies_of fs bs))
functions_each P Q go [] bs all = tt
functions_each P Q go (f ∷ fs) [] all = tt
functions_each P Q go (f ∷ fs) (b ∷ bs) all = (go f b all.0, functions_each P Q go fs bs all.1)

-- a sum over functions
pub functions_sum : (G : Function → ℕ) (P : Function → Type 0) → ((f : Function) (b : Body) → P (low_function f b) → G (lean_function f b) ≤ G (low_function f b)) → (fs : List Function) (bs : List Body) → Each P (with_bodies fs bs) → sum_by G (with_bodies fs (bodies_of fs bs)) ≤ sum_by G (with_bodies fs bs)
functions_sum G P go [] bs all = omega arith
functions_sum G P go (f ∷ fs) [] all = omega arith
functions_sum G P go (f ∷ fs) (b ∷ bs) all =
    let e = sum_by-cons G (lean_function f b) (with_bodies fs (bodies_of fs bs)) in
    let g = sum_by-cons G (low_function f b) (with_bodies fs bs) in
    let h = go f b all.0 in
    let i = functions_sum G P go fs bs all.1 in
    omega arith

-- the ends of a function's chunks fit
pub ends_fit : (m : Module) (f : Function) (k : ℕ) (bs : List Block) → list_all (chunk_fits m f) (enumerate_from k bs) ≡ true → Each (λ (b : Block). end_fits m f b.end ≡ true) bs
ends_fit m f k [] fits = tt
ends_fit m f k (b ∷ bs) fits =
    let p = and_parts (list_all (move_fits m f k) b.insts && end_fits m f b.end) (list_all (chunk_fits m f) (enumerate_from (k + 1) bs)) fits in
    ((and_parts (list_all (move_fits m f k) b.insts) (end_fits m f b.end) p.0).1, ends_fit m f (k + 1) bs p.1)
