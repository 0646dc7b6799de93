-- One more cell, element or field behind those that are there.
use Rattle.std.proofs.Common.{◌≡◌, ℕ, zero, suc, ◌+◌, ◌-◌, ◌%◌, ◌<◌, ◌≤◌, List, [], ◌∷◌, ◌++◌, length, map, drop, get_or, refl, ap, sym, ◌∙◌, arith, length-append, append_assoc}
use Rattle.std.proofs.lemmas.List.{length-replicate}
use Rattle.std.proofs.Math.Nat.{mod-lt}
use Rattle.std.proofs.lemmas.Nat.{div-add-mod'}
use Rattle.ir_core.specs.declared.memory.Cell.{Cell}
use Rattle.ir_core.specs.declared.memory.Cell.TheVariants.{Byte}
use Rattle.ir_core.specs.declared.init.Elem.{Elem}
use Rattle.ir_core.specs.declared.module.Module.{Module}
use Rattle.ir_core.specs.declared.size.Align.{Align}
use Rattle.ir_core.specs.declared.size.Align.TheVariants.{One, Two, Four, Eight}
use Rattle.ir_core.specs.Sizes.{align_bytes}
use Rattle.ir_core.specs.Shapes.{rounded}
use Rattle.ir_core.specs.Globals.{Part, zeros, end_to_end, spread}
use Rattle.ir_core.proofs.LoopLaws.{drop_item}
use Rattle.ir_context.specs.Extents.{extent_of}
use Rattle.ir_globals.specs.Told.{behind_gap, told_part}

-- gaps in front of multiples
pub gap_one : (n : ℕ) → 0 ≡ rounded n 1 - n
gap_one n = omega arith

pub gap_two : (n : ℕ) → n % 2 ≡ rounded n 2 - n
gap_two n = omega arith

pub gap_four : (n : ℕ) → (4 - n % 4) % 4 ≡ rounded n 4 - n
gap_four n = omega arith

pub gap_eight : (n : ℕ) → (8 - n % 8) % 8 ≡ rounded n 8 - n
gap_eight n = omega arith

-- one zero more
pub zeros_more : (n : ℕ) → zeros n ++ Byte 0 ∷ [] ≡ zeros (n + 1)
zeros_more zero = refl
zeros_more (suc n) = ap (λ cs. Byte 0 ∷ cs) (zeros_more n) ∙ (let e : suc (n + 1) ≡ suc n + 1 = omega arith in ap zeros e)

-- behind cells that are there
pub zeros_step : (before now after : List Cell) (n : ℕ) → now ≡ before ++ zeros n → after ≡ now ++ Byte 0 ∷ [] → after ≡ before ++ zeros (n + 1)
zeros_step before now after n e f = f ∙ ap (λ cs. cs ++ Byte 0 ∷ []) e ∙ append_assoc before (zeros n) (Byte 0 ∷ []) ∙ ap (λ cs. before ++ cs) (zeros_more n)

-- an alignment is a byte at least
align_positive : (a : Align) → 0 < align_bytes a
align_positive One = omega arith
align_positive Two = omega arith
align_positive Four = omega arith
align_positive Eight = omega arith

-- a multiple that isn't below
rounded_up : (n to : ℕ) → 0 < to → n ≤ rounded n to
rounded_up n to p =
    let k = n + (to - 1) in
    let e = div-add-mod' k to in
    let l = mod-lt k p in
    omega arith

-- an element behind those before it
pub element_step : (m : Module) (es : List Elem) (i : ℕ) (e : Elem) (before after whole : List Cell) → i < length es → e ≡ get_or es i e
    → after ≡ before ++ (told_part m e).cells → before ++ end_to_end (map (told_part m) (drop i es)) ≡ whole
    → after ++ end_to_end (map (told_part m) (drop (i + 1) es)) ≡ whole
element_step m es i e before after whole inside item put rest =
    let tail = end_to_end (map (told_part m) (drop (i + 1) es)) in
    ap (λ cs. cs ++ tail) put ∙ append_assoc before (told_part m e).cells tail
    ∙ ap (λ ds. before ++ end_to_end (map (told_part m) ds)) (sym (drop_item es i e inside item)) ∙ rest

-- a part behind those before it
part_step : (before after : List Cell) (start size : ℕ) (p : Part) (rest : List Part) → 0 < p.align → start ≤ length before
    → after ≡ before ++ behind_gap (length before - start) p
    → after ++ spread (length after - start) size rest ≡ before ++ spread (length before - start) size (p ∷ rest)
part_step before after start size p rest some inside e =
    let at = length before - start in
    let gap = zeros (rounded at p.align - at) in
    let up : at ≤ rounded at p.align = rounded_up at p.align some in
    let a1 : length after ≡ length (before ++ (gap ++ p.cells)) = ap length e in
    let a2 : length (before ++ (gap ++ p.cells)) ≡ length before + length (gap ++ p.cells) = length-append before (gap ++ p.cells) in
    let a3 : length (gap ++ p.cells) ≡ length gap + length p.cells = length-append gap p.cells in
    let a4 : length gap ≡ rounded at p.align - at = length-replicate (rounded at p.align - at) (Byte 0) in
    let place : length after - start ≡ rounded at p.align + length p.cells = omega arith in
    let tail = spread (rounded at p.align + length p.cells) size rest in
    ap (λ n. after ++ spread n size rest) place ∙ ap (λ cs. cs ++ tail) e ∙ append_assoc before (gap ++ p.cells) tail

-- a field behind those before it
pub field_step : (m : Module) (es : List Elem) (i : ℕ) (e : Elem) (before after whole : List Cell) (start size : ℕ) → i < length es → e ≡ get_or es i e → start ≤ length before
    → after ≡ before ++ behind_gap (length before - start) (told_part m e) → before ++ spread (length before - start) size (map (told_part m) (drop i es)) ≡ whole
    → after ++ spread (length after - start) size (map (told_part m) (drop (i + 1) es)) ≡ whole
field_step m es i e before after whole start size inside item begun put rest =
    part_step before after start size (told_part m e) (map (told_part m) (drop (i + 1) es)) (align_positive (extent_of m.types e.ty).align) begun put
    ∙ ap (λ ds. before ++ spread (length before - start) size (map (told_part m) ds)) (sym (drop_item es i e inside item)) ∙ rest

-- what is begun stays begun
pub start_kept : (before after more : List Cell) (start : ℕ) → start ≤ length before → after ≡ before ++ more → start ≤ length after
start_kept before after more start inside e =
    let a : length after ≡ length (before ++ more) = ap length e in
    let b : length (before ++ more) ≡ length before + length more = length-append before more in
    omega arith
