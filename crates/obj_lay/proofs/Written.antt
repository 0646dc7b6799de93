-- What is put into a segment of slots, as bytes that are put over others.
use Rattle.std.proofs.Common.{◌≡◌, ℕ, ◌+◌, ◌-◌, ◌<◌, ◌≤◌, List, [], ◌∷◌, ◌++◌, length, sym, ◌∙◌, ap, if◌then◌else◌, arith, append_assoc, length-append}
use Rattle.std.proofs.lemmas.Bool.{lt-ltb}
use Rattle.std.proofs.lemmas.List.{length-replicate, replicate-append-replicate}
use Rattle.obj_core.specs.declared.code.CodeBuilder.{CodeBuilder}
use Rattle.obj_core.specs.Slots.{slot_base}
use Rattle.obj_core.specs.Placement.{filler, overlaid, displacement_bytes}
use Rattle.obj_core.specs.Runs.{address_at, put_at, slot_run}
use Rattle.obj_core.proofs.Overlaid.{overlaid_inside, overlaid_first, overlaid_both}
use Rattle.obj_core.proofs.Written.{put_together}
use Rattle.obj_core.specs.Layout.{jump}

-- bytes that are put over breakpoints, with the breakpoints that stay
on_blank : (all xs : List ℕ) (at : ℕ) → all ≡ overlaid all at (filler 16) → at + 16 ≤ length all → length xs ≤ 16 → overlaid all at xs ≡ overlaid all at (xs ++ filler (16 - length xs))
on_blank all xs at e h le =
    let size = length-replicate {A = ℕ} 16 204 in
    let none : at ≡ at + 0 = omega arith in
    let whole : length xs + (16 - length xs) ≡ 16 = omega (arith, le) in
    ap (λ ys. overlaid ys at xs) e ∙
    ap (λ k. overlaid (overlaid all at (filler 16)) k xs) none ∙
    overlaid_inside all (filler 16) xs at 0 (omega (arith, h, size)) (omega (arith, le, size)) ∙
    ap (λ n. overlaid all at (overlaid (filler n) 0 xs)) (sym whole) ∙
    ap (λ ys. overlaid all at (overlaid ys 0 xs)) (sym (replicate-append-replicate (length xs) (16 - length xs) 204)) ∙
    ap (overlaid all at) (overlaid_first (filler (length xs)) (filler (16 - length xs)) xs (length-replicate {A = ℕ} (length xs) 204))

-- a builder with other bytes
abbrev pub with_bytes : CodeBuilder → List ℕ → CodeBuilder
with_bytes b bytes = record { start = b.start; runs = b.runs; bytes = bytes }

module _ (b : CodeBuilder) (at : ℕ) (blank : b.bytes ≡ overlaid b.bytes at (filler 16)) (within : at + 16 ≤ length b.bytes) where
  -- five bytes, and breakpoints
  pub five_made : (xs : List ℕ) → length xs ≡ 5 → with_bytes b (overlaid b.bytes at xs) ≡ with_bytes b (overlaid b.bytes at (xs ++ filler 11))
  five_made xs e =
      let left : 16 - length xs ≡ 11 = omega (arith, e) in
      ap (with_bytes b) (on_blank b.bytes xs at blank within (omega (arith, e)) ∙ ap (λ n. overlaid b.bytes at (xs ++ filler n)) left)

  -- five bytes, and a jump that ends five bytes behind them
  pub ten_made : (xs : List ℕ) (to : ℕ) → length xs ≡ 5 → with_bytes b (overlaid (overlaid b.bytes at xs) (at + 5) (0xE9 ∷ displacement_bytes to (slot_base + (at + 5) + 5))) ≡ with_bytes b (overlaid b.bytes at (xs ++ (jump to (slot_base + at + 10) ++ filler 6)))
  ten_made xs to e =
      let end : slot_base + (at + 5) + 5 ≡ slot_base + at + 10 = omega arith in
      let ys = jump to (slot_base + at + 10) in
      let more : at + 5 ≡ at + length xs = omega (arith, e) in
      let size : length (xs ++ ys) ≡ length xs + 5 = length-append xs ys in
      let left : 16 - length (xs ++ ys) ≡ 6 = omega (arith, e, size) in
      ap (with_bytes b) (
      ap (λ n. overlaid (overlaid b.bytes at xs) (at + 5) (0xE9 ∷ displacement_bytes to n)) end ∙
      ap (λ k. overlaid (overlaid b.bytes at xs) k ys) more ∙
      sym (overlaid_both b.bytes xs ys at) ∙
      on_blank b.bytes (xs ++ ys) at blank within (omega (arith, e, size)) ∙
      ap (λ n. overlaid b.bytes at ((xs ++ ys) ++ filler n)) left ∙
      ap (overlaid b.bytes at) (append_assoc xs ys (filler 6)))

-- the address of a place of slots
pub slot_address : (size p : ℕ) → p < size → address_at (slot_run size ∷ []) p ≡ slot_base + p
slot_address size p lt =
    let far : p - 0 ≡ p = omega arith in
    ap (λ t. if t then slot_base + (p - 0) else 0) (lt-ltb p size lt) ∙ ap (λ k. slot_base + k) far

-- what is put into slots is put over what was there
pub put_slots : (size : ℕ) (all : List ℕ) (at : ℕ) (xs : List ℕ) → at + length xs ≤ size → put_at (slot_run size ∷ []) slot_base all at xs ≡ overlaid all at xs
put_slots size all at xs h =
    let same : slot_base + at - slot_base ≡ at = omega arith in
    put_together (slot_run size ∷ []) slot_base (slot_base + at) all at xs (omega arith) (λ p lt. slot_address size (at + p) (omega (arith, h, lt)) ∙ omega arith) ∙
    ap (λ k. overlaid all k xs) same

-- five bytes that are put into slots
pub plain_put : (b : CodeBuilder) (at : ℕ) (xs : List ℕ) → b.start ≡ slot_base → b.runs ≡ slot_run (length b.bytes) ∷ [] → at + 16 ≤ length b.bytes → length xs ≡ 5
    → with_bytes b (put_at b.runs b.start b.bytes at xs) ≡ with_bytes b (overlaid b.bytes at xs)
plain_put b at xs e r h five =
    ap (with_bytes b) (
    ap (λ n. put_at b.runs n b.bytes at xs) e ∙
    ap (λ rs. put_at rs slot_base b.bytes at xs) r ∙
    put_slots (length b.bytes) b.bytes at xs (omega (arith, h, five)))
