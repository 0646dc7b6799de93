-- The instructions that bytes are, found by decoding, are those of a disassembly.
use Rattle.std.proofs.Common.{◌≡◌, ℕ, zero, suc, ◌+◌, ◌-◌, ◌≤◌, List, [], ◌∷◌, ◌++◌, length, drop, refl, sym, ◌∙◌, ap, arith, length-append}
use Rattle.std.proofs.lemmas.List.{drop_at}
use Rattle.x86_core.specs.declared.instr.Instr.{Instr}
use Rattle.x86_core.specs.declared.instr.Decoded.TheVariants.{One}
use Rattle.x86_core.specs.Encoding.{encoding, IsInstr}
use Rattle.x86_core.specs.Decoding.{decode}
use Rattle.x86_core.proofs.Back.{decode_back}
use Rattle.x86_core.proofs.Laws.{some_bytes}
use Rattle.obj_core.specs.Object.{Each}
use Rattle.obj_core.specs.Disassembly.{found_from, found, size_of, spelled, and_others, instrs_from, instrs_in, IsDisassembly}

-- bytes of the instruction before are passed over
pub passed : (left at : ℕ) (bytes : List ℕ) → left ≤ length bytes → instrs_from left at bytes ≡ instrs_from 0 (at + left) (drop left bytes)
passed zero at bytes le = let none : at ≡ at + 0 = omega arith in ap (λ a. instrs_from 0 a bytes) none
passed (suc left) at [] le = absurd (omega (arith, le))
passed (suc left) at (b ∷ bs) le =
    let same : at + 1 + left ≡ at + suc left = omega arith in
    passed left (at + 1) bs (omega (arith, le)) ∙ ap (λ a. instrs_from 0 a (drop left bs)) same

-- where one is decoded, it is the first
pub first_instr : (at size : ℕ) (i : Instr) (bytes : List ℕ) → decode bytes ≡ One i size → 1 ≤ size → size ≤ length bytes → instrs_from 0 at bytes ≡ record { at = at; instr = i } ∷ instrs_from 0 (at + size) (drop size bytes)
first_instr at size i [] e some le = absurd (omega (arith, some, le))
first_instr at size i (b ∷ bs) e some le =
    let split : at + 1 + (size - 1) ≡ at + size = omega (arith, some) in
    let more : size ≡ suc (size - 1) = omega (arith, some) in
    ap (and_others at (λ k. instrs_from (k - 1) (at + 1) bs)) e ∙
    ap (λ xs. record { at = at; instr = i } ∷ xs) (
    passed (size - 1) (at + 1) bs (omega (arith, le, some)) ∙
    ap (λ a. instrs_from 0 a (drop (size - 1) bs)) split ∙
    ap (λ m. instrs_from 0 (at + size) (drop m (b ∷ bs))) (sym more))

-- those of a disassembly
pub found_again : (at : ℕ) (is : List Instr) → Each IsInstr is → instrs_from 0 at (spelled is) ≡ found_from at is
found_again at [] h = refl
found_again at (i ∷ is) h =
    let some = some_bytes i in
    let long = length-append (encoding i) (spelled is) in
    first_instr at (size_of i) i (encoding i ++ spelled is) (decode_back i (spelled is) h.0) (omega (arith, some)) (omega (arith, long)) ∙
    ap (λ bs. record { at = at; instr = i } ∷ instrs_from 0 (at + size_of i) bs) (drop_at (encoding i) (spelled is) (size_of i) refl) ∙
    ap (λ xs. record { at = at; instr = i } ∷ xs) (found_again (at + size_of i) is h.1)

pub instrs_known : (bytes : List ℕ) (is : List Instr) → IsDisassembly bytes is → instrs_in bytes ≡ found is
instrs_known bytes is d = ap instrs_in (sym d.whole) ∙ found_again 0 is d.instructions
