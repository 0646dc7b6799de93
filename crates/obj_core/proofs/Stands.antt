-- What the machine of an object fetches where an instruction stands.
use Rattle.std.proofs.Common.{◌≡◌, ℕ, ◌+◌, List, ◌∷◌, ◌++◌, length, drop, Some, refl, sym, ◌∙◌, ap, append_assoc, length-append}
use Rattle.std.specs.Prelude.{slice_get}
use Rattle.std.proofs.lemmas.List.{drop_at}
use Rattle.x86_core.specs.declared.instr.Instr.{Instr}
use Rattle.x86_core.specs.Encoding.{encoding, IsInstr}
use Rattle.x86_core.specs.Decoding.{decode}
use Rattle.x86_core.proofs.Back.{decode_back}
use Rattle.x86_core.specs.Step.{sorted}
use Rattle.obj_core.specs.declared.object.Object.{Object}
use Rattle.obj_core.specs.declared.object.Func.{Func}
use Rattle.obj_core.specs.declared.object.Place.{Place}
use Rattle.obj_core.specs.Object.{Each}
use Rattle.obj_core.specs.Disassembly.{size_of, spelled}
use Rattle.obj_core.specs.SymbolicMachine.{link_before, target, by_decoded, in_function, symbolic_fetch}
use Rattle.obj_core.proofs.Spelling.{spelled-append}

-- a row of instructions at an offset of bytes
pub record Stand (bytes : List ℕ) (off : ℕ) (is : List Instr) : Type 0 where
  pub front : List ℕ
  pub rest : List ℕ
  pub split : bytes ≡ front ++ (spelled is ++ rest)
  pub offset : off ≡ length front
  pub instructions : Each IsInstr is

-- the bytes of a row, and the row in it
pub stand : (before is after : List Instr) → Each IsInstr is → Stand (spelled (before ++ (is ++ after))) (length (spelled before)) is
stand before is after h = record {
  front = spelled before;
  rest = spelled after;
  split = spelled-append before (is ++ after) ∙ ap (λ r. spelled before ++ r) (spelled-append is after);
  offset = refl;
  instructions = h;
}

-- past the first instruction of a row
pub past : (bytes : List ℕ) (off : ℕ) (i : Instr) (is : List Instr) → Stand bytes off (i ∷ is) → Stand bytes (off + size_of i) is
past bytes off i is s = record {
  front = s.front ++ encoding i;
  rest = s.rest;
  split = s.split ∙ ap (λ r. s.front ++ r) (append_assoc (encoding i) (spelled is) s.rest) ∙ sym (append_assoc s.front (encoding i) (spelled is ++ s.rest));
  offset = ap (λ k. k + size_of i) s.offset ∙ sym (length-append s.front (encoding i));
  instructions = s.instructions.1;
}

-- what is fetched at the first instruction of a row
pub fetched : (o : Object) (n off : ℕ) (f : Func) (i : Instr) (is : List Instr) → slice_get o.functions n ≡ Some f → Stand f.bytes off (i ∷ is) → symbolic_fetch o (Place.Code n off) ≡ sorted i (Place.Code n (off + size_of i)) (target n (off + size_of i) (link_before f.links (off + size_of i))) 0
fetched o n off f i is e s =
    let more = spelled is ++ s.rest in
    let bytes : f.bytes ≡ s.front ++ (encoding i ++ more) = s.split ∙ ap (λ r. s.front ++ r) (append_assoc (encoding i) (spelled is) s.rest) in
    ap (λ x. in_function x n off) e ∙
    ap (λ b. by_decoded f n off (decode (drop off b))) bytes ∙
    ap (λ r. by_decoded f n off (decode r)) (drop_at s.front (encoding i ++ more) off (sym s.offset)) ∙
    ap (by_decoded f n off) (decode_back i more s.instructions.0)
