-- Bytes disassembled, one instruction after another.
use Rattle.std.proofs.Common.{◌≡◌, ℕ, zero, suc, ◌+◌, ◌<◌, ◌≤◌, List, [], ◌∷◌, ◌++◌, length, drop, refl, sym, ◌∙◌, ap, inl, inr, append_assoc, length-append, length-drop, arith}
use Rattle.std.specs.Prelude.{None}
use Rattle.std.proofs.Math.Seq.{drop-append_seam}
use Rattle.std.proofs.lemmas.List.{append-nil, drop-drop, drop_all, nil_from_length}
use Rattle.x86_core.specs.declared.instr.Instr.{Instr}
use Rattle.x86_core.specs.Encoding.{encoding, IsInstr, Begins}
use Rattle.x86_core.specs.Decoding.{decode}
use Rattle.x86_core.proofs.Back.{decode_back}
use Rattle.x86_core.proofs.Laws.{some_bytes}
use Rattle.obj_core.specs.Object.{Each}
use Rattle.obj_core.specs.Disassembly.{spelled, IsDisassembly, and_behind, first_instrs, disassembly_of}
use Rattle.obj_core.specs.WellFormed.{IsStuck}
use Rattle.obj_core.proofs.Spelling.{spelled-append, each_append}
use Rattle.obj_check.specs.declared.instr_at.InstrAt.{InstrAt}
use Rattle.obj_check.specs.Instrs.{StandsAt, IsInstrAt}

-- an instruction that bytes begin with stands there
pub stands_at : (bytes : List ℕ) (at : ℕ) (i : Instr) (n : ℕ) → Begins (drop at bytes) i → n ≡ length (encoding i) → StandsAt bytes at (record { at = at; end = at + n; instr = i })
stands_at bytes at i n b e =
    let whole : length (drop at bytes) ≡ length (encoding i) + length (drop (length (encoding i)) (drop at bytes)) = ap length b.begins ∙ length-append (encoding i) (drop (length (encoding i)) (drop at bytes)) in
    let left : length (drop at bytes) ≡ _ = length-drop at bytes in
    let some : 1 ≤ length (encoding i) = some_bytes i in
    record {
      here = refl;
      is_whole = record { end = ap (λ (k : ℕ). at + k) e; some = omega arith; inside = omega arith };
      is_instr = b.is_instr;
      bytes_are = b.begins ∙ ap (λ r. encoding i ++ r) (drop-drop (length (encoding i)) at bytes ∙ ap (λ (k : ℕ). drop (at + k) bytes) (sym e));
    }

-- the bytes up to an offset are these instructions
pub record RowTo (bytes : List ℕ) (at : ℕ) (row : List Instr) : Type 0 where
  pub within : at ≤ length bytes
  pub instructions : Each IsInstr row
  pub whole : bytes ≡ spelled row ++ drop at bytes
  pub long : at ≡ length (spelled row)

pub row_none : (bytes : List ℕ) → RowTo bytes 0 []
row_none bytes = record { within = omega arith; instructions = tt; whole = refl; long = refl }

spelled_push : (row : List Instr) (i : Instr) → spelled (row ++ i ∷ []) ≡ spelled row ++ encoding i
spelled_push row i = spelled-append row (i ∷ []) ∙ ap (λ r. spelled row ++ r) (append-nil (encoding i))

pub row_more : (bytes : List ℕ) (at : ℕ) (row : List Instr) (p : InstrAt) → RowTo bytes at row → StandsAt bytes at p → RowTo bytes p.end (row ++ p.instr ∷ [])
row_more bytes at row p r s = record {
  within = s.is_whole.inside;
  instructions = each_append IsInstr row (p.instr ∷ []) r.instructions (s.is_instr, tt);
  whole = r.whole ∙ ap (λ t. spelled row ++ t) s.bytes_are ∙ sym (append_assoc (spelled row) (encoding p.instr) (drop p.end bytes)) ∙ ap (λ t. t ++ drop p.end bytes) (sym (spelled_push row p.instr));
  long = s.is_whole.end ∙ ap (λ (k : ℕ). k + length (encoding p.instr)) (s.here ∙ r.long) ∙ sym (length-append (spelled row) (encoding p.instr)) ∙ ap length (sym (spelled_push row p.instr));
}

some_instrs : (row : List Instr) (bytes : List ℕ) → 0 < length bytes → spelled row ≡ bytes → 1 ≤ length row
some_instrs [] bytes h e = let none : 0 ≡ length bytes = ap length e in absurd (omega arith)
some_instrs (i ∷ row) bytes h e = omega arith

-- the instructions that bytes begin with are those of their disassembly
first_are : (n : ℕ) (row : List Instr) → Each IsInstr row → length (spelled row) ≤ n → first_instrs n (spelled row) ≡ row
unfolding decode
first_are zero [] h k = refl
first_are zero (i ∷ row) h k = absurd (omega (arith, some_bytes i, length-append (encoding i) (spelled row)))
first_are (suc n) [] h k = refl
first_are (suc n) (i ∷ row) h k =
    let few : length (spelled row) ≤ n = omega (arith, some_bytes i, length-append (encoding i) (spelled row)) in
    ap (and_behind (λ (size : ℕ). first_instrs n (drop size (encoding i ++ spelled row)))) (decode_back i (spelled row) h.0) ∙
    ap (λ (bs : List ℕ). i ∷ first_instrs n bs) (drop-append_seam (encoding i) (spelled row)) ∙
    ap (λ (is : List Instr). i ∷ is) (first_are n row h.1 few)

pub disassembly_is : (bytes : List ℕ) (row : List Instr) → IsDisassembly bytes row → disassembly_of bytes ≡ row
unfolding disassembly_of
disassembly_is bytes row h = ap (λ (bs : List ℕ). first_instrs (length bytes) bs) (sym h.whole) ∙ first_are (length bytes) row h.instructions (let e : length (spelled row) ≡ length bytes = ap length h.whole in omega arith)

pub row_disassembly : (bytes : List ℕ) (at : ℕ) (row : List Instr) → RowTo bytes at row → length bytes ≤ at → IsDisassembly bytes row
row_disassembly bytes at row r past = record { instructions = r.instructions; whole = sym (r.whole ∙ ap (λ t. spelled row ++ t) (drop_all at bytes past) ∙ append-nil (spelled row)) }

pub some_row : (bytes : List ℕ) (row : List Instr) → 0 < length bytes → IsDisassembly bytes row → 1 ≤ length row
some_row bytes row h c = some_instrs row bytes h c.whole

pub row_stuck : (bytes : List ℕ) (at : ℕ) (row : List Instr) → RowTo bytes at row → at < length bytes → IsInstrAt bytes at None → IsStuck bytes at
row_stuck bytes at row r h none = record {
  before = row;
  rest = drop at bytes;
  instructions = r.instructions;
  bytes_are = r.whole;
  offset = r.long;
  inside = inl (omega (arith, length-drop at bytes));
  none = none;
}

pub nothing_begins : (i : Instr) (more : List ℕ) → [] ≡ encoding i ++ more → ⊥
nothing_begins i more e = omega (arith, some_bytes i, ap length e, length-append (encoding i) more)

pub empty_stuck : (bytes : List ℕ) → length bytes ≡ 0 → IsStuck bytes 0
empty_stuck bytes h =
    let e : bytes ≡ [] = nil_from_length bytes h in
    record {
      before = [];
      rest = [];
      instructions = tt;
      bytes_are = e;
      offset = refl;
      inside = inr e;
      none = λ i is more. nothing_begins i more;
    }
