-- Rows in rows, and where parts of them stand.
use Rattle.std.proofs.Common.{◌≡◌, ℕ, suc, ◌+◌, List, [], ◌∷◌, ◌++◌, length, refl, sym, ◌∙◌, ap, append_assoc, arith, length-append}
use Rattle.std.proofs.lemmas.List.{append-nil}
use Rattle.x86_core.specs.declared.instr.Instr.{Instr}
use Rattle.x86_core.specs.Encoding.{encoding}
use Rattle.obj_core.specs.Disassembly.{size_of, spelled}
use Rattle.obj_rows.specs.Marked.{Marked, unlinked, all_unlinked, instrs_of, row_size, Stands}

pub row_size-append : (xs ys : List Marked) → row_size (xs ++ ys) ≡ row_size xs + row_size ys
row_size-append [] ys = omega arith
row_size-append (x ∷ xs) ys = omega (arith, row_size-append xs ys)

pub instrs_of-append : (xs ys : List Marked) → instrs_of (xs ++ ys) ≡ instrs_of xs ++ instrs_of ys
instrs_of-append [] ys = refl
instrs_of-append (x ∷ xs) ys = ap (λ is. x.instr ∷ is) (instrs_of-append xs ys)

pub all_unlinked-append : (xs ys : List Instr) → all_unlinked (xs ++ ys) ≡ all_unlinked xs ++ all_unlinked ys
all_unlinked-append [] ys = refl
all_unlinked-append (i ∷ xs) ys = ap (λ row. unlinked i ∷ row) (all_unlinked-append xs ys)

-- the marks come off again
pub instrs_of-unlinked : (is : List Instr) → instrs_of (all_unlinked is) ≡ is
instrs_of-unlinked [] = refl
instrs_of-unlinked (i ∷ is) = ap (λ js. i ∷ js) (instrs_of-unlinked is)

pub length-unlinked : (is : List Instr) → length (all_unlinked is) ≡ length is
length-unlinked [] = refl
length-unlinked (i ∷ is) = ap suc (length-unlinked is)

-- a row's bytes are as many as it says
pub spelled_size : (xs : List Marked) → length (spelled (instrs_of xs)) ≡ row_size xs
spelled_size [] = refl
spelled_size (x ∷ xs) = omega (arith, length-append (encoding x.instr) (spelled (instrs_of xs)), spelled_size xs)

-- a whole row stands at its start
pub stands_whole : (row : List Marked) → Stands row 0 row
stands_whole row = record { before = []; behind = []; split = sym (append-nil row); offset = refl }

module _ (row : List Marked) (off : ℕ) where
  -- the first part, and the one behind it
  pub stands_first : (xs ys : List Marked) → Stands row off (xs ++ ys) → Stands row off xs
  stands_first xs ys s = record {
    before = s.before;
    behind = ys ++ s.behind;
    split = s.split ∙ ap (λ r. s.before ++ r) (append_assoc xs ys s.behind);
    offset = s.offset;
  }

  pub stands_behind : (xs ys : List Marked) → Stands row off (xs ++ ys) → Stands row (off + row_size xs) ys
  stands_behind xs ys s = record {
    before = s.before ++ xs;
    behind = s.behind;
    split = s.split ∙ ap (λ r. s.before ++ r) (append_assoc xs ys s.behind) ∙ sym (append_assoc s.before xs (ys ++ s.behind));
    offset = ap (λ k. k + row_size xs) s.offset ∙ sym (row_size-append s.before xs);
  }

  -- the first instruction, and the others
  pub stands_one : (x : Marked) (xs : List Marked) → Stands row off (x ∷ xs) → Stands row off (x ∷ [])
  stands_one x xs s = stands_first (x ∷ []) xs s

  pub stands_next : (x : Marked) (xs : List Marked) → Stands row off (x ∷ xs) → Stands row (off + size_of x.instr) xs
  stands_next x xs s =
      let t = stands_behind (x ∷ []) xs s in
      record { before = t.before; behind = t.behind; split = t.split; offset = let e = t.offset in omega (arith, e) }
