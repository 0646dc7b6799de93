-- Bytes and cells, one for the other.
use Rattle.std.proofs.Common.{◌≡◌, ℕ, zero, suc, ◌+◌, ◌<◌, ◌/◌, ◌^◌, List, [], ◌∷◌, length, map, replicate, Option, Some, None, slice_get, refl, ap, sym, ◌∙◌, subst, arith, Bool, false}
use Rattle.std.specs.Prelude.{option_map}
use Rattle.rd_num.specs.Number.{le_bytes, le_number}
use Rattle.ir_core.specs.declared.memory.Value.{Value}
use Rattle.ir_core.specs.declared.memory.Value.TheVariants.{Num, Null, At, Fun}
use Rattle.ir_core.specs.declared.memory.Cell.{Cell}
use Rattle.ir_core.specs.declared.memory.Cell.TheVariants.{Unset, Byte, Piece}
use Rattle.ir_core.specs.Shapes.{bytes_of}
use Rattle.ir_core.specs.Memory.{pointer_cells, cells_of, numbers, any_unset}
use Rattle.low_core.specs.Flat.{Bytes, bytes_from, all_set}
use Rattle.low_core.specs.Contents.{Addresses, word_of, cell_byte}
use Rattle.low_core.specs.Bridge.{IsAddress, IsKnown, FitsCell}

module _ (objects : ℕ) (taken : List Bool) (at : Addresses) where
  -- a byte for each cell
  abbrev pub AllFit : List (Option ℕ) → List Cell → Type 0
  AllFit [] [] = Unit {0}
  AllFit (b ∷ bs) (c ∷ cs) = FitsCell objects taken at b c × AllFit bs cs
  AllFit [] (c ∷ cs) = ⊥
  AllFit (b ∷ bs) [] = ⊥

  pub fit_length : (bs : List (Option ℕ)) (cs : List Cell) → AllFit bs cs → length bs ≡ length cs
  fit_length [] [] h = refl
  fit_length [] (c ∷ cs) h = absurd h
  fit_length (b ∷ bs) [] h = absurd h
  fit_length (b ∷ bs) (c ∷ cs) h = ap suc (fit_length bs cs h.1)

  -- a byte that fits the cell of an index
  pub record FitsAt (bs : List (Option ℕ)) (j : ℕ) (c : Cell) : Type 0 where
    pub byte : Option ℕ
    pub is : slice_get bs j ≡ Some byte
    pub fits : FitsCell objects taken at byte c

  pub fit_at : (bs : List (Option ℕ)) (cs : List Cell) → AllFit bs cs → (j : ℕ) (c : Cell) → slice_get cs j ≡ Some c → FitsAt bs j c
  fit_at [] [] h j c e = absurd (cc)
  fit_at [] (d ∷ cs) h j c e = absurd h
  fit_at (b ∷ bs) [] h j c e = absurd h
  fit_at (b ∷ bs) (d ∷ cs) h zero c e =
      let same : d ≡ c = cc in
      record { byte = b; is = refl; fits = subst (FitsCell objects taken at b) same h.0 }
  fit_at (b ∷ bs) (d ∷ cs) h (suc j) c e = let r = fit_at bs cs h.1 j c e in record { byte = r.byte; is = r.is; fits = r.fits }

  -- bytes in a row of addresses fit cells, if each does
  pub fit_from : (m : Bytes) (a n : ℕ) (cs : List Cell) → length cs ≡ n → ((j : ℕ) (c : Cell) → slice_get cs j ≡ Some c → FitsCell objects taken at (m (a + j)) c) → AllFit (bytes_from m a n) cs
  fit_from m a zero [] e h = tt
  fit_from m a zero (c ∷ cs) e h = absurd (cc)
  fit_from m a (suc n) [] e h = absurd (cc)
  fit_from m a (suc n) (c ∷ cs) e h = (
    subst (λ p. FitsCell objects taken at (m p) c) (the_sum a) (h 0 c refl),
    fit_from m (a + 1) n cs (cc) (λ j d g. subst (λ p. FitsCell objects taken at (m p) d) (next_sum a j) (h (suc j) d g)),
  )
    where
      the_sum : (a : ℕ) → a + 0 ≡ a
      the_sum a = omega arith

      next_sum : (a j : ℕ) → a + suc j ≡ a + 1 + j
      next_sum a j = omega arith

  -- numbers fit themselves
  pub fit_numbers : (ns : List ℕ) → AllFit (map Some ns) (map Byte ns)
  fit_numbers [] = tt
  fit_numbers (n ∷ ns) = (refl, fit_numbers ns)

  pub fit_replicate : (n k : ℕ) → AllFit (replicate n (Some k)) (replicate n (Byte k))
  fit_replicate zero k = tt
  fit_replicate (suc n) k = (refl, fit_replicate n k)

  -- the pieces of a value fit the bytes of its word
  fit_pieces : (v : Value) → IsAddress objects taken v → AllFit (map Some (le_bytes 8 (word_of at v))) (pointer_cells v)
  fit_pieces v known = ((refl, known), ((refl, known), ((refl, known), ((refl, known), ((refl, known), ((refl, known), ((refl, known), ((refl, known), tt))))))))

  -- what a value is stored as fits the bytes of its word
  pub fit_value : (v : Value) → IsKnown objects taken v → AllFit (map Some (le_bytes (length (cells_of v)) (word_of at v))) (cells_of v)
  fit_value (Num w n) known = subst (λ k. AllFit (map Some (le_bytes k n)) (map Byte (le_bytes (bytes_of w) n))) (sym (counts (bytes_of w) n)) (fit_numbers (le_bytes (bytes_of w) n))
    where
      counts : (k n : ℕ) → length (map Byte (le_bytes k n)) ≡ k
      counts zero n = refl
      counts (suc k) n = ap suc (counts k (n / 256))
  fit_value Null known = fit_numbers (le_bytes 8 0)
  fit_value (At o d) known = fit_pieces (At o d) known
  fit_value (Fun f) known = fit_pieces (Fun f) known

  -- where all cells are numbers no byte is missing
  pub set_numbers : (bs : List (Option ℕ)) (cs : List Cell) (ns : List ℕ) → AllFit bs cs → numbers cs ≡ Some ns → all_set bs ≡ Some ns
  set_numbers [] [] ns h e = e
  set_numbers [] (c ∷ cs) ns h e = absurd h
  set_numbers (b ∷ bs) [] ns h e = absurd h
  set_numbers (b ∷ bs) (Unset ∷ cs) ns h e = absurd (cc)
  set_numbers (b ∷ bs) (Piece v k ∷ cs) ns h e = absurd (cc)
  set_numbers (b ∷ bs) (Byte k ∷ cs) ns h e = go (numbers cs) refl e (λ r is. set_numbers bs cs r h.1 is)
    where
      go : (o : Option (List ℕ)) → numbers cs ≡ o → option_map (λ r. k ∷ r) o ≡ Some ns → ((r : List ℕ) → numbers cs ≡ Some r → all_set bs ≡ Some r) → all_set (b ∷ bs) ≡ Some ns
      go None is e2 rest = absurd (cc)
      go (Some r) is e2 rest = ap (λ x. all_set (x ∷ bs)) h.0 ∙ ap (option_map (λ t. k ∷ t)) (rest r is) ∙ e2

  -- a byte that fits a cell that is set
  set_byte : (b : Option ℕ) (c : Cell) (cs : List Cell) → FitsCell objects taken at b c → any_unset (c ∷ cs) ≡ false → (b ≡ Some (cell_byte at c)) × (any_unset cs ≡ false)
  set_byte b Unset cs h e = absurd (cc)
  set_byte b (Byte n) cs h e = (h, e)
  set_byte b (Piece v k) cs h e = (h.0, e)

  -- where no cell is unset no byte is missing
  pub set_cells : (bs : List (Option ℕ)) (cs : List Cell) → AllFit bs cs → any_unset cs ≡ false → all_set bs ≡ Some (map (cell_byte at) cs)
  set_cells [] [] h e = refl
  set_cells [] (c ∷ cs) h e = absurd h
  set_cells (b ∷ bs) [] h e = absurd h
  set_cells (b ∷ bs) (c ∷ cs) h e =
      let here = set_byte b c cs h.0 e in
      ap (λ x. all_set (x ∷ bs)) here.0 ∙ ap (option_map (λ t. cell_byte at c ∷ t)) (set_cells bs cs h.1 here.1)

-- a word below 2^64 is the number of its eight bytes
pub spelled_back : (n : ℕ) → n < 2 ^ 64 → le_number (le_bytes 8 n) ≡ n
spelled_back n lt = omega arith
