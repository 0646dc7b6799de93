-- The law of loads.
use Rattle.std.proofs.Common.{◌≡◌, ℕ, zero, suc, ◌+◌, ◌<◌, ◌≤◌, ◌%◌, ◌^◌, List, [], ◌∷◌, length, Option, Some, None, Ok, Err, slice_get, true, nat_eq, ◌&&◌, if◌then◌else◌, refl, ap, sym, ◌∙◌, subst, arith}
use Rattle.std.proofs.lemmas.Bool.{eqb-true, and_parts}
use Rattle.rd_num.specs.declared.width.Width.{Width}
use Rattle.rd_num.specs.declared.width.Width.TheVariants.{W1, W8, W16, W32, W64}
use Rattle.std.specs.Prelude.{get_or}
use Rattle.std.proofs.lemmas.Option.{get_or_from_slice_get}
use Rattle.rd_num.specs.Number.{bits, le_bytes, le_number}
use Rattle.ir_core.specs.declared.kind.Kind.{Kind}
use Rattle.ir_core.specs.declared.kind.Kind.TheVariants.{NoValue, Number, Pointer}
use Rattle.ir_core.specs.declared.memory.Value.{Value}
use Rattle.ir_core.specs.declared.memory.Value.TheVariants.{Num, Null, At, Fun}
use Rattle.ir_core.specs.declared.memory.Cell.{Cell}
use Rattle.ir_core.specs.declared.memory.Cell.TheVariants.{Unset, Byte, Piece}
use Rattle.ir_core.specs.declared.memory.Object0.{Object0}
use Rattle.ir_core.specs.declared.memory.Reason.TheVariants.{Unset as WasUnset, Bounds, Mixed}
use Rattle.ir_core.specs.Stops.{Answer, and_then, found_or, Left}
use Rattle.ir_core.specs.Memory.{Memory, Range, readable_range, cells_at, load_at, value_read, number_read, pointer_read, numbers, any_unset, kind_size, same_cells, same_value, pointer_cells, cells_of}
use Rattle.low_core.specs.Flat.{Bytes, Flat, is_inside, bytes_from, all_set, word_at}
use Rattle.low_core.specs.Contents.{Addresses, word_of}
use Rattle.low_core.specs.Bridge.{Setting, CallMemory, flat_in, Lives, address_of, IsAddress, IsKnown, FitsCell, Bridges}
use Rattle.flat_memory.specs.Accesses.{SettingFits, of_kind, Loads}
use Rattle.flat_memory.proofs.Lists.{get_range, length_range}
use Rattle.flat_memory.proofs.Fits.{AllFit, fit_from, set_numbers, set_cells, spelled_back}
use Rattle.flat_memory.proofs.Tests.{then_ok, else_ok, first_ok, in_object}
use Rattle.flat_memory.proofs.Spans.{inside_part, object_inside}

-- an answer, with what it is an answer of
abbrev value_answer : Value → Answer Value
value_answer v = Ok v

-- the test of sameness finds only the value itself
abbrev IsSound : Value → Type 0
IsSound v = (u : Value) → same_value u v ≡ true → u ≡ v

place_sound : (o d : ℕ) → IsSound (At o d)
place_sound o d (Num w n) h = absurd (cc)
place_sound o d Null h = absurd (cc)
place_sound o d (At p e) h =
    let both = and_parts (nat_eq p o) (nat_eq e d) h in
    ap (λ i. At i e) (eqb-true p o both.0) ∙ ap (λ i. At o i) (eqb-true e d both.1)
place_sound o d (Fun f) h = absurd (cc)

function_sound : (f : ℕ) → IsSound (Fun f)
function_sound f (Num w n) h = absurd (cc)
function_sound f Null h = absurd (cc)
function_sound f (At p e) h = absurd (cc)
function_sound f (Fun g) h = ap Fun (eqb-true g f h)

abbrev AllSound : List Cell → Type 0
AllSound [] = Unit {0}
AllSound (Unset ∷ cs) = AllSound cs
AllSound (Byte n ∷ cs) = AllSound cs
AllSound (Piece v k ∷ cs) = IsSound v × AllSound cs

same_cells_are : (cs ds : List Cell) → AllSound ds → same_cells cs ds ≡ true → cs ≡ ds
same_cells_are [] [] s h = refl
same_cells_are [] (d ∷ ds) s h = absurd (cc)
same_cells_are (Unset ∷ cs) [] s h = absurd (cc)
same_cells_are (Byte m ∷ cs) [] s h = absurd (cc)
same_cells_are (Piece u j ∷ cs) [] s h = absurd (cc)
same_cells_are (Unset ∷ cs) (Unset ∷ ds) s h = absurd (cc)
same_cells_are (Unset ∷ cs) (Byte n ∷ ds) s h = absurd (cc)
same_cells_are (Unset ∷ cs) (Piece v k ∷ ds) s h = absurd (cc)
same_cells_are (Byte m ∷ cs) (Unset ∷ ds) s h = absurd (cc)
same_cells_are (Byte m ∷ cs) (Byte n ∷ ds) s h =
    let both = and_parts (nat_eq m n) (same_cells cs ds) h in
    ap (λ i. Byte i ∷ cs) (eqb-true m n both.0) ∙ ap (λ r. Byte n ∷ r) (same_cells_are cs ds s both.1)
same_cells_are (Byte m ∷ cs) (Piece v k ∷ ds) s h = absurd (cc)
same_cells_are (Piece u j ∷ cs) (Unset ∷ ds) s h = absurd (cc)
same_cells_are (Piece u j ∷ cs) (Byte n ∷ ds) s h = absurd (cc)
same_cells_are (Piece u j ∷ cs) (Piece v k ∷ ds) s h =
    let both = and_parts (same_value u v && nat_eq j k) (same_cells cs ds) h in
    let first = and_parts (same_value u v) (nat_eq j k) both.0 in
    ap (λ x. Piece x j ∷ cs) (s.0 u first.0) ∙ ap (λ x. Piece v x ∷ cs) (eqb-true j k first.1) ∙ ap (λ r. Piece v k ∷ r) (same_cells_are cs ds s.1 both.1)

-- a number cut to a width is one of the width
cut_small : (w : Width) (n : ℕ) → n % 2 ^ bits w < 2 ^ bits w
cut_small W1 n = omega arith
cut_small W8 n = omega arith
cut_small W16 n = omega arith
cut_small W32 n = omega arith
cut_small W64 n = omega arith

module _ (g : Setting) (fits : SettingFits g) (m : Memory) (at : Addresses) (same_functions : at.functions ≡ g.plan.functions) where
  -- the word of an address is one of 64 bits
  pub address_small : (v : Value) → IsAddress (length m) g.taken v → word_of at v < 2 ^ 64
  address_small (Num w n) known = absurd known
  address_small Null known = absurd known
  address_small (At o d) known = omega arith
  address_small (Fun f) known =
      let a = function_place g.plan.functions f (fits.known f known) in
      let lt = fits.below f a.0 known a.1 in
      let is : word_of at (Fun f) ≡ a.0 = ap (λ fs. get_or fs f 0) same_functions ∙ get_or_from_slice_get g.plan.functions f a.0 0 a.1 in
      omega (arith, lt, is)
    where
      function_place : (fs : List ℕ) (f : ℕ) → f < length fs → (a : ℕ) × (slice_get fs f ≡ Some a)
      function_place [] f lt = absurd (omega arith)
      function_place (a ∷ fs) zero lt = (a, refl)
      function_place (a ∷ fs) (suc f) lt = function_place fs f (omega arith)

  -- from cells that were read, and bytes that fit them
  record Reads (kind : Kind) (u : Value) (bs : List (Option ℕ)) : Type 0 where
    numbers : List ℕ
    set : all_set bs ≡ Some numbers
    same : word_of at u ≡ of_kind kind (le_number numbers)
    known : IsKnown (length m) g.taken u

  number_reads : (bs : List (Option ℕ)) (cs : List Cell) → AllFit (length m) g.taken at bs cs → (w : Width) (u : Value) → number_read w (numbers cs) ≡ Ok u → Reads (Number w) u bs
  number_reads bs cs h w u e = go (numbers cs) refl e
    where
      go : (o : Option (List ℕ)) → numbers cs ≡ o → number_read w o ≡ Ok u → Reads (Number w) u bs
      go None is e2 = absurd (cc)
      go (Some ns) is e2 =
          let same : Num w (le_number ns % 2 ^ bits w) ≡ u = cc in
          subst (λ z. Reads (Number w) z bs) same (record { numbers = ns; set = set_numbers (length m) g.taken at bs cs ns h is; same = refl; known = cut_small w (le_number ns) })

  null_reads : (bs : List (Option ℕ)) (cs : List Cell) → AllFit (length m) g.taken at bs cs → (u : Value) → (if same_cells cs (cells_of Null) then Ok Null else Err (Left Mixed)) ≡ value_answer u → Reads Pointer u bs
  null_reads bs cs h u e =
      let x = then_ok (same_cells cs (cells_of Null)) (value_answer Null) (Left Mixed) u e in
      let is = same_cells_are cs (cells_of Null) tt x.0 in
      let same : Null ≡ u = cc in
      let fit : AllFit (length m) g.taken at bs (cells_of Null) = subst (AllFit (length m) g.taken at bs) is h in
      subst (λ z. Reads Pointer z bs) same (record { numbers = le_bytes 8 0; set = set_numbers (length m) g.taken at bs (cells_of Null) (le_bytes 8 0) fit refl; same = refl; known = tt })

  piece_reads : (bs : List (Option ℕ)) (v : Value) (k : ℕ) (cs : List Cell) → AllFit (length m) g.taken at bs (Piece v k ∷ cs) → IsSound v → IsAddress (length m) g.taken v → IsKnown (length m) g.taken v →
      (u : Value) → (if same_cells (Piece v k ∷ cs) (pointer_cells v) then Ok v else Err (Left Mixed)) ≡ value_answer u → Reads Pointer u bs
  piece_reads bs v k cs h sound address known u e =
      let x = then_ok (same_cells (Piece v k ∷ cs) (pointer_cells v)) (value_answer v) (Left Mixed) u e in
      let is = same_cells_are (Piece v k ∷ cs) (pointer_cells v) (sound, (sound, (sound, (sound, (sound, (sound, (sound, (sound, tt)))))))) x.0 in
      let same : v ≡ u = cc in
      let fit : AllFit (length m) g.taken at bs (pointer_cells v) = subst (AllFit (length m) g.taken at bs) is h in
      subst (λ z. Reads Pointer z bs) same (record {
        numbers = le_bytes 8 (word_of at v);
        set = set_cells (length m) g.taken at bs (pointer_cells v) fit refl;
        same = sym (spelled_back (word_of at v) (address_small v address));
        known = known;
      })

  pointer_reads : (bs : List (Option ℕ)) (cs : List Cell) → AllFit (length m) g.taken at bs cs → (u : Value) → pointer_read cs ≡ Ok u → Reads Pointer u bs
  pointer_reads bs [] h u e = null_reads bs [] h u e
  pointer_reads bs (Unset ∷ cs) h u e = null_reads bs (Unset ∷ cs) h u e
  pointer_reads bs (Byte n ∷ cs) h u e = null_reads bs (Byte n ∷ cs) h u e
  pointer_reads [] (Piece v k ∷ cs) h u e = absurd h
  pointer_reads (b ∷ bs) (Piece (Num w n) k ∷ cs) h u e = absurd h.0.1
  pointer_reads (b ∷ bs) (Piece Null k ∷ cs) h u e = absurd h.0.1
  pointer_reads (b ∷ bs) (Piece (At o d) k ∷ cs) h u e = piece_reads (b ∷ bs) (At o d) k cs h (place_sound o d) h.0.1 h.0.1 u e
  pointer_reads (b ∷ bs) (Piece (Fun f) k ∷ cs) h u e = piece_reads (b ∷ bs) (Fun f) k cs h (function_sound f) h.0.1 h.0.1 u e

  kind_reads : (kind : Kind) (bs : List (Option ℕ)) (cs : List Cell) → AllFit (length m) g.taken at bs cs → (u : Value) → value_read kind cs ≡ Ok u → Reads kind u bs
  kind_reads NoValue bs cs h u e = absurd (cc)
  kind_reads (Number w) bs cs h u e = number_reads bs cs h w u e
  kind_reads Pointer bs cs h u e = pointer_reads bs cs h u e

  -- the word is where the value is
  reads_there : (kind : Kind) (u : Value) (f : Flat) (p n : ℕ) → is_inside p n f.spans ≡ true → Reads kind u (bytes_from f.bytes p n) → Loads g m at kind u (word_at f p n)
  reads_there kind u f p n inside r = record {
    word = le_number r.numbers;
    gives = ap (λ t. if t then and_then (found_or (Left WasUnset) (all_set (bytes_from f.bytes p n))) (λ ns. Ok (le_number ns)) else Err (Left Bounds)) inside
        ∙ ap (λ o. and_then (found_or (Left WasUnset) o) (λ ns. Ok (le_number ns))) r.set;
    same = r.same;
    known = r.known;
  }

module _ (g : Setting) (calls : List CallMemory) (m : Memory) (at : Addresses) (bytes : Bytes) (fits : SettingFits g) (b : Bridges g calls m at bytes) where
  -- the bytes of a range fit its cells
  pub range_fits : (r : Range) (n : ℕ) → Lives m r.object r.held → r.offset + n ≤ r.held.size → AllFit (length m) g.taken at (bytes_from bytes (address_of at r.object + r.offset) n) (cells_at r n)
  range_fits r n lives le =
      let full = b.full r.object r.held lives in
      fit_from (length m) g.taken at bytes (address_of at r.object + r.offset) n (cells_at r n) (length_range r.held.cells r.offset n (omega (arith, full, le)))
      (λ j c e. subst (λ p. FitsCell (length m) g.taken at (bytes p) c) (sums (address_of at r.object) r.offset j) (b.cells r.object (r.offset + j) r.held c lives (get_range r.held.cells r.offset n j c e).1))
    where
      sums : (a d j : ℕ) → a + (d + j) ≡ a + d + j
      sums a d j = omega arith

  -- the address of a place inside
  pub inside_word : (o d : ℕ) (x : Object0) → slice_get m o ≡ Some x → d ≤ x.size → word_of at (At o d) ≡ address_of at o + d
  inside_word o d x is le = let low = b.below o x is in omega (arith, low, le)

  -- a range of an object may be used
  pub range_inside : (o d n : ℕ) (x : Object0) → Lives m o x → d + n ≤ x.size → is_inside (address_of at o + d) n (flat_in g calls bytes).spans ≡ true
  range_inside o d n x lives le =
      inside_part (flat_in g calls bytes).spans (address_of at o) x.size (address_of at o + d) n (omega arith) (omega (arith, le)) (object_inside g calls m at bytes fits b o x lives)

  -- the law: a load that objects allow gives a word that has the value
  pub load_law : (kind : Kind) (v u : Value) → load_at m kind v ≡ Ok u → Loads g m at kind u (word_at (flat_in g calls bytes) (word_of at v) (kind_size kind))
  load_law kind v u e =
      let range = first_ok (readable_range m (kind_size kind) v) (λ r. if any_unset (cells_at r (kind_size kind)) then Err (Left WasUnset) else value_read kind (cells_at r (kind_size kind))) u e in
      let r = range.first in
      let in_it = in_object m (kind_size kind) v r range.is in
      let read = else_ok (any_unset (cells_at r (kind_size kind))) (value_read kind (cells_at r (kind_size kind))) (Left WasUnset) u range.then_is in
      let reads = kind_reads g fits m at b.functions kind (bytes_from bytes (address_of at r.object + r.offset) (kind_size kind)) (cells_at r (kind_size kind)) (range_fits r (kind_size kind) in_it.lives in_it.inside) u read.1 in
      let inside = in_it.inside in
      let there = inside_word r.object r.offset r.held in_it.lives.stands (omega (arith, inside)) in
      let loads = reads_there g fits m at b.functions kind u (flat_in g calls bytes) (address_of at r.object + r.offset) (kind_size kind) (range_inside r.object r.offset (kind_size kind) r.held in_it.lives in_it.inside) reads in
      subst (λ p. Loads g m at kind u (word_at (flat_in g calls bytes) p (kind_size kind))) (sym there ∙ ap (word_of at) (sym in_it.is_place)) loads
