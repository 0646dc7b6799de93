-- What may be executed of a layout: its slots and its code.
use Rattle.std.proofs.Common.{◌≡◌, ℕ, zero, suc, ◌+◌, ◌-◌, ◌≤◌, List, [], ◌∷◌, ◌++◌, length, take, drop, Some, if◌then◌else◌, refl, sym, ◌∙◌, ap, arith, length-append, length-drop}
use Rattle.std.specs.Prelude.{nat_le}
use Rattle.std.proofs.lemmas.Bool.{le-leb, lt-leb, and_from, and_right}
use Rattle.std.proofs.lemmas.List.{append-nil}
use Rattle.x86_core.specs.declared.instr.Instr.{Instr}
use Rattle.x86_core.specs.declared.image.Segment.{Segment}
use Rattle.x86_core.specs.Encoding.{encoding, IsInstr}
use Rattle.x86_core.proofs.Laws.{some_bytes, few_bytes}
use Rattle.x86_core.specs.Memory.{code_at, code_of, data_of}
use Rattle.x86_core.specs.Data.{ro_start, rw_start, stack, data_segments}
use Rattle.obj_core.specs.Slots.{slot_base}
use Rattle.obj_lay.specs.Held.{AreHidden, IsAt}
use Rattle.obj_core.specs.Layout.{present}
use Rattle.obj_lay.proofs.hidden.Instrs.{Front}

-- slots and code, each unless it is empty
abbrev pub executable : List ℕ → ℕ → List ℕ → List Segment
executable slots base code = present slot_base slots 1 ++ present base code 1

module _ (slots ro rw : List ℕ) (base : ℕ) (code : List ℕ) where
  -- all segments of a layout
  abbrev pub all : List Segment
  all = present slot_base slots 1 ++ (present ro_start ro 4 ++ (present rw_start rw 6 ++ present base code 1))

-- what may be executed
pub all_code : (slots ro rw : List ℕ) (base : ℕ) (code : List ℕ) → code_of (all slots ro rw base code ++ stack ∷ []) ≡ executable slots base code
all_code [] [] [] base [] = refl
all_code [] [] [] base (w ∷ ws) = refl
all_code [] [] (z ∷ zs) base [] = refl
all_code [] [] (z ∷ zs) base (w ∷ ws) = refl
all_code [] (y ∷ ys) [] base [] = refl
all_code [] (y ∷ ys) [] base (w ∷ ws) = refl
all_code [] (y ∷ ys) (z ∷ zs) base [] = refl
all_code [] (y ∷ ys) (z ∷ zs) base (w ∷ ws) = refl
all_code (x ∷ xs) [] [] base [] = refl
all_code (x ∷ xs) [] [] base (w ∷ ws) = refl
all_code (x ∷ xs) [] (z ∷ zs) base [] = refl
all_code (x ∷ xs) [] (z ∷ zs) base (w ∷ ws) = refl
all_code (x ∷ xs) (y ∷ ys) [] base [] = refl
all_code (x ∷ xs) (y ∷ ys) [] base (w ∷ ws) = refl
all_code (x ∷ xs) (y ∷ ys) (z ∷ zs) base [] = refl
all_code (x ∷ xs) (y ∷ ys) (z ∷ zs) base (w ∷ ws) = refl

-- what may be read or written
pub all_data : (slots ro rw : List ℕ) (base : ℕ) (code : List ℕ) → data_of (all slots ro rw base code ++ stack ∷ []) ≡ data_segments ro rw
all_data [] [] [] base [] = refl
all_data [] [] [] base (w ∷ ws) = refl
all_data [] [] (z ∷ zs) base [] = refl
all_data [] [] (z ∷ zs) base (w ∷ ws) = refl
all_data [] (y ∷ ys) [] base [] = refl
all_data [] (y ∷ ys) [] base (w ∷ ws) = refl
all_data [] (y ∷ ys) (z ∷ zs) base [] = refl
all_data [] (y ∷ ys) (z ∷ zs) base (w ∷ ws) = refl
all_data (x ∷ xs) [] [] base [] = refl
all_data (x ∷ xs) [] [] base (w ∷ ws) = refl
all_data (x ∷ xs) [] (z ∷ zs) base [] = refl
all_data (x ∷ xs) [] (z ∷ zs) base (w ∷ ws) = refl
all_data (x ∷ xs) (y ∷ ys) [] base [] = refl
all_data (x ∷ xs) (y ∷ ys) [] base (w ∷ ws) = refl
all_data (x ∷ xs) (y ∷ ys) (z ∷ zs) base [] = refl
all_data (x ∷ xs) (y ∷ ys) (z ∷ zs) base (w ∷ ws) = refl

-- what may be executed may be neither read nor written
pub all_hidden : (slots : List ℕ) (base : ℕ) (code : List ℕ) → AreHidden (executable slots base code)
all_hidden [] base [] = tt
all_hidden [] base (w ∷ ws) = (refl, refl, tt)
all_hidden (x ∷ xs) base [] = (refl, refl, tt)
all_hidden (x ∷ xs) base (w ∷ ws) = (refl, refl, (refl, refl, tt))

-- sixteen bytes hold an instruction whole
pub take_past : (n : ℕ) (xs more : List ℕ) → length xs ≤ n → take n (xs ++ more) ≡ xs ++ take (n - length xs) more
take_past n [] more le = let whole : n ≡ n - 0 = omega arith in ap (λ m. take m more) whole
take_past zero (x ∷ xs) more le = absurd (omega (arith, le))
take_past (suc n) (x ∷ xs) more le =
    let less : n - length xs ≡ suc n - length (x ∷ xs) = omega arith in
    ap (λ r. x ∷ r) (take_past n xs more (omega (arith, le)) ∙ ap (λ m. xs ++ take m more) less)

-- an instruction takes a byte at least
long : (xs : List ℕ) (k : ℕ) (i : Instr) → Front (drop k xs) i → k + 1 ≤ length xs
long xs k i h =
    let whole : length (drop k xs) ≡ length (encoding i) + length h.more = ap length h.begins ∙ length-append (encoding i) h.more in
    omega (arith, whole, length-drop k xs, some_bytes i)

-- a segment that holds an instruction gives it
found_here : (start : ℕ) (xs : List ℕ) (others : List Segment) (a : ℕ) (i : Instr) → start ≤ a → Front (drop (a - start) xs) i → code_at (present start xs 1 ++ others) a ≡ Some (take 16 (drop (a - start) xs))
found_here start [] others a i le h = absurd (let some = long [] (a - start) i h in omega (arith, some))
found_here start (x ∷ xs) others a i le h =
    let some = long (x ∷ xs) (a - start) i h in
    let held = and_from _ _ (le-leb start a le) (le-leb (a + 1) (start + length (x ∷ xs)) (omega (arith, some, le))) in
    ap (λ t. if t then Some (take 16 (drop (a - start) (x ∷ xs))) else code_at others a) held

-- a segment that ends before an address is passed over
passed : (start : ℕ) (xs : List ℕ) (others : List Segment) (a : ℕ) → start + length xs ≤ a → code_at (present start xs 1 ++ others) a ≡ code_at others a
passed start [] others a le = refl
passed start (x ∷ xs) others a le =
    let past = and_right (nat_le start a) _ (lt-leb (a + 1) (start + length (x ∷ xs)) (omega (arith, le))) in
    ap (λ t. if t then Some (take 16 (drop (a - start) (x ∷ xs))) else code_at others a) past

-- an instruction that is found whole
begins_at : (exec : List Segment) (a : ℕ) (ys : List ℕ) (i : Instr) → IsInstr i → code_at exec a ≡ Some (take 16 ys) → Front ys i → IsAt exec a i
begins_at exec a ys i is e h = record {
  is_instr = is;
  rest = take (16 - length (encoding i)) h.more;
  bytes = e ∙ ap (λ zs. Some (take 16 zs)) h.begins ∙ ap Some (take_past 16 (encoding i) h.more (let few = few_bytes i in omega (arith, few)));
}

-- an instruction in the slots
pub in_slots : (slots : List ℕ) (base : ℕ) (code : List ℕ) (a : ℕ) (i : Instr) → IsInstr i → slot_base ≤ a → Front (drop (a - slot_base) slots) i → IsAt (executable slots base code) a i
in_slots slots base code a i is le h = begins_at (executable slots base code) a (drop (a - slot_base) slots) i is (found_here slot_base slots (present base code 1) a i le h) h

-- an instruction in the code
pub in_code : (slots : List ℕ) (base : ℕ) (code : List ℕ) (a : ℕ) (i : Instr) → IsInstr i → slot_base + length slots ≤ a → base ≤ a → Front (drop (a - base) code) i → IsAt (executable slots base code) a i
in_code slots base code a i is past le h =
    begins_at (executable slots base code) a (drop (a - base) code) i is
    (passed slot_base slots (present base code 1) a past ∙ ap (λ ss. code_at ss a) (sym (append-nil (present base code 1))) ∙ found_here base code [] a i le h) h
