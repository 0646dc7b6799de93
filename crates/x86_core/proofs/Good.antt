-- When a part of the decoding, at the bytes behind a front, says what the encodings say.
use Rattle.std.proofs.Common.{◌≡◌, ℕ, ◌+◌, ◌/◌, ◌%◌, ◌^◌, ◌<◌, Bool, true, false, List, [], ◌∷◌, ◌++◌, length, Option, Some, None, refl, sym, ◌∙◌, ap, subst, append_assoc, length-append, lit<, arith}
use Rattle.std.specs.Prelude.{ℤ, nat_eq, if◌then◌else◌}
use Rattle.std.proofs.lemmas.Bool.{eqb-true}
use Rattle.std.proofs.lemmas.List.{append-nil}
use Rattle.rd_num.specs.Number.{le_bytes, le_number}
use Rattle.x86_core.specs.declared.reg.Reg.{Reg}
use Rattle.x86_core.specs.declared.instr.Mem.{Mem}
use Rattle.x86_core.specs.declared.instr.Instr.{Instr}
use Rattle.x86_core.specs.declared.instr.Decoded.{Decoded}
use Rattle.x86_core.specs.declared.instr.Decoded.TheVariants.{One, Short, Unknown}
use Rattle.x86_core.specs.declared.instr.Prefix.{Prefix}
use Rattle.x86_core.specs.Encoding.{encoding, IsInstr, IsNumber32, IsCut, extended, low3, modrm, registers, digit, memory, index_of, number32}
use Rattle.x86_core.specs.Decoding.{reg_bit, rm_bit, reg_at, first4, first8, taken, signed32, with_number, two_registers, with_digit, indexed, displaced, at_memory, by_mode}
use Rattle.x86_core.proofs.Parts.{IsBytes, HasBits, reg_at_bits, modrm_back, bytes_back, low32_back, signed32_small}

-- an instruction of this length begins the bytes
pub record Found (xs : List ℕ) (i : Instr) (n : ℕ) : Type 0 where
  pub is_instr : IsInstr i
  pub rest : List ℕ
  pub split : xs ≡ encoding i ++ rest
  pub size : n ≡ length (encoding i)

-- what an answer says of the bytes
abbrev pub Says : List ℕ → Decoded → Type 0
Says xs (One i n) = Found xs i n
Says xs Short = IsCut xs
Says xs Unknown = Unit {0}

-- the answer is right, and one of no instruction stays with more bytes
pub record Good (front : List ℕ) (f : List ℕ → Decoded) : Type 0 where
  pub says : (bs : List ℕ) → IsBytes bs → Says (front ++ bs) (f bs)
  pub stays : (bs more : List ℕ) → f bs ≡ Unknown → f (bs ++ more) ≡ Unknown

pub good_unknown : (front : List ℕ) → Good front (λ bs. Unknown)
good_unknown front = record { says = λ bs h. tt; stays = λ bs more e. refl }

-- a test
pub good_if : (front : List ℕ) (t : Bool) (f g : List ℕ → Decoded) → (t ≡ true → Good front f) → (t ≡ false → Good front g) → Good front (λ bs. if t then f bs else g bs)
good_if front true f g h k = h refl
good_if front false f g h k = k refl

-- a test that else knows of no instruction
pub good_where : (front : List ℕ) (t : Bool) (f : List ℕ → Decoded) → (t ≡ true → Good front f) → Good front (λ bs. if t then f bs else Unknown)
good_where front t f h = good_if front t f (λ bs. Unknown) h (λ e. good_unknown front)

-- a test of the last byte
pub good_byte : (front : List ℕ) (b k : ℕ) (f g : List ℕ → Decoded) → Good (front ++ k ∷ []) f → Good (front ++ b ∷ []) g → Good (front ++ b ∷ []) (λ bs. if nat_eq b k then f bs else g bs)
good_byte front b k f g h j =
    good_if (front ++ b ∷ []) (nat_eq b k) f g
    (λ e. subst (λ (x : ℕ). Good (front ++ x ∷ []) f) (sym (eqb-true b k e)) h)
    (λ e. j)

-- the front of another list of the same bytes
pub good_front : (front other : List ℕ) (f : List ℕ → Decoded) → front ≡ other → Good front f → Good other f
good_front front other f e h = subst (λ (x : List ℕ). Good x f) e h

-- the next byte
module _ (front : List ℕ) (f : List ℕ → Decoded) (g : ℕ → List ℕ → Decoded) where
  pub good_next : f [] ≡ Short → ((b : ℕ) (bs : List ℕ) → f (b ∷ bs) ≡ g b bs) → IsCut front → ((b : ℕ) → Good (front ++ b ∷ []) (g b)) → Good front f
  good_next none some cut good = record { says = says; stays = stays } where
    says : (bs : List ℕ) → IsBytes bs → Says (front ++ bs) (f bs)
    says [] h = subst (λ (d : Decoded). Says (front ++ []) d) (sym none) (subst IsCut (sym (append-nil front)) cut)
    says (b ∷ bs) h =
        let at : Says ((front ++ b ∷ []) ++ bs) (g b bs) = (good b).says bs h.1 in
        let same : (front ++ b ∷ []) ++ bs ≡ front ++ (b ∷ bs) = append_assoc front (b ∷ []) bs in
        subst (λ (d : Decoded). Says (front ++ (b ∷ bs)) d) (sym (some b bs)) (subst (λ (xs : List ℕ). Says xs (g b bs)) same at)

    stays : (bs more : List ℕ) → f bs ≡ Unknown → f (bs ++ more) ≡ Unknown
    stays [] more e = absurd (cc (none, e))
    stays (b ∷ bs) more e = some b (bs ++ more) ∙ (good b).stays bs more (sym (some b bs) ∙ e)

-- an instruction that is whole
pub good_one : (front : List ℕ) (i : Instr) (n : ℕ) → IsInstr i → encoding i ≡ front → n ≡ length front → Good front (λ bs. One i n)
good_one front i n h e size = record {
  says = λ bs _. record { is_instr = h; rest = bs; split = ap (λ (xs : List ℕ). xs ++ bs) (sym e); size = size ∙ ap length (sym e) };
  stays = λ bs more u. absurd (cc);
}

-- an instruction that a front is cut from
pub cut_of : (front : List ℕ) (i : Instr) (b : ℕ) (bs : List ℕ) → IsInstr i → encoding i ≡ front ++ (b ∷ bs) → IsCut front
cut_of front i b bs h e = record { whole = i; is_instr = h; next = b; more = bs; goes_on = e }

-- an instruction and its bytes
pub record Spells (i : Instr) (xs : List ℕ) : Type 0 where
  pub is_instr : IsInstr i
  pub bytes : encoding i ≡ xs

-- lengths behind a front
longer : (front bs : List ℕ) (n k : ℕ) → n ≡ length front + k → length bs ≡ k → n ≡ length (front ++ bs)
longer front bs n k h e = omega (arith, length-append front bs)

-- ModRM with two registers
pub good_two : (front : List ℕ) (make : Reg → Reg → Instr) (size : ℕ) (p : Prefix) →
    ((r m : Reg) → extended r ≡ reg_bit p → extended m ≡ rm_bit p → Spells (make r m) (front ++ registers r m ∷ [])) →
    size ≡ length front + 1 → Good front (two_registers make size p)
good_two front make size p spells n =
    let zero_reg : HasBits (reg_at (reg_bit p) 0) (reg_bit p) 0 = reg_at_bits (reg_bit p) 0 (lit< tt) in
    let zero_rm : HasBits (reg_at (rm_bit p) 0) (rm_bit p) 0 = reg_at_bits (rm_bit p) 0 (lit< tt) in
    let first = spells (reg_at (reg_bit p) 0) (reg_at (rm_bit p) 0) zero_reg.above zero_rm.above in
    good_next front (two_registers make size p)
    (λ m bs. if nat_eq (m / 64) 3 then One (make (reg_at (reg_bit p) (m / 8 % 8)) (reg_at (rm_bit p) (m % 8))) size else Unknown)
    refl (λ m bs. refl) (cut_of front _ _ [] first.is_instr first.bytes)
    (λ m. good_where (front ++ m ∷ []) (nat_eq (m / 64) 3) (λ bs. One (make (reg_at (reg_bit p) (m / 8 % 8)) (reg_at (rm_bit p) (m % 8))) size)
    (λ e. one m (eqb-true (m / 64) 3 e))) where
      one : (m : ℕ) → m / 64 ≡ 3 → Good (front ++ m ∷ []) (λ bs. One (make (reg_at (reg_bit p) (m / 8 % 8)) (reg_at (rm_bit p) (m % 8))) size)
      one m e =
          let reg : HasBits (reg_at (reg_bit p) (m / 8 % 8)) (reg_bit p) (m / 8 % 8) = reg_at_bits (reg_bit p) (m / 8 % 8) (omega arith) in
          let rm : HasBits (reg_at (rm_bit p) (m % 8)) (rm_bit p) (m % 8) = reg_at_bits (rm_bit p) (m % 8) (omega arith) in
          let it = spells (reg_at (reg_bit p) (m / 8 % 8)) (reg_at (rm_bit p) (m % 8)) reg.above rm.above in
          let byte : registers (reg_at (reg_bit p) (m / 8 % 8)) (reg_at (rm_bit p) (m % 8)) ≡ m =
          ap (λ (k : ℕ). modrm 3 k (low3 (reg_at (rm_bit p) (m % 8)))) reg.below ∙ ap (λ (k : ℕ). modrm 3 (m / 8 % 8) k) rm.below ∙ modrm_back m 3 e
          in
          good_one (front ++ m ∷ []) (make (reg_at (reg_bit p) (m / 8 % 8)) (reg_at (rm_bit p) (m % 8))) size it.is_instr
          (it.bytes ∙ ap (λ (k : ℕ). front ++ k ∷ []) byte) (longer front (m ∷ []) size 1 n refl)

-- ModRM with a digit and a register
pub good_digit : (front : List ℕ) (row : ℕ → Reg → List ℕ → Decoded) (p : Prefix) →
    IsCut front → ((n : ℕ) → n < 8 → (m : Reg) → extended m ≡ rm_bit p → Good (front ++ digit n m ∷ []) (row n m)) → Good front (with_digit row p)
good_digit front row p cut good =
    good_next front (with_digit row p)
    (λ m bs. if nat_eq (m / 64) 3 then row (m / 8 % 8) (reg_at (rm_bit p) (m % 8)) bs else Unknown)
    refl (λ m bs. refl) cut
    (λ m. good_where (front ++ m ∷ []) (nat_eq (m / 64) 3) (row (m / 8 % 8) (reg_at (rm_bit p) (m % 8)))
    (λ e. one m (eqb-true (m / 64) 3 e))) where
      one : (m : ℕ) → m / 64 ≡ 3 → Good (front ++ m ∷ []) (row (m / 8 % 8) (reg_at (rm_bit p) (m % 8)))
      one m e =
          let small : m / 8 % 8 < 8 = omega arith in
          let rm : HasBits (reg_at (rm_bit p) (m % 8)) (rm_bit p) (m % 8) = reg_at_bits (rm_bit p) (m % 8) (omega arith) in
          let byte : digit (m / 8 % 8) (reg_at (rm_bit p) (m % 8)) ≡ m = ap (λ (k : ℕ). modrm 3 (m / 8 % 8) k) rm.below ∙ modrm_back m 3 e in
          subst (λ (k : ℕ). Good (front ++ k ∷ []) (row (m / 8 % 8) (reg_at (rm_bit p) (m % 8)))) byte (good (m / 8 % 8) small (reg_at (rm_bit p) (m % 8)) rm.above)

-- a number is never no instruction
taken_known : (make : ℕ → Instr) (size : ℕ) (o : Option ℕ) → taken make size o ≡ Unknown → ⊥
taken_known make size (Some n) e = cc
taken_known make size None e = cc

small4 : (a b c d : ℕ) → a < 256 → b < 256 → c < 256 → d < 256 → le_number (a ∷ b ∷ c ∷ d ∷ []) < 2 ^ 32
small4 a b c d h i j k = omega arith

-- an instruction that ends with a number of four bytes
module _ (front : List ℕ) (make : ℕ → Instr) (size : ℕ) (spells : (n : ℕ) → n < 2 ^ 32 → Spells (make n) (front ++ le_bytes 4 n)) (n : size ≡ length front + 4) where
  at4 : (a b c d : ℕ) → IsBytes (a ∷ b ∷ c ∷ d ∷ []) → Spells (make (le_number (a ∷ b ∷ c ∷ d ∷ []))) (front ++ (a ∷ b ∷ c ∷ d ∷ []))
  at4 a b c d h =
      let it = spells (le_number (a ∷ b ∷ c ∷ d ∷ [])) (small4 a b c d h.0 h.1.0 h.1.1.0 h.1.1.1.0) in
      record { is_instr = it.is_instr; bytes = it.bytes ∙ ap (λ (xs : List ℕ). front ++ xs) (bytes_back (a ∷ b ∷ c ∷ d ∷ []) h) }

  zero_small : 0 < 256
  zero_small = lit< tt

  says4 : (bs : List ℕ) → IsBytes bs → Says (front ++ bs) (taken make size (first4 bs))
  says4 [] h =
      let it = at4 0 0 0 0 (zero_small, (zero_small, (zero_small, (zero_small, tt)))) in
      cut_of (front ++ []) _ 0 (0 ∷ 0 ∷ 0 ∷ []) it.is_instr (it.bytes ∙ sym (append_assoc front [] (0 ∷ 0 ∷ 0 ∷ 0 ∷ [])))
  says4 (a ∷ []) h =
      let it = at4 a 0 0 0 (h.0, (zero_small, (zero_small, (zero_small, tt)))) in
      cut_of (front ++ (a ∷ [])) _ 0 (0 ∷ 0 ∷ []) it.is_instr (it.bytes ∙ sym (append_assoc front (a ∷ []) (0 ∷ 0 ∷ 0 ∷ [])))
  says4 (a ∷ b ∷ []) h =
      let it = at4 a b 0 0 (h.0, (h.1.0, (zero_small, (zero_small, tt)))) in
      cut_of (front ++ (a ∷ b ∷ [])) _ 0 (0 ∷ []) it.is_instr (it.bytes ∙ sym (append_assoc front (a ∷ b ∷ []) (0 ∷ 0 ∷ [])))
  says4 (a ∷ b ∷ c ∷ []) h =
      let it = at4 a b c 0 (h.0, (h.1.0, (h.1.1.0, (zero_small, tt)))) in
      cut_of (front ++ (a ∷ b ∷ c ∷ [])) _ 0 [] it.is_instr (it.bytes ∙ sym (append_assoc front (a ∷ b ∷ c ∷ []) (0 ∷ [])))
  says4 (a ∷ b ∷ c ∷ d ∷ bs) h =
      let it = at4 a b c d (h.0, (h.1.0, (h.1.1.0, (h.1.1.1.0, tt)))) in
      let split : front ++ (a ∷ b ∷ c ∷ d ∷ bs) ≡ (front ++ (a ∷ b ∷ c ∷ d ∷ [])) ++ bs = sym (append_assoc front (a ∷ b ∷ c ∷ d ∷ []) bs) in
      record { is_instr = it.is_instr; rest = bs; split = split ∙ ap (λ (xs : List ℕ). xs ++ bs) (sym it.bytes); size = longer front (a ∷ b ∷ c ∷ d ∷ []) size 4 n refl ∙ ap length (sym it.bytes) }

  stays4 : (bs more : List ℕ) → taken make size (first4 bs) ≡ Unknown → taken make size (first4 (bs ++ more)) ≡ Unknown
  stays4 bs more e = absurd (taken_known make size (first4 bs) e)

  pub good_taken4 : Good front (λ bs. taken make size (first4 bs))
  good_taken4 = record { says = says4; stays = stays4 }

-- an instruction that ends with a number of eight bytes
small8 : (a b c d e f g h : ℕ) → a < 256 → b < 256 → c < 256 → d < 256 → e < 256 → f < 256 → g < 256 → h < 256 → le_number (a ∷ b ∷ c ∷ d ∷ e ∷ f ∷ g ∷ h ∷ []) < 2 ^ 64
small8 a b c d e f g h ha hb hc hd he hf hg hh = omega arith

module _ (front : List ℕ) (make : ℕ → Instr) (size : ℕ) (spells : (n : ℕ) → n < 2 ^ 64 → Spells (make n) (front ++ le_bytes 8 n)) (n : size ≡ length front + 8) where
  at8 : (a b c d e f g i : ℕ) → IsBytes (a ∷ b ∷ c ∷ d ∷ e ∷ f ∷ g ∷ i ∷ []) → Spells (make (le_number (a ∷ b ∷ c ∷ d ∷ e ∷ f ∷ g ∷ i ∷ []))) (front ++ (a ∷ b ∷ c ∷ d ∷ e ∷ f ∷ g ∷ i ∷ []))
  at8 a b c d e f g i h =
      let it = spells (le_number (a ∷ b ∷ c ∷ d ∷ e ∷ f ∷ g ∷ i ∷ [])) (small8 a b c d e f g i h.0 h.1.0 h.1.1.0 h.1.1.1.0 h.1.1.1.1.0 h.1.1.1.1.1.0 h.1.1.1.1.1.1.0 h.1.1.1.1.1.1.1.0) in
      record { is_instr = it.is_instr; bytes = it.bytes ∙ ap (λ (xs : List ℕ). front ++ xs) (bytes_back (a ∷ b ∷ c ∷ d ∷ e ∷ f ∷ g ∷ i ∷ []) h) }

  zero_small8 : 0 < 256
  zero_small8 = lit< tt

  says8 : (bs : List ℕ) → IsBytes bs → Says (front ++ bs) (taken make size (first8 bs))
  says8 [] h =
      let it = at8 0 0 0 0 0 0 0 0 (zero_small8, (zero_small8, (zero_small8, (zero_small8, (zero_small8, (zero_small8, (zero_small8, (zero_small8, tt)))))))) in
      cut_of (front ++ []) _ 0 (0 ∷ 0 ∷ 0 ∷ 0 ∷ 0 ∷ 0 ∷ 0 ∷ []) it.is_instr (it.bytes ∙ sym (append_assoc front [] (0 ∷ 0 ∷ 0 ∷ 0 ∷ 0 ∷ 0 ∷ 0 ∷ 0 ∷ [])))
  says8 (a ∷ []) h =
      let it = at8 a 0 0 0 0 0 0 0 (h.0, (zero_small8, (zero_small8, (zero_small8, (zero_small8, (zero_small8, (zero_small8, (zero_small8, tt)))))))) in
      cut_of (front ++ (a ∷ [])) _ 0 (0 ∷ 0 ∷ 0 ∷ 0 ∷ 0 ∷ 0 ∷ []) it.is_instr (it.bytes ∙ sym (append_assoc front (a ∷ []) (0 ∷ 0 ∷ 0 ∷ 0 ∷ 0 ∷ 0 ∷ 0 ∷ [])))
  says8 (a ∷ b ∷ []) h =
      let it = at8 a b 0 0 0 0 0 0 (h.0, (h.1.0, (zero_small8, (zero_small8, (zero_small8, (zero_small8, (zero_small8, (zero_small8, tt)))))))) in
      cut_of (front ++ (a ∷ b ∷ [])) _ 0 (0 ∷ 0 ∷ 0 ∷ 0 ∷ 0 ∷ []) it.is_instr (it.bytes ∙ sym (append_assoc front (a ∷ b ∷ []) (0 ∷ 0 ∷ 0 ∷ 0 ∷ 0 ∷ 0 ∷ [])))
  says8 (a ∷ b ∷ c ∷ []) h =
      let it = at8 a b c 0 0 0 0 0 (h.0, (h.1.0, (h.1.1.0, (zero_small8, (zero_small8, (zero_small8, (zero_small8, (zero_small8, tt)))))))) in
      cut_of (front ++ (a ∷ b ∷ c ∷ [])) _ 0 (0 ∷ 0 ∷ 0 ∷ 0 ∷ []) it.is_instr (it.bytes ∙ sym (append_assoc front (a ∷ b ∷ c ∷ []) (0 ∷ 0 ∷ 0 ∷ 0 ∷ 0 ∷ [])))
  says8 (a ∷ b ∷ c ∷ d ∷ []) h =
      let it = at8 a b c d 0 0 0 0 (h.0, (h.1.0, (h.1.1.0, (h.1.1.1.0, (zero_small8, (zero_small8, (zero_small8, (zero_small8, tt)))))))) in
      cut_of (front ++ (a ∷ b ∷ c ∷ d ∷ [])) _ 0 (0 ∷ 0 ∷ 0 ∷ []) it.is_instr (it.bytes ∙ sym (append_assoc front (a ∷ b ∷ c ∷ d ∷ []) (0 ∷ 0 ∷ 0 ∷ 0 ∷ [])))
  says8 (a ∷ b ∷ c ∷ d ∷ e ∷ []) h =
      let it = at8 a b c d e 0 0 0 (h.0, (h.1.0, (h.1.1.0, (h.1.1.1.0, (h.1.1.1.1.0, (zero_small8, (zero_small8, (zero_small8, tt)))))))) in
      cut_of (front ++ (a ∷ b ∷ c ∷ d ∷ e ∷ [])) _ 0 (0 ∷ 0 ∷ []) it.is_instr (it.bytes ∙ sym (append_assoc front (a ∷ b ∷ c ∷ d ∷ e ∷ []) (0 ∷ 0 ∷ 0 ∷ [])))
  says8 (a ∷ b ∷ c ∷ d ∷ e ∷ f ∷ []) h =
      let it = at8 a b c d e f 0 0 (h.0, (h.1.0, (h.1.1.0, (h.1.1.1.0, (h.1.1.1.1.0, (h.1.1.1.1.1.0, (zero_small8, (zero_small8, tt)))))))) in
      cut_of (front ++ (a ∷ b ∷ c ∷ d ∷ e ∷ f ∷ [])) _ 0 (0 ∷ []) it.is_instr (it.bytes ∙ sym (append_assoc front (a ∷ b ∷ c ∷ d ∷ e ∷ f ∷ []) (0 ∷ 0 ∷ [])))
  says8 (a ∷ b ∷ c ∷ d ∷ e ∷ f ∷ g ∷ []) h =
      let it = at8 a b c d e f g 0 (h.0, (h.1.0, (h.1.1.0, (h.1.1.1.0, (h.1.1.1.1.0, (h.1.1.1.1.1.0, (h.1.1.1.1.1.1.0, (zero_small8, tt)))))))) in
      cut_of (front ++ (a ∷ b ∷ c ∷ d ∷ e ∷ f ∷ g ∷ [])) _ 0 [] it.is_instr (it.bytes ∙ sym (append_assoc front (a ∷ b ∷ c ∷ d ∷ e ∷ f ∷ g ∷ []) (0 ∷ [])))
  says8 (a ∷ b ∷ c ∷ d ∷ e ∷ f ∷ g ∷ i ∷ bs) h =
      let it = at8 a b c d e f g i (h.0, (h.1.0, (h.1.1.0, (h.1.1.1.0, (h.1.1.1.1.0, (h.1.1.1.1.1.0, (h.1.1.1.1.1.1.0, (h.1.1.1.1.1.1.1.0, tt)))))))) in
      let split : front ++ (a ∷ b ∷ c ∷ d ∷ e ∷ f ∷ g ∷ i ∷ bs) ≡ (front ++ (a ∷ b ∷ c ∷ d ∷ e ∷ f ∷ g ∷ i ∷ [])) ++ bs = sym (append_assoc front (a ∷ b ∷ c ∷ d ∷ e ∷ f ∷ g ∷ i ∷ []) bs) in
      record { is_instr = it.is_instr; rest = bs; split = split ∙ ap (λ (xs : List ℕ). xs ++ bs) (sym it.bytes); size = longer front (a ∷ b ∷ c ∷ d ∷ e ∷ f ∷ g ∷ i ∷ []) size 8 n refl ∙ ap length (sym it.bytes) }

  pub good_taken8 : Good front (λ bs. taken make size (first8 bs))
  good_taken8 = record { says = says8; stays = λ bs more e. absurd (taken_known make size (first8 bs) e) }

-- a signed number of four bytes
pub good_number : (front : List ℕ) (make : ℤ → Instr) (size : ℕ) →
    ((d : ℤ) → IsNumber32 d → Spells (make d) (front ++ number32 d)) → size ≡ length front + 4 → Good front (with_number make size)
good_number front make size spells n = good_taken4 front (λ k. make (signed32 k)) size at n where
  at : (k : ℕ) → k < 2 ^ 32 → Spells (make (signed32 k)) (front ++ le_bytes 4 k)
  at k h =
      let it = spells (signed32 k) (signed32_small k h) in
      record { is_instr = it.is_instr; bytes = it.bytes ∙ ap (λ (j : ℕ). front ++ le_bytes 4 j) (low32_back k h) }

-- ModRM with a register and a place in memory
module _ (front : List ℕ) (make : Reg → Mem → Instr) (size : ℕ) (p : Prefix)
    (spells : (r : Reg) (m : Mem) → IsNumber32 m.disp → extended r ≡ reg_bit p → extended m.base ≡ rm_bit p → Spells (make r m) (front ++ memory r m))
    (n : size ≡ length front + 5) where
  abbrev place : Reg → ℤ → Mem
  place base d = record { base = base; disp = d }

  -- without a SIB byte
  direct : (r base : Reg) → extended r ≡ reg_bit p → extended base ≡ rm_bit p → index_of base ≡ [] → Good (front ++ modrm 2 (low3 r) (low3 base) ∷ []) (with_number (λ d. make r (place base d)) size)
  direct r base hr hb none = good_number (front ++ modrm 2 (low3 r) (low3 base) ∷ []) (λ d. make r (place base d)) size at (longer_by) where
    longer_by : size ≡ length (front ++ modrm 2 (low3 r) (low3 base) ∷ []) + 4
    longer_by = omega (arith, length-append front (modrm 2 (low3 r) (low3 base) ∷ []))

    at : (d : ℤ) → IsNumber32 d → Spells (make r (place base d)) ((front ++ modrm 2 (low3 r) (low3 base) ∷ []) ++ number32 d)
    at d h =
        let it = spells r (place base d) h hr hb in
        record { is_instr = it.is_instr; bytes = it.bytes ∙ ap (λ (xs : List ℕ). front ++ (modrm 2 (low3 r) (low3 base) ∷ (xs ++ number32 d))) none ∙ sym (append_assoc front (modrm 2 (low3 r) (low3 base) ∷ []) (number32 d)) }

  -- with a SIB byte
  by_index : (r base : Reg) → extended r ≡ reg_bit p → extended base ≡ rm_bit p → index_of base ≡ 0x24 ∷ [] → Good (front ++ modrm 2 (low3 r) (low3 base) ∷ []) (indexed (λ d. make r (place base d)) (size + 1))
  by_index r base hr hb some =
      let f1 : List ℕ = front ++ modrm 2 (low3 r) (low3 base) ∷ [] in
      let whole = spells r (place base (ℤ.pos 0)) (lit< tt) hr hb in
      good_next f1 (indexed (λ d. make r (place base d)) (size + 1))
      (λ i bs. if nat_eq i 0x24 then with_number (λ d. make r (place base d)) (size + 1) bs else Unknown)
      refl (λ i bs. refl)
      (cut_of f1 _ 0x24 (number32 (ℤ.pos 0)) whole.is_instr (whole.bytes ∙ ap (λ (xs : List ℕ). front ++ (modrm 2 (low3 r) (low3 base) ∷ (xs ++ number32 (ℤ.pos 0)))) some ∙ sym (append_assoc front (modrm 2 (low3 r) (low3 base) ∷ []) (0x24 ∷ number32 (ℤ.pos 0)))))
      (λ i. good_byte f1 i 0x24 (with_number (λ d. make r (place base d)) (size + 1)) (λ bs. Unknown) (good_number (f1 ++ 0x24 ∷ []) (λ d. make r (place base d)) (size + 1) at longer_by) (good_unknown (f1 ++ i ∷ []))) where
        longer_by : size + 1 ≡ length ((front ++ modrm 2 (low3 r) (low3 base) ∷ []) ++ 0x24 ∷ []) + 4
        longer_by = omega (arith, length-append front (modrm 2 (low3 r) (low3 base) ∷ []), length-append (front ++ modrm 2 (low3 r) (low3 base) ∷ []) (0x24 ∷ []))

        at : (d : ℤ) → IsNumber32 d → Spells (make r (place base d)) (((front ++ modrm 2 (low3 r) (low3 base) ∷ []) ++ 0x24 ∷ []) ++ number32 d)
        at d h =
            let it = spells r (place base d) h hr hb in
            record { is_instr = it.is_instr; bytes = it.bytes ∙ ap (λ (xs : List ℕ). front ++ (modrm 2 (low3 r) (low3 base) ∷ (xs ++ number32 d))) some ∙ sym (append_assoc front (modrm 2 (low3 r) (low3 base) ∷ []) (0x24 ∷ number32 d)) ∙ sym (append_assoc (front ++ modrm 2 (low3 r) (low3 base) ∷ []) (0x24 ∷ []) (number32 d)) }

  index_some : (base : Reg) → nat_eq (low3 base) 4 ≡ true → index_of base ≡ 0x24 ∷ []
  index_some base e = ap (λ (t : Bool). if t then 0x24 ∷ [] else []) e

  index_none : (base : Reg) → nat_eq (low3 base) 4 ≡ false → index_of base ≡ []
  index_none base e = ap (λ (t : Bool). if t then 0x24 ∷ [] else []) e

  based : (r base : Reg) → extended r ≡ reg_bit p → extended base ≡ rm_bit p → Good (front ++ modrm 2 (low3 r) (low3 base) ∷ []) (displaced (λ d. make r (place base d)) size (low3 base))
  based r base hr hb =
      good_if (front ++ modrm 2 (low3 r) (low3 base) ∷ []) (nat_eq (low3 base) 4) (indexed (λ d. make r (place base d)) (size + 1)) (with_number (λ d. make r (place base d)) size)
      (λ e. by_index r base hr hb (index_some base e)) (λ e. direct r base hr hb (index_none base e))

  one_at : (m : ℕ) → m / 64 ≡ 2 → Good (front ++ m ∷ []) (displaced (λ d. make (reg_at (reg_bit p) (m / 8 % 8)) (place (reg_at (rm_bit p) (m % 8)) d)) size (m % 8))
  one_at m e =
      let reg : HasBits (reg_at (reg_bit p) (m / 8 % 8)) (reg_bit p) (m / 8 % 8) = reg_at_bits (reg_bit p) (m / 8 % 8) (omega arith) in
      let rm : HasBits (reg_at (rm_bit p) (m % 8)) (rm_bit p) (m % 8) = reg_at_bits (rm_bit p) (m % 8) (omega arith) in
      let byte : modrm 2 (low3 (reg_at (reg_bit p) (m / 8 % 8))) (low3 (reg_at (rm_bit p) (m % 8))) ≡ m =
      ap (λ (k : ℕ). modrm 2 k (low3 (reg_at (rm_bit p) (m % 8)))) reg.below ∙ ap (λ (k : ℕ). modrm 2 (m / 8 % 8) k) rm.below ∙ modrm_back m 2 e
      in
      let it = based (reg_at (reg_bit p) (m / 8 % 8)) (reg_at (rm_bit p) (m % 8)) reg.above rm.above in
      let low : Good (front ++ m ∷ []) (displaced (λ d. make (reg_at (reg_bit p) (m / 8 % 8)) (place (reg_at (rm_bit p) (m % 8)) d)) size (low3 (reg_at (rm_bit p) (m % 8)))) =
      subst (λ (k : ℕ). Good (front ++ k ∷ []) (displaced (λ d. make (reg_at (reg_bit p) (m / 8 % 8)) (place (reg_at (rm_bit p) (m % 8)) d)) size (low3 (reg_at (rm_bit p) (m % 8))))) byte it
      in
      subst (λ (k : ℕ). Good (front ++ m ∷ []) (displaced (λ d. make (reg_at (reg_bit p) (m / 8 % 8)) (place (reg_at (rm_bit p) (m % 8)) d)) size k)) rm.below low

  pub good_memory : Good front (at_memory make size p)
  good_memory =
      let zero_reg : HasBits (reg_at (reg_bit p) 0) (reg_bit p) 0 = reg_at_bits (reg_bit p) 0 (lit< tt) in
      let zero_rm : HasBits (reg_at (rm_bit p) 0) (rm_bit p) 0 = reg_at_bits (rm_bit p) 0 (lit< tt) in
      let first = spells (reg_at (reg_bit p) 0) (place (reg_at (rm_bit p) 0) (ℤ.pos 0)) (lit< tt) zero_reg.above zero_rm.above in
      good_next front (at_memory make size p)
      (λ m bs. if nat_eq (m / 64) 2 then displaced (λ d. make (reg_at (reg_bit p) (m / 8 % 8)) (place (reg_at (rm_bit p) (m % 8)) d)) size (m % 8) bs else Unknown)
      refl (λ m bs. refl) (cut_of front _ _ _ first.is_instr first.bytes)
      (λ m. good_where (front ++ m ∷ []) (nat_eq (m / 64) 2) (displaced (λ d. make (reg_at (reg_bit p) (m / 8 % 8)) (place (reg_at (rm_bit p) (m % 8)) d)) size (m % 8))
      (λ e. one_at m (eqb-true (m / 64) 2 e)))

-- ModRM of either kind
pub good_mode : (front : List ℕ) (regs mem : List ℕ → Decoded) → IsCut front → Good front regs → Good front mem → Good front (by_mode regs mem)
good_mode front regs mem cut h k = record { says = says; stays = stays } where
  says : (bs : List ℕ) → IsBytes bs → Says (front ++ bs) (by_mode regs mem bs)
  says [] b = subst IsCut (sym (append-nil front)) cut
  says (m ∷ bs) b = either (nat_eq (m / 64) 3) where
    either : (t : Bool) → Says (front ++ (m ∷ bs)) (if t then regs (m ∷ bs) else mem (m ∷ bs))
    either true = h.says (m ∷ bs) b
    either false = k.says (m ∷ bs) b

  stays : (bs more : List ℕ) → by_mode regs mem bs ≡ Unknown → by_mode regs mem (bs ++ more) ≡ Unknown
  stays [] more e = absurd (cc)
  stays (m ∷ bs) more e = either (nat_eq (m / 64) 3) e where
    either : (t : Bool) → (if t then regs (m ∷ bs) else mem (m ∷ bs)) ≡ Unknown → (if t then regs (m ∷ (bs ++ more)) else mem (m ∷ (bs ++ more))) ≡ Unknown
    either true u = h.stays (m ∷ bs) more u
    either false u = k.stays (m ∷ bs) more u
