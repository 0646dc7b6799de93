-- The laws of encoding and decoding.
use Rattle.std.proofs.Common.{◌≡◌, ℕ, ◌+◌, ◌<◌, ◌≤◌, Bool, true, false, List, [], ◌∷◌, ◌++◌, length, drop, refl, sym, ◌∙◌, ap, subst, append_assoc, length-append, lit≤, arith}
use Rattle.std.specs.Prelude.{All}
use Rattle.std.proofs.lemmas.List.{append-nil, drop_at}
use Rattle.std.proofs.lemmas.List.Elements.{All-head, All-tail}
use Rattle.rd_num.specs.Number.{le_bytes}
use Rattle.x86_core.specs.declared.reg.Reg.{Reg}
use Rattle.x86_core.specs.declared.reg.Reg.TheVariants.{Rax}
use Rattle.x86_core.specs.declared.instr.Size.{Size}
use Rattle.x86_core.specs.declared.instr.HighSize.{HighSize}
use Rattle.x86_core.specs.declared.instr.Mem.{Mem}
use Rattle.x86_core.specs.declared.instr.WidenKind.{WidenKind}
use Rattle.x86_core.specs.declared.instr.Instr.{Instr}
use Rattle.x86_core.specs.declared.instr.Instr.TheVariants.{Mov, MovImm64, MovImm32, Alu, AluImm, Imul, Shift, Div, High, Widen, Load, Store, Lea, Push, Pop}
use Rattle.x86_core.specs.declared.instr.Decoded.{Decoded}
use Rattle.x86_core.specs.declared.instr.Decoded.TheVariants.{One, Short, Unknown}
use Rattle.x86_core.specs.Encoding.{encoding, IsInstr, Begins, IsCut, rex_if, is_wide, extended, low3, registers, digit, alu_opcode, imm_digit, shift_digit, div_digit, index_of, memory, number32}
use Rattle.x86_core.specs.Decoding.{decode}
use Rattle.x86_core.proofs.Parts.{IsBytes}
use Rattle.x86_core.proofs.Good.{Says, Found}
use Rattle.x86_core.proofs.Whole.{decode_good}
use Rattle.x86_core.proofs.Back.{decode_back}

-- bytes one by one
bytes_of : (bs : List ℕ) → All (λ b. b < 256) bs → IsBytes bs
bytes_of [] h = tt
bytes_of (b ∷ bs) h = (All-head (λ x. x < 256) b bs h, bytes_of bs (All-tail (λ x. x < 256) b bs h))

-- a whole encoding decodes to its instruction
whole_back : (i : Instr) → IsInstr i → decode (encoding i) ≡ One i (length (encoding i))
whole_back i h = ap decode (sym (append-nil (encoding i))) ∙ decode_back i [] h

-- one answer of two instructions is one instruction
same_one : (i j : Instr) (m n : ℕ) → One i m ≡ One j n → i ≡ j
same_one i j m n e = cc

-- no encoding is a proper prefix of another
nothing_left : (xs ys : List ℕ) → xs ≡ xs ++ ys → ys ≡ []
nothing_left xs [] e = refl
nothing_left xs (y ∷ ys) e =
    let long : length xs ≡ length (xs ++ (y ∷ ys)) = ap length e in
    absurd (omega (arith, length-append xs (y ∷ ys)))

pub same_begin : (i j : Instr) (rest : List ℕ) → IsInstr i → IsInstr j → encoding j ≡ encoding i ++ rest → i ≡ j
same_begin i j rest h k e = same_one i j (length (encoding i)) (length (encoding j)) (sym (decode_back i rest h) ∙ ap decode (sym e) ∙ whole_back j k)

pub none_behind : (i j : Instr) (rest : List ℕ) → IsInstr i → IsInstr j → encoding j ≡ encoding i ++ rest → rest ≡ []
none_behind i j rest h k e = nothing_left (encoding i) rest (ap encoding (same_begin i j rest h k e) ∙ e)

-- different instructions have different encodings
pub encodings_differ : (i j : Instr) → IsInstr i → IsInstr j → encoding i ≡ encoding j → i ≡ j
encodings_differ i j h k e = same_begin i j [] h k (sym e ∙ sym (append-nil (encoding i)))

-- what an answer of one instruction says
found : (bs : List ℕ) (i : Instr) (n : ℕ) → IsBytes bs → decode bs ≡ One i n → Found bs i n
found bs i n h e = subst (λ (d : Decoded). Says bs d) e (decode_good.says bs h)

begins : (bs : List ℕ) (i : Instr) (n : ℕ) → Found bs i n → Begins bs i
begins bs i n f =
    let left : drop (length (encoding i)) bs ≡ f.rest = ap (λ (xs : List ℕ). drop (length (encoding i)) xs) f.split ∙ drop_at (encoding i) f.rest (length (encoding i)) refl in
    record { is_instr = f.is_instr; begins = f.split ∙ ap (λ (xs : List ℕ). encoding i ++ xs) (sym left) }

pub one_begins : (bs : List ℕ) (i : Instr) (n : ℕ) → All (λ b. b < 256) bs → decode bs ≡ One i n → Begins bs i
one_begins bs i n h e = begins bs i n (found bs i n (bytes_of bs h) e)

pub one_length : (bs : List ℕ) (i : Instr) (n : ℕ) → All (λ b. b < 256) bs → decode bs ≡ One i n → n ≡ length (encoding i)
one_length bs i n h e = (found bs i n (bytes_of bs h) e).size

-- where an encoding begins the bytes, it is the answer
pub begins_one : (bs : List ℕ) (i : Instr) → Begins bs i → decode bs ≡ One i (length (encoding i))
begins_one bs i b = ap decode b.begins ∙ decode_back i (drop (length (encoding i)) bs) b.is_instr

-- a proper prefix of an encoding, and nothing else, is short
pub short_cut : (bs : List ℕ) → All (λ b. b < 256) bs → decode bs ≡ Short → IsCut bs
short_cut bs h e = subst (λ (d : Decoded). Says bs d) e (decode_good.says bs (bytes_of bs h))

pub cut_short : (bs : List ℕ) → All (λ b. b < 256) bs → IsCut bs → decode bs ≡ Short
cut_short bs h c = answer (decode bs) refl where
  more : List ℕ
  more = c.next ∷ c.more

  whole : decode (bs ++ more) ≡ One c.whole (length (encoding c.whole))
  whole = ap decode (sym c.goes_on) ∙ whole_back c.whole c.is_instr

  answer : (d : Decoded) → decode bs ≡ d → decode bs ≡ Short
  answer Short e = e
  answer Unknown e = absurd (cc (sym (decode_good.stays bs more e) ∙ whole))
  answer (One j n) e =
      let f = found bs j n (bytes_of bs h) e in
      let split : encoding c.whole ≡ encoding j ++ (f.rest ++ more) = c.goes_on ∙ ap (λ (xs : List ℕ). xs ++ more) f.split ∙ append_assoc (encoding j) f.rest more in
      let none : f.rest ++ more ≡ [] = none_behind j c.whole (f.rest ++ more) f.is_instr c.is_instr split in
      let long : length (f.rest ++ more) ≡ 0 = ap length none in
      absurd (omega (arith, length-append f.rest more))

-- no instruction exactly where none begins the bytes and the bytes are cut from none
pub unknown_none : (bs : List ℕ) (i : Instr) → decode bs ≡ Unknown → Begins bs i → ⊥
unknown_none bs i e b = cc (sym (begins_one bs i b) ∙ e)

pub cut_unknown : (bs : List ℕ) → All (λ b. b < 256) bs → decode bs ≡ Unknown → IsCut bs → ⊥
cut_unknown bs h e c = cc (sym (cut_short bs h c) ∙ e)

pub none_unknown : (bs : List ℕ) → All (λ b. b < 256) bs → ((i : Instr) → Begins bs i → ⊥) → (IsCut bs → ⊥) → decode bs ≡ Unknown
none_unknown bs h none whole = answer (decode bs) refl where
  answer : (d : Decoded) → decode bs ≡ d → decode bs ≡ Unknown
  answer Unknown e = e
  answer Short e = absurd (whole (short_cut bs h e))
  answer (One i n) e = absurd (none i (one_begins bs i n h e))

-- the length of an encoding
pub record IsSized (xs : List ℕ) : Type 0 where
  pub some : 1 ≤ length xs
  pub few : length xs ≤ 10

rex_short : (w r b : Bool) → length (rex_if w r b) ≤ 1
rex_short true r b = lit≤ tt
rex_short false true b = lit≤ tt
rex_short false false true = lit≤ tt
rex_short false false false = lit≤ tt

index_short : (r : Reg) → length (index_of r) ≤ 1
index_short Rax = lit≤ tt
index_short r = lit≤ tt

-- a REX byte that may be absent, and up to nine bytes
behind : (w r b : Bool) (xs : List ℕ) → 1 ≤ length xs → length xs ≤ 9 → IsSized (rex_if w r b ++ xs)
behind w r b xs h k =
    let short = rex_short w r b in
    record { some = omega (arith, length-append (rex_if w r b) xs); few = omega (arith, length-append (rex_if w r b) xs) }

-- 66, a REX byte that may be absent, and up to eight bytes
behind_word : (w r b : Bool) (xs : List ℕ) → length xs ≤ 8 → IsSized (0x66 ∷ (rex_if w r b ++ xs))
behind_word w r b xs k =
    let short = rex_short w r b in
    record { some = omega (arith, length-append (rex_if w r b) xs); few = omega (arith, length-append (rex_if w r b) xs) }

-- a register and a place in memory
place_short : (x : Reg) (m : Mem) → length (memory x m) ≤ 6
place_short x m =
    let index = index_short m.base in
    omega (arith, length-append (index_of m.base) (number32 m.disp))

-- a REX byte, an opcode byte, a register and a place in memory
long_place : (a b : ℕ) (x : Reg) (m : Mem) → IsSized (a ∷ b ∷ memory x m)
long_place a b x m =
    let place = place_short x m in
    record { some = omega arith; few = omega arith }

pub encoding_sized : (i : Instr) → IsSized (encoding i)
encoding_sized (Mov w d s) = behind (is_wide w) (extended s) (extended d) (0x89 ∷ registers s d ∷ []) (lit≤ tt) (lit≤ tt)
encoding_sized (MovImm64 d n) = record { some = lit≤ tt; few = lit≤ tt }
encoding_sized (MovImm32 d n) = behind false false (extended d) ((0xB8 + low3 d) ∷ le_bytes 4 n) (lit≤ tt) (lit≤ tt)
encoding_sized (Alu op w d s) = behind (is_wide w) (extended s) (extended d) (alu_opcode op ∷ registers s d ∷ []) (lit≤ tt) (lit≤ tt)
encoding_sized (AluImm op w d n) = behind (is_wide w) false (extended d) (0x81 ∷ digit (imm_digit op) d ∷ number32 n) (lit≤ tt) (lit≤ tt)
encoding_sized (Imul w d s) = behind (is_wide w) (extended d) (extended s) (0x0F ∷ 0xAF ∷ registers d s ∷ []) (lit≤ tt) (lit≤ tt)
encoding_sized (Shift op w d) = behind (is_wide w) false (extended d) (0xD3 ∷ digit (shift_digit op) d ∷ []) (lit≤ tt) (lit≤ tt)
encoding_sized (Div signed Size.W8 s) = record { some = lit≤ tt; few = lit≤ tt }
encoding_sized (Div signed Size.W16 s) = behind_word false false (extended s) (0xF7 ∷ digit (div_digit signed) s ∷ []) (lit≤ tt)
encoding_sized (Div signed Size.W32 s) = behind false false (extended s) (0xF7 ∷ digit (div_digit signed) s ∷ []) (lit≤ tt) (lit≤ tt)
encoding_sized (Div signed Size.W64 s) = record { some = lit≤ tt; few = lit≤ tt }
encoding_sized (High HighSize.W16) = record { some = lit≤ tt; few = lit≤ tt }
encoding_sized (High size) = record { some = lit≤ tt; few = lit≤ tt }
encoding_sized (Widen WidenKind.Zero8 d s) = record { some = lit≤ tt; few = lit≤ tt }
encoding_sized (Widen WidenKind.Zero16 d s) = behind false (extended d) (extended s) (0x0F ∷ 0xB7 ∷ registers d s ∷ []) (lit≤ tt) (lit≤ tt)
encoding_sized (Widen kind d s) = record { some = lit≤ tt; few = lit≤ tt }
encoding_sized (Load Size.W64 d m) = long_place _ 0x8B d m
encoding_sized (Load Size.W32 d m) = let p = place_short d m in behind false (extended d) (extended m.base) (0x8B ∷ memory d m) (omega arith) (omega arith)
encoding_sized (Load Size.W16 d m) = let p = place_short d m in behind false (extended d) (extended m.base) (0x0F ∷ 0xB7 ∷ memory d m) (omega arith) (omega arith)
encoding_sized (Load Size.W8 d m) = let p = place_short d m in behind false (extended d) (extended m.base) (0x0F ∷ 0xB6 ∷ memory d m) (omega arith) (omega arith)
encoding_sized (Store Size.W64 m s) = long_place _ 0x89 s m
encoding_sized (Store Size.W32 m s) = let p = place_short s m in behind false (extended s) (extended m.base) (0x89 ∷ memory s m) (omega arith) (omega arith)
encoding_sized (Store Size.W16 m s) = let p = place_short s m in behind_word false (extended s) (extended m.base) (0x89 ∷ memory s m) (omega arith)
encoding_sized (Store Size.W8 m s) = long_place _ 0x88 s m
encoding_sized (Lea d m) = long_place _ 0x8D d m
encoding_sized (Push r) = behind false false (extended r) ((0x50 + low3 r) ∷ []) (lit≤ tt) (lit≤ tt)
encoding_sized (Pop r) = behind false false (extended r) ((0x58 + low3 r) ∷ []) (lit≤ tt) (lit≤ tt)
encoding_sized i = record { some = lit≤ tt; few = lit≤ tt }

pub some_bytes : (i : Instr) → 1 ≤ length (encoding i)
some_bytes i = (encoding_sized i).some

pub few_bytes : (i : Instr) → length (encoding i) ≤ 10
few_bytes i = (encoding_sized i).few
