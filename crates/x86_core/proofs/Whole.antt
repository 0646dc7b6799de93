-- The whole decoding is right: rows by opcodes, prefixes, bytes.
use Rattle.std.proofs.Common.{◌≡◌, ℕ, ◌+◌, ◌/◌, ◌%◌, ◌<◌, Bool, true, false, List, [], ◌∷◌, ◌++◌, length, Option, Some, None, refl, sym, ◌∙◌, ap, subst, append_assoc, arith}
use Rattle.std.specs.Prelude.{not, ◌&&◌, ◌||◌, nat_eq, if◌then◌else◌}
use Rattle.std.proofs.lemmas.Bool.{eqb-true}
use Rattle.std.proofs.lemmas.List.{append-nil}
use Rattle.rd_num.specs.Number.{le_bytes}
use Rattle.x86_core.specs.declared.reg.Reg.{Reg}
use Rattle.x86_core.specs.declared.instr.HighSize.{HighSize}
use Rattle.x86_core.specs.declared.instr.AluOp.{AluOp}
use Rattle.x86_core.specs.declared.instr.WidenKind.{WidenKind}
use Rattle.x86_core.specs.declared.instr.Cond.{Cond}
use Rattle.x86_core.specs.declared.instr.Instr.{Instr}
use Rattle.x86_core.specs.declared.instr.Instr.TheVariants.{MovImm64, MovImm32, High, Push, Pop, Jcc, Jmp, Call, Ret, CallR11, JmpR11, Syscall, Ud2, Int3, Nop}
use Rattle.x86_core.specs.declared.instr.Decoded.{Decoded}
use Rattle.x86_core.specs.declared.instr.Decoded.TheVariants.{One, Short, Unknown}
use Rattle.x86_core.specs.declared.instr.Prefix.{Prefix}
use Rattle.x86_core.specs.declared.instr.Prefix.TheVariants.{Plain, Rex, Word}
use Rattle.x86_core.specs.Encoding.{encoding, IsInstr, IsCut, rex, rex_if, extended, number32}
use Rattle.x86_core.specs.Decoding
use Rattle.x86_core.specs.Decoding.{wide_bit, reg_bit, rm_bit, prefix_size, is_plain, is_free, is_sized, is_narrow, is_long, is_byte, is_usual, reg_at, cond_at, first4, first8, taken, with_number, by_mode, is_rex, rex_of, opcode, opcode_rows, decode}
use Rattle.x86_core.proofs.Parts.{HasBits, reg_at_bits, CondHas, cond_at_code, rex_back}
use Rattle.x86_core.proofs.Good.{Good, Says, good_unknown, good_if, good_where, good_byte, good_front, good_next, good_one, cut_of, good_taken4, good_taken8, good_number, good_mode}
use Rattle.x86_core.proofs.Rows

-- 50 to 57
push_good : (p : Prefix) (n : ℕ) → n < 8 → Good (Rows.spelled p ++ (0x50 + n) ∷ []) (λ bs. Decoding.push_row p n)
push_good p n h =
    good_where _ (is_narrow p && not (reg_bit p)) (λ bs. One (Push (reg_at (rm_bit p) n)) (prefix_size p + 1))
    (λ t. row (Rows.left_true (is_narrow p) (not (reg_bit p)) t) (Rows.not_true (reg_bit p) (Rows.right_true (is_narrow p) (not (reg_bit p)) t))) where
      row : is_narrow p ≡ true → reg_bit p ≡ false → Good (Rows.spelled p ++ (0x50 + n) ∷ []) (λ bs. One (Push (reg_at (rm_bit p) n)) (prefix_size p + 1))
      row e none =
          let r : HasBits (reg_at (rm_bit p) n) (rm_bit p) n = reg_at_bits (rm_bit p) n h in
          good_one _ (Push (reg_at (rm_bit p) n)) (prefix_size p + 1) tt
          (ap (λ (k : ℕ). rex_if false false (extended (reg_at (rm_bit p) n)) ++ ((0x50 + k) ∷ [])) r.below ∙ ap (λ (xs : List ℕ). xs ++ ((0x50 + n) ∷ [])) (Rows.narrow_front p false _ (sym none) r.above e))
          (Rows.sized_front p ((0x50 + n) ∷ []) 1 refl)

-- 58 to 5F
pop_good : (p : Prefix) (n : ℕ) → n < 8 → Good (Rows.spelled p ++ (0x58 + n) ∷ []) (λ bs. Decoding.pop_row p n)
pop_good p n h =
    good_where _ (is_narrow p && not (reg_bit p)) (λ bs. One (Pop (reg_at (rm_bit p) n)) (prefix_size p + 1))
    (λ t. row (Rows.left_true (is_narrow p) (not (reg_bit p)) t) (Rows.not_true (reg_bit p) (Rows.right_true (is_narrow p) (not (reg_bit p)) t))) where
      row : is_narrow p ≡ true → reg_bit p ≡ false → Good (Rows.spelled p ++ (0x58 + n) ∷ []) (λ bs. One (Pop (reg_at (rm_bit p) n)) (prefix_size p + 1))
      row e none =
          let r : HasBits (reg_at (rm_bit p) n) (rm_bit p) n = reg_at_bits (rm_bit p) n h in
          good_one _ (Pop (reg_at (rm_bit p) n)) (prefix_size p + 1) tt
          (ap (λ (k : ℕ). rex_if false false (extended (reg_at (rm_bit p) n)) ++ ((0x58 + k) ∷ [])) r.below ∙ ap (λ (xs : List ℕ). xs ++ ((0x58 + n) ∷ [])) (Rows.narrow_front p false _ (sym none) r.above e))
          (Rows.sized_front p ((0x58 + n) ∷ []) 1 refl)

-- B8 to BF
module _ (p : Prefix) (n : ℕ) (h : n < 8) where
  abbrev front : List ℕ
  front = Rows.spelled p ++ (0xB8 + n) ∷ []

  abbrev d : Reg
  d = reg_at (rm_bit p) n

  bits : HasBits d (rm_bit p) n
  bits = reg_at_bits (rm_bit p) n h

  long : reg_bit p ≡ false → is_long p ≡ true → Good front (λ bs. taken (MovImm64 d) 10 (first8 bs))
  long none e =
      good_taken8 front (MovImm64 d) 10
      (λ k small. record { is_instr = small; bytes = ap (λ (j : ℕ). (rex true false (extended d) ∷ []) ++ (((0xB8 + j) ∷ []) ++ le_bytes 8 k)) bits.below ∙ Rows.fronted (rex true false (extended d) ∷ []) (Rows.spelled p) ((0xB8 + n) ∷ []) (le_bytes 8 k) (Rows.long_front p false _ (sym none) bits.above e) })
      (let s = Rows.sized_front p ((0xB8 + n) ∷ []) 1 refl in let one = Rows.long_size p e in omega arith)

  narrow : reg_bit p ≡ false → is_narrow p ≡ true → Good front (λ bs. taken (MovImm32 d) (prefix_size p + 5) (first4 bs))
  narrow none e =
      good_taken4 front (MovImm32 d) (prefix_size p + 5)
      (λ k small. record { is_instr = small; bytes = ap (λ (j : ℕ). rex_if false false (extended d) ++ (((0xB8 + j) ∷ []) ++ le_bytes 4 k)) bits.below ∙ Rows.fronted (rex_if false false (extended d)) (Rows.spelled p) ((0xB8 + n) ∷ []) (le_bytes 4 k) (Rows.narrow_front p false _ (sym none) bits.above e) })
      (let s = Rows.sized_front p ((0xB8 + n) ∷ []) 1 refl in omega arith)

  constant_good : Good front (Decoding.constant_row p n)
  constant_good =
      good_if front (reg_bit p) (λ bs. Unknown) (Decoding.constants p d) (λ e. good_unknown front)
      (λ none. good_if front (is_long p) (λ bs. taken (MovImm64 d) 10 (first8 bs)) (λ bs. if is_narrow p then taken (MovImm32 d) (prefix_size p + 5) (first4 bs) else Unknown)
      (λ e. long none e) (λ e. good_where front (is_narrow p) (λ bs. taken (MovImm32 d) (prefix_size p + 5) (first4 bs)) (λ e2. narrow none e2)))

-- 99
high_good : (p : Prefix) → Good (Rows.spelled p ++ 0x99 ∷ []) (λ bs. Decoding.high_row p)
high_good Plain = good_one (0x99 ∷ []) (High HighSize.W32) 1 tt refl refl
high_good (Rex true false false) = good_one (0x48 ∷ 0x99 ∷ []) (High HighSize.W64) 2 tt refl refl
high_good (Rex true true b) = good_unknown _
high_good (Rex true false true) = good_unknown _
high_good (Rex false r b) = good_unknown _
high_good (Word false false) = good_one (0x66 ∷ 0x99 ∷ []) (High HighSize.W16) 2 tt refl refl
high_good (Word true b) = good_unknown _
high_good (Word false true) = good_unknown _

-- a row with no prefix and no operand
bare_good : (i : Instr) (op : List ℕ) (n : ℕ) (p : Prefix) → IsInstr i → encoding i ≡ op → n ≡ length op → Good (Rows.spelled p ++ op) (λ bs. Decoding.bare_row i n p)
bare_good i op n Plain h e k = good_one op i n h e k
bare_good i op n (Rex w r b) h e k = good_unknown _
bare_good i op n (Word r b) h e k = good_unknown _

-- E8 and E9
call_good : (p : Prefix) → Good (Rows.spelled p ++ 0xE8 ∷ []) (Decoding.branch_row Call p)
call_good Plain = good_number (0xE8 ∷ []) Call 5 (λ d h. record { is_instr = h; bytes = refl }) refl
call_good (Rex w r b) = good_unknown _
call_good (Word r b) = good_unknown _

jmp_good : (p : Prefix) → Good (Rows.spelled p ++ 0xE9 ∷ []) (Decoding.branch_row Jmp p)
jmp_good Plain = good_number (0xE9 ∷ []) Jmp 5 (λ d h. record { is_instr = h; bytes = refl }) refl
jmp_good (Rex w r b) = good_unknown _
jmp_good (Word r b) = good_unknown _

-- 0F 80 to 0F 8F
jcc_good : (o : Option Cond) (n : ℕ) (p : Prefix) → CondHas n o → Good (Rows.spelled p ++ (0x0F ∷ (0x80 + n) ∷ [])) (Decoding.jcc_row o p)
jcc_good None n p h = good_unknown _
jcc_good (Some c) n Plain h =
    good_number (0x0F ∷ (0x80 + n) ∷ []) (Jcc c) 6 (λ d real. record { is_instr = real; bytes = ap (λ (k : ℕ). 0x0F ∷ (0x80 + k) ∷ number32 d) h }) refl
jcc_good (Some c) n (Rex w r b) h = good_unknown _
jcc_good (Some c) n (Word r b) h = good_unknown _

-- FF
word_good : Good (0x41 ∷ 0xFF ∷ []) Decoding.word_row
word_good =
    good_next (0x41 ∷ 0xFF ∷ []) Decoding.word_row (λ b bs. if nat_eq b 0xD3 then One CallR11 3 else (if nat_eq b 0xE3 then One JmpR11 3 else Unknown))
    refl (λ b bs. refl) (cut_of (0x41 ∷ 0xFF ∷ []) CallR11 0xD3 [] tt refl)
    (λ b. good_byte (0x41 ∷ 0xFF ∷ []) b 0xD3 (λ bs. One CallR11 3) (λ bs. if nat_eq b 0xE3 then One JmpR11 3 else Unknown) (good_one _ CallR11 3 tt refl refl)
    (good_byte (0x41 ∷ 0xFF ∷ []) b 0xE3 (λ bs. One JmpR11 3) (λ bs. Unknown) (good_one _ JmpR11 3 tt refl refl) (good_unknown _)))

r11_good : (p : Prefix) → Good (Rows.spelled p ++ 0xFF ∷ []) (Decoding.r11_row p)
r11_good Plain = good_unknown _
r11_good (Rex false false true) = word_good
r11_good (Rex true r true) = good_unknown _
r11_good (Rex false true true) = good_unknown _
r11_good (Rex w r false) = good_unknown _
r11_good (Word r b) = good_unknown _

-- a front that is cut, by an answer at no more bytes
cut_from : (front : List ℕ) (f : List ℕ → Decoded) → f [] ≡ Short → Good front f → IsCut front
cut_from front f e good = subst IsCut (append-nil front) (subst (λ (d : Decoded). Says (front ++ []) d) e (good.says [] tt))

-- fewer bytes are cut too
cut_less : (xs : List ℕ) (b : ℕ) (bs : List ℕ) → IsCut (xs ++ (b ∷ bs)) → IsCut xs
cut_less xs b bs c = record { whole = c.whole; is_instr = c.is_instr; next = b; more = bs ++ (c.next ∷ c.more); goes_on = c.goes_on ∙ append_assoc xs (b ∷ bs) (c.next ∷ c.more) }

-- a byte that is known
at_byte : (front : List ℕ) (b k : ℕ) (f : List ℕ → Decoded) → k ≡ b → Good (front ++ k ∷ []) f → Good (front ++ b ∷ []) f
at_byte front b k f e h = subst (λ (x : ℕ). Good (front ++ x ∷ []) f) e h

-- two bytes behind a front
two_bytes : (xs : List ℕ) (a b : ℕ) (f : List ℕ → Decoded) → Good (xs ++ (a ∷ b ∷ [])) f → Good ((xs ++ a ∷ []) ++ b ∷ []) f
two_bytes xs a b f h = good_front (xs ++ (a ∷ b ∷ [])) ((xs ++ a ∷ []) ++ b ∷ []) f (sym (append_assoc xs (a ∷ []) (b ∷ []))) h

-- 89
move_cut : (p : Prefix) → is_sized p ≡ true → IsCut (Rows.spelled p ++ 0x89 ∷ [])
move_cut Plain e = cut_from _ (Decoding.move_row Plain) refl (Rows.move_good Plain)
move_cut (Rex true r b) e = cut_from _ (Decoding.move_row (Rex true r b)) refl (Rows.move_good (Rex true r b))
move_cut (Rex false true b) e = cut_from _ (Decoding.move_row (Rex false true b)) refl (Rows.move_good (Rex false true b))
move_cut (Rex false false true) e = cut_from _ (Decoding.move_row (Rex false false true)) refl (Rows.move_good (Rex false false true))
move_cut (Rex false false false) e = absurd (cc)
move_cut (Word r b) e = cut_from _ (Decoding.store_row (Word r b)) refl (Rows.store_good (Word r b))

move_rows_good : (p : Prefix) → Good (Rows.spelled p ++ 0x89 ∷ []) (Decoding.move_rows p)
move_rows_good p =
    good_where _ (is_sized p) (by_mode (Decoding.move_row p) (Decoding.store_row p))
    (λ e. good_mode _ (Decoding.move_row p) (Decoding.store_row p) (move_cut p e) (Rows.move_good p) (Rows.store_good p))

-- 0F B6
widen_byte_cut : (p : Prefix) → is_byte p || is_plain p ≡ true → IsCut (Rows.spelled p ++ (0x0F ∷ 0xB6 ∷ []))
widen_byte_cut Plain e = cut_from _ (Decoding.load_byte_row Plain) refl (Rows.load_byte_good Plain)
widen_byte_cut (Rex true r b) e = absurd (cc)
widen_byte_cut (Rex false r b) e = cut_from _ (Decoding.widen_byte_row (Rex false r b)) refl (Rows.widen_byte_good (Rex false r b))
widen_byte_cut (Word r b) e = absurd (cc)

widen_byte_rows_good : (p : Prefix) → Good (Rows.spelled p ++ (0x0F ∷ 0xB6 ∷ [])) (Decoding.widen_byte_rows p)
widen_byte_rows_good p =
    good_where _ (is_byte p || is_plain p) (by_mode (Decoding.widen_byte_row p) (Decoding.load_byte_row p))
    (λ e. good_mode _ (Decoding.widen_byte_row p) (Decoding.load_byte_row p) (widen_byte_cut p e) (Rows.widen_byte_good p) (Rows.load_byte_good p))

-- 0F B7
widen_word_rows_good : (p : Prefix) → Good (Rows.spelled p ++ (0x0F ∷ 0xB7 ∷ [])) (Decoding.widen_word_rows p)
widen_word_rows_good p =
    good_where _ (is_narrow p) (by_mode (Decoding.widen_word_row p) (Decoding.load_word_row p))
    (λ e. good_mode _ (Decoding.widen_word_row p) (Decoding.load_word_row p) (cut_from _ (Decoding.widen_word_row p) refl (Rows.widen_word_good p e)) (Rows.widen_word_good p e) (Rows.load_word_good p e))

-- the rows behind 0F
module _ (p : Prefix) where
  abbrev behind : List ℕ
  behind = Rows.spelled p ++ 0x0F ∷ []

  widen_rows_good : (b : ℕ) → Good (behind ++ b ∷ []) (Decoding.widen_rows p b)
  widen_rows_good b =
      good_byte behind b 0xAF (Decoding.imul_row p) _ (two_bytes (Rows.spelled p) 0x0F 0xAF _ (Rows.imul_good p))
      (good_byte behind b 0xB6 (Decoding.widen_byte_rows p) _ (two_bytes (Rows.spelled p) 0x0F 0xB6 _ (widen_byte_rows_good p))
      (good_byte behind b 0xB7 (Decoding.widen_word_rows p) _ (two_bytes (Rows.spelled p) 0x0F 0xB7 _ (widen_word_rows_good p))
      (good_byte behind b 0xBE (Decoding.widen_sign_row WidenKind.Sign8 p) _ (two_bytes (Rows.spelled p) 0x0F 0xBE _ (Rows.widen_sign8_good p))
      (good_byte behind b 0xBF (Decoding.widen_sign_row WidenKind.Sign16 p) (λ bs. Unknown) (two_bytes (Rows.spelled p) 0x0F 0xBF _ (Rows.widen_sign16_good p))
      (good_unknown _)))))

  abbrev code_at : ℕ → Option Cond
  code_at b = cond_at (b % 16)

  has_code : (b : ℕ) → CondHas (b % 16) (code_at b)
  has_code b = cond_at_code (b % 16) (omega arith)

  cmov_at : (b : ℕ) → nat_eq (b / 16) 4 ≡ true → Good (behind ++ b ∷ []) (Decoding.cmov_row (code_at b) p)
  cmov_at b e =
      let four : b / 16 ≡ 4 = eqb-true (b / 16) 4 e in
      at_byte behind b (0x40 + b % 16) _ (omega arith) (two_bytes (Rows.spelled p) 0x0F (0x40 + b % 16) _ (Rows.cmov_good (code_at b) (b % 16) p (has_code b)))

  jcc_at : (b : ℕ) → nat_eq (b / 16) 8 ≡ true → Good (behind ++ b ∷ []) (Decoding.jcc_row (code_at b) p)
  jcc_at b e =
      let eight : b / 16 ≡ 8 = eqb-true (b / 16) 8 e in
      at_byte behind b (0x80 + b % 16) _ (omega arith) (two_bytes (Rows.spelled p) 0x0F (0x80 + b % 16) _ (jcc_good (code_at b) (b % 16) p (has_code b)))

  set_at : (b : ℕ) → nat_eq (b / 16) 9 ≡ true → Good (behind ++ b ∷ []) (Decoding.set_row (code_at b) p)
  set_at b e =
      let nine : b / 16 ≡ 9 = eqb-true (b / 16) 9 e in
      at_byte behind b (0x90 + b % 16) _ (omega arith) (two_bytes (Rows.spelled p) 0x0F (0x90 + b % 16) _ (Rows.set_good (code_at b) (b % 16) p (has_code b)))

  second_rows_good : (b : ℕ) → Good (behind ++ b ∷ []) (Decoding.second_rows p b)
  second_rows_good b =
      good_byte behind b 0x05 (λ bs. Decoding.bare_row Syscall 2 p) _ (two_bytes (Rows.spelled p) 0x0F 0x05 _ (bare_good Syscall (0x0F ∷ 0x05 ∷ []) 2 p tt refl refl))
      (good_byte behind b 0x0B (λ bs. Decoding.bare_row Ud2 2 p) _ (two_bytes (Rows.spelled p) 0x0F 0x0B _ (bare_good Ud2 (0x0F ∷ 0x0B ∷ []) 2 p tt refl refl))
      (good_if (behind ++ b ∷ []) (nat_eq (b / 16) 4) (Decoding.cmov_row (code_at b) p) _ (cmov_at b)
      (λ e4. good_if (behind ++ b ∷ []) (nat_eq (b / 16) 8) (Decoding.jcc_row (code_at b) p) _ (jcc_at b)
      (λ e8. good_if (behind ++ b ∷ []) (nat_eq (b / 16) 9) (Decoding.set_row (code_at b) p) _ (set_at b)
      (λ e9. widen_rows_good b)))))

-- 0F
second_cut : (p : Prefix) → is_usual p ≡ true → IsCut (Rows.spelled p ++ 0x0F ∷ [])
second_cut Plain e = cut_of (0x0F ∷ []) Syscall 0x05 [] tt refl
second_cut (Rex true r b) e = cut_less (rex true r b ∷ 0x0F ∷ []) 0xBE [] (cut_from _ (Decoding.widen_sign_row WidenKind.Sign8 (Rex true r b)) refl (Rows.widen_sign8_good (Rex true r b)))
second_cut (Rex false r b) e = cut_less (rex false r b ∷ 0x0F ∷ []) 0xB6 [] (cut_from _ (Decoding.widen_byte_row (Rex false r b)) refl (Rows.widen_byte_good (Rex false r b)))
second_cut (Word r b) e = absurd (cc)

usual_second : (p : Prefix) → is_usual p ≡ true → Good (Rows.spelled p ++ 0x0F ∷ []) (Decoding.second p)
usual_second Plain e = good_next (0x0F ∷ []) (Decoding.second Plain) (Decoding.second_rows Plain) refl (λ b bs. refl) (second_cut Plain refl) (second_rows_good Plain)
usual_second (Rex w r b) e = good_next (rex w r b ∷ 0x0F ∷ []) (Decoding.second (Rex w r b)) (Decoding.second_rows (Rex w r b)) refl (λ c bs. refl) (second_cut (Rex w r b) refl) (second_rows_good (Rex w r b))
usual_second (Word r b) e = absurd (cc)

second_good : (p : Prefix) → Good (Rows.spelled p ++ 0x0F ∷ []) (Decoding.second p)
second_good Plain = usual_second Plain refl
second_good (Rex w r b) = usual_second (Rex w r b) refl
second_good (Word r b) = record { says = λ bs h. says bs; stays = stays } where
  says : (bs : List ℕ) → Says ((Rows.spelled (Word r b) ++ 0x0F ∷ []) ++ bs) (Decoding.second (Word r b) bs)
  says [] = tt
  says (c ∷ bs) = tt

  stays : (bs more : List ℕ) → Decoding.second (Word r b) bs ≡ Unknown → Decoding.second (Word r b) (bs ++ more) ≡ Unknown
  stays [] [] e = refl
  stays [] (c ∷ more) e = refl
  stays (c ∷ bs) more e = refl

-- the rows of one opcode
module _ (p : Prefix) where
  abbrev before : List ℕ
  before = Rows.spelled p

  bare_rows_good : (b : ℕ) → Good (before ++ b ∷ []) (Decoding.bare_rows p b)
  bare_rows_good b =
      good_byte before b 0xE8 (Decoding.branch_row Call p) _ (call_good p)
      (good_byte before b 0xE9 (Decoding.branch_row Jmp p) _ (jmp_good p)
      (good_byte before b 0xC3 (λ bs. Decoding.bare_row Ret 1 p) _ (bare_good Ret (0xC3 ∷ []) 1 p tt refl refl)
      (good_byte before b 0xCC (λ bs. Decoding.bare_row Int3 1 p) _ (bare_good Int3 (0xCC ∷ []) 1 p tt refl refl)
      (good_byte before b 0x90 (λ bs. Decoding.bare_row Nop 1 p) _ (bare_good Nop (0x90 ∷ []) 1 p tt refl refl)
      (good_byte before b 0xFF (Decoding.r11_row p) _ (r11_good p)
      (good_byte before b 0x99 (λ bs. Decoding.high_row p) (λ bs. Unknown) (high_good p) (good_unknown _)))))))

  push_at : (b : ℕ) → nat_eq (b / 8) 10 ≡ true → Good (before ++ b ∷ []) (λ bs. Decoding.push_row p (b % 8))
  push_at b e =
      let ten : b / 8 ≡ 10 = eqb-true (b / 8) 10 e in
      at_byte before b (0x50 + b % 8) _ (omega arith) (push_good p (b % 8) (omega arith))

  pop_at : (b : ℕ) → nat_eq (b / 8) 11 ≡ true → Good (before ++ b ∷ []) (λ bs. Decoding.pop_row p (b % 8))
  pop_at b e =
      let eleven : b / 8 ≡ 11 = eqb-true (b / 8) 11 e in
      at_byte before b (0x58 + b % 8) _ (omega arith) (pop_good p (b % 8) (omega arith))

  constant_at : (b : ℕ) → nat_eq (b / 8) 23 ≡ true → Good (before ++ b ∷ []) (Decoding.constant_row p (b % 8))
  constant_at b e =
      let which : b / 8 ≡ 23 = eqb-true (b / 8) 23 e in
      at_byte before b (0xB8 + b % 8) _ (omega arith) (constant_good p (b % 8) (omega arith))

  register_rows_good : (b : ℕ) → Good (before ++ b ∷ []) (Decoding.register_rows p b)
  register_rows_good b =
      good_if (before ++ b ∷ []) (nat_eq (b / 8) 10) (λ bs. Decoding.push_row p (b % 8)) _ (push_at b)
      (λ e10. good_if (before ++ b ∷ []) (nat_eq (b / 8) 11) (λ bs. Decoding.pop_row p (b % 8)) _ (pop_at b)
      (λ e11. good_if (before ++ b ∷ []) (nat_eq (b / 8) 23) (Decoding.constant_row p (b % 8)) _ (constant_at b)
      (λ e23. bare_rows_good b)))

  digit_rows_good : (b : ℕ) → Good (before ++ b ∷ []) (Decoding.digit_rows p b)
  digit_rows_good b =
      good_byte before b 0x81 (Decoding.alu_imm_row p) _ (Rows.alu_imm_row_good p)
      (good_byte before b 0xD3 (Decoding.shift_row p) _ (Rows.shift_row_good p)
      (good_byte before b 0xF6 (Decoding.byte_division_row p) _ (Rows.byte_division_row_good p)
      (good_byte before b 0xF7 (Decoding.division_row p) _ (Rows.division_row_good p) (register_rows_good b))))

  moving_rows_good : (b : ℕ) → Good (before ++ b ∷ []) (Decoding.moving_rows p b)
  moving_rows_good b =
      good_byte before b 0x89 (Decoding.move_rows p) _ (move_rows_good p)
      (good_byte before b 0x8B (Decoding.load_row p) _ (Rows.load_good p)
      (good_byte before b 0x88 (Decoding.store_byte_row p) _ (Rows.store_byte_good p)
      (good_byte before b 0x8D (Decoding.lea_row p) _ (Rows.lea_good p)
      (good_byte before b 0x63 (Decoding.widen_long_row p) _ (Rows.widen_long_good p) (digit_rows_good b)))))

  opcode_good : (b : ℕ) → Good (before ++ b ∷ []) (opcode_rows p b)
  opcode_good b =
      good_byte before b 0x0F (Decoding.second p) _ (second_good p)
      (good_byte before b 0x01 (Decoding.alu_row AluOp.Add p) _ (Rows.alu_good AluOp.Add p)
      (good_byte before b 0x09 (Decoding.alu_row AluOp.Or p) _ (Rows.alu_good AluOp.Or p)
      (good_byte before b 0x21 (Decoding.alu_row AluOp.And p) _ (Rows.alu_good AluOp.And p)
      (good_byte before b 0x29 (Decoding.alu_row AluOp.Sub p) _ (Rows.alu_good AluOp.Sub p)
      (good_byte before b 0x31 (Decoding.alu_row AluOp.Xor p) _ (Rows.alu_good AluOp.Xor p)
      (good_byte before b 0x39 (Decoding.alu_row AluOp.Cmp p) _ (Rows.alu_good AluOp.Cmp p)
      (good_byte before b 0x85 (Decoding.alu_row AluOp.Test p) _ (Rows.alu_good AluOp.Test p) (moving_rows_good b))))))))

-- an opcode behind a prefix
prefix_cut : (p : Prefix) → is_plain p ≡ false → IsCut (Rows.spelled p)
prefix_cut Plain e = absurd (cc)
prefix_cut (Rex w r b) e = cut_less (rex w r b ∷ []) 0x0F [] (second_cut (Rex w r b) refl)
prefix_cut (Word r b) e = cut_less (Rows.spelled (Word r b)) 0x89 [] (move_cut (Word r b) refl)

prefixed_good : (p : Prefix) → is_plain p ≡ false → Good (Rows.spelled p) (opcode p)
prefixed_good p e = good_next (Rows.spelled p) (opcode p) (opcode_rows p) refl (λ b bs. refl) (prefix_cut p e) (opcode_good p)

-- a REX byte behind 66
after_good : (w r b : Bool) → Good (0x66 ∷ rex w r b ∷ []) (Decoding.after_word (Rex w r b))
after_good true r b = good_unknown _
after_good false true b = prefixed_good (Word true b) refl
after_good false false true = prefixed_good (Word false true) refl
after_good false false false = good_unknown _

word_prefixed_good : Good (0x66 ∷ []) Decoding.word_prefixed
word_prefixed_good =
    good_next (0x66 ∷ []) Decoding.word_prefixed (λ b bs. if is_rex b then Decoding.after_word (rex_of b) bs else opcode_rows (Word false false) b bs)
    refl (λ b bs. refl) (cut_of (0x66 ∷ []) (High HighSize.W16) 0x99 [] tt refl)
    (λ b. good_if (0x66 ∷ b ∷ []) (is_rex b) (Decoding.after_word (rex_of b)) (opcode_rows (Word false false) b) (rexed b) (λ e. opcode_good (Word false false) b)) where
      rexed : (b : ℕ) → is_rex b ≡ true → Good (0x66 ∷ b ∷ []) (Decoding.after_word (rex_of b))
      rexed b e = subst (λ (x : ℕ). Good (0x66 ∷ x ∷ []) (Decoding.after_word (rex_of b))) (rex_back b e) (after_good (nat_eq (b / 8 % 2) 1) (nat_eq (b / 4 % 2) 1) (nat_eq (b % 2) 1))

-- all bytes
pub decode_good : Good [] decode
unfolding decode
decode_good =
    good_next [] decode (λ b bs. if nat_eq b 0x66 then Decoding.word_prefixed bs else (if is_rex b then opcode (rex_of b) bs else opcode_rows Plain b bs))
    refl (λ b bs. refl) (cut_of [] Nop 0x90 [] tt refl)
    (λ b. good_byte [] b 0x66 Decoding.word_prefixed (λ bs. if is_rex b then opcode (rex_of b) bs else opcode_rows Plain b bs) word_prefixed_good
    (good_if (b ∷ []) (is_rex b) (opcode (rex_of b)) (opcode_rows Plain b) (rexed b) (λ e. opcode_good Plain b))) where
      rexed : (b : ℕ) → is_rex b ≡ true → Good (b ∷ []) (opcode (rex_of b))
      rexed b e = subst (λ (x : ℕ). Good (x ∷ []) (opcode (rex_of b))) (rex_back b e) (prefixed_good (rex_of b) refl)
