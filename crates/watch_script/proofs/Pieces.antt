-- The lines of bytes, page by page: those of zeros are none, and those of a page are those of the whole at its place.
use Rattle.std.proofs.Common.{◌≡◌, ℕ, ◌+◌, ◌-◌, ◌*◌, ◌/◌, ◌%◌, ◌^◌, ◌≤◌, zero, suc, Bool, true, List, [], ◌∷◌, ◌++◌, length, take, drop, refl, sym, ap, ◌∙◌, arith, if◌then◌else◌, append_assoc, length-take}
use Rattle.std.specs.Prelude.{replicate}
use Rattle.std.proofs.Math.Nat.{mod-add-mod}
use Rattle.std.proofs.lemmas.List.{append-nil, drop-take, take-take, drop-drop, drop_all, take_all}
use Rattle.xom_memory.specs.Access.{page_in}
use Rattle.xom_memory.specs.Pages.{zeros}
use Rattle.xom_memory.proofs.Laid.{zeros_part}
use Rattle.watch_script.specs.ShowText.{word_text, is_blank, piece_text, piece_of, pieces_text}
use Rattle.hex.specs.Hex.{encode_lower}

blank_zeros : (n : ℕ) → is_blank (replicate n 0) ≡ true
blank_zeros zero = refl
blank_zeros (suc n) = blank_zeros n

no_line : (at : ℕ) (bytes : List ℕ) → is_blank bytes ≡ true → piece_text at bytes ≡ []
no_line at bytes e = ap (λ (c : Bool). if c then [] else (word_text at ++ 32 ∷ (encode_lower bytes ++ 10 ∷ []))) e

-- a part of the first bytes is a part of all
part_of_front : (bytes : List ℕ) (m k c : ℕ) → k + c ≤ m → take c (drop k (take m bytes)) ≡ take c (drop k bytes)
part_of_front bytes m k c h =
    let e : m ≡ k + (m - k) = omega arith in
    ap (λ n. take c (drop k (take n bytes))) e ∙ ap (take c) (drop-take k (m - k) bytes) ∙ take-take c (m - k) (drop k bytes) (omega arith)

-- zeros at the front have no lines
pub blank_pieces : (start : ℕ) (bytes : List ℕ) (n m : ℕ) → 16 * n ≤ m → take m bytes ≡ zeros m → pieces_text start bytes n ≡ []
blank_pieces start bytes zero m h e = refl
blank_pieces start bytes (suc n) m h e =
    let fits : 16 * n + 16 ≤ m = omega arith in
    let piece : piece_of bytes n ≡ replicate 16 0 = sym (part_of_front bytes m (16 * n) 16 fits) ∙ ap (λ x. take 16 (drop (16 * n) x)) e ∙ zeros_part m (16 * n) 16 fits in
    let none : piece_text ((start + 16 * n) % 2 ^ 64) (piece_of bytes n) ≡ [] = no_line ((start + 16 * n) % 2 ^ 64) (piece_of bytes n) (ap is_blank piece ∙ blank_zeros 16) in
    ap (λ x. x ++ piece_text ((start + 16 * n) % 2 ^ 64) (piece_of bytes n)) (blank_pieces start bytes n m (omega arith) e) ∙ none

-- nothing stands behind the last piece
pieces_past : (start : ℕ) (bytes : List ℕ) (n m : ℕ) → length bytes ≤ 16 * n → pieces_text start bytes (n + m) ≡ pieces_text start bytes n
pieces_past start bytes n zero h = let e : n + 0 ≡ n = omega arith in ap (pieces_text start bytes) e
pieces_past start bytes n (suc m) h =
    let e : n + suc m ≡ suc (n + m) = omega arith in
    let none : drop (16 * (n + m)) bytes ≡ [] = drop_all (16 * (n + m)) bytes (omega arith) in
    ap (pieces_text start bytes) e ∙ ap (λ x. pieces_text start bytes (n + m) ++ piece_text ((start + 16 * (n + m)) % 2 ^ 64) (take 16 x)) none ∙ append-nil (pieces_text start bytes (n + m)) ∙ pieces_past start bytes n m h

pub pieces_same : (start : ℕ) (bytes : List ℕ) (n m : ℕ) → n ≤ m → length bytes ≤ 16 * n → pieces_text start bytes m ≡ pieces_text start bytes n
pieces_same start bytes n m h k = let e : m ≡ n + (m - n) = omega arith in ap (pieces_text start bytes) e ∙ pieces_past start bytes n (m - n) k

-- the pieces of one page behind those of the pages before it
pieces_in_page : (start : ℕ) (bytes : List ℕ) (i j : ℕ) → j ≤ 256 → pieces_text start bytes (256 * i + j) ≡ pieces_text start bytes (256 * i) ++ pieces_text ((start + 4096 * i) % 2 ^ 64) (page_in bytes i) j
pieces_in_page start bytes i zero h = let e : 256 * i + 0 ≡ 256 * i = omega arith in ap (pieces_text start bytes) e ∙ sym (append-nil (pieces_text start bytes (256 * i)))
pieces_in_page start bytes i (suc j) h =
    let e : 256 * i + suc j ≡ suc (256 * i + j) = omega arith in
    let sum : start + 16 * (256 * i + j) ≡ start + 4096 * i + 16 * j = omega arith in
    let at : (start + 16 * (256 * i + j)) % 2 ^ 64 ≡ ((start + 4096 * i) % 2 ^ 64 + 16 * j) % 2 ^ 64 = ap (λ n. n % 2 ^ 64) sum ∙ sym (mod-add-mod (start + 4096 * i) (2 ^ 64) (16 * j)) in
    let skip : 16 * (256 * i + j) ≡ 4096 * i + 16 * j = omega arith in
    let piece : piece_of bytes (256 * i + j) ≡ piece_of (page_in bytes i) j =
    ap (λ n. take 16 (drop n bytes)) skip ∙ ap (take 16) (sym (drop-drop (16 * j) (4096 * i) bytes)) ∙ sym (part_of_front (drop (4096 * i) bytes) 4096 (16 * j) 16 (omega arith)) in
    ap (pieces_text start bytes) e
    ∙ ap (λ x. x ++ piece_text ((start + 16 * (256 * i + j)) % 2 ^ 64) (piece_of bytes (256 * i + j))) (pieces_in_page start bytes i j (omega arith))
    ∙ ap (λ n. (pieces_text start bytes (256 * i) ++ pieces_text ((start + 4096 * i) % 2 ^ 64) (page_in bytes i) j) ++ piece_text n (piece_of bytes (256 * i + j))) at
    ∙ ap (λ x. (pieces_text start bytes (256 * i) ++ pieces_text ((start + 4096 * i) % 2 ^ 64) (page_in bytes i) j) ++ piece_text (((start + 4096 * i) % 2 ^ 64 + 16 * j) % 2 ^ 64) x) piece
    ∙ append_assoc (pieces_text start bytes (256 * i)) (pieces_text ((start + 4096 * i) % 2 ^ 64) (page_in bytes i) j) (piece_text (((start + 4096 * i) % 2 ^ 64 + 16 * j) % 2 ^ 64) (piece_of (page_in bytes i) j))

-- a text from the first page on that isn't zeros alone
pub pages_first : (start : ℕ) (bytes text : List ℕ) (q : ℕ) → take (4096 * q) bytes ≡ zeros (4096 * q) → text ≡ text ++ pieces_text start bytes (256 * q)
pages_first start bytes text q e = sym (ap (λ x. text ++ x) (blank_pieces start bytes (256 * q) (4096 * q) (omega arith) e) ∙ append-nil text)

next_page : (start : ℕ) (bytes : List ℕ) (i : ℕ) → pieces_text start bytes (256 * (i + 1)) ≡ pieces_text start bytes (256 * i) ++ pieces_text ((start + 4096 * i) % 2 ^ 64) (page_in bytes i) 256
next_page start bytes i = let e : 256 * (i + 1) ≡ 256 * i + 256 = omega arith in ap (pieces_text start bytes) e ∙ pieces_in_page start bytes i 256 (omega arith)

-- one page more
pub page_more : (start : ℕ) (bytes page text text1 text2 : List ℕ) (i : ℕ) → page ≡ page_in bytes i →
    text2 ≡ text1 ++ pieces_text ((start + 4096 * i) % 2 ^ 64) page ((length page + 15) / 16) → text1 ≡ text ++ pieces_text start bytes (256 * i) → text2 ≡ text ++ pieces_text start bytes (256 * (i + 1))
page_more start bytes page text text1 text2 i is put before =
    let short : length (page_in bytes i) ≤ 4096 = omega (arith, length-take 4096 (drop (4096 * i) bytes)) in
    let all : pieces_text ((start + 4096 * i) % 2 ^ 64) (page_in bytes i) 256 ≡ pieces_text ((start + 4096 * i) % 2 ^ 64) (page_in bytes i) ((length (page_in bytes i) + 15) / 16) =
    pieces_same ((start + 4096 * i) % 2 ^ 64) (page_in bytes i) ((length (page_in bytes i) + 15) / 16) 256 (omega arith) (omega arith) in
    put ∙ ap (λ x. text1 ++ pieces_text ((start + 4096 * i) % 2 ^ 64) x ((length x + 15) / 16)) is
    ∙ ap (λ x. text1 ++ x) (sym all)
    ∙ ap (λ x. x ++ pieces_text ((start + 4096 * i) % 2 ^ 64) (page_in bytes i) 256) before
    ∙ append_assoc text (pieces_text start bytes (256 * i)) (pieces_text ((start + 4096 * i) % 2 ^ 64) (page_in bytes i) 256)
    ∙ ap (λ x. text ++ x) (sym (next_page start bytes i))

pub page_blank : (start : ℕ) (bytes text text1 text2 : List ℕ) (i : ℕ) → page_in bytes i ≡ zeros 4096 → text2 ≡ text1 → text1 ≡ text ++ pieces_text start bytes (256 * i) → text2 ≡ text ++ pieces_text start bytes (256 * (i + 1))
page_blank start bytes text text1 text2 i is same before =
    let none : pieces_text ((start + 4096 * i) % 2 ^ 64) (page_in bytes i) 256 ≡ [] =
    blank_pieces ((start + 4096 * i) % 2 ^ 64) (page_in bytes i) 256 4096 (omega arith) (take_all 4096 (page_in bytes i) (omega (arith, length-take 4096 (drop (4096 * i) bytes))) ∙ is) in
    same ∙ before ∙ ap (λ x. text ++ x) (sym (append-nil (pieces_text start bytes (256 * i))) ∙ ap (λ x. pieces_text start bytes (256 * i) ++ x) (sym none) ∙ sym (next_page start bytes i))

-- all pages have all pieces
pub pages_all : (start : ℕ) (bytes text text1 : List ℕ) (count : ℕ) → length bytes ≤ 4096 * count → text1 ≡ text ++ pieces_text start bytes (256 * count) → text1 ≡ text ++ pieces_text start bytes ((length bytes + 15) / 16)
pages_all start bytes text text1 count h e = e ∙ ap (λ x. text ++ x) (pieces_same start bytes ((length bytes + 15) / 16) (256 * count) (omega arith) (omega arith))
