-- Initialisers read back at every level that holds them.
use Rattle.std.proofs.Common.{◌≡◌, ℕ, zero, suc, ◌≤◌, ◌^◌, Bool, true, List, [], ◌∷◌, ◌++◌, length, map, refl, sym, ap, ◌∙◌, subst, arith}
use Rattle.std.specs.Prelude.{codes, nat_lt, nat_le, ◌&&◌}
use Rattle.std.specs.List.{list_all}
use Rattle.std.proofs.lemmas.Bool.{and_parts, leb-true}
use denote.Hole.Holds.{Such}
use Rattle.ir_core.specs.declared.ty.Ty.{Ty}
use Rattle.ir_core.specs.declared.operand.Operand.{Operand}
use Rattle.ir_core.specs.declared.init.Init.{Init, fold-Init, ind-Init, roll-Init, fold-roll-Init}
use Rattle.ir_core.specs.declared.init.Init.TheVariants.{Value, Zero, Text, Array, Struct, Packed, rolls-Value, rolls-Zero, rolls-Text, rolls-Array, rolls-Struct, rolls-Packed}
use Rattle.ir_core.specs.declared.init.Init.TheOpen.{Init-F, Elem-F}
use Rattle.ir_core.specs.declared.init.Init.TheBlock.{the_family, member-Init, member-Elem}
use Rattle.ir_core.specs.declared.init.Init.TheFolds.{claims, map-Init, map-Elem}
use Rattle.ir_core.specs.declared.init.Elem.{Elem, fold-Elem, roll-Elem, fold-roll-Elem}
use Rattle.ir_core.specs.declared.limit.TheConstants.{MAX_NESTING}
use Rattle.ir_core.specs.Counts.{deepest}
use Rattle.ir_core.specs.Built.{type_built, value_built, init_built_at, init_depth_at, init_built}
use Rattle.ir_lex.specs.Tokens.{is_run_byte, is_separator, is_mark}
use Rattle.ir_grammar.specs.Grammar.{Grammar}
use Rattle.ir_syntax.specs.Initialisers.{element, simple_init, array_init, struct_init, packed_init, deep_init, init_at, init}
use Rattle.ir_print.specs.Names.{string_text}
use Rattle.ir_print.specs.Types.{braced}
use Rattle.ir_print.specs.Values.{operand_text}
use Rattle.ir_print.specs.Initialisers.{bracketed, init_level, element_level, init_text, element_text}
use Rattle.ir_print.proofs.Derivations.{Reads, Shut, given, loose, value_open, value_shut, word_open, word_shut, left_open, right_open, same_open, same_shut, spaced, read_word, shut_mark, tight}
use Rattle.ir_print.proofs.Rows.{AllRead, listed_none, listed_some, commas-map}
use Rattle.ir_print.proofs.Singles.{at_word, string_reads}
use Rattle.ir_print.proofs.TypesRead.{type_reads}
use Rattle.ir_print.proofs.Operands.{fixed_reads}

-- without elements
value_simple : (v : Operand) → value_built v ≡ true → Reads simple_init (Value v) (operand_text v)
unfolding simple_init
value_simple v h = left_open (value_open (given Value) (fixed_reads v h))

zero_simple : Reads simple_init Zero (codes "zeroinitializer")
unfolding simple_init is_run_byte
zero_simple = right_open (left_open (word_open (given Zero) (read_word (codes "zeroinitializer") refl (at_word (codes "zeroinitializer") tt refl))))

text_simple : (bs : List ℕ) → list_all (λ b. nat_lt b 256) bs ≡ true → Reads simple_init (Text bs) (string_text bs)
unfolding simple_init
text_simple bs h = right_open (right_open (loose (value_shut (given Text) (string_reads bs h))))

simple_at : (n : ℕ) (v : Init) (t : List ℕ) → Reads simple_init v t → Reads (init_at n) v t
unfolding init_at
simple_at zero v t x = x
simple_at (suc n) v t x = left_open x

-- with elements
module _ (g : Grammar Init) where
  array_reads : (es : List Elem) → AllRead (element g) element_text es → Shut (array_init g) (Array es) (bracketed (map element_text es))
  unfolding array_init is_run_byte is_separator is_mark
  array_reads [] all =
      value_shut (word_shut (given Array) (shut_mark 91 (codes "[") refl refl refl)) (listed_none (element g) element_text 93 (codes "]") (shut_mark 93 (codes "]") refl refl refl))
  array_reads (e ∷ es) all =
      same_shut (ap (λ t. codes "[ " ++ ((element_text e ++ t) ++ codes " ]")) (sym (commas-map element_text es)))
      (value_shut (word_shut (given Array) (shut_mark 91 (codes "[ ") refl refl refl))
      (listed_some (element g) element_text 93 (codes " ]") e es all (tight refl (shut_mark 93 (codes " ]") refl refl refl))))

  struct_reads : (es : List Elem) → AllRead (element g) element_text es → Shut (struct_init g) (Struct es) (braced (map element_text es))
  unfolding struct_init is_run_byte is_separator is_mark
  struct_reads [] all =
      value_shut (word_shut (given Struct) (shut_mark 123 (codes "{") refl refl refl)) (listed_none (element g) element_text 125 (codes "}") (shut_mark 125 (codes "}") refl refl refl))
  struct_reads (e ∷ es) all =
      same_shut (ap (λ t. codes "{ " ++ ((element_text e ++ t) ++ codes " }")) (sym (commas-map element_text es)))
      (value_shut (word_shut (given Struct) (shut_mark 123 (codes "{ ") refl refl refl))
      (listed_some (element g) element_text 125 (codes " }") e es all (tight refl (shut_mark 125 (codes " }") refl refl refl))))

  packed_reads : (es : List Elem) → AllRead (element g) element_text es → Shut (packed_init g) (Packed es) (codes "<" ++ braced (map element_text es) ++ codes ">")
  unfolding packed_init is_run_byte is_separator is_mark
  packed_reads [] all =
      word_shut
      (value_shut (word_shut (word_shut (given Packed) (shut_mark 60 (codes "<") refl refl refl)) (shut_mark 123 (codes "{") refl refl refl))
      (listed_none (element g) element_text 125 (codes "}") (shut_mark 125 (codes "}") refl refl refl)))
      (shut_mark 62 (codes ">") refl refl refl)
  packed_reads (e ∷ es) all =
      same_shut (ap (λ t. (codes "<{ " ++ ((element_text e ++ t) ++ codes " }")) ++ codes ">") (sym (commas-map element_text es)))
      (word_shut
      (value_shut (word_shut (word_shut (given Packed) (shut_mark 60 (codes "<") refl refl refl)) (shut_mark 123 (codes "{ ") refl refl refl))
      (listed_some (element g) element_text 125 (codes " }") e es all (tight refl (shut_mark 125 (codes " }") refl refl refl))))
      (shut_mark 62 (codes ">") refl refl refl))

array_at : (n : ℕ) (v : Init) (t : List ℕ) → Shut (array_init (init_at n)) v t → Reads (init_at (suc n)) v t
unfolding init_at deep_init
array_at n v t x = right_open (left_open (loose x))

struct_at : (n : ℕ) (v : Init) (t : List ℕ) → Shut (struct_init (init_at n)) v t → Reads (init_at (suc n)) v t
unfolding init_at deep_init
struct_at n v t x = right_open (right_open (left_open (loose x)))

packed_at : (n : ℕ) (v : Init) (t : List ℕ) → Shut (packed_init (init_at n)) v t → Reads (init_at (suc n)) v t
unfolding init_at deep_init
packed_at n v t x = right_open (right_open (right_open (loose x)))

-- by the folds
abbrev elem_built_at : Elem-F Bool Bool → Bool
elem_built_at e = type_built e.ty && e.init

abbrev elem_depth_at : Elem-F ℕ ℕ → ℕ
elem_depth_at e = e.init

abbrev parts_built : Init → Bool
parts_built = fold-Init Bool Bool init_built_at elem_built_at

abbrev elem_built : Elem → Bool
elem_built = fold-Elem Bool Bool init_built_at elem_built_at

abbrev text_depth : Init → ℕ
text_depth = fold-Init ℕ ℕ init_depth_at elem_depth_at

abbrev elem_depth : Elem → ℕ
elem_depth = fold-Elem ℕ ℕ init_depth_at elem_depth_at

abbrev ReadsInit : Init → Type 0
ReadsInit i = (n : ℕ) → n ≤ 64 → parts_built i ≡ true → text_depth i ≤ n → Reads (init_at n) i (init_text i)

abbrev ReadsElem : Elem → Type 0
ReadsElem e = (n : ℕ) → n ≤ 64 → elem_built e ≡ true → elem_depth e ≤ n → Reads (element (init_at n)) e (element_text e)

-- one within another
abbrev WithinInit : Type 0
WithinInit = Such the_family (claims ReadsInit ReadsElem) member-Init

abbrev WithinElem : Type 0
WithinElem = Such the_family (claims ReadsInit ReadsElem) member-Elem

abbrev inner : List WithinElem → List Elem
inner es = map (λ (e : WithinElem). e.0) es

all_read : (n : ℕ) (es : List WithinElem) → n ≤ 64 → list_all (λ b. b) (map elem_built (inner es)) ≡ true → deepest (map elem_depth (inner es)) ≤ n → AllRead (element (init_at n)) element_text (inner es)
all_read n [] low h d = tt
all_read n (e ∷ es) low h d =
    let parts = and_parts (elem_built e.0) (list_all (λ b. b) (map elem_built (inner es))) h in
    (e.1 n low parts.0 (omega arith), all_read n es low parts.1 (omega arith))

-- one level
abbrev level_out : Init-F WithinInit WithinElem → Init-F Init Elem
level_out y = map-Init WithinInit WithinElem Init Elem (λ e. e.0) (λ e. e.0) y

level_reads : (n : ℕ) (y : Init-F WithinInit WithinElem) → n ≤ 64 → init_built_at (map-Init Init Elem Bool Bool parts_built elem_built (level_out y)) ≡ true → init_depth_at (map-Init Init Elem ℕ ℕ text_depth elem_depth (level_out y)) ≤ n →
    Reads (init_at n) (roll-Init (level_out y)) (init_level (map-Init Init Elem (List ℕ) (List ℕ) init_text element_text (level_out y)))
level_reads n (Init-F.Value v) low h d = subst (λ i. Reads (init_at n) i (operand_text v)) (sym (rolls-Value v)) (simple_at n (Value v) (operand_text v) (value_simple v h))
level_reads n Init-F.Zero low h d = subst (λ i. Reads (init_at n) i (codes "zeroinitializer")) (sym rolls-Zero) (simple_at n Zero (codes "zeroinitializer") zero_simple)
level_reads n (Init-F.Text bs) low h d =
    let parts = and_parts (nat_lt (length bs) (2 ^ 32)) (list_all (λ b. nat_lt b 256) bs) h in
    subst (λ i. Reads (init_at n) i (string_text bs)) (sym (rolls-Text bs)) (simple_at n (Text bs) (string_text bs) (text_simple bs parts.1))
level_reads zero (Init-F.Array es) low h d = absurd (omega arith)
level_reads (suc n) (Init-F.Array es) low h d =
    let parts = and_parts (nat_lt (length (map elem_built (inner es))) (2 ^ 32)) (list_all (λ b. b) (map elem_built (inner es))) h in
    let t : List ℕ = bracketed (map element_text (inner es)) in
    subst (λ v. Reads (init_at (suc n)) v t) (sym (rolls-Array (inner es))) (array_at n (Array (inner es)) t (array_reads (init_at n) (inner es) (all_read n es (omega arith) parts.1 (omega arith))))
level_reads zero (Init-F.Struct es) low h d = absurd (omega arith)
level_reads (suc n) (Init-F.Struct es) low h d =
    let parts = and_parts (nat_lt (length (map elem_built (inner es))) (2 ^ 32)) (list_all (λ b. b) (map elem_built (inner es))) h in
    let t : List ℕ = braced (map element_text (inner es)) in
    subst (λ v. Reads (init_at (suc n)) v t) (sym (rolls-Struct (inner es))) (struct_at n (Struct (inner es)) t (struct_reads (init_at n) (inner es) (all_read n es (omega arith) parts.1 (omega arith))))
level_reads zero (Init-F.Packed es) low h d = absurd (omega arith)
level_reads (suc n) (Init-F.Packed es) low h d =
    let parts = and_parts (nat_lt (length (map elem_built (inner es))) (2 ^ 32)) (list_all (λ b. b) (map elem_built (inner es))) h in
    let t : List ℕ = codes "<" ++ braced (map element_text (inner es)) ++ codes ">" in
    subst (λ v. Reads (init_at (suc n)) v t) (sym (rolls-Packed (inner es))) (packed_at n (Packed (inner es)) t (packed_reads (init_at n) (inner es) (all_read n es (omega arith) parts.1 (omega arith))))

-- the folds of an initialiser, a level down
along_init : (y : Init-F WithinInit WithinElem) → ReadsInit (roll-Init (level_out y))
along_init y n low h d =
    same_open (sym (fold-roll-Init (List ℕ) (List ℕ) init_level element_level (level_out y)))
    (level_reads n y low (sym (fold-roll-Init Bool Bool init_built_at elem_built_at (level_out y)) ∙ h) (subst (λ k. k ≤ n) (fold-roll-Init ℕ ℕ init_depth_at elem_depth_at (level_out y)) d))

-- an element
abbrev make_elem : Ty → Init → Elem
make_elem t i = record { ty = t; init = i }

element_reads : (n : ℕ) (t : Ty) (i : Init) → type_built t ≡ true → Reads (init_at n) i (init_text i) → Reads (element (init_at n)) (make_elem t i) (element_level (record { ty = t; init = init_text i }))
unfolding element
element_reads n t i h x = value_open (spaced (value_open (given make_elem) (type_reads t h))) x

along_elem : (y : Elem-F WithinInit WithinElem) → ReadsElem (roll-Elem (map-Elem WithinInit WithinElem Init Elem (λ e. e.0) (λ e. e.0) y))
along_elem y n low h d =
    let z = map-Elem WithinInit WithinElem Init Elem (λ e. e.0) (λ e. e.0) y in
    let parts = and_parts (type_built y.ty) (parts_built y.init.0) (sym (fold-roll-Elem Bool Bool init_built_at elem_built_at z) ∙ h) in
    let deep : text_depth y.init.0 ≤ n = subst (λ k. k ≤ n) (fold-roll-Elem ℕ ℕ init_depth_at elem_depth_at z) d in
    same_open (sym (fold-roll-Elem (List ℕ) (List ℕ) init_level element_level z)) (element_reads n y.ty y.init.0 parts.0 (y.init.1 n low parts.1 deep))

any_init : (i : Init) → ReadsInit i
any_init = ind-Init ReadsInit ReadsElem (λ x y e. subst (λ z. ReadsInit (roll-Init z)) e (along_init y)) (λ x y e. subst (λ z. ReadsElem (roll-Elem z)) e (along_elem y))

-- a built initialiser reads back
pub init_reads : (i : Init) → init_built i ≡ true → Reads init i (init_text i)
unfolding init init_built
init_reads i h = let parts = and_parts (parts_built i) (nat_le (text_depth i) MAX_NESTING) h in any_init i 64 (omega arith) parts.0 (leb-true (text_depth i) 64 parts.1)
