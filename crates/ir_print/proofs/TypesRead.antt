-- Types read back at every level that holds them.
use Rattle.std.proofs.Common.{◌≡◌, ℕ, zero, suc, ◌≤◌, ◌^◌, Bool, true, false, List, [], ◌∷◌, ◌++◌, length, map, refl, sym, ap, ◌∙◌, subst, arith, inl, inr}
use Rattle.std.specs.Prelude.{codes, decimal, nat_lt, nat_le, ◌||◌}
use Rattle.std.specs.List.{list_all}
use Rattle.std.proofs.lemmas.Bool.{and_parts, leb-true}
use denote.Hole.Holds.{Such}
use Rattle.rd_num.specs.declared.width.Width.{Width}
use Rattle.rd_num.specs.declared.width.Width.TheVariants.{W1, W8, W16, W32, W64}
use Rattle.ir_core.specs.declared.ty.Ty.{Ty, fold-Ty, ind-Ty, roll-Ty, out-Ty, fold-roll-Ty, roll-out-Ty}
use Rattle.ir_core.specs.declared.ty.Ty.TheVariants.{Void, Int, Ptr, Array, Struct, Packed, Named, rolls-Void, rolls-Int, rolls-Ptr, rolls-Array, rolls-Struct, rolls-Packed, rolls-Named}
use Rattle.ir_core.specs.declared.ty.Ty.TheOpen.{Ty-F}
use Rattle.ir_core.specs.declared.ty.Ty.TheBlock.{the_family, member-Ty}
use Rattle.ir_core.specs.declared.ty.Ty.TheFolds.{claims, map-Ty}
use Rattle.ir_core.specs.declared.limit.TheConstants.{MAX_NESTING}
use Rattle.ir_core.specs.Counts.{deeper, deepest}
use Rattle.ir_core.specs.Typing.{is_void_at}
use Rattle.ir_core.specs.Built.{parts_built_at, text_depth_at, type_built, result_built, name_built, is_struct_at}
use Rattle.ir_lex.specs.Tokens.{is_run_byte, is_separator, is_mark}
use Rattle.ir_grammar.specs.Grammar.{Grammar}
use Rattle.ir_syntax.specs.Types.{simple_type, array_type, plain_struct, packed_struct, struct_type, type_at, ty, fields_type, rtype}
use Rattle.ir_print.specs.Names.{local_text}
use Rattle.ir_print.specs.Types.{width_text, braced, type_level, type_text}
use Rattle.ir_print.proofs.Derivations.{Reads, Shut, given, loose, value_open, value_shut, word_open, word_shut, word_tight, left_open, right_open, left_shut, right_shut, same_open, same_shut, read_word, shut_word, shut_mark, tight}
use Rattle.ir_print.proofs.Rows.{AllRead, listed_none, listed_some, commas-map}
use Rattle.ir_print.proofs.Singles.{at_word, local_reads, count_reads}

-- words
pub width_reads : (w : Width) → Reads simple_type (Int w) (width_text w)
unfolding simple_type is_run_byte
width_reads W1 = left_open (read_word (codes "i1") refl (inl (at_word (codes "i1") (Int W1) refl)))
width_reads W8 = left_open (read_word (codes "i8") refl (inr (inl (at_word (codes "i8") (Int W8) refl))))
width_reads W16 = left_open (read_word (codes "i16") refl (inr (inr (inl (at_word (codes "i16") (Int W16) refl)))))
width_reads W32 = left_open (read_word (codes "i32") refl (inr (inr (inr (inl (at_word (codes "i32") (Int W32) refl))))))
width_reads W64 = left_open (read_word (codes "i64") refl (inr (inr (inr (inr (inl (at_word (codes "i64") (Int W64) refl)))))))

ptr_reads : Reads simple_type Ptr (codes "ptr")
unfolding simple_type is_run_byte
ptr_reads = left_open (read_word (codes "ptr") refl (inr (inr (inr (inr (inr (at_word (codes "ptr") Ptr refl)))))))

named_reads : (name : List ℕ) → name_built name ≡ true → Reads simple_type (Named name) (local_text name)
unfolding simple_type
named_reads name h = right_open (value_open (given Named) (local_reads name h))

simple_at : (n : ℕ) (v : Ty) (t : List ℕ) → Reads simple_type v t → Reads (type_at n) v t
unfolding type_at
simple_at zero v t x = x
simple_at (suc n) v t x = left_open x

-- arrays
array_reads : (g : Grammar Ty) (k : ℕ) (v : Ty) (t : List ℕ) → nat_lt k (2 ^ 32) ≡ true → Reads g v t → Shut (array_type g) (Array k v) (codes "[" ++ decimal k ++ codes " x " ++ t ++ codes "]")
unfolding array_type is_run_byte is_separator is_mark
array_reads g k v t h x =
    word_tight
    (value_open
    (word_tight (value_open (word_shut (given Array) (shut_mark 91 (codes "[") refl refl refl)) (count_reads k h))
    (tight refl (shut_word (codes "x") (codes " x ") refl refl refl)))
    x)
    (tight refl (shut_mark 93 (codes "]") refl refl refl))

-- structs
plain_reads : (g : Grammar Ty) (fs : List Ty) → AllRead g type_text fs → Shut (plain_struct g) (Struct fs) (braced (map type_text fs))
unfolding plain_struct is_run_byte is_separator is_mark
plain_reads g [] all =
    value_shut (word_shut (given Struct) (shut_mark 123 (codes "{") refl refl refl)) (listed_none g type_text 125 (codes "}") (shut_mark 125 (codes "}") refl refl refl))
plain_reads g (f ∷ fs) all =
    same_shut (ap (λ t. codes "{ " ++ ((type_text f ++ t) ++ codes " }")) (sym (commas-map type_text fs)))
    (value_shut (word_shut (given Struct) (shut_mark 123 (codes "{ ") refl refl refl))
    (listed_some g type_text 125 (codes " }") f fs all (tight refl (shut_mark 125 (codes " }") refl refl refl))))

packed_reads : (g : Grammar Ty) (fs : List Ty) → AllRead g type_text fs → Shut (packed_struct g) (Packed fs) (codes "<" ++ braced (map type_text fs) ++ codes ">")
unfolding packed_struct is_run_byte is_separator is_mark
packed_reads g [] all =
    word_shut
    (value_shut (word_shut (word_shut (given Packed) (shut_mark 60 (codes "<") refl refl refl)) (shut_mark 123 (codes "{") refl refl refl))
    (listed_none g type_text 125 (codes "}") (shut_mark 125 (codes "}") refl refl refl)))
    (shut_mark 62 (codes ">") refl refl refl)
packed_reads g (f ∷ fs) all =
    same_shut (ap (λ t. (codes "<{ " ++ ((type_text f ++ t) ++ codes " }")) ++ codes ">") (sym (commas-map type_text fs)))
    (word_shut
    (value_shut (word_shut (word_shut (given Packed) (shut_mark 60 (codes "<") refl refl refl)) (shut_mark 123 (codes "{ ") refl refl refl))
    (listed_some g type_text 125 (codes " }") f fs all (tight refl (shut_mark 125 (codes " }") refl refl refl))))
    (shut_mark 62 (codes ">") refl refl refl))

array_at : (n : ℕ) (v : Ty) (t : List ℕ) → Shut (array_type (type_at n)) v t → Reads (type_at (suc n)) v t
unfolding type_at
array_at n v t x = right_open (left_open (loose x))

struct_at : (n : ℕ) (v : Ty) (t : List ℕ) → Shut (struct_type (type_at n)) v t → Reads (type_at (suc n)) v t
unfolding type_at
struct_at n v t x = right_open (right_open (loose x))

plain_at : (g : Grammar Ty) (v : Ty) (t : List ℕ) → Shut (plain_struct g) v t → Shut (struct_type g) v t
unfolding struct_type
plain_at g v t x = left_shut x

packed_at : (g : Grammar Ty) (v : Ty) (t : List ℕ) → Shut (packed_struct g) v t → Shut (struct_type g) v t
unfolding struct_type
packed_at g v t x = right_shut x

-- by the folds
abbrev parts_built : Ty → Bool
parts_built = fold-Ty Bool parts_built_at

abbrev text_depth : Ty → ℕ
text_depth = fold-Ty ℕ text_depth_at

abbrev ReadsType : Ty → Type 0
ReadsType t = (n : ℕ) → n ≤ 64 → parts_built t ≡ true → text_depth t ≤ n → Reads (type_at n) t (type_text t)

-- a type within another
abbrev Within : Type 0
Within = Such the_family (claims ReadsType) member-Ty

abbrev inner : List Within → List Ty
inner es = map (λ (e : Within). e.0) es

all_read : (n : ℕ) (es : List Within) → n ≤ 64 → list_all (λ b. b) (map parts_built (inner es)) ≡ true → deepest (map text_depth (inner es)) ≤ n → AllRead (type_at n) type_text (inner es)
all_read n [] low h d = tt
all_read n (e ∷ es) low h d =
    let parts = and_parts (parts_built e.0) (list_all (λ b. b) (map parts_built (inner es))) h in
    (e.1 n low parts.0 (omega arith), all_read n es low parts.1 (omega arith))

-- one level
abbrev level_out : Ty-F Within → Ty-F Ty
level_out y = map-Ty Within Ty (λ e. e.0) y

level_reads : (n : ℕ) (y : Ty-F Within) → n ≤ 64 → parts_built_at (map-Ty Ty Bool parts_built (level_out y)) ≡ true → text_depth_at (map-Ty Ty ℕ text_depth (level_out y)) ≤ n →
    Reads (type_at n) (roll-Ty (level_out y)) (type_level (map-Ty Ty (List ℕ) type_text (level_out y)))
level_reads n Ty-F.Void low h d = absurd (let e : false ≡ true = h in cc)
level_reads n (Ty-F.Int w) low h d = subst (λ v. Reads (type_at n) v (width_text w)) (sym (rolls-Int w)) (simple_at n (Int w) (width_text w) (width_reads w))
level_reads n Ty-F.Ptr low h d = subst (λ v. Reads (type_at n) v (codes "ptr")) (sym rolls-Ptr) (simple_at n Ptr (codes "ptr") ptr_reads)
level_reads n (Ty-F.Named name) low h d = subst (λ v. Reads (type_at n) v (local_text name)) (sym (rolls-Named name)) (simple_at n (Named name) (local_text name) (named_reads name h))
level_reads zero (Ty-F.Array k e) low h d = absurd (omega arith)
level_reads (suc n) (Ty-F.Array k e) low h d =
    let parts = and_parts (nat_lt k (2 ^ 32)) (parts_built e.0) h in
    let t : List ℕ = codes "[" ++ decimal k ++ codes " x " ++ type_text e.0 ++ codes "]" in
    subst (λ v. Reads (type_at (suc n)) v t) (sym (rolls-Array k e.0)) (array_at n (Array k e.0) t (array_reads (type_at n) k e.0 (type_text e.0) parts.0 (e.1 n (omega arith) parts.1 (omega arith))))
level_reads zero (Ty-F.Struct es) low h d = absurd (omega arith)
level_reads (suc n) (Ty-F.Struct es) low h d =
    let parts = and_parts (nat_lt (length (map parts_built (inner es))) (2 ^ 32)) (list_all (λ b. b) (map parts_built (inner es))) h in
    let t : List ℕ = braced (map type_text (inner es)) in
    subst (λ v. Reads (type_at (suc n)) v t) (sym (rolls-Struct (inner es)))
    (struct_at n (Struct (inner es)) t (plain_at (type_at n) (Struct (inner es)) t (plain_reads (type_at n) (inner es) (all_read n es (omega arith) parts.1 (omega arith)))))
level_reads zero (Ty-F.Packed es) low h d = absurd (omega arith)
level_reads (suc n) (Ty-F.Packed es) low h d =
    let parts = and_parts (nat_lt (length (map parts_built (inner es))) (2 ^ 32)) (list_all (λ b. b) (map parts_built (inner es))) h in
    let t : List ℕ = codes "<" ++ braced (map type_text (inner es)) ++ codes ">" in
    subst (λ v. Reads (type_at (suc n)) v t) (sym (rolls-Packed (inner es)))
    (struct_at n (Packed (inner es)) t (packed_at (type_at n) (Packed (inner es)) t (packed_reads (type_at n) (inner es) (all_read n es (omega arith) parts.1 (omega arith)))))

-- the folds of a type, a level down
along : (y : Ty-F Within) → ReadsType (roll-Ty (level_out y))
along y n low h d =
    same_open (sym (fold-roll-Ty (List ℕ) type_level (level_out y)))
    (level_reads n y low (sym (fold-roll-Ty Bool parts_built_at (level_out y)) ∙ h) (subst (λ k. k ≤ n) (fold-roll-Ty ℕ text_depth_at (level_out y)) d))

any_type : (t : Ty) → ReadsType t
any_type = ind-Ty ReadsType (λ x y e. subst (λ z. ReadsType (roll-Ty z)) e (along y))

-- a built type reads back
pub type_reads : (t : Ty) → type_built t ≡ true → Reads ty t (type_text t)
unfolding ty type_built
type_reads t h = let parts = and_parts (parts_built t) (nat_le (text_depth t) MAX_NESTING) h in any_type t 64 (omega arith) parts.0 (leb-true (text_depth t) 64 parts.1)

-- several types
all_types : (n : ℕ) (ts : List Ty) → n ≤ 64 → list_all (λ b. b) (map parts_built ts) ≡ true → deepest (map text_depth ts) ≤ n → AllRead (type_at n) type_text ts
all_types n [] low h d = tt
all_types n (t ∷ ts) low h d =
    let parts = and_parts (parts_built t) (list_all (λ b. b) (map parts_built ts)) h in
    (any_type t n low parts.0 (omega arith), all_types n ts low parts.1 (omega arith))

-- what a function gives may be void
void_reads : Reads rtype Void (type_text Void)
unfolding rtype is_run_byte
void_reads =
    same_open (sym (fold-roll-Ty (List ℕ) type_level Ty-F.Void) ∙ ap type_text rolls-Void)
    (left_open (word_open (given Void) (read_word (codes "void") refl (at_word (codes "void") tt refl))))

pub result_reads : (t : Ty) → result_built t ≡ true → Reads rtype t (type_text t)
unfolding rtype
result_reads t h = by (out-Ty t) refl h
  where
    by : (z : Ty-F Ty) → out-Ty t ≡ z → (is_void_at z || type_built t) ≡ true → Reads rtype t (type_text t)
    by Ty-F.Void e k = subst (λ v. Reads rtype v (type_text v)) (sym rolls-Void ∙ ap roll-Ty (sym e) ∙ roll-out-Ty t) void_reads
    by other e k = right_open (type_reads t k)

-- the struct of a named type
pub fields_reads : (t : Ty) → is_struct_at (out-Ty t) ≡ true → type_built t ≡ true → Shut fields_type t (type_text t)
unfolding fields_type type_built
fields_reads t struct h =
    let parts = and_parts (parts_built t) (nat_le (text_depth t) MAX_NESTING) h in by (out-Ty t) (roll-out-Ty t) struct parts.0 (leb-true (text_depth t) 64 parts.1)
  where
    by : (z : Ty-F Ty) → roll-Ty z ≡ t → is_struct_at z ≡ true → parts_built t ≡ true → text_depth t ≤ 64 → Shut (struct_type (type_at 63)) t (type_text t)
    by (Ty-F.Struct fs) e s b d =
        let same : Struct fs ≡ t = sym (rolls-Struct fs) ∙ e in
        let built : parts_built (roll-Ty (Ty-F.Struct fs)) ≡ true = ap parts_built e ∙ b in
        let deep : text_depth (roll-Ty (Ty-F.Struct fs)) ≤ 64 = subst (λ v. text_depth v ≤ 64) (sym e) d in
        let level = and_parts (nat_lt (length (map parts_built fs)) (2 ^ 32)) (list_all (λ b. b) (map parts_built fs)) (sym (fold-roll-Ty Bool parts_built_at (Ty-F.Struct fs)) ∙ built) in
        let low : deeper (deepest (map text_depth fs)) ≤ 64 = subst (λ k. k ≤ 64) (fold-roll-Ty ℕ text_depth_at (Ty-F.Struct fs)) deep in
        let text : braced (map type_text fs) ≡ type_text t = sym (fold-roll-Ty (List ℕ) type_level (Ty-F.Struct fs)) ∙ ap type_text e in
        subst (λ v. Shut (struct_type (type_at 63)) v (type_text t)) same
        (same_shut text (plain_at (type_at 63) (Struct fs) (braced (map type_text fs)) (plain_reads (type_at 63) fs (all_types 63 fs (omega arith) level.1 (omega arith)))))
    by (Ty-F.Packed fs) e s b d =
        let same : Packed fs ≡ t = sym (rolls-Packed fs) ∙ e in
        let built : parts_built (roll-Ty (Ty-F.Packed fs)) ≡ true = ap parts_built e ∙ b in
        let deep : text_depth (roll-Ty (Ty-F.Packed fs)) ≤ 64 = subst (λ v. text_depth v ≤ 64) (sym e) d in
        let level = and_parts (nat_lt (length (map parts_built fs)) (2 ^ 32)) (list_all (λ b. b) (map parts_built fs)) (sym (fold-roll-Ty Bool parts_built_at (Ty-F.Packed fs)) ∙ built) in
        let low : deeper (deepest (map text_depth fs)) ≤ 64 = subst (λ k. k ≤ 64) (fold-roll-Ty ℕ text_depth_at (Ty-F.Packed fs)) deep in
        let whole : List ℕ = codes "<" ++ braced (map type_text fs) ++ codes ">" in
        let text : whole ≡ type_text t = sym (fold-roll-Ty (List ℕ) type_level (Ty-F.Packed fs)) ∙ ap type_text e in
        subst (λ v. Shut (struct_type (type_at 63)) v (type_text t)) same
        (same_shut text (packed_at (type_at 63) (Packed fs) whole (packed_reads (type_at 63) fs (all_types 63 fs (omega arith) level.1 (omega arith)))))
    by other e s b d = absurd (let f : false ≡ true = s in cc)
