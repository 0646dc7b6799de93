-- Single tokens and types that a small text says are built.
use Rattle.std.proofs.Common.{◌≡◌, ℕ, zero, suc, ◌^◌, ◌≤◌, Bool, true, false, List, [], ◌∷◌, length, map, refl, sym, ◌∙◌, ap, subst, arith, ℤ, pos, negsuc}
use Rattle.std.specs.Prelude.{codes, ◌&&◌, ◌||◌, not, nat_lt, nat_le, nat_eq, ◌==◌}
use Rattle.std.specs.List.{list_all, starts_with}
use Rattle.std.proofs.lemmas.Bool.{and_from, lt-ltb, le-leb}
use Rattle.rd_num.specs.declared.width.Width.{Width}
use Rattle.rd_num.specs.declared.width.Width.TheVariants.{W1, W8, W16, W32, W64}
use Rattle.ir_core.specs.declared.ty.Ty.{Ty, fold-Ty, roll-Ty, out-Ty, fold-roll-Ty, out-roll-Ty}
use Rattle.ir_core.specs.declared.ty.Ty.TheVariants.{Void, Int, Ptr, Array, Struct, Packed, Named, rolls-Void, rolls-Int, rolls-Ptr, rolls-Array, rolls-Struct, rolls-Packed, rolls-Named}
use Rattle.ir_core.specs.declared.ty.Ty.TheOpen.{Ty-F}
use Rattle.ir_core.specs.declared.ty.Ty.TheFolds.{map-Ty}
use Rattle.ir_core.specs.declared.limit.TheConstants.{MAX_NESTING}
use Rattle.ir_core.specs.Counts.{deepest}
use Rattle.ir_core.specs.Typing.{is_void_at}
use Rattle.ir_core.specs.Built.{built_all, name_built, int_built, is_debug_name, parts_built_at, text_depth_at, type_built, is_struct_at, result_built}
use Rattle.ir_lex.specs.declared.token.TokenKind.{TokenKind}
use Rattle.ir_lex.specs.declared.token.TokenKind.TheVariants as kind
use Rattle.ir_grammar.specs.Tokens.{Sort, label, cstr, count, number, local, global, debug_global, meta, meta_number, hash, debug_hash, is_count, is_digits, begins_with, chosen, sort_of, has, count_of, name_of}
use Rattle.ir_grammar.specs.Grammar.{Grammar}
use Rattle.ir_grammar.specs.Parts.{a_count, a_local, a_global, a_label}
use Rattle.ir_syntax.specs.Words.{an_int, int_of, a_cstr, bytes_of, plain_global}
use Rattle.ir_syntax.specs.Types.{simple_type, array_type, plain_struct, packed_struct, struct_type, type_at, ty, fields_type, rtype}
use Rattle.ir_built.proofs.Small.{is_small}
use Rattle.ir_built.proofs.Always.{Always, Passes, given, tokened, with_such, with, before, one_of_two, weaker, FewEach, Each, worded, commas}

-- a sort that is one of two, of which neither is asked for
neither : (ss : List Sort) (s r : Sort) (b : Bool) → has ss s ≡ false → has ss r ≡ false → has ss (chosen b s r) ≡ true → ⊥
neither ss s r true p q e = let both : false ≡ true = sym p ∙ e in cc
neither ss s r false p q e = let both : false ≡ true = sym q ∙ e in cc

-- counts
small_count : (b : Bool) → has (count ∷ []) (chosen b count number) ≡ true → b ≡ true
small_count true e = refl
small_count false e = absurd (cc)

count_by : (n : ℤ) → is_count n ≡ true → nat_lt (count_of (kind.Int n)) (2 ^ 32) ≡ true
count_by (pos n) e = e
count_by (negsuc n) e = absurd (cc)

count_token : (t : TokenKind) → has (count ∷ []) (sort_of t) ≡ true → nat_lt (count_of t) (2 ^ 32) ≡ true
count_token (kind.Int n) e = count_by n (small_count (is_count n) e)
count_token (kind.Global name) e = absurd (neither (count ∷ []) debug_global global (begins_with (codes "llvm.dbg.") name) refl refl e)
count_token (kind.Meta name) e = absurd (neither (count ∷ []) meta_number meta (is_digits name) refl refl e)
count_token (kind.Hash name) e = absurd (neither (count ∷ []) debug_hash hash (begins_with (codes "dbg_") name) refl refl e)
count_token (kind.Label name) e = absurd (cc)
count_token (kind.CStr bytes) e = absurd (cc)
count_token (kind.Word w) e = absurd (cc)
count_token (kind.Local name) e = absurd (cc)
count_token (kind.Str bytes) e = absurd (cc)
count_token (kind.Mark m) e = absurd (cc)

pub count_always : Passes a_count (λ n. nat_lt n (2 ^ 32))
count_always = tokened count [] count_of (λ t small e. count_token t e)

-- names
local_token : (t : TokenKind) → is_small t ≡ true → has (local ∷ []) (sort_of t) ≡ true → name_built (name_of t) ≡ true
local_token (kind.Local name) small e = small
local_token (kind.Int n) small e = absurd (neither (local ∷ []) count number (is_count n) refl refl e)
local_token (kind.Global name) small e = small
local_token (kind.Meta name) small e = absurd (neither (local ∷ []) meta_number meta (is_digits name) refl refl e)
local_token (kind.Hash name) small e = absurd (neither (local ∷ []) debug_hash hash (begins_with (codes "dbg_") name) refl refl e)
local_token (kind.Label name) small e = small
local_token (kind.CStr bytes) small e = absurd (cc)
local_token (kind.Word w) small e = absurd (cc)
local_token (kind.Str bytes) small e = absurd (cc)
local_token (kind.Mark m) small e = absurd (cc)

pub local_always : Passes a_local name_built
local_always = tokened local [] name_of local_token

label_token : (t : TokenKind) → is_small t ≡ true → has (label ∷ []) (sort_of t) ≡ true → name_built (name_of t) ≡ true
label_token (kind.Label name) small e = small
label_token (kind.Local name) small e = small
label_token (kind.Global name) small e = small
label_token (kind.Int n) small e = absurd (neither (label ∷ []) count number (is_count n) refl refl e)
label_token (kind.Meta name) small e = absurd (neither (label ∷ []) meta_number meta (is_digits name) refl refl e)
label_token (kind.Hash name) small e = absurd (neither (label ∷ []) debug_hash hash (begins_with (codes "dbg_") name) refl refl e)
label_token (kind.CStr bytes) small e = absurd (cc)
label_token (kind.Word w) small e = absurd (cc)
label_token (kind.Str bytes) small e = absurd (cc)
label_token (kind.Mark m) small e = absurd (cc)

pub label_always : Passes a_label name_built
label_always = tokened label [] name_of label_token

global_token : (t : TokenKind) → is_small t ≡ true → has (global ∷ debug_global ∷ []) (sort_of t) ≡ true → name_built (name_of t) ≡ true
global_token (kind.Global name) small e = small
global_token (kind.Local name) small e = small
global_token (kind.Label name) small e = small
global_token (kind.Int n) small e = absurd (neither (global ∷ debug_global ∷ []) count number (is_count n) refl refl e)
global_token (kind.Meta name) small e = absurd (neither (global ∷ debug_global ∷ []) meta_number meta (is_digits name) refl refl e)
global_token (kind.Hash name) small e = absurd (neither (global ∷ debug_global ∷ []) debug_hash hash (begins_with (codes "dbg_") name) refl refl e)
global_token (kind.CStr bytes) small e = absurd (cc)
global_token (kind.Word w) small e = absurd (cc)
global_token (kind.Str bytes) small e = absurd (cc)
global_token (kind.Mark m) small e = absurd (cc)

pub global_always : Passes a_global name_built
global_always = tokened global (debug_global ∷ []) name_of global_token

-- a name that isn't for debuggers
same_start : (xs ys : List ℕ) → begins_with xs ys ≡ starts_with nat_eq ys xs
same_start [] ys = refl
same_start (x ∷ xs) [] = refl
same_start (x ∷ xs) (y ∷ ys) = ap (λ b. (x == y) && b) (same_start xs ys)

not_debug : (b : Bool) → has (global ∷ []) (chosen b debug_global global) ≡ true → not b ≡ true
not_debug true e = absurd (cc)
not_debug false e = refl

abbrev pub plain_name : List ℕ → Bool
plain_name name = name_built name && not (is_debug_name name)

plain_token : (t : TokenKind) → is_small t ≡ true → has (global ∷ []) (sort_of t) ≡ true → plain_name (name_of t) ≡ true
plain_token (kind.Global name) small e =
    and_from (name_built name) (not (is_debug_name name)) small (sym (ap not (same_start (codes "llvm.dbg.") name)) ∙ not_debug (begins_with (codes "llvm.dbg.") name) e)
plain_token (kind.Local name) small e = absurd (cc)
plain_token (kind.Label name) small e = absurd (cc)
plain_token (kind.Int n) small e = absurd (neither (global ∷ []) count number (is_count n) refl refl e)
plain_token (kind.Meta name) small e = absurd (neither (global ∷ []) meta_number meta (is_digits name) refl refl e)
plain_token (kind.Hash name) small e = absurd (neither (global ∷ []) debug_hash hash (begins_with (codes "dbg_") name) refl refl e)
plain_token (kind.CStr bytes) small e = absurd (cc)
plain_token (kind.Word w) small e = absurd (cc)
plain_token (kind.Str bytes) small e = absurd (cc)
plain_token (kind.Mark m) small e = absurd (cc)

pub plain_global_always : Passes plain_global plain_name
plain_global_always = tokened global [] name_of plain_token

-- numbers and strings
int_token : (t : TokenKind) → is_small t ≡ true → int_built (int_of t) ≡ true
int_token (kind.Int n) small = small
int_token (kind.Label name) small = refl
int_token (kind.CStr bytes) small = refl
int_token (kind.Word w) small = refl
int_token (kind.Global name) small = refl
int_token (kind.Local name) small = refl
int_token (kind.Meta name) small = refl
int_token (kind.Hash name) small = refl
int_token (kind.Str bytes) small = refl
int_token (kind.Mark m) small = refl

pub int_always : Passes an_int int_built
int_always = tokened count (number ∷ []) int_of (λ t small e. int_token t small)

string_token : (t : TokenKind) → is_small t ≡ true → built_all (λ b. nat_lt b 256) (bytes_of t) ≡ true
string_token (kind.CStr bytes) small = small
string_token (kind.Label name) small = refl
string_token (kind.Int n) small = refl
string_token (kind.Word w) small = refl
string_token (kind.Global name) small = refl
string_token (kind.Local name) small = refl
string_token (kind.Meta name) small = refl
string_token (kind.Hash name) small = refl
string_token (kind.Str bytes) small = refl
string_token (kind.Mark m) small = refl

pub string_always : Passes a_cstr (built_all (λ b. nat_lt b 256))
string_always = tokened cstr [] bytes_of (λ t small e. string_token t small)

-- types of so many levels at most
abbrev pub parts_built : Ty → Bool
parts_built = fold-Ty Bool parts_built_at

abbrev pub text_depth : Ty → ℕ
text_depth = fold-Ty ℕ text_depth_at

abbrev pub IsWithin : ℕ → Ty → Type 0
IsWithin n t = (parts_built t ≡ true) × (text_depth t ≤ n)

rolled : (n : ℕ) (y : Ty-F Ty) → parts_built_at (map-Ty Ty Bool parts_built y) ≡ true → text_depth_at (map-Ty Ty ℕ text_depth y) ≤ n → IsWithin n (roll-Ty y)
rolled n y h d = (fold-roll-Ty Bool parts_built_at y ∙ h, subst (λ k. k ≤ n) (sym (fold-roll-Ty ℕ text_depth_at y)) d)

int_within : (n : ℕ) (w : Width) → IsWithin n (Int w)
int_within n w = subst (IsWithin n) (rolls-Int w) (rolled n (Ty-F.Int w) refl (omega arith))

ptr_within : (n : ℕ) → IsWithin n Ptr
ptr_within n = subst (IsWithin n) rolls-Ptr (rolled n Ty-F.Ptr refl (omega arith))

named_within : (n : ℕ) (name : List ℕ) → name_built name ≡ true → IsWithin n (Named name)
named_within n name h = subst (IsWithin n) (rolls-Named name) (rolled n (Ty-F.Named name) h (omega arith))

array_within : (n k : ℕ) (t : Ty) → nat_lt k (2 ^ 32) ≡ true → IsWithin n t → IsWithin (suc n) (Array k t)
array_within n k t h x =
    let low : text_depth t ≤ n = x.1 in
    subst (IsWithin (suc n)) (rolls-Array k t) (rolled (suc n) (Ty-F.Array k t) (and_from (nat_lt k (2 ^ 32)) (parts_built t) h x.0) (omega arith))

parts_each : (n : ℕ) (fs : List Ty) → Each (IsWithin n) fs → list_all (λ b. b) (map parts_built fs) ≡ true
parts_each n [] h = refl
parts_each n (f ∷ fs) h = and_from (parts_built f) (list_all (λ b. b) (map parts_built fs)) h.0.0 (parts_each n fs h.1)

deepest_each : (n : ℕ) (fs : List Ty) → Each (IsWithin n) fs → deepest (map text_depth fs) ≤ n
deepest_each n [] h = omega arith
deepest_each n (f ∷ fs) h = let low : text_depth f ≤ n = h.0.1 in let more = deepest_each n fs h.1 in omega arith

length-parts : (fs : List Ty) → length (map parts_built fs) ≡ length fs
length-parts [] = refl
length-parts (f ∷ fs) = ap suc (length-parts fs)

fields_built : (n : ℕ) (fs : List Ty) → FewEach (IsWithin n) fs → built_all (λ b. b) (map parts_built fs) ≡ true
fields_built n fs h =
    and_from (nat_lt (length (map parts_built fs)) (2 ^ 32)) (list_all (λ b. b) (map parts_built fs))
    (ap (λ k. nat_lt k (2 ^ 32)) (length-parts fs) ∙ lt-ltb (length fs) (2 ^ 32) h.0) (parts_each n fs h.1)

struct_within : (n : ℕ) (fs : List Ty) → FewEach (IsWithin n) fs → IsWithin (suc n) (Struct fs)
struct_within n fs h =
    let low = deepest_each n fs h.1 in
    subst (IsWithin (suc n)) (rolls-Struct fs) (rolled (suc n) (Ty-F.Struct fs) (fields_built n fs h) (omega arith))

packed_within : (n : ℕ) (fs : List Ty) → FewEach (IsWithin n) fs → IsWithin (suc n) (Packed fs)
packed_within n fs h =
    let low = deepest_each n fs h.1 in
    subst (IsWithin (suc n)) (rolls-Packed fs) (rolled (suc n) (Ty-F.Packed fs) (fields_built n fs h) (omega arith))

-- by the grammar
simple_always : (n : ℕ) → Always simple_type (IsWithin n)
unfolding simple_type
simple_always n =
    one_of_two
    (one_of_two (worded (int_within n W1))
    (one_of_two (worded (int_within n W8))
    (one_of_two (worded (int_within n W16)) (one_of_two (worded (int_within n W32)) (one_of_two (worded (int_within n W64)) (worded (ptr_within n)))))))
    (with name_built (given Named (named_within n)) local_always)

array_always : (n : ℕ) (g : Grammar Ty) → Always g (IsWithin n) → Always (array_type g) (IsWithin (suc n))
unfolding array_type
array_always n g x =
    before (with_such (IsWithin n) (before (with (λ k. nat_lt k (2 ^ 32)) (before (given Array (λ k h t y. array_within n k t h y))) count_always)) x)

plain_always : (n : ℕ) (g : Grammar Ty) → Always g (IsWithin n) → Always (plain_struct g) (IsWithin (suc n))
unfolding plain_struct
plain_always n g x = with_such (FewEach (IsWithin n)) (before (given Struct (struct_within n))) (commas 125 x)

packed_always : (n : ℕ) (g : Grammar Ty) → Always g (IsWithin n) → Always (packed_struct g) (IsWithin (suc n))
unfolding packed_struct
packed_always n g x = before (with_such (FewEach (IsWithin n)) (before (before (given Packed (packed_within n)))) (commas 125 x))

struct_always : (n : ℕ) (g : Grammar Ty) → Always g (IsWithin n) → Always (struct_type g) (IsWithin (suc n))
unfolding struct_type
struct_always n g x = one_of_two (plain_always n g x) (packed_always n g x)

level_always : (n : ℕ) → Always (type_at n) (IsWithin n)
unfolding type_at
level_always zero = simple_always zero
level_always (suc n) = one_of_two (simple_always (suc n)) (one_of_two (array_always n (type_at n) (level_always n)) (struct_always n (type_at n) (level_always n)))

within_built : (t : Ty) → IsWithin 64 t → type_built t ≡ true
unfolding type_built
within_built t h = and_from (parts_built t) (nat_le (text_depth t) MAX_NESTING) h.0 (le-leb (text_depth t) MAX_NESTING h.1)

pub type_always : Passes ty type_built
unfolding ty
type_always = weaker (IsWithin 64) (level_always 64) within_built

-- the struct of a named type
abbrev pub struct_built : Ty → Bool
struct_built t = is_struct_at (out-Ty t) && type_built t

plain_struct_always : (g : Grammar Ty) → Always g (IsWithin 63) → Passes (plain_struct g) (λ t. is_struct_at (out-Ty t))
unfolding plain_struct
plain_struct_always g x =
    with_such (FewEach (IsWithin 63)) (before (given Struct (λ fs h. ap (λ t. is_struct_at (out-Ty t)) (sym (rolls-Struct fs)) ∙ ap is_struct_at (out-roll-Ty (Ty-F.Struct fs))))) (commas 125 x)

packed_struct_always : (g : Grammar Ty) → Always g (IsWithin 63) → Passes (packed_struct g) (λ t. is_struct_at (out-Ty t))
unfolding packed_struct
packed_struct_always g x =
    before
    (with_such (FewEach (IsWithin 63)) (before (before (given Packed (λ fs h. ap (λ t. is_struct_at (out-Ty t)) (sym (rolls-Packed fs)) ∙ ap is_struct_at (out-roll-Ty (Ty-F.Packed fs)))))) (commas 125 x))

shape_always : (g : Grammar Ty) → Always g (IsWithin 63) → Passes (struct_type g) (λ t. is_struct_at (out-Ty t))
unfolding struct_type
shape_always g x = one_of_two (plain_struct_always g x) (packed_struct_always g x)

pub fields_always : Passes fields_type struct_built
unfolding fields_type
fields_always = record {
  holds = λ t ts small d.
      and_from (is_struct_at (out-Ty t)) (type_built t) ((shape_always (type_at 63) (level_always 63)).holds t ts small d)
      (within_built t ((struct_always 63 (type_at 63) (level_always 63)).holds t ts small d));
}

-- what a function gives
void_built : result_built Void ≡ true
void_built = ap result_built (sym rolls-Void) ∙ ap (λ y. is_void_at y || type_built (roll-Ty Ty-F.Void)) (out-roll-Ty Ty-F.Void)

result_of : (t : Ty) → type_built t ≡ true → result_built t ≡ true
result_of t h = by (is_void_at (out-Ty t))
  where
    by : (b : Bool) → (b || type_built t) ≡ true
    by true = refl
    by false = h

pub result_always : Passes rtype result_built
unfolding rtype
result_always = one_of_two (before (given Void void_built)) (weaker (λ t. type_built t ≡ true) type_always result_of)
