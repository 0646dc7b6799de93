-- What the grammar asks of single tokens.
use Rattle.std.specs.Prelude.{ℕ, ◌||◌, Bool, true, false, List, [], ◌∷◌, ◌==◌, codes, ℤ, pos, negsuc, nat_lt, map, ◌&&◌}
use Rattle.std.specs.Char.{is_ascii_digit, is_ascii_lowercase}
use Rattle.std.specs.List.{list_all, list_any}
use Rattle.std.specs.Cmp.Lexicographic.{pointwise}
use Rattle.ir_lex.specs.declared.token.Token.{Token}
use Rattle.ir_lex.specs.declared.token.TokenKind.{TokenKind}
use Rattle.ir_lex.specs.declared.token.TokenKind.TheVariants as kind

-- What a place of the grammar asks of a token: a word, a punctuation mark, or a kind, and some kinds
-- apart by what they hold. A number is a count or not; a name of debug records and metadata's numbers
-- stand by themselves.
pub data Sort : Type 0 where
  word : List ℕ → Sort
  mark : ℕ → Sort
  label : Sort
  cstr : Sort
  str : Sort
  count : Sort
  number : Sort
  local : Sort
  global : Sort
  debug_global : Sort
  meta : Sort
  meta_number : Sort
  hash : Sort
  debug_hash : Sort

-- from 0 to 2^32 - 1
abbrev pub is_count : ℤ → Bool
is_count (pos n) = nat_lt n 4294967296
is_count (negsuc n) = false

-- whether a list begins with another one
abbrev pub begins_with : List ℕ → List ℕ → Bool
begins_with [] ys = true
begins_with (x ∷ xs) [] = false
begins_with (x ∷ xs) (y ∷ ys) = x == y && begins_with xs ys

-- one digit or more
abbrev pub is_digits : List ℕ → Bool
is_digits [] = false
is_digits (b ∷ bs) = list_all is_ascii_digit (b ∷ bs)

-- one of two sorts
abbrev pub chosen : Bool → Sort → Sort → Sort
chosen true s r = s
chosen false s r = r

-- the sort that a token is of
abbrev pub sort_of : TokenKind → Sort
sort_of (kind.Label name) = label
sort_of (kind.CStr bytes) = cstr
sort_of (kind.Int n) = chosen (is_count n) count number
sort_of (kind.Word w) = word w
sort_of (kind.Global name) = chosen (begins_with (codes "llvm.dbg.") name) debug_global global
sort_of (kind.Local name) = local
sort_of (kind.Meta name) = chosen (is_digits name) meta_number meta
sort_of (kind.Hash name) = chosen (begins_with (codes "dbg_") name) debug_hash hash
sort_of (kind.Str bytes) = str
sort_of (kind.Mark m) = mark m

-- a token of each sort
abbrev pub example : Sort → TokenKind
example (word w) = kind.Word w
example (mark m) = kind.Mark m
example label = kind.Label (codes "a")
example cstr = kind.CStr []
example str = kind.Str []
example count = kind.Int (pos 0)
example number = kind.Int (negsuc 0)
example local = kind.Local (codes "a")
example global = kind.Global (codes "a")
example debug_global = kind.Global (codes "llvm.dbg.a")
example meta = kind.Meta []
example meta_number = kind.Meta (codes "0")
example hash = kind.Hash (codes "0")
example debug_hash = kind.Hash (codes "dbg_a")

-- whether two words are one
abbrev pub same_word : List ℕ → List ℕ → Bool
same_word = pointwise ◌==◌

-- whether two sorts are one
abbrev pub same_sort : Sort → Sort → Bool
same_sort (word v) (word w) = same_word v w
same_sort (mark m) (mark n) = m == n
same_sort label label = true
same_sort cstr cstr = true
same_sort str str = true
same_sort count count = true
same_sort number number = true
same_sort local local = true
same_sort global global = true
same_sort debug_global debug_global = true
same_sort meta meta = true
same_sort meta_number meta_number = true
same_sort hash hash = true
same_sort debug_hash debug_hash = true
same_sort _ _ = false

-- what tokens are, without their places
abbrev pub kinds : List Token → List TokenKind
kinds ts = map (λ t. t.kind) ts

-- a small letter, a digit or `_`
abbrev pub is_word_byte : ℕ → Bool
is_word_byte b = is_ascii_lowercase b || (is_ascii_digit b || b == 95)

-- such bytes, of which the first is a small letter
abbrev pub is_plain_word : List ℕ → Bool
is_plain_word [] = false
is_plain_word (b ∷ bs) = is_ascii_lowercase b && list_all is_word_byte bs

-- whether bytes spell the example of a sort: not every word and every mark has a spelling
abbrev pub is_spellable : Sort → Bool
is_spellable (word w) = is_plain_word w
is_spellable (mark m) = list_any (λ k. k == m) (codes "=,()[]{}<>*|+:")
is_spellable _ = true

-- whether a sort is in a list
abbrev pub has : List Sort → Sort → Bool
has [] s = false
has (r ∷ rs) s = same_sort r s || has rs s

-- whether the first token is of one of these sorts
abbrev pub starts : List Sort → List TokenKind → Bool
starts sorts [] = false
starts sorts (t ∷ ts) = has sorts (sort_of t)

-- the number of a count
abbrev pub count_of : TokenKind → ℕ
count_of (kind.Int (pos n)) = n
count_of _ = 0

-- the name of a token that is one
abbrev pub name_of : TokenKind → List ℕ
name_of (kind.Label name) = name
name_of (kind.Global name) = name
name_of (kind.Local name) = name
name_of _ = []
