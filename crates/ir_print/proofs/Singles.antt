-- Names, numbers and words with the values that they read back to.
use Rattle.std.proofs.Common.{◌≡◌, ℕ, ◌<◌, ◌^◌, Bool, true, false, List, [], ◌∷◌, refl, ap, ◌∙◌, arith, ℤ, pos}
use Rattle.std.specs.Prelude.{codes, decimal, nat_lt, nat_eq, not, ◌==◌, ◌&&◌}
use Rattle.std.specs.Fmt.{signed_decimal}
use Rattle.std.specs.List.{list_all, starts_with}
use Rattle.std.proofs.lemmas.Bool.{ltb-true, lt-ltb}
use Rattle.ir_core.specs.Built.{name_built, int_built, is_debug_name}
use Rattle.ir_lex.specs.declared.token.TokenKind.TheVariants.{Word, Local, Global, Int, Label, CStr}
use Rattle.ir_grammar.specs.Tokens.{word, count, number, global, debug_global, chosen, has, begins_with, is_count}
use Rattle.ir_grammar.specs.Grammar.{token, Derives}
use Rattle.ir_grammar.specs.Parts.{a_count, a_local, a_global, a_label}
use Rattle.ir_syntax.specs.Words.{plain_global, an_int, a_cstr}
use Rattle.ir_print.specs.Names.{local_text, global_text, label_text, string_text}
use Rattle.ir_print.proofs.Spelled.{local_scanned, global_scanned, label_scanned, number_scanned, string_scanned}
use Rattle.ir_print.proofs.Derivations.{Reads, Shut}

-- a word with a value
pub at_word : {A : Type 0} (w : List ℕ) (v : A) → has (word w ∷ []) (word w) ≡ true → Derives (token (word w) [] (λ _. v)) v (Word w ∷ [])
at_word w v same = (Word w, same, refl, refl)

-- names
pub local_reads : (name : List ℕ) → name_built name ≡ true → Reads a_local name (local_text name)
local_reads name h = record { ks = Local name ∷ []; scan = local_scanned name h; derives = (Local name, refl, refl, refl) }

pub label_reads : (name : List ℕ) → name_built name ≡ true → Shut a_label name (label_text name)
label_reads name h = record { ks = Label name ∷ []; scan = label_scanned name h; derives = (Label name, refl, refl, refl) }

any_global : (b : Bool) → has (global ∷ debug_global ∷ []) (chosen b debug_global global) ≡ true
any_global true = refl
any_global false = refl

pub global_reads : (name : List ℕ) → name_built name ≡ true → Reads a_global name (global_text name)
global_reads name h = record { ks = Global name ∷ []; scan = global_scanned name h; derives = (Global name, any_global (begins_with (codes "llvm.dbg.") name), refl, refl) }

-- a name that isn't for debuggers
same_start : (xs ys : List ℕ) → begins_with xs ys ≡ starts_with nat_eq ys xs
same_start [] ys = refl
same_start (x ∷ xs) [] = refl
same_start (x ∷ xs) (y ∷ ys) = ap (λ b. (x == y) && b) (same_start xs ys)

not_debug : (b : Bool) → not b ≡ true → has (global ∷ []) (chosen b debug_global global) ≡ true
not_debug true h = absurd (let e : false ≡ true = h in cc)
not_debug false h = refl

pub plain_global_reads : (name : List ℕ) → name_built name ≡ true → not (is_debug_name name) ≡ true → Reads plain_global name (global_text name)
plain_global_reads name h plain =
    record { ks = Global name ∷ []; scan = global_scanned name h; derives = (Global name, not_debug (begins_with (codes "llvm.dbg.") name) (ap not (same_start (codes "llvm.dbg.") name) ∙ plain), refl, refl) }

-- numbers
pub count_reads : (n : ℕ) → nat_lt n (2 ^ 32) ≡ true → Reads a_count n (decimal n)
count_reads n h =
    let small : n < 2 ^ 32 = ltb-true n (2 ^ 32) h in
    record {
      ks = Int (pos n) ∷ [];
      scan = number_scanned (pos n) (lt-ltb n (10 ^ 38) (omega arith));
      derives = (Int (pos n), ap (λ b. has (count ∷ []) (chosen b count number)) h, refl, refl);
    }

any_number : (b : Bool) → has (count ∷ number ∷ []) (chosen b count number) ≡ true
any_number true = refl
any_number false = refl

pub int_reads : (n : ℤ) → int_built n ≡ true → Reads an_int n (signed_decimal n)
int_reads n h = record { ks = Int n ∷ []; scan = number_scanned n h; derives = (Int n, any_number (is_count n), refl, refl) }

-- bytes
pub string_reads : (bs : List ℕ) → list_all (λ b. nat_lt b 256) bs ≡ true → Shut a_cstr bs (string_text bs)
string_reads bs h = record { ks = CStr bs ∷ []; scan = string_scanned bs h; derives = (CStr bs, refl, refl, refl) }
