-- The lists of words, and single tokens with their values.
use Rattle.std.specs.Prelude.{ℕ, ℤ, pos, ◌==◌, if◌then◌else◌, List, [], ◌∷◌, ◌++◌, codes}
use Rattle.ir_lex.specs.declared.token.TokenKind.{TokenKind}
use Rattle.ir_lex.specs.declared.token.TokenKind.TheVariants as kind
use Rattle.ir_core.specs.declared.instruction.BinOp.{BinOp}
use Rattle.ir_core.specs.declared.instruction.BinOp.TheVariants as bin
use Rattle.ir_core.specs.declared.instruction.Pred.{Pred}
use Rattle.ir_core.specs.declared.instruction.Pred.TheVariants as ask
use Rattle.ir_core.specs.declared.instruction.CastOp.{CastOp}
use Rattle.ir_core.specs.declared.instruction.CastOp.TheVariants as cast
use Rattle.ir_grammar.specs.Tokens.{Sort, word, count, number, str, cstr, global, debug_global, hash, debug_hash, name_of}
use Rattle.ir_grammar.specs.Grammar.{Grammar, give, token, either, ◌▹◌}
use Rattle.ir_grammar.specs.Parts.{the_word, the_mark, a_count}

-- the words of a text, whose first has begun with these bytes; one space stands between two words
abbrev pub words_from : List ℕ → List ℕ → List Sort
words_from w [] = word w ∷ []
words_from w (b ∷ bs) = if b == 32 then word w ∷ words_from [] bs else words_from (w ++ b ∷ []) bs

-- a token of one of these sorts, without a value
abbrev pub one_of : List Sort → Grammar (Unit {0})
one_of [] = give tt
one_of (s ∷ ss) = token s ss (λ _. tt)

-- one of the words of a text, without a value
abbrev pub one_word : List ℕ → Grammar (Unit {0})
one_word text = one_of (words_from [] text)

-- one of some words, with the value that stands beside it
abbrev pub by_word : {A : Type 0} → List ℕ × A → List (List ℕ × A) → Grammar A
by_word p [] = token (word p.0) [] (λ _. p.1)
by_word p (q ∷ ps) = either (token (word p.0) [] (λ _. p.1)) (by_word q ps)

-- this or nothing, without a value
abbrev pub maybe : Grammar (Unit {0}) → Grammar (Unit {0})
maybe g = either g (give tt)

-- ","
abbrev pub a_comma : Grammar (Unit {0})
a_comma = the_mark 44

-- the number of a token that is one
abbrev pub int_of : TokenKind → ℤ
int_of (kind.Int n) = n
int_of _ = pos 0

-- Int
abbrev pub an_int : Grammar ℤ
an_int = token count (number ∷ []) int_of

-- the bytes of a string between `c"` and `"`
abbrev pub bytes_of : TokenKind → List ℕ
bytes_of (kind.CStr bytes) = bytes
bytes_of _ = []

-- CStr
abbrev pub a_cstr : Grammar (List ℕ)
a_cstr = token cstr [] bytes_of

-- Str
abbrev pub a_str : Grammar (Unit {0})
a_str = one_of (str ∷ [])

-- a Global whose name doesn't begin with `llvm.dbg.`
abbrev pub plain_global : Grammar (List ℕ)
plain_global = token global [] name_of

-- a Global whose name begins with `llvm.dbg.`
abbrev pub a_debug_global : Grammar (Unit {0})
a_debug_global = one_of (debug_global ∷ [])

-- a Hash that doesn't begin with `dbg_`
abbrev pub plain_hash : Grammar (Unit {0})
plain_hash = one_of (hash ∷ [])

-- a Hash that begins with `dbg_`
abbrev pub a_debug_hash : Grammar (Unit {0})
a_debug_hash = one_of (debug_hash ∷ [])

-- Hash
abbrev pub a_hash : Grammar (Unit {0})
a_hash = one_of (hash ∷ debug_hash ∷ [])

-- "align" Int
abbrev pub aligned : Grammar (Unit {0})
aligned = the_word (codes "align") ▹ a_count

-- "section" Str
abbrev pub in_section : Grammar (Unit {0})
in_section = the_word (codes "section") ▹ a_str

-- BIN
unfoldable pub bin_word : Grammar BinOp
bin_word =
    by_word (codes "add", bin.Add)
    ((codes "sub", bin.Sub) ∷ (codes "mul", bin.Mul) ∷ (codes "udiv", bin.Udiv) ∷ (codes "sdiv", bin.Sdiv) ∷ (codes "urem", bin.Urem)
    ∷ (codes "srem", bin.Srem) ∷ (codes "shl", bin.Shl) ∷ (codes "lshr", bin.Lshr) ∷ (codes "ashr", bin.Ashr) ∷ (codes "and", bin.And)
    ∷ (codes "or", bin.Or) ∷ (codes "xor", bin.Xor) ∷ [])

-- CAST
unfoldable pub cast_word : Grammar CastOp
cast_word = by_word (codes "trunc", cast.Trunc) ((codes "zext", cast.Zext) ∷ (codes "sext", cast.Sext) ∷ [])

-- PRED
unfoldable pub pred_word : Grammar Pred
pred_word =
    by_word (codes "eq", ask.Eq)
    ((codes "ne", ask.Ne) ∷ (codes "ult", ask.Ult) ∷ (codes "ule", ask.Ule) ∷ (codes "ugt", ask.Ugt) ∷ (codes "uge", ask.Uge)
    ∷ (codes "slt", ask.Slt) ∷ (codes "sle", ask.Sle) ∷ (codes "sgt", ask.Sgt) ∷ (codes "sge", ask.Sge) ∷ [])

-- FLAG
unfoldable pub flag : Grammar (Unit {0})
flag = one_word (codes "nuw nsw exact inbounds nusw disjoint nneg samesign")

-- LINK
unfoldable pub link : Grammar (Unit {0})
link = one_word (codes "private internal common linkonce linkonce_odr weak weak_odr dso_local dso_preemptable default hidden protected unnamed_addr local_unnamed_addr externally_initialized ccc fastcc coldcc")

-- CC
unfoldable pub convention : Grammar (Unit {0})
convention = one_word (codes "ccc fastcc coldcc")

-- PWORD
unfoldable pub parameter_word : Grammar (Unit {0})
parameter_word = one_word (codes "noundef zeroext signext nonnull noalias nocapture nofree readonly readnone writeonly returned immarg writable dead_on_unwind dereferenceable dereferenceable_or_null sret captures range initializes")

-- FWORD
unfoldable pub function_word : Grammar (Unit {0})
function_word = one_word (codes "unnamed_addr local_unnamed_addr nounwind noreturn uwtable noinline optnone alwaysinline mustprogress willreturn norecurse nofree nosync nocallback cold hot memory readnone readonly writeonly")

-- the words that no text of the profile has at their place
unfoldable pub unsupported_words : List Sort
unsupported_words =
    words_from []
    (codes "half bfloat float double fp128 x86_fp80 ppc_fp128 i128 x86_mmx token opaque ptrtoint inttoptr addrspacecast bitcast fadd fsub fmul fdiv frem fneg fcmp fptrunc fpext fptoui fptosi uitofp sitofp extractvalue insertvalue extractelement insertelement shufflevector invoke resume landingpad cleanupret catchret catchswitch catchpad cleanuppad callbr indirectbr musttail va_arg fence cmpxchg atomicrmw atomic asm module alias ifunc external extern_weak available_externally appending thread_local comdat personality gc prefix prologue byval byref preallocated inalloca inreg nest swiftself swifterror addrspace blockaddress dso_local_equivalent no_cfi splat ... x86_intrcc")
