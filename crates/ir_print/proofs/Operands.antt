-- Operands read back, and types with operands behind them.
use Rattle.std.proofs.Common.{◌≡◌, ℕ, true, false, List, ◌++◌, refl, ap, append_assoc, inl, inr, ℤ}
use Rattle.std.specs.Prelude.{codes, ◌&&◌}
use Rattle.std.specs.Fmt.{signed_decimal}
use Rattle.std.proofs.lemmas.Bool.{and_parts}
use Rattle.ir_core.specs.declared.ty.Ty.{Ty}
use Rattle.ir_core.specs.declared.operand.Operand.{Operand}
use Rattle.ir_core.specs.declared.operand.Operand.TheVariants.{Int, Bool, Null, Undef, Poison, Local, Global, Const}
use Rattle.ir_core.specs.declared.operand.Place0.{Place0}
use Rattle.ir_core.specs.declared.operand.Index0.{Index0}
use Rattle.ir_core.specs.declared.instruction.Arg.{Arg}
use Rattle.ir_core.specs.Built.{name_built, int_built, type_built, built_all, index_built, operand_built, value_built, case_value_built, arg_built}
use Rattle.ir_lex.specs.Tokens.{is_run_byte, is_separator, is_mark}
use Rattle.ir_syntax.specs.Words.{flag}
use Rattle.ir_syntax.specs.Values.{const_value, plain_value, place_index, place, fixed_value, value}
use Rattle.ir_syntax.specs.Parameters.{pattr, arg, args}
use Rattle.ir_syntax.specs.Instructions.{index}
use Rattle.ir_print.specs.Names.{global_text, with_commas}
use Rattle.ir_print.specs.Types.{type_text}
use Rattle.ir_print.specs.Values.{literal_index_text, literal_indices_text, place_text, operand_text}
use Rattle.ir_print.specs.Instructions.{typed_text, argument_text}
use Rattle.ir_print.proofs.Derivations.{Reads, Tight, given, loose, value_open, value_shut, value_trails, word_shut, word_tight, skip_shut, left_open, right_open, same_shut, spaced, read_word, shut_word, shut_mark, tight, comma}
use Rattle.ir_print.proofs.Rows.{all_reads, each_built, behind_commas, listed_any}
use Rattle.ir_print.proofs.Singles.{at_word, local_reads, global_reads, int_reads}
use Rattle.ir_print.proofs.TypesRead.{type_reads}

-- a literal index
index_of_place : (i : Index0) → index_built i ≡ true → Reads place_index i (literal_index_text i)
unfolding place_index
index_of_place i h =
    let parts = and_parts (type_built i.ty) (int_built i.value) h in
    value_open (spaced (value_open (given (λ (t : Ty) (n : ℤ). let r : Index0 = record { ty = t; value = n } in r)) (type_reads i.ty parts.0))) (int_reads i.value parts.1)

-- a constant place
place_reads : (p : Place0) → (type_built p.source && (name_built p.base && built_all index_built p.indices)) ≡ true → Reads place p (place_text p)
unfolding place place_text literal_indices_text is_run_byte is_separator is_mark
place_reads p h =
    let parts = and_parts (type_built p.source) (name_built p.base && built_all index_built p.indices) h in
    let more = and_parts (name_built p.base) (built_all index_built p.indices) parts.1 in
    let make : Ty → List ℕ → List Index0 → Place0 = λ t g is. record { source = t; base = g; indices = is } in
    let rows = behind_commas place_index literal_index_text p.indices (all_reads place_index literal_index_text index_built index_of_place p.indices (each_built index_built p.indices more.1)) in
    let head = word_shut (skip_shut flag (word_shut (given make) (shut_word (codes "getelementptr") (codes "getelementptr ") refl refl refl))) (shut_mark 40 (codes "(") refl refl refl) in
    let source = word_shut (word_tight (value_open head (type_reads p.source parts.0)) comma) (shut_word (codes "ptr") (codes "ptr ") refl refl refl) in
    loose
    (same_shut (ap (λ t. t ++ global_text p.base ++ literal_indices_text p.indices ++ codes ")") (append_assoc (codes "getelementptr (" ++ type_text p.source) (codes ", ") (codes "ptr ")))
    (word_tight (value_trails (value_open source (global_reads p.base more.0)) rows) (tight refl (shut_mark 41 (codes ")") refl refl refl))))

-- numbers and truth values
int_const : (n : ℤ) → int_built n ≡ true → Reads const_value (Int n) (signed_decimal n)
unfolding const_value
int_const n h = left_open (value_open (given Int) (int_reads n h))

true_const : Reads const_value (Bool true) (codes "true")
unfolding const_value is_run_byte
true_const = right_open (read_word (codes "true") refl (inl (at_word (codes "true") (Bool true) refl)))

false_const : Reads const_value (Bool false) (codes "false")
unfolding const_value is_run_byte
false_const = right_open (read_word (codes "false") refl (inr (at_word (codes "false") (Bool false) refl)))

pub case_value_reads : (v : Operand) → case_value_built v ≡ true → Reads const_value v (operand_text v)
unfolding operand_text
case_value_reads (Int n) h = int_const n h
case_value_reads (Bool true) h = true_const
case_value_reads (Bool false) h = false_const
case_value_reads Null h = absurd (let e : false ≡ true = h in cc)
case_value_reads Undef h = absurd (let e : false ≡ true = h in cc)
case_value_reads Poison h = absurd (let e : false ≡ true = h in cc)
case_value_reads (Local name) h = absurd (let e : false ≡ true = h in cc)
case_value_reads (Global name) h = absurd (let e : false ≡ true = h in cc)
case_value_reads (Const p) h = absurd (let e : false ≡ true = h in cc)

-- values that are one token
const_plain : (v : Operand) (t : List ℕ) → Reads const_value v t → Reads plain_value v t
unfolding plain_value
const_plain v t x = left_open x

null_plain : Reads plain_value Null (codes "null")
unfolding plain_value is_run_byte
null_plain = right_open (left_open (read_word (codes "null") refl (inl (at_word (codes "null") Null refl))))

undef_plain : Reads plain_value Undef (codes "undef")
unfolding plain_value is_run_byte
undef_plain = right_open (left_open (read_word (codes "undef") refl (inr (inl (at_word (codes "undef") Undef refl)))))

poison_plain : Reads plain_value Poison (codes "poison")
unfolding plain_value is_run_byte
poison_plain = right_open (left_open (read_word (codes "poison") refl (inr (inr (at_word (codes "poison") Poison refl)))))

global_plain : (name : List ℕ) → name_built name ≡ true → Reads plain_value (Global name) (global_text name)
unfolding plain_value
global_plain name h = right_open (right_open (value_open (given Global) (global_reads name h)))

-- any operand
pub operand_reads : (v : Operand) → operand_built v ≡ true → Reads value v (operand_text v)
unfolding value operand_text
operand_reads (Int n) h = left_open (const_plain (Int n) (signed_decimal n) (int_const n h))
operand_reads (Bool true) h = left_open (const_plain (Bool true) (codes "true") true_const)
operand_reads (Bool false) h = left_open (const_plain (Bool false) (codes "false") false_const)
operand_reads Null h = left_open null_plain
operand_reads Undef h = left_open undef_plain
operand_reads Poison h = left_open poison_plain
operand_reads (Local name) h = right_open (left_open (value_open (given Local) (local_reads name h)))
operand_reads (Global name) h = left_open (global_plain name h)
operand_reads (Const p) h = right_open (right_open (value_open (given Const) (place_reads p h)))

-- an operand of an initialiser
pub fixed_reads : (v : Operand) → value_built v ≡ true → Reads fixed_value v (operand_text v)
unfolding fixed_value operand_text
fixed_reads (Int n) h = left_open (const_plain (Int n) (signed_decimal n) (int_const n h))
fixed_reads (Bool true) h = left_open (const_plain (Bool true) (codes "true") true_const)
fixed_reads (Bool false) h = left_open (const_plain (Bool false) (codes "false") false_const)
fixed_reads Null h = left_open null_plain
fixed_reads Undef h = left_open undef_plain
fixed_reads Poison h = left_open poison_plain
fixed_reads (Local name) h = absurd (let e : false ≡ true = h in cc)
fixed_reads (Global name) h = left_open (global_plain name h)
fixed_reads (Const p) h = right_open (value_open (given Const) (place_reads p h))

-- an argument and an index
abbrev make_arg : Ty → Operand → Arg
make_arg t v = record { ty = t; value = v }

pub arg_reads : (a : Arg) → arg_built a ≡ true → Reads arg a (argument_text a)
unfolding arg typed_text
arg_reads a h =
    let parts = and_parts (type_built a.ty) (operand_built a.value) h in
    value_open (skip_shut pattr (spaced (value_open (given make_arg) (type_reads a.ty parts.0)))) (operand_reads a.value parts.1)

pub index_reads : (a : Arg) → arg_built a ≡ true → Reads index a (argument_text a)
unfolding index typed_text
index_reads a h =
    let parts = and_parts (type_built a.ty) (operand_built a.value) h in
    value_open (spaced (value_open (given make_arg) (type_reads a.ty parts.0))) (operand_reads a.value parts.1)

-- arguments in brackets
pub args_read : (vs : List Arg) → built_all arg_built vs ≡ true → Tight args vs (codes "(" ++ (with_commas argument_text vs ++ codes ")"))
unfolding args is_run_byte is_separator is_mark
args_read vs h =
    tight refl
    (value_shut (word_shut (given (λ (xs : List Arg). xs)) (shut_mark 40 (codes "(") refl refl refl))
    (listed_any arg argument_text 41 (codes ")") vs (all_reads arg argument_text arg_built arg_reads vs (each_built arg_built vs h)) (tight refl (shut_mark 41 (codes ")") refl refl refl))))
