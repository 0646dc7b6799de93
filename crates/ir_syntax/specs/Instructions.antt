-- Instructions, each with the alignment and the attachments that may stand behind it.
use Rattle.std.specs.Prelude.{ℕ, List, ◌∷◌, Option, Some, None, codes}
use Rattle.ir_core.specs.declared.ty.Ty.{Ty}
use Rattle.ir_core.specs.declared.operand.Operand.{Operand}
use Rattle.ir_core.specs.declared.operand.Operand.TheVariants as operand
use Rattle.ir_core.specs.declared.instruction.Op.{Op}
use Rattle.ir_core.specs.declared.instruction.Op.TheVariants as op_of
use Rattle.ir_core.specs.declared.instruction.Arg.{Arg}
use Rattle.ir_core.specs.declared.instruction.Entry.{Entry}
use Rattle.ir_core.specs.declared.instruction.Inst.{Inst}
use Rattle.ir_grammar.specs.Grammar.{Grammar, give, either, loop, ◌▸◌, ◌▹◌}
use Rattle.ir_grammar.specs.Parts.{the_word, the_mark, a_count, a_local, skip}
use Rattle.ir_syntax.specs.Words.{one_word, maybe, a_comma, plain_global, a_debug_global, plain_hash, a_debug_hash, aligned, bin_word, cast_word, pred_word, flag, convention, function_word}
use Rattle.ir_syntax.specs.Types.{ty, itype, rtype}
use Rattle.ir_syntax.specs.Values.{value}
use Rattle.ir_syntax.specs.Metadata.{pgroup, group, attach, attaches, align_tail}
use Rattle.ir_syntax.specs.Parameters.{pattr, args}

-- BIN { FLAG } type value "," value
unfoldable pub binary : Grammar Op
binary = give op_of.Bin ▸ bin_word ▹ skip flag ▸ ty ▸ value ▹ a_comma ▸ value ▹ attaches

-- "icmp" { FLAG } PRED type value "," value
unfoldable pub compare : Grammar Op
compare = give op_of.Compare ▹ the_word (codes "icmp") ▹ skip flag ▸ pred_word ▸ ty ▸ value ▹ a_comma ▸ value ▹ attaches

-- CAST { FLAG } type value "to" type
unfoldable pub cast : Grammar Op
cast = give op_of.Cast ▸ cast_word ▹ skip flag ▸ ty ▸ value ▹ the_word (codes "to") ▸ ty ▹ attaches

-- "select" "i1" value "," type value "," type value
unfoldable pub select : Grammar Op
select =
    give op_of.Select ▹ the_word (codes "select") ▹ the_word (codes "i1") ▸ value ▹ a_comma ▸ ty ▸ value ▹ a_comma ▸ ty ▸ value ▹ attaches

-- "freeze" type value
unfoldable pub freeze : Grammar Op
freeze = give op_of.Freeze ▹ the_word (codes "freeze") ▸ ty ▸ value ▹ attaches

-- itype Int [ "," "align" Int ] { "," attach } with the number, or "align" Int { "," attach }, or attach { "," attach }
unfoldable pub counted : Grammar ℕ
counted = either (give (λ n. n) ▹ itype ▸ a_count ▹ align_tail) (give 1 ▹ either aligned attach ▹ attaches)

-- [ "," itype Int ] [ "," "align" Int ] { "," attach }, with the number, which is 1 where none is written
unfoldable pub alloca_tail : Grammar ℕ
alloca_tail = either (give (λ n. n) ▹ a_comma ▸ counted) (give 1)

-- "alloca" type [ "," itype Int ] [ "," "align" Int ]
unfoldable pub alloca : Grammar Op
alloca = give op_of.Alloca ▹ the_word (codes "alloca") ▸ ty ▸ alloca_tail

-- "load" [ "volatile" ] type "," "ptr" value [ "," "align" Int ]
unfoldable pub load : Grammar Op
load =
    give op_of.Load ▹ the_word (codes "load") ▹ maybe (the_word (codes "volatile")) ▸ ty ▹ a_comma ▹ the_word (codes "ptr") ▸ value ▹ align_tail

-- type value
unfoldable pub index : Grammar Arg
index = give (λ t v. record { ty = t; value = v }) ▸ ty ▸ value

-- { "," type value } { "," attach }
unfoldable pub index_rows : Grammar (List Arg × Option (Unit {0}))
index_rows = loop a_comma index (attach ▹ attaches)

-- the same, with the values of the indices alone
unfoldable pub indices : Grammar (List Arg)
indices = give (λ is. is.0) ▸ index_rows

-- "getelementptr" { FLAG } type "," "ptr" value { "," type value }
unfoldable pub gep : Grammar Op
gep = give op_of.Gep ▹ the_word (codes "getelementptr") ▹ skip flag ▸ ty ▹ a_comma ▹ the_word (codes "ptr") ▸ value ▸ indices

-- entry = "[" value "," Local "]"
unfoldable pub entry : Grammar Entry
entry = give (λ v l. record { value = v; from = l }) ▹ the_mark 91 ▸ value ▹ a_comma ▸ a_local ▹ the_mark 93

-- { "," entry } { "," attach }
unfoldable pub entry_rows : Grammar (List Entry × Option (Unit {0}))
entry_rows = loop a_comma entry (attach ▹ attaches)

-- entry { "," entry } { "," attach }
unfoldable pub entries : Grammar (List Entry)
entries = give (λ e es. e ∷ es.0) ▸ entry ▸ entry_rows

-- "phi" type entry { "," entry }
unfoldable pub phi : Grammar Op
phi = give op_of.Phi ▹ the_word (codes "phi") ▸ ty ▸ entries

-- [ "tail" | "notail" ] "call"
unfoldable pub call_word : Grammar (Unit {0})
call_word = either (one_word (codes "tail notail") ▹ the_word (codes "call")) (the_word (codes "call"))

-- [ "tail" | "notail" ] "call" { CC } { pattr } rtype
unfoldable pub call_head : Grammar Ty
call_head = give (λ t. t) ▹ call_word ▹ skip convention ▹ skip pattr ▸ rtype

-- Global | Local, where the Global doesn't begin with `llvm.dbg.`
unfoldable pub callee : Grammar Operand
callee = either (give operand.Global ▸ plain_global) (give operand.Local ▸ a_local)

-- FWORD [ pgroup ]
unfoldable pub function_attribute : Grammar (Unit {0})
function_attribute = function_word ▹ maybe pgroup

-- Hash | FWORD [ pgroup ], where the Hash doesn't begin with `dbg_`
unfoldable pub call_attribute : Grammar (Unit {0})
call_attribute = either plain_hash function_attribute

-- { Hash | FWORD [ pgroup ] }, where the Hash doesn't begin with `dbg_`
unfoldable pub call_tail : Grammar (Unit {0})
call_tail = skip call_attribute

-- call = [ "tail" | "notail" ] "call" { CC } { pattr } rtype ( Global | Local ) "(" [ arg { "," arg } ] ")" { Hash | FWORD [ pgroup ] }
unfoldable pub call : Grammar Op
call = give op_of.Call ▸ call_head ▸ callee ▸ args ▹ call_tail ▹ attaches

-- op, and what may stand behind it
unfoldable pub op : Grammar Op
op = either binary (either compare (either cast (either select (either freeze (either alloca (either load (either gep (either phi call))))))))

-- "store" [ "volatile" ] type value "," "ptr" value [ "," "align" Int ]
unfoldable pub store : Grammar Op
store =
    give op_of.Store ▹ the_word (codes "store") ▹ maybe (the_word (codes "volatile")) ▸ ty ▸ value ▹ a_comma ▹ the_word (codes "ptr") ▸ value ▹ align_tail

-- what a call without a result name has behind its type: a callee and arguments, or a Global that begins
-- with `llvm.dbg.` and a pgroup, which leave no trace
unfoldable pub void_callee : Grammar (Ty → Option Op)
void_callee = either (give (λ t. None) ▹ a_debug_global ▹ pgroup) (give (λ f vs t. Some (op_of.Call t f vs)) ▸ callee ▸ args)

-- call, without a result name
unfoldable pub void_call : Grammar (Option Op)
void_call = give (λ t c. c t) ▸ call_head ▸ void_callee ▹ call_tail ▹ attaches

-- an instruction without a result name, where there is one
abbrev pub without_name : Option Op → Option Inst
without_name None = None
without_name (Some o) = Some (record { result = None; op = o })

-- Local "=" op { "," attach }
unfoldable pub named_inst : Grammar (Option Inst)
named_inst = give (λ n o. Some (record { result = Some n; op = o })) ▸ a_local ▹ the_mark 61 ▸ op

-- void { "," attach }
unfoldable pub void_inst : Grammar (Option Inst)
void_inst = give without_name ▸ either (give Some ▸ store) void_call

-- Hash group, where the Hash begins with `dbg_`: it leaves no trace
unfoldable pub debug_inst : Grammar (Option Inst)
debug_inst = give None ▹ a_debug_hash ▹ group

-- inst = Local "=" op { "," attach } | void { "," attach } | Hash group, where the Hash begins with `dbg_`
unfoldable pub inst : Grammar (Option Inst)
inst = either named_inst (either void_inst debug_inst)
