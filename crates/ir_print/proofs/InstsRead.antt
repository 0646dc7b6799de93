-- Instructions read back, a line each.
use Rattle.std.proofs.Common.{◌≡◌, ℕ, Bool, true, false, List, [], ◌++◌, Option, Some, None, refl, sym, ◌∙◌, append_assoc}
use Rattle.std.specs.Prelude.{codes, not, ◌&&◌}
use Rattle.std.proofs.lemmas.Bool.{and_parts}
use Rattle.ir_core.specs.declared.ty.Ty.{Ty}
use Rattle.ir_core.specs.declared.operand.Operand.{Operand}
use Rattle.ir_core.specs.declared.operand.Operand.TheVariants as operand
use Rattle.ir_core.specs.declared.instruction.Op.{Op}
use Rattle.ir_core.specs.declared.instruction.Op.TheVariants.{Bin, Compare, Cast, Select, Freeze, Alloca, Load, Store, Gep, Phi, Call}
use Rattle.ir_core.specs.declared.instruction.Arg.{Arg}
use Rattle.ir_core.specs.declared.instruction.Inst.{Inst}
use Rattle.ir_core.specs.Built.{name_built, result_built, built_all, arg_built, callee_built, is_debug_name, op_built, result_named, inst_built}
use Rattle.ir_lex.specs.Tokens.{is_run_byte, is_separator, is_mark}
use Rattle.ir_grammar.specs.Grammar.{Derives}
use Rattle.ir_syntax.specs.Words.{convention}
use Rattle.ir_syntax.specs.Metadata.{attaches}
use Rattle.ir_syntax.specs.Parameters.{pattr}
use Rattle.ir_syntax.specs.Instructions.{call_word, call_head, callee, call_attribute, call_tail, call, op, void_callee, void_call, named_inst, void_inst, without_name, inst}
use Rattle.ir_print.specs.Names.{local_text, with_commas}
use Rattle.ir_print.specs.Types.{type_text}
use Rattle.ir_print.specs.Values.{operand_text}
use Rattle.ir_print.specs.Instructions.{argument_text, op_text, result_text, inst_text}
use Rattle.ir_print.proofs.Derivations.{Reads, Shut, given, loose, value_open, value_shut, value_tight, word_shut, word_tight, none_shut, skipped_none, skip_shut, left_open, right_open, right_shut, same_shut, spaced, lined, indented, shut_word, shut_mark, tight}
use Rattle.ir_print.proofs.Singles.{local_reads, plain_global_reads}
use Rattle.ir_print.proofs.TypesRead.{result_reads}
use Rattle.ir_print.proofs.Operands.{args_read}
use Rattle.ir_print.proofs.OpsRead.{attaches_none, binary_reads, compare_reads, cast_op_reads, select_reads, freeze_reads, alloca_reads, load_reads, store_reads, gep_reads, phi_reads}

-- what stands in front of a callee
head_reads : (t : Ty) → result_built t ≡ true → Reads call_head t (codes "call " ++ type_text t)
unfolding call_head call_word is_run_byte is_separator is_mark
head_reads t h =
    value_open (skip_shut pattr (skip_shut convention (word_shut (given (λ (u : Ty). u)) (right_shut (shut_word (codes "call") (codes "call ") refl refl refl))))) (result_reads t h)

callee_reads : (f : Operand) → callee_built f ≡ true → Reads callee f (operand_text f)
unfolding callee operand_text
callee_reads (operand.Local name) h = right_open (value_open (given operand.Local) (local_reads name h))
callee_reads (operand.Global name) h =
    let parts = and_parts (name_built name) (not (is_debug_name name)) h in left_open (value_open (given operand.Global) (plain_global_reads name parts.0 parts.1))
callee_reads other h = absurd (let e : false ≡ true = h in cc)

call_tail_none : Derives call_tail tt []
unfolding call_tail
call_tail_none = skipped_none call_attribute

-- the text of a call, by its callee and its arguments
pub call_groups : (x f w : List ℕ) → (x ++ f) ++ (codes "(" ++ (w ++ codes ")")) ≡ x ++ f ++ codes "(" ++ w ++ codes ")"
call_groups x f w = sym (append_assoc (x ++ f ++ codes "(") w (codes ")") ∙ append_assoc (x ++ f) (codes "(") (w ++ codes ")"))

call_reads : (t : Ty) (f : Operand) (vs : List Arg) → op_built (Call t f vs) ≡ true → Reads call (Call t f vs) (op_text (Call t f vs))
unfolding call op_text
call_reads t f vs h =
    let parts = and_parts (result_built t) (callee_built f && built_all arg_built vs) h in
    let more = and_parts (callee_built f) (built_all arg_built vs) parts.1 in
    loose
    (same_shut (call_groups (codes "call " ++ type_text t ++ codes " ") (operand_text f) (with_commas argument_text vs))
    (none_shut attaches tt attaches_none
    (none_shut call_tail tt call_tail_none
    (value_tight (value_open (spaced (value_open (given Call) (head_reads t parts.0))) (callee_reads f more.0)) (args_read vs more.1)))))

-- a call without a name
void_callee_reads : (f : Operand) (vs : List Arg) → callee_built f ≡ true → built_all arg_built vs ≡ true → Shut void_callee (λ t. Some (Call t f vs)) (operand_text f ++ (codes "(" ++ (with_commas argument_text vs ++ codes ")")))
unfolding void_callee
void_callee_reads f vs h k =
    let make : Operand → List Arg → Ty → Option Op = λ g us t. Some (Call t g us) in right_shut (value_tight (value_open (given make) (callee_reads f h)) (args_read vs k))

void_call_reads : (t : Ty) (f : Operand) (vs : List Arg) → op_built (Call t f vs) ≡ true → Reads void_call (Some (Call t f vs)) (op_text (Call t f vs))
unfolding void_call op_text
void_call_reads t f vs h =
    let parts = and_parts (result_built t) (callee_built f && built_all arg_built vs) h in
    let more = and_parts (callee_built f) (built_all arg_built vs) parts.1 in
    let make : Ty → (Ty → Option Op) → Option Op = λ u c. c u in
    let head : List ℕ = codes "call " ++ type_text t ++ codes " " in
    let args : List ℕ = codes "(" ++ (with_commas argument_text vs ++ codes ")") in
    loose
    (same_shut (sym (append_assoc head (operand_text f) args) ∙ call_groups head (operand_text f) (with_commas argument_text vs))
    (none_shut attaches tt attaches_none
    (none_shut call_tail tt call_tail_none
    (value_shut (spaced (value_open (given make) (head_reads t parts.0))) (void_callee_reads f vs more.0 more.1)))))

-- an operation that may have a name
abbrev is_store : Op → Bool
is_store (Store t v p) = true
is_store other = false

op_reads : (o : Op) → is_store o ≡ false → op_built o ≡ true → Reads op o (op_text o)
unfolding op
op_reads (Bin k t a b) s h = left_open (binary_reads k t a b h)
op_reads (Compare k t a b) s h = right_open (left_open (compare_reads k t a b h))
op_reads (Cast k t a u) s h = right_open (right_open (left_open (cast_op_reads k t a u h)))
op_reads (Select c t a u b) s h = right_open (right_open (right_open (left_open (select_reads c t a u b h))))
op_reads (Freeze t a) s h = right_open (right_open (right_open (right_open (left_open (freeze_reads t a h)))))
op_reads (Alloca t n) s h = right_open (right_open (right_open (right_open (right_open (left_open (alloca_reads t n h))))))
op_reads (Load t p) s h = right_open (right_open (right_open (right_open (right_open (right_open (left_open (load_reads t p h)))))))
op_reads (Gep t p is) s h = right_open (right_open (right_open (right_open (right_open (right_open (right_open (left_open (gep_reads t p is h))))))))
op_reads (Phi t es) s h = right_open (right_open (right_open (right_open (right_open (right_open (right_open (right_open (left_open (phi_reads t es h)))))))))
op_reads (Call t f vs) s h = right_open (right_open (right_open (right_open (right_open (right_open (right_open (right_open (right_open (call_reads t f vs h)))))))))
op_reads (Store t v p) s h = absurd (let e : true ≡ false = s in cc)

-- a line with a name
named_reads : (name : List ℕ) (o : Op) → name_built name ≡ true → is_store o ≡ false → op_built o ≡ true → Reads inst (Some (record { result = Some name; op = o })) (local_text name ++ codes " = " ++ op_text o)
unfolding inst named_inst is_run_byte is_separator is_mark
named_reads name o h s k =
    let make : List ℕ → Op → Option Inst = λ n p. Some (record { result = Some n; op = p }) in
    left_open (value_open (word_tight (value_open (given make) (local_reads name h)) (tight refl (shut_mark 61 (codes " = ") refl refl refl))) (op_reads o s k))

-- lines without a name
store_line : (t : Ty) (v p : Operand) → op_built (Store t v p) ≡ true → Reads inst (Some (record { result = None; op = Store t v p })) (op_text (Store t v p))
unfolding inst void_inst
store_line t v p h = let some : Op → Option Op = Some in right_open (left_open (value_open (given without_name) (left_open (value_open (given some) (store_reads t v p h)))))

call_line : (t : Ty) (f : Operand) (vs : List Arg) → op_built (Call t f vs) ≡ true → Reads inst (Some (record { result = None; op = Call t f vs })) (op_text (Call t f vs))
unfolding inst void_inst
call_line t f vs h = right_open (left_open (value_open (given without_name) (right_open (void_call_reads t f vs h))))

line_reads : (o : Op) (r : Option (List ℕ)) → op_built o ≡ true → result_named o r ≡ true → Reads inst (Some (record { result = r; op = o })) (result_text r ++ op_text o)
line_reads (Store t v p) (Some name) h k = absurd (let e : false ≡ true = k in cc)
line_reads (Store t v p) None h k = store_line t v p h
line_reads (Call t f vs) None h k = call_line t f vs h
line_reads o (Some name) h k = named_reads name o k refl h
line_reads o None h k = absurd (let e : false ≡ true = k in cc)

-- a built instruction reads back
pub inst_reads : (i : Inst) → inst_built i ≡ true → Shut inst (Some i) (inst_text i)
unfolding inst_text
inst_reads i h = let parts = and_parts (op_built i.op) (result_named i.op i.result) h in lined (indented (line_reads i.op i.result parts.0 parts.1))
