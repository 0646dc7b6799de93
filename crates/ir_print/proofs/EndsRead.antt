-- Terminators read back.
use Rattle.std.proofs.Common.{◌≡◌, ℕ, true, List, ◌++◌, refl}
use Rattle.std.specs.Prelude.{codes, ◌&&◌}
use Rattle.std.proofs.lemmas.Bool.{and_parts}
use Rattle.ir_core.specs.declared.ty.Ty.{Ty}
use Rattle.ir_core.specs.declared.operand.Operand.{Operand}
use Rattle.ir_core.specs.declared.instruction.Term.{Term}
use Rattle.ir_core.specs.declared.instruction.Term.TheVariants.{Ret, RetValue, Br, BrIf, Switch, Unreachable}
use Rattle.ir_core.specs.declared.instruction.Case.{Case}
use Rattle.ir_core.specs.Built.{name_built, type_built, built_all, operand_built, typed_built, case_value_built, case_built, end_built}
use Rattle.ir_lex.specs.Tokens.{is_run_byte, is_separator, is_mark}
use Rattle.ir_syntax.specs.Metadata.{attaches}
use Rattle.ir_syntax.specs.Terminators.{target, ret, br, case, switch, unreachable, ending, term}
use Rattle.ir_print.specs.Values.{operand_text}
use Rattle.ir_print.specs.Instructions.{typed_text}
use Rattle.ir_print.specs.Terminators.{target_text, case_text, term_text, end_text}
use Rattle.ir_print.proofs.Derivations.{Reads, Shut, given, loose, value_open, value_shut, word_open, word_shut, word_tight, none_open, left_open, right_open, spaced, lined, indented, read_word, shut_word, shut_mark, tight, comma}
use Rattle.ir_print.proofs.Rows.{all_shut, each_built, row_shut}
use Rattle.ir_print.proofs.Singles.{at_word, local_reads}
use Rattle.ir_print.proofs.TypesRead.{type_reads}
use Rattle.ir_print.proofs.Operands.{operand_reads, case_value_reads}
use Rattle.ir_print.proofs.OpsRead.{attaches_none, typed}

-- a label that a block goes to
target_reads : (name : List ℕ) → name_built name ≡ true → Reads target name (target_text name)
unfolding target is_run_byte is_separator is_mark
target_reads name h = value_open (word_shut (given (λ (l : List ℕ). l)) (shut_word (codes "label") (codes "label ") refl refl refl)) (local_reads name h)

-- a return
ret_void_reads : Reads ret Ret (codes "ret void")
unfolding ret is_run_byte is_separator is_mark
ret_void_reads =
    value_open (word_shut (given (λ (t : Term). t)) (shut_word (codes "ret") (codes "ret ") refl refl refl))
    (left_open (word_open (given Ret) (read_word (codes "void") refl (at_word (codes "void") tt refl))))

ret_value_reads : (t : Ty) (v : Operand) → typed_built t v ≡ true → Reads ret (RetValue t v) (codes "ret " ++ typed_text t v)
unfolding ret is_run_byte is_separator is_mark
ret_value_reads t v h = value_open (word_shut (given (λ (u : Term). u)) (shut_word (codes "ret") (codes "ret ") refl refl refl)) (right_open (typed t v h (given RetValue)))

-- a branch
br_reads : (to : List ℕ) → name_built to ≡ true → Reads br (Br to) (codes "br " ++ target_text to)
unfolding br is_run_byte is_separator is_mark
br_reads to h = value_open (word_shut (given (λ (u : Term). u)) (shut_word (codes "br") (codes "br ") refl refl refl)) (left_open (value_open (given Br) (target_reads to h)))

br_if_reads : (c : Operand) (taken other : List ℕ) → end_built (BrIf c taken other) ≡ true → Reads br (BrIf c taken other) (codes "br i1 " ++ operand_text c ++ codes ", " ++ target_text taken ++ codes ", " ++ target_text other)
unfolding br is_run_byte is_separator is_mark
br_if_reads c taken other h =
    let parts = and_parts (operand_built c) (name_built taken && name_built other) h in
    let names = and_parts (name_built taken) (name_built other) parts.1 in
    value_open (word_shut (given (λ (u : Term). u)) (shut_word (codes "br") (codes "br ") refl refl refl))
    (right_open
    (value_open
    (word_tight (value_open (word_tight (value_open (word_shut (given BrIf) (shut_word (codes "i1") (codes "i1 ") refl refl refl)) (operand_reads c parts.0)) comma) (target_reads taken names.0)) comma)
    (target_reads other names.1)))

-- a case
case_reads : (c : Case) → case_built c ≡ true → Shut case c (case_text c)
unfolding case typed_text
case_reads c h =
    let parts = and_parts (type_built c.ty) (case_value_built c.value && name_built c.to) h in
    let more = and_parts (case_value_built c.value) (name_built c.to) parts.1 in
    let make : Ty → Operand → List ℕ → Case = λ t v l. record { ty = t; value = v; to = l } in
    spaced (value_open (word_tight (value_open (spaced (value_open (given make) (type_reads c.ty parts.0))) (case_value_reads c.value more.0)) comma) (target_reads c.to more.1))

switch_reads : (t : Ty) (v : Operand) (other : List ℕ) (cases : List Case) → end_built (Switch t v other cases) ≡ true → Reads switch (Switch t v other cases) (term_text (Switch t v other cases))
unfolding switch term_text is_run_byte is_separator is_mark
switch_reads t v other cases h =
    let parts = and_parts (typed_built t v) (name_built other && built_all case_built cases) h in
    let more = and_parts (name_built other) (built_all case_built cases) parts.1 in
    let rows = row_shut case case_text cases (all_shut case case_text case_built case_reads cases (each_built case_built cases more.1)) in
    let head = word_shut (given Switch) (shut_word (codes "switch") (codes "switch ") refl refl refl) in
    let front = word_tight (value_open (word_tight (typed t v parts.0 head) comma) (target_reads other more.0)) (tight refl (shut_mark 91 (codes " [ ") refl refl refl)) in
    loose (word_shut (value_shut front rows) (shut_mark 93 (codes "]") refl refl refl))

unreachable_reads : Reads unreachable Unreachable (codes "unreachable")
unfolding unreachable is_run_byte
unreachable_reads = word_open (given Unreachable) (read_word (codes "unreachable") refl (at_word (codes "unreachable") tt refl))

-- any end
ending_reads : (e : Term) → end_built e ≡ true → Reads ending e (term_text e)
unfolding ending term_text
ending_reads Ret h = left_open ret_void_reads
ending_reads (RetValue t v) h = left_open (ret_value_reads t v h)
ending_reads (Br to) h = right_open (left_open (br_reads to h))
ending_reads (BrIf c taken other) h = right_open (left_open (br_if_reads c taken other h))
ending_reads (Switch t v other cases) h = right_open (right_open (left_open (switch_reads t v other cases h)))
ending_reads Unreachable h = right_open (right_open (right_open unreachable_reads))

pub end_reads : (e : Term) → end_built e ≡ true → Shut term e (end_text e)
unfolding term end_text
end_reads e h = lined (indented (none_open attaches tt attaches_none (value_open (given (λ (t : Term). t)) (ending_reads e h))))
