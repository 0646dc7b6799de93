-- Blocks, parameters, functions and declarations read back.
use Rattle.std.proofs.Common.{◌≡◌, ℕ, suc, true, false, List, [], ◌∷◌, ◌++◌, Option, Some, None, refl, sym, ap, ◌∙◌, subst, append_assoc, map, flat_map, inr}
use Rattle.std.specs.Prelude.{codes, decimal, not, ◌&&◌, option_to_list, if◌then◌else◌}
use Rattle.std.specs.List.{list_all}
use Rattle.std.proofs.lemmas.Bool.{and_parts}
use Rattle.ir_core.specs.declared.ty.Ty.{Ty}
use Rattle.ir_core.specs.declared.instruction.Inst.{Inst}
use Rattle.ir_core.specs.declared.instruction.Term.{Term}
use Rattle.ir_core.specs.declared.module.Block.{Block}
use Rattle.ir_core.specs.declared.module.Param.{Param}
use Rattle.ir_core.specs.declared.module.Function.{Function}
use Rattle.ir_core.specs.declared.module.Extern.{Extern}
use Rattle.ir_core.specs.Built.{name_built, type_built, result_built, built_all, is_debug_name, inst_built, end_built, block_built, blocks_built, param_built, function_built, extern_built}
use Rattle.ir_lex.specs.Tokens.{is_run_byte, is_separator, is_mark}
use Rattle.ir_grammar.specs.Grammar.{optional, Derives}
use Rattle.ir_grammar.specs.Tokens.{local, is_digits}
use Rattle.ir_grammar.specs.Parts.{a_label}
use Rattle.ir_syntax.specs.declared.item.Item.{Item}
use Rattle.ir_syntax.specs.declared.item.Item.TheVariants as item_of
use Rattle.ir_syntax.specs.declared.parameter.Written.{Written}
use Rattle.ir_syntax.specs.declared.parameter.NamedParams.{NamedParams}
use Rattle.ir_syntax.specs.Words.{link, maybe, one_of}
use Rattle.ir_syntax.specs.Metadata.{attach}
use Rattle.ir_syntax.specs.Parameters.{pattr, param, params, declared_param, declared_params, naming, named_from, name_or}
use Rattle.ir_syntax.specs.Instructions.{inst}
use Rattle.ir_syntax.specs.Functions.{insts, block, labelled, body, declared_tail, defined_tail, define, declared, declare}
use Rattle.ir_print.specs.Names.{local_text, global_text, label_text, after_commas, with_commas}
use Rattle.ir_print.specs.Types.{type_text}
use Rattle.ir_print.specs.Instructions.{inst_text}
use Rattle.ir_print.specs.Terminators.{end_text}
use Rattle.ir_print.specs.Canonical.{parameter_text, block_text, function_text, extern_text}
use Rattle.ir_print.proofs.Derivations.{Reads, Shut, Tight, given, value_open, value_shut, value_tight, word_shut, none_open, skip_open, skip_shut, left_open, left_shut, right_shut, same_shut, gap_shut, spaced, shut_word, shut_mark, tight}
use Rattle.ir_print.proofs.Rows.{AllRead, all_reads, all_shut, each_built, row_shut, row_made, listed_any}
use Rattle.ir_print.proofs.Singles.{local_reads, label_reads, global_reads, plain_global_reads}
use Rattle.ir_print.proofs.TypesRead.{type_reads, result_reads}
use Rattle.ir_print.proofs.InstsRead.{inst_reads, call_groups}
use Rattle.ir_print.proofs.EndsRead.{end_reads}

-- a block's instructions, of which none is dropped
all_kept : (is : List Inst) → flat_map option_to_list (map (λ (i : Inst). Some i) is) ≡ is
all_kept [] = refl
all_kept (i ∷ is) = ap (λ js. i ∷ js) (all_kept is)

insts_read : (is : List Inst) → built_all inst_built is ≡ true → Shut insts is (flat_map inst_text is)
unfolding insts
insts_read is h =
    let some : Inst → Option Inst = λ i. Some i in
    let keep : List (Option Inst) → List Inst = λ js. flat_map option_to_list js in
    subst (λ js. Shut insts js (flat_map inst_text is)) (all_kept is) (value_shut (given keep) (row_made inst some inst_text inst_built inst_reads is (each_built inst_built is h)))

-- a block without its label
inner_reads : (is : List Inst) (e : Term) → built_all inst_built is ≡ true → end_built e ≡ true → Shut block (λ l. record { label = l; insts = is; end = e }) (flat_map inst_text is ++ end_text e)
unfolding block
inner_reads is e h k =
    let make : List Inst → Term → List ℕ → Block = λ js t l. record { label = l; insts = js; end = t } in value_shut (value_shut (given make) (insts_read is h)) (end_reads e k)

-- a block's text, by its label and the rest
block_groups : (b : Block) → (label_text b.label ++ codes "\n") ++ (flat_map inst_text b.insts ++ end_text b.end) ≡ block_text b
unfolding block_text
block_groups b = sym (append_assoc (label_text b.label ++ codes "\n") (flat_map inst_text b.insts) (end_text b.end))

labelled_reads : (b : Block) → block_built b ≡ true → Shut labelled b (block_text b)
unfolding labelled is_run_byte is_separator is_mark
labelled_reads b h =
    let parts = and_parts (name_built b.label) (built_all inst_built b.insts && end_built b.end) h in
    let more = and_parts (built_all inst_built b.insts) (end_built b.end) parts.1 in
    let make : List ℕ → (List ℕ → Block) → Block = λ l k. k l in
    same_shut (block_groups b) (value_shut (gap_shut (codes "\n") refl refl (value_shut (given make) (label_reads b.label parts.0))) (inner_reads b.insts b.end more.0 more.1))

-- the blocks of a function, of which the first has its label
body_reads : (bs : List Block) → blocks_built bs ≡ true → Shut body (λ n. bs) (flat_map block_text bs)
unfolding body is_run_byte is_separator is_mark
body_reads [] h = absurd (let e : false ≡ true = h in cc)
body_reads (b ∷ bs) h =
    let all = and_parts (block_built b) (list_all block_built bs) (each_built block_built (b ∷ bs) h) in
    let parts = and_parts (name_built b.label) (built_all inst_built b.insts && end_built b.end) all.0 in
    let more = and_parts (built_all inst_built b.insts) (end_built b.end) parts.1 in
    let make : Option (List ℕ) → (List ℕ → Block) → List Block → List ℕ → List Block = λ l k rest n. k (name_or l n) ∷ rest in
    let some : List ℕ → Option (List ℕ) = λ l. Some l in
    let label : Shut (optional a_label) (Some b.label) (label_text b.label) = left_shut (value_shut (given some) (label_reads b.label parts.0)) in
    let rows = row_shut labelled block_text bs (all_shut labelled block_text block_built labelled_reads bs all.1) in
    same_shut (ap (λ t. t ++ flat_map block_text bs) (block_groups b))
    (value_shut (value_shut (gap_shut (codes "\n") refl refl (value_shut (given make) label)) (inner_reads b.insts b.end more.0 more.1)) rows)

-- a parameter as it is written
abbrev written : Param → Written
written p = record { ty = p.ty; name = Some p.name }

abbrev option_text : Option (List ℕ) → List ℕ
option_text None = []
option_text (Some name) = local_text name

abbrev written_text : Written → List ℕ
written_text w = type_text w.ty ++ codes " " ++ option_text w.name

param_reads : (p : Param) → param_built p ≡ true → Reads param (written p) (parameter_text p)
unfolding param
param_reads p h =
    let parts = and_parts (type_built p.ty) (name_built p.name) h in
    let make : Ty → Option (List ℕ) → Written = λ t n. record { ty = t; name = n } in
    let some : List ℕ → Option (List ℕ) = λ l. Some l in
    value_open (skip_shut pattr (spaced (value_open (given make) (type_reads p.ty parts.0)))) (left_open (value_open (given some) (local_reads p.name parts.1)))

all_params : (ps : List Param) → list_all param_built ps ≡ true → AllRead param written_text (map written ps)
all_params [] h = tt
all_params (p ∷ ps) h = let parts = and_parts (param_built p) (list_all param_built ps) h in (param_reads p parts.0, all_params ps parts.1)

commas_written : (ps : List Param) → after_commas written_text (map written ps) ≡ after_commas parameter_text ps
unfolding after_commas
commas_written [] = refl
commas_written (p ∷ ps) = ap (λ t. (codes ", " ++ parameter_text p) ++ t) (commas_written ps)

same_params : (ps : List Param) → with_commas written_text (map written ps) ≡ with_commas parameter_text ps
same_params [] = refl
same_params (p ∷ ps) = ap (λ t. parameter_text p ++ t) (commas_written ps)

-- written names are kept
names_kept : (n : ℕ) (ps : List Param) → named_from n (map written ps) ≡ ps
names_kept n [] = refl
names_kept n (p ∷ ps) = ap (λ qs. p ∷ qs) (names_kept (if is_digits p.name then suc n else n) ps)

params_read : (ps : List Param) → built_all param_built ps ≡ true → Tight params (naming (map written ps)) (codes "(" ++ (with_commas parameter_text ps ++ codes ")"))
unfolding params is_run_byte is_separator is_mark
params_read ps h =
    tight refl
    (same_shut (ap (λ t. codes "(" ++ (t ++ codes ")")) (same_params ps))
    (value_shut (word_shut (given naming) (shut_mark 40 (codes "(") refl refl refl))
    (listed_any param written_text 41 (codes ")") (map written ps) (all_params ps (each_built param_built ps h)) (tight refl (shut_mark 41 (codes ")") refl refl refl)))))

-- a function
define_groups : (x g w b : List ℕ) → ((((x ++ g) ++ (codes "(" ++ (w ++ codes ")"))) ++ codes " {\n") ++ b) ++ codes "}\n" ≡ x ++ g ++ codes "(" ++ w ++ codes ") {\n" ++ b ++ codes "}\n"
define_groups x g w b = ap (λ t. t ++ b ++ codes "}\n") (ap (λ t. t ++ codes " {\n") (call_groups x g w) ∙ append_assoc (x ++ g ++ codes "(" ++ w) (codes ")") (codes " {\n"))

abbrev with_params : Function → List Param → Function
with_params f ps = record { name = f.name; ret = f.ret; params = ps; blocks = f.blocks }

pub function_reads : (f : Function) → function_built f ≡ true → Shut define f (function_text f)
unfolding define function_text is_run_byte is_separator is_mark
function_reads f h =
    let parts = and_parts (name_built f.name && result_built f.ret) (built_all param_built f.params && blocks_built f.blocks) h in
    let head = and_parts (name_built f.name) (result_built f.ret) parts.0 in
    let rest = and_parts (built_all param_built f.params) (blocks_built f.blocks) parts.1 in
    let make : Ty → List ℕ → NamedParams → (List ℕ → List Block) → Function = λ t n ps bs. record { name = n; ret = t; params = ps.named; blocks = bs (decimal ps.numbered) } in
    let start = skip_shut pattr (skip_shut link (word_shut (given make) (shut_word (codes "define") (codes "define ") refl refl refl))) in
    let front = value_tight (value_open (spaced (value_open start (result_reads f.ret head.1))) (global_reads f.name head.0)) (params_read f.params rest.0) in
    let all = word_shut (value_shut (word_shut (skip_shut defined_tail front) (shut_mark 123 (codes " {\n") refl refl refl)) (body_reads f.blocks rest.1)) (shut_mark 125 (codes "}\n") refl refl refl) in
    subst (λ ps. Shut define (with_params f ps) (function_text f)) (names_kept 0 f.params)
    (same_shut (define_groups (codes "define " ++ type_text f.ret ++ codes " ") (global_text f.name) (with_commas parameter_text f.params) (flat_map block_text f.blocks)) all)

-- a declaration
type_only : (t : Ty) → type_built t ≡ true → Reads declared_param t (type_text t)
unfolding declared_param
type_only t h =
    let none : Derives (maybe (one_of (local ∷ []))) tt [] = inr (refl, refl) in none_open (maybe (one_of (local ∷ []))) tt none (skip_open pattr (value_open (given (λ (u : Ty). u)) (type_reads t h)))

types_read : (ts : List Ty) → built_all type_built ts ≡ true → Tight declared_params ts (codes "(" ++ (with_commas type_text ts ++ codes ")"))
unfolding declared_params is_run_byte is_separator is_mark
types_read ts h =
    tight refl
    (value_shut (word_shut (given (λ (us : List Ty). us)) (shut_mark 40 (codes "(") refl refl refl))
    (listed_any declared_param type_text 41 (codes ")") ts (all_reads declared_param type_text type_built type_only ts (each_built type_built ts h)) (tight refl (shut_mark 41 (codes ")") refl refl refl))))

declared_reads : (e : Extern) → extern_built e ≡ true → Shut declared (λ t. item_of.Extern (record { name = e.name; ret = t; params = e.params })) (global_text e.name ++ (codes "(" ++ (with_commas type_text e.params ++ codes ")")))
unfolding declared
declared_reads e h =
    let parts = and_parts (name_built e.name && not (is_debug_name e.name)) (result_built e.ret && built_all type_built e.params) h in
    let name = and_parts (name_built e.name) (not (is_debug_name e.name)) parts.0 in
    let rest = and_parts (result_built e.ret) (built_all type_built e.params) parts.1 in
    let make : List ℕ → List Ty → Ty → Item = λ n ts t. item_of.Extern (record { name = n; ret = t; params = ts }) in
    right_shut (value_tight (value_open (given make) (plain_global_reads e.name name.0 name.1)) (types_read e.params rest.1))

pub extern_reads : (e : Extern) → extern_built e ≡ true → Shut declare (item_of.Extern e) (extern_text e)
unfolding declare extern_text is_run_byte is_separator is_mark
extern_reads e h =
    let parts = and_parts (name_built e.name && not (is_debug_name e.name)) (result_built e.ret && built_all type_built e.params) h in
    let rest = and_parts (result_built e.ret) (built_all type_built e.params) parts.1 in
    let make : Ty → (Ty → Item) → Item = λ t d. d t in
    let start = skip_shut pattr (skip_shut link (skip_shut attach (word_shut (given make) (shut_word (codes "declare") (codes "declare ") refl refl refl)))) in
    let x : List ℕ = codes "declare " ++ type_text e.ret ++ codes " " in
    let g : List ℕ = global_text e.name in
    let w : List ℕ = with_commas type_text e.params in
    same_shut
    (ap (λ t. t ++ codes "\n") (sym (append_assoc x g (codes "(" ++ (w ++ codes ")"))) ∙ call_groups x g w) ∙ append_assoc (x ++ g ++ codes "(" ++ w) (codes ")") (codes "\n"))
    (gap_shut (codes "\n") refl refl (skip_shut declared_tail (value_shut (spaced (value_open start (result_reads e.ret rest.0))) (declared_reads e h))))
