-- The lines and functions of a module read back, each as an item.
use Rattle.std.proofs.Common.{◌≡◌, ℕ, Bool, true, false, List, [], ◌∷◌, ◌++◌, refl, sym, ap, append_assoc, inl, inr}
use Rattle.std.specs.Prelude.{codes, ◌&&◌}
use Rattle.std.proofs.lemmas.Bool.{and_parts}
use Rattle.ir_core.specs.declared.ty.Ty.{Ty, out-Ty}
use Rattle.ir_core.specs.declared.ty.NamedTy.{NamedTy}
use Rattle.ir_core.specs.declared.init.Init.{Init}
use Rattle.ir_core.specs.declared.module.GlobalVar.{GlobalVar}
use Rattle.ir_core.specs.declared.module.Extern.{Extern}
use Rattle.ir_core.specs.declared.module.Function.{Function}
use Rattle.ir_core.specs.Built.{name_built, type_built, is_struct_at, named_built, init_built, global_built, extern_built, function_built}
use Rattle.ir_lex.specs.declared.token.TokenKind.TheVariants.{Word}
use Rattle.ir_lex.specs.Tokens.{is_run_byte, is_separator, is_mark}
use Rattle.ir_grammar.specs.Parts.{behind_comma}
use Rattle.ir_syntax.specs.declared.item.Item.{Item}
use Rattle.ir_syntax.specs.declared.item.Item.TheVariants as item_of
use Rattle.ir_syntax.specs.Words.{by_word, link}
use Rattle.ir_syntax.specs.Items.{type_item, global_tail, global_item, item}
use Rattle.ir_print.specs.Names.{local_text, global_text}
use Rattle.ir_print.specs.Types.{type_text}
use Rattle.ir_print.specs.Initialisers.{init_text}
use Rattle.ir_print.specs.Canonical.{named_type_text, storage_word, global_line, extern_text, function_text}
use Rattle.ir_print.proofs.Derivations.{Shut, given, value_open, value_shut, word_shut, word_tight, skip_open, skip_shut, left_shut, right_shut, same_shut, gap_shut, spaced, lined, one_shut, shut_word, shut_mark, tight}
use Rattle.ir_print.proofs.Singles.{at_word, local_reads, global_reads}
use Rattle.ir_print.proofs.TypesRead.{type_reads, fields_reads}
use Rattle.ir_print.proofs.InitsRead.{init_reads}
use Rattle.ir_print.proofs.BlocksRead.{extern_reads, function_reads}

-- a named type
type_line : (t : NamedTy) → named_built t ≡ true → Shut type_item (item_of.Type t) (named_type_text t)
unfolding type_item named_type_text is_run_byte is_separator is_mark
type_line t h =
    let parts = and_parts (name_built t.name) (is_struct_at (out-Ty t.fields) && type_built t.fields) h in
    let more = and_parts (is_struct_at (out-Ty t.fields)) (type_built t.fields) parts.1 in
    let make : List ℕ → Ty → Item = λ n u. item_of.Type (record { name = n; fields = u }) in
    let front = word_shut (word_tight (value_open (given make) (local_reads t.name parts.0)) (tight refl (shut_mark 61 (codes " = ") refl refl refl))) (shut_word (codes "type") (codes "type ") refl refl refl) in
    same_shut (ap (λ s. s ++ type_text t.fields ++ codes "\n") (append_assoc (local_text t.name) (codes " = ") (codes "type "))) (gap_shut (codes "\n") refl refl (value_shut front (fields_reads t.fields more.0 more.1)))

-- whether a global is written or only read
storage_reads : (b : Bool) → Shut (by_word (codes "global", false) ((codes "constant", true) ∷ [])) b (storage_word b ++ codes " ")
unfolding is_run_byte is_separator is_mark
storage_reads true = one_shut (codes "constant ") (Word (codes "constant")) refl refl (inr (at_word (codes "constant") true refl))
storage_reads false = one_shut (codes "global ") (Word (codes "global")) refl refl (inl (at_word (codes "global") false refl))

global_reads_line : (g : GlobalVar) → global_built g ≡ true → Shut global_item (item_of.Global g) (global_line g)
unfolding global_item global_line is_run_byte is_separator is_mark
global_reads_line g h =
    let parts = and_parts (name_built g.name) (type_built g.ty && init_built g.init) h in
    let more = and_parts (type_built g.ty) (init_built g.init) parts.1 in
    let make : List ℕ → Bool → Ty → Init → Item = λ n c t i. item_of.Global (record { name = n; constant = c; ty = t; init = i }) in
    let front = skip_shut link (word_tight (value_open (given make) (global_reads g.name parts.0)) (tight refl (shut_mark 61 (codes " = ") refl refl refl))) in
    let x : List ℕ = global_text g.name ++ codes " = " in
    same_shut (ap (λ s. s ++ type_text g.ty ++ codes " " ++ init_text g.init ++ codes "\n") (sym (append_assoc x (storage_word g.constant) (codes " "))))
    (lined (skip_open (behind_comma global_tail) (value_open (spaced (value_open (value_shut front (storage_reads g.constant)) (type_reads g.ty more.0))) (init_reads g.init more.1))))

-- as items
pub type_item_reads : (t : NamedTy) → named_built t ≡ true → Shut item (item_of.Type t) (named_type_text t)
unfolding item
type_item_reads t h = right_shut (right_shut (left_shut (type_line t h)))

pub global_item_reads : (g : GlobalVar) → global_built g ≡ true → Shut item (item_of.Global g) (global_line g)
unfolding item
global_item_reads g h = right_shut (right_shut (right_shut (left_shut (global_reads_line g h))))

pub extern_item_reads : (e : Extern) → extern_built e ≡ true → Shut item (item_of.Extern e) (extern_text e)
unfolding item
extern_item_reads e h = right_shut (right_shut (right_shut (right_shut (left_shut (extern_reads e h)))))

pub function_item_reads : (f : Function) → function_built f ≡ true → Shut item (item_of.Function f) (function_text f)
unfolding item
function_item_reads f h = right_shut (right_shut (right_shut (right_shut (right_shut (left_shut (value_shut (given item_of.Function) (function_reads f h)))))))
