-- One token ahead is enough for terminators, blocks, functions, items and modules.
use Rattle.std.proofs.Common.{◌≡◌, true, List, [], ◌∷◌, ◌++◌, refl}
use Rattle.std.specs.Prelude.{codes}
use Rattle.ir_grammar.specs.Tokens.{Sort, word, mark, local, label, global, debug_global, hash, debug_hash, meta, meta_number}
use Rattle.ir_grammar.specs.Grammar.{give, ◌▸◌}
use Rattle.ir_grammar.specs.Parts.{behind_comma}
use Rattle.ir_grammar.specs.Reading.{fine}
use Rattle.ir_grammar.proofs.Rows.{Item}
use Rattle.ir_syntax.specs.declared.item.Item.TheVariants as item_of
use Rattle.ir_syntax.specs.Words.{words_from, link, parameter_word, function_word}
use Rattle.ir_syntax.specs.Metadata.{group, metadata, attach, attaches}
use Rattle.ir_syntax.specs.Parameters.{pattr}
use Rattle.ir_syntax.specs.Terminators.{target, ret, br, case, switch, unreachable, ending, term}
use Rattle.ir_syntax.specs.Functions.{insts, block, labelled, body, declared_tail, defined_tail, define, declared, declare}
use Rattle.ir_syntax.specs.Items.{source_item, target_item, type_item, global_tail, global_item, attributes_item, metadata_item, item}
use Rattle.ir_syntax.specs.ModuleText.{module_text}
use Rattle.ir_syntax.proofs.FineTypes.{closed-ty, first-ty, closed-fields_type, closed-rtype, first-rtype}
use Rattle.ir_syntax.proofs.FineValues.{closed-const_value, closed-value, first-value, closed-init, closed-params, closed-declared_params}
use Rattle.ir_syntax.proofs.FineInstructions.{Known, known-either, comma, inst_firsts, known-inst}

-- terminators
known-ret : Known ret (word (codes "ret") ∷ []) []
unfolding ret
known-ret =
    let tf = closed-ty.good in let ts = closed-ty.some in let te = closed-ty.ends in
    let vf = closed-value.good in let vs = closed-value.some in let ve = closed-value.ends in
    record { good = simp (tf, ts, te, first-ty, vf, vs, ve, first-value); some = refl; first_is = refl; next_is = simp (ve, vs, te, ts) }

known-br : Known br (word (codes "br") ∷ []) []
unfolding br target
known-br =
    let vf = closed-value.good in let vs = closed-value.some in let ve = closed-value.ends in
    record { good = simp (vf, vs, ve, first-value); some = refl; first_is = refl; next_is = refl }

pub item-case : Item case
unfolding case target
item-case =
    let tf = closed-ty.good in let ts = closed-ty.some in let te = closed-ty.ends in
    let cf = closed-const_value.good in let cs = closed-const_value.some in let ce = closed-const_value.ends in
    record { good = simp (tf, ts, te, cf, cs, ce); some = simp ts }

known-switch : Known switch (word (codes "switch") ∷ []) []
unfolding switch case target
known-switch =
    let tf = closed-ty.good in let ts = closed-ty.some in let te = closed-ty.ends in
    let vf = closed-value.good in let vs = closed-value.some in let ve = closed-value.ends in
    let cf = closed-const_value.good in let cs = closed-const_value.some in let ce = closed-const_value.ends in
    record { good = simp (tf, ts, te, first-ty, vf, vs, ve, first-value, cf, cs, ce); some = refl; first_is = refl; next_is = refl }

known-unreachable : Known unreachable (word (codes "unreachable") ∷ []) []
unfolding unreachable
known-unreachable = record { good = refl; some = refl; first_is = refl; next_is = refl }

-- what a terminator begins with
abbrev pub term_firsts : List Sort
term_firsts = words_from [] (codes "ret br switch unreachable")

known-ending : Known ending term_firsts []
unfolding ending
known-ending =
    known-either ret _ _ _ _ _ known-ret (known-either br _ _ _ _ _ known-br (known-either switch unreachable _ _ _ _ known-switch known-unreachable refl) refl) refl

pub known-term : Known term term_firsts comma
unfolding term attaches attach metadata group
known-term =
    let f = known-ending.good in let s = known-ending.some in let b = known-ending.first_is in let e = known-ending.next_is in
    record { good = simp (f, s, b, e); some = simp s; first_is = simp (s, b); next_is = simp (e, s) }

-- blocks
pub known-block : Known block (inst_firsts ++ term_firsts) comma
unfolding block insts
known-block =
    let f = known-inst.good in let s = known-inst.some in let b = known-inst.first_is in let e = known-inst.next_is in
    let tf = known-term.good in let ts = known-term.some in let tb = known-term.first_is in let te = known-term.next_is in
    record { good = simp (f, s, b, e, tf, ts, tb, te); some = simp ts; first_is = simp (b, tb); next_is = simp (te, ts) }

pub known-labelled : Known labelled (label ∷ []) comma
unfolding labelled
known-labelled =
    let f = known-block.good in let s = known-block.some in let b = known-block.first_is in let e = known-block.next_is in
    record { good = simp (f, s, b, e); some = refl; first_is = refl; next_is = simp (e, s) }

pub item-labelled : Item labelled
item-labelled = record { good = known-labelled.good; some = known-labelled.some }

pub known-body : Known body (label ∷ inst_firsts ++ term_firsts) (comma ++ label ∷ comma)
unfolding body
known-body =
    let f = known-block.good in let s = known-block.some in let b = known-block.first_is in let e = known-block.next_is in
    let lf = known-labelled.good in let ls = known-labelled.some in let lb = known-labelled.first_is in let le = known-labelled.next_is in
    record { good = simp (f, s, b, e, lf, ls, lb, le); some = simp s; first_is = simp (s, b); next_is = simp (e, s, le, lb) }

-- functions and declarations
pub item-declared_tail : Item declared_tail
unfolding declared_tail function_word
item-declared_tail = record { good = refl; some = refl }

pub item-defined_tail : Item defined_tail
unfolding defined_tail declared_tail function_word attach metadata group
item-defined_tail = record { good = refl; some = refl }

pub known-define : Known define (word (codes "define") ∷ []) []
unfolding define link pattr parameter_word defined_tail declared_tail function_word attach metadata group
known-define =
    let rf = closed-rtype.good in let rs = closed-rtype.some in let re = closed-rtype.ends in
    let pf = closed-params.good in let ps = closed-params.some in let pe = closed-params.ends in
    let f = known-body.good in let s = known-body.some in let b = known-body.first_is in let e = known-body.next_is in
    record { good = simp (rf, rs, re, first-rtype, first-ty, pf, ps, pe, f, s, b, e); some = refl; first_is = refl; next_is = refl }

pub known-declared : Known declared (debug_global ∷ global ∷ []) []
unfolding declared
known-declared =
    let f = closed-declared_params.good in let s = closed-declared_params.some in let e = closed-declared_params.ends in
    record { good = simp (f, s, e); some = refl; first_is = refl; next_is = simp (e, s) }

-- what makes a declaration longer
abbrev pub declare_ends : List Sort
declare_ends =
    mark 40 ∷ hash ∷ debug_hash ∷ words_from [] (codes "align section unnamed_addr local_unnamed_addr nounwind noreturn uwtable noinline optnone alwaysinline mustprogress willreturn norecurse nofree nosync nocallback cold hot memory readnone readonly writeonly")

pub known-declare : Known declare (word (codes "declare") ∷ []) declare_ends
unfolding declare link pattr parameter_word declared_tail function_word attach metadata group
known-declare =
    let rf = closed-rtype.good in let rs = closed-rtype.some in let re = closed-rtype.ends in
    let f = known-declared.good in let s = known-declared.some in let b = known-declared.first_is in let e = known-declared.next_is in
    record { good = simp (rf, rs, re, first-rtype, first-ty, f, s, b, e); some = refl; first_is = refl; next_is = simp (e, s) }

-- items
pub known-source_item : Known source_item (word (codes "source_filename") ∷ []) []
unfolding source_item
known-source_item = record { good = refl; some = refl; first_is = refl; next_is = refl }

pub known-target_item : Known target_item (word (codes "target") ∷ []) []
unfolding target_item
known-target_item = record { good = refl; some = refl; first_is = refl; next_is = refl }

pub known-type_item : Known type_item (local ∷ []) []
unfolding type_item
known-type_item =
    let f = closed-fields_type.good in let s = closed-fields_type.some in let e = closed-fields_type.ends in
    record { good = simp (f, s, e); some = refl; first_is = refl; next_is = simp (e, s) }

pub item-global_tail : Item (behind_comma global_tail)
unfolding global_tail attach metadata group
item-global_tail = record { good = refl; some = refl }

pub known-global_item : Known global_item (global ∷ debug_global ∷ []) comma
unfolding global_item link global_tail attach metadata group
known-global_item =
    let tf = closed-ty.good in let ts = closed-ty.some in let te = closed-ty.ends in
    let f = closed-init.good in let s = closed-init.some in let e = closed-init.ends in
    record { good = simp (tf, ts, te, first-ty, f, s, e); some = refl; first_is = refl; next_is = simp (e, s) }

pub known-function_item : Known (give item_of.Function ▸ define) (word (codes "define") ∷ []) []
known-function_item =
    let f = known-define.good in let s = known-define.some in let b = known-define.first_is in let e = known-define.next_is in
    record { good = simp f; some = simp s; first_is = simp b; next_is = simp (e, s) }

pub known-attributes_item : Known attributes_item (word (codes "attributes") ∷ []) []
unfolding attributes_item group
known-attributes_item = record { good = refl; some = refl; first_is = refl; next_is = refl }

pub known-metadata_item : Known metadata_item (meta ∷ meta_number ∷ []) []
unfolding metadata_item metadata group
known-metadata_item = record { good = refl; some = refl; first_is = refl; next_is = refl }

-- what an item begins with
abbrev pub item_firsts : List Sort
item_firsts =
    words_from [] (codes "source_filename target") ++ local ∷ global ∷ debug_global ∷ words_from [] (codes "declare define attributes") ++ meta ∷ meta_number ∷ []

pub known-item : Known item item_firsts (comma ++ declare_ends)
unfolding item
known-item =
    known-either source_item _ _ _ _ _ known-source_item
    (known-either target_item _ _ _ _ _ known-target_item
    (known-either type_item _ _ _ _ _ known-type_item
    (known-either global_item _ _ _ _ _ known-global_item
    (known-either declare _ _ _ _ _ known-declare
    (known-either (give item_of.Function ▸ define) _ _ _ _ _ known-function_item
    (known-either attributes_item metadata_item _ _ _ _ known-attributes_item known-metadata_item refl) refl) refl) refl) refl) refl) refl

pub item-item : Item item
item-item = record { good = known-item.good; some = known-item.some }

pub fine-module_text : fine module_text ≡ true
unfolding module_text
fine-module_text =
    let f = known-item.good in let s = known-item.some in let b = known-item.first_is in let e = known-item.next_is in simp (f, s, b, e)
