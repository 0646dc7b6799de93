-- One token ahead is enough for instructions and terminators.
use Rattle.std.proofs.Common.{◌≡◌, true, false, List, [], ◌∷◌, ◌++◌, refl}
use Rattle.std.specs.Prelude.{codes}
use Rattle.ir_grammar.specs.Tokens.{Sort, word, mark, local, global, debug_global, hash, debug_hash}
use Rattle.ir_grammar.specs.Grammar.{Grammar, either, ◌▹◌}
use Rattle.ir_grammar.specs.Reading.{first, next, null, fine, apart}
use Rattle.ir_grammar.proofs.Rows.{Item}
use Rattle.ir_grammar.proofs.LoopRows.{Loop}
use Rattle.ir_syntax.specs.Words.{words_from, parameter_word, a_comma, bin_word, cast_word, pred_word, flag, convention, function_word}
use Rattle.ir_syntax.specs.Types.{itype}
use Rattle.ir_syntax.specs.Metadata.{group, metadata, attach, attaches, align_tail}
use Rattle.ir_syntax.specs.Parameters.{pattr}
use Rattle.ir_syntax.specs.Instructions.{binary, compare, cast, select, freeze, alloca_tail, counted, alloca, load, index, index_rows, indices, gep, entry, entry_rows, entries, phi, call_word, call_head, callee, function_attribute, call_attribute, call_tail, call, op, store, void_callee, void_call, named_inst, void_inst, debug_inst, inst}
use Rattle.ir_syntax.proofs.FineTypes.{closed-ty, first-ty, closed-rtype, first-rtype}
use Rattle.ir_syntax.proofs.FineValues.{closed-value, first-value, closed-args}

-- one token ahead is enough, it is never empty, it begins with these sorts, and these make it longer
pub record Known {A : Type 0} (g : Grammar A) (begins ends : List Sort) : Type 0 where
  pub good : fine g ≡ true
  pub some : null g ≡ false
  pub first_is : first g ≡ begins
  pub next_is : next g ≡ ends

-- one of two
pub known-either : {A : Type 0} (g h : Grammar A) (b1 b2 e1 e2 : List Sort) → Known g b1 e1 → Known h b2 e2 → apart b1 b2 ≡ true → Known (either g h) (b1 ++ b2) (e1 ++ (e2 ++ []))
known-either g h b1 b2 e1 e2 x y a =
    let xg = x.good in let xs = x.some in let xf = x.first_is in let xn = x.next_is in
    let yg = y.good in let ys = y.some in let yf = y.first_is in let yn = y.next_is in
    record { good = simp (xg, xs, xf, yg, yf, a); some = simp (xs, ys); first_is = simp (xf, yf); next_is = simp (xn, yn, ys) }

abbrev pub comma : List Sort
comma = mark 44 ∷ []

pub known-binary : Known binary (words_from [] (codes "add sub mul udiv sdiv urem srem shl lshr ashr and or xor")) comma
unfolding binary bin_word flag attaches attach metadata group
known-binary =
    let tf = closed-ty.good in let ts = closed-ty.some in let te = closed-ty.ends in
    let vf = closed-value.good in let vs = closed-value.some in let ve = closed-value.ends in
    record { good = simp (tf, ts, te, first-ty, vf, vs, ve, first-value); some = refl; first_is = refl; next_is = simp (ve, vs) }

pub known-compare : Known compare (word (codes "icmp") ∷ []) comma
unfolding compare pred_word flag attaches attach metadata group
known-compare =
    let tf = closed-ty.good in let ts = closed-ty.some in let te = closed-ty.ends in
    let vf = closed-value.good in let vs = closed-value.some in let ve = closed-value.ends in
    record { good = simp (tf, ts, te, first-ty, vf, vs, ve, first-value); some = refl; first_is = refl; next_is = simp (ve, vs) }

pub known-cast : Known cast (words_from [] (codes "trunc zext sext")) comma
unfolding cast cast_word flag attaches attach metadata group
known-cast =
    let tf = closed-ty.good in let ts = closed-ty.some in let te = closed-ty.ends in
    let vf = closed-value.good in let vs = closed-value.some in let ve = closed-value.ends in
    record { good = simp (tf, ts, te, first-ty, vf, vs, ve, first-value); some = refl; first_is = refl; next_is = simp (te, ts) }

pub known-select : Known select (word (codes "select") ∷ []) comma
unfolding select attaches attach metadata group
known-select =
    let tf = closed-ty.good in let ts = closed-ty.some in let te = closed-ty.ends in
    let vf = closed-value.good in let vs = closed-value.some in let ve = closed-value.ends in
    record { good = simp (tf, ts, te, first-ty, vf, vs, ve, first-value); some = refl; first_is = refl; next_is = simp (ve, vs) }

pub known-freeze : Known freeze (word (codes "freeze") ∷ []) comma
unfolding freeze attaches attach metadata group
known-freeze =
    let tf = closed-ty.good in let ts = closed-ty.some in let te = closed-ty.ends in
    let vf = closed-value.good in let vs = closed-value.some in let ve = closed-value.ends in
    record { good = simp (tf, ts, te, first-ty, vf, vs, ve, first-value); some = refl; first_is = refl; next_is = simp (ve, vs) }

pub known-alloca : Known alloca (word (codes "alloca") ∷ []) (comma ++ comma ++ comma ++ comma)
unfolding alloca alloca_tail counted itype align_tail attaches attach metadata group
known-alloca =
    let tf = closed-ty.good in let ts = closed-ty.some in let te = closed-ty.ends in
    record { good = simp (tf, ts, te, first-ty); some = refl; first_is = refl; next_is = simp (te, ts) }

pub known-load : Known load (word (codes "load") ∷ []) (comma ++ comma)
unfolding load align_tail attaches attach metadata group
known-load =
    let tf = closed-ty.good in let ts = closed-ty.some in let te = closed-ty.ends in
    let vf = closed-value.good in let vs = closed-value.some in let ve = closed-value.ends in
    record { good = simp (tf, ts, te, first-ty, vf, vs, ve, first-value); some = refl; first_is = refl; next_is = simp (ve, vs) }

-- the indices of a getelementptr, with the attachments that may end them
pub loop-index : Loop a_comma index (attach ▹ attaches)
unfolding index attaches attach metadata group
loop-index =
    let tf = closed-ty.good in let ts = closed-ty.some in let te = closed-ty.ends in
    let vf = closed-value.good in let vs = closed-value.some in let ve = closed-value.ends in
    record { good = simp (tf, ts, te, first-ty, vf, vs, ve, first-value) }

pub known-gep : Known gep (word (codes "getelementptr") ∷ []) (comma ++ comma)
unfolding gep indices index_rows flag index attaches attach metadata group
known-gep =
    let tf = closed-ty.good in let ts = closed-ty.some in let te = closed-ty.ends in
    let vf = closed-value.good in let vs = closed-value.some in let ve = closed-value.ends in
    record { good = simp (tf, ts, te, first-ty, vf, vs, ve, first-value); some = refl; first_is = refl; next_is = simp (ve, vs, te, ts) }

-- the entries of a phi, with the attachments that may end them
pub loop-entry : Loop a_comma entry (attach ▹ attaches)
unfolding entry attaches attach metadata group
loop-entry =
    let vf = closed-value.good in let vs = closed-value.some in let ve = closed-value.ends in record { good = simp (vf, vs, ve, first-value) }

pub known-phi : Known phi (word (codes "phi") ∷ []) (comma ++ comma)
unfolding phi entries entry_rows entry attaches attach metadata group
known-phi =
    let tf = closed-ty.good in let ts = closed-ty.some in let te = closed-ty.ends in
    let vf = closed-value.good in let vs = closed-value.some in let ve = closed-value.ends in
    record { good = simp (tf, ts, te, first-ty, vf, vs, ve, first-value); some = refl; first_is = refl; next_is = refl }

-- the words that a call begins with
abbrev pub call_words : List Sort
call_words = words_from [] (codes "tail notail call")

-- what makes a call longer
abbrev pub call_ends : List Sort
call_ends = mark 44 ∷ mark 40 ∷ hash ∷ words_from [] (codes "unnamed_addr local_unnamed_addr nounwind noreturn uwtable noinline optnone alwaysinline mustprogress willreturn norecurse nofree nosync nocallback cold hot memory readnone readonly writeonly")

pub known-call : Known call call_words call_ends
unfolding call call_head call_word convention pattr parameter_word callee call_tail call_attribute function_attribute function_word attaches attach metadata group
known-call =
    let rf = closed-rtype.good in let rs = closed-rtype.some in let re = closed-rtype.ends in
    let af = closed-args.good in let as_ = closed-args.some in let ae = closed-args.ends in
    record { good = simp (rf, rs, re, first-rtype, first-ty, af, as_, ae); some = refl; first_is = refl; next_is = simp (ae, as_) }

-- what an operation begins with
abbrev pub op_firsts : List Sort
op_firsts = words_from [] (codes "add sub mul udiv sdiv urem srem shl lshr ashr and or xor icmp trunc zext sext select freeze alloca load getelementptr phi tail notail call")

-- what makes an operation longer
abbrev pub op_ends : List Sort
op_ends =
    comma ++ comma ++ comma ++ comma ++ comma ++ comma ++ comma ++ comma ++ comma ++ comma ++ comma ++ comma ++ comma ++ comma ++ comma ++ call_ends

pub known-op : Known op op_firsts op_ends
unfolding op
known-op =
    known-either binary _ _ _ _ _ known-binary
    (known-either compare _ _ _ _ _ known-compare
    (known-either cast _ _ _ _ _ known-cast
    (known-either select _ _ _ _ _ known-select
    (known-either freeze _ _ _ _ _ known-freeze
    (known-either alloca _ _ _ _ _ known-alloca
    (known-either load _ _ _ _ _ known-load
    (known-either gep _ _ _ _ _ known-gep
    (known-either phi call _ _ _ _ known-phi known-call refl) refl) refl) refl) refl) refl) refl) refl) refl

pub known-store : Known store (word (codes "store") ∷ []) (comma ++ comma)
unfolding store align_tail attaches attach metadata group
known-store =
    let tf = closed-ty.good in let ts = closed-ty.some in let te = closed-ty.ends in
    let vf = closed-value.good in let vs = closed-value.some in let ve = closed-value.ends in
    record { good = simp (tf, ts, te, first-ty, vf, vs, ve, first-value); some = refl; first_is = refl; next_is = simp (ve, vs) }

pub known-void_callee : Known void_callee (debug_global ∷ global ∷ local ∷ []) []
unfolding void_callee callee
known-void_callee =
    let af = closed-args.good in let as_ = closed-args.some in let ae = closed-args.ends in
    record { good = simp (af, as_, ae); some = refl; first_is = refl; next_is = simp (ae, as_) }

pub known-void_call : Known void_call call_words call_ends
unfolding void_call call_head call_word convention pattr parameter_word call_tail call_attribute function_attribute function_word attaches attach metadata group
known-void_call =
    let rf = closed-rtype.good in let rs = closed-rtype.some in let re = closed-rtype.ends in
    let k = known-void_callee in let kf = k.good in let ks = k.some in let kb = k.first_is in let ke = k.next_is in
    record { good = simp (rf, rs, re, first-rtype, first-ty, kf, ks, kb, ke); some = refl; first_is = refl; next_is = simp (ke, ks) }

pub known-named_inst : Known named_inst (local ∷ []) op_ends
unfolding named_inst
known-named_inst = let f = known-op.good in let s = known-op.some in let e = known-op.next_is in record { good = simp f; some = refl; first_is = refl; next_is = simp (e, s) }

-- what an instruction without a result name begins with
abbrev pub void_firsts : List Sort
void_firsts = words_from [] (codes "store tail notail call")

pub known-void_inst : Known void_inst void_firsts (comma ++ comma ++ call_ends)
unfolding void_inst
known-void_inst =
    let sf = known-store.good in let ss = known-store.some in let sb = known-store.first_is in let se = known-store.next_is in
    let cf = known-void_call.good in let cs = known-void_call.some in let cb = known-void_call.first_is in let ce = known-void_call.next_is in
    record { good = simp (sf, ss, sb, se, cf, cs, cb, ce); some = simp (ss, cs); first_is = simp (ss, sb, cb); next_is = simp (ss, cs, se, ce) }

-- what an instruction begins with
abbrev pub inst_firsts : List Sort
inst_firsts = local ∷ void_firsts ++ debug_hash ∷ []

pub known-debug_inst : Known debug_inst (debug_hash ∷ []) []
unfolding debug_inst group
known-debug_inst = record { good = refl; some = refl; first_is = refl; next_is = refl }

pub item-call_attribute : Item call_attribute
unfolding call_attribute function_attribute function_word
item-call_attribute = record { good = refl; some = refl }

pub known-inst : Known inst inst_firsts (op_ends ++ comma ++ comma ++ call_ends)
unfolding inst
known-inst =
    known-either named_inst _ _ _ _ _ known-named_inst (known-either void_inst debug_inst _ _ _ _ known-void_inst known-debug_inst refl) refl

pub item-inst : Item inst
item-inst = record { good = known-inst.good; some = known-inst.some }
