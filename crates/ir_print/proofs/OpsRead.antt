-- Operations read back.
use Rattle.std.proofs.Common.{◌≡◌, ℕ, ◌^◌, true, false, List, [], ◌∷◌, ◌++◌, Option, refl, sym, ap, ◌∙◌, append_assoc, inl, inr}
use Rattle.std.specs.Prelude.{codes, decimal, nat_lt, ◌&&◌}
use Rattle.std.proofs.lemmas.Bool.{and_parts}
use Rattle.rd_num.specs.declared.width.Width.TheVariants.{W32}
use Rattle.ir_core.specs.declared.ty.Ty.{Ty}
use Rattle.ir_core.specs.declared.ty.Ty.TheVariants as type_of
use Rattle.ir_core.specs.declared.operand.Operand.{Operand}
use Rattle.ir_core.specs.declared.instruction.BinOp.{BinOp}
use Rattle.ir_core.specs.declared.instruction.Pred.{Pred}
use Rattle.ir_core.specs.declared.instruction.CastOp.{CastOp}
use Rattle.ir_core.specs.declared.instruction.Op.TheVariants.{Bin, Compare, Cast, Select, Freeze, Alloca, Load, Store, Gep, Phi}
use Rattle.ir_core.specs.declared.instruction.Arg.{Arg}
use Rattle.ir_core.specs.declared.instruction.Entry.{Entry}
use Rattle.ir_core.specs.Built.{name_built, type_built, built_all, operand_built, typed_built, arg_built, entry_built, entries_built, op_built}
use Rattle.ir_lex.specs.declared.token.TokenKind.TheVariants.{Word}
use Rattle.ir_lex.specs.Tokens.{is_run_byte, is_separator, is_mark}
use Rattle.std.specs.List.{list_all}
use Rattle.ir_grammar.specs.Grammar.{Grammar, Derives, ◌▸◌, ◌▹◌}
use Rattle.ir_grammar.specs.Parts.{the_word, the_mark, behind_comma}
use Rattle.ir_syntax.specs.Words.{flag, maybe}
use Rattle.ir_syntax.specs.Types.{ty, itype}
use Rattle.ir_syntax.specs.Values.{value}
use Rattle.ir_syntax.specs.Metadata.{attach, attaches, align_tail}
use Rattle.ir_syntax.specs.Instructions.{binary, compare, cast, select, freeze, counted, alloca_tail, alloca, load, index, index_rows, indices, gep, entry, entry_rows, entries, phi, store}
use Rattle.ir_print.specs.Names.{with_commas}
use Rattle.ir_print.specs.Types.{type_text}
use Rattle.ir_print.specs.Values.{operand_text}
use Rattle.ir_print.specs.Instructions.{operation_word, predicate_word, typed_text, argument_text, indices_text, entry_text, pair_text, access_text, op_text}
use Rattle.ir_print.proofs.Derivations.{Reads, Shut, Trails, given, loose, value_open, value_shut, value_trails, word_shut, word_tight, none_open, none_shut, skipped_none, skip_shut, left_open, same_open, spaced, shut_word, shut_mark, one_shut, tight, comma}
use Rattle.ir_print.proofs.Rows.{all_reads, each_built, behind_commas_alone}
use Rattle.ir_print.proofs.Singles.{at_word, local_reads, count_reads}
use Rattle.ir_print.proofs.TypesRead.{type_reads}
use Rattle.ir_print.proofs.Operands.{operand_reads, index_reads}
use Rattle.ir_print.proofs.WordsRead.{bin_reads, pred_reads, cast_reads}

-- nothing stands behind
pub attaches_none : Derives attaches tt []
unfolding attaches
attaches_none = skipped_none (behind_comma attach)

align_none : Derives align_tail tt []
unfolding align_tail
align_none = inr (refl, refl)

-- a type and an operand behind it
pub typed : {A : Type 0} {g : Grammar (Ty → Operand → A)} {f : Ty → Operand → A} {s : List ℕ} (t : Ty) (v : Operand) → typed_built t v ≡ true → Shut g f s → Reads (g ▸ ty ▸ value) (f t v) (s ++ typed_text t v)
unfolding typed_text
typed {s = s} t v h x =
    let parts = and_parts (type_built t) (operand_built v) h in
    same_open (append_assoc (s ++ type_text t) (codes " ") (operand_text v) ∙ append_assoc s (type_text t) (codes " " ++ operand_text v) ∙ ap (λ u. s ++ u) (sym (append_assoc (type_text t) (codes " ") (operand_text v))))
    (value_open (spaced (value_open x (type_reads t parts.0))) (operand_reads v parts.1))

-- two operands of one type
pub binary_reads : (op : BinOp) (t : Ty) (a b : Operand) → op_built (Bin op t a b) ≡ true → Reads binary (Bin op t a b) (op_text (Bin op t a b))
unfolding binary op_text pair_text
binary_reads op t a b h =
    let parts = and_parts (typed_built t a) (operand_built b) h in
    let w : List ℕ = operation_word op ++ codes " " in
    same_open (append_assoc (w ++ typed_text t a) (codes ", ") (operand_text b) ∙ append_assoc w (typed_text t a) (codes ", " ++ operand_text b) ∙ ap (λ u. w ++ u) (sym (append_assoc (typed_text t a) (codes ", ") (operand_text b))))
    (none_open attaches tt attaches_none (value_open (word_tight (typed t a parts.0 (skip_shut flag (value_shut (given Bin) (bin_reads op)))) comma) (operand_reads b parts.1)))

pub compare_reads : (p : Pred) (t : Ty) (a b : Operand) → op_built (Compare p t a b) ≡ true → Reads compare (Compare p t a b) (op_text (Compare p t a b))
unfolding compare op_text pair_text is_run_byte is_separator is_mark
compare_reads p t a b h =
    let parts = and_parts (typed_built t a) (operand_built b) h in
    let w : List ℕ = codes "icmp " ++ (predicate_word p ++ codes " ") in
    same_open (append_assoc (w ++ typed_text t a) (codes ", ") (operand_text b) ∙ append_assoc w (typed_text t a) (codes ", " ++ operand_text b) ∙ ap (λ u. w ++ u) (sym (append_assoc (typed_text t a) (codes ", ") (operand_text b))))
    (none_open attaches tt attaches_none
    (value_open (word_tight (typed t a parts.0 (value_shut (skip_shut flag (word_shut (given Compare) (shut_word (codes "icmp") (codes "icmp ") refl refl refl))) (pred_reads p))) comma) (operand_reads b parts.1)))

pub cast_op_reads : (c : CastOp) (from : Ty) (v : Operand) (to : Ty) → op_built (Cast c from v to) ≡ true → Reads cast (Cast c from v to) (op_text (Cast c from v to))
unfolding cast op_text is_run_byte is_separator is_mark
cast_op_reads c from v to h =
    let parts = and_parts (typed_built from v) (type_built to) h in
    none_open attaches tt attaches_none
    (value_open (word_tight (typed from v parts.0 (skip_shut flag (value_shut (given Cast) (cast_reads c)))) (tight refl (shut_word (codes "to") (codes " to ") refl refl refl))) (type_reads to parts.1))

pub select_reads : (c : Operand) (t : Ty) (a : Operand) (u : Ty) (b : Operand) → op_built (Select c t a u b) ≡ true → Reads select (Select c t a u b) (op_text (Select c t a u b))
unfolding select op_text is_run_byte is_separator is_mark
select_reads c t a u b h =
    let parts = and_parts (operand_built c) (typed_built t a && typed_built u b) h in
    let both = and_parts (typed_built t a) (typed_built u b) parts.1 in
    let head = word_shut (word_shut (given Select) (shut_word (codes "select") (codes "select ") refl refl refl)) (shut_word (codes "i1") (codes "i1 ") refl refl refl) in
    none_open attaches tt attaches_none (typed u b both.1 (word_tight (typed t a both.0 (word_tight (value_open head (operand_reads c parts.0)) comma)) comma))

pub freeze_reads : (t : Ty) (v : Operand) → op_built (Freeze t v) ≡ true → Reads freeze (Freeze t v) (op_text (Freeze t v))
unfolding freeze op_text is_run_byte is_separator is_mark
freeze_reads t v h = none_open attaches tt attaches_none (typed t v h (word_shut (given Freeze) (shut_word (codes "freeze") (codes "freeze ") refl refl refl)))

-- how many
word_32 : Shut itype (type_of.Int W32) (codes "i32 ")
unfolding itype is_run_byte is_separator is_mark
word_32 = one_shut (codes "i32 ") (Word (codes "i32")) refl refl (inr (inr (inl (at_word (codes "i32") (type_of.Int W32) refl))))

counted_reads : (n : ℕ) → nat_lt n (2 ^ 32) ≡ true → Reads counted n (codes "i32 " ++ decimal n)
unfolding counted
counted_reads n h = left_open (none_open align_tail tt align_none (value_open (word_shut (given (λ (k : ℕ). k)) word_32) (count_reads n h)))

alloca_tail_trails : (n : ℕ) → nat_lt n (2 ^ 32) ≡ true → Trails alloca_tail n (codes ", i32 " ++ decimal n)
unfolding alloca_tail is_run_byte
alloca_tail_trails n h = record { reads = left_open (value_open (word_shut (given (λ (k : ℕ). k)) comma.shut) (counted_reads n h)); parts = λ rest apart. record { run = refl; colon = refl; quote = refl } }

pub alloca_reads : (t : Ty) (n : ℕ) → op_built (Alloca t n) ≡ true → Reads alloca (Alloca t n) (op_text (Alloca t n))
unfolding alloca op_text is_run_byte is_separator is_mark
alloca_reads t n h =
    let parts = and_parts (type_built t) (nat_lt n (2 ^ 32)) h in
    same_open (sym (append_assoc (codes "alloca " ++ type_text t) (codes ", i32 ") (decimal n)))
    (value_trails (value_open (word_shut (given Alloca) (shut_word (codes "alloca") (codes "alloca ") refl refl refl)) (type_reads t parts.0)) (alloca_tail_trails n parts.1))

-- a word that may be left out
maybe_none : (g : Grammar (Unit {0})) → Derives (maybe g) tt []
maybe_none g = inr (refl, refl)

-- an address behind a type or an operand
ptr_word : Shut (the_word (codes "ptr")) tt (codes "ptr ")
unfolding is_run_byte is_separator is_mark
ptr_word = shut_word (codes "ptr") (codes "ptr ") refl refl refl

access : {A : Type 0} {g : Grammar (Ty → Operand → A)} {f : Ty → Operand → A} {s : List ℕ} (t : Ty) (p : Operand) → typed_built t p ≡ true → Shut g f s → Reads (g ▸ ty ▹ the_mark 44 ▹ the_word (codes "ptr") ▸ value) (f t p) (s ++ access_text t p)
unfolding access_text
access {s = s} t p h x =
    let parts = and_parts (type_built t) (operand_built p) h in
    same_open
    (ap (λ u. u ++ operand_text p) (append_assoc (s ++ type_text t) (codes ", ") (codes "ptr "))
    ∙ append_assoc (s ++ type_text t) (codes ", ptr ") (operand_text p) ∙ append_assoc s (type_text t) (codes ", ptr " ++ operand_text p)
    ∙ ap (λ u. s ++ u) (sym (append_assoc (type_text t) (codes ", ptr ") (operand_text p))))
    (value_open (word_shut (word_tight (value_open x (type_reads t parts.0)) comma) ptr_word) (operand_reads p parts.1))

pub load_reads : (t : Ty) (p : Operand) → op_built (Load t p) ≡ true → Reads load (Load t p) (op_text (Load t p))
unfolding load op_text is_run_byte is_separator is_mark
load_reads t p h =
    none_open align_tail tt align_none
    (access t p h (none_shut (maybe (the_word (codes "volatile"))) tt (maybe_none (the_word (codes "volatile"))) (word_shut (given Load) (shut_word (codes "load") (codes "load ") refl refl refl))))

pub store_reads : (t : Ty) (v p : Operand) → op_built (Store t v p) ≡ true → Reads store (Store t v p) (op_text (Store t v p))
unfolding store op_text is_run_byte is_separator is_mark
store_reads t v p h =
    let parts = and_parts (typed_built t v) (operand_built p) h in
    let head = none_shut (maybe (the_word (codes "volatile"))) tt (maybe_none (the_word (codes "volatile"))) (word_shut (given Store) (shut_word (codes "store") (codes "store ") refl refl refl)) in
    same_open (ap (λ u. u ++ operand_text p) (append_assoc (codes "store " ++ typed_text t v) (codes ", ") (codes "ptr ")))
    (none_open align_tail tt align_none (value_open (word_shut (word_tight (typed t v parts.0 head) comma) ptr_word) (operand_reads p parts.1)))

-- indices
indices_trail : (is : List Arg) → built_all arg_built is ≡ true → Trails indices is (indices_text is)
unfolding indices index_rows indices_text
indices_trail is h =
    let rows = behind_commas_alone index argument_text (attach ▹ attaches) is (all_reads index argument_text arg_built index_reads is (each_built arg_built is h)) in
    record { reads = value_open (given (λ (x : List Arg × Option (Unit {0})). x.0)) rows.reads; parts = rows.parts }

pub gep_reads : (t : Ty) (p : Operand) (is : List Arg) → op_built (Gep t p is) ≡ true → Reads gep (Gep t p is) (op_text (Gep t p is))
unfolding gep op_text is_run_byte is_separator is_mark
gep_reads t p is h =
    let parts = and_parts (typed_built t p) (built_all arg_built is) h in
    value_trails (access t p parts.0 (skip_shut flag (word_shut (given Gep) (shut_word (codes "getelementptr") (codes "getelementptr ") refl refl refl)))) (indices_trail is parts.1)

-- entries
entry_reads : (e : Entry) → entry_built e ≡ true → Reads entry e (entry_text e)
unfolding entry is_run_byte is_separator is_mark
entry_reads e h =
    let parts = and_parts (operand_built e.value) (name_built e.from) h in
    let make : Operand → List ℕ → Entry = λ v l. record { value = v; from = l } in
    loose
    (word_tight (value_open (word_tight (value_open (word_shut (given make) (shut_mark 91 (codes "[ ") refl refl refl)) (operand_reads e.value parts.0)) comma) (local_reads e.from parts.1))
    (tight refl (shut_mark 93 (codes " ]") refl refl refl)))

entries_read : (es : List Entry) → entries_built es ≡ true → Reads entries es (with_commas entry_text es)
unfolding entries entry_rows
entries_read [] h = absurd (let e : false ≡ true = h in cc)
entries_read (e ∷ es) h =
    let all = and_parts (entry_built e) (list_all entry_built es) (each_built entry_built (e ∷ es) h) in
    let rows = behind_commas_alone entry entry_text (attach ▹ attaches) es (all_reads entry entry_text entry_built entry_reads es all.1) in
    value_trails (value_open (given (λ (x : Entry) (xs : List Entry × Option (Unit {0})). x ∷ xs.0)) (entry_reads e all.0)) rows

pub phi_reads : (t : Ty) (es : List Entry) → op_built (Phi t es) ≡ true → Reads phi (Phi t es) (op_text (Phi t es))
unfolding phi op_text is_run_byte is_separator is_mark
phi_reads t es h =
    let parts = and_parts (type_built t) (entries_built es) h in
    value_open (spaced (value_open (word_shut (given Phi) (shut_word (codes "phi") (codes "phi ") refl refl refl)) (type_reads t parts.0))) (entries_read es parts.1)
