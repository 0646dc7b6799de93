-- Instructions and terminators that a small text says are built.
use Rattle.std.proofs.Common.{◌≡◌, ℕ, ◌^◌, ◌<◌, ◌≤◌, Bool, true, false, List, ◌∷◌, length, length-append, refl, sym, ◌∙◌, ap, subst, arith, Option, Some, None}
use Rattle.std.specs.Prelude.{◌&&◌, nat_lt}
use Rattle.std.proofs.lemmas.Bool.{and_from, and_parts}
use Rattle.ir_core.specs.declared.ty.Ty.{Ty}
use Rattle.ir_core.specs.declared.operand.Operand.{Operand}
use Rattle.ir_core.specs.declared.operand.Operand.TheVariants as operand
use Rattle.ir_core.specs.declared.instruction.Arg.{Arg}
use Rattle.ir_core.specs.declared.instruction.Case.{Case}
use Rattle.ir_core.specs.declared.instruction.Entry.{Entry}
use Rattle.ir_core.specs.declared.instruction.Inst.{Inst}
use Rattle.ir_core.specs.declared.instruction.Op.{Op}
use Rattle.ir_core.specs.declared.instruction.Op.TheVariants as op_of
use Rattle.ir_core.specs.declared.instruction.Term.TheVariants as term_of
use Rattle.ir_core.specs.Built.{built_all, name_built, type_built, result_built, operand_built, typed_built, arg_built, entry_built, entries_built, callee_built, op_built, result_named, inst_built, case_value_built, case_built, end_built}
use Rattle.ir_lex.specs.declared.token.TokenKind.{TokenKind}
use Rattle.ir_grammar.specs.Grammar.{Grammar, loop, Behind, Derives, ◌▹◌}
use Rattle.ir_syntax.specs.Metadata.{attach, attaches}
use Rattle.ir_syntax.specs.Words.{a_comma}
use Rattle.ir_syntax.specs.Instructions.{binary, compare, cast, select, freeze, counted, alloca_tail, alloca, load, index, index_rows, indices, gep, entry, entry_rows, entries, phi, call_head, callee, call, op, store, void_callee, void_call, without_name, named_inst, void_inst, debug_inst, inst}
use Rattle.ir_syntax.specs.Terminators.{target, ret, br, case, switch, unreachable, ending, term}
use Rattle.ir_syntax.proofs.FineModule.{item-case}
use Rattle.ir_built.proofs.Small.{AreSmall, small_left, small_right}
use Rattle.ir_built.proofs.Always.{Always, Passes, given, with_such, with, with_any, before, one_of_two, FewEach, Each, WhereSome, built_each, several, some_tokens, some_each, row_each}
use Rattle.ir_built.proofs.BuiltTypes.{count_always, local_always, plain_name, plain_global_always, type_always, result_always}
use Rattle.ir_built.proofs.BuiltValues.{ArgBuilt, value_always, const_always, args_always}

-- an operation that gives a value
abbrev gives_value : Op → Bool
gives_value (op_of.Store t a p) = false
gives_value other = true

abbrev valued_built : Op → Bool
valued_built o = op_built o && gives_value o

valued : (b : Bool) → b ≡ true → (b && true) ≡ true
valued b h = and_from b true h refl

typed : (t : Ty) → type_built t ≡ true → (v : Operand) → operand_built v ≡ true → typed_built t v ≡ true
typed t h v k = and_from (type_built t) (operand_built v) h k

binary_always : Passes binary valued_built
unfolding binary
binary_always =
    before
    (with operand_built
    (before (with operand_built (with type_built (before (with_any (given op_of.Bin (λ o t h a k b l. valued _ (and_from (typed_built t a) (operand_built b) (typed t h a k) l))))) type_always) value_always))
    value_always)

compare_always : Passes compare valued_built
unfolding compare
compare_always =
    before
    (with operand_built
    (before
    (with operand_built (with type_built (with_any (before (before (given op_of.Compare (λ o t h a k b l. valued _ (and_from (typed_built t a) (operand_built b) (typed t h a k) l)))))) type_always) value_always))
    value_always)

cast_always : Passes cast valued_built
unfolding cast
cast_always =
    before
    (with type_built
    (before (with operand_built (with type_built (before (with_any (given op_of.Cast (λ o t h a k u l. valued _ (and_from (typed_built t a) (type_built u) (typed t h a k) l))))) type_always) value_always))
    type_always)

select_always : Passes select valued_built
unfolding select
select_always =
    before
    (with operand_built
    (with type_built
    (before
    (with operand_built
    (with type_built
    (before
    (with operand_built
    (before
    (before
    (given op_of.Select
    (λ c h t i a k u j b l. valued _ (and_from (operand_built c) (typed_built t a && typed_built u b) h (and_from (typed_built t a) (typed_built u b) (typed t i a k) (typed u j b l)))))))
    value_always))
    type_always)
    value_always))
    type_always)
    value_always)

freeze_always : Passes freeze valued_built
unfolding freeze
freeze_always = before (with operand_built (with type_built (before (given op_of.Freeze (λ t h a k. valued _ (typed t h a k)))) type_always) value_always)

-- counts of elements
counted_always : Passes counted (λ n. nat_lt n (2 ^ 32))
unfolding counted
counted_always = one_of_two (before (with (λ n. nat_lt n (2 ^ 32)) (before (given _ (λ n h. h))) count_always)) (before (before (given 1 refl)))

alloca_tail_always : Passes alloca_tail (λ n. nat_lt n (2 ^ 32))
unfolding alloca_tail
alloca_tail_always = one_of_two (with (λ n. nat_lt n (2 ^ 32)) (before (given _ (λ n h. h))) counted_always) (given 1 refl)

alloca_always : Passes alloca valued_built
unfolding alloca
alloca_always =
    with (λ n. nat_lt n (2 ^ 32)) (with type_built (before (given op_of.Alloca (λ t h n k. valued _ (and_from (type_built t) (nat_lt n (2 ^ 32)) h k)))) type_always) alloca_tail_always

load_always : Passes load valued_built
unfolding load
load_always = before (with operand_built (before (before (with type_built (before (before (given op_of.Load (λ t h a k. valued _ (typed t h a k))))) type_always))) value_always)

-- rows behind commas
loop_each : {A B : Type 0} (s : Grammar (Unit {0})) (g : Grammar A) (h : Grammar B) {P : A → Type 0} → ((us : List TokenKind) → Derives s tt us → 0 < length us) → Always g P
    → (v : List A × Option B) (ts : List TokenKind) → AreSmall ts → Derives (loop s g h) v ts → (length v.0 ≤ length ts) × Each P v.0
loop_each {A} {B} s g h {P} some x v ts small (front, rest, cut, row, last) =
    let r = row_each P (Behind (λ us. Derives s tt us) (λ (a : A) (us : List TokenKind). Derives g a us)) one v.0 front (small_left ts front rest cut small) row in
    let l = ap length cut in
    let parts = length-append front rest in
    let few : length v.0 ≤ length front = r.0 in
    (omega arith, r.1)
  where
    one : (a : A) (us : List TokenKind) → AreSmall us → Behind (λ us. Derives s tt us) (λ (b : A) (ws : List TokenKind). Derives g b ws) a us → P a × (0 < length us)
    one a us k (left, right, parts, ds, dg) =
        let l = ap length parts in
        let n = length-append left right in
        let one : 0 < length left = some left ds in
        (x.holds a right (small_right us left right parts k) dg, omega arith)

index_always : Always index ArgBuilt
unfolding index
index_always = with operand_built (with type_built (given _ typed) type_always) value_always

comma_some : (us : List TokenKind) → Derives a_comma tt us → 0 < length us
comma_some us d = some_tokens a_comma tt us refl d

index_rows_always : Always index_rows (λ v. FewEach ArgBuilt v.0)
unfolding index_rows
index_rows_always = record {
  holds = λ v ts small d.
      (let r = loop_each a_comma index (attach ▹ attaches) comma_some index_always v ts small d in
      let few : length v.0 ≤ length ts = r.0 in
      let n : length ts < 2 ^ 32 = small.0 in
      (omega arith, r.1));
}

indices_always : Passes indices (built_all arg_built)
unfolding indices
indices_always = with_such (λ v. FewEach ArgBuilt v.0) (given _ (λ v h. built_each arg_built v.0 h)) index_rows_always

gep_always : Passes gep valued_built
unfolding gep
gep_always =
    with (built_all arg_built)
    (with operand_built
    (before (before (with type_built (before (before (given op_of.Gep (λ t h a k is l. valued _ (and_from (typed_built t a) (built_all arg_built is) (typed t h a k) l))))) type_always)))
    value_always)
    indices_always

-- entries of a phi
abbrev EntryBuilt : Entry → Type 0
EntryBuilt e = entry_built e ≡ true

entry_always : Always entry EntryBuilt
unfolding entry
entry_always = before (with name_built (before (with operand_built (before (given _ (λ v h l k. and_from (operand_built v) (name_built l) h k))) value_always)) local_always)

entry_rows_few : (v : List Entry × Option (Unit {0})) (ts : List TokenKind) → AreSmall ts → Derives entry_rows v ts → (length v.0 ≤ length ts) × Each EntryBuilt v.0
unfolding entry_rows
entry_rows_few v ts small d = loop_each a_comma entry (attach ▹ attaches) comma_some entry_always v ts small d

entry_some : (e : Entry) (us : List TokenKind) → Derives entry e us → 0 < length us
unfolding entry
entry_some e us d = some_tokens entry e us refl d

entries_of : (e : Entry) (es : List Entry) → FewEach EntryBuilt (e ∷ es) → entries_built (e ∷ es) ≡ true
entries_of e es h = built_each entry_built (e ∷ es) h

entries_always : Passes entries entries_built
unfolding entries
entries_always = record { holds = holds }
  where
    holds : (v : List Entry) (ts : List TokenKind) → AreSmall ts → Derives entries v ts → entries_built v ≡ true
    holds v ts small (f, es, front, rest, cut, (k, e, none, first, here, (k_is, empty), d, f_is), more, is) =
        let left = small_left ts front rest cut small in
        let r = entry_rows_few es rest (small_right ts front rest cut small) more in
        let l = ap length here in
        let n = length-append none first in
        let one : 0 < length first = entry_some e first d in
        let p = entry_always.holds e first (small_right front none first here left) d in
        let same : v ≡ e ∷ es.0 = is ∙ ap (λ z. z es) f_is ∙ ap (λ z. z e es) k_is in
        subst (λ z. entries_built z ≡ true) (sym same) (entries_of e es.0 (some_each EntryBuilt e es.0 front rest ts cut small (omega arith) r.0 p r.1))

phi_always : Passes phi valued_built
unfolding phi
phi_always = with entries_built (with type_built (before (given op_of.Phi (λ t h es k. valued _ (and_from (type_built t) (entries_built es) h k)))) type_always) entries_always

-- calls
call_head_always : Passes call_head result_built
unfolding call_head
call_head_always = with result_built (before (before (before (given _ (λ t h. h))))) result_always

callee_always : Passes callee callee_built
unfolding callee
callee_always = one_of_two (with plain_name (given operand.Global (λ name h. h)) plain_global_always) (with name_built (given operand.Local (λ name h. h)) local_always)

called : (t : Ty) → result_built t ≡ true → (f : Operand) → callee_built f ≡ true → (vs : List Arg) → built_all arg_built vs ≡ true → op_built (op_of.Call t f vs) ≡ true
called t h f k vs l = and_from (result_built t) (callee_built f && built_all arg_built vs) h (and_from (callee_built f) (built_all arg_built vs) k l)

call_always : Passes call valued_built
unfolding call
call_always = before (before (with (built_all arg_built) (with callee_built (with result_built (given op_of.Call (λ t h f k vs l. valued _ (called t h f k vs l))) call_head_always) callee_always) args_always))

-- op
op_always : Passes op valued_built
unfolding op
op_always =
    one_of_two binary_always
    (one_of_two compare_always
    (one_of_two cast_always
    (one_of_two select_always
    (one_of_two freeze_always (one_of_two alloca_always (one_of_two load_always (one_of_two gep_always (one_of_two phi_always call_always))))))))

-- an operation with a result, and without one
named_result : (o : Op) (name : List ℕ) → gives_value o ≡ true → name_built name ≡ true → result_named o (Some name) ≡ true
named_result (op_of.Bin a b c d) name g h = h
named_result (op_of.Compare a b c d) name g h = h
named_result (op_of.Cast a b c d) name g h = h
named_result (op_of.Select a b c d e) name g h = h
named_result (op_of.Freeze a b) name g h = h
named_result (op_of.Alloca a b) name g h = h
named_result (op_of.Load a b) name g h = h
named_result (op_of.Store a b c) name g h = absurd (let e : false ≡ true = g in cc)
named_result (op_of.Gep a b c) name g h = h
named_result (op_of.Phi a b) name g h = h
named_result (op_of.Call a b c) name g h = h

abbrev pub InstBuilt : Inst → Type 0
InstBuilt i = inst_built i ≡ true

named_built : (name : List ℕ) → name_built name ≡ true → (o : Op) → valued_built o ≡ true → InstBuilt (record { result = Some name; op = o })
named_built name h o k =
    let parts = and_parts (op_built o) (gives_value o) k in and_from (op_built o) (result_named o (Some name)) parts.0 (named_result o name parts.1 h)

named_inst_always : Always named_inst (WhereSome InstBuilt)
unfolding named_inst
named_inst_always = with valued_built (before (with name_built (given _ named_built) local_always)) op_always

abbrev alone_built : Op → Bool
alone_built o = op_built o && result_named o None

store_always : Passes store alone_built
unfolding store
store_always =
    before
    (with operand_built
    (before
    (before
    (with operand_built
    (with type_built (before (before (given op_of.Store (λ t h a k p l. valued _ (and_from (typed_built t a) (operand_built p) (typed t h a k) l))))) type_always)
    value_always)))
    value_always)

-- a call without a result, by the type of what is called
abbrev AloneBuilt : Op → Type 0
AloneBuilt o = alone_built o ≡ true

abbrev CallsBuilt : (Ty → Option Op) → Type 0
CallsBuilt f = (t : Ty) → result_built t ≡ true → WhereSome AloneBuilt (f t)

void_callee_always : Always void_callee CallsBuilt
unfolding void_callee
void_callee_always =
    one_of_two (before (before (given _ (λ t h. tt))))
    (with (built_all arg_built) (with callee_built (given _ (λ f k vs l t h. valued _ (called t h f k vs l))) callee_always) args_always)

void_call_always : Always void_call (WhereSome AloneBuilt)
unfolding void_call
void_call_always = before (before (with_such CallsBuilt (with result_built (given _ (λ t h c k. k t h)) call_head_always) void_callee_always))

without_built : (o : Option Op) → WhereSome AloneBuilt o → WhereSome InstBuilt (without_name o)
without_built None h = tt
without_built (Some o) h = h

void_inst_always : Always void_inst (WhereSome InstBuilt)
unfolding void_inst
void_inst_always = with_such (WhereSome AloneBuilt) (given without_name without_built) (one_of_two (with alone_built (given Some (λ o h. h)) store_always) void_call_always)

debug_inst_always : Always debug_inst (WhereSome InstBuilt)
unfolding debug_inst
debug_inst_always = before (before (given None tt))

pub inst_always : Always inst (WhereSome InstBuilt)
unfolding inst
inst_always = one_of_two named_inst_always (one_of_two void_inst_always debug_inst_always)

-- terminators
target_always : Passes target name_built
unfolding target
target_always = with name_built (before (given _ (λ l h. h))) local_always

ret_always : Passes ret end_built
unfolding ret
ret_always =
    with end_built (before (given _ (λ t h. h)))
    (one_of_two (before (given term_of.Ret refl)) (with operand_built (with type_built (given term_of.RetValue typed) type_always) value_always))

br_always : Passes br end_built
unfolding br
br_always =
    with end_built (before (given _ (λ t h. h)))
    (one_of_two (with name_built (given term_of.Br (λ l h. h)) target_always)
    (with name_built
    (before
    (with name_built
    (before
    (with operand_built (before (given term_of.BrIf (λ v h a k b l. and_from (operand_built v) (name_built a && name_built b) h (and_from (name_built a) (name_built b) k l)))) value_always))
    target_always))
    target_always))

abbrev CaseBuilt : Case → Type 0
CaseBuilt c = case_built c ≡ true

case_of : (t : Ty) → type_built t ≡ true → (v : Operand) → case_value_built v ≡ true → (l : List ℕ) → name_built l ≡ true → CaseBuilt (record { ty = t; value = v; to = l })
case_of t h v k l m = and_from (type_built t) (case_value_built v && name_built l) h (and_from (case_value_built v) (name_built l) k m)

case_always : Always case CaseBuilt
unfolding case
case_always = with name_built (before (with case_value_built (with type_built (given _ case_of) type_always) const_always)) target_always

switch_of : (t : Ty) → type_built t ≡ true → (v : Operand) → operand_built v ≡ true → (l : List ℕ) → name_built l ≡ true → (cs : List Case) → FewEach CaseBuilt cs → end_built (term_of.Switch t v l cs) ≡ true
switch_of t h v k l m cs all =
    and_from (typed_built t v) (name_built l && built_all case_built cs) (typed t h v k) (and_from (name_built l) (built_all case_built cs) m (built_each case_built cs all))

switch_always : Passes switch end_built
unfolding switch
switch_always =
    before
    (with_such (FewEach CaseBuilt)
    (before (with name_built (before (with operand_built (with type_built (before (given term_of.Switch switch_of)) type_always) value_always)) target_always))
    (several item-case.some case_always))

unreachable_always : Passes unreachable end_built
unfolding unreachable
unreachable_always = before (given term_of.Unreachable refl)

ending_always : Passes ending end_built
unfolding ending
ending_always = one_of_two ret_always (one_of_two br_always (one_of_two switch_always unreachable_always))

pub term_always : Passes term end_built
unfolding term
term_always = before (with end_built (given _ (λ t h. h)) ending_always)
