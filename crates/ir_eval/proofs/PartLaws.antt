-- What instructions, phis and ends of blocks read is what their parts in the program give.
use Rattle.std.proofs.Common.{◌≡◌, ℕ, Bool, true, List, [], ◌∷◌, ◌++◌, map, Option, Some, None, Ok, refl, ap, sym, ◌∙◌}
use Rattle.std.specs.Prelude.{◌&&◌}
use Rattle.std.specs.List.{list_all}
use Rattle.std.proofs.lemmas.Bool.{and_parts}
use Rattle.rd_num.specs.declared.width.Width.TheVariants.{W1}
use Rattle.ir_core.specs.declared.operand.Operand.{Operand}
use Rattle.ir_core.specs.declared.operand.Operand.TheVariants.{Int, Bool as Truth, Null as NullWord, Undef, Poison, Local as LocalName, Global, Const}
use Rattle.ir_core.specs.declared.instruction.Arg.{Arg}
use Rattle.ir_core.specs.declared.instruction.Entry.{Entry}
use Rattle.ir_core.specs.declared.instruction.Case.{Case}
use Rattle.ir_core.specs.declared.instruction.Term.{Term}
use Rattle.ir_core.specs.declared.instruction.Term.TheVariants.{Ret, RetValue, Br, BrIf, Switch, Unreachable}
use Rattle.ir_core.specs.declared.module.Module.{Module}
use Rattle.ir_core.specs.declared.memory.Value.{Value}
use Rattle.ir_core.specs.declared.kind.Kind.{Kind}
use Rattle.ir_core.specs.declared.kind.Kind.TheVariants.{Number, Pointer}
use Rattle.ir_core.specs.Kinds.{kind_of, same_kind}
use Rattle.ir_core.specs.Names.{same_name, first_where}
use Rattle.ir_core.specs.Stops.{Answer, and_then, found_or}
use Rattle.ir_core.specs.Stops as stop
use Rattle.ir_core.specs.State.{Local}
use Rattle.ir_core.specs.Operands.{function_number, value_of}
use Rattle.ir_core.specs.Calls.{Target, target_of, target_named}
use Rattle.ir_core.specs.Calls as target
use Rattle.ir_core.specs.Typing.{Env, operand_fits, case_fits, term_fits, is_value, is_number}
use Rattle.ir_core.specs.Mentions.{OfLabel, of_operand, of_typed, of_args, of_entries, of_cases, of_end}
use Rattle.ir_core.specs.Step.{Choice, chosen}
use Rattle.ir_context.specs.Registers.{StandFor}
use Rattle.ir_context.specs.Origins.{arg_origin}
use Rattle.ir_program.specs.Actions.{argument_of, callee_named, callee_of}
use Rattle.ir_program.specs.Exits.{entry_origin, move_of}
use Rattle.ir_context.specs.Reads.{origin_value, origin_values, IsPlaced, ArePlaced}
use Rattle.ir_program.specs.Reads.{argument_values, callee_target}
use Rattle.ir_sound.specs.WellTyped.{Each}
use Rattle.ir_sound.proofs.RowLaws.{Each_parts, first_has}
use Rattle.ir_context.specs.Small.{FieldsAreSmall, IsSmallMention}
use Rattle.ir_run.specs.Agreement.{IsReadAs, CallsAs, CasesAgree, EndAgrees}
use Rattle.ir_context.proofs.ValueLaws.{value_read}
use Rattle.ir_context.proofs.MoveLaws.{then_same, values_read}
use Rattle.ir_context.proofs.OperandLaws.{is_placed as operand_placed, are_placed as args_placed}
use Rattle.ir_globals.proofs.MentionLaws.{all_small}

-- an operand that fits a kind, and whose types are small
pub is_placed : (m : Module) (env : Env) (kind : Kind) (a : Operand) → FieldsAreSmall m.types m.types → Each (IsSmallMention m.types) (of_operand a) → operand_fits m env kind a ≡ true → IsPlaced m a
is_placed m env kind a all small fits = operand_placed m env kind a all (all_small m.types (of_operand a) small) fits

-- a placed operand is read as its origin
pub is_read : (m : Module) (names : List (List ℕ)) (kind : Kind) (a : Operand) → IsPlaced m a → IsReadAs m names kind a
is_read m names kind a placed registers locals stand = sym (value_read m names registers locals stand kind a placed)

-- arguments or indices whose operands fit their kinds
pub are_placed : (m : Module) (env : Env) (test : Arg → Bool) (args : List Arg) → FieldsAreSmall m.types m.types → ((a : Arg) → test a ≡ true → operand_fits m env (kind_of a.ty) a.value ≡ true) → Each (IsSmallMention m.types) (of_args args) → list_all test args ≡ true → ArePlaced m args
are_placed m env test args all go small fits = args_placed m env test args all go (all_small m.types (of_args args) small) fits

-- the values of arguments are those of their origins
arguments_are : (m : Module) (names : List (List ℕ)) (registers : List (Option Value)) (args : List Arg) → argument_values registers (map (argument_of m names) args) ≡ origin_values registers (map (arg_origin m names) args)
arguments_are m names registers [] = refl
arguments_are m names registers (a ∷ as') =
    then_same (origin_value registers (arg_origin m names a)) (λ v. and_then (argument_values registers (map (argument_of m names) as')) (λ vs. let r : Answer (List Value) = Ok (v ∷ vs) in r)) (λ v. and_then (origin_values registers (map (arg_origin m names) as')) (λ vs. let r : Answer (List Value) = Ok (v ∷ vs) in r))
    (λ v. ap (λ o. and_then o (λ vs. let r : Answer (List Value) = Ok (v ∷ vs) in r)) (arguments_are m names registers as'))

-- a function by its name
callee_is : (registers : List (Option Value)) (name : List ℕ) (o : Option ℕ) → callee_target registers (callee_named name o) ≡ Ok (target_named name o)
callee_is registers name (Some f) = refl
callee_is registers name None = refl

-- what a call reads
pub calls_as : (m : Module) (names : List (List ℕ)) (callee : Operand) (arguments : List Arg) → ArePlaced m arguments → CallsAs m names callee arguments
calls_as m names callee arguments placed = record {
  target = λ registers locals stand. by callee registers locals stand;
  values = λ registers locals stand. arguments_are m names registers arguments ∙ sym (values_read m names registers locals stand arguments placed);
}
  where
    by : (a : Operand) (registers : List (Option Value)) (locals : List Local) → StandFor names registers locals → callee_target registers (callee_of m names a) ≡ target_of m locals a
    by (LocalName name) registers locals stand = ap (λ o. and_then o (λ v. let r : Answer Target = Ok (target.Inside v) in r)) (sym (value_read m names registers locals stand Pointer (LocalName name) tt))
    by (Global name) registers locals stand = callee_is registers name (function_number m name)
    by (Int n) registers locals stand = refl
    by (Truth b) registers locals stand = refl
    by NullWord registers locals stand = refl
    by Undef registers locals stand = refl
    by Poison registers locals stand = refl
    by (Const place) registers locals stand = refl

-- the entries of a phi
pub entries_placed : (m : Module) (env : Env) (kind : Kind) (entries : List Entry) → FieldsAreSmall m.types m.types → Each (IsSmallMention m.types) (of_entries entries) → list_all (λ (e : Entry). operand_fits m env kind e.value) entries ≡ true → Each (λ (e : Entry). IsPlaced m e.value) entries
entries_placed m env kind [] all small fits = tt
entries_placed m env kind (e ∷ es) all small fits =
    let P = IsSmallMention m.types in
    let p = and_parts (operand_fits m env kind e.value) (list_all (λ (x : Entry). operand_fits m env kind x.value) es) fits in
    let s = Each_parts P (of_operand e.value ++ OfLabel e.from ∷ []) (of_entries es) small in
    let here = Each_parts P (of_operand e.value) (OfLabel e.from ∷ []) s.0 in
    (is_placed m env kind e.value all here.0 p.0, entries_placed m env kind es all s.1 p.1)

-- what a phi takes from a block
pub phi_taken : (m : Module) (names : List (List ℕ)) (from : List ℕ) (c : Choice) → Each (λ (e : Entry). IsPlaced m e.value) c.entries
    → (registers : List (Option Value)) (locals : List Local) → StandFor names registers locals → origin_value registers (move_of m names from c).origin ≡ chosen m locals from c
phi_taken m names from c placed registers locals stand = by (first_where (λ (e : Entry). same_name e.from from) c.entries) refl
  where
    by : (o : Option Entry) → first_where (λ (e : Entry). same_name e.from from) c.entries ≡ o → origin_value registers (entry_origin m names c.kind o) ≡ and_then (found_or stop.Malformed o) (λ e. value_of m locals c.kind e.value)
    by (Some e) is = is_read m names c.kind e.value (first_has (λ (x : Entry). IsPlaced m x.value) (λ (x : Entry). same_name x.from from) c.entries e placed is) registers locals stand
    by None is = refl

-- no local, no register
none_stand : StandFor [] [] []
none_stand name = refl

-- the cases of a switch
cases_agree : (m : Module) (kind : Kind) (cases : List Case) → FieldsAreSmall m.types m.types → Each (IsSmallMention m.types) (of_cases cases) → list_all (case_fits m kind) cases ≡ true → CasesAgree m cases
cases_agree m kind [] all small fits = tt
cases_agree m kind (c ∷ cs) all small fits =
    let P = IsSmallMention m.types in
    let p = and_parts (case_fits m kind c) (list_all (case_fits m kind) cs) fits in
    let q = and_parts (same_kind (kind_of c.ty) kind) (operand_fits m (λ name. None) kind c.value) p.0 in
    let s = Each_parts P (of_typed c.ty c.value ++ OfLabel c.to ∷ []) (of_cases cs) small in
    let here = Each_parts P (of_typed c.ty c.value) (OfLabel c.to ∷ []) s.0 in
    (is_read m [] (kind_of c.ty) c.value (is_placed m (λ name. None) kind c.value all here.0.1 q.1) [] [] none_stand, cases_agree m kind cs all s.1 p.1)

-- the end of a block
pub end_agrees : (m : Module) (env : Env) (names : List (List ℕ)) (ret : Kind) (t : Term) → FieldsAreSmall m.types m.types → Each (IsSmallMention m.types) (of_end t) → term_fits m env ret t ≡ true → EndAgrees m names t
end_agrees m env names ret Ret all small fits = tt
end_agrees m env names ret (RetValue ty a) all small fits =
    let p = and_parts (is_value ret) (same_kind (kind_of ty) ret && operand_fits m env ret a) fits in
    let q = and_parts (same_kind (kind_of ty) ret) (operand_fits m env ret a) p.1 in
    is_read m names (kind_of ty) a (is_placed m env ret a all small.1 q.1)
end_agrees m env names ret (Br to) all small fits = tt
end_agrees m env names ret (BrIf condition taken other) all small fits =
    let s = Each_parts (IsSmallMention m.types) (of_operand condition) (OfLabel taken ∷ OfLabel other ∷ []) small in
    is_read m names (Number W1) condition (is_placed m env (Number W1) condition all s.0 fits)
end_agrees m env names ret (Switch ty a default cases) all small fits =
    let p = and_parts (is_number (kind_of ty)) (operand_fits m env (kind_of ty) a && list_all (case_fits m (kind_of ty)) cases) fits in
    let q = and_parts (operand_fits m env (kind_of ty) a) (list_all (case_fits m (kind_of ty)) cases) p.1 in
    let s = Each_parts (IsSmallMention m.types) (of_typed ty a) (OfLabel default ∷ of_cases cases) small in
    (is_read m names (kind_of ty) a (is_placed m env (kind_of ty) a all s.0.1 q.0), cases_agree m (kind_of ty) cases all s.1.1 q.1)
end_agrees m env names ret Unreachable all small fits = tt
