-- Which names parts of a module use as values.
use Rattle.std.proofs.Common.{◌≡◌, ℕ, List, [], ◌∷◌, ◌++◌, refl, ap, ◌∙◌}
use Rattle.std.specs.List.{flat_map}
use Rattle.std.proofs.lemmas.Grind.{flat_map-append}
use Rattle.std.proofs.lemmas.List.{append-nil}
use Rattle.ir_core.specs.declared.init.Elem.{Elem}
use Rattle.ir_core.specs.declared.instruction.Arg.{Arg}
use Rattle.ir_core.specs.declared.instruction.Case.{Case}
use Rattle.ir_core.specs.declared.instruction.Entry.{Entry}
use Rattle.ir_core.specs.declared.operand.Index0.{Index0}
use Rattle.ir_core.specs.declared.operand.Operand.{Operand}
use Rattle.ir_core.specs.declared.operand.Operand.TheVariants.{Const}
use Rattle.ir_core.specs.declared.operand.Place0.{Place0}
use Rattle.ir_core.specs.declared.ty.Ty.{Ty}
use Rattle.ir_core.specs.Mentions.{Mention, OfType, OfLabel, of_init, of_operand, of_typed, of_indices, of_args, of_entries, of_cases, of_callee}
use Rattle.isel_rows.specs.Symbols.{symbol_of, symbols_in, arg_symbols, entry_symbols, case_symbols, element_symbols}

-- a constant place has none
none_in_indices : (is : List Index0) → symbols_in (of_indices is) ≡ []
none_in_indices [] = refl
none_in_indices (i ∷ is) = none_in_indices is

pub none_in_place : (p : Place0) → symbols_in (of_operand (Const p)) ≡ []
none_in_place p = none_in_indices p.indices

-- one behind the other
pub both_symbols : (xs ys : List Mention) → symbols_in (xs ++ ys) ≡ symbols_in xs ++ symbols_in ys
both_symbols xs ys = flat_map-append symbol_of xs ys

pub args_symbols : (args : List Arg) → symbols_in (of_args args) ≡ flat_map arg_symbols args
args_symbols [] = refl
args_symbols (a ∷ as') = both_symbols (of_typed a.ty a.value) (of_args as') ∙ ap (λ ns. arg_symbols a ++ ns) (args_symbols as')

pub entries_symbols : (es : List Entry) → symbols_in (of_entries es) ≡ flat_map entry_symbols es
entries_symbols [] = refl
entries_symbols (e ∷ es) =
    both_symbols (of_operand e.value ++ OfLabel e.from ∷ []) (of_entries es)
    ∙ ap (λ ns. ns ++ symbols_in (of_entries es)) (both_symbols (of_operand e.value) (OfLabel e.from ∷ []) ∙ append-nil (entry_symbols e))
    ∙ ap (λ ns. entry_symbols e ++ ns) (entries_symbols es)

pub cases_symbols : (cs : List Case) → symbols_in (of_cases cs) ≡ flat_map case_symbols cs
cases_symbols [] = refl
cases_symbols (c ∷ cs) =
    both_symbols (of_typed c.ty c.value ++ OfLabel c.to ∷ []) (of_cases cs)
    ∙ ap (λ ns. ns ++ symbols_in (of_cases cs)) (both_symbols (of_typed c.ty c.value) (OfLabel c.to ∷ []) ∙ append-nil (case_symbols c))
    ∙ ap (λ ns. case_symbols c ++ ns) (cases_symbols cs)

-- of instructions
pub pair_symbols : (ty : Ty) (a b : Operand) → symbols_in (of_typed ty a ++ of_operand b) ≡ symbols_in (of_operand a) ++ symbols_in (of_operand b)
pair_symbols ty a b = both_symbols (of_typed ty a) (of_operand b)

pub cast_symbols : (from to : Ty) (a : Operand) → symbols_in (of_typed from a ++ OfType to ∷ []) ≡ symbols_in (of_operand a)
cast_symbols from to a = both_symbols (of_typed from a) (OfType to ∷ []) ∙ append-nil (symbols_in (of_operand a))

pub choice_symbols : (condition : Operand) (ty : Ty) (a : Operand) (ty2 : Ty) (b : Operand) →
    symbols_in (of_operand condition ++ (of_typed ty a ++ of_typed ty2 b)) ≡ symbols_in (of_operand condition) ++ (symbols_in (of_operand a) ++ symbols_in (of_operand b))
choice_symbols condition ty a ty2 b =
    both_symbols (of_operand condition) (of_typed ty a ++ of_typed ty2 b) ∙ ap (λ ns. symbols_in (of_operand condition) ++ ns) (both_symbols (of_typed ty a) (of_typed ty2 b))

pub move_symbols : (source : Ty) (p : Operand) (indices : List Arg) → symbols_in (of_typed source p ++ of_args indices) ≡ symbols_in (of_operand p) ++ flat_map arg_symbols indices
move_symbols source p indices = both_symbols (of_typed source p) (of_args indices) ∙ ap (λ ns. symbols_in (of_operand p) ++ ns) (args_symbols indices)

pub call_symbols : (callee : Operand) (args : List Arg) → symbols_in (of_callee callee ++ of_args args) ≡ symbols_in (of_callee callee) ++ flat_map arg_symbols args
call_symbols callee args = both_symbols (of_callee callee) (of_args args) ∙ ap (λ ns. symbols_in (of_callee callee) ++ ns) (args_symbols args)

-- of ends
pub branch_symbols : (condition : Operand) (taken other : List ℕ) → symbols_in (of_operand condition ++ OfLabel taken ∷ OfLabel other ∷ []) ≡ symbols_in (of_operand condition)
branch_symbols condition taken other = both_symbols (of_operand condition) (OfLabel taken ∷ OfLabel other ∷ []) ∙ append-nil (symbols_in (of_operand condition))

pub switch_symbols : (ty : Ty) (a : Operand) (default : List ℕ) (cases : List Case) → symbols_in (of_typed ty a ++ OfLabel default ∷ of_cases cases) ≡ symbols_in (of_operand a) ++ flat_map case_symbols cases
switch_symbols ty a default cases = both_symbols (of_typed ty a) (OfLabel default ∷ of_cases cases) ∙ ap (λ ns. symbols_in (of_operand a) ++ ns) (cases_symbols cases)

-- of initialisers
pub elements_symbols : (es : List Elem) → symbols_in (flat_map (λ (e : Elem). OfType e.ty ∷ of_init e.init) es) ≡ flat_map element_symbols es
elements_symbols [] = refl
elements_symbols (e ∷ es) =
    both_symbols (OfType e.ty ∷ of_init e.init) (flat_map (λ (x : Elem). OfType x.ty ∷ of_init x.init) es) ∙ ap (λ ns. element_symbols e ++ ns) (elements_symbols es)
