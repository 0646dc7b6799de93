-- A base with bodies: its functions have their names, and its values are named in its globals and in the bodies.
use Rattle.std.proofs.Common.{◌≡◌, ℕ, suc, List, [], ◌∷◌, ◌++◌, Bool, true, false, ◌||◌, map, length, Some, refl, ap, sym, ◌∙◌, arith, if◌then◌else◌, Bor}
use Rattle.std.specs.Prelude.{option_map, not, codes}
use Rattle.std.specs.List.{All, flat_map, list_any}
use Rattle.std.proofs.lemmas.List.{append-nil}
use Rattle.std.proofs.lemmas.List.Elements.{All-nil, All-cons, All-head, All-tail}
use Rattle.std.proofs.lemmas.List.Folds.{list_any-append}
use Rattle.ir_core.specs.declared.instruction.Inst.{Inst}
use Rattle.ir_core.specs.declared.module.Block.{Block}
use Rattle.ir_core.specs.declared.module.Extern.{Extern}
use Rattle.ir_core.specs.declared.module.Function.{Function}
use Rattle.ir_core.specs.declared.module.GlobalVar.{GlobalVar}
use Rattle.ir_core.specs.declared.module.Module.{Module}
use Rattle.ir_core.specs.declared.module.Param.{Param}
use Rattle.ir_core.specs.declared.ty.NamedTy.{NamedTy}
use Rattle.ir_core.specs.declared.ty.Ty.{Ty}
use Rattle.ir_core.specs.Definitions.{repeated}
use Rattle.ir_core.specs.Mentions.{Mention, OfType, OfLabel, OfLocal, OfCallee, OfBase, OfSymbol, of_op, of_end, of_block, of_function, of_global, of_extern, mentions}
use Rattle.ir_core.specs.Names.{same_name, number_where}
use Rattle.ir_core.specs.Operands.{function_number}
use Rattle.ir_core.proofs.NameSets.{same_name-sym}
use Rattle.ir_context.proofs.RegisterLaws.{name_is}
use Rattle.low_core.specs.declared.moves.Body.{Body}
use Rattle.low_core.specs.declared.moves.Chunk.{Chunk}
use Rattle.low_core.specs.declared.moves.Move.{Move}
use Rattle.low_core.specs.Plain.{op_of, inst_of, block_of, with_blocks, with_bodies, plain}
use Rattle.low_core.specs.Shaped.{IsFunctionShaped}
use Rattle.low_core.specs.declared.sel.Sel.{Sel}
use Rattle.low_core.specs.declared.sel.SelFun.{SelFun}
use Rattle.isel_rows.specs.Functions.{function_selected}
use Rattle.isel_rows.specs.Selected.{is_value_of, is_taken, selected}
use Rattle.isel_rows.specs.Variables.{number_or_first}
use Rattle.isel_rows.proofs.SameLaws.{functions_same}
use Rattle.isel_rows.specs.Symbols.{symbols_in, move_symbols, chunk_symbols, body_symbols, global_symbols}
use Rattle.isel_rows.proofs.SymbolLaws.{both_symbols}

-- functions keep their names
numbers_same : (name : List ℕ) (fs : List Function) (bs : List Body) → length bs ≡ length fs →
    number_where (λ (f : Function). same_name f.name name) (with_bodies fs bs) ≡ number_where (λ (f : Function). same_name f.name name) fs
numbers_same name [] bs e = refl
numbers_same name (f ∷ fs) [] e = absurd (omega (arith, e))
numbers_same name (f ∷ fs) (b ∷ bs) e = ap (λ o. if same_name f.name name then Some 0 else option_map (λ n. suc n) o) (numbers_same name fs bs (omega (arith, e)))

pub agreed : (base : Module) (bodies : List Body) → length bodies ≡ length base.functions → (name : List ℕ) → function_number (plain base bodies) name ≡ function_number base name
agreed base bodies e name = numbers_same name base.functions bodies e

-- the names in what has none
none_in_types : (ts : List NamedTy) → symbols_in (map (λ (t : NamedTy). OfType t.fields) ts) ≡ []
none_in_types [] = refl
none_in_types (t ∷ ts) = none_in_types ts

none_in_list : (ts : List Ty) → symbols_in (map (λ (t : Ty). OfType t) ts) ≡ []
none_in_list [] = refl
none_in_list (t ∷ ts) = none_in_list ts

none_in_params : (ps : List Param) → symbols_in (map (λ (p : Param). OfType p.ty) ps) ≡ []
none_in_params [] = refl
none_in_params (p ∷ ps) = none_in_params ps

none_in_externs : (es : List Extern) → symbols_in (flat_map of_extern es) ≡ []
none_in_externs [] = refl
none_in_externs (e ∷ es) = both_symbols (of_extern e) (flat_map of_extern es) ∙ ap (λ ns. ns ++ symbols_in (flat_map of_extern es)) (none_in_list e.params) ∙ none_in_externs es

in_globals : (gs : List GlobalVar) → symbols_in (flat_map of_global gs) ≡ flat_map global_symbols gs
in_globals [] = refl
in_globals (g ∷ gs) = both_symbols (of_global g) (flat_map of_global gs) ∙ ap (λ ns. global_symbols g ++ ns) (in_globals gs)

in_moves : (xs : List Move) → symbols_in (flat_map (λ (i : Inst). of_op i.op) (map inst_of xs)) ≡ flat_map move_symbols xs
in_moves [] = refl
in_moves (x ∷ xs) = both_symbols (of_op (op_of x.op)) (flat_map (λ (i : Inst). of_op i.op) (map inst_of xs)) ∙ ap (λ ns. move_symbols x ++ ns) (in_moves xs)

in_chunk : (c : Chunk) → symbols_in (of_block (block_of c)) ≡ chunk_symbols c
in_chunk c = both_symbols (flat_map (λ (i : Inst). of_op i.op) (map inst_of c.moves)) (of_end c.end) ∙ ap (λ ns. ns ++ symbols_in (of_end c.end)) (in_moves c.moves)

in_chunks : (cs : List Chunk) → symbols_in (flat_map of_block (map block_of cs)) ≡ flat_map chunk_symbols cs
in_chunks [] = refl
in_chunks (c ∷ cs) =
    both_symbols (of_block (block_of c)) (flat_map of_block (map block_of cs)) ∙ ap (λ ns. ns ++ symbols_in (flat_map of_block (map block_of cs))) (in_chunk c) ∙ ap (λ ns. chunk_symbols c ++ ns) (in_chunks cs)

in_function : (f : Function) (b : Body) → symbols_in (of_function (with_blocks f (map block_of b.chunks))) ≡ body_symbols b
in_function f b =
    both_symbols (map (λ (p : Param). OfType p.ty) f.params) (flat_map of_block (map block_of b.chunks))
    ∙ ap (λ ns. ns ++ symbols_in (flat_map of_block (map block_of b.chunks))) (none_in_params f.params) ∙ in_chunks b.chunks

in_functions : (fs : List Function) (bs : List Body) → length bs ≡ length fs → symbols_in (flat_map of_function (with_bodies fs bs)) ≡ flat_map body_symbols bs
in_functions [] [] e = refl
in_functions [] (b ∷ bs) e = absurd (omega (arith, e))
in_functions (f ∷ fs) [] e = absurd (omega (arith, e))
in_functions (f ∷ fs) (b ∷ bs) e =
    let g = with_blocks f (map block_of b.chunks) in
    both_symbols (of_function g) (flat_map of_function (with_bodies fs bs))
    ∙ ap (λ ns. ns ++ symbols_in (flat_map of_function (with_bodies fs bs))) (in_function f b) ∙ ap (λ ns. body_symbols b ++ ns) (in_functions fs bs (omega (arith, e)))

pub in_module : (base : Module) (bodies : List Body) → length bodies ≡ length base.functions →
    symbols_in (mentions (plain base bodies)) ≡ flat_map global_symbols base.globals ++ flat_map body_symbols bodies
in_module base bodies e =
    let types = map (λ (t : NamedTy). OfType t.fields) base.types in
    let globals = flat_map of_global base.globals in
    let externs = flat_map of_extern base.externs in
    let functions = flat_map of_function (with_bodies base.functions bodies) in
    both_symbols (types ++ (globals ++ externs)) functions
    ∙ ap (λ ns. ns ++ symbols_in functions)
    (both_symbols types (globals ++ externs) ∙ ap (λ ns. ns ++ symbols_in (globals ++ externs)) (none_in_types base.types)
    ∙ both_symbols globals externs ∙ ap (λ ns. symbols_in globals ++ ns) (none_in_externs base.externs) ∙ append-nil (symbols_in globals) ∙ in_globals base.globals)
    ∙ ap (λ ns. flat_map global_symbols base.globals ++ ns) (in_functions base.functions bodies e)

-- a name is used where it is among them
used : (name : List ℕ) (ms : List Mention) → list_any (is_value_of name) ms ≡ list_any (same_name name) (symbols_in ms)
used name [] = refl
used name (OfSymbol n ∷ ms) = ap (λ b. b || list_any (is_value_of name) ms) (same_name-sym n name) ∙ ap (λ b. same_name name n || b) (used name ms)
used name (OfType ty ∷ ms) = used name ms
used name (OfLabel n ∷ ms) = used name ms
used name (OfLocal n ∷ ms) = used name ms
used name (OfCallee n ∷ ms) = used name ms
used name (OfBase n ∷ ms) = used name ms

-- which functions are taken, by a set of the names
abbrev pub AreTheNames : List (List ℕ) → List (List ℕ) → Type 0
AreTheNames set names = (name : List ℕ) → list_any (same_name name) set ≡ list_any (same_name name) names

taken_functions : (set names : List (List ℕ)) → AreTheNames set names → (ms : List Mention) → symbols_in ms ≡ names → (fs : List Function) (bs : List Body) → length bs ≡ length fs →
    map (λ (f : Function). list_any (same_name f.name) set) fs ≡ map (λ (f : Function). list_any (is_value_of f.name) ms) (with_bodies fs bs)
taken_functions set names are ms is [] bs e = refl
taken_functions set names are ms is (f ∷ fs) [] e = absurd (omega (arith, e))
taken_functions set names are ms is (f ∷ fs) (b ∷ bs) e =
    ap (λ t. t ∷ map (λ (g : Function). list_any (same_name g.name) set) fs) (are f.name ∙ ap (list_any (same_name f.name)) (sym is) ∙ sym (used f.name ms))
    ∙ ap (λ ts. list_any (is_value_of f.name) ms ∷ ts) (taken_functions set names are ms is fs bs (omega (arith, e)))

pub taken_are : (base : Module) (bodies : List Body) (set names : List (List ℕ)) → length bodies ≡ length base.functions → AreTheNames set names → names ≡ flat_map global_symbols base.globals ++ flat_map body_symbols bodies →
    map (λ (f : Function). list_any (same_name f.name) set) base.functions ≡ map (is_taken (plain base bodies)) (plain base bodies).functions
taken_are base bodies set names e are is = taken_functions set names are (mentions (plain base bodies)) (in_module base bodies e ∙ sym is) base.functions bodies e

-- one more name in the set
pub one_more_name : (set names : List (List ℕ)) (n : List ℕ) (new : Bool) → AreTheNames set names → new ≡ not (list_any (same_name n) set) →
    AreTheNames (if new then set ++ n ∷ [] else set) (names ++ n ∷ [])
one_more_name set names n true are is name =
    list_any-append (same_name name) set (n ∷ []) ∙ ap (λ b. b || list_any (same_name name) (n ∷ [])) (are name) ∙ sym (list_any-append (same_name name) names (n ∷ []))
one_more_name set names n false are is name =
    there (same_name name n) refl ∙ sym (list_any-append (same_name name) names (n ∷ []))
  where
    has : list_any (same_name n) set ≡ true
    has = was (list_any (same_name n) set) refl is
      where
        was : (b : Bool) → list_any (same_name n) set ≡ b → false ≡ not b → list_any (same_name n) set ≡ true
        was true e f = e
        was false e f = absurd (cc)

    there : (b : Bool) → same_name name n ≡ b → list_any (same_name name) set ≡ (list_any (same_name name) names || (b || false))
    there true e = ap (λ x. list_any (same_name x) set) (name_is name n e) ∙ has ∙ sym (or_true (list_any (same_name name) names))
      where
        or_true : (b : Bool) → (b || true) ≡ true
        or_true true = refl
        or_true false = refl
    there false e = are name ∙ sym (or_false (list_any (same_name name) names))
      where
        or_false : (b : Bool) → (b || false) ≡ b
        or_false true = refl
        or_false false = refl

-- labels of bodies
pub labels_of_bodies : (own : ℕ) (m : Module) (fs : List Function) (bs : List Body) → length bs ≡ length fs → All (IsFunctionShaped own m) (with_bodies fs bs) →
    All (λ (b : Body). repeated [] (map (λ (c : Chunk). c.label) b.chunks) ≡ []) bs
labels_of_bodies own m [] [] e all = All-nil (λ (b : Body). repeated [] (map (λ (c : Chunk). c.label) b.chunks) ≡ [])
labels_of_bodies own m [] (b ∷ bs) e all = absurd (omega (arith, e))
labels_of_bodies own m (f ∷ fs) [] e all = absurd (omega (arith, e))
labels_of_bodies own m (f ∷ fs) (b ∷ bs) e all =
    let g = with_blocks f (map block_of b.chunks) in
    All-cons (λ (x : Body). repeated [] (map (λ (c : Chunk). c.label) x.chunks) ≡ []) b bs
    (ap (repeated []) (labels_are b.chunks) ∙ (All-head (IsFunctionShaped own m) g (with_bodies fs bs) all).labels)
    (labels_of_bodies own m fs bs (omega (arith, e)) (All-tail (IsFunctionShaped own m) g (with_bodies fs bs) all))
  where
    labels_are : (cs : List Chunk) → map (λ (c : Chunk). c.label) cs ≡ map (λ (x : Block). x.label) (map block_of cs)
    labels_are [] = refl
    labels_are (c ∷ cs) = ap (λ l. c.label ∷ l) (labels_are cs)

pub more_names : (ks : List (Bor (List ℕ))) (k : Bor (List ℕ)) → map (λ (x : Bor (List ℕ)). x.now) (ks ++ k ∷ []) ≡ map (λ (x : Bor (List ℕ)). x.now) ks ++ k.now ∷ []
more_names [] k = refl
more_names (x ∷ xs) k = ap (λ ns. x.now ∷ ns) (more_names xs k)

-- a program by its parts
pub whole_program : (base : Module) (bodies : List Body) → length bodies ≡ length base.functions → (functions : List SelFun) (main : ℕ) (taken : List Bool) →
    functions ≡ map (function_selected base) (with_bodies base.functions bodies) → main ≡ number_or_first (function_number base (codes "main")) →
    taken ≡ map (is_taken (plain base bodies)) (plain base bodies).functions →
    let s : Sel = record { functions = functions; main = main; taken = taken } in s ≡ selected base bodies
unfolding selected
whole_program base bodies e functions main taken made named used =
    parts functions (map (function_selected (plain base bodies)) (plain base bodies).functions) main _ taken _
    (made ∙ sym (functions_same base (with_bodies base.functions bodies) (agreed base bodies e) (with_bodies base.functions bodies)))
    (named ∙ ap number_or_first (sym (agreed base bodies e (codes "main")))) used
  where
    parts : (fs gs : List SelFun) (k l : ℕ) (ts us : List Bool) → fs ≡ gs → k ≡ l → ts ≡ us →
        let s : Sel = record { functions = fs; main = k; taken = ts } in let t : Sel = record { functions = gs; main = l; taken = us } in s ≡ t
    parts fs gs k l ts us a b d = cc

pub names_of_functions : (fs : List Function) (bs : List Body) → length bs ≡ length fs → map (λ (f : Function). f.name) (with_bodies fs bs) ≡ map (λ (f : Function). f.name) fs
names_of_functions [] bs e = refl
names_of_functions (f ∷ fs) [] e = absurd (omega (arith, e))
names_of_functions (f ∷ fs) (b ∷ bs) e = ap (λ ns. f.name ∷ ns) (names_of_functions fs bs (omega (arith, e)))

pub length_of_bodies : (fs : List Function) (bs : List Body) → length bs ≡ length fs → length (with_bodies fs bs) ≡ length fs
length_of_bodies [] bs e = refl
length_of_bodies (f ∷ fs) [] e = absurd (omega (arith, e))
length_of_bodies (f ∷ fs) (b ∷ bs) e = ap suc (length_of_bodies fs bs (omega (arith, e)))
