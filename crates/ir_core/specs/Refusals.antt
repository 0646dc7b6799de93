-- Valid modules: built, and refused for none of six reasons. Each reason has its places in the order of the text.
use Rattle.std.specs.Prelude.{◌≡◌, ℕ, List, [], ◌∷◌, ◌++◌, Bool, false, ◌&&◌, ◌||◌, not, nat_eq, nat_lt, length, map, filter, slice_get, Option, Some, None, codes, if◌then◌else◌}
use Rattle.std.specs.List.{flat_map, list_any, starts_with}
use Rattle.rd_num.specs.declared.width.Width.TheVariants.{W32}
use Rattle.ir_core.specs.declared.limit.Limit.{Limit}
use Rattle.ir_core.specs.declared.limit.Spot.{Spot}
use Rattle.ir_core.specs.declared.limit.TheConstants.{MAX_NESTING, MAX_SIZE, MAX_FUNCTIONS, MAX_INSTRUCTIONS, MAX_TOTAL, MAX_PARAMETERS, MAX_FRAME, MAX_BYTES, MAX_CODE}
use Rattle.ir_core.specs.declared.module.Param.{Param}
use Rattle.ir_core.specs.declared.module.Extern.{Extern}
use Rattle.ir_core.specs.declared.module.Function.{Function}
use Rattle.ir_core.specs.declared.module.Module.{Module}
use Rattle.ir_core.specs.Names.{same_name, first_where}
use Rattle.ir_core.specs.Kinds.{Number, Pointer, kind_of, same_kind}
use Rattle.ir_core.specs.Calls.{same_kinds}
use Rattle.ir_core.specs.Built.{IsBuilt}
use Rattle.ir_core.specs.Mentions.{Mention, OfType, OfLabel, OfLocal, OfCallee, OfBase, OfSymbol, names_of, outside_functions, mentions, of_global, of_function, written_types}
use Rattle.ir_core.specs.Definitions.{local_mark, global_mark, type_names, variable_names, extern_names, function_names, label_names, is_among, doubled}
use Rattle.ir_core.specs.Counts.{told, depth_of, size_count, steps_in, total_count, parameter_counts, frame_count, bytes_count, code_count}
use Rattle.ir_core.specs.Valid.{LocalKind, locals_of, extern_fits, type_faults}

-- why a module is refused
pub data Fault : Type 0 where
  Doubled : (name : List ℕ) → Fault
  Unknown : (name : List ℕ) → Fault
  Limited : (which : Limit) (count : ℕ) → Fault
  External : (name : List ℕ) → Fault
  NoMain : Fault
  BadType : (spot : Spot) → Fault

-- what the places inside of a function can mean
pub record Inside : Type 0 where
  pub labels : List (List ℕ)
  pub locals : List (List ℕ)

-- outside of functions there is nothing of the kind
abbrev pub outside : Inside
outside = record { labels = []; locals = [] }

-- a function's labels, parameters and results
abbrev pub inside : Function → Inside
inside f = record { labels = label_names f; locals = map (λ (l : LocalKind). l.name) (locals_of f) }

-- a name that isn't among those that could define it
abbrev pub unless_among : List (List ℕ) → List ℕ → List ℕ → List (List ℕ)
unless_among names name marked = if is_among names name then [] else marked ∷ []

-- the names of `@`: all of them, and those that can be called
abbrev pub symbols : Module → List (List ℕ)
symbols m = variable_names m ++ (extern_names m ++ function_names m)

-- declarations and functions
abbrev pub callees : Module → List (List ℕ)
callees m = extern_names m ++ function_names m

-- names that have no definition of the kind that their place needs
abbrev pub unknown_in : Module → Inside → Mention → List (List ℕ)
unknown_in m at (OfType ty) = flat_map (λ name. unless_among (type_names m) name (local_mark name)) (names_of ty)
unknown_in m at (OfLabel name) = unless_among at.labels name (local_mark name)
unknown_in m at (OfLocal name) = unless_among at.locals name (local_mark name)
unknown_in m at (OfCallee name) = unless_among (callees m) name (global_mark name)
unknown_in m at (OfBase name) = unless_among (variable_names m) name (global_mark name)
unknown_in m at (OfSymbol name) = unless_among (symbols m) name (global_mark name)

-- in the whole module
abbrev pub unknown : Module → List (List ℕ)
unknown m =
    flat_map (unknown_in m outside) (outside_functions m)
    ++ flat_map (λ (f : Function). flat_map (unknown_in m (inside f)) (of_function f)) m.functions

-- counts past a limit
abbrev pub past : Limit → ℕ → List ℕ → List Fault
past which most counts = map (λ n. Limited which n) (filter (λ n. nat_lt most n) counts)

-- the limits in their order
abbrev pub limited : Module → List Fault
limited m =
    past Limit.Nesting MAX_NESTING (map (depth_of m.types) (written_types m))
    ++ past Limit.Size MAX_SIZE (map (size_count m.types) (written_types m))
    ++ past Limit.Functions MAX_FUNCTIONS (length m.functions ∷ [])
    ++ past Limit.Instructions MAX_INSTRUCTIONS (map (λ (f : Function). told (steps_in f.blocks)) m.functions)
    ++ past Limit.Total MAX_TOTAL (told (total_count m) ∷ [])
    ++ past Limit.Parameters MAX_PARAMETERS (parameter_counts m)
    ++ past Limit.Frame MAX_FRAME (map (frame_count m.types) m.functions)
    ++ past Limit.Bytes MAX_BYTES (bytes_count m ∷ [])
    ++ past Limit.Code MAX_CODE (code_count m ∷ [])

-- whether a mention is one of an `@` name
abbrev pub is_of_symbol : List ℕ → Mention → Bool
is_of_symbol name (OfCallee used) = same_name name used
is_of_symbol name (OfSymbol used) = same_name name used
is_of_symbol name other = false

-- a declaration that is called or named, and isn't an outside function with that function's type
abbrev pub wrong_declaration : Module → Extern → List (List ℕ)
wrong_declaration m e = if list_any (is_of_symbol e.name) (mentions m) && not (extern_fits e) then global_mark e.name ∷ [] else []

-- a declared name in another place than that of a callee
abbrev pub wrong_use : Module → Mention → List (List ℕ)
wrong_use m (OfSymbol name) = if is_among (extern_names m) name then global_mark name ∷ [] else []
wrong_use m other = []

-- names of this form are declared alone
abbrev pub is_outside_name : List ℕ → Bool
is_outside_name name = starts_with nat_eq name (codes "llvm.")

-- a function that is defined under such a name
abbrev pub wrong_definition : List ℕ → List (List ℕ)
wrong_definition name = if is_outside_name name then global_mark name ∷ [] else []

-- what stands outside of the module and is used wrongly
abbrev pub external : Module → List (List ℕ)
external m =
    flat_map (wrong_use m) (flat_map of_global m.globals)
    ++ flat_map (wrong_declaration m) m.externs
    ++ flat_map (λ (f : Function). wrong_definition f.name ++ flat_map (wrong_use m) (of_function f)) m.functions

-- `main` has one of its two types
abbrev pub is_main : Function → Bool
is_main f =
    let kinds = map (λ (p : Param). kind_of p.ty) f.params in
    same_kind (kind_of f.ret) (Number W32) && (same_kinds kinds [] || same_kinds kinds (Number W32 ∷ Pointer ∷ []))

-- the function `main` is there
abbrev pub has_main : Option Function → Bool
has_main (Some f) = is_main f
has_main None = false

-- the defined function of that name
abbrev pub main_of : Module → Option Function
main_of m = first_where (λ (f : Function). same_name f.name (codes "main")) m.functions

-- a module without it
abbrev pub without_main : Module → List Fault
without_main m = if has_main (main_of m) then [] else NoMain ∷ []

-- all refusals, in their order
abbrev pub refusals : Module → List Fault
refusals m =
    map Doubled (doubled m) ++ map Unknown (unknown m) ++ limited m ++ map External (external m) ++ without_main m ++ map BadType (type_faults m)

-- the first refusal at its first place
abbrev pub first_fault : Module → Option Fault
first_fault m = slice_get (refusals m) 0

-- a valid module is built, and nothing refuses it
pub record IsValid (m : Module) : Type 0 where
  pub built : IsBuilt m
  pub accepted : first_fault m ≡ None
