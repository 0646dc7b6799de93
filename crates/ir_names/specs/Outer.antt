-- What stands outside of a module and is used wrongly, part by part.
use Rattle.std.specs.Prelude.{◌≡◌, ℕ, List, [], ◌∷◌, ◌++◌, Bool, ◌&&◌, ◌||◌, not, if◌then◌else◌}
use Rattle.std.specs.List.{flat_map, list_any}
use Rattle.ir_core.specs.declared.module.Extern.{Extern}
use Rattle.ir_core.specs.declared.module.Function.{Function}
use Rattle.ir_core.specs.declared.module.Module.{Module}
use Rattle.ir_core.specs.Mentions.{Mention, of_global, of_function}
use Rattle.ir_core.specs.Definitions.{global_mark, is_among}
use Rattle.ir_core.specs.Valid.{extern_fits}
use Rattle.ir_core.specs.Refusals.{is_of_symbol, wrong_use, wrong_definition, wrong_declaration}

-- a set, and that set with the `@` names that are mentioned
abbrev pub Uses : List (List ℕ) → List (List ℕ) → List Mention → Type 0
Uses before after mentions = (name : List ℕ) → is_among after name ≡ (is_among before name || list_any (is_of_symbol name) mentions)

-- a declaration whose name is among those that are used, and that doesn't fit
abbrev pub unfit : List (List ℕ) → Extern → List (List ℕ)
unfit used e = if is_among used e.name && not (extern_fits e) then global_mark e.name ∷ [] else []

-- names among mentions that are used wrongly
abbrev pub wrong_among : Module → List Mention → List (List ℕ)
wrong_among m mentions = flat_map (wrong_use m) mentions

-- wrong uses in globals
abbrev pub wrong_in_globals : Module → List (List ℕ)
wrong_in_globals m = flat_map (wrong_use m) (flat_map of_global m.globals)

-- declarations that are used and don't fit
abbrev pub wrong_declarations : Module → List (List ℕ)
wrong_declarations m = flat_map (wrong_declaration m) m.externs

-- a function that is defined wrongly, or uses names wrongly
abbrev pub wrong_in_function : Module → Function → List (List ℕ)
wrong_in_function m f = wrong_definition f.name ++ flat_map (wrong_use m) (of_function f)

-- what is wrong behind the globals
abbrev pub wrong_behind_globals : Module → List (List ℕ)
wrong_behind_globals m = wrong_declarations m ++ flat_map (wrong_in_function m) m.functions
