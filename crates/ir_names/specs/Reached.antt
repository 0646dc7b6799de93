-- Names that have no definition of the kind that their place needs, part by part.
use Rattle.std.specs.Prelude.{◌≡◌, ◌<◌, ℕ, List, [], ◌∷◌, Bool, length, get_or, if◌then◌else◌}
use Rattle.std.specs.List.{flat_map}
use Rattle.ir_core.specs.declared.module.Function.{Function}
use Rattle.ir_core.specs.declared.module.Module.{Module}
use Rattle.ir_core.specs.Mentions.{Mention, outside_functions, of_function}
use Rattle.ir_core.specs.Definitions.{local_mark, type_names, local_names, repeated}
use Rattle.ir_core.specs.Refusals.{Inside, outside, inside, unless_among, unknown_in}

-- a name, unless there is a definition of it
abbrev pub unless_known : Bool → List ℕ → List (List ℕ)
unless_known known marked = if known then [] else marked ∷ []

-- a name of a type that the module doesn't define
abbrev pub undefined_type : Module → List ℕ → List (List ℕ)
undefined_type m name = unless_among (type_names m) name (local_mark name)

-- unknown names among mentions, where there are these labels and locals
abbrev pub unknown_among : Module → List (List ℕ) → List (List ℕ) → List Mention → List (List ℕ)
unknown_among m labels locals mentions = flat_map (unknown_in m (record { labels = labels; locals = locals })) mentions

-- outside of functions
abbrev pub unknown_outside : Module → List (List ℕ)
unknown_outside m = flat_map (unknown_in m outside) (outside_functions m)

-- inside of a function
abbrev pub unknown_inside : Module → Function → List (List ℕ)
unknown_inside m f = flat_map (unknown_in m (inside f)) (of_function f)

-- none of some functions defines a local twice
abbrev pub LocalsApart : List Function → Type 0
LocalsApart fs = (k : ℕ) (f : Function) → k < length fs → f ≡ get_or fs k f → repeated [] (local_names f) ≡ []
