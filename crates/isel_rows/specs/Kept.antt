-- Variables as names and kinds, and the variables of a function one local after another.
use Rattle.std.specs.Prelude.{ℕ, List, [], ◌∷◌, ◌++◌, if◌then◌else◌}
use Rattle.ir_core.specs.declared.kind.Kind.{Kind}
use Rattle.ir_core.specs.declared.instruction.Arg.{Arg}
use Rattle.ir_core.specs.declared.module.Module.{Module}
use Rattle.ir_core.specs.Definitions.{is_among}
use Rattle.ir_core.specs.Valid.{LocalKind, named_locals}
use Rattle.ir_context.specs.Origins.{arg_origin}
use Rattle.isel_rows.specs.Brought.{Brought, brought}
use Rattle.isel_rows.specs.Variables.{argument_register}

-- names and kinds in the same order
abbrev pub locals_with : List (List ℕ) → List Kind → List LocalKind
locals_with [] kinds = []
locals_with (n ∷ ns) [] = []
locals_with (n ∷ ns) (k ∷ ks) = record { name = n; kind = k } ∷ locals_with ns ks

-- variables, and one more local, where its name is new
abbrev pub with_local : List LocalKind → LocalKind → List LocalKind
with_local vs l = if is_among (named_locals vs) l.name then vs else vs ++ l ∷ []

-- one argument of a call
abbrev pub argument_brought : Module → List LocalKind → ℕ → Arg → Brought
argument_brought m vs k a = brought vs (argument_register vs k) (arg_origin m (named_locals vs) a)
