-- Parameters and arguments, and how parameters without a name are named.
use Rattle.std.specs.Prelude.{ℕ, suc, if◌then◌else◌, List, [], ◌∷◌, Bool, true, Option, Some, None, decimal}
use Rattle.ir_core.specs.declared.ty.Ty.{Ty}
use Rattle.ir_core.specs.declared.module.Param.{Param}
use Rattle.ir_core.specs.declared.instruction.Arg.{Arg}
use Rattle.ir_grammar.specs.Tokens.{local, is_digits}
use Rattle.ir_grammar.specs.Grammar.{Grammar, give, either, optional, ◌▸◌, ◌▹◌}
use Rattle.ir_grammar.specs.Parts.{the_mark, a_local, skip, listed}
use Rattle.ir_syntax.specs.declared.parameter.Written.{Written}
use Rattle.ir_syntax.specs.declared.parameter.NamedParams.{NamedParams}
use Rattle.ir_syntax.specs.Words.{one_of, maybe, aligned, parameter_word}
use Rattle.ir_syntax.specs.Types.{ty}
use Rattle.ir_syntax.specs.Values.{value}
use Rattle.ir_syntax.specs.Metadata.{pgroup}

-- pattr = "align" Int | PWORD [ pgroup ]
unfoldable pub pattr : Grammar (Unit {0})
pattr = either aligned (parameter_word ▹ maybe pgroup)

-- param = type { pattr } [ Local ]
unfoldable pub param : Grammar Written
param = give (λ t n. record { ty = t; name = n }) ▸ ty ▹ skip pattr ▸ optional a_local

-- whether a parameter has no written name, or a name of digits
abbrev pub is_numbered : Option (List ℕ) → Bool
is_numbered None = true
is_numbered (Some name) = is_digits name

-- how many parameters have no written name or a name of digits, added to a number
abbrev pub numbered_from : ℕ → List Written → ℕ
numbered_from n [] = n
numbered_from n (p ∷ ps) = numbered_from (if is_numbered p.name then suc n else n) ps

-- the written name, or another one where there is none
abbrev pub name_or : Option (List ℕ) → List ℕ → List ℕ
name_or None other = other
name_or (Some name) other = name

-- Parameters with names, behind so many that have no written name or a name of digits: one without a
-- written name is named by the decimal number of such parameters before it.
abbrev pub named_from : ℕ → List Written → List Param
named_from n [] = []
named_from n (p ∷ ps) = record { ty = p.ty; name = name_or p.name (decimal n) } ∷ named_from (if is_numbered p.name then suc n else n) ps

-- parameters as a function has them, and how many of them have no written name or a name of digits
abbrev pub naming : List Written → NamedParams
naming ps = record { named = named_from 0 ps; numbered = numbered_from 0 ps }

-- params = "(" [ param { "," param } ] ")"
unfoldable pub params : Grammar NamedParams
params = give naming ▹ the_mark 40 ▸ listed 41 param

-- a parameter of a declaration, of which only the type is kept
unfoldable pub declared_param : Grammar Ty
declared_param = give (λ t. t) ▸ ty ▹ skip pattr ▹ maybe (one_of (local ∷ []))

-- the parameters of a declaration
unfoldable pub declared_params : Grammar (List Ty)
declared_params = give (λ ts. ts) ▹ the_mark 40 ▸ listed 41 declared_param

-- arg = type { pattr } value
unfoldable pub arg : Grammar Arg
arg = give (λ t v. record { ty = t; value = v }) ▸ ty ▹ skip pattr ▸ value

-- "(" [ arg { "," arg } ] ")"
unfoldable pub args : Grammar (List Arg)
args = give (λ vs. vs) ▹ the_mark 40 ▸ listed 41 arg
