-- How private calls name parameters one after another.
use Rattle.std.specs.Prelude.{ℕ, suc, List, [], ◌∷◌, ◌++◌, if◌then◌else◌, decimal}
use Rattle.ir_core.specs.declared.module.Param.{Param}
use Rattle.ir_grammar.specs.Reading.{Read, done, fault}
use Rattle.ir_syntax.specs.declared.parameter.Written.{Written}
use Rattle.ir_syntax.specs.declared.parameter.NamedParams.{NamedParams}
use Rattle.ir_syntax.specs.Parameters.{is_numbered, name_or, numbered_from, named_from}

-- parameters that were read, behind those that were named before
abbrev pub named_behind : List Param → ℕ → Read (List Written) → Read NamedParams
named_behind all n (done ps ts) = done (record { named = all ++ named_from n ps; numbered = numbered_from n ps }) ts
named_behind all n (fault left) = fault left

-- one parameter more
abbrev pub with_one : NamedParams → Written → NamedParams
with_one ps p =
    record {
      named = ps.named ++ record { ty = p.ty; name = name_or p.name (decimal ps.numbered) } ∷ [];
      numbered = if is_numbered p.name then suc ps.numbered else ps.numbered;
    }
