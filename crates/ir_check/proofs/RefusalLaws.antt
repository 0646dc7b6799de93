-- The first refusal of a module is that of the first reason that has one.
use Rattle.std.proofs.Common.{◌≡◌, List, ◌++◌, map, Option, None, Result}
use Rattle.ir_core.specs.declared.module.Module.{Module}
use Rattle.ir_core.specs.Definitions.{doubled}
use Rattle.ir_core.specs.Refusals.{Fault, Doubled, Unknown, External, BadType, unknown, limited, external, without_main, first_fault}
use Rattle.ir_core.specs.Valid.{type_faults}
use Rattle.ir_check.specs.declared.CheckFault.{CheckFault}
use Rattle.ir_check.specs.Answers.{first_of, IsFirst, Decides}
use Rattle.ir_check.proofs.FirstLaws.{none_behind, first_before, first_behind, decides_behind}

module _ (m : Module) where
  -- the refusals of each reason
  abbrev names_twice : List Fault
  names_twice = map Doubled (doubled m)

  abbrev no_names : List Fault
  no_names = map Unknown (unknown m)

  abbrev outside : List Fault
  outside = map External (external m)

  abbrev types : List Fault
  types = map BadType (type_faults m)

  -- those of names, of names and limits, and so on
  abbrev to_names : List Fault
  to_names = names_twice ++ no_names

  abbrev to_limits : List Fault
  to_limits = to_names ++ limited m

  abbrev to_outside : List Fault
  to_outside = to_limits ++ outside

  abbrev to_main : List Fault
  to_main = to_outside ++ without_main m

  -- what the reasons up to one have first is the first of all
  of_main : (o : Option Fault) → IsFirst (first_of to_main) o → IsFirst (first_fault m) o
  of_main o f = first_before to_main types o f

  of_outside : (o : Option Fault) → IsFirst (first_of to_outside) o → IsFirst (first_fault m) o
  of_outside o f = of_main o (first_before to_outside (without_main m) o f)

  of_limits : (o : Option Fault) → IsFirst (first_of to_limits) o → IsFirst (first_fault m) o
  of_limits o f = of_outside o (first_before to_limits outside o f)

  of_names : (o : Option Fault) → IsFirst (first_of to_names) o → IsFirst (first_fault m) o
  of_names o f = of_limits o (first_before to_names (limited m) o f)

  -- a name that is defined twice
  pub at_doubled : (o : Option Fault) → IsFirst (first_of names_twice) o → IsFirst (first_fault m) o
  at_doubled o f = of_names o (first_before names_twice no_names o f)

  module _ (apart : first_of names_twice ≡ None) where
    -- a name without a definition
    pub at_unknown : (o : Option Fault) → IsFirst (first_of no_names) o → IsFirst (first_fault m) o
    at_unknown o f = of_names o (first_behind names_twice no_names o apart f)

    module _ (known : first_of no_names ≡ None) where
      none_named : first_of to_names ≡ None
      none_named = none_behind names_twice no_names apart known

      -- a limit
      pub at_limit : (o : Option Fault) → IsFirst (first_of (limited m)) o → IsFirst (first_fault m) o
      at_limit o f = of_limits o (first_behind to_names (limited m) o none_named f)

      module _ (kept : first_of (limited m) ≡ None) where
        none_limited : first_of to_limits ≡ None
        none_limited = none_behind to_names (limited m) none_named kept

        -- a name of the outside
        pub at_external : (o : Option Fault) → IsFirst (first_of outside) o → IsFirst (first_fault m) o
        at_external o f = of_outside o (first_behind to_limits outside o none_limited f)

        module _ (used : first_of outside ≡ None) where
          none_outside : first_of to_outside ≡ None
          none_outside = none_behind to_limits outside none_limited used

          -- `main`
          pub at_main : (o : Option Fault) → IsFirst (first_of (without_main m)) o → IsFirst (first_fault m) o
          at_main o f = of_main o (first_behind to_outside (without_main m) o none_outside f)

          -- types decide last
          pub at_types : first_of (without_main m) ≡ None → (r : Result Unit CheckFault) → Decides (first_of types) r → Decides (first_fault m) r
          at_types there r d = decides_behind to_main types r (none_behind to_outside (without_main m) none_outside there) d
