-- Commands that are built are those that are meant.
use Rattle.std.proofs.Common.{◌≡◌, ◌||◌, false, ◌∙◌, ap, ap₂}
use Rattle.clap.specs.Built.{AddsArg, AddsSubcommand}
use Rattle.clap.specs.Simple.{App, with_rule, with_subcommand}
use Rattle.clap.specs.Walk.{Rule, rule_of}
use Rattle.clap.specs.declared.builder.arg.Arg.{Arg}
use Rattle.clap.specs.declared.builder.command.Command.{Command}
use Rattle.rd_clap.specs.Program.{IsCommand}

pub arg_added : (old new : Command) (arg : Arg) (a : App) (r : Rule) → IsCommand old a → rule_of arg ≡ r → arg.global ≡ false → AddsArg old arg new → IsCommand new (with_rule a r)
arg_added old new arg a r is rule own adds = record {
  app = adds.shape own ∙ ap₂ with_rule is.app rule;
  own = adds.globals ∙ ap₂ (λ x y. x || y) is.own own;
}

pub subcommand_added : (old sub new : Command) (a b : App) → IsCommand old a → IsCommand sub b → AddsSubcommand old sub new → IsCommand new (with_subcommand a b.top)
subcommand_added old sub new a b is its adds = record {
  app = adds.shape its.own ∙ ap₂ with_subcommand is.app (ap (λ (x : App). x.top) its.app);
  own = adds.globals ∙ ap₂ (λ x y. x || y) is.own its.own;
}
