-- The commands as the parser knows them.
use Rattle.std.specs.Prelude.{◌≡◌, ℕ, true, false, Some, List, codes}
use Rattle.clap.specs.Simple.{App, app_of, new_app, new_rule, on_top, with_rule, with_subcommand}
use Rattle.clap.specs.Walk.{Rule}
use Rattle.clap.specs.declared.builder.command.Command.{Command}
use Rattle.clap.specs.declared.builder.command.Command.TheViews.{out-Command}

-- FILE
abbrev pub file_rule : Rule
file_rule = new_rule (codes "FILE")

-- --name VALUE
abbrev pub option_rule : List ℕ → Rule
option_rule name = record (new_rule name) { long = Some name }

abbrev pub with_file : List ℕ → App
with_file command = with_rule (new_app command) file_rule

abbrev pub with_option : List ℕ → List ℕ → App
with_option command option = with_rule (with_file command) (option_rule option)

abbrev pub compile_app : App
compile_app = with_rule (with_option (codes "compile") (codes "slot-seed")) (option_rule (codes "reg-seed"))

abbrev pub build_app : App
build_app = with_rule (with_rule (with_option (codes "build") (codes "slot-seed")) (option_rule (codes "reg-seed"))) (option_rule (codes "layout-seed"))

-- the program, before it has commands: no word is its name, and none asks for help or for a version
abbrev pub bare_app : App
bare_app = on_top (λ s. record s {
  no_binary_name = true;
  disable_help_flag = true;
  disable_help_subcommand = true;
  disable_version_flag = true;
  args_override_self = true;
  subcommand_required = true;
}) (new_app (codes "read_main"))

abbrev pub program_app : App
program_app =
    with_subcommand (with_subcommand (with_subcommand (with_subcommand (with_subcommand (with_subcommand (with_subcommand (with_subcommand (with_subcommand (with_subcommand (with_subcommand bare_app
    compile_app.top) build_app.top) (with_option (codes "lay") (codes "layout-seed")).top) (with_option (codes "run") (codes "steps")).top)
    (with_option (codes "show") (codes "steps")).top) (with_option (codes "eval") (codes "steps")).top) (with_option (codes "watch") (codes "script")).top) (with_file (codes "check")).top) (with_file (codes "print")).top)
    (with_file (codes "certify")).top) (with_option (codes "gen") (codes "number")).top

-- the command is this one, and nothing of it holds for its subcommands too
pub record IsCommand (c : Command) (a : App) : Type 0 where
  pub app : app_of c ≡ a
  pub own : (out-Command c).has_globals ≡ false
