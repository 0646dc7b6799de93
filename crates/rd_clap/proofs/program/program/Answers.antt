use Rattle.rd_clap.proofs.Commands.{subcommand_added}
use Rattle.rd_clap.proofs.program.program.Goals as goal

pub returns : goal.returns
returns c =
    let one = subcommand_added _ _ _ _ _ c.bare.ensures c.in_ok-compile.ensures c.in_ok-with_compile.ensures in
    let two = subcommand_added _ _ _ _ _ one c.in_ok-build.ensures c.in_ok-with_build.ensures in
    let three = subcommand_added _ _ _ _ _ two c.in_ok-option_command.ensures c.in_ok-with_lay.ensures in
    let four = subcommand_added _ _ _ _ _ three c.in_ok-option_command-2.ensures c.in_ok-with_run.ensures in
    let five = subcommand_added _ _ _ _ _ four c.in_ok-option_command-3.ensures c.in_ok-with_show.ensures in
    let six = subcommand_added _ _ _ _ _ five c.in_ok-option_command-4.ensures c.in_ok-with_eval.ensures in
    let seven = subcommand_added _ _ _ _ _ six c.in_ok-option_command-5.ensures c.in_ok-with_watch.ensures in
    let eight = subcommand_added _ _ _ _ _ seven c.in_ok-file_command.ensures c.in_ok-with_check.ensures in
    let nine = subcommand_added _ _ _ _ _ eight c.in_ok-file_command-2.ensures c.in_ok-with_print.ensures in
    let ten = subcommand_added _ _ _ _ _ nine c.in_ok-file_command-3.ensures c.in_ok-with_certify.ensures in
    subcommand_added _ _ _ _ _ ten c.in_ok-option_command-6.ensures c.in_ok-with_gen.ensures
