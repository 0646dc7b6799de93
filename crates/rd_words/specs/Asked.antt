-- A command of the code as a reading of the words.
use Rattle.std.specs.Prelude.{Option, Some, None}
use Rattle.rd_words.specs.declared.Command.{Command}
use Rattle.rd_words.specs.declared.Command.TheVariants as command
use Rattle.rd_words.specs.Words.{Reading, Compile, Build, Lay, Run, Show, Eval, Watch, Check, Print, Certify, Gen}

abbrev pub asked : Command → Reading
asked (command.Compile file slot_seed reg_seed) = Compile file.now slot_seed reg_seed
asked (command.Build file slot_seed reg_seed layout_seed) = Build file.now slot_seed reg_seed layout_seed
asked (command.Lay file layout_seed) = Lay file.now layout_seed
asked (command.Run file steps) = Run file.now steps
asked (command.Show file steps) = Show file.now steps
asked (command.Eval file steps) = Eval file.now steps
asked (command.Watch file script) = Watch file.now script.now
asked (command.Check file) = Check file.now
asked (command.Print file) = Print file.now
asked (command.Certify file) = Certify file.now
asked (command.Gen number) = Gen number

abbrev pub all_asked : Option Command → Option Reading
all_asked None = None
all_asked (Some c) = Some (asked c)
