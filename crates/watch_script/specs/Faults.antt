-- What each fault of a script says of its bytes.
use Rattle.std.specs.Prelude.{ℕ, List}
use Rattle.watch_script.specs.declared.parse.ScriptFault.{ScriptFault}
use Rattle.watch_script.specs.declared.parse.ScriptFault.TheVariants.{Line, NoMemory}
use Rattle.watch_script.specs.Script.{IsFirstBad}

-- the first bad line; want of memory says nothing
abbrev pub FaultOf : List ℕ → ScriptFault → Type 0
FaultOf bytes (Line line) = IsFirstBad bytes line
FaultOf bytes NoMemory = Unit {0}
