-- How a run stands: the endings of all languages and machines together.
use Rattle.std.specs.Prelude.{ℕ, Bool, true, false, if◌then◌else◌}

-- Going is a run that can take a further step; the others are runs that have stopped
pub data Ending : Type 0 where
  Going : Ending
  -- the exit status
  Ended : (status : ℕ) → Ending
  -- a division by zero, or one whose result has no place in its width
  Divide : Ending
  -- a module came to `unreachable` or `llvm.trap`
  Trap : Ending
  -- a module called too deep
  Depth : Ending
  -- a module came to where its meaning claims nothing; `ir_core` numbers the reasons, for all languages
  Left : (reason : ℕ) → Ending
  -- a machine came to `ud2`
  Invalid : Ending
  -- a machine came to `int3`
  Breakpoint : Ending
  PageFault : Ending
  NoForm : Ending
  NoFlag : Ending
  BadCall : Ending
  -- a symbolic machine went where no slot stands
  Strayed : Ending

-- the word that a source program and a machine share: a module's Trap is a machine's Invalid, its Depth is Breakpoint
abbrev pub common : Ending → Ending
common Going = Going
common (Ended status) = Ended status
common Divide = Divide
common Trap = Invalid
common Depth = Breakpoint
common (Left reason) = Left reason
common Invalid = Invalid
common Breakpoint = Breakpoint
common PageFault = PageFault
common NoForm = NoForm
common NoFlag = NoFlag
common BadCall = BadCall
common Strayed = Strayed

-- whether the meaning claims nothing from here on
abbrev pub is_left : Ending → Bool
is_left Going = false
is_left (Ended status) = false
is_left Divide = false
is_left Trap = false
is_left Depth = false
is_left (Left reason) = true
is_left Invalid = false
is_left Breakpoint = false
is_left PageFault = false
is_left NoForm = false
is_left NoFlag = false
is_left BadCall = false
is_left Strayed = false

-- whether the run can take a further step
abbrev pub is_going : Ending → Bool
is_going Going = true
is_going (Ended status) = false
is_going Divide = false
is_going Trap = false
is_going Depth = false
is_going (Left reason) = false
is_going Invalid = false
is_going Breakpoint = false
is_going PageFault = false
is_going NoForm = false
is_going NoFlag = false
is_going BadCall = false
is_going Strayed = false

-- what a step gives where the run goes on, and the state as it stands where it has stopped
abbrev pub if_going : {S : Type 0} → Ending → S → S → S
if_going ending next same = if is_going ending then next else same
