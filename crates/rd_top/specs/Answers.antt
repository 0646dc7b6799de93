-- How the program ends: a status, and a line on the sink for messages.
use Rattle.std.specs.Prelude.{ℕ, List, [], ◌∷◌, ◌++◌, codes, decimal}
use Rattle.behavior.specs.Ending.{Ending}
use Rattle.behavior.specs.Ending as ending
use Rattle.obj_check.specs.declared.fault.ShapeSpot.{ShapeSpot}
use Rattle.obj_check.specs.declared.fault.ShapeSpot.TheVariants.{Whole, Function, Slot}
use Rattle.guard_check.specs.declared.fault.GuardFault.{GuardFault}
use Rattle.guard_check.specs.declared.fault.GuardSpot.{GuardSpot}
use Rattle.ir_core.specs.declared.memory.Reason.{Reason}
use Rattle.ir_core.specs.declared.memory.Reason.TheVariants.{Bounds, Dead, Constant, Unset, Mixed, Order, Equal, Callee, Overlap, Gep}
use Rattle.ir_core.specs.Stops.{reason_number}
use Rattle.ir_core.specs.declared.limit.Limit.{Limit}
use Rattle.ir_core.specs.declared.limit.Limit.TheVariants as limit
use Rattle.ir_core.specs.declared.limit.Spot.{Spot}
use Rattle.ir_core.specs.declared.limit.Spot.TheVariants as spot
use Rattle.rd_top.specs.declared.answer.Outcome.{Outcome}
use Rattle.rd_top.specs.declared.answer.Outcome.TheVariants.{Ended, Trapped, Going, Stopped, Left}
use Rattle.rd_top.specs.declared.answer.Trap.{Trap}
use Rattle.rd_top.specs.declared.answer.Trap.TheVariants.{Divide, Invalid, Breakpoint, Unreachable, Depth}
use Rattle.rd_top.specs.declared.answer.Stop.{Stop}
use Rattle.rd_top.specs.declared.answer.Stop.TheVariants.{PageFault, NoForm, NoFlag, BadCall}
use Rattle.rd_top.specs.declared.answer.Refusal.{Refusal}
use Rattle.rd_top.specs.declared.answer.Refusal.TheVariants.{Module, Object, Image, Script}
use Rattle.rd_top.specs.declared.answer.ModuleFault.{ModuleFault}
use Rattle.rd_top.specs.declared.answer.ModuleFault.TheVariants.{Lex, Grammar, Unsupported, Doubled, Unknown, Limited, External, NoMain, BadType}
use Rattle.rd_top.specs.declared.answer.ObjectFault.{ObjectFault}
use Rattle.rd_top.specs.declared.answer.ObjectFault.TheVariants.{Form, Shape}
use Rattle.rd_top.specs.declared.answer.Answer.{Answer}
use Rattle.rd_top.specs.declared.answer.Answer.TheVariants.{Done, Valid, Guarded, Unguarded, Ran, Words, File, Refused, Long, Out, Input, Memory}

-- by what is refused: a module, an object, an image, a script
abbrev pub refusal_number : Refusal → ℕ
refusal_number (Module fault) = 4
refusal_number (Object fault) = 5
refusal_number (Image rule) = 6
refusal_number (Script line) = 7

abbrev pub outcome_number : Outcome → ℕ
outcome_number (Ended status) = 0
outcome_number (Trapped trap) = 20
outcome_number Going = 21
outcome_number (Stopped stop) = 22
outcome_number (Left reason) = 23

abbrev pub status_number : Answer → ℕ
status_number Done = 0
status_number Valid = 0
status_number Guarded = 0
status_number (Unguarded fault) = 24
status_number (Ran outcome) = outcome_number outcome
status_number Words = 2
status_number File = 3
status_number (Refused refusal) = refusal_number refusal
status_number Long = 8
status_number Out = 9
status_number Input = 10
status_number Memory = 11

-- an outcome as the definition of behavior has it
abbrev pub ending_from : Outcome → Ending
ending_from (Ended status) = ending.Ended status
ending_from (Trapped Divide) = ending.Divide
ending_from (Trapped Invalid) = ending.Invalid
ending_from (Trapped Breakpoint) = ending.Breakpoint
ending_from (Trapped Unreachable) = ending.Trap
ending_from (Trapped Depth) = ending.Depth
ending_from Going = ending.Going
ending_from (Stopped PageFault) = ending.PageFault
ending_from (Stopped NoForm) = ending.NoForm
ending_from (Stopped NoFlag) = ending.NoFlag
ending_from (Stopped BadCall) = ending.BadCall
ending_from (Left reason) = ending.Left (reason_number reason)

-- why a meaning claims nothing
abbrev pub left_text : Reason → List ℕ
left_text Bounds = codes "left bounds\n"
left_text Dead = codes "left dead\n"
left_text Constant = codes "left constant\n"
left_text Unset = codes "left unset\n"
left_text Mixed = codes "left mixed\n"
left_text Order = codes "left order\n"
left_text Equal = codes "left equal\n"
left_text Callee = codes "left callee\n"
left_text Overlap = codes "left overlap\n"
left_text Gep = codes "left gep\n"

abbrev pub outcome_text : Outcome → List ℕ
outcome_text (Ended status) = codes "ended " ++ decimal status ++ 10 ∷ []
outcome_text (Trapped Divide) = codes "trapped divide\n"
outcome_text (Trapped Invalid) = codes "trapped invalid\n"
outcome_text (Trapped Breakpoint) = codes "trapped breakpoint\n"
outcome_text (Trapped Unreachable) = codes "trapped trap\n"
outcome_text (Trapped Depth) = codes "trapped depth\n"
outcome_text Going = codes "going\n"
outcome_text (Stopped PageFault) = codes "stopped pagefault\n"
outcome_text (Stopped NoForm) = codes "stopped noform\n"
outcome_text (Stopped NoFlag) = codes "stopped noflag\n"
outcome_text (Stopped BadCall) = codes "stopped badcall\n"
outcome_text (Left reason) = left_text reason

abbrev pub spot_word : ShapeSpot → List ℕ
spot_word Whole = codes " whole "
spot_word (Function n) = codes " function "
spot_word (Slot k) = codes " slot "

abbrev pub spot_number : ShapeSpot → ℕ
spot_number Whole = 0
spot_number (Function n) = n
spot_number (Slot k) = k

-- shape RULE function N OFFSET, or with `slot`, or with `whole` and 0
abbrev pub shape_text : ℕ → ShapeSpot → ℕ → List ℕ
shape_text rule spot offset = (((((codes "shape " ++ decimal rule) ++ spot_word spot) ++ decimal (spot_number spot)) ++ codes " ") ++ decimal offset) ++ 10 ∷ []

abbrev pub guard_spot_word : GuardSpot → List ℕ
guard_spot_word (GuardSpot.Function n) = codes " function "
guard_spot_word (GuardSpot.Slot k) = codes " slot "

abbrev pub guard_spot_number : GuardSpot → ℕ
guard_spot_number (GuardSpot.Function n) = n
guard_spot_number (GuardSpot.Slot k) = k

-- guard RULE function N OFFSET, or with `slot` and 0
abbrev pub guard_text : ℕ → GuardSpot → ℕ → List ℕ
guard_text rule spot offset = (((((codes "guard " ++ decimal rule) ++ guard_spot_word spot) ++ decimal (guard_spot_number spot)) ++ codes " ") ++ decimal offset) ++ 10 ∷ []

-- unsupported PLACE WORD
abbrev pub unsupported_text : ℕ → List ℕ → List ℕ
unsupported_text place word = (((codes "unsupported " ++ decimal place) ++ codes " ") ++ word) ++ 10 ∷ []

-- WORD NAME, where the name begins with its mark
abbrev pub named_text : List ℕ → List ℕ → List ℕ
named_text word name = (word ++ name) ++ 10 ∷ []

abbrev pub limit_word : Limit → List ℕ
limit_word limit.Nesting = codes "limit nesting "
limit_word limit.Size = codes "limit size "
limit_word limit.Functions = codes "limit functions "
limit_word limit.Instructions = codes "limit instructions "
limit_word limit.Total = codes "limit total "
limit_word limit.Parameters = codes "limit parameters "
limit_word limit.Frame = codes "limit frame "
limit_word limit.Bytes = codes "limit bytes "
limit_word limit.Code = codes "limit code "

-- type global G, type extern E, type function F, or type inst F B I
abbrev pub type_text : Spot → List ℕ
type_text (spot.Global g) = codes "type global " ++ decimal g ++ 10 ∷ []
type_text (spot.Extern e) = codes "type extern " ++ decimal e ++ 10 ∷ []
type_text (spot.Function f) = codes "type function " ++ decimal f ++ 10 ∷ []
type_text (spot.Inst f b i) = (((((codes "type inst " ++ decimal f) ++ codes " ") ++ decimal b) ++ codes " ") ++ decimal i) ++ 10 ∷ []

abbrev pub module_fault_text : ModuleFault → List ℕ
module_fault_text (Lex place) = codes "lex " ++ decimal place ++ 10 ∷ []
module_fault_text (Grammar place) = codes "grammar " ++ decimal place ++ 10 ∷ []
module_fault_text (Unsupported place word) = unsupported_text place word
module_fault_text (Doubled name) = named_text (codes "doubled ") name
module_fault_text (Unknown name) = named_text (codes "unknown ") name
module_fault_text (Limited which count) = limit_word which ++ decimal count ++ 10 ∷ []
module_fault_text (External name) = named_text (codes "external ") name
module_fault_text NoMain = codes "no main\n"
module_fault_text (BadType at) = type_text at

abbrev pub refusal_text : Refusal → List ℕ
refusal_text (Module fault) = module_fault_text fault
refusal_text (Object (Form place)) = codes "form " ++ decimal place ++ 10 ∷ []
refusal_text (Object (Shape rule spot offset)) = shape_text rule spot offset
refusal_text (Image rule) = codes "image " ++ decimal rule ++ 10 ∷ []
refusal_text (Script line) = codes "script " ++ decimal line ++ 10 ∷ []

-- no line for the defined answer of a command that writes
abbrev pub line_of : Answer → List ℕ
line_of Done = []
line_of Valid = codes "valid\n"
line_of Guarded = codes "guarded\n"
line_of (Unguarded (GuardFault.Rule rule spot offset)) = guard_text rule spot offset
line_of (Ran outcome) = outcome_text outcome
line_of Words = codes "words\n"
line_of File = codes "file\n"
line_of (Refused refusal) = refusal_text refusal
line_of Long = codes "long\n"
line_of Out = codes "out\n"
line_of Input = codes "input\n"
line_of Memory = codes "memory\n"
