-- The frame of a function. From its lowest address on, which is in rsp: the words of the arguments past the sixth that its calls
-- pass, the words of its homes, and its own memory. Above them stand the five saved registers and the place to go back to.
use Rattle.std.specs.Prelude.{ℕ, ◌+◌, ◌*◌, max, List, map, get_or}
use Rattle.ir_core.specs.Counts.{greatest}
use Rattle.x86_core.specs.declared.reg.Reg.{Reg}
use Rattle.x86_core.specs.declared.reg.Reg.TheVariants.{Rbx}
use Rattle.low_core.specs.declared.sel.Home.{Home}
use Rattle.low_core.specs.declared.sel.Home.TheVariants as home
use Rattle.low_core.specs.declared.sel.SelFun.{SelFun}
use Rattle.low_core.specs.SelWeights.{words_passed}
use Rattle.low_core.specs.Plan.{FramePlan}
use Rattle.frame_rows.specs.declared.spot.Spot.{Spot}
use Rattle.frame_rows.specs.declared.spot.Spot.TheVariants.{Own, Frame}

-- the register of a colour, among the five names of a function
abbrev pub named : List Reg → ℕ → Reg
named names color = get_or names color Rbx

-- a home as a register, or as a word of the frame behind so many
abbrev pub spot : List Reg → ℕ → Home → Spot
spot names passed (home.Color c) = Own (named names c)
spot names passed (home.Frame k) = Frame (passed + k)

-- the homes of a function's registers
abbrev pub spots : List Reg → SelFun → List Home → List Spot
spots names f homes = map (spot names (words_passed f)) homes

-- how many words of the frame a home takes up to itself
abbrev pub words_to : Home → ℕ
words_to (home.Color c) = 0
words_to (home.Frame k) = k + 1

-- the words of homes; there is always one
abbrev pub home_words : List Home → ℕ
home_words homes = max 1 (greatest (map words_to homes))

-- the words below the function's own memory
abbrev pub frame_words : SelFun → List Home → ℕ
frame_words f homes = words_passed f + home_words homes

-- the bytes that a function makes room for
abbrev pub room_bytes : SelFun → List Home → ℕ
room_bytes f homes = 8 * frame_words f homes + f.frame

-- what a call keeps above them: five registers, and the place to go back to
abbrev pub kept_bytes : ℕ
kept_bytes = 48

-- the frame as programs of registers see it
abbrev pub frame_plan : SelFun → List Home → FramePlan
frame_plan f homes = record { bytes = room_bytes f homes + kept_bytes; allocas = 8 * frame_words f homes }
