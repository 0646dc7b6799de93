-- What may be kept of code: the instruction at an address where nothing can be written.
use Rattle.std.specs.Prelude.{◌≡◌, ℕ, ◌-◌, ◌&&◌, if◌then◌else◌, List, [], ◌∷◌, take, drop, Option, None, Some, option_map, All}
use Rattle.x86_core.specs.declared.image.Segment.{Segment}
use Rattle.x86_core.specs.declared.instr.Decoded.TheVariants.{One}
use Rattle.x86_core.specs.Decoding.{decode}
use Rattle.x86_core.specs.Memory.{writes, executes, covers}
use Rattle.xom_memory.specs.declared.codes.Known.{Known}

-- the code from an address on, where the segment that it is fetched from can't be written
abbrev pub lasting_code : List Segment → ℕ → Option (List ℕ)
lasting_code [] at = None
lasting_code (s ∷ ss) at = if executes s.rights && covers s at 1 then (if writes s.rights then None else Some (take 16 (drop (at - s.start) s.bytes))) else lasting_code ss at

-- an entry, where there is one, is what lasting code at its address begins with
abbrev pub IsTold : List Segment → Option Known → Type 0
IsTold segments None = Unit {0}
IsTold segments (Some k) = option_map decode (lasting_code segments k.at) ≡ Some (One k.instr k.len)

abbrev pub AreTold : List Segment → List (Option Known) → Type 0
AreTold segments entries = All (IsTold segments) entries
