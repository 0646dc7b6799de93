-- What an observer sees of a run, as a text.
use Rattle.std.specs.Prelude.{ℕ, zero, suc, ◌+◌, ◌*◌, ◌/◌, ◌%◌, ◌^◌, Bool, true, ◌&&◌, nat_eq, if◌then◌else◌, List, [], ◌∷◌, ◌++◌, length, take, drop, codes, decimal}
use Rattle.std.specs.Int.{w64, to_be_bytes}
use Rattle.hex.specs.Hex.{encode_lower}
use Rattle.behavior.specs.Ending.{Ending, Going, Ended, Divide, Trap, Depth, Left, Invalid, Breakpoint, PageFault, NoForm, NoFlag, BadCall, Strayed}
use Rattle.x86_core.specs.declared.flags.Flag.{Flag}
use Rattle.x86_core.specs.declared.flags.Flag.TheVariants.{Zero, One, Unknown}
use Rattle.x86_core.specs.declared.flags.Flags.{Flags}
use Rattle.x86_core.specs.declared.image.Rights.{Rights}
use Rattle.x86_core.specs.declared.image.Segment.{Segment}
use Rattle.x86_core.specs.declared.reg.Reg.{Reg}
use Rattle.x86_core.specs.declared.reg.Reg.TheVariants.{Rax, Rcx, Rdx, Rbx, Rsp, Rbp, Rsi, Rdi, R8, R9, R10, R11, R12, R13, R14, R15}
use Rattle.x86_core.specs.Registers.{word}
use Rattle.x86_core.specs.Memory.{reads, writes, executes}
use Rattle.x86_core.specs.Observation.{Observation}

-- a number of 64 bits in sixteen hexadecimal digits
unfoldable pub word_text : ℕ → List ℕ
word_text n = encode_lower (to_be_bytes w64 n)

-- the registers in the order of their lines
abbrev pub registers : List Reg
registers = Rax ∷ Rcx ∷ Rdx ∷ Rbx ∷ Rsp ∷ Rbp ∷ Rsi ∷ Rdi ∷ R8 ∷ R9 ∷ R10 ∷ R11 ∷ R12 ∷ R13 ∷ R14 ∷ R15 ∷ []

abbrev pub name_of : Reg → List ℕ
name_of Rax = codes "rax"
name_of Rcx = codes "rcx"
name_of Rdx = codes "rdx"
name_of Rbx = codes "rbx"
name_of Rsp = codes "rsp"
name_of Rbp = codes "rbp"
name_of Rsi = codes "rsi"
name_of Rdi = codes "rdi"
name_of R8 = codes "r8"
name_of R9 = codes "r9"
name_of R10 = codes "r10"
name_of R11 = codes "r11"
name_of R12 = codes "r12"
name_of R13 = codes "r13"
name_of R14 = codes "r14"
name_of R15 = codes "r15"

-- NAME WORD
abbrev pub register_line : List ℕ → Reg → List ℕ
register_line regs r = name_of r ++ 32 ∷ (word_text (word regs r) ++ 10 ∷ [])

unfoldable pub register_lines : List Reg → List ℕ → List ℕ
register_lines [] regs = []
register_lines (r ∷ rs) regs = register_line regs r ++ register_lines rs regs

-- 0, 1, or a question mark
abbrev pub mark_of : Flag → ℕ
mark_of Zero = 48
mark_of One = 49
mark_of Unknown = 63

-- carry, zero, sign and overflow, and the end of their line
unfoldable pub marks_of : Flags → List ℕ
marks_of f = mark_of f.c ∷ 32 ∷ mark_of f.z ∷ 32 ∷ mark_of f.s ∷ 32 ∷ mark_of f.o ∷ 10 ∷ []

-- flags C Z S O
unfoldable pub flags_line : Flags → List ℕ
flags_line f = codes "flags " ++ marks_of f

-- the word of an ending; a machine of an image ends in none of the last four
abbrev pub ending_text : Ending → List ℕ
ending_text Going = codes "going"
ending_text (Ended status) = codes "ended " ++ decimal status
ending_text Divide = codes "divide"
ending_text Invalid = codes "invalid"
ending_text Breakpoint = codes "breakpoint"
ending_text PageFault = codes "pagefault"
ending_text NoForm = codes "noform"
ending_text NoFlag = codes "noflag"
ending_text BadCall = codes "badcall"
ending_text Trap = codes "trap"
ending_text Depth = codes "depth"
ending_text (Left reason) = codes "left"
ending_text Strayed = codes "strayed"

-- outcome OUTCOME
unfoldable pub outcome_line : Ending → List ℕ
outcome_line e = codes "outcome " ++ (ending_text e ++ 10 ∷ [])

-- those of r, w and x that there are
abbrev pub rights_text : Rights → List ℕ
rights_text r = (if reads r then codes "r" else []) ++ ((if writes r then codes "w" else []) ++ (if executes r then codes "x" else []))

-- segment START LENGTH RIGHTS
abbrev pub segment_line : Segment → List ℕ
segment_line s = codes "segment " ++ (word_text s.start ++ 32 ∷ (decimal (length s.bytes) ++ 32 ∷ (rights_text s.rights ++ 10 ∷ [])))

abbrev pub is_blank : List ℕ → Bool
is_blank [] = true
is_blank (b ∷ bs) = nat_eq b 0 && is_blank bs

-- ADDRESS BYTES, or no line for zeros alone
abbrev pub piece_text : ℕ → List ℕ → List ℕ
piece_text at bytes = if is_blank bytes then [] else (word_text at ++ 32 ∷ (encode_lower bytes ++ 10 ∷ []))

-- sixteen bytes, or as many as are left of the segment
abbrev pub piece_of : List ℕ → ℕ → List ℕ
piece_of bytes i = take 16 (drop (16 * i) bytes)

-- the first n pieces of a segment, each with its address
abbrev pub pieces_text : ℕ → List ℕ → ℕ → List ℕ
pieces_text start bytes zero = []
pieces_text start bytes (suc i) = pieces_text start bytes i ++ piece_text ((start + 16 * i) % 2 ^ 64) (piece_of bytes i)

-- all pieces; the last one may be shorter
unfoldable pub segment_text : Segment → List ℕ
segment_text s = segment_line s ++ pieces_text s.start s.bytes ((length s.bytes + 15) / 16)

unfoldable pub segments_text : List Segment → List ℕ
segments_text [] = []
segments_text (s ∷ others) = segment_text s ++ segments_text others

-- registers, flags, outcome, and the segments that may be read
abbrev pub text_of : Observation → List ℕ
text_of seen = register_lines registers seen.regs ++ (flags_line seen.flags ++ (outcome_line seen.ending ++ segments_text seen.segments))
