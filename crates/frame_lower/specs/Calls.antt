-- How arguments and results go. The first six arguments are in registers, the others in the lowest words of the caller's frame.
use Rattle.std.specs.Prelude.{ℕ, ◌+◌, List, [], ◌∷◌, ◌++◌, drop, length, Option, Some, None, pos}
use Rattle.x86_core.specs.declared.reg.Reg.{Reg}
use Rattle.x86_core.specs.declared.reg.Reg.TheVariants.{Rax, Rcx, Rdx, Rsi, Rdi, R8, R9, Rsp}
use Rattle.x86_core.specs.declared.instr.Instr.{Instr}
use Rattle.x86_core.specs.declared.instr.Instr.TheVariants as instr
use Rattle.x86_core.specs.declared.instr.Size.{Size}
use Rattle.frame_rows.specs.declared.spot.Spot.{Spot}
use Rattle.frame_rows.specs.declared.spot.Spot.TheVariants.{Frame}
use Rattle.frame_rows.specs.Code.{home_read, home_write}
use Rattle.obj_rows.specs.Marked.{Marked, linked, all_unlinked}
use Rattle.frame_lower.specs.Frames.{kept_bytes}

-- in the order of the arguments
abbrev pub argument_registers : List Reg
argument_registers = Rdi ∷ Rsi ∷ Rdx ∷ Rcx ∷ R8 ∷ R9 ∷ []

module _ (homes : ℕ → Spot) where
  -- arguments from their homes into registers, as many as there are of both
  abbrev pub into_registers : List Reg → List ℕ → List Instr
  into_registers [] args = []
  into_registers (t ∷ ts) [] = []
  into_registers (t ∷ ts) (a ∷ as') = home_read (homes a) t ∷ into_registers ts as'

  -- arguments into words of the frame, from word k on
  abbrev pub into_words : ℕ → List ℕ → List Instr
  into_words k [] = []
  into_words k (a ∷ as') = home_read (homes a) Rax ∷ home_write (Frame k) Rax ∷ into_words (k + 1) as'

  -- all arguments of a call
  abbrev pub pass_row : List ℕ → List Instr
  pass_row args = into_words 0 (drop (length argument_registers) args) ++ into_registers argument_registers args

  -- the result of a call to its home, where it is wanted
  abbrev pub take_row : Option ℕ → List Instr
  take_row None = []
  take_row (Some r) = home_write (homes r) Rax ∷ []

  -- a call: its arguments and what else it wants in registers, a jump to its slot, and the result
  abbrev pub call_row : List Instr → ℕ → Option ℕ → List ℕ → List Marked
  call_row wanted slot into args = all_unlinked (pass_row args ++ wanted) ++ linked (instr.Jmp (pos 0)) slot ∷ all_unlinked (take_row into)

  -- parameters from registers to their homes
  abbrev pub from_registers : List Reg → List ℕ → List Instr
  from_registers [] params = []
  from_registers (t ∷ ts) [] = []
  from_registers (t ∷ ts) (p ∷ ps) = home_write (homes p) t ∷ from_registers ts ps

  -- parameters from the caller's lowest words, the first of them at an address above rsp
  abbrev pub from_words : ℕ → List ℕ → List Instr
  from_words at [] = []
  from_words at (p ∷ ps) = instr.Load Size.W64 Rax (record { base = Rsp; disp = pos at }) ∷ home_write (homes p) Rax ∷ from_words (at + 8) ps

  -- all parameters of a function that has made room for so many bytes
  abbrev pub receive_row : ℕ → List ℕ → List Instr
  receive_row room params = from_registers argument_registers params ++ from_words (room + kept_bytes) (drop (length argument_registers) params)
