-- Functions with their disassemblies, and what is noted of them.
use Rattle.std.specs.Prelude.{ℕ, ◌≤◌, List, [], ◌∷◌, length, map}
use Rattle.x86_core.specs.declared.instr.Instr.{Instr}
use Rattle.obj_core.specs.declared.object.Func.{Func}
use Rattle.obj_core.specs.Disassembly.{IsDisassembly, disassembly_of}
use Rattle.obj_core.specs.WellFormed.{IsStuck, IsFirstStuck}
use Rattle.obj_check.specs.declared.notes.Notes.{Notes}
use Rattle.obj_check.specs.declared.disassembly.Noted.{Noted}
use Rattle.obj_check.specs.declared.disassembly.AllNoted.{AllNoted}
use Rattle.obj_check.specs.Noted.{AreNotesOf}

-- bytes are instructions, one at least, and these are noted
pub record IsNoted (bytes : List ℕ) (c : Notes) : Type 0 where
  pub disassembly : IsDisassembly bytes (disassembly_of bytes)
  pub some : 1 ≤ length (disassembly_of bytes)
  pub notes : AreNotesOf (disassembly_of bytes) c

abbrev pub Answers : List ℕ → Noted → Type 0
Answers bytes (Noted.Whole c) = IsNoted bytes c
Answers bytes (Noted.Stuck off) = IsStuck bytes off

abbrev pub AreNoted : List Func → List Notes → Type 0
AreNoted [] [] = Unit {0}
AreNoted (f ∷ fs) (c ∷ cs) = IsNoted f.bytes c × AreNoted fs cs
AreNoted fs cs = ⊥

-- the instructions of each function
abbrev pub disassemblies_of : List Func → List (List Instr)
disassemblies_of = map (λ (f : Func). disassembly_of f.bytes)

abbrev pub AnswersAll : List Func → AllNoted → Type 0
AnswersAll fs (AllNoted.All cs) = AreNoted fs cs
AnswersAll fs (AllNoted.Stuck n off) = IsFirstStuck fs n off
