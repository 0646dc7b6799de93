-- What disassemblies and links say of one function.
use Rattle.std.proofs.Common.{◌≡◌, ℕ, zero, suc, ◌+◌, ◌<◌, Bool, true, false, ◌||◌, List, [], ◌∷◌, length, Option, Some, None, refl, ◌∙◌, ap, subst, if◌then◌else◌, arith}
use Rattle.std.specs.Prelude.{nat_eq, slice_get}
use Rattle.x86_core.specs.declared.instr.Instr.{Instr}
use Rattle.obj_core.specs.declared.object.Func.{Func}
use Rattle.obj_core.specs.declared.object.Link.{Link}
use Rattle.obj_core.specs.Disassembly.{IsDisassembly, AreDisassemblies, Found}
use Rattle.obj_core.specs.WellFormed.{bad_links, is_linked}
use Rattle.obj_core.specs.SymbolicMachine.{link_before}
use Rattle.obj_lay.specs.Places.{is_code_place}
use Rattle.obj_core.proofs.Kept.{good_parts, good_first}

-- a function and its disassembly have one number
pub record HasFunction (fs : List Func) (n : ℕ) (instrs : List Instr) : Type 0 where
  pub func : Func
  pub found : slice_get fs n ≡ Some func
  pub is_disassembly : IsDisassembly func.bytes instrs

-- a disassembly has a function
pub function_of_disassembly : (fs : List Func) (disassemblies : List (List Instr)) → AreDisassemblies fs disassemblies → (n : ℕ) (instrs : List Instr) → slice_get disassemblies n ≡ Some instrs → HasFunction fs n instrs
function_of_disassembly [] [] h n instrs e = absurd (cc)
function_of_disassembly [] (c ∷ disassemblies) h n instrs e = absurd h
function_of_disassembly (f ∷ fs) [] h n instrs e = absurd h
function_of_disassembly (f ∷ fs) ([] ∷ disassemblies) h n instrs e = absurd h
function_of_disassembly (f ∷ fs) ((i ∷ is) ∷ disassemblies) h zero instrs e =
    let same : i ∷ is ≡ instrs = cc in
    record { func = f; found = refl; is_disassembly = subst (IsDisassembly f.bytes) same h.0 }
function_of_disassembly (f ∷ fs) ((i ∷ is) ∷ disassemblies) h (suc n) instrs e =
    let x = function_of_disassembly fs disassemblies h.1 n instrs e in
    record { func = x.func; found = x.found; is_disassembly = x.is_disassembly }

-- each function has an instruction at its start
pub function_starts : (fs : List Func) (disassemblies : List (List Instr)) → AreDisassemblies fs disassemblies → (n : ℕ) → n < length disassemblies → is_code_place (slice_get disassemblies n) 0 ≡ true
function_starts [] [] h n lt = absurd (omega (arith, lt))
function_starts [] (c ∷ disassemblies) h n lt = absurd h
function_starts (f ∷ fs) [] h n lt = absurd h
function_starts (f ∷ fs) ([] ∷ disassemblies) h n lt = absurd h
function_starts (f ∷ fs) ((i ∷ is) ∷ disassemblies) h zero lt = refl
function_starts (f ∷ fs) ((i ∷ is) ∷ disassemblies) h (suc n) lt = function_starts fs disassemblies h.1 n (omega (arith, lt))

-- what links say of an offset where a displacement ends: nothing, or a slot that exists
abbrev pub LinkSays : ℕ → List Link → ℕ → Option ℕ → Type 0
LinkSays slots ls e None = is_linked ls e ≡ false
LinkSays slots ls e (Some k) = k < slots

-- the first link, or the others
link_by : (slots : ℕ) (l : Link) (ls : List Link) (e : ℕ) → l.slot < slots → LinkSays slots ls e (link_before ls e) → (t : Bool) → nat_eq (l.at + 4) e ≡ t → LinkSays slots (l ∷ ls) e (if t then Some l.slot else link_before ls e)
link_by slots l ls e lt more true same = lt
link_by slots l ls e lt more false same = by_found (link_before ls e) more
  where
    by_found : (o : Option ℕ) → LinkSays slots ls e o → LinkSays slots (l ∷ ls) e o
    by_found None h = ap (λ t. t || is_linked ls e) same ∙ h
    by_found (Some k) h = h

-- good links say of each offset nothing, or a slot that exists
pub link_says : (before : Option ℕ) (xs : List Found) (slots : ℕ) (ls : List Link) → bad_links before xs slots ls ≡ [] → (e : ℕ) → LinkSays slots ls e (link_before ls e)
link_says before xs slots [] h e = refl
link_says before xs slots (l ∷ ls) h e =
    let x = good_first before xs slots l ls h in
    link_by slots l ls e (good_parts before xs slots l x.0).1 (link_says (Some l.at) xs slots ls x.1 e) (nat_eq (l.at + 4) e) refl
