-- What is known of an object that is known to be well formed.
use Rattle.std.proofs.Common.{◌≡◌, ℕ, zero, suc, ◌≤◌, Bool, true, ◌&&◌, List, [], ◌∷◌, ◌++◌, length, drop, Option, Some, None, refl, sym, ◌∙◌, ap, subst, arith, length-append}
use Rattle.std.specs.Prelude.{slice_get, ℤ, pos, negsuc}
use Rattle.std.specs.Coded.{×_prop, Unit-prop}
use Rattle.std.specs.List.{list_all}
use Rattle.std.proofs.Math.Logic.{∥∥₁_elim}
use Rattle.std.proofs.Math.Bridge.{le_prop}
use Rattle.std.proofs.Props.{props}
use Rattle.std.proofs.Math.Seq.{drop-append_seam}
use Rattle.std.proofs.lemmas.Bool.{and_parts}
use Rattle.x86_core.specs.declared.instr.Instr.{Instr}
use Rattle.x86_core.specs.declared.instr.Instr.TheVariants.{Mov, MovImm64, MovImm32, Alu, AluImm, Imul, Shift, Div, High, Widen, Load, Store, Lea, Push, Pop, SetCond, Cmov, Jcc, Jmp, Call, Ret, CallR11, JmpR11, Syscall, Ud2, Int3, Nop}
use Rattle.x86_core.specs.Encoding.{encoding, IsInstr, IsNumber32}
use Rattle.x86_core.specs.Decoding.{decode}
use Rattle.x86_core.proofs.Back.{decode_back}
use Rattle.x86_core.proofs.Laws.{some_bytes}
use Rattle.obj_core.specs.declared.object.Object.{Object}
use Rattle.obj_core.specs.declared.object.Func.{Func}
use Rattle.obj_core.specs.declared.object.Slot.{Slot}
use Rattle.obj_core.specs.Object.{Each}
use Rattle.obj_core.specs.Disassembly.{AreDisassemblies, IsDisassembly, found, spelled, and_behind, first_instrs, disassembly_of}
use Rattle.obj_core.specs.WellFormed.{IsWellFormed, AreFew, is_good_slot, bad_links, bad_branches}
use Rattle.obj_core.proofs.Kept.{function_keeps, slot_keeps}
use Rattle.obj_core.proofs.Inside.{disassembly_at}
use Rattle.guard_check.specs.declared.fault.GuardFault.{GuardFault}
use Rattle.guard_check.specs.Form.{guard_violation}
use Rattle.guard_check.specs.Checking.{IsKnown, AreKnown, disassemblies_of, comes_well, as_violation, Judges}
use Rattle.guard_check.proofs.Kept.{function_short}

-- the instructions that bytes begin with are those of their disassembly
first_are : (n : ℕ) (row : List Instr) → Each IsInstr row → length (spelled row) ≤ n → first_instrs n (spelled row) ≡ row
unfolding decode
first_are zero [] h k = refl
first_are zero (i ∷ row) h k = absurd (omega (arith, some_bytes i, length-append (encoding i) (spelled row)))
first_are (suc n) [] h k = refl
first_are (suc n) (i ∷ row) h k =
    let few : length (spelled row) ≤ n = omega (arith, some_bytes i, length-append (encoding i) (spelled row)) in
    ap (and_behind (λ (size : ℕ). first_instrs n (drop size (encoding i ++ spelled row)))) (decode_back i (spelled row) h.0) ∙
    ap (λ (bs : List ℕ). i ∷ first_instrs n bs) (drop-append_seam (encoding i) (spelled row)) ∙
    ap (λ (is : List Instr). i ∷ is) (first_are n row h.1 few)

disassembly_is : (bytes : List ℕ) (row : List Instr) → IsDisassembly bytes row → disassembly_of bytes ≡ row
unfolding disassembly_of
disassembly_is bytes row h = ap (λ (bs : List ℕ). first_instrs (length bytes) bs) (sym h.whole) ∙ first_are (length bytes) row h.instructions (let e : length (spelled row) ≡ length bytes = ap length h.whole in omega arith)

disassemblies_are : (fs : List Func) (ds : List (List Instr)) → AreDisassemblies fs ds → ds ≡ disassemblies_of fs
disassemblies_are [] [] h = refl
disassemblies_are [] (d ∷ ds) h = absurd h
disassemblies_are (f ∷ fs) [] h = absurd h
disassemblies_are (f ∷ fs) ([] ∷ ds) h = absurd h
disassemblies_are (f ∷ fs) ((i ∷ is) ∷ ds) h =
    ap (λ (r : List Instr). r ∷ ds) (sym (disassembly_is f.bytes (i ∷ is) h.0)) ∙ ap (λ (r : List (List Instr)). disassembly_of f.bytes ∷ r) (disassemblies_are fs ds h.1)

-- what a row of instructions is known by
number_prop : (n : ℤ) → IsProp (IsNumber32 n)
number_prop (pos n) = le_prop
number_prop (negsuc n) = le_prop

instr_prop : (i : Instr) → IsProp (IsInstr i)
instr_prop (Mov w d s) = Unit-prop
instr_prop (MovImm64 d n) = le_prop
instr_prop (MovImm32 d n) = le_prop
instr_prop (Alu op w d s) = Unit-prop
instr_prop (AluImm op w d n) = number_prop n
instr_prop (Imul w d s) = Unit-prop
instr_prop (Shift op w d) = Unit-prop
instr_prop (Div signed size s) = Unit-prop
instr_prop (High size) = Unit-prop
instr_prop (Widen kind d s) = Unit-prop
instr_prop (Load size d m) = number_prop m.disp
instr_prop (Store size m s) = number_prop m.disp
instr_prop (Lea d m) = number_prop m.disp
instr_prop (Push r) = Unit-prop
instr_prop (Pop r) = Unit-prop
instr_prop (SetCond c d) = Unit-prop
instr_prop (Cmov c d s) = Unit-prop
instr_prop (Jcc c by) = number_prop by
instr_prop (Jmp by) = number_prop by
instr_prop (Call by) = number_prop by
instr_prop Ret = Unit-prop
instr_prop CallR11 = Unit-prop
instr_prop JmpR11 = Unit-prop
instr_prop Syscall = Unit-prop
instr_prop Ud2 = Unit-prop
instr_prop Int3 = Unit-prop
instr_prop Nop = Unit-prop

each_prop : (is : List Instr) → IsProp (Each IsInstr is)
each_prop [] = Unit-prop
each_prop (i ∷ is) = ×_prop (instr_prop i) (each_prop is)

some_instrs : (row : List Instr) (bytes : List ℕ) → 1 ≤ length bytes → spelled row ≡ bytes → 1 ≤ length row
some_instrs [] bytes h e = let none : 0 ≡ length bytes = ap length e in absurd (omega (arith, h, none))
some_instrs (i ∷ row) bytes h e = omega arith

-- one function of a well-formed object
well_known : (o : Object) → IsWellFormed o → (n : ℕ) (f : Func) → slice_get o.functions n ≡ Some f → IsKnown (length o.slots) f
well_known o w n f e =
    let d = disassembly_at o.functions w.disassemblies w.disassembled n f e in
    let same : d.instrs ≡ disassembly_of f.bytes = sym (disassembly_is f.bytes d.instrs d.is_disassembly) in
    let rules = function_keeps o w.disassemblies w.kept n f d.instrs e d.there in
    let few = w.few in
    record {
      disassembly = subst (IsDisassembly f.bytes) same d.is_disassembly;
      some = subst (λ (r : List Instr). 1 ≤ length r) same (some_instrs d.instrs f.bytes d.some d.is_disassembly.whole);
      few = function_short o w.few n f e;
      few_slots = few.slots;
      links = subst (λ (r : List Instr). bad_links None (found r) (length o.slots) f.links ≡ []) same rules.links;
      branches = subst (λ (r : List Instr). bad_branches f.links (found r) (found r) ≡ []) same rules.branches;
    }

one_known : (o : Object) → ∥ IsWellFormed o ∥₁ → (n : ℕ) (f : Func) → slice_get o.functions n ≡ Some f → IsKnown (length o.slots) f
one_known o t n f e = record {
  disassembly = record {
    instructions = ∥∥₁_elim t (each_prop (disassembly_of f.bytes)) (λ w. (well_known o w n f e).disassembly.instructions);
    whole = ∥∥₁_elim t (hlevel props) (λ w. (well_known o w n f e).disassembly.whole);
  };
  some = ∥∥₁_elim t le_prop (λ w. (well_known o w n f e).some);
  few = ∥∥₁_elim t le_prop (λ w. (well_known o w n f e).few);
  few_slots = ∥∥₁_elim t le_prop (λ w. (well_known o w n f e).few_slots);
  links = ∥∥₁_elim t (hlevel props) (λ w. (well_known o w n f e).links);
  branches = ∥∥₁_elim t (hlevel props) (λ w. (well_known o w n f e).branches);
}

are_of : (slots : ℕ) (fs : List Func) → ((n : ℕ) (f : Func) → slice_get fs n ≡ Some f → IsKnown slots f) → AreKnown slots fs
are_of slots [] h = tt
are_of slots (f ∷ fs) h = (h 0 f refl, are_of slots fs (λ n g e. h (suc n) g e))

pub are_known : (o : Object) → ∥ IsWellFormed o ∥₁ → AreKnown (length o.slots) o.functions
are_known o t = are_of (length o.slots) o.functions (one_known o t)

pub are_few : (o : Object) → ∥ IsWellFormed o ∥₁ → AreFew o
are_few o t = record {
  some_function = ∥∥₁_elim t le_prop (λ w. w.few.some_function);
  functions = ∥∥₁_elim t le_prop (λ w. w.few.functions);
  pieces = ∥∥₁_elim t le_prop (λ w. w.few.pieces);
  some_slot = ∥∥₁_elim t le_prop (λ w. w.few.some_slot);
  slots = ∥∥₁_elim t le_prop (λ w. w.few.slots);
  code = ∥∥₁_elim t le_prop (λ w. w.few.code);
  data_bytes = ∥∥₁_elim t le_prop (λ w. w.few.data_bytes);
}

-- ways back are starts
comes_by : (ds : List (List Instr)) (s : Slot) → is_good_slot ds s ≡ true → comes_well ds s ≡ true
comes_by ds (Slot.Entry f) h = refl
comes_by ds (Slot.Jump f) h = refl
comes_by ds (Slot.Call f back) h = (and_parts _ _ h).1
comes_by ds (Slot.Indirect back) h = h
comes_by ds (Slot.System back) h = h

all_of : (test : Slot → Bool) (xs : List Slot) → ((k : ℕ) (s : Slot) → slice_get xs k ≡ Some s → test s ≡ true) → list_all test xs ≡ true
all_of test [] h = refl
all_of test (x ∷ xs) h = ap (λ b. b && list_all test xs) (h 0 x refl) ∙ all_of test xs (λ k s e. h (suc k) s e)

pub all_come : (o : Object) → ∥ IsWellFormed o ∥₁ → list_all (comes_well (disassemblies_of o.functions)) o.slots ≡ true
all_come o t = ∥∥₁_elim t (hlevel props) (λ w.
    subst (λ (ds : List (List Instr)). list_all (comes_well ds) o.slots ≡ true) (disassemblies_are o.functions w.disassemblies w.disassembled)
    (all_of (comes_well w.disassemblies) o.slots (λ k s e. comes_by w.disassemblies s (slot_keeps o w.disassemblies w.kept k s e))))

-- what is told is right
one_more : (f : Func) (fs : List Func) (is : List Instr) (ds : List (List Instr)) → IsDisassembly f.bytes is → 1 ≤ length is → AreDisassemblies fs ds → AreDisassemblies (f ∷ fs) (is ∷ ds)
one_more f fs [] ds h some k = absurd (omega (arith, some))
one_more f fs (i ∷ is) ds h some k = (h, k)

are_disassemblies : (slots : ℕ) (fs : List Func) → AreKnown slots fs → AreDisassemblies fs (disassemblies_of fs)
are_disassemblies slots [] h = tt
are_disassemblies slots (f ∷ fs) h = let one = h.0 in one_more f fs (disassembly_of f.bytes) (disassemblies_of fs) one.disassembly one.some (are_disassemblies slots fs h.1)

pub judged : (o : Object) (r : Option GuardFault) → AreKnown (length o.slots) o.functions → as_violation r ≡ guard_violation o (disassemblies_of o.functions) → Judges o r
judged o None k e = record { disassemblies = disassemblies_of o.functions; disassembled = are_disassemblies (length o.slots) o.functions k; kept = sym e }
judged o (Some f) k e = record { disassemblies = disassemblies_of o.functions; disassembled = are_disassemblies (length o.slots) o.functions k; first = sym e }
