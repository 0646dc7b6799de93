-- Functions disassembled one after another.
use Rattle.std.proofs.Common.{◌≡◌, ℕ, ◌+◌, ◌<◌, ◌≤◌, List, [], ◌∷◌, ◌++◌, length, map, sum, take, drop, get_or, sym, ◌∙◌, ap, subst, arith}
use Rattle.std.proofs.lemmas.List.{take_more, take-append-drop, drop_more, length-take-le}
use Rattle.std.proofs.lemmas.List.Sums.{get_or-le-sum_by, sum-map}
use Rattle.x86_core.specs.declared.instr.Instr.{Instr}
use Rattle.obj_core.specs.declared.object.Func.{Func}
use Rattle.obj_core.specs.Disassembly.{IsDisassembly, AreDisassemblies, disassembly_of}
use Rattle.obj_core.specs.WellFormed.{IsStuck, IsFirstStuck}
use Rattle.obj_check.specs.declared.notes.Notes.{Notes}
use Rattle.obj_check.specs.Disassembled.{IsNoted, AreNoted, disassemblies_of}

-- a function is not longer than all of them
one_of_all : (fs : List Func) (n : ℕ) (f : Func) → n < length fs → length (get_or fs n f).bytes ≤ sum (map (λ (g : Func). length g.bytes) fs)
one_of_all fs n f h =
    let one = get_or-le-sum_by (λ (g : Func). length g.bytes) fs n f h in
    let e = sum-map (λ (g : Func). length g.bytes) fs in
    omega arith

pub one_bounded : (fs gs : List Func) (n : ℕ) (f : Func) (bytes : List ℕ) → fs ≡ gs → sum (map (λ (g : Func). length g.bytes) gs) ≤ 67108864 → n < length fs → f ≡ get_or fs n f → bytes ≡ f.bytes → length bytes ≤ 67108864
one_bounded fs gs n f bytes same few h e same_bytes =
    let one = one_of_all fs n f h in
    let a : length bytes ≡ length f.bytes = ap length same_bytes in
    let b : length f.bytes ≡ length (get_or fs n f).bytes = ap (λ (g : Func). length g.bytes) e in
    let d : sum (map (λ (g : Func). length g.bytes) fs) ≡ sum (map (λ (g : Func). length g.bytes) gs) = ap (λ (hs : List Func). sum (map (λ (g : Func). length g.bytes) hs)) same in
    omega arith

noted_push : (fs : List Func) (cs : List Notes) (f : Func) (c : Notes) → AreNoted fs cs → IsNoted f.bytes c → AreNoted (fs ++ f ∷ []) (cs ++ c ∷ [])
noted_push [] [] f c h k = (k, tt)
noted_push [] (d ∷ cs) f c h k = absurd h
noted_push (g ∷ fs) [] f c h k = absurd h
noted_push (g ∷ fs) (d ∷ cs) f c h k = (h.0, noted_push fs cs f c h.1 k)

-- one function more
pub note_more : (fs : List Func) (n : ℕ) (cs : List Notes) (f : Func) (bytes : List ℕ) (c : Notes) → n < length fs → f ≡ get_or fs n f → bytes ≡ f.bytes → AreNoted (take n fs) cs → IsNoted bytes c → AreNoted (take (n + 1) fs) (cs ++ c ∷ [])
note_more fs n cs f bytes c h e same_bytes are k =
    let more : take (n + 1) fs ≡ take n fs ++ f ∷ [] = take_more fs n f h ∙ ap (λ (g : Func). take n fs ++ g ∷ []) (sym e) in
    subst (λ gs. AreNoted gs (cs ++ c ∷ [])) (sym more) (noted_push (take n fs) cs f c are (subst (λ bs. IsNoted bs c) same_bytes k))

one_disassembly : (f : Func) (fs : List Func) (row : List Instr) (disassemblies : List (List Instr)) → IsDisassembly f.bytes row → 1 ≤ length row → AreDisassemblies fs disassemblies → AreDisassemblies (f ∷ fs) (row ∷ disassemblies)
one_disassembly f fs [] disassemblies c some h = absurd (omega arith)
one_disassembly f fs (i ∷ row) disassemblies c some h = (c, h)

pub are_disassemblies : (fs : List Func) (cs : List Notes) → AreNoted fs cs → AreDisassemblies fs (disassemblies_of fs)
are_disassemblies [] [] h = tt
are_disassemblies [] (c ∷ cs) h = absurd h
are_disassemblies (f ∷ fs) [] h = absurd h
are_disassemblies (f ∷ fs) (c ∷ cs) h = one_disassembly f fs (disassembly_of f.bytes) (disassemblies_of fs) h.0.disassembly h.0.some (are_disassemblies fs cs h.1)

first_stuck : (fs : List Func) (n off : ℕ) (cs : List Notes) (f : Func) → n < length fs → f ≡ get_or fs n f → AreNoted (take n fs) cs → IsStuck f.bytes off → IsFirstStuck fs n off
first_stuck fs n off cs f h e are k = record {
  disassemblies = disassemblies_of (take n fs);
  before = take n fs;
  stuck = f;
  others = drop (n + 1) fs;
  functions = sym (take-append-drop n fs) ∙ ap (λ gs. take n fs ++ gs) (drop_more fs n f h ∙ ap (λ (g : Func). g ∷ drop (n + 1) fs) (sym e));
  number = sym (length-take-le n fs (omega arith));
  disassembled = are_disassemblies (take n fs) cs are;
  here = k;
}

pub stuck_first : (fs gs : List Func) (n off : ℕ) (cs : List Notes) (f : Func) (bytes : List ℕ) → fs ≡ gs → n < length fs → f ≡ get_or fs n f → bytes ≡ f.bytes → AreNoted (take n fs) cs → IsStuck bytes off → IsFirstStuck gs n off
stuck_first fs gs n off cs f bytes same h e same_bytes are k =
    subst (λ hs. IsFirstStuck hs n off) same (first_stuck fs n off cs f h e are (subst (λ bs. IsStuck bs off) same_bytes k))
