-- Bytes are disassembled in one way, so an object has one first violation, and with one it is not well formed.
use Rattle.std.proofs.Common.{◌≡◌, ℕ, ◌≤◌, List, [], ◌∷◌, ◌++◌, length, Some, None, refl, sym, ◌∙◌, ap, subst, inl, inr, append_assoc, length-append, arith}
use Rattle.std.proofs.lemmas.List.{append_cancel_left}
use Rattle.x86_core.specs.declared.instr.Instr.{Instr}
use Rattle.x86_core.specs.Encoding.{encoding, IsInstr}
use Rattle.x86_core.specs.Decoding.{decode}
use Rattle.x86_core.proofs.Back.{decode_back}
use Rattle.obj_core.specs.declared.object.Object.{Object}
use Rattle.obj_core.specs.declared.object.Func.{Func}
use Rattle.obj_core.specs.Object.{Each}
use Rattle.obj_core.specs.Disassembly.{spelled, IsDisassembly, AreDisassemblies}
use Rattle.obj_core.specs.WellFormed.{IsWellFormed, IsStuck, IsFirstStuck, IsFirstViolation, Violation, Function, violation}
use Rattle.obj_check.proofs.Rows.{nothing_begins}

pub same_first : (i j : Instr) (xs ys : List ℕ) → IsInstr i → IsInstr j → encoding i ++ xs ≡ encoding j ++ ys → i ≡ j
same_first i j xs ys h k e = let one = sym (decode_back i xs h) ∙ ap decode e ∙ decode_back j ys k in cc

pub same_rest : (i j : Instr) (xs ys : List ℕ) → i ≡ j → encoding i ++ xs ≡ encoding j ++ ys → xs ≡ ys
same_rest i j xs ys p e = append_cancel_left (encoding i) xs ys (e ∙ ap (λ (k : Instr). encoding k ++ ys) (sym p))

one_row : (is js : List Instr) → Each IsInstr is → Each IsInstr js → spelled is ≡ spelled js → is ≡ js
one_row [] [] h k e = refl
one_row [] (j ∷ js) h k e = absurd (nothing_begins j (spelled js) e)
one_row (i ∷ is) [] h k e = absurd (nothing_begins i (spelled is) (sym e))
one_row (i ∷ is) (j ∷ js) h k e =
    let p = same_first i j (spelled is) (spelled js) h.0 k.0 e in
    let q = one_row is js h.1 k.1 (same_rest i j (spelled is) (spelled js) p e) in
    ap (λ (x : Instr). x ∷ is) p ∙ ap (λ (xs : List Instr). j ∷ xs) q

pub one_disassembly : (bytes : List ℕ) (is js : List Instr) → IsDisassembly bytes is → IsDisassembly bytes js → is ≡ js
one_disassembly bytes is js h k = one_row is js h.instructions k.instructions (h.whole ∙ sym k.whole)

disassemblies_once : (fs : List Func) (xs ys : List (List Instr)) → AreDisassemblies fs xs → AreDisassemblies fs ys → xs ≡ ys
disassemblies_once [] [] [] h k = refl
disassemblies_once [] [] (y ∷ ys) h k = absurd k
disassemblies_once [] (x ∷ xs) ys h k = absurd h
disassemblies_once (f ∷ fs) [] ys h k = absurd h
disassemblies_once (f ∷ fs) ([] ∷ xs) ys h k = absurd h
disassemblies_once (f ∷ fs) ((i ∷ is) ∷ xs) [] h k = absurd k
disassemblies_once (f ∷ fs) ((i ∷ is) ∷ xs) ([] ∷ ys) h k = absurd k
disassemblies_once (f ∷ fs) ((i ∷ is) ∷ xs) ((j ∷ js) ∷ ys) h k =
    ap (λ (c : List Instr). c ∷ xs) (one_disassembly f.bytes (i ∷ is) (j ∷ js) h.0 k.0) ∙ ap (λ (cs : List (List Instr)). (j ∷ js) ∷ cs) (disassemblies_once fs xs ys h.1 k.1)

goes_on : (before instrs : List Instr) (rest : List ℕ) → Each IsInstr before → Each IsInstr instrs → spelled instrs ≡ spelled before ++ rest → 1 ≤ length rest → ((i : Instr) → IsInstr i → (more : List ℕ) → rest ≡ encoding i ++ more → ⊥) → ⊥
goes_on [] [] rest h k e some none = let n : 0 ≡ length rest = ap length e in omega arith
goes_on [] (i ∷ is) rest h k e some none = none i k.0 (spelled is) (sym e)
goes_on (b ∷ bs) [] rest h k e some none = nothing_begins b (spelled bs ++ rest) (e ∙ append_assoc (encoding b) (spelled bs) rest)
goes_on (b ∷ bs) (i ∷ is) rest h k e some none =
    let f = e ∙ append_assoc (encoding b) (spelled bs) rest in
    let p = same_first i b (spelled is) (spelled bs ++ rest) k.0 h.0 f in
    goes_on bs is rest h.1 k.1 (same_rest i b (spelled is) (spelled bs ++ rest) p f) some none

not_stuck : (bytes : List ℕ) (off : ℕ) (i : Instr) (is : List Instr) → IsStuck bytes off → IsDisassembly bytes (i ∷ is) → ⊥
not_stuck bytes off i is s c = elim s.inside [
  | inl some ↦ goes_on s.before (i ∷ is) s.rest s.instructions c.instructions (c.whole ∙ s.bytes_are) some s.none
  | inr empty ↦ nothing_begins i (spelled is) (sym (c.whole ∙ empty))
]

none_stuck : (before : List Func) (f : Func) (others : List Func) (off : ℕ) (disassemblies : List (List Instr)) → AreDisassemblies (before ++ f ∷ others) disassemblies → IsStuck f.bytes off → ⊥
none_stuck [] f others off [] h s = h
none_stuck [] f others off ([] ∷ disassemblies) h s = h
none_stuck [] f others off ((i ∷ is) ∷ disassemblies) h s = not_stuck f.bytes off i is s h.0
none_stuck (g ∷ gs) f others off [] h s = h
none_stuck (g ∷ gs) f others off ([] ∷ disassemblies) h s = h
none_stuck (g ∷ gs) f others off ((i ∷ is) ∷ disassemblies) h s = none_stuck gs f others off disassemblies h.1 s

some_is_none : (o : Object) (v : Violation) (xs ys : List (List Instr)) → xs ≡ ys → violation o xs ≡ Some v → violation o ys ≡ None → ⊥
some_is_none o v xs ys e a b = let f = sym a ∙ ap (violation o) e ∙ b in cc

-- no instruction begins bytes
abbrev NoneBegins : List ℕ → Type 0
NoneBegins bytes = (i : Instr) → IsInstr i → (more : List ℕ) → bytes ≡ encoding i ++ more → ⊥

-- two rows up to where no instruction begins are as long
rows_long : (xs ys : List Instr) (r s : List ℕ) → Each IsInstr xs → Each IsInstr ys → spelled xs ++ r ≡ spelled ys ++ s → NoneBegins r → NoneBegins s → length (spelled xs) ≡ length (spelled ys)
rows_long [] [] r s h k e m n = refl
rows_long [] (y ∷ ys) r s h k e m n = absurd (m y k.0 (spelled ys ++ s) (e ∙ append_assoc (encoding y) (spelled ys) s))
rows_long (x ∷ xs) [] r s h k e m n = absurd (n x h.0 (spelled xs ++ r) (sym e ∙ append_assoc (encoding x) (spelled xs) r))
rows_long (x ∷ xs) (y ∷ ys) r s h k e m n =
    let f = sym (append_assoc (encoding x) (spelled xs) r) ∙ e ∙ append_assoc (encoding y) (spelled ys) s in
    let p = same_first x y (spelled xs ++ r) (spelled ys ++ s) h.0 k.0 f in
    let size : length (encoding x) ≡ length (encoding y) = ap (λ (i : Instr). length (encoding i)) p in
    let rest = rows_long xs ys r s h.1 k.1 (same_rest x y (spelled xs ++ r) (spelled ys ++ s) p f) m n in
    omega (arith, size, rest, length-append (encoding x) (spelled xs), length-append (encoding y) (spelled ys))

-- bytes are stuck at one offset
stuck_once : (bytes other : List ℕ) (off end : ℕ) → bytes ≡ other → IsStuck bytes off → IsStuck other end → off ≡ end
stuck_once bytes other off end e s t =
    s.offset ∙ rows_long s.before t.before s.rest t.rest s.instructions t.instructions (sym s.bytes_are ∙ e ∙ t.bytes_are) s.none t.none ∙ sym t.offset

-- one function is the first without instructions
first_once : (xs ys : List Func) (f g : Func) (fs gs : List Func) (disassemblies others : List (List Instr)) (off end : ℕ) → xs ++ f ∷ fs ≡ ys ++ g ∷ gs → AreDisassemblies xs disassemblies → AreDisassemblies ys others → IsStuck f.bytes off → IsStuck g.bytes end → (length xs ≡ length ys) × (off ≡ end)
first_once [] [] f g fs gs disassemblies others off end e h k s t = let same : f ≡ g = cc in (refl, stuck_once f.bytes g.bytes off end (ap (λ (x : Func). x.bytes) same) s t)
first_once [] (y ∷ ys) f g fs gs disassemblies [] off end e h k s t = absurd k
first_once [] (y ∷ ys) f g fs gs disassemblies ([] ∷ others) off end e h k s t = absurd k
first_once [] (y ∷ ys) f g fs gs disassemblies ((i ∷ is) ∷ others) off end e h k s t = let same : y ≡ f = cc in absurd (not_stuck f.bytes off i is s (subst (λ (x : Func). IsDisassembly x.bytes (i ∷ is)) same k.0))
first_once (x ∷ xs) [] f g fs gs [] others off end e h k s t = absurd h
first_once (x ∷ xs) [] f g fs gs ([] ∷ disassemblies) others off end e h k s t = absurd h
first_once (x ∷ xs) [] f g fs gs ((i ∷ is) ∷ disassemblies) others off end e h k s t = let same : x ≡ g = cc in absurd (not_stuck g.bytes end i is t (subst (λ (z : Func). IsDisassembly z.bytes (i ∷ is)) same h.0))
first_once (x ∷ xs) (y ∷ ys) f g fs gs [] others off end e h k s t = absurd h
first_once (x ∷ xs) (y ∷ ys) f g fs gs ([] ∷ disassemblies) others off end e h k s t = absurd h
first_once (x ∷ xs) (y ∷ ys) f g fs gs ((i ∷ is) ∷ disassemblies) [] off end e h k s t = absurd k
first_once (x ∷ xs) (y ∷ ys) f g fs gs ((i ∷ is) ∷ disassemblies) ([] ∷ others) off end e h k s t = absurd k
first_once (x ∷ xs) (y ∷ ys) f g fs gs ((i ∷ is) ∷ disassemblies) ((j ∷ js) ∷ others) off end e h k s t =
    let rest = first_once xs ys f g fs gs disassemblies others off end (cc) h.1 k.1 s t in (omega (arith, rest.0), rest.1)

-- a function that is stuck first
stuck_first_once : (fs : List Func) (n m off end : ℕ) → IsFirstStuck fs n off → IsFirstStuck fs m end → (n ≡ m) × (off ≡ end)
stuck_first_once fs n m off end s t =
    let x = first_once s.before t.before s.stuck t.stuck s.others t.others s.disassemblies t.disassemblies off end (sym s.functions ∙ t.functions) s.disassembled t.disassembled s.here t.here in
    (s.number ∙ x.0 ∙ sym t.number, x.1)

-- no function is stuck where each has a disassembly
no_first_stuck : (fs : List Func) (n off : ℕ) (disassemblies : List (List Instr)) → IsFirstStuck fs n off → AreDisassemblies fs disassemblies → ⊥
no_first_stuck fs n off disassemblies s c = none_stuck s.before s.stuck s.others off disassemblies (subst (λ (gs : List Func). AreDisassemblies gs disassemblies) s.functions c) s.here

-- a violation of rule 2
abbrev of_rule_2 : ℕ → ℕ → Violation
of_rule_2 n off = record { rule = 2; spot = Function n; offset = off }

-- a later rule has one first violation
later_once : (o : Object) (v w : Violation) (xs ys : List (List Instr)) → xs ≡ ys → violation o xs ≡ Some v → violation o ys ≡ Some w → v ≡ w
later_once o v w xs ys e a b = let f : Some v ≡ Some w = sym a ∙ ap (violation o) e ∙ b in cc

-- an object has one first violation
pub one_violation : (o : Object) (v w : Violation) → IsFirstViolation o v → IsFirstViolation o w → v ≡ w
one_violation o v w (inl p) (inl q) = p.0 ∙ sym q.0
one_violation o v w (inl p) (inr (inl q)) = absurd (p.1 q.2.1)
one_violation o v w (inl p) (inr (inr q)) = absurd (p.1 q.0)
one_violation o v w (inr (inl p)) (inl q) = absurd (q.1 p.2.1)
one_violation o v w (inr (inl p)) (inr (inl q)) =
    let x = stuck_first_once o.functions p.0 q.0 p.1 q.1 p.2.2 q.2.2 in
    p.2.0 ∙ ap (λ n. of_rule_2 n p.1) x.0 ∙ ap (of_rule_2 q.0) x.1 ∙ sym q.2.0
one_violation o v w (inr (inl p)) (inr (inr q)) = absurd (no_first_stuck o.functions p.0 p.1 q.1.0 p.2.2 q.1.1.0)
one_violation o v w (inr (inr p)) (inl q) = absurd (q.1 p.0)
one_violation o v w (inr (inr p)) (inr (inl q)) = absurd (no_first_stuck o.functions q.0 q.1 p.1.0 q.2.2 p.1.1.0)
one_violation o v w (inr (inr p)) (inr (inr q)) = later_once o v w p.1.0 q.1.0 (disassemblies_once o.functions p.1.0 q.1.0 p.1.1.0 q.1.1.0) p.1.1.1 q.1.1.1

pub violates : (o : Object) (v : Violation) → IsFirstViolation o v → IsWellFormed o → ⊥
violates o v (inl p) w = p.1 w.few
violates o v (inr (inl p)) w =
    let s = p.2.2 in
    none_stuck s.before s.stuck s.others p.1 w.disassemblies (subst (λ (fs : List Func). AreDisassemblies fs w.disassemblies) s.functions w.disassembled) s.here
violates o v (inr (inr p)) w = some_is_none o v p.1.0 w.disassemblies (disassemblies_once o.functions p.1.0 w.disassemblies p.1.1.0 w.disassembled) p.1.1.1 w.kept
