-- Where a jump to a slot ends: it is among the ends that an object counts for the slot.
use Rattle.std.proofs.Common.{◌≡◌, ℕ, zero, suc, ◌+◌, ◌-◌, ◌⊎◌, inl, inr, Bool, true, false, nat_eq, if◌then◌else◌, List, [], ◌∷◌, ◌++◌, length, take, get_or, Some, pos, slice_get, refl, ap, sym, subst, ◌∙◌, arith, append_assoc}
use Rattle.std.proofs.lemmas.Bool.{eq-eqb}
use Rattle.x86_core.specs.declared.reg.Reg.{Reg}
use Rattle.x86_core.specs.declared.instr.Instr.TheVariants as instr
use Rattle.low_core.specs.declared.sel.Home.{Home}
use Rattle.low_core.specs.declared.sel.SelFun.{SelFun}
use Rattle.obj_core.specs.declared.object.CodeAt.{CodeAt}
use Rattle.obj_core.specs.declared.object.Func.{Func}
use Rattle.obj_core.specs.declared.object.Link.{Link}
use Rattle.obj_core.specs.Disassembly.{size_of}
use Rattle.obj_rows.specs.Marked.{Marked, linked, row_size, link_ending, links_from, Stands}
use Rattle.obj_rows.specs.Assembled.{with_first_cuts, ends_in, ends_from}
use Rattle.frame_lower.specs.Blocks.{calls_of_blocks}
use Rattle.frame_lower.specs.Functions.{function_row, making_with, saved_function, functions_with}
use Rattle.frame_lower.specs.Given.{calls_of_functions}
use Rattle.frame_lower.proofs.Programs.{calls_more}

-- one of a list
abbrev pub IsIn : {X : Type 0} → X → List X → Type 0
IsIn x [] = ⊥
IsIn x (y ∷ ys) = (x ≡ y) ⊎ IsIn x ys

pub in_left : {X : Type 0} (x : X) (xs ys : List X) → IsIn x xs → IsIn x (xs ++ ys)
in_left x [] ys is = absurd is
in_left x (z ∷ xs) ys is = elim is [ inl e ↦ inl e | inr m ↦ inr (in_left x xs ys m) ]

pub in_right : {X : Type 0} (x : X) (xs ys : List X) → IsIn x ys → IsIn x (xs ++ ys)
in_right x [] ys is = is
in_right x (z ∷ xs) ys is = inr (in_right x xs ys is)

-- the only one of a list
pub only_one : {X : Type 0} (x y : X) → IsIn x (y ∷ []) → x ≡ y
only_one x y is = elim is [ inl e ↦ e | inr m ↦ absurd m ]

-- a link to a slot, and its end
pub end_in : (k n : ℕ) (l : Link) (ls : List Link) → l.slot ≡ k → IsIn l ls → let e : CodeAt = record { function = n; offset = l.at + 4 } in IsIn e (ends_in k n ls)
end_in k n l [] is there = absurd there
end_in k n l (m ∷ ls) is there = elim there [
  | inl same ↦
      let its : m.slot ≡ k = ap (λ (x : Link). x.slot) (sym same) ∙ is in
      let e : CodeAt = record { function = n; offset = l.at + 4 } in
      subst (IsIn e) (sym (ap (λ b. if b then record { function = n; offset = m.at + 4 } ∷ ends_in k n ls else ends_in k n ls) (eq-eqb m.slot k its)))
      (inl (ap (λ (x : Link). record { function = n; offset = x.at + 4 }) same))
  | inr other ↦ behind (nat_eq m.slot k) (end_in k n l ls is other)
]
  where
    behind : (b : Bool) → let e : CodeAt = record { function = n; offset = l.at + 4 } in IsIn e (ends_in k n ls) → IsIn e (if b then record { function = n; offset = m.at + 4 } ∷ ends_in k n ls else ends_in k n ls)
    behind true i = inr i
    behind false i = i

-- the same in a function among others
pub end_from : (k n g : ℕ) (fs : List Func) (f : Func) (l : Link) → slice_get fs g ≡ Some f → l.slot ≡ k → IsIn l f.links → let e : CodeAt = record { function = n + g; offset = l.at + 4 } in IsIn e (ends_from k n fs)
end_from k n g [] f l there is link = absurd cc
end_from k n zero (h ∷ fs) f l there is link =
    let same : h ≡ f = cc in
    let number : n ≡ n + 0 = omega arith in
    in_left _ (ends_in k n h.links) (ends_from k (suc n) fs)
    (subst (λ m. let e : CodeAt = record { function = m; offset = l.at + 4 } in IsIn e (ends_in k n h.links)) number (end_in k n l h.links is (subst (λ (x : Func). IsIn l x.links) (sym same) link)))
end_from k n (suc g) (h ∷ fs) f l there is link =
    let number : suc n + g ≡ n + suc g = omega arith in
    in_right _ (ends_in k n h.links) (ends_from k (suc n) fs)
    (subst (λ m. let e : CodeAt = record { function = m; offset = l.at + 4 } in IsIn e (ends_from k (suc n) fs)) number (end_from k (suc n) g fs f l there is link))

-- cuts change no ends
pub ends_uncut : (count k n : ℕ) (fs : List Func) → ends_from k n (with_first_cuts count fs) ≡ ends_from k n fs
ends_uncut count k n [] = refl
ends_uncut count k n (f ∷ fs) = ap (λ l. ends_in k n f.links ++ l) (ends_uncut (count - length f.cuts) k (suc n) fs)

pub ends_append : (k n : ℕ) (fs gs : List Func) → ends_from k n (fs ++ gs) ≡ ends_from k n fs ++ ends_from k (n + length fs) gs
ends_append k n [] gs = ap (λ m. ends_from k m gs) (let e : n ≡ n + 0 = omega arith in e)
ends_append k n (f ∷ fs) gs =
    let number : suc n + length fs ≡ n + suc (length fs) = omega arith in
    ap (λ l. ends_in k n f.links ++ l) (ends_append k (suc n) fs gs ∙ ap (λ m. ends_from k (suc n) fs ++ ends_from k m gs) number)
    ∙ sym (append_assoc (ends_in k n f.links) (ends_from k (suc n) fs) (ends_from k (n + suc (length fs)) gs))

-- the links of two rows
pub links_append : (off : ℕ) (xs ys : List Marked) → links_from off (xs ++ ys) ≡ links_from off xs ++ links_from (off + row_size xs) ys
links_append off [] ys = ap (λ n. links_from n ys) (let e : off ≡ off + 0 = omega arith in e)
links_append off (x ∷ xs) ys =
    let here = link_ending x.slot (off + size_of x.instr) in
    let number : off + size_of x.instr + row_size xs ≡ off + (size_of x.instr + row_size xs) = omega arith in
    ap (λ l. here ++ l) (links_append (off + size_of x.instr) xs ys ∙ ap (λ n. links_from (off + size_of x.instr) xs ++ links_from n ys) number)
    ∙ sym (append_assoc here (links_from (off + size_of x.instr) xs) (links_from (off + (size_of x.instr + row_size xs)) ys))

-- a jump to a slot that stands in a row
pub jump_linked : (row rest : List Marked) (off k : ℕ) → Stands row off (linked (instr.Jmp (pos 0)) k ∷ rest) → let l : Link = record { at = off + 1; slot = k } in IsIn l (links_from 0 row)
jump_linked row rest off k s =
    let l : Link = record { at = off + 1; slot = k } in
    let part = linked (instr.Jmp (pos 0)) k ∷ rest in
    let end : 0 + row_size s.before + 5 - 4 ≡ off + 1 = (let o = s.offset in omega (arith, o)) in
    let here : IsIn l (links_from (0 + row_size s.before) (part ++ s.behind)) = inl (ap (λ n. record { at = n; slot = k }) (sym end)) in
    subst (IsIn l) (sym (ap (links_from 0) s.split ∙ links_append 0 s.before (part ++ s.behind))) (in_right l (links_from 0 s.before) (links_from (0 + row_size s.before) (part ++ s.behind)) here)

-- the function of a number
pub function_there : (globals functions : List ℕ) (reg_draw : ℕ) (names : List (List Reg)) (homes : List (List Home)) (number slot : ℕ) (fs : List SelFun) (g : ℕ) (f : SelFun) → slice_get fs g ≡ Some f →
    slice_get (functions_with globals functions reg_draw names homes number slot fs) g
    ≡ Some (saved_function (function_row (making_with globals functions reg_draw (number + g) (get_or names (number + g) []) (get_or homes (number + g) []) f) (slot + calls_of_functions (take g fs)) f))
function_there globals functions reg_draw names homes number slot [] g f there = absurd cc
function_there globals functions reg_draw names homes number slot (h ∷ fs) zero f there =
    let same : h ≡ f = cc in
    let one : number ≡ number + 0 = omega arith in
    let none : slot ≡ slot + 0 = omega arith in
    let made = λ (n : ℕ) (x : SelFun). making_with globals functions reg_draw n (get_or names n []) (get_or homes n []) x in
    ap (λ x. Some (saved_function (function_row (made number x) slot x))) same ∙ ap (λ n. Some (saved_function (function_row (made n f) slot f))) one
    ∙ ap (λ s. Some (saved_function (function_row (made (number + 0) f) s f))) none
function_there globals functions reg_draw names homes number slot (h ∷ fs) (suc g) f there =
    let more = calls_more h (take g fs) in
    let one : suc number + g ≡ number + suc g = omega arith in
    let first : slot + calls_of_blocks h.blocks + calls_of_functions (take g fs) ≡ slot + calls_of_functions (h ∷ take g fs) = omega (arith, more) in
    let made = λ (n : ℕ). making_with globals functions reg_draw n (get_or names n []) (get_or homes n []) f in
    function_there globals functions reg_draw names homes (suc number) (slot + calls_of_blocks h.blocks) fs g f there
    ∙ ap (λ n. Some (saved_function (function_row (made n) (slot + calls_of_blocks h.blocks + calls_of_functions (take g fs)) f))) one
    ∙ ap (λ s. Some (saved_function (function_row (made (number + suc g)) s f))) first
