-- The order in which registers are pushed: by their addresses, and that the drawn one has each of the five.
use Rattle.std.proofs.Common.{◌≡◌, ◌≢◌, ℕ, zero, suc, ◌<◌, Bool, true, false, List, [], ◌∷◌, ◌++◌, length, refl, sym, ◌∙◌, ap, subst, inl, inr, arith, length-append}
use Rattle.std.specs.Prelude.{if◌then◌else◌, nat_eq, slice_index}
use Rattle.std.proofs.lemmas.List.{get_or_default}
use Rattle.rd_draw.specs.Draw.{keystream_word, shuffled}
use Rattle.rd_draw.proofs.Permuted.{shuffled_long, shuffled_holds}
use Rattle.x86_core.specs.declared.reg.Reg.{Reg}
use Rattle.x86_core.specs.declared.reg.Reg.TheVariants.{Rbx, Rsp, Rbp, R12, R13, R14}
use Rattle.x86_core.specs.declared.instr.Instr.TheVariants.{Push, Pop}
use Rattle.x86_rows.specs.Saving.{SpareRsp, IsOneOf}
use Rattle.x86_rows.specs.Saving as saving
use Rattle.obj_core.specs.Slots.{push_purpose}
use Rattle.obj_core.specs.Saved.{saved_register, five_of}
use Rattle.frame_rows.specs.Ties.{is_home}
use Rattle.frame_lower.specs.Chain.{upward}
use Rattle.frame_lower.specs.Rows.{push_row, pop_row}

-- a register above the others is pushed before them, and given back after them
push_above : (rs : List Reg) (r : Reg) → saving.push_row (rs ++ r ∷ []) ≡ Push r ∷ saving.push_row rs
push_above [] r = refl
push_above (s ∷ rs) r = ap (λ row. row ++ Push s ∷ []) (push_above rs r)

pop_above : (rs : List Reg) (r : Reg) → saving.pop_row (rs ++ r ∷ []) ≡ saving.pop_row rs ++ Pop r ∷ []
pop_above [] r = refl
pop_above (s ∷ rs) r = ap (λ row. Pop s ∷ row) (pop_above rs r)

-- the rows of a function are those of registers by their addresses
pub pushes_upward : (order : List ℕ) → push_row order ≡ saving.push_row (upward order)
pushes_upward [] = refl
pushes_upward (place ∷ order) = ap (λ row. Push (saved_register place) ∷ row) (pushes_upward order) ∙ sym (push_above (upward order) (saved_register place))

pub pops_upward : (order : List ℕ) → pop_row order ≡ saving.pop_row (upward order)
pops_upward [] = refl
pops_upward (place ∷ order) = ap (λ row. row ++ Pop (saved_register place) ∷ []) (pops_upward order) ∙ sym (pop_above (upward order) (saved_register place))

pub upward_long : (order : List ℕ) → length (upward order) ≡ length order
upward_long [] = refl
upward_long (place ∷ order) = let e = upward_long order in let l = length-append (upward order) (saved_register place ∷ []) in omega (arith, e, l)

-- each of them is a home
abbrev pub AllHomes : List Reg → Type 0
AllHomes [] = Unit {0}
AllHomes (r ∷ rs) = (is_home r ≡ true) × AllHomes rs

pub saved_is_home : (place : ℕ) → is_home (saved_register place) ≡ true
saved_is_home place = by_tests (nat_eq place 0) (nat_eq place 1) (nat_eq place 2) (nat_eq place 3)
  where
    by_tests : (a b c d : Bool) → is_home (if a then Rbx else (if b then Rbp else (if c then R12 else (if d then R13 else R14)))) ≡ true
    by_tests true b c d = refl
    by_tests false true c d = refl
    by_tests false false true d = refl
    by_tests false false false true = refl
    by_tests false false false false = refl

homes_above : (rs : List Reg) (r : Reg) → AllHomes rs → is_home r ≡ true → AllHomes (rs ++ r ∷ [])
homes_above [] r are is = (is, tt)
homes_above (s ∷ rs) r are is = (are.0, homes_above rs r are.1 is)

pub upward_homes : (order : List ℕ) → AllHomes (upward order)
upward_homes [] = tt
upward_homes (place ∷ order) = homes_above (upward order) (saved_register place) (upward_homes order) (saved_is_home place)

-- so none of them is rsp, and a register that is no home isn't among them
pub home_spares : (r : Reg) → is_home r ≡ true → r ≢ Rsp
home_spares r is e = let z : false ≡ true = sym (ap is_home e) ∙ is in absurd (cc)

spare : (rs : List Reg) → AllHomes rs → SpareRsp rs
spare [] are = tt
spare (r ∷ rs) are = (home_spares r are.0, spare rs are.1)

pub upward_spare : (order : List ℕ) → SpareRsp (upward order)
upward_spare order = spare (upward order) (upward_homes order)

one_is_home : (rs : List Reg) (r : Reg) → AllHomes rs → IsOneOf r rs → is_home r ≡ true
one_is_home [] r are one = absurd one
one_is_home (s ∷ rs) r are (inl e) = ap is_home e ∙ are.0
one_is_home (s ∷ rs) r are (inr one) = one_is_home rs r are.1 one

pub upward_none : (order : List ℕ) (r : Reg) → is_home r ≡ false → IsOneOf r (upward order) → ⊥
upward_none order r none one = let z : false ≡ true = sym none ∙ one_is_home (upward order) r (upward_homes order) one in absurd (cc)

-- a register of one of the places is among them
below_others : (rs : List Reg) (r s : Reg) → IsOneOf r rs → IsOneOf r (rs ++ s ∷ [])
below_others [] r s one = absurd one
below_others (t ∷ rs) r s (inl e) = inl e
below_others (t ∷ rs) r s (inr one) = inr (below_others rs r s one)

at_top : (rs : List Reg) (r : Reg) → IsOneOf r (rs ++ r ∷ [])
at_top [] r = inl refl
at_top (s ∷ rs) r = inr (at_top rs r)

pub upward_one : (order : List ℕ) (i : ℕ) (r : Reg) → i < length order → saved_register (slice_index order i) ≡ r → IsOneOf r (upward order)
upward_one [] i r lt e = absurd (omega (arith, lt))
upward_one (place ∷ order) zero r lt e = subst (λ s. IsOneOf s (upward order ++ saved_register place ∷ [])) e (at_top (upward order) (saved_register place))
upward_one (place ∷ order) (suc i) r lt e = below_others (upward order) r (saved_register place) (upward_one order i r (omega (arith, lt)) e)

module _ (reg_seed number : ℕ) where
  pub drawn_long : length (five_of reg_seed push_purpose number) ≡ 5
  unfolding five_of
  drawn_long = shuffled_long (keystream_word reg_seed push_purpose number) 5

  has_place : (place : ℕ) (r : Reg) → place < 5 → saved_register place ≡ r → IsOneOf r (upward (five_of reg_seed push_purpose number))
  unfolding five_of
  has_place place r lt e =
      let words = keystream_word reg_seed push_purpose number in
      let x = shuffled_holds words 5 place lt in
      upward_one (shuffled words 5) x.0 r x.1 (ap saved_register (get_or_default (shuffled words 5) x.0 0 place x.1 ∙ x.2) ∙ e)

  -- the drawn order has each home
  pub drawn_all : (r : Reg) → is_home r ≡ true → IsOneOf r (upward (five_of reg_seed push_purpose number))
  drawn_all Rbx is = has_place 0 Rbx (omega arith) refl
  drawn_all Rbp is = has_place 1 Rbp (omega arith) refl
  drawn_all R12 is = has_place 2 R12 (omega arith) refl
  drawn_all R13 is = has_place 3 R13 (omega arith) refl
  drawn_all R14 is = has_place 4 R14 (omega arith) refl
  drawn_all r is = absurd (cc)
