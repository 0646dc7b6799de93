-- Names, widths and kinds that are the same, and what options hold.
use Rattle.std.proofs.Common.{◌≡◌, ℕ, Bool, true, false, List, [], ◌∷◌, Option, Some, None, refl, ap, sym, ◌∙◌}
use Rattle.std.specs.Prelude.{nat_eq}
use Rattle.std.proofs.lemmas.Bool.{and_parts, and_from, eqb-true, eq-eqb}
use Rattle.ir_core.specs.declared.kind.Kind.{Kind}
use Rattle.ir_core.specs.Names.{same_name}
use Rattle.ir_core.specs.Kinds.{same_kind}
use Rattle.ir_core.specs.Calls.{same_kinds}
use Rattle.ir_core.specs.Typing.{has_kind}
use Rattle.rd_num.specs.declared.width.Width.{Width}
use Rattle.rd_num.specs.declared.width.Width.TheVariants.{W1, W8, W16, W32, W64}
use Rattle.rd_num.specs.Number.{bits}
use Rattle.ir_core.specs.declared.kind.Kind.TheVariants.{NoValue, Number, Pointer}

-- false isn't true
pub not_true : {X : Type 0} → false ≡ true → X
not_true e = absurd (cc)

-- an option holds one thing
pub some_is : {A : Type 0} (x y : A) → let o : Option A = Some x in o ≡ Some y → x ≡ y
some_is x y e = cc

-- an option that holds something isn't empty
pub none_is : {A : Type 0} {X : Type 0} (y : A) → let o : Option A = None in o ≡ Some y → X
none_is y e = absurd (cc)

-- names that are the same
pub name_is : (a b : List ℕ) → same_name a b ≡ true → a ≡ b
name_is [] [] e = refl
name_is (x ∷ xs) (y ∷ ys) e = let p = and_parts (nat_eq x y) (same_name xs ys) e in let q = eqb-true x y p.0 in let r = name_is xs ys p.1 in cc
name_is [] (y ∷ ys) e = not_true e
name_is (x ∷ xs) [] e = not_true e

-- a name is the same as itself
pub same_itself : (l : List ℕ) → same_name l l ≡ true
same_itself [] = refl
same_itself (n ∷ ns) = and_from _ _ (eq-eqb n n refl) (same_itself ns)

-- names that differ do so both ways
pub differ_back : (a b : List ℕ) → same_name a b ≡ false → same_name b a ≡ false
differ_back a b differ = by_test (same_name b a) refl
  where
    by_test : (c : Bool) → same_name b a ≡ c → same_name b a ≡ false
    by_test false e = e
    by_test true e = not_true (sym differ ∙ ap (same_name a) (name_is b a e) ∙ same_itself a)

-- widths that are the same
pub width_is : (v w : Width) → nat_eq (bits v) (bits w) ≡ true → v ≡ w
width_is W1 W1 e = refl
width_is W8 W8 e = refl
width_is W16 W16 e = refl
width_is W32 W32 e = refl
width_is W64 W64 e = refl
width_is v w e = not_true e

-- kinds that are the same
pub kind_is : (j k : Kind) → same_kind j k ≡ true → j ≡ k
kind_is NoValue NoValue e = refl
kind_is (Number v) (Number w) e = ap Number (width_is v w e)
kind_is Pointer Pointer e = refl
kind_is j k e = not_true e

-- a kind is the same as itself
pub kind_itself : (k : Kind) → same_kind k k ≡ true
kind_itself NoValue = refl
kind_itself Pointer = refl
kind_itself (Number w) = eq-eqb _ _ refl

-- rows of kinds that are the same
pub kinds_are : (js ks : List Kind) → same_kinds js ks ≡ true → js ≡ ks
kinds_are [] [] e = refl
kinds_are (j ∷ js) (k ∷ ks) e = let p = and_parts (same_kind j k) (same_kinds js ks) e in let q = kind_is j k p.0 in let r = kinds_are js ks p.1 in cc
kinds_are [] (k ∷ ks) e = not_true e
kinds_are (j ∷ js) [] e = not_true e

-- rows of kinds are the same as themselves
pub kinds_itself : (ks : List Kind) → same_kinds ks ks ≡ true
kinds_itself [] = refl
kinds_itself (k ∷ ks) = and_from _ _ (kind_itself k) (kinds_itself ks)

-- a kind that is known
pub has_kind_is : (o : Option Kind) (k : Kind) → has_kind o k ≡ true → o ≡ Some k
has_kind_is (Some j) k e = ap Some (kind_is j k e)
has_kind_is None k e = not_true e
