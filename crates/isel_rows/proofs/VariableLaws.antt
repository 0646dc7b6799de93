-- Variables one local after another, by names and kinds.
use Rattle.std.proofs.Common.{◌≡◌, ℕ, zero, suc, Bool, true, false, List, [], ◌∷◌, ◌++◌, map, fold, length, Option, Some, None, refl, ap, sym, ◌∙◌, append_assoc, arith, if◌then◌else◌}
use Rattle.std.specs.Prelude.{slice_get, not}
use Rattle.std.proofs.lemmas.List.Sums.{fold-append}
use Rattle.std.proofs.lemmas.List.{append-nil, map-append}
use Rattle.rd_num.specs.declared.width.Width.{Width}
use Rattle.rd_num.specs.declared.width.Width.TheVariants.{W64}
use Rattle.ir_core.specs.declared.kind.Kind.{Kind}
use Rattle.ir_core.specs.declared.module.Block.{Block}
use Rattle.ir_core.specs.declared.module.Param.{Param}
use Rattle.ir_core.specs.Definitions.{is_among}
use Rattle.ir_core.specs.Valid.{LocalKind, named_locals, param_kind, results_of}
use Rattle.isel_rows.specs.Kept.{locals_with, with_local}
use Rattle.isel_rows.specs.Variables.{first_of_each, width_of, width_in}

-- the names of variables are those that were kept
pub names_kept : (ns : List (List ℕ)) (ks : List Kind) → length ns ≡ length ks → named_locals (locals_with ns ks) ≡ ns
names_kept [] ks even = refl
names_kept (n ∷ ns) [] even = absurd (omega (arith, even))
names_kept (n ∷ ns) (k ∷ ks) even = ap (λ l. n ∷ l) (names_kept ns ks (omega (arith, even)))

-- there are as many
pub length_kept : (ns : List (List ℕ)) (ks : List Kind) → length ns ≡ length ks → length (locals_with ns ks) ≡ length ns
length_kept [] ks even = refl
length_kept (n ∷ ns) [] even = absurd (omega (arith, even))
length_kept (n ∷ ns) (k ∷ ks) even = let e = length_kept ns ks (omega (arith, even)) in omega arith

-- one more
pub one_more : (ns : List (List ℕ)) (ks : List Kind) (n : List ℕ) (k : Kind) → length ns ≡ length ks → locals_with (ns ++ n ∷ []) (ks ++ k ∷ []) ≡ locals_with ns ks ++ (record { name = n; kind = k }) ∷ []
one_more [] [] n k even = refl
one_more [] (j ∷ ks) n k even = absurd (omega (arith, even))
one_more (m ∷ ns) [] n k even = absurd (omega (arith, even))
one_more (m ∷ ns) (j ∷ ks) n k even = let first : LocalKind = record { name = m; kind = j } in ap (λ l. first ∷ l) (one_more ns ks n k (omega (arith, even)))

-- a local whose name is new, or one that is known
with_new : (ns : List (List ℕ)) (ks : List Kind) (n : List ℕ) (k : Kind) → length ns ≡ length ks → is_among (named_locals (locals_with ns ks)) n ≡ false
    → locals_with (ns ++ n ∷ []) (ks ++ k ∷ []) ≡ with_local (locals_with ns ks) (record { name = n; kind = k })
with_new ns ks n k even is =
    one_more ns ks n k even ∙ sym (ap (λ b. if b then locals_with ns ks else locals_with ns ks ++ (record { name = n; kind = k }) ∷ []) is)

with_old : (ns : List (List ℕ)) (ks : List Kind) (n : List ℕ) (k : Kind) → is_among (named_locals (locals_with ns ks)) n ≡ true
    → locals_with ns ks ≡ with_local (locals_with ns ks) (record { name = n; kind = k })
with_old ns ks n k is = sym (ap (λ b. if b then locals_with ns ks else locals_with ns ks ++ (record { name = n; kind = k }) ∷ []) is)

not_true_is : (b : Bool) → true ≡ not b → b ≡ false
not_true_is true e = e
not_true_is false e = refl

not_false_is : (b : Bool) → false ≡ not b → b ≡ true
not_false_is true e = refl
not_false_is false e = e

pub added : (vs : List LocalKind) (ns ms : List (List ℕ)) (ks js : List Kind) (n : List ℕ) (k : Kind) (r : Bool) → locals_with ns ks ≡ vs → length ns ≡ length ks → r ≡ not (is_among ns n)
    → ms ≡ (if r then ns ++ n ∷ [] else ns) → r ≡ true → js ≡ ks ++ k ∷ [] → locals_with ms js ≡ with_local vs (record { name = n; kind = k })
added vs ns ms ks js n k r are even new names is kinds =
    ap (λ l. locals_with l js) (names ∙ ap (λ b. if b then ns ++ n ∷ [] else ns) is) ∙ ap (locals_with (ns ++ n ∷ [])) kinds
    ∙ with_new ns ks n k even (ap (λ l. is_among l n) (names_kept ns ks even) ∙ not_true_is (is_among ns n) (sym is ∙ new))
    ∙ ap (λ us. with_local us (record { name = n; kind = k })) are

pub not_added : (vs : List LocalKind) (ns ms : List (List ℕ)) (ks : List Kind) (n : List ℕ) (k : Kind) (r : Bool) → locals_with ns ks ≡ vs → length ns ≡ length ks → r ≡ not (is_among ns n)
    → ms ≡ (if r then ns ++ n ∷ [] else ns) → r ≡ false → locals_with ms ks ≡ with_local vs (record { name = n; kind = k })
not_added vs ns ms ks n k r are even new names is =
    ap (λ l. locals_with l ks) (names ∙ ap (λ b. if b then ns ++ n ∷ [] else ns) is)
    ∙ with_old ns ks n k (ap (λ l. is_among l n) (names_kept ns ks even) ∙ not_false_is (is_among ns n) (sym is ∙ new))
    ∙ ap (λ us. with_local us (record { name = n; kind = k })) are

-- the width of the variable of a number
abbrev pub width_kept : Option Kind → Width
width_kept (Some k) = width_of k
width_kept None = W64

pub width_at : (ns : List (List ℕ)) (ks : List Kind) (k : ℕ) → length ns ≡ length ks → width_kept (slice_get ks k) ≡ width_in (slice_get (locals_with ns ks) k)
width_at [] [] k even = refl
width_at [] (j ∷ ks) k even = absurd (omega (arith, even))
width_at (n ∷ ns) [] k even = absurd (omega (arith, even))
width_at (n ∷ ns) (j ∷ ks) zero even = refl
width_at (n ∷ ns) (j ∷ ks) (suc k) even = width_at ns ks k (omega (arith, even))

-- locals after variables are those whose names are new
pub first_after : (vs ls : List LocalKind) → fold with_local vs ls ≡ vs ++ first_of_each (named_locals vs) ls
first_after vs [] = sym (append-nil vs)
first_after vs (l ∷ ls) = by (is_among (named_locals vs) l.name) (first_after vs ls) (first_after (vs ++ l ∷ []) ls)
  where
    by : (b : Bool) → fold with_local vs ls ≡ vs ++ first_of_each (named_locals vs) ls → fold with_local (vs ++ l ∷ []) ls ≡ (vs ++ l ∷ []) ++ first_of_each (named_locals (vs ++ l ∷ [])) ls
        → fold with_local (if b then vs else vs ++ l ∷ []) ls ≡ vs ++ (if b then first_of_each (named_locals vs) ls else l ∷ first_of_each (named_locals vs ++ l.name ∷ []) ls)
    by true kept added = kept
    by false kept added =
        added ∙ ap (λ ns. (vs ++ l ∷ []) ++ first_of_each ns ls) (map-append (λ (k : LocalKind). k.name) vs (l ∷ []))
        ∙ append_assoc vs (l ∷ []) (first_of_each (named_locals vs ++ l.name ∷ []) ls)

-- so the variables of a function are its parameters and then its results
pub variables_are : (none params : List LocalKind) (ps : List Param) (bs : List Block) → none ≡ [] → params ≡ fold with_local none (map param_kind ps)
    → fold with_local params (results_of bs) ≡ first_of_each [] (map param_kind ps ++ results_of bs)
variables_are none params ps bs empty are =
    ap (λ vs. fold with_local vs (results_of bs)) (are ∙ ap (λ vs. fold with_local vs (map param_kind ps)) empty)
    ∙ sym (fold-append with_local [] (map param_kind ps) (results_of bs)) ∙ first_after [] (map param_kind ps ++ results_of bs)
