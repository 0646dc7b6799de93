-- Rows of named types after some rounds tell what the names stand for.
use Rattle.std.proofs.Common.{◌≡◌, ℕ, zero, suc, ◌+◌, ◌-◌, ◌≤◌, Bool, true, false, List, [], ◌∷◌, map, Option, Some, None, refl, ap, sym, ◌∙◌, subst, arith, if◌then◌else◌}
use Rattle.std.specs.Prelude.{option_map}
use Rattle.ir_core.specs.declared.limit.TheConstants.{MAX_NESTING}
use Rattle.ir_core.specs.declared.size.Align.TheVariants.{One}
use Rattle.ir_core.specs.declared.size.Extent.{Extent}
use Rattle.ir_core.specs.declared.ty.Ty.{Ty, fold-Ty}
use Rattle.ir_core.specs.declared.ty.NamedTy.{NamedTy}
use Rattle.ir_core.specs.Names.{same_name, number_where, first_where}
use Rattle.ir_core.specs.Shapes.{Shape, shape_at, shape_or_nothing, named_shape, shape_of, nothing}
use Rattle.ir_core.specs.Counts.{depth_at, depth_or_none, named_depth, depth_of, size_count}
use Rattle.ir_core.specs.Sizes.{empty_extent, row_at, row_in, extent_in, first_rows, names_in, next_rows, rows_after}
use Rattle.ir_core.proofs.ExtentLaws.{Tells, tells_ty}

-- the row that a type has, if there is one
abbrev row_of : (NamedTy → Extent) → Option NamedTy → Extent
row_of extent (Some t) = extent t
row_of extent None = empty_extent

-- one place further in rows that are one longer
row_further : (e : Extent) (rows : List Extent) (o : Option ℕ) → row_at (e ∷ rows) (option_map (λ n. suc n) o) ≡ row_at rows o
row_further e rows None = refl
row_further e rows (Some n) = refl

-- the row of a name is that of the first type of that name
row_found : (extent : NamedTy → Extent) (types : List NamedTy) (name : List ℕ) → row_in (names_in types) (map extent types) name ≡ row_of extent (first_where (λ (t : NamedTy). same_name t.name name) types)
row_found extent [] name = refl
row_found extent (t ∷ ts) name = of_bool (same_name t.name name) (row_found extent ts name)
  where
    of_bool : (b : Bool) → row_in (names_in ts) (map extent ts) name ≡ row_of extent (first_where (λ (u : NamedTy). same_name u.name name) ts)
        → row_at (extent t ∷ map extent ts) (if b then Some 0 else option_map (λ n. suc n) (number_where (λ n. same_name n name) (names_in ts))) ≡ row_of extent (if b then Some t else first_where (λ (u : NamedTy). same_name u.name name) ts)
    of_bool true go = refl
    of_bool false go = row_further (extent t) (map extent ts) (number_where (λ n. same_name n name) (names_in ts)) ∙ go

-- rows tell names that were replaced as often
rows_tell : (types : List NamedTy) (n : ℕ) (name : List ℕ) → Tells (row_in (names_in types) (rows_after types n) name) (named_shape types n name) (named_depth types n name)
unfolding rows_after
rows_tell types zero name = subst (λ e. Tells e nothing (named_depth types zero name)) (sym (row_found (λ t. record { size = 0; align = One; depth = MAX_NESTING + 1 }) types name)) (of_option (first_where (λ (t : NamedTy). same_name t.name name) types))
  where
    of_option : (o : Option NamedTy) → Tells (row_of (λ t. record { size = 0; align = One; depth = MAX_NESTING + 1 }) o) nothing (depth_or_none (λ ty. MAX_NESTING + 1) o)
    of_option (Some t) = (refl, refl, refl)
    of_option None = (refl, refl, refl)
rows_tell types (suc n) name =
    let extent = λ (t : NamedTy). extent_in (names_in types) (rows_after types n) t.fields in
    subst (λ e. Tells e (named_shape types (suc n) name) (named_depth types (suc n) name)) (sym (row_found extent types name))
    (of_option (first_where (λ (t : NamedTy). same_name t.name name) types) (λ ty. tells_ty (row_in (names_in types) (rows_after types n)) (named_shape types n) (named_depth types n) (rows_tell types n) ty))
  where
    of_option : (o : Option NamedTy) → ((ty : Ty) → Tells (extent_in (names_in types) (rows_after types n) ty) (fold-Ty Shape (shape_at (named_shape types n)) ty) (fold-Ty ℕ (depth_at (named_depth types n)) ty))
        → Tells (row_of (λ (t : NamedTy). extent_in (names_in types) (rows_after types n) t.fields) o) (shape_or_nothing (fold-Ty Shape (shape_at (named_shape types n))) o) (depth_or_none (fold-Ty ℕ (depth_at (named_depth types n))) o)
    of_option (Some t) go = go t.fields
    of_option None go = (refl, refl, refl)

-- before the first round
pub rows-zero : (types : List NamedTy) → first_rows types ≡ rows_after types 0
unfolding rows_after
rows-zero types = refl

-- after one more
pub rows-more : (types : List NamedTy) (n : ℕ) → next_rows types (rows_after types n) ≡ rows_after types (n + 1)
unfolding rows_after
rows-more types n = let s : n + 1 ≡ suc n = omega arith in sym (ap (rows_after types) s)

-- what the rows say of any type
all_tell : (types : List NamedTy) (ty : Ty) → Tells (extent_in (names_in types) (rows_after types MAX_NESTING) ty) (shape_of types ty) (depth_of types ty)
unfolding shape_of depth_of
all_tell types ty = tells_ty (row_in (names_in types) (rows_after types MAX_NESTING)) (named_shape types MAX_NESTING) (named_depth types MAX_NESTING) (rows_tell types MAX_NESTING) ty

-- its size
pub size_told : (types : List NamedTy) (ty : Ty) → (extent_in (names_in types) (rows_after types MAX_NESTING) ty).size ≡ size_count types ty
size_told types ty = (all_tell types ty).0

-- its depth
pub depth_told : (types : List NamedTy) (ty : Ty) → (extent_in (names_in types) (rows_after types MAX_NESTING) ty).depth ≡ depth_of types ty
depth_told types ty = (all_tell types ty).2

-- rounds change nothing more once one has changed nothing
rounds_settle : (types : List NamedTy) (n k : ℕ) → next_rows types (rows_after types n) ≡ rows_after types n → rows_after types (n + k) ≡ rows_after types n
unfolding rows_after
rounds_settle types n zero e = let z : n + 0 ≡ n = omega arith in ap (rows_after types) z
rounds_settle types n (suc k) e = let s : n + suc k ≡ suc (n + k) = omega arith in ap (rows_after types) s ∙ ap (next_rows types) (rounds_settle types n k e) ∙ e

-- so those so far are the last
pub rounds_done : (types : List NamedTy) (n : ℕ) → n ≤ MAX_NESTING → next_rows types (rows_after types n) ≡ rows_after types n → rows_after types n ≡ rows_after types MAX_NESTING
rounds_done types n within e = let s : n + (MAX_NESTING - n) ≡ MAX_NESTING = omega arith in sym (rounds_settle types n (MAX_NESTING - n) e) ∙ ap (rows_after types) s

-- sizes over rows that are those of the named types
pub size_over : (names : List (List ℕ)) (rows : List Extent) (types : List NamedTy) (ty : Ty) → names ≡ names_in types → rows ≡ rows_after types MAX_NESTING → (extent_in names rows ty).size ≡ size_count types ty
size_over names rows types ty n r = ap (λ ns. (extent_in ns rows ty).size) n ∙ ap (λ rs. (extent_in (names_in types) rs ty).size) r ∙ size_told types ty

-- depths
pub depth_over : (names : List (List ℕ)) (rows : List Extent) (types : List NamedTy) (ty : Ty) → names ≡ names_in types → rows ≡ rows_after types MAX_NESTING → (extent_in names rows ty).depth ≡ depth_of types ty
depth_over names rows types ty n r = ap (λ ns. (extent_in ns rows ty).depth) n ∙ ap (λ rs. (extent_in (names_in types) rs ty).depth) r ∙ depth_told types ty

-- rows that a round leaves as they are
pub settled : (types : List NamedTy) (n : ℕ) (rows next : List Extent) → rows ≡ rows_after types n → n ≤ MAX_NESTING → next ≡ next_rows types rows → next ≡ rows → rows ≡ rows_after types MAX_NESTING
settled types n rows next e within made same = e ∙ rounds_done types n within (sym (ap (next_rows types) e) ∙ sym made ∙ same ∙ e)
