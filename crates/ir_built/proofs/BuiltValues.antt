-- Values, initialisers, parameters and arguments that a small text says are built.
use Rattle.std.proofs.Common.{◌≡◌, ℕ, zero, suc, ◌^◌, ◌≤◌, Bool, true, List, [], ◌∷◌, length, map, refl, sym, ◌∙◌, ap, subst, arith}
use Rattle.std.specs.Prelude.{◌&&◌, nat_lt, nat_le}
use Rattle.std.specs.List.{list_all}
use Rattle.std.proofs.lemmas.Bool.{and_from, lt-ltb, le-leb}
use Rattle.ir_core.specs.declared.ty.Ty.{Ty}
use Rattle.ir_core.specs.declared.operand.Operand.{Operand}
use Rattle.ir_core.specs.declared.operand.Operand.TheVariants as operand
use Rattle.ir_core.specs.declared.operand.Place0.{Place0}
use Rattle.ir_core.specs.declared.operand.Index0.{Index0}
use Rattle.ir_core.specs.declared.instruction.Arg.{Arg}
use Rattle.ir_core.specs.declared.init.Init.{Init, fold-Init, roll-Init, fold-roll-Init}
use Rattle.ir_core.specs.declared.init.Init.TheVariants.{Value, Zero, Text, Array, Struct, Packed, rolls-Value, rolls-Zero, rolls-Text, rolls-Array, rolls-Struct, rolls-Packed}
use Rattle.ir_core.specs.declared.init.Init.TheOpen.{Init-F, Elem-F}
use Rattle.ir_core.specs.declared.init.Init.TheFolds.{map-Init}
use Rattle.ir_core.specs.declared.init.Elem.{Elem, fold-Elem, fold-roll-Elem}
use Rattle.ir_core.specs.declared.limit.TheConstants.{MAX_NESTING}
use Rattle.ir_core.specs.Counts.{deepest}
use Rattle.ir_core.specs.Built.{built_all, name_built, int_built, type_built, index_built, operand_built, arg_built, case_value_built, value_built, init_built_at, init_depth_at, init_built}
use Rattle.ir_grammar.specs.Grammar.{Grammar}
use Rattle.ir_syntax.specs.Values.{const_value, plain_value, place_index, place, fixed_value, value}
use Rattle.ir_syntax.specs.Initialisers.{element, simple_init, array_init, struct_init, packed_init, deep_init, init_at, init}
use Rattle.ir_syntax.specs.Parameters.{declared_param, declared_params, arg, args}
use Rattle.ir_built.proofs.Always.{Always, Passes, given, with_such, with, before, one_of_two, weaker, FewEach, Each, built_each, worded, several, comma_before, commas}
use Rattle.ir_built.proofs.BuiltTypes.{local_always, global_always, int_always, string_always, type_always}

-- constants
pub const_always : Passes const_value case_value_built
unfolding const_value
const_always = one_of_two (with int_built (given operand.Int (λ n h. h)) int_always) (one_of_two (worded refl) (worded refl))

const_fixed : (v : Operand) → case_value_built v ≡ true → value_built v ≡ true
const_fixed (operand.Int n) h = h
const_fixed (operand.Bool b) h = refl
const_fixed operand.Null h = absurd (cc)
const_fixed operand.Undef h = absurd (cc)
const_fixed operand.Poison h = absurd (cc)
const_fixed (operand.Local name) h = absurd (cc)
const_fixed (operand.Global name) h = absurd (cc)
const_fixed (operand.Const p) h = absurd (cc)

plain_always : Passes plain_value value_built
unfolding plain_value
plain_always =
    one_of_two (weaker (λ v. case_value_built v ≡ true) const_always const_fixed)
    (one_of_two (one_of_two (worded refl) (one_of_two (worded refl) (worded refl))) (with name_built (given operand.Global (λ name h. h)) global_always))

-- places
abbrev pub place_built : Place0 → Bool
place_built p = operand_built (operand.Const p)

index_always : Passes place_index index_built
unfolding place_index
index_always = with int_built (with type_built (given _ (λ t h n k. and_from (type_built t) (int_built n) h k)) type_always) int_always

abbrev make_place : Ty → List ℕ → List Index0 → Place0
make_place t g is = record { source = t; base = g; indices = is }

abbrev pub IndexBuilt : Index0 → Type 0
IndexBuilt i = index_built i ≡ true

place_of : (t : Ty) → type_built t ≡ true → (g : List ℕ) → name_built g ≡ true → (is : List Index0) → FewEach IndexBuilt is → place_built (make_place t g is) ≡ true
place_of t h g k is all =
    and_from (type_built t) (name_built g && built_all index_built is) h (and_from (name_built g) (built_all index_built is) k (built_each index_built is all))

place_always : Passes place place_built
unfolding place
place_always =
    before
    (with_such (FewEach IndexBuilt)
    (with name_built (before (before (with type_built (before (before (before (given make_place place_of)))) type_always))) global_always)
    (several refl (comma_before index_always)))

pub fixed_always : Passes fixed_value value_built
unfolding fixed_value
fixed_always = one_of_two plain_always (with place_built (given operand.Const (λ p h. h)) place_always)

fixed_operand : (v : Operand) → value_built v ≡ true → operand_built v ≡ true
fixed_operand (operand.Int n) h = h
fixed_operand (operand.Bool b) h = refl
fixed_operand operand.Null h = refl
fixed_operand operand.Undef h = refl
fixed_operand operand.Poison h = refl
fixed_operand (operand.Local name) h = absurd (cc)
fixed_operand (operand.Global name) h = h
fixed_operand (operand.Const p) h = h

pub value_always : Passes value operand_built
unfolding value
value_always =
    one_of_two (weaker (λ v. value_built v ≡ true) plain_always fixed_operand)
    (one_of_two (with name_built (given operand.Local (λ name h. h)) local_always) (with place_built (given operand.Const (λ p h. h)) place_always))

-- parameters of declarations, and arguments
abbrev pub TypeBuilt : Ty → Type 0
TypeBuilt t = type_built t ≡ true

abbrev pub ArgBuilt : Arg → Type 0
ArgBuilt a = arg_built a ≡ true

declared_param_always : Always declared_param TypeBuilt
unfolding declared_param
declared_param_always = before (before (with type_built (given _ (λ t h. h)) type_always))

pub declared_params_always : Passes declared_params (built_all type_built)
unfolding declared_params
declared_params_always = with_such (FewEach TypeBuilt) (before (given _ (λ ts h. built_each type_built ts h))) (commas 41 declared_param_always)

arg_always : Always arg ArgBuilt
unfolding arg
arg_always = with operand_built (before (with type_built (given _ (λ t h v k. and_from (type_built t) (operand_built v) h k)) type_always)) value_always

pub args_always : Passes args (built_all arg_built)
unfolding args
args_always = with_such (FewEach ArgBuilt) (before (given _ (λ vs h. built_each arg_built vs h))) (commas 41 arg_always)

-- initialisers of so many levels at most
abbrev elem_built_at : Elem-F Bool Bool → Bool
elem_built_at e = type_built e.ty && e.init

abbrev elem_depth_at : Elem-F ℕ ℕ → ℕ
elem_depth_at e = e.init

abbrev init_parts : Init → Bool
init_parts = fold-Init Bool Bool init_built_at elem_built_at

abbrev elem_parts : Elem → Bool
elem_parts = fold-Elem Bool Bool init_built_at elem_built_at

abbrev init_depth : Init → ℕ
init_depth = fold-Init ℕ ℕ init_depth_at elem_depth_at

abbrev elem_depth : Elem → ℕ
elem_depth = fold-Elem ℕ ℕ init_depth_at elem_depth_at

abbrev InitWithin : ℕ → Init → Type 0
InitWithin n i = (init_parts i ≡ true) × (init_depth i ≤ n)

abbrev ElemWithin : ℕ → Elem → Type 0
ElemWithin n e = (elem_parts e ≡ true) × (elem_depth e ≤ n)

rolled : (n : ℕ) (y : Init-F Init Elem) → init_built_at (map-Init Init Elem Bool Bool init_parts elem_parts y) ≡ true → init_depth_at (map-Init Init Elem ℕ ℕ init_depth elem_depth y) ≤ n
    → InitWithin n (roll-Init y)
rolled n y h d = (fold-roll-Init Bool Bool init_built_at elem_built_at y ∙ h, subst (λ k. k ≤ n) (sym (fold-roll-Init ℕ ℕ init_depth_at elem_depth_at y)) d)

value_within : (n : ℕ) (v : Operand) → value_built v ≡ true → InitWithin n (Value v)
value_within n v h = subst (InitWithin n) (rolls-Value v) (rolled n (Init-F.Value v) h (omega arith))

zero_within : (n : ℕ) → InitWithin n Zero
zero_within n = subst (InitWithin n) rolls-Zero (rolled n Init-F.Zero refl (omega arith))

text_within : (n : ℕ) (bs : List ℕ) → built_all (λ b. nat_lt b 256) bs ≡ true → InitWithin n (Text bs)
text_within n bs h = subst (InitWithin n) (rolls-Text bs) (rolled n (Init-F.Text bs) h (omega arith))

abbrev make_elem : Ty → Init → Elem
make_elem t i = record { ty = t; init = i }

elem_within : (n : ℕ) (t : Ty) (i : Init) → type_built t ≡ true → InitWithin n i → ElemWithin n (make_elem t i)
elem_within n t i h x = (
  fold-roll-Elem Bool Bool init_built_at elem_built_at (record { ty = t; init = i }) ∙ and_from (type_built t) (init_parts i) h x.0,
  subst (λ k. k ≤ n) (sym (fold-roll-Elem ℕ ℕ init_depth_at elem_depth_at (record { ty = t; init = i }))) x.1,
)

elems_all : (n : ℕ) (es : List Elem) → Each (ElemWithin n) es → list_all (λ b. b) (map elem_parts es) ≡ true
elems_all n [] h = refl
elems_all n (e ∷ es) h = and_from (elem_parts e) (list_all (λ b. b) (map elem_parts es)) h.0.0 (elems_all n es h.1)

deepest_elem : (n : ℕ) (es : List Elem) → Each (ElemWithin n) es → deepest (map elem_depth es) ≤ n
deepest_elem n [] h = omega arith
deepest_elem n (e ∷ es) h = let low : elem_depth e ≤ n = h.0.1 in let more = deepest_elem n es h.1 in omega arith

length-elems : (es : List Elem) → length (map elem_parts es) ≡ length es
length-elems [] = refl
length-elems (e ∷ es) = ap suc (length-elems es)

elems_built : (n : ℕ) (es : List Elem) → FewEach (ElemWithin n) es → built_all (λ b. b) (map elem_parts es) ≡ true
elems_built n es h =
    and_from (nat_lt (length (map elem_parts es)) (2 ^ 32)) (list_all (λ b. b) (map elem_parts es))
    (ap (λ k. nat_lt k (2 ^ 32)) (length-elems es) ∙ lt-ltb (length es) (2 ^ 32) h.0) (elems_all n es h.1)

array_within : (n : ℕ) (es : List Elem) → FewEach (ElemWithin n) es → InitWithin (suc n) (Array es)
array_within n es h = let low = deepest_elem n es h.1 in subst (InitWithin (suc n)) (rolls-Array es) (rolled (suc n) (Init-F.Array es) (elems_built n es h) (omega arith))

struct_within : (n : ℕ) (es : List Elem) → FewEach (ElemWithin n) es → InitWithin (suc n) (Struct es)
struct_within n es h = let low = deepest_elem n es h.1 in subst (InitWithin (suc n)) (rolls-Struct es) (rolled (suc n) (Init-F.Struct es) (elems_built n es h) (omega arith))

packed_within : (n : ℕ) (es : List Elem) → FewEach (ElemWithin n) es → InitWithin (suc n) (Packed es)
packed_within n es h = let low = deepest_elem n es h.1 in subst (InitWithin (suc n)) (rolls-Packed es) (rolled (suc n) (Init-F.Packed es) (elems_built n es h) (omega arith))

-- by the grammar
simple_always : (n : ℕ) → Always simple_init (InitWithin n)
unfolding simple_init
simple_always n =
    one_of_two (with value_built (given Value (value_within n)) fixed_always)
    (one_of_two (before (given Zero (zero_within n))) (with (built_all (λ b. nat_lt b 256)) (given Text (text_within n)) string_always))

module _ (n : ℕ) (g : Grammar Init) (x : Always g (InitWithin n)) where
  element_always : Always (element g) (ElemWithin n)
  unfolding element
  element_always = with_such (InitWithin n) (with type_built (given make_elem (λ t h i k. elem_within n t i h k)) type_always) x

  array_always : Always (array_init g) (InitWithin (suc n))
  unfolding array_init
  array_always = with_such (FewEach (ElemWithin n)) (before (given Array (array_within n))) (commas 93 element_always)

  struct_always : Always (struct_init g) (InitWithin (suc n))
  unfolding struct_init
  struct_always = with_such (FewEach (ElemWithin n)) (before (given Struct (struct_within n))) (commas 125 element_always)

  packed_always : Always (packed_init g) (InitWithin (suc n))
  unfolding packed_init
  packed_always = before (with_such (FewEach (ElemWithin n)) (before (before (given Packed (packed_within n)))) (commas 125 element_always))

  deep_always : Always (deep_init g) (InitWithin (suc n))
  unfolding deep_init
  deep_always = one_of_two array_always (one_of_two struct_always packed_always)

level_always : (n : ℕ) → Always (init_at n) (InitWithin n)
unfolding init_at
level_always zero = simple_always zero
level_always (suc n) = one_of_two (simple_always (suc n)) (deep_always n (init_at n) (level_always n))

within_built : (i : Init) → InitWithin 64 i → init_built i ≡ true
unfolding init_built
within_built i h = and_from (init_parts i) (nat_le (init_depth i) MAX_NESTING) h.0 (le-leb (init_depth i) MAX_NESTING h.1)

pub init_always : Passes init init_built
unfolding init
init_always = weaker (InitWithin 64) (level_always 64) within_built
