-- The first count past a limit, one list behind another, and what each mention adds.
use Rattle.std.proofs.Common.{arith, ◌≡◌, ℕ, zero, suc, Bool, true, false, List, [], ◌∷◌, ◌++◌, ◌+◌, ◌<◌, ◌≤◌, length, get_or, drop, map, Option, Some, None, refl, ap, sym, ◌∙◌, if◌then◌else◌}
use Rattle.std.specs.Prelude.{filter, nat_lt, slice_get, option_map}
use Rattle.std.specs.Option.{option_or}
use Rattle.std.specs.List.{flat_map}
use Rattle.std.proofs.lemmas.Bool.{lt-ltb, le-ltb}
use Rattle.std.proofs.lemmas.List.{append-nil, map-append}
use Rattle.std.proofs.lemmas.Grind.{flat_map-append}
use Rattle.ir_core.specs.declared.limit.Limit.{Limit}
use Rattle.ir_core.specs.declared.ty.Ty.{Ty}
use Rattle.ir_core.specs.declared.operand.Operand.{Operand}
use Rattle.ir_core.specs.declared.operand.Operand.TheVariants.{Global}
use Rattle.ir_core.specs.declared.module.Module.{Module}
use Rattle.ir_core.specs.declared.limit.TheConstants.{MAX_NESTING, MAX_SIZE}
use Rattle.ir_core.specs.Counts.{depth_of, size_count}
use Rattle.ir_core.proofs.LoopLaws.{drop_item, flat_drop}
use Rattle.ir_core.specs.Mentions.{Mention, OfType, OfLabel, OfLocal, OfCallee, OfBase, OfSymbol, types_in, parts_of, mentions, written_types, of_operand, of_callee}
use Rattle.ir_core.proofs.WrittenTypes.{parts-int, parts-ptr, parts-void, parts-named, parts-array, parts-struct, parts-packed}
use Rattle.ir_core.specs.Refusals.{Fault, Limited, past}
use Rattle.ir_limits.specs.Past.{first_past, measured_by, most_by, past_types, past_in}
use Rattle.ir_limits.specs.declared.gauge.Gauge.{Gauge}
use Rattle.ir_limits.specs.declared.gauge.Measure.TheVariants.{Depth, Bytes}
use Rattle.ir_core.proofs.InitRules.{mentions-value, mentions-zero, mentions-text, mentions-array, mentions-struct, mentions-packed}
use Rattle.std.proofs.Math.Seq.{drop-nil}

-- the first of two lists
pub first_append : {S : Type 0} (xs ys : List S) → slice_get (xs ++ ys) 0 ≡ option_or (slice_get xs 0) (slice_get ys 0)
first_append [] ys = refl
first_append (x ∷ xs) ys = refl

-- what passes in two lists
filter_append : (p : ℕ → Bool) (xs ys : List ℕ) → filter p (xs ++ ys) ≡ filter p xs ++ filter p ys
filter_append p [] ys = refl
filter_append p (x ∷ xs) ys = of_bool (p x) (filter_append p xs ys)
  where
    of_bool : (b : Bool) → filter p (xs ++ ys) ≡ filter p xs ++ filter p ys → (if b then x ∷ filter p (xs ++ ys) else filter p (xs ++ ys)) ≡ (if b then x ∷ filter p xs else filter p xs) ++ filter p ys
    of_bool true e = ap (λ zs. x ∷ zs) e
    of_bool false e = e

-- no count
pub first_past-none : (most : ℕ) → first_past most [] ≡ None
unfolding first_past
first_past-none most = refl

-- one count that is past the limit
pub first_past-over : (most n : ℕ) → most < n → Some n ≡ first_past most (n ∷ [])
unfolding first_past
first_past-over most n over = sym (ap (λ b. slice_get (if b then n ∷ [] else []) 0) (lt-ltb most n over))

-- one that isn't
pub first_past-kept : (most n : ℕ) → n ≤ most → None ≡ first_past most (n ∷ [])
unfolding first_past
first_past-kept most n kept = sym (ap (λ b. slice_get (if b then n ∷ [] else []) 0) (le-ltb most n kept))

-- counts behind others
pub first_past-append : (most : ℕ) (xs ys : List ℕ) → first_past most (xs ++ ys) ≡ option_or (first_past most xs) (first_past most ys)
unfolding first_past
first_past-append most xs ys = ap (λ zs. slice_get zs 0) (filter_append (λ n. nat_lt most n) xs ys) ∙ first_append (filter (λ n. nat_lt most n) xs) (filter (λ n. nat_lt most n) ys)

-- one count in front of others
pub first_past-cons : (most n : ℕ) (ns : List ℕ) → first_past most (n ∷ ns) ≡ option_or (first_past most (n ∷ [])) (first_past most ns)
first_past-cons most n ns = first_past-append most (n ∷ []) ns

-- no type
pub past_types-none : (g : Gauge) → past_types g [] ≡ None
unfolding past_types
past_types-none g = first_past-none (most_by g.measure)

-- one type
pub past_types-one : (g : Gauge) (ty : Ty) → past_types g (ty ∷ []) ≡ first_past (most_by g.measure) (measured_by g.measure g.sizes.now ty ∷ [])
unfolding past_types
past_types-one g ty = refl

-- types behind others
pub past_types-append : (g : Gauge) (xs ys : List Ty) → past_types g (xs ++ ys) ≡ option_or (past_types g xs) (past_types g ys)
unfolding past_types
past_types-append g xs ys =
    ap (first_past (most_by g.measure)) (map-append (measured_by g.measure g.sizes.now) xs ys)
    ∙ first_past-append (most_by g.measure) (map (measured_by g.measure g.sizes.now) xs) (map (measured_by g.measure g.sizes.now) ys)

-- one type in front of others
pub past_types-cons : (g : Gauge) (ty : Ty) (tys : List Ty) → past_types g (ty ∷ tys) ≡ option_or (first_past (most_by g.measure) (measured_by g.measure g.sizes.now ty ∷ [])) (past_types g tys)
past_types-cons g ty tys = past_types-append g (ty ∷ []) tys ∙ ap (λ o. option_or o (past_types g tys)) (past_types-one g ty)

-- nothing is mentioned
pub past_in-none : (g : Gauge) → past_in g [] ≡ None
unfolding past_in
past_in-none g = past_types-none g

-- mentions behind others
pub past_in-append : (g : Gauge) (xs ys : List Mention) → past_in g (xs ++ ys) ≡ option_or (past_in g xs) (past_in g ys)
unfolding past_in
past_in-append g xs ys = ap (past_types g) (flat_map-append types_in xs ys) ∙ past_types-append g (flat_map types_in xs) (flat_map types_in ys)

-- a type in front of other mentions
pub past_in-type : (g : Gauge) (ty : Ty) (ms : List Mention) → past_in g (OfType ty ∷ ms) ≡ option_or (past_types g (parts_of ty)) (past_in g ms)
unfolding past_in
past_in-type g ty ms = past_types-append g (parts_of ty) (flat_map types_in ms)

-- names have no types
pub past_in-label : (g : Gauge) (name : List ℕ) (ms : List Mention) → past_in g (OfLabel name ∷ ms) ≡ past_in g ms
unfolding past_in
past_in-label g name ms = refl

pub past_in-local : (g : Gauge) (name : List ℕ) (ms : List Mention) → past_in g (OfLocal name ∷ ms) ≡ past_in g ms
unfolding past_in
past_in-local g name ms = refl

pub past_in-callee : (g : Gauge) (name : List ℕ) (ms : List Mention) → past_in g (OfCallee name ∷ ms) ≡ past_in g ms
unfolding past_in
past_in-callee g name ms = refl

pub past_in-base : (g : Gauge) (name : List ℕ) (ms : List Mention) → past_in g (OfBase name ∷ ms) ≡ past_in g ms
unfolding past_in
past_in-base g name ms = refl

pub past_in-symbol : (g : Gauge) (name : List ℕ) (ms : List Mention) → past_in g (OfSymbol name ∷ ms) ≡ past_in g ms
unfolding past_in
past_in-symbol g name ms = refl

-- what is called has the types of an operand
pub past_in-called : (g : Gauge) (a : Operand) → past_in g (of_callee a) ≡ past_in g (of_operand a)
past_in-called g (Global name) = past_in-callee g name [] ∙ sym (past_in-symbol g name [])
past_in-called g other = refl

-- one mention of each item
map_flat : {X Y : Type 0} (f : X → Y) (xs : List X) → map f xs ≡ flat_map (λ x. f x ∷ []) xs
map_flat f [] = refl
map_flat f (x ∷ xs) = ap (λ ys. f x ∷ ys) (map_flat f xs)

pub past_in-map : {X : Type 0} (g : Gauge) (f : X → Mention) (xs : List X) → past_in g (map f xs) ≡ past_in g (flat_map (λ x. f x ∷ []) xs)
past_in-map g f xs = ap (past_in g) (map_flat f xs)

-- one count of each item
pub first_past-map : {X : Type 0} (most : ℕ) (f : X → ℕ) (xs : List X) → first_past most (map f xs) ≡ first_past most (flat_map (λ x. f x ∷ []) xs)
first_past-map most f xs = ap (first_past most) (map_flat f xs)

-- the refusal of a limit
pub past-first : (which : Limit) (most : ℕ) (counts : List ℕ) → slice_get (past which most counts) 0 ≡ option_map (λ n. Limited which n) (first_past most counts)
unfolding first_past
past-first which most counts = mapped (filter (λ n. nat_lt most n) counts)
  where
    mapped : (ns : List ℕ) → slice_get (map (λ n. Limited which n) ns) 0 ≡ option_map (λ n. Limited which n) (slice_get ns 0)
    mapped [] = refl
    mapped (n ∷ ns) = refl

-- past the end nothing is left
drop_past : {X : Type 0} (xs : List X) (i : ℕ) → length xs ≤ i → drop i xs ≡ []
drop_past [] i past = drop-nil i
drop_past (x ∷ xs) zero past = absurd (omega arith)
drop_past (x ∷ xs) (suc i) past = drop_past xs i (omega arith)

-- a loop over items, of each of which something is asked: the first of what is left is that of all
module _ {X A : Type 0} (first : List A → Option ℕ) (append : (xs ys : List A) → first (xs ++ ys) ≡ option_or (first xs) (first ys)) (asked : X → List A) (xs : List X) (i : ℕ) (whole : Option ℕ) (so_far : first (flat_map asked (drop i xs)) ≡ whole) where
  -- the first of the item, or else of those behind it
  here : (x : X) → i < length xs → x ≡ get_or xs i x → option_or (first (asked x)) (first (flat_map asked (drop (i + 1) xs))) ≡ whole
  here x inside item = sym (append (asked x) (flat_map asked (drop (i + 1) xs))) ∙ sym (ap first (flat_drop xs i x inside item asked)) ∙ so_far

  -- one of the item is the first
  pub found : (x : X) → i < length xs → x ≡ get_or xs i x → (n : ℕ) → Some n ≡ first (asked x) → Some n ≡ whole
  found x inside item n e = ap (λ o. option_or o (first (flat_map asked (drop (i + 1) xs)))) e ∙ here x inside item

  -- without one it is that of the rest
  pub passed : (x : X) → i < length xs → x ≡ get_or xs i x → None ≡ first (asked x) → first (flat_map asked (drop (i + 1) xs)) ≡ whole
  passed x inside item e = ap (λ o. option_or o (first (flat_map asked (drop (i + 1) xs)))) e ∙ here x inside item

  -- once nothing is left there is none
  pub ended : length xs ≤ i → first [] ≡ None → None ≡ whole
  ended past none = sym none ∙ sym (ap (λ ys. first (flat_map asked ys)) (drop_past xs i past)) ∙ so_far

-- a loop over items with one count each
module _ {X : Type 0} (most : ℕ) (count : X → ℕ) (xs : List X) (i : ℕ) (whole : Option ℕ) (so_far : first_past most (map count (drop i xs)) ≡ whole) where
  of_one : X → List ℕ
  of_one x = count x ∷ []

  left : first_past most (flat_map of_one (drop i xs)) ≡ whole
  unfolding of_one
  left = sym (first_past-map most count (drop i xs)) ∙ so_far

  -- one that is past the limit is the first
  pub count_found : (x : X) → i < length xs → x ≡ get_or xs i x → (n : ℕ) → Some n ≡ first_past most (count x ∷ []) → Some n ≡ whole
  unfolding of_one
  count_found = found (first_past most) (first_past-append most) of_one xs i whole left

  -- without one it is that of the rest
  pub count_passed : (x : X) → i < length xs → x ≡ get_or xs i x → None ≡ first_past most (count x ∷ []) → first_past most (map count (drop (i + 1) xs)) ≡ whole
  unfolding of_one
  count_passed x inside item e = first_past-map most count (drop (i + 1) xs) ∙ passed (first_past most) (first_past-append most) of_one xs i whole left x inside item e

  -- once nothing is left there is none
  pub count_ended : length xs ≤ i → None ≡ whole
  count_ended past = ended (first_past most) (first_past-append most) of_one xs i whole left past (first_past-none most)

-- by depth the first is that of the limit of nesting
pub past-depth : (g : Gauge) (m : Module) → g.measure ≡ Depth → g.sizes.now ≡ m.types → past_in g (mentions m) ≡ first_past MAX_NESTING (map (depth_of m.types) (written_types m))
unfolding past_in past_types
past-depth g m w t =
    ap (λ v. first_past (most_by v) (map (measured_by v g.sizes.now) (written_types m))) w
    ∙ ap (λ types. first_past MAX_NESTING (map (depth_of types) (written_types m))) t

-- by bytes that of the limit of sizes
pub past-bytes : (g : Gauge) (m : Module) → g.measure ≡ Bytes → g.sizes.now ≡ m.types → past_in g (mentions m) ≡ first_past MAX_SIZE (map (size_count m.types) (written_types m))
unfolding past_in past_types
past-bytes g m w t =
    ap (λ v. first_past (most_by v) (map (measured_by v g.sizes.now) (written_types m))) w
    ∙ ap (λ types. first_past MAX_SIZE (map (size_count types) (written_types m))) t

-- a count against a limit
pub ruleset limit_laws = (first_past-over, first_past-kept)

-- what a walk over mentions meets
pub ruleset mention_laws = (past_in-none, past_in-append, past_in-type, past_in-label, past_in-local, past_in-callee, past_in-base, past_in-symbol, past_in-called, past_in-map)

-- what a walk over counts meets
pub ruleset count_laws = (first_past-none, first_past-append, first_past-cons, first_past-map)

-- what a walk into a type meets
pub ruleset part_laws = (parts-int, parts-ptr, parts-void, parts-named, parts-array, parts-struct, parts-packed, past_types-none, past_types-cons, past_types-append)

-- what a walk into an initialiser meets
pub ruleset init_laws = (past_in-none, past_in-type, mentions-value, mentions-zero, mentions-text, mentions-array, mentions-struct, mentions-packed)
