-- A path leads as far as the indices that it stands for.
use Rattle.std.proofs.Common.{◌≡◌, ℕ, zero, suc, ◌+◌, ◌*◌, ◌-◌, ◌%◌, ◌^◌, ◌<◌, ◌≤◌, Bool, true, false, List, [], ◌∷◌, ◌++◌, map, take, Option, Some, None, Ok, Err, refl, ap, sym, ◌∙◌, subst, arith, if◌then◌else◌}
use Rattle.std.specs.Prelude.{option_map, slice_get, nat_lt}
use Rattle.std.proofs.lemmas.List.{append-nil, append_assoc}
use Rattle.std.proofs.lemmas.Nat.{mul-mod_first}
use Rattle.rd_num.specs.declared.width.Width.{Width}
use Rattle.rd_num.specs.declared.width.Width.TheVariants.{W1, W8, W16, W32, W64}
use Rattle.rd_num.specs.Number.{bits}
use Rattle.ir_core.specs.declared.limit.TheConstants.{MAX_NESTING, MAX_SIZE}
use Rattle.ir_core.specs.declared.ty.Ty.{Ty, fold-Ty, roll-Ty, out-Ty, roll-out-Ty, fold-roll-Ty}
use Rattle.ir_core.specs.declared.ty.Ty.TheVariants.{Array, Struct, Packed, rolls-Array, rolls-Struct, rolls-Packed}
use Rattle.ir_core.specs.declared.ty.Ty.TheOpen.{Ty-F}
use Rattle.ir_core.specs.declared.ty.Ty.TheFolds.{map-Ty}
use Rattle.ir_core.specs.declared.ty.NamedTy.{NamedTy}
use Rattle.ir_core.specs.declared.memory.Value.{Value}
use Rattle.ir_core.specs.declared.memory.Value.TheVariants.{Num, Null, At, Fun}
use Rattle.ir_core.specs.Names.{same_name, first_where}
use Rattle.ir_core.specs.Stops.{Stop, Answer, and_then, found_or}
use Rattle.ir_core.specs.Stops as stop
use Rattle.ir_core.specs.Kinds.{signed_word}
use Rattle.ir_core.specs.Shapes.{Shape, struct, unaligned, part_of_array, part_of_struct, part_of_field, shape_at, shape_or_nothing, named_shape, shape_of}
use Rattle.ir_core.specs.Counts.{size_count}
use Rattle.ir_core.specs.Operands.{index_word, index_words}
use Rattle.ir_core.proofs.Types.{shape-array, shape-struct, shape-packed}
use Rattle.ir_core.specs.Words.{low_word}
use Rattle.ir_context.specs.declared.origin.Origin.{Origin}
use Rattle.ir_context.specs.declared.origin.Origin.TheVariants.{Known, Register, Unset, Malformed}
use Rattle.ir_context.specs.declared.path.Path.{Path}
use Rattle.ir_context.specs.declared.path.Stride.{Stride}
use Rattle.ir_context.specs.Extents.{extent_of, field_place}
use Rattle.ir_context.specs.Paths.{empty_path, farther, with_stride, by_word, over_elements, into_found, into_number, into_field, into_type, onward, path_into, path_of}
use Rattle.ir_context.specs.Reads.{origin_value, origin_values, stride_values, stride_bytes, IsWide, AreWide}
use Rattle.ir_context.specs.Small.{IsSmall, FieldsAreSmall}
use Rattle.ir_context.proofs.ShapeLaws.{tells, laid, part_field, place_is}
use Rattle.ir_context.proofs.OpenLaws.{opens, elements_small, field_small, packed_small, struct_size, packed_size, size_small}

-- two answers of which only the lowest 64 bits count, each behind a number of bytes
shifted : (k x y z : ℕ) → x % 2 ^ 64 ≡ (y + z) % 2 ^ 64 → (k + x) % 2 ^ 64 ≡ (k + y + z) % 2 ^ 64
shifted k x y z e = omega arith

-- answers are one value, or one stop
ok_is : {A : Type 0} (a b : A) → let x : Answer A = Ok a in x ≡ Ok b → a ≡ b
ok_is a b e = cc

-- what is found behind some bytes
shift_found : (k c by : ℕ) (o : Option ℕ) → low_word (found_or stop.Malformed o) ≡ low_word (Ok (c + by)) → low_word (found_or stop.Malformed (option_map (λ at. k + at) o)) ≡ low_word (Ok (k + c + by))
shift_found k c by None e = absurd (cc)
shift_found k c by (Some at) e = let low : at % 2 ^ 64 ≡ (c + by) % 2 ^ 64 = ok_is (at % 2 ^ 64) ((c + by) % 2 ^ 64) e in let n = shifted k at c by low in ap (λ (x : ℕ). let a : Answer ℕ = Ok x in a) n

-- or the stop
stop_found : (k : ℕ) (o : Option ℕ) (s : Stop) → low_word (found_or stop.Malformed o) ≡ Err s → low_word (found_or stop.Malformed (option_map (λ at. k + at) o)) ≡ Err s
stop_found k None s e = e
stop_found k (Some at) s e = absurd (cc)

-- a part behind some bytes, for words that are read
shift : (k c : ℕ) (part : List ℕ → Option ℕ) (words : Answer (List ℕ)) (bytes : Answer ℕ) → low_word (and_then words (λ ns. found_or stop.Malformed (part ns))) ≡ low_word (and_then bytes (λ by. Ok (c + by)))
    → low_word (and_then words (λ ns. found_or stop.Malformed (option_map (λ at. k + at) (part ns)))) ≡ low_word (and_then bytes (λ by. Ok (k + c + by)))
shift k c part (Ok ns) (Ok by) e = shift_found k c by (part ns) e
shift k c part (Ok ns) (Err s) e = stop_found k (part ns) s e
shift k c part (Err s) (Ok by) e = absurd (cc)
shift k c part (Err s) (Err t) e = e

-- the values of indices, and those of the strides that stand for them: both stop so, or they lead equally far into something
abbrev pub Meets : Answer (List Value) → Answer (List Value) → (List ℕ → Option ℕ) → ℕ → List Stride → Type 0
Meets (Err s) (Err t) part c new = s ≡ t
Meets (Err s) (Ok ws) part c new = ⊥
Meets (Ok vs) (Err t) part c new = ⊥
Meets (Ok vs) (Ok ws) part c new = low_word (and_then (index_words vs) (λ ns. found_or stop.Malformed (part ns))) ≡ low_word (and_then (stride_bytes new ws) (λ by. Ok (c + by)))

-- one more value in front
abbrev in_front : Value → Answer (List Value) → Answer (List Value)
in_front v a = and_then a (λ vs. Ok (v ∷ vs))

module _ (part whole : List ℕ → Option ℕ) (n k c : ℕ) (new : List Stride) (into : (ns : List ℕ) → whole (n ∷ ns) ≡ option_map (λ at. k + at) (part ns)) where
  -- words behind one that is known
  behind : (words : Answer (List ℕ)) → low_word (and_then (and_then words (λ ns. let a : Answer (List ℕ) = Ok (n ∷ ns) in a)) (λ ns. found_or stop.Malformed (whole ns))) ≡ low_word (and_then words (λ ns. found_or stop.Malformed (option_map (λ at. k + at) (part ns))))
  behind (Ok ns) = ap (λ o. low_word (found_or stop.Malformed o)) (into ns)
  behind (Err s) = refl

  -- they lead so many bytes farther
  farther_on : (words : Answer (List ℕ)) (bytes : Answer ℕ) → low_word (and_then words (λ ns. found_or stop.Malformed (part ns))) ≡ low_word (and_then bytes (λ by. Ok (c + by)))
      → low_word (and_then (and_then words (λ ns. let a : Answer (List ℕ) = Ok (n ∷ ns) in a)) (λ ns. found_or stop.Malformed (whole ns))) ≡ low_word (and_then bytes (λ by. Ok (k + c + by)))
  farther_on words bytes e = behind words ∙ shift k c part words bytes e

  -- an index that is known, and those behind it
  meets_known : (v : Value) → index_word v ≡ Ok n → (a b : Answer (List Value)) → Meets a b part c new → Meets (in_front v a) b whole (k + c) new
  meets_known v word (Err s) (Err t) m = m
  meets_known v word (Err s) (Ok ws) m = absurd m
  meets_known v word (Ok vs) (Err t) m = absurd m
  meets_known v word (Ok vs) (Ok ws) m =
      ap (λ (a : Answer ℕ). low_word (and_then (and_then a (λ x. and_then (index_words vs) (λ ns. Ok (x ∷ ns)))) (λ ns. found_or stop.Malformed (whole ns)))) word
      ∙ farther_on (index_words vs) (stride_bytes new ws) m

-- bytes of an index in front of those of others
regrouped : (k c : ℕ) (bytes : Answer ℕ) → low_word (and_then bytes (λ by. Ok (k + c + by))) ≡ low_word (and_then (and_then bytes (λ by. let a : Answer ℕ = Ok (k + by) in a)) (λ by. Ok (c + by)))
regrouped k c (Ok by) = let e : k + c + by ≡ c + (k + by) = omega arith in ap (λ (x : ℕ). let a : Answer ℕ = Ok (x % 2 ^ 64) in a) e
regrouped k c (Err s) = refl

module _ (part : List ℕ → Option ℕ) (size : ℕ) (whole : List ℕ → Option ℕ) (c : ℕ) (index : Origin) (new : List Stride) (into : (n : ℕ) (ns : List ℕ) → whole (n ∷ ns) ≡ option_map (λ at. n * size + at) (part ns)) where
  -- an index that is read, and those behind it
  read_on : (word : Answer ℕ) (words : Answer (List ℕ)) (bytes : Answer ℕ) → low_word (and_then words (λ ns. found_or stop.Malformed (part ns))) ≡ low_word (and_then bytes (λ by. Ok (c + by)))
      → low_word (and_then (and_then word (λ x. and_then words (λ ns. let a : Answer (List ℕ) = Ok (x ∷ ns) in a))) (λ ns. found_or stop.Malformed (whole ns)))
      ≡ low_word (and_then (and_then word (λ x. and_then bytes (λ by. let a : Answer ℕ = Ok (x * size + by) in a))) (λ by. Ok (c + by)))
  read_on (Err s) words bytes e = refl
  read_on (Ok n) words bytes e = farther_on part whole n (n * size) c new (into n) words bytes e ∙ regrouped (n * size) c bytes

  -- both are read
  meets_both : (v : Value) (a b : Answer (List Value)) → Meets a b part c new → Meets (in_front v a) (in_front v b) whole c ((record { index = index; size = size }) ∷ new)
  meets_both v (Err s) (Err t) m = m
  meets_both v (Err s) (Ok ws) m = absurd m
  meets_both v (Ok vs) (Err t) m = absurd m
  meets_both v (Ok vs) (Ok ws) m = read_on (index_word v) (index_words vs) (stride_bytes new ws) m

  -- or both stop
  meets_read : (o : Answer Value) (a b : Answer (List Value)) → Meets a b part c new → Meets (and_then o (λ v. in_front v a)) (and_then o (λ v. in_front v b)) whole c ((record { index = index; size = size }) ∷ new)
  meets_read (Err s) a b m = refl
  meets_read (Ok v) a b m = meets_both v a b m

-- no index
meets_none : (part : List ℕ → Option ℕ) → part [] ≡ Some 0 → Meets (Ok []) (Ok []) part 0 []
meets_none part whole = ap (λ o. low_word (found_or stop.Malformed o)) whole

-- where a path leads by a row of indices, from another path on
pub record Leads (registers : List (Option Value)) (os : List Origin) (part : List ℕ → Option ℕ) (p q : Path) : Type 0 where
  pub bytes : ℕ
  pub new : List Stride
  pub constant : q.constant % 2 ^ 64 ≡ (p.constant + bytes) % 2 ^ 64
  pub strides : q.strides ≡ p.strides ++ new
  pub meets : Meets (origin_values registers os) (stride_values registers new) part bytes new

-- a known number of bytes more
sum_on : (a b c d x y : ℕ) → d % 2 ^ 64 ≡ (b + y) % 2 ^ 64 → b % 2 ^ 64 ≡ (a + x) % 2 ^ 64 → d % 2 ^ 64 ≡ (a + (x + y)) % 2 ^ 64
sum_on a b c d x y e f = omega arith

-- by an index that is known
leads_known : (registers : List (Option Value)) (v : Value) (n k : ℕ) (os : List Origin) (part whole : List ℕ → Option ℕ) (p r q : Path) → index_word v ≡ Ok n → ((ns : List ℕ) → whole (n ∷ ns) ≡ option_map (λ at. k + at) (part ns))
    → r.constant % 2 ^ 64 ≡ (p.constant + k) % 2 ^ 64 → r.strides ≡ p.strides → Leads registers os part r q → Leads registers (Known v ∷ os) whole p q
leads_known registers v n k os part whole p r q word into on same l = record {
  bytes = k + l.bytes;
  new = l.new;
  constant = sum_on p.constant r.constant 0 q.constant k l.bytes l.constant on;
  strides = l.strides ∙ ap (λ ss. ss ++ l.new) same;
  meets = meets_known part whole n k l.bytes l.new into v word (origin_values registers os) (stride_values registers l.new) l.meets;
}

-- by an index that is read
leads_read : (registers : List (Option Value)) (o : Origin) (size : ℕ) (os : List Origin) (part whole : List ℕ → Option ℕ) (p q : Path) → ((n : ℕ) (ns : List ℕ) → whole (n ∷ ns) ≡ option_map (λ at. n * size + at) (part ns))
    → Leads registers os part (with_stride o size p) q → Leads registers (o ∷ os) whole p q
leads_read registers o size os part whole p q into l = record {
  bytes = l.bytes;
  new = (record { index = o; size = size }) ∷ l.new;
  constant = l.constant;
  strides = l.strides ∙ append_assoc p.strides ((record { index = o; size = size }) ∷ []) l.new;
  meets = meets_read part size whole l.bytes o l.new into (origin_value registers o) (origin_values registers os) (stride_values registers l.new) l.meets;
}

-- a word is below 2^64
wide_if : (w : Width) (n : ℕ) (b : Bool) → n < 2 ^ bits w → (if b then n else (n + (2 ^ 64 - 2 ^ bits w))) < 2 ^ 64
wide_if W1 n true e = omega arith
wide_if W1 n false e = omega arith
wide_if W8 n true e = omega arith
wide_if W8 n false e = omega arith
wide_if W16 n true e = omega arith
wide_if W16 n false e = omega arith
wide_if W32 n true e = omega arith
wide_if W32 n false e = omega arith
wide_if W64 n true e = omega arith
wide_if W64 n false e = omega arith

-- bytes that are added modulo 2^64
low_sum : (a x y : ℕ) → x % 2 ^ 64 ≡ y % 2 ^ 64 → (a + x % 2 ^ 64) % 2 ^ 64 % 2 ^ 64 ≡ (a + y) % 2 ^ 64
low_sum a x y e = omega arith

-- of a number only the lowest 64 bits are taken once
low_twice : (n : ℕ) → n % 2 ^ 64 % 2 ^ 64 ≡ n % 2 ^ 64
low_twice n = omega arith

-- bytes of a word, as they are added
word_bytes : (a n size : ℕ) → (a + (n % 2 ^ 64 * size) % 2 ^ 64) % 2 ^ 64 % 2 ^ 64 ≡ (a + n * size) % 2 ^ 64
word_bytes a n size = low_sum a (n % 2 ^ 64 * size) (n * size) (mul-mod_first n size (2 ^ 64))

-- over elements
leads_elements : (registers : List (Option Value)) (o : Origin) (size : ℕ) (os : List Origin) (part whole : List ℕ → Option ℕ) (p q : Path) → ((n : ℕ) (ns : List ℕ) → whole (n ∷ ns) ≡ option_map (λ at. n * size + at) (part ns))
    → Leads registers os part (over_elements o size p) q → Leads registers (o ∷ os) whole p q
leads_elements registers (Register k) size os part whole p q into l = leads_read registers (Register k) size os part whole p q into l
leads_elements registers Unset size os part whole p q into l = leads_read registers Unset size os part whole p q into l
leads_elements registers Malformed size os part whole p q into l = leads_read registers Malformed size os part whole p q into l
leads_elements registers (Known v) size os part whole p q into l = by (index_word v) refl l
  where
    by : (word : Answer ℕ) → index_word v ≡ word → Leads registers os part (by_word (Known v) (low_word word) size p) q → Leads registers (Known v ∷ os) whole p q
    by (Ok n) e l = leads_known registers v n (n * size) os part whole p (farther ((n % 2 ^ 64 * size) % 2 ^ 64) p) q e (into n) (word_bytes p.constant n size) refl l
    by (Err s) e l = leads_read registers (Known v) size os part whole p q into l

-- the size that an extent tells of a small type
pub size_is : (types : List NamedTy) (ty : Ty) → IsSmall types ty → (extent_of types ty).size ≡ (shape_of types ty).size
size_is types ty small = let t = (tells types ty).0 in let s = size_small types ty small in omega arith

-- no index leads to the whole: one level
whole_at : (named : List ℕ → Shape) → ((q : List ℕ) → (named q).part [] ≡ Some 0) → (z : Ty-F Shape) → (shape_at named z).part [] ≡ Some 0
whole_at named names Ty-F.Void = refl
whole_at named names (Ty-F.Int w) = refl
whole_at named names Ty-F.Ptr = refl
whole_at named names (Ty-F.Array n of) = refl
whole_at named names (Ty-F.Struct fields) = refl
whole_at named names (Ty-F.Packed fields) = refl
whole_at named names (Ty-F.Named q) = names q

-- a type, where it is known of names
whole_in : (types : List NamedTy) (n : ℕ) → ((q : List ℕ) → (named_shape types n q).part [] ≡ Some 0) → (ty : Ty) → (fold-Ty Shape (shape_at (named_shape types n)) ty).part [] ≡ Some 0
whole_in types n names ty =
    ap (λ t. (fold-Ty Shape (shape_at (named_shape types n)) t).part []) (sym (roll-out-Ty ty)) ∙ ap (λ (s : Shape). s.part []) (fold-roll-Ty Shape (shape_at (named_shape types n)) (out-Ty ty))
    ∙ whole_at (named_shape types n) names (map-Ty Ty Shape (fold-Ty Shape (shape_at (named_shape types n))) (out-Ty ty))

-- names
whole_named : (types : List NamedTy) (n : ℕ) (q : List ℕ) → (named_shape types n q).part [] ≡ Some 0
whole_named types zero q = refl
whole_named types (suc n) q = of_option (first_where (λ (t : NamedTy). same_name t.name q) types) (whole_in types n (whole_named types n))
  where
    of_option : (o : Option NamedTy) → ((ty : Ty) → (fold-Ty Shape (shape_at (named_shape types n)) ty).part [] ≡ Some 0) → (shape_or_nothing (fold-Ty Shape (shape_at (named_shape types n))) o).part [] ≡ Some 0
    of_option (Some t) go = go t.fields
    of_option None go = refl

-- any type
whole : (types : List NamedTy) (ty : Ty) → (shape_of types ty).part [] ≡ Some 0
unfolding shape_of
whole types ty = whole_in types MAX_NESTING (whole_named types MAX_NESTING) ty

-- a field as it is laid out has the parts of its type
laid_part : (packed : Bool) (s : Shape) (ns : List ℕ) → (laid packed s).part ns ≡ s.part ns
laid_part true s ns = refl
laid_part false s ns = refl

-- what a path does from a type on, for the indices that are left
abbrev On : List (Option Value) → List NamedTy → List Origin → Type 0
On registers types os = (part : Ty) (r q : Path) → IsSmall types part → path_into types part os r ≡ Some q → Leads registers os (shape_of types part).part r q

module _ (registers : List (Option Value)) (types : List NamedTy) (os : List Origin) (go : On registers types os) (packed : Bool) (fields : List Ty) where
  -- fields as they are laid out
  abbrev rows : List Shape
  rows = map (λ f. laid packed (shape_of types f)) fields

  module _ (small : (k : ℕ) (f : Ty) → slice_get fields k ≡ Some f → IsSmall types f) (fits : (struct rows).size < 2 ^ 64) (p q : Path) where
    -- into a field that is found
    found_leads : (v : Value) (n : ℕ) → index_word v ≡ Ok n → (f : Ty) → slice_get fields n ≡ Some f → path_into types f os (farther (field_place packed (map (extent_of types) (take n fields)) (extent_of types f)) p) ≡ Some q
        → Leads registers (Known v ∷ os) (part_of_struct rows) p q
    found_leads v n word f is e =
        let place = field_place packed (map (extent_of types) (take n fields)) (extent_of types f) in
        leads_known registers v n place os (shape_of types f).part (part_of_struct rows) p (farther place p) q word into (low_twice (p.constant + place)) refl
        (go f (farther place p) q (small n f is) e)
      where
        into : (ns : List ℕ) → part_of_field 0 rows n ns ≡ option_map (λ at. field_place packed (map (extent_of types) (take n fields)) (extent_of types f) + at) ((shape_of types f).part ns)
        into ns =
            part_field types packed fields 0 n f ns is
            ∙ ap (λ x. option_map (λ at. x + at) ((laid packed (shape_of types f)).part ns)) (sym (place_is types packed fields n f is fits))
            ∙ ap (option_map (λ at. field_place packed (map (extent_of types) (take n fields)) (extent_of types f) + at)) (laid_part packed (shape_of types f) ns)

    -- into the field of a number
    number_leads : (v : Value) (n : ℕ) → index_word v ≡ Ok n → (o : Option Ty) → slice_get fields n ≡ o → onward (into_found types packed fields n o p) (λ part r. path_into types part os r) ≡ Some q → Leads registers (Known v ∷ os) (part_of_struct rows) p q
    number_leads v n word None is e = absurd (cc)
    number_leads v n word (Some f) is e = found_leads v n word f is e

    -- by a value
    value_leads : (v : Value) → IsWide (Known v) → onward (into_number types packed fields (low_word (index_word v)) p) (λ part r. path_into types part os r) ≡ Some q → Leads registers (Known v ∷ os) (part_of_struct rows) p q
    value_leads (Num w a) wide e =
        let n = signed_word w a in
        let below : n < 2 ^ 64 = wide_if w a (nat_lt a (2 ^ (bits w - 1))) wide in
        let low : n % 2 ^ 64 ≡ n = omega arith in
        number_leads (Num w a) n refl (slice_get fields n) refl (sym (ap (λ k. onward (into_found types packed fields k (slice_get fields k) p) (λ part r. path_into types part os r)) low) ∙ e)
    value_leads Null wide e = absurd (cc)
    value_leads (At o d) wide e = absurd (cc)
    value_leads (Fun f) wide e = absurd (cc)

    -- by an index
    field_leads : (o : Origin) → IsWide o → onward (into_field types packed fields o p) (λ part r. path_into types part os r) ≡ Some q → Leads registers (o ∷ os) (part_of_struct rows) p q
    field_leads (Known v) wide e = value_leads v wide e
    field_leads (Register k) wide e = absurd (cc)
    field_leads Unset wide e = absurd (cc)
    field_leads Malformed wide e = absurd (cc)

-- fields of a packed struct
unaligned_rows : (types : List NamedTy) (fields : List Ty) → unaligned (map (shape_of types) fields) ≡ map (λ f. laid true (shape_of types f)) fields
unaligned_rows types [] = refl
unaligned_rows types (f ∷ fs) = ap (λ ss. laid true (shape_of types f) ∷ ss) (unaligned_rows types fs)

-- a struct whose size is told within the limit
told_fits : (types : List NamedTy) (ty : Ty) (s : Shape) → shape_of types ty ≡ s → size_count types ty ≤ MAX_SIZE → s.size < 2 ^ 64
told_fits types ty s is small = let e : (shape_of types ty).size ≡ s.size = ap (λ (t : Shape). t.size) is in omega arith

-- one index into a type without a name
level_leads : (registers : List (Option Value)) (types : List NamedTy) (o : Origin) (os : List Origin) (ty : Ty) (p q : Path) → IsWide o → IsSmall types ty → On registers types os → (l : Ty-F Ty) → out-Ty ty ≡ l
    → onward (into_type types l o p) (λ part r. path_into types part os r) ≡ Some q → Leads registers (o ∷ os) (shape_of types ty).part p q
level_leads registers types o os ty p q wide small go Ty-F.Void is e = absurd (cc)
level_leads registers types o os ty p q wide small go (Ty-F.Int w) is e = absurd (cc)
level_leads registers types o os ty p q wide small go Ty-F.Ptr is e = absurd (cc)
level_leads registers types o os ty p q wide small go (Ty-F.Named name) is e = absurd (cc)
level_leads registers types o os ty p q wide small go (Ty-F.Array n of) is e =
    let same : Array n of ≡ ty = sym (rolls-Array n of) ∙ sym (ap roll-Ty is) ∙ roll-out-Ty ty in
    let inner = elements_small types n of (subst (IsSmall types) (sym same) small) in
    let size = (extent_of types of).size in
    subst (λ (t : Ty). Leads registers (o ∷ os) (shape_of types t).part p q) same (subst (λ (s : Shape). Leads registers (o ∷ os) s.part p q) (sym (shape-array types n of))
    (leads_elements registers o size os (shape_of types of).part (part_of_array (shape_of types of)) p q (λ k ns. ap (λ z. option_map (λ at. k * z + at) ((shape_of types of).part ns)) (sym (size_is types of inner)))
    (go of (over_elements o size p) q inner e)))
level_leads registers types o os ty p q wide small go (Ty-F.Struct fields) is e =
    let same : Struct fields ≡ ty = sym (rolls-Struct fields) ∙ sym (ap roll-Ty is) ∙ roll-out-Ty ty in
    let outer = subst (IsSmall types) (sym same) small in
    let shape = shape-struct types fields in
    subst (λ (t : Ty). Leads registers (o ∷ os) (shape_of types t).part p q) same (subst (λ (s : Shape). Leads registers (o ∷ os) s.part p q) (sym shape)
    (field_leads registers types os go false fields (λ k f. λ get. field_small types fields k f get outer) (told_fits types (Struct fields) (struct (map (shape_of types) fields)) shape (struct_size types fields outer)) p q o wide e))
level_leads registers types o os ty p q wide small go (Ty-F.Packed fields) is e =
    let same : Packed fields ≡ ty = sym (rolls-Packed fields) ∙ sym (ap roll-Ty is) ∙ roll-out-Ty ty in
    let outer = subst (IsSmall types) (sym same) small in
    let shape = shape-packed types fields ∙ ap struct (unaligned_rows types fields) in
    subst (λ (t : Ty). Leads registers (o ∷ os) (shape_of types t).part p q) same (subst (λ (s : Shape). Leads registers (o ∷ os) s.part p q) (sym shape)
    (field_leads registers types os go true fields (λ k f. λ get. packed_small types fields k f get outer) (told_fits types (Packed fields) (struct (map (λ f. laid true (shape_of types f)) fields)) shape (packed_size types fields outer)) p q o wide e))

-- a path that is found
some_is : (p q : Path) → Some p ≡ Some q → p ≡ q
some_is p q e = cc

-- a row of indices into a type
path_leads : (registers : List (Option Value)) (types : List NamedTy) (all : FieldsAreSmall types types) (os : List Origin) → AreWide os → On registers types os
path_leads registers types all [] wide ty p q small e =
    subst (λ r. Leads registers [] (shape_of types ty).part p r) (some_is p q e) (record {
      bytes = 0;
      new = [];
      constant = (let z : p.constant % 2 ^ 64 ≡ (p.constant + 0) % 2 ^ 64 = omega arith in z);
      strides = sym (append-nil p.strides);
      meets = meets_none (shape_of types ty).part (whole types ty);
    })
path_leads registers types all (o ∷ os) wide ty p q small e =
    let x = opens types ty all small in
    subst (λ (s : Shape). Leads registers (o ∷ os) s.part p q) (sym x.shape)
    (level_leads registers types o os x.is p q wide.0 x.small (path_leads registers types all os wide.1) (out-Ty x.is) refl (sym (ap (λ l. onward (into_type types l o p) (λ part r. path_into types part os r)) x.level) ∙ e))

-- a row of indices from a pointer to a type
pub from_leads : (registers : List (Option Value)) (types : List NamedTy) (all : FieldsAreSmall types types) (os : List Origin) (ty : Ty) (q : Path) → AreWide os → IsSmall types ty → path_of types ty os ≡ Some q
    → Leads registers os (part_of_array (shape_of types ty)) empty_path q
from_leads registers types all [] ty q wide small e =
    subst (λ r. Leads registers [] (part_of_array (shape_of types ty)) empty_path r) (some_is empty_path q e) (record {
      bytes = 0;
      new = [];
      constant = refl;
      strides = refl;
      meets = refl;
    })
from_leads registers types all (o ∷ os) ty q wide small e =
    leads_elements registers o (extent_of types ty).size os (shape_of types ty).part (part_of_array (shape_of types ty)) empty_path q
    (λ k ns. ap (λ z. option_map (λ at. k * z + at) ((shape_of types ty).part ns)) (sym (size_is types ty small)))
    (path_leads registers types all os wide.1 ty (over_elements o (extent_of types ty).size empty_path) q small e)
