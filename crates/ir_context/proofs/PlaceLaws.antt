-- A constant place has the value of its origin.
use Rattle.std.proofs.Common.{◌≡◌, ℕ, ◌+◌, ◌*◌, ◌%◌, ◌^◌, ◌<◌, Bool, true, false, List, [], ◌∷◌, ◌++◌, map, take, Option, Some, None, Ok, Err, refl, ap, sym, ◌∙◌, subst, arith}
use Rattle.std.specs.Prelude.{ℤ, slice_get}
use Rattle.ir_core.specs.declared.ty.Ty.{Ty, out-Ty}
use Rattle.ir_core.specs.declared.ty.Ty.TheOpen.{Ty-F}
use Rattle.ir_core.specs.declared.ty.NamedTy.{NamedTy}
use Rattle.ir_core.specs.declared.kind.Kind.{Kind}
use Rattle.ir_core.specs.declared.kind.Kind.TheVariants.{NoValue, Number, Pointer}
use Rattle.ir_core.specs.declared.operand.Place0.{Place0}
use Rattle.ir_core.specs.declared.operand.Index0.{Index0}
use Rattle.ir_core.specs.declared.module.Module.{Module}
use Rattle.ir_core.specs.declared.memory.Value.{Value}
use Rattle.ir_core.specs.declared.memory.Value.TheVariants.{Num, At}
use Rattle.ir_core.specs.Stops.{Answer, and_then, found_or}
use Rattle.ir_core.specs.Stops as stop
use Rattle.ir_core.specs.Kinds.{kind_of, literal, signed_word}
use Rattle.ir_core.specs.Shapes.{part_of_array, shape_of}
use Rattle.ir_core.specs.Operands.{global_number, int_value, index_word, index_words, literal_indices, bytes_to, constant_place}
use Rattle.ir_core.specs.Valid.{opened}
use Rattle.ir_core.specs.Typing.{known_index, leads_from}
use Rattle.ir_core.specs.Words.{low_word}
use Rattle.ir_context.specs.declared.origin.Origin.{Origin}
use Rattle.ir_context.specs.declared.origin.Origin.TheVariants.{Known, Register, Unset, Malformed}
use Rattle.ir_context.specs.declared.path.Path.{Path}
use Rattle.ir_context.specs.declared.path.Stride.{Stride}
use Rattle.ir_context.specs.Extents.{extent_of, field_place}
use Rattle.ir_context.specs.Paths.{empty_path, farther, over_elements, into_found, into_field, into_type, onward, path_into, path_of}
use Rattle.ir_context.specs.Origins.{known, index_origin, place_in, place_of, constant_origin}
use Rattle.ir_context.specs.Reads.{origin_value, origin_values, stride_values, AreWide}
use Rattle.ir_context.specs.Small.{IsSmall, FieldsAreSmall}
use Rattle.ir_context.proofs.PathLaws.{Meets, Leads, from_leads}
use Rattle.ir_context.proofs.LeadLaws.{HasPath, KnownAs, has_path_from}
use Rattle.ir_context.proofs.WideLaws.{wide_int, literal_known}

-- literal indices are numbers, or malformed
abbrev IsLiteral : Origin → Type 0
IsLiteral (Known (Num w n)) = Unit {0}
IsLiteral (Known other) = ⊥
IsLiteral Malformed = Unit {0}
IsLiteral other = ⊥

-- all of them
abbrev AreLiterals : List Origin → Type 0
AreLiterals [] = Unit {0}
AreLiterals (o ∷ os) = IsLiteral o × AreLiterals os

-- strides of a path of literals are malformed, and its bytes are those of a word
abbrev AreMalformed : List Stride → Type 0
AreMalformed [] = Unit {0}
AreMalformed (s ∷ ss) = (s.index ≡ Malformed) × AreMalformed ss

pub record IsPlain (p : Path) : Type 0 where
  pub low : p.constant < 2 ^ 64
  pub strides : AreMalformed p.strides

-- one more malformed stride
malformed_more : (ss : List Stride) (s : Stride) → AreMalformed ss → s.index ≡ Malformed → AreMalformed (ss ++ s ∷ [])
malformed_more [] s all e = (e, tt)
malformed_more (t ∷ ts) s all e = (all.0, malformed_more ts s all.1 e)

-- bytes more
plain_farther : (by : ℕ) (p : Path) → IsPlain p → IsPlain (farther by p)
plain_farther by p plain = record { low = (let below : (p.constant + by) % 2 ^ 64 < 2 ^ 64 = omega arith in below); strides = plain.strides }

-- over elements
plain_over : (o : Origin) (size : ℕ) (p : Path) → IsLiteral o → IsPlain p → IsPlain (over_elements o size p)
plain_over (Known (Num w n)) size p is plain = plain_farther ((signed_word w n % 2 ^ 64 * size) % 2 ^ 64) p plain
plain_over Malformed size p is plain = record { low = plain.low; strides = malformed_more p.strides (record { index = Malformed; size = size }) plain.strides refl }
plain_over (Register k) size p is plain = absurd is
plain_over Unset size p is plain = absurd is
plain_over (Known other) size p is plain = absurd is

module _ (types : List NamedTy) (os : List Origin) (q : Path) (go : (part : Ty) (r : Path) → IsPlain r → path_into types part os r ≡ Some q → IsPlain q) (p : Path) (plain : IsPlain p) where
  -- into a field that is found
  plain_found : (packed : Bool) (fields : List Ty) (k : ℕ) (o : Option Ty) → onward (into_found types packed fields k o p) (λ part r. path_into types part os r) ≡ Some q → IsPlain q
  plain_found packed fields k None e = absurd (cc)
  plain_found packed fields k (Some f) e =
      let by = field_place packed (map (extent_of types) (take k fields)) (extent_of types f) in go f (farther by p) (plain_farther by p plain) e

  -- into the field of a literal
  plain_field : (packed : Bool) (fields : List Ty) (o : Origin) → IsLiteral o → onward (into_field types packed fields o p) (λ part r. path_into types part os r) ≡ Some q → IsPlain q
  plain_field packed fields (Known (Num w n)) is e = let k = signed_word w n % 2 ^ 64 in plain_found packed fields k (slice_get fields k) e
  plain_field packed fields Malformed is e = absurd (cc)
  plain_field packed fields (Register k) is e = absurd is
  plain_field packed fields Unset is e = absurd is
  plain_field packed fields (Known other) is e = absurd is

  -- one index
  plain_level : (l : Ty-F Ty) (o : Origin) → IsLiteral o → onward (into_type types l o p) (λ part r. path_into types part os r) ≡ Some q → IsPlain q
  plain_level Ty-F.Void o is e = absurd (cc)
  plain_level (Ty-F.Int w) o is e = absurd (cc)
  plain_level Ty-F.Ptr o is e = absurd (cc)
  plain_level (Ty-F.Array n of) o is e = go of (over_elements o (extent_of types of).size p) (plain_over o (extent_of types of).size p is plain) e
  plain_level (Ty-F.Struct fields) o is e = plain_field false fields o is e
  plain_level (Ty-F.Packed fields) o is e = plain_field true fields o is e
  plain_level (Ty-F.Named name) o is e = absurd (cc)

-- a path that is found
found_is : (p q : Path) → Some p ≡ Some q → p ≡ q
found_is p q e = cc

-- a row of literals
plain_path : (types : List NamedTy) (os : List Origin) (q : Path) → AreLiterals os → (ty : Ty) (p : Path) → IsPlain p → path_into types ty os p ≡ Some q → IsPlain q
plain_path types [] q all ty p plain e = subst IsPlain (found_is p q e) plain
plain_path types (o ∷ os) q all ty p plain e = plain_level types os q (plain_path types os q all.1) p plain (opened types (out-Ty ty)) o all.0 e

-- from a pointer on
plain_from : (types : List NamedTy) (os : List Origin) (q : Path) → AreLiterals os → (ty : Ty) → path_of types ty os ≡ Some q → IsPlain q
plain_from types [] q all ty e = subst IsPlain (found_is empty_path q e) (record { low = omega arith; strides = tt })
plain_from types (o ∷ os) q all ty e =
    plain_path types os q all.1 ty (over_elements o (extent_of types ty).size empty_path) (plain_over o (extent_of types ty).size empty_path all.0 (record { low = omega arith; strides = tt })) e

-- literal indices as they are read
literal_is : (kind : Kind) (n : ℤ) → IsLiteral (known (int_value kind n))
literal_is NoValue n = tt
literal_is (Number w) n = tt
literal_is Pointer n = tt

literals_are : (is : List Index0) → AreLiterals (map index_origin is)
literals_are [] = tt
literals_are (i ∷ is) = (literal_is (kind_of i.ty) i.value, literals_are is)

wide_literals : (is : List Index0) → AreWide (map index_origin is)
wide_literals [] = tt
wide_literals (i ∷ is) = (wide_int (kind_of i.ty) i.value, wide_literals is)

known_literals : (is : List Index0) → KnownAs (map known_index is) (map index_origin is)
known_literals [] = tt
known_literals (i ∷ is) = literal_known (map known_index is) (map index_origin is) (kind_of i.ty) i.value (known_literals is)

-- a value and a word in front of others
words_behind : (v : Value) (n : ℕ) → index_word v ≡ Ok n → (o : Answer (List Value)) → and_then (and_then o index_words) (λ ns. let a : Answer (List ℕ) = Ok (n ∷ ns) in a) ≡ and_then (and_then o (λ vs. let a : Answer (List Value) = Ok (v ∷ vs) in a)) index_words
words_behind v n word (Ok vs) = sym (ap (λ (w : Answer ℕ). and_then w (λ x. and_then (index_words vs) (λ ns. let a : Answer (List ℕ) = Ok (x ∷ ns) in a))) word)
words_behind v n word (Err s) = refl

-- the words of literals are those of the values that are read
literal_words : (registers : List (Option Value)) (is : List Index0) → literal_indices is ≡ and_then (origin_values registers (map index_origin is)) index_words
literal_words registers [] = refl
literal_words registers (i ∷ is) = by (kind_of i.ty) (literal_words registers is)
  where
    by : (kind : Kind) → literal_indices is ≡ and_then (origin_values registers (map index_origin is)) index_words
        → and_then (int_value kind i.value) (λ v. and_then (index_word v) (λ n. and_then (literal_indices is) (λ ns. let a : Answer (List ℕ) = Ok (n ∷ ns) in a)))
        ≡ and_then (and_then (origin_value registers (known (int_value kind i.value))) (λ v. and_then (origin_values registers (map index_origin is)) (λ vs. let a : Answer (List Value) = Ok (v ∷ vs) in a))) index_words
    by NoValue go = refl
    by Pointer go = refl
    by (Number w) go =
        let n = signed_word w (literal w i.value) in
        ap (λ o. and_then o (λ ns. let a : Answer (List ℕ) = Ok (n ∷ ns) in a)) go ∙ words_behind (Num w (literal w i.value)) n refl (origin_values registers (map index_origin is))

-- where words lead, as a place in a global
abbrev placed : ℕ → Answer ℕ → Answer Value
placed g bytes = and_then bytes (λ by. Ok (At g (by % 2 ^ 64)))

-- of bytes only the lowest 64 bits count
placed_low : (g : ℕ) (a b : Answer ℕ) → low_word a ≡ low_word b → placed g a ≡ placed g b
placed_low g (Ok m) (Ok n) e = ap (λ (w : Answer ℕ). and_then w (λ k. let a : Answer Value = Ok (At g k) in a)) e
placed_low g (Ok m) (Err t) e = absurd (cc)
placed_low g (Err s) (Ok n) e = absurd (cc)
placed_low g (Err s) (Err t) e = let same : s ≡ t = cc in ap (λ u. let a : Answer Value = Err u in a) same

-- a place, where strides meet indices
meets_place : (registers : List (Option Value)) (g c d : ℕ) (part : List ℕ → Option ℕ) (new : List Stride) → c < 2 ^ 64 → c % 2 ^ 64 ≡ d % 2 ^ 64 → AreMalformed new → (a : Answer (List Value)) → Meets a (stride_values registers new) part d new
    → placed g (and_then a (λ vs. and_then (index_words vs) (λ ns. found_or stop.Malformed (part ns)))) ≡ origin_value registers (place_in g c new)
meets_place registers g c d part [] low same all (Ok vs) m =
    placed_low g (and_then (index_words vs) (λ ns. found_or stop.Malformed (part ns))) (Ok (d + 0)) m
    ∙ (let e : (d + 0) % 2 ^ 64 ≡ c = omega arith in ap (λ k. let a : Answer Value = Ok (At g k) in a) e)
meets_place registers g c d part [] low same all (Err s) m = absurd m
meets_place registers g c d part (s ∷ ss) low same all a m =
    by a (subst (λ (o : Origin). Meets a (and_then (origin_value registers o) (λ v. and_then (stride_values registers ss) (λ vs. let b : Answer (List Value) = Ok (v ∷ vs) in b))) part d (s ∷ ss)) all.0 m)
  where
    by : (a : Answer (List Value)) → Meets a (Err stop.Malformed) part d (s ∷ ss) → placed g (and_then a (λ vs. and_then (index_words vs) (λ ns. found_or stop.Malformed (part ns)))) ≡ Err stop.Malformed
    by (Ok vs) m = absurd m
    by (Err t) m = ap (λ u. let r : Answer Value = Err u in r) m

-- words and then where they lead
places_first : (g : ℕ) (m : Module) (ty : Ty) (a : Answer (List Value)) → and_then (and_then a index_words) (λ ns. placed g (bytes_to m ty ns)) ≡ placed g (and_then a (λ vs. and_then (index_words vs) (λ ns. found_or stop.Malformed (part_of_array (shape_of m.types ty) ns))))
places_first g m ty (Err s) = refl
places_first g m ty (Ok vs) = by (index_words vs)
  where
    by : (words : Answer (List ℕ)) → and_then words (λ ns. placed g (bytes_to m ty ns)) ≡ placed g (and_then words (λ ns. found_or stop.Malformed (part_of_array (shape_of m.types ty) ns)))
    by (Err s) = refl
    by (Ok []) = refl
    by (Ok (n ∷ ns)) = refl

-- a constant place whose indices lead to a part of a small type
pub place_read : (m : Module) (p : Place0) (registers : List (Option Value)) → FieldsAreSmall m.types m.types → IsSmall m.types p.source → leads_from m.types p.source (map known_index p.indices) ≡ true
    → constant_place m p ≡ origin_value registers (constant_origin m p)
place_read m p registers all small leads = by (global_number m p.base)
  where
    os : List Origin
    os = map index_origin p.indices

    path : HasPath (path_of m.types p.source os)
    path = has_path_from m.types all (map known_index p.indices) os p.source (known_literals p.indices) small leads

    led : Leads registers os (part_of_array (shape_of m.types p.source)) empty_path path.path
    led = from_leads registers m.types all os p.source path.path (wide_literals p.indices) small path.is

    plain : IsPlain path.path
    plain = plain_from m.types os path.path (literals_are p.indices) p.source path.is

    by : (g : Option ℕ) → and_then (found_or stop.Malformed g) (λ g. and_then (literal_indices p.indices) (λ is. placed g (bytes_to m p.source is))) ≡ origin_value registers (place_of g (path_of m.types p.source os))
    by None = refl
    by (Some g) =
        ap (λ o. and_then o (λ is. placed g (bytes_to m p.source is))) (literal_words registers p.indices) ∙ places_first g m p.source (origin_values registers os)
        ∙ meets_place registers g path.path.constant led.bytes (part_of_array (shape_of m.types p.source)) led.new plain.low (let c = led.constant in let e : path.path.constant % 2 ^ 64 ≡ led.bytes % 2 ^ 64 = omega arith in e)
        (subst AreMalformed led.strides plain.strides) (origin_values registers os) led.meets
        ∙ ap (λ ss. origin_value registers (place_in g path.path.constant ss)) (sym led.strides)
        ∙ ap (λ o. origin_value registers (place_of (Some g) o)) (sym path.is)
