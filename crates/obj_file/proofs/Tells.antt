-- Spellings tell what they spell.
use Rattle.std.proofs.Common.{◌≡◌, ℕ, zero, suc, ◌<◌, ◌^◌, List, [], ◌∷◌, ◌++◌, length, refl, sym, ◌∙◌, ap, arith, append_assoc, subst}
use Rattle.rd_num.specs.Number.{le_bytes, le_number}
use Rattle.x86_core.proofs.Parts.{number_back8}
use Rattle.obj_core.specs.declared.object.Object.{Object}
use Rattle.obj_core.specs.declared.object.Func.{Func}
use Rattle.obj_core.specs.declared.object.FuncKind.{FuncKind}
use Rattle.obj_core.specs.declared.object.Link.{Link}
use Rattle.obj_core.specs.declared.object.Slot.{Slot}
use Rattle.obj_core.specs.declared.object.CodeAt.{CodeAt}
use Rattle.obj_core.specs.Object.{Each, field, magic, kind_number, function_bytes, function_bytes_v1, functions_bytes, link_bytes, links_bytes, cuts_bytes, slot_fields, slot_bytes, slots_bytes, IsField, IsFunc, IsLink, IsSlot, IsObject, Spells}
use Rattle.obj_file.specs.Fits.{FunctionFits, CountsFit}
use Rattle.obj_file.specs.declared.format.Format.{Format}
use Rattle.obj_file.specs.Texts.{number_of}
use Rattle.obj_file.specs.Spellings.{function_in, IsFuncIn, IsObjectIn, body_bytes, counted_bytes, seeded_bytes}
use Rattle.obj_file.proofs.Good.{same_split, field_unique, format_small, format_told}
use Rattle.obj_file.proofs.Rows.{IsRow, links_row, cuts_row, slots_row, functions_row}
use Rattle.obj_file.proofs.Parts.{kind_below, object_in_is}
use Rattle.obj_file.proofs.Spelled.{kind_at, kind_back, SpelledIn, spelled_in}

-- what a spelling spells, and where it ends
pub record Tells {T : Type 0} (P : T → Type 0) (one : T → List ℕ) : Type 0 where
  pub same : (x y : T) (s t : List ℕ) → P x → P y → one x ++ s ≡ one y ++ t → (x ≡ y) × (s ≡ t)

-- rows of as many items
row_tells : {T : Type 0} (P : T → Type 0) (one : T → List ℕ) (all : List T → List ℕ) (r : IsRow one all) (tells : Tells P one) (xs ys : List T) (s t : List ℕ) → length xs ≡ length ys → Each P xs → Each P ys → all xs ++ s ≡ all ys ++ t → (xs ≡ ys) × (s ≡ t)
row_tells P one all r tells [] [] s t n h k e = (refl, ap (λ z. z ++ s) (sym r.none) ∙ e ∙ ap (λ z. z ++ t) r.none)
row_tells P one all r tells [] (y ∷ ys) s t n h k e = absurd (omega arith)
row_tells P one all r tells (x ∷ xs) [] s t n h k e = absurd (omega arith)
row_tells P one all r tells (x ∷ xs) (y ∷ ys) s t n h k e =
    let apart : one x ++ (all xs ++ s) ≡ one y ++ (all ys ++ t) =
    sym (append_assoc (one x) (all xs) s) ∙ ap (λ z. z ++ s) (sym (r.more x xs)) ∙ e ∙ ap (λ z. z ++ t) (r.more y ys) ∙ append_assoc (one y) (all ys) t in
    let first = tells.same x y (all xs ++ s) (all ys ++ t) h.0 k.0 apart in
    let rest = row_tells P one all r tells xs ys s t (omega arith) h.1 k.1 first.1 in
    (ap (λ z. z ∷ xs) first.0 ∙ ap (λ zs. y ∷ zs) rest.0, rest.1)

-- links
link_tells : Tells IsLink link_bytes
link_tells = record { same = λ x y s t h k e. same x y s t h k e }
  where
    same : (x y : Link) (s t : List ℕ) → IsLink x → IsLink y → link_bytes x ++ s ≡ link_bytes y ++ t → (x ≡ y) × (s ≡ t)
    same x y s t h k e =
        let one = field_unique x.at y.at (field x.slot ++ s) (field y.slot ++ t) h.at k.at e in
        let two = field_unique x.slot y.slot s t h.slot k.slot one.1 in
        let left = x.slot in
        let right = y.at in
        let build : ℕ → ℕ → Link = λ a b. record { at = a; slot = b } in
        (ap (λ a. build a left) one.0 ∙ ap (λ b. build right b) two.0, two.1)

-- a slot as its four fields
slot_kind : Slot → ℕ
slot_kind (Slot.Entry t) = 0
slot_kind (Slot.Jump t) = 1
slot_kind (Slot.Call t b) = 2
slot_kind (Slot.Indirect b) = 3
slot_kind (Slot.System b) = 4

-- the target, or 0
slot_target : Slot → ℕ
slot_target (Slot.Entry t) = t
slot_target (Slot.Jump t) = t
slot_target (Slot.Call t b) = t
slot_target (Slot.Indirect b) = 0
slot_target (Slot.System b) = 0

-- the way back, or zeros
slot_back : Slot → CodeAt
slot_back (Slot.Entry t) = record { function = 0; offset = 0 }
slot_back (Slot.Jump t) = record { function = 0; offset = 0 }
slot_back (Slot.Call t b) = b
slot_back (Slot.Indirect b) = b
slot_back (Slot.System b) = b

-- the slot of these fields
slot_at : ℕ → ℕ → CodeAt → Slot
slot_at zero t b = Slot.Entry t
slot_at (suc zero) t b = Slot.Jump t
slot_at (suc (suc zero)) t b = Slot.Call t b
slot_at (suc (suc (suc zero))) t b = Slot.Indirect b
slot_at (suc (suc (suc (suc k)))) t b = Slot.System b

-- the fields give the slot
slot_again : (s : Slot) → slot_at (slot_kind s) (slot_target s) (slot_back s) ≡ s
unfolding slot_kind slot_target slot_back slot_at
slot_again (Slot.Entry t) = refl
slot_again (Slot.Jump t) = refl
slot_again (Slot.Call t b) = refl
slot_again (Slot.Indirect b) = refl
slot_again (Slot.System b) = refl

-- the fields and their ranges
record FieldsOf (s : Slot) : Type 0 where
  spelling : slot_bytes s ≡ slot_fields (slot_kind s) (slot_target s) (slot_back s).function (slot_back s).offset
  kind : slot_kind s < 2 ^ 32
  target : slot_target s < 2 ^ 32
  function : (slot_back s).function < 2 ^ 32
  offset : (slot_back s).offset < 2 ^ 32

-- each slot has them
fields_of : (s : Slot) → IsSlot s → FieldsOf s
unfolding slot_kind slot_target slot_back
fields_of (Slot.Entry t) h = record { spelling = refl; kind = omega arith; target = h; function = omega arith; offset = omega arith }
fields_of (Slot.Jump t) h = record { spelling = refl; kind = omega arith; target = h; function = omega arith; offset = omega arith }
fields_of (Slot.Call t b) h = record { spelling = refl; kind = omega arith; target = h.0; function = h.1.function; offset = h.1.offset }
fields_of (Slot.Indirect b) h = record { spelling = refl; kind = omega arith; target = omega arith; function = h.function; offset = h.offset }
fields_of (Slot.System b) h = record { spelling = refl; kind = omega arith; target = omega arith; function = h.function; offset = h.offset }

-- slots
slot_tells : Tells IsSlot slot_bytes
slot_tells = record { same = λ x y s t h k e. same x y s t h k e }
  where
    same : (x y : Slot) (s t : List ℕ) → IsSlot x → IsSlot y → slot_bytes x ++ s ≡ slot_bytes y ++ t → (x ≡ y) × (s ≡ t)
    same x y s t h k e =
        let p = fields_of x h in
        let q = fields_of y k in
        let b = slot_back x in
        let c = slot_back y in
        let e2 : slot_fields (slot_kind x) (slot_target x) b.function b.offset ++ s ≡ slot_fields (slot_kind y) (slot_target y) c.function c.offset ++ t =
        ap (λ z. z ++ s) (sym p.spelling) ∙ e ∙ ap (λ z. z ++ t) q.spelling in
        let one = field_unique (slot_kind x) (slot_kind y) (field (slot_target x) ++ (field b.function ++ (field b.offset ++ s))) (field (slot_target y) ++ (field c.function ++ (field c.offset ++ t))) p.kind q.kind e2 in
        let two = field_unique (slot_target x) (slot_target y) (field b.function ++ (field b.offset ++ s)) (field c.function ++ (field c.offset ++ t)) p.target q.target one.1 in
        let three = field_unique b.function c.function (field b.offset ++ s) (field c.offset ++ t) p.function q.function two.1 in
        let four = field_unique b.offset c.offset s t p.offset q.offset three.1 in
        let build : ℕ → ℕ → CodeAt = λ f o. record { function = f; offset = o } in
        let backs : b ≡ c = ap (λ f. build f b.offset) three.0 ∙ ap (λ o. build c.function o) four.0 in (
          sym (slot_again x) ∙ ap (λ n. slot_at n (slot_target x) b) one.0 ∙ ap (λ n. slot_at (slot_kind y) n b) two.0 ∙
              ap (λ z. slot_at (slot_kind y) (slot_target y) z) backs ∙ slot_again y,
          four.1,
        )

-- cuts
cut_tells : Tells IsField field
cut_tells = record { same = λ x y s t h k e. field_unique x y s t h k e }

-- what stands in front of a function's code tells the kind and the counts
record SameFront (x y : Func) (r q : List ℕ) : Type 0 where
  kinds : x.kind ≡ y.kind
  sizes : length x.bytes ≡ length y.bytes
  counts : length x.links ≡ length y.links
  behind : r ≡ q

front_tells : (x y : Func) (r q : List ℕ) → IsFunc x → IsFunc y → field (kind_number x.kind) ++ (field (length x.bytes) ++ (field (length x.links) ++ r)) ≡ field (kind_number y.kind) ++ (field (length y.bytes) ++ (field (length y.links) ++ q)) → SameFront x y r q
front_tells x y r q h k e =
    let small : kind_number x.kind < 2 ^ 32 = let b = kind_below x.kind in omega arith in
    let small2 : kind_number y.kind < 2 ^ 32 = let b = kind_below y.kind in omega arith in
    let one = field_unique (kind_number x.kind) (kind_number y.kind) (field (length x.bytes) ++ (field (length x.links) ++ r)) (field (length y.bytes) ++ (field (length y.links) ++ q)) small small2 e in
    let two = field_unique (length x.bytes) (length y.bytes) (field (length x.links) ++ r) (field (length y.links) ++ q) h.length_fits k.length_fits one.1 in
    let three = field_unique (length x.links) (length y.links) r q h.links_fit k.links_fit two.1 in
    record { kinds = sym (kind_back x.kind) ∙ ap kind_at one.0 ∙ kind_back y.kind; sizes = two.0; counts = three.0; behind = three.1 }

-- four equal fields are equal functions
same_function : (x y : Func) → x.kind ≡ y.kind → x.bytes ≡ y.bytes → x.links ≡ y.links → x.cuts ≡ y.cuts → x ≡ y
same_function x y p q r s =
    let build : FuncKind → List ℕ → List Link → List ℕ → Func = λ a b c d. record { kind = a; bytes = b; links = c; cuts = d } in
    ap (λ a. build a x.bytes x.links x.cuts) p ∙ ap (λ b. build y.kind b x.links x.cuts) q ∙ ap (λ c. build y.kind y.bytes c x.cuts) r ∙ ap (λ d. build y.kind y.bytes y.links d) s

-- functions without cuts
uncut_same : (x y : Func) (s t : List ℕ) → IsFuncIn Format.One x → IsFuncIn Format.One y → function_bytes_v1 x ++ s ≡ function_bytes_v1 y ++ t → (x ≡ y) × (s ≡ t)
uncut_same x y s t h k e =
    let front = front_tells x y ((x.bytes ++ links_bytes x.links) ++ s) ((y.bytes ++ links_bytes y.links) ++ t) h.0 k.0 e in
    let apart : x.bytes ++ (links_bytes x.links ++ s) ≡ y.bytes ++ (links_bytes y.links ++ t) =
    sym (append_assoc x.bytes (links_bytes x.links) s) ∙ front.behind ∙ append_assoc y.bytes (links_bytes y.links) t in
    let code = same_split x.bytes y.bytes (links_bytes x.links ++ s) (links_bytes y.links ++ t) front.sizes apart in
    let links = row_tells IsLink link_bytes links_bytes links_row link_tells x.links y.links s t front.counts h.0.links k.0.links code.1 in
    (same_function x y front.kinds code.0 links.0 (h.1 ∙ sym k.1), links.1)

-- functions with cuts
cut_same : (x y : Func) (s t : List ℕ) → IsFunc x → IsFunc y → function_bytes x ++ s ≡ function_bytes y ++ t → (x ≡ y) × (s ≡ t)
cut_same x y s t h k e =
    let rows = links_bytes x.links ++ cuts_bytes x.cuts in
    let other = links_bytes y.links ++ cuts_bytes y.cuts in
    let front = front_tells x y (field (length x.cuts) ++ ((x.bytes ++ rows) ++ s)) (field (length y.cuts) ++ ((y.bytes ++ other) ++ t)) h k e in
    let count = field_unique (length x.cuts) (length y.cuts) ((x.bytes ++ rows) ++ s) ((y.bytes ++ other) ++ t) h.cuts_fit k.cuts_fit front.behind in
    let apart : x.bytes ++ (rows ++ s) ≡ y.bytes ++ (other ++ t) =
    sym (append_assoc x.bytes rows s) ∙ count.1 ∙ append_assoc y.bytes other t in
    let code = same_split x.bytes y.bytes (rows ++ s) (other ++ t) front.sizes apart in
    let rows_apart : links_bytes x.links ++ (cuts_bytes x.cuts ++ s) ≡ links_bytes y.links ++ (cuts_bytes y.cuts ++ t) =
    sym (append_assoc (links_bytes x.links) (cuts_bytes x.cuts) s) ∙ code.1 ∙ append_assoc (links_bytes y.links) (cuts_bytes y.cuts) t in
    let links = row_tells IsLink link_bytes links_bytes links_row link_tells x.links y.links (cuts_bytes x.cuts ++ s) (cuts_bytes y.cuts ++ t) front.counts h.links k.links rows_apart in
    let cuts = row_tells IsField field cuts_bytes cuts_row cut_tells x.cuts y.cuts s t count.0 h.cuts k.cuts links.1 in
    (same_function x y front.kinds code.0 links.0 cuts.0, cuts.1)

-- functions
function_tells : (format : Format) → Tells (IsFuncIn format) (function_in format)
function_tells Format.One = record { same = λ x y s t h k e. uncut_same x y s t h k e }
function_tells Format.Two = record { same = λ x y s t h k e. cut_same x y s t h k e }

-- words of eight bytes
word_unique : (n m : ℕ) (x y : List ℕ) → n < 2 ^ 64 → m < 2 ^ 64 → le_bytes 8 n ++ x ≡ le_bytes 8 m ++ y → (n ≡ m) × (x ≡ y)
word_unique n m x y h k e =
    let both = same_split (le_bytes 8 n) (le_bytes 8 m) x y refl e in
    (sym (number_back8 n h) ∙ ap le_number both.0 ∙ number_back8 m k, both.1)

-- seeds and parts
seeded_tells : (format : Format) (a b : Object) → IsObjectIn format a → IsObjectIn format b → seeded_bytes format a ≡ seeded_bytes format b → a ≡ b
seeded_tells format a b u v e =
    let h = u.object in
    let k = v.object in
    let body_a = body_bytes format a.functions a.slots a.ro a.rw in
    let body_b = body_bytes format b.functions b.slots b.ro b.rw in
    let ca = counted_bytes format a.functions a.slots a.ro a.rw in
    let cb = counted_bytes format b.functions b.slots b.ro b.rw in
    let one = word_unique a.slot_seed b.slot_seed (le_bytes 8 a.reg_seed ++ ca) (le_bytes 8 b.reg_seed ++ cb) h.slot_seed k.slot_seed e in
    let two = word_unique a.reg_seed b.reg_seed ca cb h.reg_seed k.reg_seed one.1 in
    let nf = field_unique (length a.functions) (length b.functions) (field (length a.slots) ++ (field (length a.ro) ++ (field (length a.rw) ++ body_a))) (field (length b.slots) ++ (field (length b.ro) ++ (field (length b.rw) ++ body_b))) h.functions_fit k.functions_fit two.1 in
    let ns = field_unique (length a.slots) (length b.slots) (field (length a.ro) ++ (field (length a.rw) ++ body_a)) (field (length b.ro) ++ (field (length b.rw) ++ body_b)) h.slots_fit k.slots_fit nf.1 in
    let nr = field_unique (length a.ro) (length b.ro) (field (length a.rw) ++ body_a) (field (length b.rw) ++ body_b) h.ro_fits k.ro_fits ns.1 in
    let nw = field_unique (length a.rw) (length b.rw) body_a body_b h.rw_fits k.rw_fits nr.1 in
    let fs = row_tells (IsFuncIn format) (function_in format) (functions_bytes (function_in format)) (functions_row (function_in format)) (function_tells format) a.functions b.functions (slots_bytes a.slots ++ (a.ro ++ a.rw)) (slots_bytes b.slots ++ (b.ro ++ b.rw)) nf.0 u.functions v.functions nw.1 in
    let ss = row_tells IsSlot slot_bytes slots_bytes slots_row slot_tells a.slots b.slots (a.ro ++ a.rw) (b.ro ++ b.rw) ns.0 h.slots k.slots fs.1 in
    let last = same_split a.ro b.ro a.rw b.rw nr.0 ss.1 in
    let build : ℕ → ℕ → List Func → List Slot → List ℕ → List ℕ → Object = λ p q f s r w. record { slot_seed = p; reg_seed = q; functions = f; slots = s; ro = r; rw = w } in
    ap (λ p. build p a.reg_seed a.functions a.slots a.ro a.rw) one.0 ∙
    ap (λ q. build b.slot_seed q a.functions a.slots a.ro a.rw) two.0 ∙
    ap (λ f. build b.slot_seed b.reg_seed f a.slots a.ro a.rw) fs.0 ∙
    ap (λ s. build b.slot_seed b.reg_seed b.functions s a.ro a.rw) ss.0 ∙
    ap (λ r. build b.slot_seed b.reg_seed b.functions b.slots r a.rw) last.0 ∙
    ap (λ w. build b.slot_seed b.reg_seed b.functions b.slots b.ro w) last.1

-- whole objects, each in a format
both_tell : (s : List ℕ) (a b : Object) → SpelledIn s a → SpelledIn s b → a ≡ b
both_tell s a b x y =
    let e : magic ++ (field (number_of x.format) ++ seeded_bytes x.format a) ≡ magic ++ (field (number_of y.format) ++ seeded_bytes y.format b) =
    sym (object_in_is x.format a) ∙ sym x.text ∙ y.text ∙ object_in_is y.format b in
    let fixed = same_split magic magic (field (number_of x.format) ++ seeded_bytes x.format a) (field (number_of y.format) ++ seeded_bytes y.format b) refl e in
    let numbers = field_unique (number_of x.format) (number_of y.format) (seeded_bytes x.format a) (seeded_bytes y.format b) (format_small x.format) (format_small y.format) fixed.1 in
    let same : x.format ≡ y.format = format_told x.format y.format numbers.0 in
    seeded_tells y.format a b (subst (λ f. IsObjectIn f a) same x.object) y.object (ap (λ f. seeded_bytes f a) (sym same) ∙ numbers.1)

-- whole objects
pub object_tells : (bytes : List ℕ) (a b : Object) → IsObject a → IsObject b → Spells bytes a → Spells bytes b → a ≡ b
object_tells bytes a b h k p q = both_tell bytes a b (spelled_in bytes a h p) (spelled_in bytes b k q)

-- functions in range
functions_fit : (fs : List Func) → Each IsFunc fs → Each FunctionFits fs
functions_fit [] h = tt
functions_fit (f ∷ fs) h = (record { bytes = h.0.length_fits; links = h.0.links_fit; cuts = h.0.cuts_fit }, functions_fit fs h.1)

-- an object in range has counts that fit
pub object_fits : (o : Object) → IsObject o → CountsFit o
object_fits o h = record { functions = h.functions_fit; slots = h.slots_fit; ro = h.ro_fits; rw = h.rw_fits; each_function = functions_fit o.functions h.functions }
