-- The texts of an object's set are the spellings of objects, and each spelling of an object is one.
use Rattle.std.proofs.Common.{◌≡◌, ℕ, zero, suc, ◌*◌, ◌/◌, ◌<◌, ◌^◌, List, [], ◌∷◌, ◌++◌, length, refl, sym, ◌∙◌, ap, subst, arith, inl, inr}
use Rattle.std.specs.Prelude.{nat_le}
use Rattle.std.proofs.Math.Nat.{pow-succ'}
use Rattle.rd_num.specs.Number.{le_bytes, le_number}
use Rattle.x86_core.proofs.Parts.{bytes_back}
use Rattle.obj_core.specs.declared.object.Object.{Object}
use Rattle.obj_core.specs.declared.object.Func.{Func}
use Rattle.obj_core.specs.declared.object.FuncKind.{FuncKind}
use Rattle.obj_core.specs.declared.object.Link.{Link}
use Rattle.obj_core.specs.declared.object.Slot.{Slot}
use Rattle.obj_core.specs.Object.{Each, IsByte, field, magic, kind_number, functions_bytes, link_bytes, links_bytes, cuts_bytes, slot_fields, slot_bytes, slots_bytes, IsField, IsFunc, IsUncut, IsLink, IsSlot, IsObject, Spells}
use Rattle.obj_file.specs.declared.format.Format.{Format}
use Rattle.obj_file.specs.Texts.{IsRaw, IsNumber, number_of, Times, full, limit_if, IsLinkText, CodeText, IsFunctionText, IsSlotText, BodyText, AfterRo, AfterSlots, AfterFunctions, CountedText, SlotSeedText, IsObjectText}
use Rattle.obj_file.specs.Spellings.{function_in, code_bytes, object_in, IsFuncIn, IsObjectIn, body_bytes, counted_bytes, seeded_bytes, AreRows}
use Rattle.obj_file.proofs.Primitive.{bytes_of_each}
use Rattle.obj_file.proofs.Rows.{IsRow, row_times, links_row, cuts_row, slots_row, functions_row}
use Rattle.obj_file.proofs.Parts.{slot_text, function_text, function_in_is, funcs_are, rows_are, object_in_is}

-- a text that spells an item
pub record Spelled {T : Type 0} (P : T → Type 0) (one : T → List ℕ) (s : List ℕ) : Type 0 where
  pub item : T
  pub holds : P item
  pub text : s ≡ one item

-- a text that spells a row of items
pub record RowSpelled {T : Type 0} (P : T → Type 0) (all : List T → List ℕ) (n : ℕ) (s : List ℕ) : Type 0 where
  pub items : List T
  pub each : Each P items
  pub count : length items ≡ n
  pub text : s ≡ all items

-- a row of texts spells a row of items
row_spelled : {T : Type 0} (P : T → Type 0) (one : T → List ℕ) (all : List T → List ℕ) (L : List ℕ → Type 0) (r : IsRow one all) → ((s : List ℕ) → L s → Spelled P one s) → (n : ℕ) (s : List ℕ) → Times L n s → RowSpelled P all n s
row_spelled P one all L r each zero s h = record { items = []; each = tt; count = refl; text = h.same ∙ sym r.none }
row_spelled P one all L r each (suc n) s h =
    let first = each h.first h.begins in
    let rest = row_spelled P one all L r each n h.second h.ends in
    record {
      items = first.item ∷ rest.items;
      each = (first.holds, rest.each);
      count = ap suc rest.count;
      text = h.text ∙ ap (λ z. z ++ h.second) first.text ∙ ap (λ z. one first.item ++ z) rest.text ∙ sym (r.more first.item rest.items);
    }

-- a link
link_spelled : (s : List ℕ) → IsLinkText s → Spelled IsLink link_bytes s
link_spelled s h = record {
  item = record { at = h.number; slot = h.ends.number };
  holds = record { at = h.below; slot = h.ends.below };
  text = h.text ∙ ap (λ z. field h.number ++ z) h.ends.text;
}

-- the kind of a number
pub kind_at : ℕ → FuncKind
kind_at zero = FuncKind.Plain
kind_at (suc n) = FuncKind.Saved

-- a kind's number
kind_at_number : (k : ℕ) → k < 2 → kind_number (kind_at k) ≡ k
unfolding kind_at
kind_at_number zero h = refl
kind_at_number (suc zero) h = refl
kind_at_number (suc (suc k)) h = absurd (omega arith)

-- a number's kind
pub kind_back : (k : FuncKind) → kind_at (kind_number k) ≡ k
unfolding kind_at
kind_back FuncKind.Plain = refl
kind_back FuncKind.Saved = refl

-- a cut
cut_spelled : (s : List ℕ) → IsNumber full s → Spelled IsField field s
cut_spelled s h = record { item = h.number; holds = h.below; text = h.text }

-- what follows the number of links, spelled
record CodeSpelled (format : Format) (size count : ℕ) (s : List ℕ) : Type 0 where
  bytes : List ℕ
  links : List Link
  cuts : List ℕ
  rows : AreRows format size count bytes links cuts
  text : s ≡ code_bytes format bytes links cuts

-- a text of it
code_spelled : (format : Format) (size count : ℕ) (s : List ℕ) → CodeText format size count s → CodeSpelled format size count s
code_spelled Format.One size count s h =
    let links = row_spelled IsLink link_bytes links_bytes IsLinkText links_row link_spelled count h.second h.ends in
    record {
      bytes = h.first;
      links = links.items;
      cuts = [];
      rows = record { raw = h.begins; each_link = links.each; each_cut = tt; links_counted = links.count; cuts_fit = omega arith; uncut = λ e. refl };
      text = h.text ∙ ap (λ z. h.first ++ z) links.text;
    }
code_spelled Format.Two size count s h =
    let code = h.ends in
    let behind = code.ends in
    let links = row_spelled IsLink link_bytes links_bytes IsLinkText links_row link_spelled count behind.first behind.begins in
    let cuts = row_spelled IsField field cuts_bytes (IsNumber full) cuts_row cut_spelled h.number behind.second behind.ends in
    record {
      bytes = code.first;
      links = links.items;
      cuts = cuts.items;
      rows = record {
        raw = code.begins;
        each_link = links.each;
        each_cut = cuts.each;
        links_counted = links.count;
        cuts_fit = let b = h.below in let e = cuts.count in omega (arith, b, e);
        uncut = λ e. absurd (no_two e);
      };
      text = h.text ∙ ap (λ n. field n ++ h.rest) (sym cuts.count) ∙ ap (λ z. field (length cuts.items) ++ z)
          (code.text ∙ ap (λ z. code.first ++ z) (behind.text ∙ ap (λ z. z ++ behind.second) links.text ∙ ap (λ z. links_bytes links.items ++ z) cuts.text));
    }
  where
    no_two : Format.Two ≡ Format.One → ⊥
    no_two e = cc

-- a function
function_spelled : (format : Format) (s : List ℕ) → IsFunctionText format s → Spelled (IsFuncIn format) (function_in format) s
function_spelled format s h =
    let size = h.ends in
    let count = size.ends in
    let code = code_spelled format size.number count.number count.rest count.ends in
    let f : Func = record { kind = kind_at h.number; bytes = code.bytes; links = code.links; cuts = code.cuts } in
    let text : s ≡ field (kind_number f.kind) ++ (field (length f.bytes) ++ (field (length f.links) ++ code_bytes format f.bytes f.links f.cuts)) =
    h.text ∙ ap (λ n. field n ++ h.rest) (sym (kind_at_number h.number h.below)) ∙
    ap (λ z. field (kind_number f.kind) ++ z)
    (size.text ∙ ap (λ n. field n ++ size.rest) (sym code.rows.raw.size) ∙
    ap (λ z. field (length f.bytes) ++ z)
    (count.text ∙ ap (λ n. field n ++ count.rest) (sym code.rows.links_counted) ∙
    ap (λ z. field (length f.links) ++ z) code.text)) in
    record {
      item = f;
      holds = rows_are format f size.number count.number code.rows size.below count.below;
      text = text ∙ sym (function_in_is format f);
    }

-- the slot of four fields
slot_built : (k t f o : ℕ) → k < 5 → t < limit_if (nat_le k 2) → f < limit_if (nat_le 2 k) → o < limit_if (nat_le 2 k) → Spelled IsSlot slot_bytes (slot_fields k t f o)
slot_built zero t f o h a b c =
    let e : f ≡ 0 = omega arith in let g : o ≡ 0 = omega arith in
    record { item = Slot.Entry t; holds = a; text = ap (λ n. slot_fields 0 t n o) e ∙ ap (λ n. slot_fields 0 t 0 n) g }
slot_built (suc zero) t f o h a b c =
    let e : f ≡ 0 = omega arith in let g : o ≡ 0 = omega arith in
    record { item = Slot.Jump t; holds = a; text = ap (λ n. slot_fields 1 t n o) e ∙ ap (λ n. slot_fields 1 t 0 n) g }
slot_built (suc (suc zero)) t f o h a b c =
    record { item = Slot.Call t (record { function = f; offset = o }); holds = (a, record { function = b; offset = c }); text = refl }
slot_built (suc (suc (suc zero))) t f o h a b c =
    let e : t ≡ 0 = omega arith in
    record { item = Slot.Indirect (record { function = f; offset = o }); holds = record { function = b; offset = c }; text = ap (λ n. slot_fields 3 n f o) e }
slot_built (suc (suc (suc (suc zero)))) t f o h a b c =
    let e : t ≡ 0 = omega arith in
    record { item = Slot.System (record { function = f; offset = o }); holds = record { function = b; offset = c }; text = ap (λ n. slot_fields 4 n f o) e }
slot_built (suc (suc (suc (suc (suc k))))) t f o h a b c = absurd (omega arith)

-- a slot
slot_spelled : (s : List ℕ) → IsSlotText s → Spelled IsSlot slot_bytes s
slot_spelled s h =
    let target = h.ends in
    let back = target.ends in
    let offset = back.ends in
    let built = slot_built h.number target.number back.number offset.number h.below target.below back.below offset.below in
    record {
      item = built.item;
      holds = built.holds;
      text = h.text ∙ ap (λ z. field h.number ++ z) (target.text ∙ ap (λ z. field target.number ++ z) (back.text ∙ ap (λ z. field back.number ++ z) offset.text)) ∙ built.text;
    }

-- bytes spell a number that is as small as they are few
number_small : (xs : List ℕ) → Each IsByte xs → le_number xs < 256 ^ length xs
number_small [] h = omega arith
number_small (x ∷ xs) h =
    let a : x < 256 = h.0 in
    let b : le_number xs < 256 ^ length xs = number_small xs h.1 in
    let e : 256 ^ suc (length xs) ≡ 256 * 256 ^ length xs = pow-succ' 256 (length xs) in
    omega arith

-- eight bytes are a word
word_spelled : (s : List ℕ) → IsRaw 8 s → Spelled (λ n. n < 2 ^ 64) (le_bytes 8) s
word_spelled s h = record {
  item = le_number s;
  holds = subst (λ k. le_number s < 256 ^ k) h.size (number_small s h.bytes);
  text = sym (ap (λ j. le_bytes j (le_number s)) (sym h.size) ∙ bytes_back s (bytes_of_each s h.bytes));
}

-- what follows the format is the spelling of an object's seeds and parts
seeded_spelled : (format : Format) (s : List ℕ) → SlotSeedText format s → Spelled (IsObjectIn format) (seeded_bytes format) s
seeded_spelled format s seeds =
    let slot_seed = word_spelled seeds.first seeds.begins in
    let reg_seed = word_spelled seeds.ends.first seeds.ends.begins in
    let a = seeds.ends.ends in
    let b = a.ends in
    let c = b.ends in
    let d = c.ends in
    let body = d.ends in
    let functions = row_spelled (IsFuncIn format) (function_in format) (functions_bytes (function_in format)) (IsFunctionText format) (functions_row (function_in format)) (function_spelled format) a.number body.first body.begins in
    let slots = row_spelled IsSlot slot_bytes slots_bytes IsSlotText slots_row slot_spelled b.number body.ends.first body.ends.begins in
    let both = body.ends.ends in
    let o : Object = record { slot_seed = slot_seed.item; reg_seed = reg_seed.item; functions = functions.items; slots = slots.items; ro = both.first; rw = both.second } in
    let body_text : d.rest ≡ body_bytes format o.functions o.slots o.ro o.rw =
    body.text ∙ ap (λ z. z ++ body.second) functions.text ∙
    ap (λ z. functions_bytes (function_in format) o.functions ++ z) (body.ends.text ∙ ap (λ z. z ++ body.ends.second) slots.text ∙ ap (λ z. slots_bytes o.slots ++ z) both.text) in
    let counted : seeds.ends.second ≡ counted_bytes format o.functions o.slots o.ro o.rw =
    a.text ∙ ap (λ n. field n ++ a.rest) (sym functions.count) ∙ ap (λ z. field (length o.functions) ++ z)
    (b.text ∙ ap (λ n. field n ++ b.rest) (sym slots.count) ∙ ap (λ z. field (length o.slots) ++ z)
    (c.text ∙ ap (λ n. field n ++ c.rest) (sym both.begins.size) ∙ ap (λ z. field (length o.ro) ++ z)
    (d.text ∙ ap (λ n. field n ++ d.rest) (sym both.ends.size) ∙ ap (λ z. field (length o.rw) ++ z) body_text))) in
    record {
      item = o;
      holds = record {
        object = record {
          slot_seed = slot_seed.holds;
          reg_seed = reg_seed.holds;
          functions = funcs_are format functions.items functions.each;
          slots = slots.each;
          ro = both.begins.bytes;
          rw = both.ends.bytes;
          functions_fit = let x = a.below in let y = functions.count in omega arith;
          slots_fit = let x = b.below in let y = slots.count in omega arith;
          ro_fits = let x = c.below in let y = both.begins.size in omega arith;
          rw_fits = let x = d.below in let y = both.ends.size in omega arith;
        };
        functions = functions.each;
      };
      text = seeds.text ∙ ap (λ z. z ++ seeds.second) slot_seed.text ∙ ap (λ z. le_bytes 8 o.slot_seed ++ z)
          (seeds.ends.text ∙ ap (λ z. z ++ seeds.ends.second) reg_seed.text ∙ ap (λ z. le_bytes 8 o.reg_seed ++ z) counted);
    }

-- functions that a format can spell have no cuts in format 1
uncut_each : (fs : List Func) → Each (IsFuncIn Format.One) fs → Each IsUncut fs
uncut_each [] h = tt
uncut_each (f ∷ fs) h = (h.0.1, uncut_each fs h.1)

-- an object's spelling in a format is one of its spellings
pub spells_in : (format : Format) (o : Object) (s : List ℕ) → IsObjectIn format o → s ≡ object_in format o → Spells s o
spells_in Format.One o s h e = inr (uncut_each o.functions h.functions, e)
spells_in Format.Two o s h e = inl e

-- a text that spells an object
pub record ObjectSpelled (s : List ℕ) : Type 0 where
  pub item : Object
  pub holds : IsObject item
  pub text : Spells s item

-- each text of the set is the spelling of an object
pub object_spelled : (s : List ℕ) → IsObjectText s → ObjectSpelled s
object_spelled s h =
    let format = h.ends.format in
    let seeded = seeded_spelled format h.ends.rest h.ends.ends in
    let text : s ≡ magic ++ (field (number_of format) ++ seeded_bytes format seeded.item) =
    h.text ∙ ap (λ z. z ++ h.second) h.begins.same ∙ ap (λ z. magic ++ z) (h.ends.text ∙ ap (λ z. field (number_of format) ++ z) seeded.text) in
    record {
      item = seeded.item;
      holds = seeded.holds.object;
      text = spells_in format seeded.item s seeded.holds (text ∙ sym (object_in_is format seeded.item));
    }

-- a number's bytes
pub word_raw : (k n : ℕ) → IsRaw k (le_bytes k n)
word_raw zero n = record { bytes = tt; size = refl }
word_raw (suc k) n =
    let rest = word_raw k (n / 256) in
    record { bytes = (omega arith, rest.bytes); size = ap suc rest.size }

-- the spelling of an object's seeds and parts is a text of the set
seeded_text : (format : Format) (o : Object) → IsObjectIn format o → SlotSeedText format (seeded_bytes format o)
seeded_text format o k =
    let h = k.object in
    let body = body_bytes format o.functions o.slots o.ro o.rw in
    let d = field (length o.rw) ++ body in
    let c = field (length o.ro) ++ d in
    let b = field (length o.slots) ++ c in
    let a = field (length o.functions) ++ b in
    let parts : BodyText format (length o.functions) (length o.slots) (length o.ro) (length o.rw) body = record {
      first = functions_bytes (function_in format) o.functions;
      second = slots_bytes o.slots ++ (o.ro ++ o.rw);
      text = refl;
      begins = row_times (IsFuncIn format) (function_in format) (functions_bytes (function_in format)) (IsFunctionText format) (functions_row (function_in format)) o.functions (function_text format) k.functions;
      ends =
          record {
            first = slots_bytes o.slots;
            second = o.ro ++ o.rw;
            text = refl;
            begins = row_times IsSlot slot_bytes slots_bytes IsSlotText slots_row o.slots slot_text h.slots;
            ends = record { first = o.ro; second = o.rw; text = refl; begins = record { bytes = h.ro; size = refl }; ends = record { bytes = h.rw; size = refl } };
          };
    } in
    let after_ro : AfterRo format (length o.functions) (length o.slots) (length o.ro) d = record { number = length o.rw; below = h.rw_fits; rest = body; text = refl; ends = parts } in
    let after_slots : AfterSlots format (length o.functions) (length o.slots) c = record { number = length o.ro; below = h.ro_fits; rest = d; text = refl; ends = after_ro } in
    let after_functions : AfterFunctions format (length o.functions) b = record { number = length o.slots; below = h.slots_fit; rest = c; text = refl; ends = after_slots } in
    let counted : CountedText format a = record { number = length o.functions; below = h.functions_fit; rest = b; text = refl; ends = after_functions } in
    record {
      first = le_bytes 8 o.slot_seed;
      second = le_bytes 8 o.reg_seed ++ a;
      text = refl;
      begins = word_raw 8 o.slot_seed;
      ends = record { first = le_bytes 8 o.reg_seed; second = a; text = refl; begins = word_raw 8 o.reg_seed; ends = counted };
    }

-- functions in range, as functions that a format can spell
uncut_funcs : (fs : List Func) → Each IsFunc fs → Each IsUncut fs → Each (IsFuncIn Format.One) fs
uncut_funcs [] h k = tt
uncut_funcs (f ∷ fs) h k = ((h.0, k.0), uncut_funcs fs h.1 k.1)

cut_funcs : (fs : List Func) → Each IsFunc fs → Each (IsFuncIn Format.Two) fs
cut_funcs [] h = tt
cut_funcs (f ∷ fs) h = (h.0, cut_funcs fs h.1)

-- the format in which bytes spell an object
pub record SpelledIn (s : List ℕ) (o : Object) : Type 0 where
  pub format : Format
  pub object : IsObjectIn format o
  pub text : s ≡ object_in format o

pub spelled_in : (s : List ℕ) (o : Object) → IsObject o → Spells s o → SpelledIn s o
spelled_in s o h (inl e) = record { format = Format.Two; object = record { object = h; functions = cut_funcs o.functions h.functions }; text = e }
spelled_in s o h (inr (uncut, e)) = record { format = Format.One; object = record { object = h; functions = uncut_funcs o.functions h.functions uncut }; text = e }

-- the spelling of an object is a text of the set
pub object_text : (s : List ℕ) (o : Object) → IsObject o → Spells s o → IsObjectText s
object_text s o h k =
    let x = spelled_in s o h k in
    subst IsObjectText (sym (x.text ∙ object_in_is x.format o))
    (record {
      first = magic;
      second = field (number_of x.format) ++ seeded_bytes x.format o;
      text = refl;
      begins = record { same = refl };
      ends = record { format = x.format; rest = seeded_bytes x.format o; text = refl; ends = seeded_text x.format o x.object };
    })
