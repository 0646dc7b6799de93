-- The spellings of an object's parts are texts of their sets, and the spelling of a whole is made of them.
use Rattle.std.proofs.Common.{◌≡◌, ℕ, ◌+◌, ◌<◌, List, [], ◌∷◌, ◌++◌, length, refl, sym, subst, arith}
use Rattle.rd_num.specs.Number.{le_bytes}
use Rattle.obj_core.specs.declared.object.Object.{Object}
use Rattle.obj_core.specs.declared.object.Func.{Func}
use Rattle.obj_core.specs.declared.object.FuncKind.{FuncKind}
use Rattle.obj_core.specs.declared.object.Link.{Link}
use Rattle.obj_core.specs.declared.object.Slot.{Slot}
use Rattle.obj_core.specs.Object.{Each, field, magic, kind_number, functions_bytes, link_bytes, links_bytes, cuts_bytes, slot_bytes, slots_bytes, IsField, IsFunc, IsLink, IsSlot}
use Rattle.obj_file.specs.declared.format.Format.{Format}
use Rattle.obj_file.specs.Texts.{IsNumber, number_of, full, IsLinkText, CodeText, IsFunctionText, IsSlotText, Spans}
use Rattle.obj_file.specs.Spellings.{function_in, code_bytes, object_in, IsFuncIn, IsObjectIn, body_bytes, counted_bytes, seeded_bytes, AreRows, Holds}
use Rattle.obj_file.proofs.Rows.{row_times, links_row, cuts_row, spans_join}

-- the same part, its end written otherwise
pub spans_to : (bytes : List ℕ) (at to end : ℕ) (s : List ℕ) → to ≡ end → Spans bytes at to s → Spans bytes at end s
spans_to bytes at to end s e p = subst (λ k. Spans bytes at k s) e p

-- a link
pub link_text : (x : Link) → IsLink x → IsLinkText (link_bytes x)
link_text x h = record { number = x.at; below = h.at; rest = field x.slot; text = refl; ends = record { number = x.slot; below = h.slot; text = refl } }

-- a slot of each kind
pub slot_text : (s : Slot) → IsSlot s → IsSlotText (slot_bytes s)
slot_text (Slot.Entry t) h = record {
  number = 0;
  below = omega arith;
  rest = field t ++ (field 0 ++ field 0);
  text = refl;
  ends =
      record {
        number = t;
        below = h;
        rest = field 0 ++ field 0;
        text = refl;
        ends =
            record {
              number = 0;
              below = omega arith;
              rest = field 0;
              text = refl;
              ends =
                  record { number = 0; below = omega arith; text = refl };
            };
      };
}
slot_text (Slot.Jump t) h = record {
  number = 1;
  below = omega arith;
  rest = field t ++ (field 0 ++ field 0);
  text = refl;
  ends =
      record {
        number = t;
        below = h;
        rest = field 0 ++ field 0;
        text = refl;
        ends =
            record {
              number = 0;
              below = omega arith;
              rest = field 0;
              text = refl;
              ends =
                  record { number = 0; below = omega arith; text = refl };
            };
      };
}
slot_text (Slot.Call t b) h = record {
  number = 2;
  below = omega arith;
  rest = field t ++ (field b.function ++ field b.offset);
  text = refl;
  ends =
      record {
        number = t;
        below = h.0;
        rest = field b.function ++ field b.offset;
        text = refl;
        ends =
            record {
              number = b.function;
              below = h.1.function;
              rest = field b.offset;
              text = refl;
              ends =
                  record { number = b.offset; below = h.1.offset; text = refl };
            };
      };
}
slot_text (Slot.Indirect b) h = record {
  number = 3;
  below = omega arith;
  rest = field 0 ++ (field b.function ++ field b.offset);
  text = refl;
  ends =
      record {
        number = 0;
        below = omega arith;
        rest = field b.function ++ field b.offset;
        text = refl;
        ends =
            record {
              number = b.function;
              below = h.function;
              rest = field b.offset;
              text = refl;
              ends =
                  record { number = b.offset; below = h.offset; text = refl };
            };
      };
}
slot_text (Slot.System b) h = record {
  number = 4;
  below = omega arith;
  rest = field 0 ++ (field b.function ++ field b.offset);
  text = refl;
  ends =
      record {
        number = 0;
        below = omega arith;
        rest = field b.function ++ field b.offset;
        text = refl;
        ends =
            record {
              number = b.function;
              below = h.function;
              rest = field b.offset;
              text = refl;
              ends =
                  record { number = b.offset; below = h.offset; text = refl };
            };
      };
}

-- there are two kinds of functions
pub kind_below : (k : FuncKind) → kind_number k < 2
kind_below FuncKind.Plain = omega arith
kind_below FuncKind.Saved = omega arith

-- a function's spelling, and what it has behind the number of links
pub function_in_is : (format : Format) (f : Func) → function_in format f ≡ field (kind_number f.kind) ++ (field (length f.bytes) ++ (field (length f.links) ++ code_bytes format f.bytes f.links f.cuts))
function_in_is Format.One f = refl
function_in_is Format.Two f = refl

-- what a format can spell is in range
pub func_is : (format : Format) (f : Func) → IsFuncIn format f → IsFunc f
func_is Format.One f h = h.0
func_is Format.Two f h = h

pub funcs_are : (format : Format) (fs : List Func) → Each (IsFuncIn format) fs → Each IsFunc fs
funcs_are format [] h = tt
funcs_are format (f ∷ fs) h = (func_is format f h.0, funcs_are format fs h.1)

-- a number as a cut
pub cut_text : (n : ℕ) → IsField n → IsNumber full (field n)
cut_text n h = record { number = n; below = h; text = refl }

-- code, links and cuts
pub code_text : (format : Format) (f : Func) → IsFunc f → CodeText format (length f.bytes) (length f.links) (code_bytes format f.bytes f.links f.cuts)
code_text Format.One f h = record {
  first = f.bytes;
  second = links_bytes f.links;
  text = refl;
  begins = record { bytes = h.bytes; size = refl };
  ends = row_times IsLink link_bytes links_bytes IsLinkText links_row f.links link_text h.links;
}
code_text Format.Two f h = record {
  number = length f.cuts;
  below = h.cuts_fit;
  rest = f.bytes ++ (links_bytes f.links ++ cuts_bytes f.cuts);
  text = refl;
  ends =
      record {
        first = f.bytes;
        second = links_bytes f.links ++ cuts_bytes f.cuts;
        text = refl;
        begins = record { bytes = h.bytes; size = refl };
        ends =
            record {
              first = links_bytes f.links;
              second = cuts_bytes f.cuts;
              text = refl;
              begins = row_times IsLink link_bytes links_bytes IsLinkText links_row f.links link_text h.links;
              ends = row_times IsField field cuts_bytes (IsNumber full) cuts_row f.cuts cut_text h.cuts;
            };
      };
}

-- a function
pub function_text : (format : Format) (f : Func) → IsFuncIn format f → IsFunctionText format (function_in format f)
function_text format f k =
    let h = func_is format f k in
    let code = code_bytes format f.bytes f.links f.cuts in
    subst (IsFunctionText format) (sym (function_in_is format f))
    (record {
      number = kind_number f.kind;
      below = kind_below f.kind;
      rest = field (length f.bytes) ++ (field (length f.links) ++ code);
      text = refl;
      ends =
          record {
            number = length f.bytes;
            below = h.length_fits;
            rest = field (length f.links) ++ code;
            text = refl;
            ends = record { number = length f.links; below = h.links_fit; rest = code; text = refl; ends = code_text format f h };
          };
    })

-- code, links and cuts out of their parts
pub uncut_spans : (bytes : List ℕ) (at end size : ℕ) (code : List ℕ) (links : List Link) → Spans bytes at (at + size) code → Spans bytes (at + size) end (links_bytes links) → Spans bytes at end (code_bytes Format.One code links [])
uncut_spans bytes at end size code links p q = spans_join bytes at (at + size) end code (links_bytes links) p q

pub cut_spans : (bytes : List ℕ) (at mid end size count : ℕ) (code : List ℕ) (links : List Link) (cuts : List ℕ) → Spans bytes at (at + 4) (field count) → Spans bytes (at + 4) (at + 4 + size) code → Spans bytes (at + 4 + size) mid (links_bytes links) → Spans bytes mid end (cuts_bytes cuts) → length cuts ≡ count → Spans bytes at end (code_bytes Format.Two code links cuts)
cut_spans bytes at mid end size count code links cuts p q r s is_count =
    let p2 = subst (λ n. Spans bytes at (at + 4) (field n)) (sym is_count) p in
    let rows = spans_join bytes (at + 4 + size) mid end (links_bytes links) (cuts_bytes cuts) r s in
    spans_join bytes at (at + 4) end (field (length cuts)) (code ++ (links_bytes links ++ cuts_bytes cuts)) p2
    (spans_join bytes (at + 4) (at + 4 + size) end code (links_bytes links ++ cuts_bytes cuts) q rows)

-- what was read behind the number of links is in range
pub rows_are : (format : Format) (f : Func) (size count : ℕ) → AreRows format size count f.bytes f.links f.cuts → size < full → count < full → IsFuncIn format f
rows_are format f size count h p q = by_format format refl
  where
    ranges : IsFunc f
    ranges = record {
      bytes = h.raw.bytes;
      links = h.each_link;
      cuts = h.each_cut;
      length_fits = let e = h.raw.size in omega (arith, e, p);
      links_fit = let e = h.links_counted in omega (arith, e, q);
      cuts_fit = h.cuts_fit;
    }

    by_format : (other : Format) → format ≡ other → IsFuncIn other f
    by_format Format.One e = (ranges, h.uncut e)
    by_format Format.Two e = ranges

-- a function out of its parts
pub function_spans : (format : Format) (bytes : List ℕ) (at end kind size count : ℕ) (f : Func) → Spans bytes at (at + 4) (field kind) → Spans bytes (at + 4) (at + 4 + 4) (field size) → Spans bytes (at + 8) (at + 8 + 4) (field count) → Spans bytes (at + 12) end (code_bytes format f.bytes f.links f.cuts) → kind_number f.kind ≡ kind → length f.bytes ≡ size → length f.links ≡ count → Spans bytes at end (function_in format f)
function_spans format bytes at end kind size count f p q r s is_kind is_size is_count =
    let code = code_bytes format f.bytes f.links f.cuts in
    let p2 = subst (λ n. Spans bytes at (at + 4) (field n)) (sym is_kind) p in
    let q2 = subst (λ n. Spans bytes (at + 4) (at + 8) (field n)) (sym is_size) (spans_to bytes (at + 4) (at + 4 + 4) (at + 8) (field size) (omega arith) q) in
    let r2 = subst (λ n. Spans bytes (at + 8) (at + 12) (field n)) (sym is_count) (spans_to bytes (at + 8) (at + 8 + 4) (at + 12) (field count) (omega arith) r) in
    let counted = spans_join bytes (at + 8) (at + 12) end (field (length f.links)) code r2 s in
    let sized = spans_join bytes (at + 4) (at + 8) end (field (length f.bytes)) (field (length f.links) ++ code) q2 counted in
    subst (λ t. Spans bytes at end t) (sym (function_in_is format f))
    (spans_join bytes at (at + 4) end (field (kind_number f.kind)) (field (length f.bytes) ++ (field (length f.links) ++ code)) p2 sized)

-- what follows the counts out of its four parts
pub body_spans : (format : Format) (bytes : List ℕ) (at two three ro_count rw_count : ℕ) (functions : List Func) (slots : List Slot) (ro rw : List ℕ) → Spans bytes at two (functions_bytes (function_in format) functions) → Spans bytes two three (slots_bytes slots) → Spans bytes three (three + ro_count) ro → Spans bytes (three + ro_count) (three + ro_count + rw_count) rw → Spans bytes at (three + ro_count + rw_count) (body_bytes format functions slots ro rw)
body_spans format bytes at two three ro_count rw_count functions slots ro rw p q r s =
    let end = three + ro_count + rw_count in
    let data_part = spans_join bytes three (three + ro_count) end ro rw r s in
    spans_join bytes at two end (functions_bytes (function_in format) functions) (slots_bytes slots ++ (ro ++ rw)) p (spans_join bytes two three end (slots_bytes slots) (ro ++ rw) q data_part)

-- the counts and what follows them
pub counted_spans : (format : Format) (bytes : List ℕ) (at end a b c d : ℕ) (functions : List Func) (slots : List Slot) (ro rw : List ℕ) → Spans bytes at (at + 4) (field a) → Spans bytes (at + 4) (at + 4 + 4) (field b) → Spans bytes (at + 8) (at + 8 + 4) (field c) → Spans bytes (at + 12) (at + 12 + 4) (field d) → Spans bytes (at + 16) end (body_bytes format functions slots ro rw) → length functions ≡ a → length slots ≡ b → length ro ≡ c → length rw ≡ d → Spans bytes at end (counted_bytes format functions slots ro rw)
counted_spans format bytes at end a b c d functions slots ro rw p q r s t is_a is_b is_c is_d =
    let p2 = subst (λ n. Spans bytes at (at + 4) (field n)) (sym is_a) p in
    let q2 = subst (λ n. Spans bytes (at + 4) (at + 8) (field n)) (sym is_b) (spans_to bytes (at + 4) (at + 4 + 4) (at + 8) (field b) (omega arith) q) in
    let r2 = subst (λ n. Spans bytes (at + 8) (at + 12) (field n)) (sym is_c) (spans_to bytes (at + 8) (at + 8 + 4) (at + 12) (field c) (omega arith) r) in
    let s2 = subst (λ n. Spans bytes (at + 12) (at + 16) (field n)) (sym is_d) (spans_to bytes (at + 12) (at + 12 + 4) (at + 16) (field d) (omega arith) s) in
    let body = body_bytes format functions slots ro rw in
    let four = spans_join bytes (at + 12) (at + 16) end (field (length rw)) body s2 t in
    let three = spans_join bytes (at + 8) (at + 12) end (field (length ro)) (field (length rw) ++ body) r2 four in
    let two = spans_join bytes (at + 4) (at + 8) end (field (length slots)) (field (length ro) ++ (field (length rw) ++ body)) q2 three in
    spans_join bytes at (at + 4) end (field (length functions)) (field (length slots) ++ (field (length ro) ++ (field (length rw) ++ body))) p2 two

-- the seeds and what follows them
pub seeded_spans : (format : Format) (bytes : List ℕ) (at end : ℕ) (o : Object) → Spans bytes at (at + 8) (le_bytes 8 o.slot_seed) → Spans bytes (at + 8) (at + 8 + 8) (le_bytes 8 o.reg_seed) → Spans bytes (at + 16) end (counted_bytes format o.functions o.slots o.ro o.rw) → Spans bytes at end (seeded_bytes format o)
seeded_spans format bytes at end o q r s =
    let counted = counted_bytes format o.functions o.slots o.ro o.rw in
    let r2 = spans_to bytes (at + 8) (at + 8 + 8) (at + 16) (le_bytes 8 o.reg_seed) (omega arith) r in
    let three = spans_join bytes (at + 8) (at + 16) end (le_bytes 8 o.reg_seed) counted r2 s in
    spans_join bytes at (at + 8) end (le_bytes 8 o.slot_seed) (le_bytes 8 o.reg_seed ++ counted) q three

-- an object's spelling, part after part
pub object_in_is : (format : Format) (o : Object) → object_in format o ≡ magic ++ (field (number_of format) ++ seeded_bytes format o)
object_in_is Format.One o = refl
object_in_is Format.Two o = refl

-- the whole file
pub object_holds : (format : Format) (bytes : List ℕ) (end : ℕ) (o : Object) → IsObjectIn format o → Spans bytes 0 4 magic → Spans bytes 4 8 (field (number_of format)) → Spans bytes 8 end (seeded_bytes format o) → Holds bytes end o
object_holds format bytes end o h p q r =
    let two = spans_join bytes 4 8 end (field (number_of format)) (seeded_bytes format o) q r in
    record {
      format = format;
      object = h;
      spans = subst (λ s. Spans bytes 0 end s) (sym (object_in_is format o)) (spans_join bytes 0 4 end magic (field (number_of format) ++ seeded_bytes format o) p two);
    }
