-- Bytes, words and fields in a file, and where bytes leave their sets.
use Rattle.std.proofs.Common.{◌≡◌, ◌≢◌, ℕ, suc, ◌+◌, ◌-◌, ◌/◌, ◌%◌, ◌<◌, ◌≤◌, ◌^◌, List, [], ◌∷◌, ◌++◌, length, get_or, take, drop, replicate, refl, sym, ◌∙◌, ap, subst, arith, length-append}
use Rattle.std.specs.List.{All}
use Rattle.std.proofs.lemmas.List.{append_cancel_left, append-nil, take-append-drop, length-take-le, length-drop, drop_more, drop-drop, get_or-drop, take_more, length-replicate, take_all, take_rest}
use Rattle.std.proofs.lemmas.Result.{err_from_is_err_and}
use Rattle.std.proofs.Common.{Result, IfErr}
use Rattle.std.specs.Result.{IsErrAnd}
use Rattle.std.proofs.lemmas.List.Elements.{All-head, All-tail, All-drop, All-take}
use Rattle.rd_num.specs.Number.{le_bytes, le_number}
use Rattle.x86_core.proofs.Parts.{IsBytes, bytes_back}
use Rattle.obj_core.specs.Object.{Each, IsByte, field}
use Rattle.obj_core.proofs.Spelling.{each_append}
use Rattle.obj_file.specs.declared.fault.FormFault.{FormFault}
use Rattle.obj_file.specs.declared.format.Format.{Format}
use Rattle.obj_file.specs.Texts.{IsText, IsRaw, IsNumber, IsFormat, number_of, full, Spans, NoneBegins, LeavesAt, Fault}
use Rattle.obj_file.proofs.Good.{each_replicate}
use Rattle.obj_file.proofs.Leaving.{fault_past}

-- a fault that names the place where bytes leave
pub fault_at : (L : List ℕ → Type 0) (bytes : List ℕ) (at place : ℕ) → LeavesAt L bytes at place → Fault L bytes at (FormFault.At place)
fault_at L bytes at place v = record {
  left = λ p is. let same : place ≡ p = cc in subst (λ q. LeavesAt L bytes at q) same v;
}

-- want of memory names no place
pub fault_memory : (L : List ℕ → Type 0) (bytes : List ℕ) (at : ℕ) (e : FormFault) → e ≡ FormFault.NoMemory → Fault L bytes at e
fault_memory L bytes at e is = record { left = λ p e2. absurd (cc) }

-- what holds at each index holds of each item
pub each_from_all : (P : ℕ → Type 0) (xs : List ℕ) → All P xs → Each P xs
each_from_all P [] h = tt
each_from_all P (x ∷ xs) h = (All-head P x xs h, each_from_all P xs (All-tail P x xs h))

-- bytes, as the laws of numbers name them
pub bytes_of_each : (xs : List ℕ) → Each IsByte xs → IsBytes xs
bytes_of_each [] h = tt
bytes_of_each (x ∷ xs) h = (h.0, bytes_of_each xs h.1)

-- a part of a file as a row of bytes
pub part_spans : (bytes : List ℕ) (at n : ℕ) → at + n ≤ length bytes → Spans bytes at (at + n) (take n (drop at bytes))
part_spans bytes at n h =
    let long : length (take n (drop at bytes)) ≡ n = length-take-le n (drop at bytes) (let e = length-drop at bytes in omega arith) in
    record {
      text = sym (take-append-drop n (drop at bytes)) ∙ ap (λ z. take n (drop at bytes) ++ z) (drop-drop n at bytes);
      size = omega arith;
      within = h;
    }

-- a part of a file is bytes
pub part_raw : (bytes : List ℕ) (at n : ℕ) → All (λ b. b < 256) bytes → at + n ≤ length bytes → IsRaw n (take n (drop at bytes))
part_raw bytes at n all h = record {
  bytes = each_from_all IsByte (take n (drop at bytes)) (All-take (λ b. b < 256) n (drop at bytes) (All-drop (λ b. b < 256) at bytes all));
  size = length-take-le n (drop at bytes) (let e = length-drop at bytes in omega arith);
}

-- a number that a part spells
pub number_spans : (bytes : List ℕ) (at k n : ℕ) → All (λ b. b < 256) bytes → at + k ≤ length bytes → n ≡ le_number (take k (drop at bytes)) → Spans bytes at (at + k) (le_bytes k n)
number_spans bytes at k n all h e =
    let raw = part_raw bytes at k all h in
    let part = take k (drop at bytes) in
    let back : le_bytes k n ≡ part =
    ap (λ m. le_bytes k m) e ∙ ap (λ j. le_bytes j (le_number part)) (sym raw.size) ∙ bytes_back part (bytes_of_each part raw.bytes) in
    subst (λ s. Spans bytes at (at + k) s) (sym back) (part_spans bytes at k h)

-- zeros that fill a row
filled_to : (rest : List ℕ) (k : ℕ) → length rest < k → length (rest ++ 0 ∷ replicate (k - length rest - 1) 0) ≡ k
filled_to rest k h =
    let zeros : List ℕ = replicate (k - length rest - 1) 0 in
    let e : length zeros ≡ k - length rest - 1 = length-replicate {A = ℕ} (k - length rest - 1) 0 in
    let f : length (rest ++ 0 ∷ zeros) ≡ length rest + suc (length zeros) = length-append rest (0 ∷ zeros) in
    omega arith

-- a file that is too short for a row of bytes
pub short_leaves : (L : List ℕ → Type 0) (k : ℕ) (bytes : List ℕ) (at : ℕ) → ((s : List ℕ) → IsRaw k s → L s) → All (λ b. b < 256) bytes → at ≤ length bytes → length bytes < at + k → LeavesAt L bytes at (length bytes)
short_leaves L k bytes at made all within short =
    let rest = drop at bytes in
    let long : length rest ≡ length bytes - at = length-drop at bytes in
    let missing = k - length rest - 1 in
    let each = each_from_all IsByte rest (All-drop (λ b. b < 256) at bytes all) in
    let zeros : Each IsByte (0 ∷ replicate missing 0) = (omega arith, each_replicate IsByte missing 0 (omega arith)) in
    let filled : length (rest ++ 0 ∷ replicate missing 0) ≡ k = filled_to rest k (omega arith) in
    record {
      inside = length rest;
      is = omega arith;
      leaves = record {
        front = rest;
        others = [];
        split = sym (append-nil rest);
        size = refl;
        next = 0;
        more = replicate missing 0;
        goes_on = made (rest ++ 0 ∷ replicate missing 0) (record { bytes = each_append IsByte rest (0 ∷ replicate missing 0) each zeros; size = filled });
        wrong = tt;
      };
    }

-- any four bytes are a field
small_number : (s : List ℕ) → Each IsByte s → length s ≡ 4 → le_number s < 2 ^ 32
small_number [] h e = absurd (omega arith)
small_number (a ∷ []) h e = absurd (omega arith)
small_number (a ∷ b ∷ []) h e = absurd (omega arith)
small_number (a ∷ b ∷ c ∷ []) h e = absurd (omega arith)
small_number (a ∷ b ∷ c ∷ d ∷ []) h e =
    let p : a < 256 = h.0 in let q : b < 256 = h.1.0 in let r : c < 256 = h.1.1.0 in let t : d < 256 = h.1.1.1.0 in omega arith
small_number (a ∷ b ∷ c ∷ d ∷ x ∷ s) h e = absurd (omega arith)

-- four bytes are a field
pub raw_number : (s : List ℕ) → IsRaw 4 s → IsNumber full s
raw_number s h = record {
  number = le_number s;
  below = small_number s h.bytes h.size;
  text = sym (ap (λ j. le_bytes j (le_number s)) (sym h.size) ∙ bytes_back s (bytes_of_each s h.bytes));
}

-- a row of bytes is itself
same_raw : (k : ℕ) (s : List ℕ) → IsRaw k s → IsRaw k s
same_raw k s h = h

-- the file is too short
pub record IsShort (bytes : List ℕ) (at size : ℕ) (e : FormFault) : Type 0 where
  pub all : All (λ b. b < 256) bytes
  pub within : at ≤ length bytes
  pub short : length bytes < at + size
  pub is : e ≡ FormFault.At (length bytes)

-- the fault of a file that is too short
short_fault : (L : List ℕ → Type 0) (bytes : List ℕ) (at size : ℕ) (e : FormFault) → ((s : List ℕ) → IsRaw size s → L s) → IsShort bytes at size e → Fault L bytes at e
short_fault L bytes at size e made h =
    subst (λ f. Fault L bytes at f) (sym h.is) (fault_at L bytes at (length bytes) (short_leaves L size bytes at made h.all h.within h.short))

-- too short for a row of bytes
pub raw_fault : (bytes : List ℕ) (at size : ℕ) (e : FormFault) → IsShort bytes at size e → Fault (IsRaw size) bytes at e
raw_fault bytes at size e h = short_fault (IsRaw size) bytes at size e (same_raw size) h

-- too short for a field
pub field_fault : (bytes : List ℕ) (at : ℕ) (e : FormFault) → IsShort bytes at 4 e → Fault (IsNumber full) bytes at e
field_fault bytes at e h = short_fault (IsNumber full) bytes at 4 e raw_number h

-- what an open part of a file is
pub rest_number : (bytes : List ℕ) (at k n : ℕ) → n ≡ le_number (take k (take (length bytes - at) (drop at bytes))) → n ≡ le_number (take k (drop at bytes))
rest_number bytes at k n e = e ∙ ap (λ z. le_number (take k z)) (take_rest bytes at)

-- fixed bytes: one more stands there
pub one_more : (bytes wanted : List ℕ) (at i : ℕ) → take i wanted ≡ take i (drop at bytes) → i < length wanted → at + i < length bytes → get_or bytes (at + i) 0 ≡ get_or wanted i 0 → take (i + 1) wanted ≡ take (i + 1) (drop at bytes)
one_more bytes wanted at i h inside within same =
    let room : i < length (drop at bytes) = let e = length-drop at bytes in omega arith in
    take_more wanted i 0 inside ∙ ap (λ z. z ++ get_or wanted i 0 ∷ []) h ∙
    ap (λ c. take i (drop at bytes) ++ c ∷ []) (sym same ∙ sym (get_or-drop at bytes i 0)) ∙
    sym (take_more (drop at bytes) i 0 room)

-- fixed bytes: all of them stand there
pub all_stand : (bytes wanted : List ℕ) (at i : ℕ) → i ≡ length wanted → take i wanted ≡ take i (drop at bytes) → at + i ≤ length bytes → Spans bytes at (at + length wanted) wanted
all_stand bytes wanted at i e h within =
    let whole : take i wanted ≡ wanted = take_all i wanted (omega arith) in
    subst (λ n. Spans bytes at (at + n) wanted) e (subst (λ s. Spans bytes at (at + i) s) (sym h ∙ whole) (part_spans bytes at i within))

-- a list around one of its items
split_text : (wanted : List ℕ) (i : ℕ) → i < length wanted → wanted ≡ take i wanted ++ get_or wanted i 0 ∷ drop (i + 1) wanted
split_text wanted i h = sym (take-append-drop i wanted) ∙ ap (λ z. take i wanted ++ z) (drop_more wanted i 0 h)

-- fixed bytes don't go on with another byte
none_text : (wanted others front : List ℕ) (i : ℕ) → front ≡ take i wanted → i < length wanted → ((b : ℕ) (bs : List ℕ) → others ≡ b ∷ bs → b ≢ get_or wanted i 0) → NoneBegins (IsText wanted) front others
none_text wanted [] front i e h w = tt
none_text wanted (b ∷ bs) front i e h w =
    λ rest t.
    let same : front ++ b ∷ rest ≡ front ++ get_or wanted i 0 ∷ drop (i + 1) wanted = t.same ∙ split_text wanted i h ∙ ap (λ z. z ++ get_or wanted i 0 ∷ drop (i + 1) wanted) (sym e) in
    let tails : b ∷ rest ≡ get_or wanted i 0 ∷ drop (i + 1) wanted = append_cancel_left front (b ∷ rest) (get_or wanted i 0 ∷ drop (i + 1) wanted) same in
    w b bs refl (let c : b ≡ get_or wanted i 0 = cc in c)

-- fixed bytes: the first that doesn't stand there
text_leaves : (bytes wanted : List ℕ) (at i : ℕ) → take i wanted ≡ take i (drop at bytes) → i < length wanted → at + i ≤ length bytes → (at + i < length bytes → get_or bytes (at + i) 0 ≢ get_or wanted i 0) → LeavesAt (IsText wanted) bytes at (at + i)
text_leaves bytes wanted at i h inside within wrong =
    let rest = drop at bytes in
    let long : length rest ≡ length bytes - at = length-drop at bytes in
    record {
      inside = i;
      is = refl;
      leaves = record {
        front = take i wanted;
        others = drop i rest;
        split = sym (take-append-drop i rest) ∙ ap (λ z. z ++ drop i rest) (sym h);
        size = sym (length-take-le i wanted (omega arith));
        next = get_or wanted i 0;
        more = drop (i + 1) wanted;
        goes_on = record { same = sym (split_text wanted i inside) };
        wrong = none_text wanted (drop i rest) (take i wanted) i refl inside (λ b bs e. differs b bs e);
      };
    }
  where
    differs : (b : ℕ) (bs : List ℕ) → drop i (drop at bytes) ≡ b ∷ bs → b ≢ get_or wanted i 0
    differs b bs e =
        let some : length (drop i (drop at bytes)) ≡ suc (length bs) = ap length e in
        let long : length (drop at bytes) ≡ length bytes - at = length-drop at bytes in
        let long2 : length (drop i (drop at bytes)) ≡ length (drop at bytes) - i = length-drop i (drop at bytes) in
        let within2 : at + i < length bytes = omega arith in
        let room : i < length (drop at bytes) = omega arith in
        let here : drop i (drop at bytes) ≡ get_or (drop at bytes) i 0 ∷ drop (i + 1) (drop at bytes) = drop_more (drop at bytes) i 0 room in
        let is : b ≡ get_or (drop at bytes) i 0 = cc in
        λ same. wrong within2 (sym (get_or-drop at bytes i 0) ∙ sym is ∙ same)

-- fixed bytes: the file ends before
pub text_short : (bytes wanted : List ℕ) (at i : ℕ) → take i wanted ≡ take i (drop at bytes) → i < length wanted → at + i ≤ length bytes → length bytes ≤ at + i → Fault (IsText wanted) bytes at (FormFault.At (at + i))
text_short bytes wanted at i h inside within short = fault_at (IsText wanted) bytes at (at + i) (text_leaves bytes wanted at i h inside within (λ l. absurd (omega arith)))

-- fixed bytes: another byte stands there
pub text_wrong : (bytes wanted : List ℕ) (at i : ℕ) → take i wanted ≡ take i (drop at bytes) → i < length wanted → at + i ≤ length bytes → get_or bytes (at + i) 0 ≢ get_or wanted i 0 → Fault (IsText wanted) bytes at (FormFault.At (at + i))
text_wrong bytes wanted at i h inside within differ = fault_at (IsText wanted) bytes at (at + i) (text_leaves bytes wanted at i h inside within (λ l. differ))

-- a field below a limit of at most 255: its first byte is the number, and the others are 0
field_small : (n : ℕ) → n < 256 → field n ≡ n ∷ (0 ∷ 0 ∷ 0 ∷ [])
field_small n h =
    let a : n % 256 ≡ n = omega arith in
    let b : n / 256 ≡ 0 = omega arith in
    ap (λ x. x ∷ le_bytes 3 (n / 256)) a ∙ ap (λ x. n ∷ le_bytes 3 x) b

-- no number below the limit has another first byte
none_below : (limit : ℕ) (others : List ℕ) → limit ≤ 256 → ((b : ℕ) (bs : List ℕ) → others ≡ b ∷ bs → limit ≤ b) → NoneBegins (IsNumber limit) [] others
none_below limit [] h w = tt
none_below limit (b ∷ bs) h w =
    λ rest t.
    let small : t.number < 256 = let l = t.below in omega arith in
    let same : b ∷ rest ≡ t.number ∷ (0 ∷ 0 ∷ 0 ∷ []) = t.text ∙ field_small t.number small in
    let is : b ≡ t.number = cc in
    let above : limit ≤ b = w b bs refl in
    let l = t.below in
    omega arith

-- a first byte that is wanting or not below the limit
pub below_leaves : (bytes : List ℕ) (at limit : ℕ) → 0 < limit → limit ≤ 256 → at ≤ length bytes → (at < length bytes → limit ≤ get_or bytes at 0) → LeavesAt (IsNumber limit) bytes at at
below_leaves bytes at limit some fits within wrong = record {
  inside = 0;
  is = omega arith;
  leaves = record {
    front = [];
    others = drop at bytes;
    split = refl;
    size = refl;
    next = 0;
    more = 0 ∷ 0 ∷ 0 ∷ [];
    goes_on = record { number = 0; below = some; text = refl };
    wrong = none_below limit (drop at bytes) fits (λ b bs e. above b bs e);
  };
}
  where
    above : (b : ℕ) (bs : List ℕ) → drop at bytes ≡ b ∷ bs → limit ≤ b
    above b bs e =
        let long : length (drop at bytes) ≡ suc (length bs) = ap length e in
        let long2 : length (drop at bytes) ≡ length bytes - at = length-drop at bytes in
        let room : at < length bytes = omega arith in
        let here : drop at bytes ≡ get_or bytes at 0 ∷ drop (at + 1) bytes = drop_more bytes at 0 room in
        let is : b ≡ get_or bytes at 0 = cc in
        subst (λ n. limit ≤ n) (sym is) (wrong room)

-- the fault of a first byte
pub below_fault : (bytes : List ℕ) (at limit : ℕ) → 0 < limit → limit ≤ 256 → at ≤ length bytes → (at < length bytes → limit ≤ get_or bytes at 0) → Fault (IsNumber limit) bytes at (FormFault.At at)
below_fault bytes at limit some fits within wrong = fault_at (IsNumber limit) bytes at at (below_leaves bytes at limit some fits within wrong)

-- the byte and the three zeros behind it
pub below_spans : (bytes : List ℕ) (at n : ℕ) → n < 256 → at < length bytes → n ≡ get_or bytes at 0 → Spans bytes (at + 1) (at + 1 + 3) (0 ∷ 0 ∷ 0 ∷ []) → Spans bytes at (at + 4) (field n)
below_spans bytes at n small room e zeros = record {
  text = drop_more bytes at 0 room ∙ ap (λ b. b ∷ drop (at + 1) bytes) (sym e) ∙ ap (λ z. n ∷ z) zeros.text ∙ ap (λ k. n ∷ (0 ∷ 0 ∷ 0 ∷ drop k bytes)) past ∙ ap (λ z. z ++ drop (at + 4) bytes) (sym (field_small n small));
  size = refl;
  within = let w = zeros.within in omega arith;
}
  where
    past : at + 1 + 3 ≡ at + 4
    past = omega arith

-- zeros that are wanting behind a first byte below the limit
pub zeros_fault : (bytes : List ℕ) (at limit : ℕ) (e : FormFault) → limit ≤ 256 → at < length bytes → get_or bytes at 0 < limit → Fault (IsText (0 ∷ 0 ∷ 0 ∷ [])) bytes (at + 1) e → Fault (IsNumber limit) bytes at e
zeros_fault bytes at limit e fits room small f =
    let b = get_or bytes at 0 in
    fault_past (IsText (0 ∷ 0 ∷ 0 ∷ [])) (IsNumber limit) bytes at (at + 1) (b ∷ []) e
    (record { text = drop_more bytes at 0 room; size = refl; within = omega arith })
    (λ t h. record { number = b; below = small; text = ap (λ z. b ∷ z) h.same ∙ sym (field_small b (omega arith)) })
    (λ t h.
    let below : h.number < 256 = let l = h.below in omega arith in
    let same : b ∷ t ≡ h.number ∷ (0 ∷ 0 ∷ 0 ∷ []) = h.text ∙ field_small h.number below in
    let tails : t ≡ 0 ∷ 0 ∷ 0 ∷ [] = cc in
    record { same = tails })
    f

-- the number of a format is one byte and three zeros
format_field : (f : Format) → field (number_of f) ≡ number_of f ∷ (0 ∷ 0 ∷ 0 ∷ [])
format_field Format.One = refl
format_field Format.Two = refl

-- no number of a format has another first byte
no_format : (others : List ℕ) → ((b : ℕ) (bs : List ℕ) → others ≡ b ∷ bs → (f : Format) → number_of f ≢ b) → NoneBegins IsFormat [] others
no_format [] w = tt
no_format (b ∷ bs) w =
    λ rest t.
    let same : b ∷ rest ≡ number_of t.format ∷ (0 ∷ 0 ∷ 0 ∷ []) = t.text ∙ format_field t.format in
    let is : number_of t.format ≡ b = cc in
    w b bs refl t.format is

-- a first byte that is wanting or no number of a format
format_leaves : (bytes : List ℕ) (at : ℕ) → at ≤ length bytes → (at < length bytes → (f : Format) → number_of f ≢ get_or bytes at 0) → LeavesAt IsFormat bytes at at
format_leaves bytes at within wrong = record {
  inside = 0;
  is = omega arith;
  leaves = record {
    front = [];
    others = drop at bytes;
    split = refl;
    size = refl;
    next = 1;
    more = 0 ∷ 0 ∷ 0 ∷ [];
    goes_on = record { format = Format.One; text = refl };
    wrong = no_format (drop at bytes) (λ b bs e. other b bs e);
  };
}
  where
    other : (b : ℕ) (bs : List ℕ) → drop at bytes ≡ b ∷ bs → (f : Format) → number_of f ≢ b
    other b bs e f =
        let long : length (drop at bytes) ≡ suc (length bs) = ap length e in
        let long2 : length (drop at bytes) ≡ length bytes - at = length-drop at bytes in
        let room : at < length bytes = omega arith in
        let here : drop at bytes ≡ get_or bytes at 0 ∷ drop (at + 1) bytes = drop_more bytes at 0 room in
        let is : b ≡ get_or bytes at 0 = cc in
        λ same. wrong room f (same ∙ is)

-- the fault of such a byte
pub format_fault : (bytes : List ℕ) (at : ℕ) → at ≤ length bytes → (at < length bytes → (f : Format) → number_of f ≢ get_or bytes at 0) → Fault IsFormat bytes at (FormFault.At at)
format_fault bytes at within wrong = fault_at IsFormat bytes at at (format_leaves bytes at within wrong)

-- the number and the three zeros behind it
pub format_spans : (bytes : List ℕ) (at : ℕ) (f : Format) → at < length bytes → number_of f ≡ get_or bytes at 0 → Spans bytes (at + 1) (at + 1 + 3) (0 ∷ 0 ∷ 0 ∷ []) → Spans bytes at (at + 4) (field (number_of f))
format_spans bytes at Format.One room e zeros = below_spans bytes at 1 (omega arith) room e zeros
format_spans bytes at Format.Two room e zeros = below_spans bytes at 2 (omega arith) room e zeros

-- zeros that are wanting behind the number
pub format_zeros : (bytes : List ℕ) (at : ℕ) (f : Format) (e : FormFault) → at < length bytes → number_of f ≡ get_or bytes at 0 → Fault (IsText (0 ∷ 0 ∷ 0 ∷ [])) bytes (at + 1) e → Fault IsFormat bytes at e
format_zeros bytes at f e room is fault =
    let b = get_or bytes at 0 in
    fault_past (IsText (0 ∷ 0 ∷ 0 ∷ [])) IsFormat bytes at (at + 1) (b ∷ []) e
    (record { text = drop_more bytes at 0 room; size = refl; within = omega arith })
    (λ t h. record { format = f; text = ap (λ z. b ∷ z) h.same ∙ ap (λ n. n ∷ (0 ∷ 0 ∷ 0 ∷ [])) (sym is) ∙ sym (format_field f) })
    (λ t h.
    let same : b ∷ t ≡ number_of h.format ∷ (0 ∷ 0 ∷ 0 ∷ []) = h.text ∙ format_field h.format in
    let tails : t ≡ 0 ∷ 0 ∷ 0 ∷ [] = cc in
    record { same = tails })
    fault

-- what a `?` hands on
pub at_exit : {T : Type 0} (r : Result T FormFault) (e : FormFault) (F : FormFault → Type 0) → IsErrAnd r (λ y. y ≡ e) → F e → IfErr r F
at_exit r e F h f =
    let p = err_from_is_err_and r h in
    let there : F p.0 = subst F (sym p.2) f in
    subst (λ q. IfErr q F) (sym p.1) there
