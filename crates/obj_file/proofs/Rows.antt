-- Many parts of one kind, one after another.
use Rattle.std.proofs.Common.{◌≡◌, ℕ, zero, suc, ◌+◌, ◌<◌, ◌≤◌, List, [], ◌∷◌, ◌++◌, length, drop, refl, sym, ◌∙◌, ap, subst, arith, append_assoc, length-append}
use Rattle.std.proofs.lemmas.List.{append-nil, drop-drop, drop_at}
use Rattle.obj_core.specs.Object.{Each, field, functions_bytes, link_bytes, links_bytes, cuts_bytes, slot_bytes, slots_bytes}
use Rattle.obj_core.specs.declared.object.Func.{Func}
use Rattle.obj_file.specs.declared.fault.FormFault.{FormFault}
use Rattle.obj_file.specs.Texts.{Times, Spans, Fault}
use Rattle.obj_file.proofs.Good.{Good, good_times}
use Rattle.obj_file.proofs.Leaving.{fault_first, fault_second}
use Rattle.obj_core.proofs.Spelling.{each_append}

-- two parts of a file, the second where the first ends
pub spans_join : (bytes : List ℕ) (at mid to : ℕ) (s t : List ℕ) → Spans bytes at mid s → Spans bytes mid to t → Spans bytes at to (s ++ t)
spans_join bytes at mid to s t p q = record {
  text = p.text ∙ ap (λ z. s ++ z) q.text ∙ sym (append_assoc s t (drop to bytes));
  size = q.size ∙ (let a = p.size in let b = length-append s t in omega arith);
  within = q.within;
}

-- an empty part
pub spans_none : (bytes : List ℕ) (at : ℕ) → at ≤ length bytes → Spans bytes at at []
spans_none bytes at h = record { text = refl; size = omega arith; within = h }

-- a part that is made of two
pub record Split (bytes : List ℕ) (at to : ℕ) (s t : List ℕ) : Type 0 where
  pub first : Spans bytes at (at + length s) s
  pub second : Spans bytes (at + length s) to t

-- the two parts of a part
pub spans_split : (bytes : List ℕ) (at to : ℕ) (s t : List ℕ) → Spans bytes at to (s ++ t) → Split bytes at to s t
spans_split bytes at to s t p =
    let long : length (s ++ t) ≡ length s + length t = length-append s t in
    let whole : drop at bytes ≡ s ++ (t ++ drop to bytes) = p.text ∙ append_assoc s t (drop to bytes) in
    let behind : drop (at + length s) bytes ≡ t ++ drop to bytes =
    sym (drop-drop (length s) at bytes) ∙ ap (λ z. drop (length s) z) whole ∙ drop_at s (t ++ drop to bytes) (length s) refl in
    record {
      first = record { text = whole ∙ ap (λ z. s ++ z) (sym behind); size = refl; within = let a = p.size in let b = p.within in omega arith };
      second = record { text = behind; size = let a = p.size in omega arith; within = p.within };
    }

-- a fault behind so many texts of a set is a fault of a longer row
pub fault_row : (L : List ℕ → Type 0) (bytes : List ℕ) (at to i n : ℕ) (done : List ℕ) (e : FormFault) → Good L → Times L i done → i < n → Spans bytes at to done → Fault L bytes to e → Fault (Times L n) bytes at e
fault_row L bytes at to i zero done e g h less p f = absurd (omega arith)
fault_row L bytes at to zero (suc n) done e g h less p f =
    let none : Spans bytes at to [] = subst (λ s. Spans bytes at to s) h.same p in
    let same : to ≡ at = let a = none.size in omega arith in
    fault_first L (Times L n) bytes at e g (good_times L n g) (subst (λ k. Fault L bytes k e) same f)
fault_row L bytes at to (suc i) (suc n) done e g h less p f =
    let halves = spans_split bytes at to h.first h.second (subst (λ s. Spans bytes at to s) h.text p) in
    let rest = fault_row L bytes (at + length h.first) to i n h.second e g h.ends (omega arith) halves.second f in
    fault_second L (Times L n) bytes at (at + length h.first) h.first e g h.begins halves.first rest

-- a list and its bytes, item after item
pub record IsRow {T : Type 0} (one : T → List ℕ) (all : List T → List ℕ) : Type 0 where
  pub none : all [] ≡ []
  pub more : (x : T) (xs : List T) → all (x ∷ xs) ≡ one x ++ all xs

-- links
pub links_row : IsRow link_bytes links_bytes
links_row = record { none = refl; more = λ x xs. refl }

-- slots
pub slots_row : IsRow slot_bytes slots_bytes
slots_row = record { none = refl; more = λ x xs. refl }

-- cuts
pub cuts_row : IsRow field cuts_bytes
cuts_row = record { none = refl; more = λ x xs. refl }

-- functions
pub functions_row : (one : Func → List ℕ) → IsRow one (functions_bytes one)
functions_row one = record { none = refl; more = λ x xs. refl }

-- the bytes of one more item come last
pub row_end : {T : Type 0} (one : T → List ℕ) (all : List T → List ℕ) (r : IsRow one all) (xs : List T) (x : T) → all (xs ++ x ∷ []) ≡ all xs ++ one x
row_end one all r [] x = r.more x [] ∙ ap (λ z. one x ++ z) r.none ∙ append-nil (one x) ∙ ap (λ z. z ++ one x) (sym r.none)
row_end one all r (y ∷ xs) x =
    r.more y (xs ++ x ∷ []) ∙ ap (λ z. one y ++ z) (row_end one all r xs x) ∙ sym (append_assoc (one y) (all xs) (one x)) ∙
    ap (λ z. z ++ one x) (sym (r.more y xs))

-- a row of items is a row of texts
pub row_times : {T : Type 0} (P : T → Type 0) (one : T → List ℕ) (all : List T → List ℕ) (L : List ℕ → Type 0) (r : IsRow one all) (xs : List T) → ((x : T) → P x → L (one x)) → Each P xs → Times L (length xs) (all xs)
row_times P one all L r [] made h = record { same = r.none }
row_times P one all L r (x ∷ xs) made h = record { first = one x; second = all xs; text = r.more x xs; begins = made x h.0; ends = row_times P one all L r xs made h.1 }

-- what a loop has read: so many items, whose bytes stand in the file
pub record RowRead {T : Type 0} (P : T → Type 0) (all : List T → List ℕ) (bytes : List ℕ) (at to done : ℕ) (items : List T) : Type 0 where
  pub each : Each P items
  pub count : length items ≡ done
  pub spans : Spans bytes at to (all items)

-- nothing is read yet
pub row_none : {T : Type 0} (P : T → Type 0) (one : T → List ℕ) (all : List T → List ℕ) (r : IsRow one all) (bytes : List ℕ) (at : ℕ) → at ≤ length bytes → RowRead P all bytes at at 0 []
row_none P one all r bytes at h = record { each = tt; count = refl; spans = subst (λ s. Spans bytes at at s) (sym r.none) (spans_none bytes at h) }

-- one more item is read
pub row_more : {T : Type 0} (P : T → Type 0) (one : T → List ℕ) (all : List T → List ℕ) (r : IsRow one all) (bytes : List ℕ) (at to end done : ℕ) (items : List T) (x : T) (now : List T) → RowRead P all bytes at to done items → P x → Spans bytes to end (one x) → now ≡ items ++ x ∷ [] → RowRead P all bytes at end (done + 1) now
row_more P one all r bytes at to end done items x now h p s e =
    subst (λ l. RowRead P all bytes at end (done + 1) l) (sym e)
    (record {
      each = each_append P items (x ∷ []) h.each (p, tt);
      count = length-append items (x ∷ []) ∙ (let c = h.count in omega arith);
      spans = subst (λ z. Spans bytes at end z) (sym (row_end one all r items x)) (spans_join bytes at to end (all items) (one x) h.spans s);
    })

-- a fault in the next item
pub row_fault : {T : Type 0} (P : T → Type 0) (one : T → List ℕ) (all : List T → List ℕ) (L : List ℕ → Type 0) (r : IsRow one all) (bytes : List ℕ) (at to done n : ℕ) (items : List T) (e : FormFault) → Good L → ((x : T) → P x → L (one x)) → RowRead P all bytes at to done items → done < n → Fault L bytes to e → Fault (Times L n) bytes at e
row_fault P one all L r bytes at to done n items e g made h less f =
    let times : Times L done (all items) = subst (λ k. Times L k (all items)) h.count (row_times P one all L r items made h.each) in
    fault_row L bytes at to done n (all items) e g times less h.spans f

-- a row of so many items
pub row_counted : {T : Type 0} (P : T → Type 0) (one : T → List ℕ) (all : List T → List ℕ) (L : List ℕ → Type 0) (r : IsRow one all) (xs : List T) (n : ℕ) → ((x : T) → P x → L (one x)) → Each P xs → length xs ≡ n → Times L n (all xs)
row_counted P one all L r xs n made h e = subst (λ k. Times L k (all xs)) e (row_times P one all L r xs made h)
