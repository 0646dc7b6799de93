-- Where bytes leave the spellings of objects, no object has them, and the place is the longest that one could have.
use Rattle.std.proofs.Common.{◌≡◌, ℕ, ◌+◌, ◌<◌, ◌≤◌, List, [], ◌∷◌, ◌++◌, length, take, drop, refl, sym, ◌∙◌, ap, subst, arith, append_assoc, length-append, ◌⊎◌, inl, inr}
use Rattle.std.proofs.lemmas.List.{append-nil, take_at, drop_all}
use Rattle.std.proofs.Math.Seq.{take-append-add}
use Rattle.obj_core.specs.declared.object.Object.{Object}
use Rattle.obj_core.specs.Object.{IsObject, Spells}
use Rattle.obj_file.specs.declared.fault.FormFault.{FormFault}
use Rattle.obj_file.specs.Texts.{IsObjectText, NoneBegins, Leaves, Fault}
use Rattle.obj_file.specs.Spellings.{object_in, Holds}
use Rattle.obj_file.specs.Faults.{BeginsOne, IsNoneFrom, NamesFault}
use Rattle.obj_file.proofs.Limits.{good_object}
use Rattle.obj_file.proofs.Spelled.{spells_in, object_spelled, object_text}

-- one byte more of a prefix
take_one : (front : List ℕ) (b : ℕ) (bs : List ℕ) → take (length front + 1) (front ++ b ∷ bs) ≡ front ++ b ∷ []
take_one front b bs = take-append-add front (b ∷ bs) 1

-- a list with an item is not empty
not_nil : (n : ℕ) (more : List ℕ) → [] ≡ n ∷ more → ⊥
not_nil n more e = cc

-- an object whose spelling begins with some bytes has a text that does
begun_text : (front : List ℕ) (s : BeginsOne front) → IsObjectText (front ++ s.more)
begun_text front s = object_text (front ++ s.more) s.o s.object s.spelling

-- bytes that leave the set are the spelling of no object
none_leaves : (front others : List ℕ) (next : ℕ) (more : List ℕ) → IsObjectText (front ++ next ∷ more) → NoneBegins IsObjectText front others → IsObjectText (front ++ others) → ⊥
none_leaves front [] next more goes_on wrong h =
    let same : (front ++ []) ++ next ∷ more ≡ (front ++ next ∷ more) ++ [] = ap (λ z. z ++ next ∷ more) (append-nil front) ∙ sym (append-nil (front ++ next ∷ more)) in
    not_nil next more (sym (good_object.unique (front ++ []) (front ++ next ∷ more) (next ∷ more) [] h goes_on same).1)
none_leaves front (b ∷ bs) next more goes_on wrong h = wrong bs h

-- the bytes end there, or no object goes on so
longest_at : (front others : List ℕ) → NoneBegins IsObjectText front others → (length front ≡ length (front ++ others)) ⊎ (BeginsOne (take (length front + 1) (front ++ others)) → ⊥)
longest_at front [] wrong = inl (sym (ap length (append-nil front)))
longest_at front (b ∷ bs) wrong =
    inr (λ s.
    let t : BeginsOne (front ++ b ∷ []) = subst BeginsOne (take_one front b bs) s in
    wrong t.more (subst IsObjectText (append_assoc front (b ∷ []) t.more) (begun_text (front ++ b ∷ []) t)))

-- bytes that leave the set of whole files
from_leaves : (bytes : List ℕ) (n : ℕ) → Leaves IsObjectText bytes n → IsNoneFrom bytes n
from_leaves bytes n v =
    let whole = object_spelled (v.front ++ v.next ∷ v.more) v.goes_on in
    let begins : BeginsOne v.front = record { o = whole.item; object = whole.holds; more = v.next ∷ v.more; spelling = whole.text } in
    let at_front : IsNoneFrom (v.front ++ v.others) (length v.front) = record {
      none = λ o h e. none_leaves v.front v.others v.next v.more v.goes_on v.wrong (object_text (v.front ++ v.others) o h e);
      within = let l = length-append v.front v.others in omega arith;
      begins = subst BeginsOne (sym (take_at v.front v.others (length v.front) refl)) begins;
      longest = longest_at v.front v.others v.wrong;
    } in
    subst (λ b. IsNoneFrom b n) (sym v.split) (subst (λ k. IsNoneFrom (v.front ++ v.others) k) (sym v.size) at_front)

-- a fault in a whole file
pub explained : (bytes : List ℕ) (e : FormFault) → Fault IsObjectText bytes 0 e → NamesFault bytes e
explained bytes (FormFault.At place) f =
    let v = f.left place refl in
    let same : v.inside ≡ place = let i = v.is in omega arith in
    subst (λ k. IsNoneFrom bytes k) same (from_leaves bytes v.inside v.leaves)
explained bytes FormFault.NoMemory f = tt

-- behind the spelling of an object
behind : (spelling : List ℕ) (o : Object) (b : ℕ) (bs : List ℕ) → IsObject o → Spells spelling o → IsNoneFrom (spelling ++ b ∷ bs) (length spelling)
behind spelling o b bs h k =
    let here = object_text spelling o h k in
    record {
      none = λ p q e.
          let there = object_text (spelling ++ b ∷ bs) p q e in
          not_nil b bs (sym (good_object.unique spelling (spelling ++ b ∷ bs) (b ∷ bs) [] here there (sym (append-nil (spelling ++ b ∷ bs)))).1);
      within = let l = length-append spelling (b ∷ bs) in omega arith;
      begins = record { o = o; object = h; more = []; spelling = subst (λ z. Spells z o) (sym (ap (λ z. z ++ []) (take_at spelling (b ∷ bs) (length spelling) refl) ∙ append-nil spelling)) k };
      longest = inr (λ s.
          let t : BeginsOne (spelling ++ b ∷ []) = subst BeginsOne (take_one spelling b bs) s in
          let whole = begun_text (spelling ++ b ∷ []) t in
          let same : spelling ++ (b ∷ t.more) ≡ (((spelling ++ b ∷ []) ++ t.more) ++ []) = sym (append_assoc spelling (b ∷ []) t.more) ∙ sym (append-nil ((spelling ++ b ∷ []) ++ t.more)) in
          not_nil b t.more (sym (good_object.unique spelling ((spelling ++ b ∷ []) ++ t.more) (b ∷ t.more) [] here whole same).1));
    }

-- bytes that go on behind the spelling of an object
pub longer : (bytes : List ℕ) (end : ℕ) (o : Object) → Holds bytes end o → end < length bytes → IsNoneFrom bytes end
longer bytes end o held less = go (drop end bytes) refl
  where
    go : (rest : List ℕ) → drop end bytes ≡ rest → IsNoneFrom bytes end
    go [] e =
        let p = held.spans in
        let whole : bytes ≡ object_in held.format o ++ [] = p.text ∙ ap (λ z. object_in held.format o ++ z) e in
        let long : length bytes ≡ length (object_in held.format o) + 0 = ap length whole ∙ length-append (object_in held.format o) [] in
        let size = p.size in
        absurd (omega arith)
    go (b ∷ bs) e =
        let p = held.spans in
        let whole : bytes ≡ object_in held.format o ++ b ∷ bs = p.text ∙ ap (λ z. object_in held.format o ++ z) e in
        let size : length (object_in held.format o) ≡ end = let s = p.size in omega arith in
        let known = spells_in held.format o (object_in held.format o) held.object refl in
        subst (λ z. IsNoneFrom z end) (sym whole) (subst (λ k. IsNoneFrom (object_in held.format o ++ b ∷ bs) k) size (behind (object_in held.format o) o b bs held.object.object known))

-- bytes that end where the spelling does
pub exactly : (bytes : List ℕ) (end : ℕ) (o : Object) → Holds bytes end o → length bytes ≤ end → Spells bytes o
exactly bytes end o held h =
    let spelling = object_in held.format o in
    spells_in held.format o bytes held.object (held.spans.text ∙ ap (λ z. spelling ++ z) (drop_all end bytes h) ∙ append-nil spelling)

-- what a file holds is an object
pub held_object : (bytes : List ℕ) (end : ℕ) (o : Object) → Holds bytes end o → IsObject o
held_object bytes end o held = held.object.object
