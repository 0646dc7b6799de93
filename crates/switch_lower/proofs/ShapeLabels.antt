-- No label of a function without switches stands twice, and each label to which a chunk leads is there.
use Rattle.std.proofs.Common.{◌≡◌, ℕ, zero, suc, ◌+◌, ◌^◌, ◌≤◌, ◌<◌, Bool, true, false, List, [], ◌∷◌, ◌++◌, map, length, Some, refl, ap, sym, ◌∙◌, subst, arith, length-append}
use Rattle.std.specs.Prelude.{◌||◌, nat_eq, slice_get}
use Rattle.std.proofs.lemmas.Bool.{or_parts, or_from, or_left, or_right, eqb-true, eqb-false}
use Rattle.std.proofs.lemmas.List.{map-append}
use Rattle.ir_core.specs.declared.instruction.Term.{Term}
use Rattle.ir_core.specs.declared.instruction.Term.TheVariants.{Switch}
use Rattle.ir_core.specs.declared.module.Block.{Block}
use Rattle.ir_core.specs.Names.{same_name}
use Rattle.ir_core.specs.Definitions.{is_among, repeated}
use Rattle.ir_core.proofs.Distinct.{fresh, fresh_back}
use Rattle.ir_core.proofs.NameSets.{same_name-sym}
use Rattle.ir_sound.specs.WellTyped.{Each}
use Rattle.ir_sound.proofs.SameLaws.{not_true, name_is, same_itself, differ_back}
use Rattle.low_core.specs.declared.moves.Chunk.{Chunk}
use Rattle.low_core.specs.Plain.{block_of}
use Rattle.switch_lower.specs.Ways.{ways}
use Rattle.switch_lower.specs.Fresh.{chunk_name}
use Rattle.switch_lower.specs.Bodies.{chunks_by, chunks_for, chunks_from}
use Rattle.switch_lower.proofs.ShapeRows.{In, any_append, among_in}
use Rattle.switch_lower.proofs.ShapeTree.{Numbered, tree_numbered}
use Rattle.switch_lower.proofs.ShapeChunks.{choice, switch_tree}
use Rattle.switch_lower.proofs.ShapeFresh.{IsOld, zeros_apart, chunks_apart}

abbrev pub labels_in : List Chunk → List (List ℕ)
labels_in cs = map (λ (c : Chunk). c.label) cs

pub labels_both : (xs ys : List Chunk) → labels_in (xs ++ ys) ≡ labels_in xs ++ labels_in ys
labels_both xs ys = map-append (λ (c : Chunk). c.label) xs ys

pub labels_are : (cs : List Chunk) → map (λ (b : Block). b.label) (map block_of cs) ≡ labels_in cs
labels_are [] = refl
labels_are (c ∷ cs) = ap (λ ns. c.label ∷ ns) (labels_are cs)

-- a name in neither of two rows of chunks
not_in : (name : List ℕ) (xs ys : List Chunk) → is_among (labels_in xs) name ≡ false → is_among (labels_in ys) name ≡ false → is_among (labels_in (xs ++ ys)) name ≡ false
not_in name xs ys e f = ap (λ l. is_among l name) (labels_both xs ys) ∙ any_append (same_name name) (labels_in xs) (labels_in ys) ∙ or_from _ _ e f

-- a chunk stands in a row
pub label_in : (x : Chunk) (cs : List Chunk) → In x cs → is_among (labels_in cs) x.label ≡ true
label_in x cs there = among_in x.label (labels_in cs) (there.0, at_place cs there.0 there.1)
  where
    at_place : (zs : List Chunk) (k : ℕ) → slice_get zs k ≡ Some x → slice_get (labels_in zs) k ≡ Some x.label
    at_place [] k e = absurd (cc)
    at_place (z ∷ zs) zero e = cc
    at_place (z ∷ zs) (suc k) e = at_place zs k e

-- a chunk of each number
pub numbered_in : (padding at : ℕ) (cs : List Chunk) → Numbered padding at cs → (n : ℕ) → at ≤ n → n < at + length cs → (x : Chunk) × (In x cs × (x.label ≡ chunk_name padding n))
numbered_in padding at [] all n le less = absurd (omega arith)
numbered_in padding at (c ∷ cs) all n le less = by_test (nat_eq at n) refl (λ more. numbered_in padding (at + 1) cs all.1 n more (omega arith))
  where
    by_test : (b : Bool) → nat_eq at n ≡ b → (at + 1 ≤ n → (x : Chunk) × (In x cs × (x.label ≡ chunk_name padding n))) → (x : Chunk) × (In x (c ∷ cs) × (x.label ≡ chunk_name padding n))
    by_test true e go = (c, ((0, refl), all.0 ∙ ap (chunk_name padding) (eqb-true at n e)))
    by_test false e go =
        let other = eqb-false at n e in
        let r = go (omega arith) in
        (r.0, ((suc r.1.0.0, r.1.0.1), r.1.1))

-- chunks with numbers from one on have other names than chunks in front of them, and than old chunks
numbered_not : (padding n at : ℕ) (cs : List Chunk) → Numbered padding at cs → n < at → at + length cs ≤ 2 ^ 64 → is_among (labels_in cs) (chunk_name padding n) ≡ false
numbered_not padding n at [] all less room = refl
numbered_not padding n at (c ∷ cs) all less room =
    or_from _ _ (ap (same_name (chunk_name padding n)) all.0 ∙ chunks_apart padding n at less (omega arith)) (numbered_not padding n (at + 1) cs all.1 (omega arith) (omega arith))

numbered_old : (padding at : ℕ) (name : List ℕ) (cs : List Chunk) → Numbered padding at cs → IsOld padding name → is_among (labels_in cs) name ≡ false
numbered_old padding at name [] all old = refl
numbered_old padding at name (c ∷ cs) all old =
    or_from _ _ (same_name-sym name c.label ∙ ap (λ l. same_name l name) all.0 ∙ zeros_apart padding _ name old) (numbered_old padding (at + 1) name cs all.1 old)

-- an old name that isn't among chunks isn't among what stands in their place
module _ (padding : ℕ) where
  old_one : (name : List ℕ) → IsOld padding name → (at : ℕ) (c : Chunk) (end : Term) → same_name name c.label ≡ false → is_among (labels_in (chunks_by padding at c end)) name ≡ false
  old_one name old at c (Switch ty a default cases) e =
      or_from _ _ e (numbered_old padding (at + 1) name (switch_tree padding (at + 1) ty a default cases) (tree_numbered (choice padding ty a default) (length (ways ty cases)) (at + 1) (ways ty cases)) old)
  old_one name old at c end e = or_from _ _ e refl

  old_not : (name : List ℕ) → IsOld padding name → (at : ℕ) (cs : List Chunk) → is_among (labels_in cs) name ≡ false → is_among (labels_in (chunks_from padding at cs)) name ≡ false
  old_not name old at [] e = refl
  old_not name old at (c ∷ cs) e =
      let p = or_parts (same_name name c.label) (is_among (labels_in cs) name) e in
      let one = chunks_for padding at c in
      not_in name one (chunks_from padding (at + length one) cs) (old_one name old at c c.end p.0) (old_not name old (at + length one) cs p.1)

  -- nor is a number in front of them
  new_one : (n at : ℕ) (c : Chunk) (end : Term) → IsOld padding c.label → n ≤ at → at + length (chunks_by padding at c end) ≤ 2 ^ 64 → is_among (labels_in (chunks_by padding at c end)) (chunk_name padding n) ≡ false
  new_one n at c (Switch ty a default cases) old le room =
      or_from _ _ (zeros_apart padding _ c.label old)
      (numbered_not padding n (at + 1) (switch_tree padding (at + 1) ty a default cases) (tree_numbered (choice padding ty a default) (length (ways ty cases)) (at + 1) (ways ty cases)) (omega arith) (omega arith))
  new_one n at c end old le room = or_from _ _ (zeros_apart padding _ c.label old) refl

  new_not : (n at : ℕ) (cs : List Chunk) → Each (λ (c : Chunk). IsOld padding c.label) cs → n ≤ at → at + length (chunks_from padding at cs) ≤ 2 ^ 64 → is_among (labels_in (chunks_from padding at cs)) (chunk_name padding n) ≡ false
  new_not n at [] old le room = refl
  new_not n at (c ∷ cs) old le room =
      let one = chunks_for padding at c in
      let others = chunks_from padding (at + length one) cs in
      let l = length-append one others in
      not_in (chunk_name padding n) one others (new_one n at c c.end old.0 le (omega arith)) (new_not n (at + length one) cs old.1 (omega arith) (omega arith))

-- no name stands twice
abbrev pub Apart : List (List ℕ) → Type 0
Apart [] = Unit {0}
Apart (n ∷ ns) = (is_among ns n ≡ false) × Apart ns

-- names that don't repeat stand once, and back
among_before : (before ns : List (List ℕ)) (n : List ℕ) → is_among before n ≡ true → repeated before ns ≡ [] → is_among ns n ≡ false
among_before before [] n among none = refl
among_before before (k ∷ ns) n among none =
    let f = fresh before k ns none in
    by_test (same_name n k) refl f.new (among_before (before ++ k ∷ []) ns n (any_append (same_name n) before (k ∷ []) ∙ ap (λ b. b || is_among (k ∷ []) n) among) f.rest)
  where
    by_test : (b : Bool) → same_name n k ≡ b → is_among before k ≡ false → is_among ns n ≡ false → (b || is_among ns n) ≡ false
    by_test true e new go = not_true (sym new ∙ ap (is_among before) (sym (name_is n k e)) ∙ among)
    by_test false e new go = go

pub names_apart : (before ns : List (List ℕ)) → repeated before ns ≡ [] → Apart ns
names_apart before [] none = tt
names_apart before (n ∷ ns) none =
    let f = fresh before n ns none in
    (among_before (before ++ n ∷ []) ns n (any_append (same_name n) before (n ∷ []) ∙ there (is_among before n)) f.rest, names_apart (before ++ n ∷ []) ns f.rest)
  where
    there : (b : Bool) → (b || (same_name n n || false)) ≡ true
    there true = refl
    there false = ap (λ b. b || false) (same_itself n)

pub apart_repeat : (before ns : List (List ℕ)) → Apart ns → Each (λ n. is_among before n ≡ false) ns → repeated before ns ≡ []
apart_repeat before [] apart new = refl
apart_repeat before (n ∷ ns) apart new = fresh_back before n ns (record { new = new.0; rest = apart_repeat (before ++ n ∷ []) ns apart.1 (behind ns apart.0 new.1) })
  where
    behind : (ks : List (List ℕ)) → is_among ks n ≡ false → Each (λ k. is_among before k ≡ false) ks → Each (λ k. is_among (before ++ n ∷ []) k ≡ false) ks
    behind [] e all = tt
    behind (k ∷ ks) e all =
        let p = or_parts (same_name n k) (is_among ks n) e in
        (any_append (same_name k) before (n ∷ []) ∙ or_from _ _ all.0 (or_from _ _ (differ_back n k p.0) refl), behind ks p.1 all.1)

-- two rows of names that stand once
apart_both : (xs ys : List (List ℕ)) → Apart xs → Apart ys → Each (λ x. is_among ys x ≡ false) xs → Apart (xs ++ ys)
apart_both [] ys first second new = second
apart_both (x ∷ xs) ys first second new = (any_append (same_name x) xs ys ∙ or_from _ _ first.0 new.0, apart_both xs ys first.1 second new.1)

pub none_before : (ns : List (List ℕ)) → Each (λ n. is_among [] n ≡ false) ns
none_before [] = tt
none_before (n ∷ ns) = (refl, none_before ns)

-- the labels of chunks with numbers from one on
numbered_apart : (padding at : ℕ) (cs : List Chunk) → Numbered padding at cs → at + length cs ≤ 2 ^ 64 → Apart (labels_in cs)
numbered_apart padding at [] all room = tt
numbered_apart padding at (c ∷ cs) all room =
    (ap (is_among (labels_in cs)) all.0 ∙ numbered_not padding at (at + 1) cs all.1 (omega arith) (omega arith), numbered_apart padding (at + 1) cs all.1 (omega arith))

numbered_new : (padding low at : ℕ) (cs all : List Chunk) → Numbered padding at cs → Each (λ (c : Chunk). IsOld padding c.label) all → at + length cs ≤ low → low + length (chunks_from padding low all) ≤ 2 ^ 64 → Each (λ x. is_among (labels_in (chunks_from padding low all)) x ≡ false) (labels_in cs)
numbered_new padding low at [] all are old le room = tt
numbered_new padding low at (c ∷ cs) all are old le room =
    (ap (is_among (labels_in (chunks_from padding low all))) are.0 ∙ new_not padding at low all old (omega arith) room, numbered_new padding low (at + 1) cs all are.1 old (omega arith) room)

module _ (padding : ℕ) where
  one_apart : (at : ℕ) (c : Chunk) (end : Term) → IsOld padding c.label → at + length (chunks_by padding at c end) ≤ 2 ^ 64 → Apart (labels_in (chunks_by padding at c end))
  one_apart at c (Switch ty a default cases) old room =
      let new = switch_tree padding (at + 1) ty a default cases in
      let are = tree_numbered (choice padding ty a default) (length (ways ty cases)) (at + 1) (ways ty cases) in
      (numbered_old padding (at + 1) c.label new are old, numbered_apart padding (at + 1) new are (omega arith))
  one_apart at c end old room = (refl, tt)

  one_new : (at : ℕ) (c : Chunk) (end : Term) (cs : List Chunk) → IsOld padding c.label → Each (λ (d : Chunk). IsOld padding d.label) cs → is_among (labels_in cs) c.label ≡ false
      → at + length (chunks_by padding at c end) + length (chunks_from padding (at + length (chunks_by padding at c end)) cs) ≤ 2 ^ 64
      → Each (λ x. is_among (labels_in (chunks_from padding (at + length (chunks_by padding at c end)) cs)) x ≡ false) (labels_in (chunks_by padding at c end))
  one_new at c (Switch ty a default cases) cs old all e room =
      let new = switch_tree padding (at + 1) ty a default cases in
      let low = at + length (chunks_by padding at c (Switch ty a default cases)) in
      let are = tree_numbered (choice padding ty a default) (length (ways ty cases)) (at + 1) (ways ty cases) in
      (old_not padding c.label old low cs e, numbered_new padding low (at + 1) new cs are all (omega arith) room)
  one_new at c end cs old all e room = (old_not padding c.label old (at + 1) cs e, tt)

  pub labels_apart : (at : ℕ) (cs : List Chunk) → Each (λ (c : Chunk). IsOld padding c.label) cs → Apart (labels_in cs) → at + length (chunks_from padding at cs) ≤ 2 ^ 64 → Apart (labels_in (chunks_from padding at cs))
  labels_apart at [] old apart room = tt
  labels_apart at (c ∷ cs) old apart room =
      let one = chunks_for padding at c in
      let others = chunks_from padding (at + length one) cs in
      let l = length-append one others in
      subst Apart (sym (labels_both one others))
      (apart_both (labels_in one) (labels_in others) (one_apart at c c.end old.0 (omega arith)) (labels_apart (at + length one) cs old.1 apart.1 (omega arith)) (one_new at c c.end cs old.0 old.1 apart.0 (omega arith)))

  -- what was a label is one
  pub label_stays : (at : ℕ) (name : List ℕ) (cs : List Chunk) → is_among (labels_in cs) name ≡ true → is_among (labels_in (chunks_from padding at cs)) name ≡ true
  label_stays at name [] e = e
  label_stays at name (c ∷ cs) e =
      let one = chunks_for padding at c in
      let others = chunks_from padding (at + length one) cs in
      ap (λ l. is_among l name) (labels_both one others) ∙ any_append (same_name name) (labels_in one) (labels_in others)
      ∙ by_test (same_name name c.label) refl e (λ f. label_stays (at + length one) name cs f)
    where
      first : (end : Term) → same_name name c.label ≡ true → is_among (labels_in (chunks_by padding at c end)) name ≡ true
      first (Switch ty a default cases) f = ap (λ b. b || is_among (labels_in (switch_tree padding (at + 1) ty a default cases)) name) f
      first end f = ap (λ b. b || false) f

      by_test : (b : Bool) → same_name name c.label ≡ b → (b || is_among (labels_in cs) name) ≡ true → (is_among (labels_in cs) name ≡ true → is_among (labels_in (chunks_from padding (at + length (chunks_for padding at c)) cs)) name ≡ true)
          → (is_among (labels_in (chunks_for padding at c)) name || is_among (labels_in (chunks_from padding (at + length (chunks_for padding at c)) cs)) name) ≡ true
      by_test true f g go = or_left _ _ (first c.end f)
      by_test false f g go = or_right _ _ (go g)
