-- Where labels lead: old ones to the chunk that had them, and new ones to the number that they say.
use Rattle.std.proofs.Common.{◌≡◌, ℕ, zero, suc, ◌+◌, ◌^◌, ◌<◌, Bool, true, false, List, [], ◌∷◌, ◌++◌, map, take, drop, length, Option, Some, None, refl, ap, sym, ◌∙◌, subst, inl, inr, ◌⊎◌, arith}
use Rattle.std.specs.Prelude.{slice_get, option_map, nat_le, if◌then◌else◌}
use Rattle.std.proofs.lemmas.Bool.{leb-true, leb-false}
use Rattle.std.proofs.lemmas.List.{length-take-le}
use Rattle.ir_core.specs.declared.instruction.Term.{Term}
use Rattle.ir_core.specs.declared.instruction.Term.TheVariants.{Ret, RetValue, Br, BrIf, Switch, Unreachable}
use Rattle.ir_core.specs.declared.module.Block.{Block}
use Rattle.ir_core.specs.Names.{same_name, number_where}
use Rattle.low_core.specs.declared.moves.Chunk.{Chunk}
use Rattle.low_core.specs.Plain.{block_of}
use Rattle.switch_lower.specs.Ways.{Way, ways}
use Rattle.switch_lower.specs.Fresh.{zeros_of, chunk_name}
use Rattle.switch_lower.specs.Tree.{Choice, tests, row, tree, tree_of, ways_within, size_within}
use Rattle.switch_lower.specs.Bodies.{with_end, chunks_by, chunks_for, chunks_from}
use Rattle.switch_lower.proofs.Names.{name_itself, name_is, apart, chunk_zeros, chunk_names_differ}
use Rattle.switch_lower.proofs.TreeLaws.{tree_few, tree_many, tree_full}

-- new chunks, whose labels say their numbers
abbrev pub AreNew : ℕ → ℕ → List Chunk → Type 0
AreNew padding at [] = Unit {0}
AreNew padding at (c ∷ cs) = (c.label ≡ chunk_name padding at) × AreNew padding (at + 1) cs

-- new chunks, or old ones, whose labels begin with fewer zero bytes
abbrev pub AreNumbered : ℕ → ℕ → List Chunk → Type 0
AreNumbered padding at [] = Unit {0}
AreNumbered padding at (c ∷ cs) = ((zeros_of c.label < padding) ⊎ (c.label ≡ chunk_name padding at)) × AreNumbered padding (at + 1) cs

new_append : (padding at : ℕ) (xs ys : List Chunk) → AreNew padding at xs → AreNew padding (at + length xs) ys → AreNew padding at (xs ++ ys)
new_append padding at [] ys first second = let e : at + 0 ≡ at = omega arith in subst (λ n. AreNew padding n ys) e second
new_append padding at (x ∷ xs) ys first second = let e : at + suc (length xs) ≡ at + 1 + length xs = omega arith in (first.0, new_append padding (at + 1) xs ys first.1 (subst (λ n. AreNew padding n ys) e second))

numbered_append : (padding at : ℕ) (xs ys : List Chunk) → AreNumbered padding at xs → AreNumbered padding (at + length xs) ys → AreNumbered padding at (xs ++ ys)
numbered_append padding at [] ys first second = let e : at + 0 ≡ at = omega arith in subst (λ n. AreNumbered padding n ys) e second
numbered_append padding at (x ∷ xs) ys first second = let e : at + suc (length xs) ≡ at + 1 + length xs = omega arith in (first.0, numbered_append padding (at + 1) xs ys first.1 (subst (λ n. AreNumbered padding n ys) e second))

new_numbered : (padding at : ℕ) (xs : List Chunk) → AreNew padding at xs → AreNumbered padding at xs
new_numbered padding at [] new = tt
new_numbered padding at (x ∷ xs) new = (inr new.0, new_numbered padding (at + 1) xs new.1)

-- the chunks of trees are new
tests_new : (s : Choice) (at : ℕ) (ws : List Way) → AreNew s.padding at (tests s at ws)
tests_new s at [] = tt
tests_new s at (w ∷ ws) = (refl, tests_new s (at + 1) ws)

row_new : (s : Choice) (at : ℕ) (ws : List Way) → AreNew s.padding at (row s at ws)
row_new s at [] = (refl, tt)
row_new s at (w ∷ ws) = tests_new s at (w ∷ ws)

pub tree_new : (s : Choice) (d at : ℕ) (ws : List Way) → AreNew s.padding at (tree s d at ws)
tree_new s zero at ws = row_new s at ws
tree_new s (suc d) at ws = by_test (nat_le (length ws) (ways_within d)) refl (tree_new s d at ws) (tree_new s d (at + 1) (take (ways_within d) ws)) (tree_new s d (at + size_within d) (drop (ways_within d) ws))
  where
    by_test : (b : Bool) → nat_le (length ws) (ways_within d) ≡ b → AreNew s.padding at (tree s d at ws) → AreNew s.padding (at + 1) (tree s d (at + 1) (take (ways_within d) ws)) → AreNew s.padding (at + size_within d) (tree s d (at + size_within d) (drop (ways_within d) ws)) → AreNew s.padding at (tree s (suc d) at ws)
    by_test true e few left right = subst (AreNew s.padding at) (sym (tree_few s d at ws (leb-true (length ws) (ways_within d) e))) few
    by_test false e few left right =
        let many = leb-false (length ws) (ways_within d) e in
        let full = tree_full s d (at + 1) (take (ways_within d) ws) (length-take-le (ways_within d) ws (omega arith)) in
        let n : at + size_within d ≡ at + 1 + length (tree s d (at + 1) (take (ways_within d) ws)) = omega arith in
        subst (AreNew s.padding at) (sym (tree_many s d at ws many)) (
          refl,
          new_append s.padding (at + 1) (tree s d (at + 1) (take (ways_within d) ws)) (tree s d (at + size_within d) (drop (ways_within d) ws)) left
              (subst (λ k. AreNew s.padding k (tree s d (at + size_within d) (drop (ways_within d) ws))) n right),
        )

-- labels of old chunks
abbrev pub AreOld : ℕ → List Chunk → Type 0
AreOld padding [] = Unit {0}
AreOld padding (c ∷ cs) = (zeros_of c.label < padding) × AreOld padding cs

-- what stands in the place of a chunk: one with its label, and then new ones
pub record IsPart (padding at : ℕ) (c : Chunk) : Type 0 where
  pub first : Chunk
  pub rest : List Chunk
  pub are : chunks_for padding at c ≡ first ∷ rest
  pub label : first.label ≡ c.label
  pub moves : first.moves ≡ c.moves
  pub new : AreNew padding (at + 1) rest

pub part_of : (padding at : ℕ) (c : Chunk) → IsPart padding at c
part_of padding at c = of_end c.end refl
  where
    of_end : (end : Term) → c.end ≡ end → IsPart padding at c
    of_end (Switch ty a default cases) e = record {
      first = with_end c (Br (chunk_name padding (at + 1)));
      rest = tree_of (record { ty = ty; value = a; default = default; padding = padding }) (at + 1) (ways ty cases);
      are = ap (chunks_by padding at c) e;
      label = refl;
      moves = refl;
      new = tree_new (record { ty = ty; value = a; default = default; padding = padding }) (length (ways ty cases)) (at + 1) (ways ty cases);
    }
    of_end Ret e = record { first = c; rest = []; are = ap (chunks_by padding at c) e; label = refl; moves = refl; new = tt }
    of_end (RetValue ty a) e = record { first = c; rest = []; are = ap (chunks_by padding at c) e; label = refl; moves = refl; new = tt }
    of_end (Br to) e = record { first = c; rest = []; are = ap (chunks_by padding at c) e; label = refl; moves = refl; new = tt }
    of_end (BrIf condition taken other) e = record { first = c; rest = []; are = ap (chunks_by padding at c) e; label = refl; moves = refl; new = tt }
    of_end Unreachable e = record { first = c; rest = []; are = ap (chunks_by padding at c) e; label = refl; moves = refl; new = tt }

pub all_numbered : (padding at : ℕ) (cs : List Chunk) → AreOld padding cs → AreNumbered padding at (chunks_from padding at cs)
all_numbered padding at [] old = tt
all_numbered padding at (c ∷ cs) old =
    let p = part_of padding at c in
    numbered_append padding at (chunks_for padding at c) (chunks_from padding (at + length (chunks_for padding at c)) cs)
    (subst (AreNumbered padding at) (sym p.are) (inl (subst (λ l. zeros_of l < padding) (sym p.label) old.0), new_numbered padding (at + 1) p.rest p.new))
    (all_numbered padding (at + length (chunks_for padding at c)) cs old.1)

-- the number of a label among chunks
abbrev pub place_of : List ℕ → List Chunk → Option ℕ
place_of label cs = number_where (λ (b : Block). same_name b.label label) (map block_of cs)

-- a chunk with another label stands in front
passed : (label : List ℕ) (c : Chunk) (cs : List Chunk) (k : ℕ) → same_name c.label label ≡ false → place_of label cs ≡ Some k → place_of label (c ∷ cs) ≡ Some (suc k)
passed label c cs k differs found = ap (λ b. if b then Some 0 else option_map (λ n. suc n) (place_of label cs)) differs ∙ ap (option_map (λ n. suc n)) found

met : (label : List ℕ) (c : Chunk) (cs : List Chunk) → same_name c.label label ≡ true → place_of label (c ∷ cs) ≡ Some 0
met label c cs same = ap (λ b. if b then Some 0 else option_map (λ n. suc n) (place_of label cs)) same

-- a new label leads to the number that it says
pub new_found : (padding at : ℕ) (cs : List Chunk) (q : ℕ) (x : Chunk) → AreNumbered padding at cs → slice_get cs q ≡ Some x → x.label ≡ chunk_name padding (at + q) → at + q < 2 ^ 64 → place_of (chunk_name padding (at + q)) cs ≡ Some q
new_found padding at [] q x all there named below = absurd (cc)
new_found padding at (c ∷ cs) zero x all there named below =
    let is : c ≡ x = cc in
    met (chunk_name padding (at + 0)) c cs (ap (λ l. same_name l (chunk_name padding (at + 0))) (ap (λ (d : Chunk). d.label) is ∙ named) ∙ name_itself (chunk_name padding (at + 0)))
new_found padding at (c ∷ cs) (suc q) x all there named below =
    let e : at + 1 + q ≡ at + suc q = omega arith in
    let later = new_found padding (at + 1) cs q x all.1 there (named ∙ ap (chunk_name padding) (sym e)) (omega arith) in
    let label = chunk_name padding (at + suc q) in
    passed label c cs q
    (elim all.0 [
      | inl few ↦ let many = chunk_zeros padding (at + suc q) in apart c.label label (λ same. omega (arith, few, many, same))
      | inr new ↦ differs (same_name c.label label) refl new
    ])
    (ap (λ n. place_of (chunk_name padding n) cs) (sym e) ∙ later)
  where
    differs : (b : Bool) → same_name c.label (chunk_name padding (at + suc q)) ≡ b → c.label ≡ chunk_name padding at → b ≡ false
    differs false e new = refl
    differs true e new = absurd (let n = chunk_names_differ padding at (at + suc q) (omega arith) below (sym new ∙ name_is c.label (chunk_name padding (at + suc q)) e) in omega arith)

-- items of two rows
pub in_front : {X : Type 0} (xs ys : List X) (k : ℕ) (x : X) → slice_get xs k ≡ Some x → slice_get (xs ++ ys) k ≡ Some x
in_front [] ys k x at = absurd (cc)
in_front (y ∷ xs) ys zero x at = at
in_front (y ∷ xs) ys (suc k) x at = in_front xs ys k x at

pub behind : {X : Type 0} (xs ys : List X) (k : ℕ) → slice_get (xs ++ ys) (length xs + k) ≡ slice_get ys k
behind [] ys k = let e : 0 + k ≡ k = omega arith in ap (slice_get ys) e
behind (x ∷ xs) ys k = let e : suc (length xs) + k ≡ suc (length xs + k) = omega arith in ap (slice_get (x ∷ (xs ++ ys))) e ∙ behind xs ys k

-- past new chunks an old label is looked for behind them
past_new : (padding at : ℕ) (label : List ℕ) (xs ys : List Chunk) (k : ℕ) → zeros_of label < padding → AreNew padding at xs → place_of label ys ≡ Some k → place_of label (xs ++ ys) ≡ Some (length xs + k)
past_new padding at label [] ys k few new found = let e : 0 + k ≡ k = omega arith in found ∙ ap Some (sym e)
past_new padding at label (x ∷ xs) ys k few new found =
    let e : suc (length xs) + k ≡ suc (length xs + k) = omega arith in
    let many = chunk_zeros padding at in
    let same : zeros_of x.label ≡ zeros_of (chunk_name padding at) = ap zeros_of new.0 in
    passed label x (xs ++ ys) (length xs + k) (apart x.label label (λ z. omega (arith, few, many, same, z))) (past_new padding (at + 1) label xs ys k few new.1 found) ∙ ap Some (sym e)

-- where an old label leads without switches
pub record IsMoved (padding at : ℕ) (cs : List Chunk) (label : List ℕ) (k : ℕ) : Type 0 where
  pub chunk : Chunk
  pub was : slice_get cs k ≡ Some chunk
  pub now : ℕ
  pub found : place_of label (chunks_from padding at cs) ≡ Some now
  pub part : (j : ℕ) (x : Chunk) → slice_get (chunks_for padding (at + now) chunk) j ≡ Some x → slice_get (chunks_from padding at cs) (now + j) ≡ Some x

pub old_found : (padding at : ℕ) (cs : List Chunk) (label : List ℕ) (k : ℕ) → zeros_of label < padding → place_of label cs ≡ Some k → IsMoved padding at cs label k
old_found padding at [] label k few found = absurd (cc)
old_found padding at (c ∷ cs) label k few found = by_test (same_name c.label label) refl (λ j g. old_found padding (at + length (chunks_for padding at c)) cs label j few g) found
  where
    p : IsPart padding at c
    p = part_of padding at c

    n : ℕ
    n = length (chunks_for padding at c)

    later : List Chunk
    later = chunks_from padding (at + n) cs

    by_test : (b : Bool) → same_name c.label label ≡ b → ((j : ℕ) → place_of label cs ≡ Some j → IsMoved padding (at + n) cs label j) → (if b then Some 0 else option_map (λ i. suc i) (place_of label cs)) ≡ Some k → IsMoved padding at (c ∷ cs) label k
    by_test true same go is = record {
      chunk = c;
      was = let e : 0 ≡ k = cc in ap (slice_get (c ∷ cs)) (sym e);
      now = 0;
      found = ap (λ l. place_of label (l ++ later)) p.are ∙ met label p.first (p.rest ++ later) (ap (λ l. same_name l label) p.label ∙ same);
      part = λ j x there. let z : at + 0 ≡ at = omega arith in let y : 0 + j ≡ j = omega arith in ap (slice_get (chunks_for padding at c ++ later)) y ∙ in_front (chunks_for padding at c) later j x (ap (λ i. slice_get (chunks_for padding i c) j) (sym z) ∙ there);
    }
    by_test false same go is = of_place (place_of label cs) refl is
      where
        of_place : (o : Option ℕ) → place_of label cs ≡ o → option_map (λ i. suc i) o ≡ Some k → IsMoved padding at (c ∷ cs) label k
        of_place None e f = absurd (cc)
        of_place (Some j) e f =
            let x = go j e in
            let long : n ≡ suc (length p.rest) = ap length p.are in
            record {
              chunk = x.chunk;
              was = let s : suc j ≡ k = cc in ap (slice_get (c ∷ cs)) (sym s) ∙ x.was;
              now = n + x.now;
              found =
                  let s : suc (length p.rest + x.now) ≡ n + x.now = omega arith in
                  ap (λ l. place_of label (l ++ later)) p.are
                  ∙ passed label p.first (p.rest ++ later) (length p.rest + x.now) (ap (λ l. same_name l label) p.label ∙ same) (past_new padding (at + 1) label p.rest later x.now few p.new x.found)
                  ∙ ap Some s;
              part = λ i y there.
                  let s : at + (n + x.now) ≡ at + n + x.now = omega arith in
                  let t : n + x.now + i ≡ n + (x.now + i) = omega arith in
                  ap (slice_get (chunks_for padding at c ++ later)) t ∙ behind (chunks_for padding at c) later (x.now + i) ∙ x.part i y (ap (λ z. slice_get (chunks_for padding z x.chunk) i) (sym s) ∙ there);
            }
