-- The sizes of trees, depths that serve, and a tree by its halves.
use Rattle.std.proofs.Common.{◌≡◌, ℕ, zero, suc, ◌+◌, ◌-◌, ◌*◌, ◌%◌, ◌^◌, ◌<◌, ◌≤◌, Bool, true, false, List, [], ◌∷◌, ◌++◌, take, drop, length, get_or, refl, ap, sym, ◌∙◌, subst, arith, length-append, append_assoc}
use Rattle.std.specs.Prelude.{nat_le, if◌then◌else◌}
use Rattle.std.proofs.lemmas.Bool.{le-leb, lt-leb, leb-true, leb-false}
use Rattle.std.proofs.lemmas.List.{length-take-le, length-drop}
use Rattle.std.proofs.Math.Nat.{pow-le-pow_right, one-le-pow}
use Rattle.ir_core.specs.declared.instruction.Pred.TheVariants.{Ult}
use Rattle.low_core.specs.declared.moves.Chunk.{Chunk}
use Rattle.switch_lower.specs.Ways.{Way}
use Rattle.switch_lower.specs.Fresh.{chunk_name}
use Rattle.switch_lower.specs.Tree.{Choice, compare_chunk, tests, row, least, ways_within, size_within, tree, tree_of}
use Rattle.switch_lower.proofs.ListLaws.{left_at}

-- a deeper tree has as many ways at least
pub ways_deeper : (d e : ℕ) → d ≤ e → ways_within d ≤ ways_within e
ways_deeper d e deep = let p = pow-le-pow_right {n = 2} (omega arith) deep in omega arith

-- and a size that a word can tell
pub size_fits : (d : ℕ) → d ≤ 60 → size_within d ≤ 5 * 2 ^ 60
size_fits d deep = let p = pow-le-pow_right {n = 2} (omega arith) deep in omega arith

-- as many ways as its length, at the least
pub ways_many : (n : ℕ) → n ≤ ways_within n
ways_many zero = omega arith
ways_many (suc n) = let p = ways_many n in let r = one-le-pow n 2 (omega arith) in let q : 2 ^ suc n ≡ 2 ^ n + 2 ^ n = omega arith in omega arith

-- room for one way at least, and twice as many one level deeper
pub ways_some : (d : ℕ) → 0 < ways_within d
ways_some d = let p = one-le-pow d 2 (omega arith) in omega arith

pub twice : (d : ℕ) → ways_within (suc d) ≡ ways_within d + ways_within d
twice d = omega arith

-- the two halves behind their comparison
abbrev pub halved : Choice → ℕ → ℕ → List Way → List Chunk
halved s d at ws =
    compare_chunk s at Ult (least (drop (ways_within d) ws)) (chunk_name s.padding (at + 1)) (chunk_name s.padding (at + size_within d))
    ∷ tree s d (at + 1) (take (ways_within d) ws) ++ tree s d (at + size_within d) (drop (ways_within d) ws)

-- few ways need no level of their own
pub tree_few : (s : Choice) (d at : ℕ) (ws : List Way) → length ws ≤ ways_within d → tree s (suc d) at ws ≡ tree s d at ws
tree_few s d at ws few = ap (λ b. if b then tree s d at ws else halved s d at ws) (le-leb (length ws) (ways_within d) few)

-- many ways are halved
pub tree_many : (s : Choice) (d at : ℕ) (ws : List Way) → ways_within d < length ws → tree s (suc d) at ws ≡ halved s d at ws
tree_many s d at ws many = ap (λ b. if b then tree s d at ws else halved s d at ws) (lt-leb (length ws) (ways_within d) many)

-- all depths that serve have the same tree
pub tree_serves : (s : Choice) (d e at : ℕ) (ws : List Way) → d ≤ e → length ws ≤ ways_within d → tree s e at ws ≡ tree s d at ws
tree_serves s d zero at ws deep few = let e : d ≡ 0 = omega arith in ap (λ k. tree s k at ws) (sym e)
tree_serves s d (suc e) at ws deep few = by_test (nat_le d e) refl (λ l. tree_serves s d e at ws l few)
  where
    by_test : (b : Bool) → nat_le d e ≡ b → (d ≤ e → tree s e at ws ≡ tree s d at ws) → tree s (suc e) at ws ≡ tree s d at ws
    by_test true p go =
        let l = leb-true d e p in
        let m = ways_deeper d e l in
        tree_few s e at ws (omega arith) ∙ go l
    by_test false p go = let l = leb-false d e p in let same : d ≡ suc e = omega arith in ap (λ k. tree s k at ws) (sym same)

-- a depth that serves has the tree of a switch
pub tree_deep : (s : Choice) (d at : ℕ) (ws : List Way) → length ws ≤ ways_within d → tree s d at ws ≡ tree_of s at ws
tree_deep s d at ws few = by_test (nat_le d (length ws)) refl
  where
    by_test : (b : Bool) → nat_le d (length ws) ≡ b → tree s d at ws ≡ tree_of s at ws
    by_test true p = sym (tree_serves s d (length ws) at ws (leb-true d (length ws) p) few)
    by_test false p = let l = leb-false d (length ws) p in tree_serves s (length ws) d at ws (omega arith) (ways_many (length ws))

-- a test for each way
pub length_tests : (s : Choice) (at : ℕ) (ws : List Way) → length (tests s at ws) ≡ length ws
length_tests s at [] = refl
length_tests s at (w ∷ ws) = ap (λ n. suc n) (length_tests s (at + 1) ws)

length_row : (s : Choice) (at : ℕ) (ws : List Way) → 0 < length ws → length (row s at ws) ≡ length ws
length_row s at [] some = absurd (omega (arith, some))
length_row s at (w ∷ ws) some = length_tests s at (w ∷ ws)

-- the chunks of a full tree
pub tree_full : (s : Choice) (d at : ℕ) (ws : List Way) → length ws ≡ ways_within d → length (tree s d at ws) + 1 ≡ size_within d
tree_full s zero at ws full = let e = length_row s at ws (omega arith) in omega arith
tree_full s (suc d) at ws full =
    let half : length (take (ways_within d) ws) ≡ ways_within d = length-take-le (ways_within d) ws (omega arith) in
    let rest : length (drop (ways_within d) ws) ≡ ways_within d = length-drop (ways_within d) ws ∙ omega arith in
    let left = tree_full s d (at + 1) (take (ways_within d) ws) half in
    let right = tree_full s d (at + size_within d) (drop (ways_within d) ws) rest in
    let both = length-append (tree s d (at + 1) (take (ways_within d) ws)) (tree s d (at + size_within d) (drop (ways_within d) ws)) in
    let whole = ap length (tree_many s d at ws (omega arith)) in
    omega arith

-- the least of what is left is the number at that place
pub least_left : (k : ℕ) (ws : List Way) (w : Way) → k < length ws → w ≡ get_or ws k w → least (drop k ws) ≡ w.0
least_left k ws w below is = ap least (left_at k ws w below is)

-- chunks to which a comparison, the left half and the right half were added
pub halves_added : (s : Choice) (all a b c : List Chunk) (depth number : ℕ) (ws : List Way) → 0 < depth → ways_within (depth - 1) < length ws → number ≡ least (drop (ways_within (depth - 1)) ws) →
    a ≡ all ++ compare_chunk s (length all) Ult number (chunk_name s.padding (length all + 1)) (chunk_name s.padding (length all + size_within (depth - 1))) ∷ [] →
    b ≡ a ++ tree s (depth - 1) (length a) (take (ways_within (depth - 1)) ws) →
    c ≡ b ++ tree s (depth - 1) (length b) (drop (ways_within (depth - 1)) ws) →
    c ≡ all ++ tree s depth (length all) ws
halves_added s all a b c zero number ws deep many is first second third = absurd (omega (arith, deep))
halves_added s all a b c (suc d) number ws deep many is first second third =
    let same : suc d - 1 ≡ d = omega arith in
    go (subst (λ e. ways_within e < length ws) same many) (subst (λ e. number ≡ least (drop (ways_within e) ws)) same is)
    (subst (λ e. a ≡ all ++ compare_chunk s at Ult number (chunk_name s.padding (at + 1)) (chunk_name s.padding (at + size_within e)) ∷ []) same first)
    (subst (λ e. b ≡ a ++ tree s e (length a) (take (ways_within e) ws)) same second)
    (subst (λ e. c ≡ b ++ tree s e (length b) (drop (ways_within e) ws)) same third)
  where
    at : ℕ
    at = length all

    node : Chunk
    node = compare_chunk s at Ult (least (drop (ways_within d) ws)) (chunk_name s.padding (at + 1)) (chunk_name s.padding (at + size_within d))

    left : List Chunk
    left = tree s d (at + 1) (take (ways_within d) ws)

    right : List Chunk
    right = tree s d (at + size_within d) (drop (ways_within d) ws)

    go : ways_within d < length ws → number ≡ least (drop (ways_within d) ws) →
        a ≡ all ++ compare_chunk s at Ult number (chunk_name s.padding (at + 1)) (chunk_name s.padding (at + size_within d)) ∷ [] →
        b ≡ a ++ tree s d (length a) (take (ways_within d) ws) →
        c ≡ b ++ tree s d (length b) (drop (ways_within d) ws) →
        c ≡ all ++ tree s (suc d) (length all) ws
    go many is first second third =
        let a_is : a ≡ all ++ node ∷ [] = first ∙ ap (λ n. all ++ compare_chunk s at Ult n (chunk_name s.padding (at + 1)) (chunk_name s.padding (at + size_within d)) ∷ []) is in
        let a_long : length a ≡ at + 1 = ap length a_is ∙ length-append all (node ∷ []) in
        let b_is : b ≡ a ++ left = second ∙ ap (λ n. a ++ tree s d n (take (ways_within d) ws)) a_long in
        let half = length-take-le (ways_within d) ws (omega arith) in
        let full = tree_full s d (at + 1) (take (ways_within d) ws) half in
        let b_long : length b ≡ at + size_within d = let e = ap length b_is ∙ length-append a left in omega arith in
        let c_is : c ≡ b ++ right = third ∙ ap (λ n. b ++ tree s d n (drop (ways_within d) ws)) b_long in
        c_is ∙ ap (λ l. l ++ right) (b_is ∙ ap (λ l. l ++ left) a_is ∙ append_assoc all (node ∷ []) left) ∙ append_assoc all (node ∷ left) right ∙ ap (λ l. all ++ l) (sym (tree_many s d at ws many))

-- the same, where half of what the tree can have was told
pub halves_by : (s : Choice) (all a b c : List Chunk) (depth number half : ℕ) (ws : List Way) → half ≡ ways_within (depth - 1) → 0 < depth → half < length ws → number ≡ least (drop half ws) →
    a ≡ all ++ compare_chunk s (length all) Ult number (chunk_name s.padding (length all + 1)) (chunk_name s.padding (length all + size_within (depth - 1))) ∷ [] →
    b ≡ a ++ tree s (depth - 1) (length a) (take half ws) →
    c ≡ b ++ tree s (depth - 1) (length b) (drop half ws) →
    c ≡ all ++ tree s depth (length all) ws
halves_by s all a b c depth number half ws same deep many is first second third =
    halves_added s all a b c depth number ws deep (subst (λ h. h < length ws) same many) (subst (λ h. number ≡ least (drop h ws)) same is) first
    (subst (λ h. b ≡ a ++ tree s (depth - 1) (length a) (take h ws)) same second)
    (subst (λ h. c ≡ b ++ tree s (depth - 1) (length b) (drop h ws)) same third)

-- a shift gives both numbers
pub ways_told : (d : ℕ) → d ≤ 60 → 4 * 2 ^ d % 18446744073709551616 ≡ ways_within d
ways_told d deep = let p = pow-le-pow_right {n = 2} (omega arith) deep in omega arith

pub size_told : (d : ℕ) → d ≤ 60 → 5 * 2 ^ d % 18446744073709551616 ≡ size_within d
size_told d deep = let p = pow-le-pow_right {n = 2} (omega arith) deep in omega arith
