-- The registers that points have are those that a function's operations, ends and parameters have.
use Rattle.std.proofs.Common.{◌≡◌, ℕ, zero, suc, ◌⊎◌, inl, inr, List, [], ◌∷◌, ◌++◌, map, Option, Some, None, slice_get, refl, ap, sym, subst}
use Rattle.std.specs.List.{flat_map}
use Rattle.low_core.specs.declared.sel.SelOp.{SelOp}
use Rattle.low_core.specs.declared.sel.SelEnd.{SelEnd}
use Rattle.low_core.specs.declared.sel.SelBlock.{SelBlock}
use Rattle.low_core.specs.declared.sel.SelFun.{SelFun}
use Rattle.low_core.specs.SelParts.{reads_of, assigns_of, end_reads, IsOneOf}
use Rattle.low_core.specs.Liveness.{Point, Entry, Does, Ends, block_points, points_of, Reads, Assigns, Needed, Here, Later, Touches}
use Rattle.regalloc.specs.Occurs.{Occurs, assigned, op_registers, block_registers, registers_of}

abbrev Member : Point → List Point → Type 0
Member x xs = (i : ℕ) × (slice_get xs i ≡ Some x)

member_back : (x y : Point) (xs : List Point) → Member x xs → Member x (y ∷ xs)
member_back x y xs m = (suc m.0, m.1)

member_left : (x : Point) (xs ys : List Point) → Member x xs → Member x (xs ++ ys)
member_left x [] ys m = let h = m.1 in absurd (cc)
member_left x (z ∷ zs) ys (zero, h) = (zero, h)
member_left x (z ∷ zs) ys (suc i, h) = member_back x z (zs ++ ys) (member_left x zs ys (i, h))

member_right : (x : Point) (xs ys : List Point) → Member x ys → Member x (xs ++ ys)
member_right x [] ys m = m
member_right x (z ∷ zs) ys m = member_back x z (zs ++ ys) (member_right x zs ys m)

member_split : (x : Point) (xs ys : List Point) → Member x (xs ++ ys) → Member x xs ⊎ Member x ys
member_split x [] ys m = inr m
member_split x (z ∷ zs) ys (zero, h) = inl (zero, h)
member_split x (z ∷ zs) ys (suc i, h) = elim (member_split x zs ys (i, h)) [
  | inl m ↦ inl (suc m.0, m.1)
  | inr m ↦ inr m
]

one_front : (n : ℕ) (xs ys : List ℕ) → IsOneOf n xs → IsOneOf n (xs ++ ys)
one_front n [] ys h = absurd h
one_front n (x ∷ xs) ys (inl e) = inl e
one_front n (x ∷ xs) ys (inr h) = inr (one_front n xs ys h)

one_back : (n : ℕ) (xs ys : List ℕ) → IsOneOf n ys → IsOneOf n (xs ++ ys)
one_back n [] ys h = h
one_back n (x ∷ xs) ys h = inr (one_back n xs ys h)

one_split : (n : ℕ) (xs ys : List ℕ) → IsOneOf n (xs ++ ys) → IsOneOf n xs ⊎ IsOneOf n ys
one_split n [] ys h = inr h
one_split n (x ∷ xs) ys (inl e) = inl (inl e)
one_split n (x ∷ xs) ys (inr h) = elim (one_split n xs ys h) [
  | inl m ↦ inl (inr m)
  | inr m ↦ inr m
]

abbrev Has : List ℕ → Point → ℕ → Type 0
Has params x r = Reads x r ⊎ Assigns params x r

has_op : (params : List ℕ) (op : SelOp) (r : ℕ) → Has params (Does op) r → IsOneOf r (op_registers op)
has_op params op r (inl h) = one_front r (reads_of op) (assigned (assigns_of op)) h
has_op params op r (inr h) = one_back r (reads_of op) (assigned (assigns_of op)) (subst (λ o. IsOneOf r (assigned o)) (sym h) (inl refl))

in_ops : (params : List ℕ) (ops : List SelOp) (x : Point) (r : ℕ) → Member x (map Does ops) → Has params x r → IsOneOf r (flat_map op_registers ops)
in_ops params [] x r m h = let is = m.1 in absurd (cc)
in_ops params (op ∷ ops) x r (zero, is) h = let same : x ≡ Does op = cc in one_front r (op_registers op) (flat_map op_registers ops) (has_op params op r (subst (λ y. Has params y r) same h))
in_ops params (op ∷ ops) x r (suc i, is) h = one_back r (op_registers op) (flat_map op_registers ops) (in_ops params ops x r (i, is) h)

has_end : (params : List ℕ) (end : SelEnd) (r : ℕ) → Has params (Ends end) r → IsOneOf r (end_reads end)
has_end params end r (inl h) = h
has_end params end r (inr h) = absurd h

in_end : (params : List ℕ) (end : SelEnd) (x : Point) (r : ℕ) → Member x (Ends end ∷ []) → Has params x r → IsOneOf r (end_reads end)
in_end params end x r (zero, is) h = let same : x ≡ Ends end = cc in has_end params end r (subst (λ y. Has params y r) same h)
in_end params end x r (suc i, is) h = absurd (cc)

in_blocks : (params : List ℕ) (bs : List SelBlock) (x : Point) (r : ℕ) → Member x (flat_map block_points bs) → Has params x r → IsOneOf r (flat_map block_registers bs)
in_blocks params [] x r m h = let is = m.1 in absurd (cc)
in_blocks params (b ∷ bs) x r m h = elim (member_split x (block_points b) (flat_map block_points bs) m) [
  | inl here ↦ one_front r (block_registers b) (flat_map block_registers bs) (elim (member_split x (map Does b.ops) (Ends b.end ∷ []) here) [
    | inl op ↦ one_front r (flat_map op_registers b.ops) (end_reads b.end) (in_ops params b.ops x r op h)
    | inr end ↦ one_back r (flat_map op_registers b.ops) (end_reads b.end) (in_end params b.end x r end h)
  ])
  | inr there ↦ one_back r (block_registers b) (flat_map block_registers bs) (in_blocks params bs x r there h)
]

pub occurs_one : (f : SelFun) (r : ℕ) → Occurs f r → IsOneOf r (registers_of f)
occurs_one f r o = at o.position o.point o.stands o.has
  where
    of_entry : (x : Point) → Entry ≡ x → Has f.params x r → IsOneOf r f.params
    of_entry x e h = elim (subst (λ y. Has f.params y r) (sym e) h) [
      | inl none ↦ absurd none
      | inr one ↦ one
    ]

    at : (p : ℕ) (x : Point) → slice_get (points_of f) p ≡ Some x → Has f.params x r → IsOneOf r (registers_of f)
    at zero x is h = let same : Entry ≡ x = cc in one_front r f.params (flat_map block_registers f.blocks) (of_entry x same h)
    at (suc p) x is h = one_back r f.params (flat_map block_registers f.blocks) (in_blocks f.params f.blocks x r (p, is) h)

-- and back
abbrev Found : List ℕ → List Point → ℕ → Type 0
Found params xs r = (x : Point) × (Member x xs × Has params x r)

op_found : (params : List ℕ) (op : SelOp) (r : ℕ) → IsOneOf r (op_registers op) → Has params (Does op) r
op_found params op r h = elim (one_split r (reads_of op) (assigned (assigns_of op)) h) [
  | inl reads ↦ inl reads
  | inr gives ↦ inr (given (assigns_of op) gives)
]
  where
    given : (o : Option ℕ) → IsOneOf r (assigned o) → o ≡ Some r
    given None h = absurd h
    given (Some s) (inl e) = ap Some (sym e)
    given (Some s) (inr h) = absurd h

ops_found : (params : List ℕ) (ops : List SelOp) (r : ℕ) → IsOneOf r (flat_map op_registers ops) → Found params (map Does ops) r
ops_found params [] r h = absurd h
ops_found params (op ∷ ops) r h = elim (one_split r (op_registers op) (flat_map op_registers ops) h) [
  | inl here ↦ (Does op, ((0, refl), op_found params op r here))
  | inr there ↦ let f = ops_found params ops r there in (f.0, (member_back f.0 (Does op) (map Does ops) f.1.0, f.1.1))
]

blocks_found : (params : List ℕ) (bs : List SelBlock) (r : ℕ) → IsOneOf r (flat_map block_registers bs) → Found params (flat_map block_points bs) r
blocks_found params [] r h = absurd h
blocks_found params (b ∷ bs) r h = elim (one_split r (block_registers b) (flat_map block_registers bs) h) [
  | inl here ↦ elim (one_split r (flat_map op_registers b.ops) (end_reads b.end) here) [
    | inl op ↦
        let f = ops_found params b.ops r op in
        (f.0, (member_left f.0 (block_points b) (flat_map block_points bs) (member_left f.0 (map Does b.ops) (Ends b.end ∷ []) f.1.0), f.1.1))
    | inr end ↦
        (Ends b.end, (member_left (Ends b.end) (block_points b) (flat_map block_points bs) (member_right (Ends b.end) (map Does b.ops) (Ends b.end ∷ []) (0, refl)), inl end))
  ]
  | inr there ↦ let f = blocks_found params bs r there in (f.0, (member_right f.0 (block_points b) (flat_map block_points bs) f.1.0, f.1.1))
]

pub one_occurs : (f : SelFun) (r : ℕ) → IsOneOf r (registers_of f) → Occurs f r
one_occurs f r h = elim (one_split r f.params (flat_map block_registers f.blocks) h) [
  | inl param ↦ record { position = 0; point = Entry; stands = refl; has = inr param }
  | inr block ↦ let g = blocks_found f.params f.blocks r block in record { position = suc g.1.0.0; point = g.0; stands = g.1.0.1; has = g.1.1 }
]

-- what is needed somewhere occurs
needed_occurs : (f : SelFun) (r p : ℕ) → Needed f r p → Occurs f r
needed_occurs f r p (Here q x is reads) = record { position = q; point = x; stands = is; has = inl reads }
needed_occurs f r p (Later q n x is free follows needed) = needed_occurs f r n needed

pub touched_occurs : (f : SelFun) (r p : ℕ) → Touches f r p → Occurs f r
touched_occurs f r p (inl t) = record { position = p; point = t.0; stands = t.1.0; has = inr t.1.1 }
touched_occurs f r p (inr n) = needed_occurs f r p n
