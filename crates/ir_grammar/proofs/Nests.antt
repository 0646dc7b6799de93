-- Groups in brackets are read with the closing marks that are still to come.
use Rattle.std.proofs.Common.{◌≡◌, ℕ, Bool, true, false, List, [], ◌∷◌, ◌++◌, length, refl, sym, ◌∙◌, ap, subst, append_assoc, map, if◌then◌else◌}
use Rattle.std.specs.Prelude.{◌||◌, ◌==◌}
use Rattle.std.specs.List.{list_all}
use Rattle.std.proofs.lemmas.Bool.{eqb-true, eq-eqb}
use Rattle.ir_lex.specs.declared.token.TokenKind.{TokenKind}
use Rattle.ir_lex.specs.declared.token.TokenKind.TheVariants as kind
use Rattle.ir_grammar.specs.Tokens.{Sort, mark, same_sort, sort_of, example, is_spellable}
use Rattle.ir_grammar.specs.declared.bracket.Shape.{Shape}
use Rattle.ir_grammar.specs.declared.bracket.Shape.TheVariants.{Opens, Closes, Plain}
use Rattle.ir_grammar.specs.Brackets.{mark_shape, shape_of, Inner, none, one, group, Closed}
use Rattle.ir_grammar.specs.Grammar.{nest, Derives}
use Rattle.ir_grammar.specs.Reading.{is_closing, Read, done, fault, by_shape, scan, read_nest}
use Rattle.ir_grammar.proofs.Sets.{and_right, same_sort-true}
use Rattle.ir_grammar.proofs.Alike.{SameHead, Told}

-- what a closing mark closes is itself
chain_closes : (a b c e : Bool) (m d : ℕ) → (if a then Opens 41 else if b then Opens 93 else if c then Opens 125 else if e then Closes m else Plain) ≡ Closes d → m ≡ d
chain_closes true b c e m d h = absurd (cc)
chain_closes false true c e m d h = absurd (cc)
chain_closes false false true e m d h = absurd (cc)
chain_closes false false false true m d h = cc
chain_closes false false false false m d h = absurd (cc)

closes_is : (t : TokenKind) (d : ℕ) → shape_of t ≡ Closes d → t ≡ kind.Mark d
closes_is (kind.Mark m) d h = ap kind.Mark (chain_closes (m == 40) (m == 91) (m == 123) (m == 41 || (m == 93 || m == 125)) m d h)
closes_is _ d h = absurd (cc)

-- what an opening mark asks for closes
closing_at : (d e : ℕ) → e ≡ d → mark_shape e ≡ Closes e → mark_shape d ≡ Closes d
closing_at d e same h = subst (λ x. mark_shape x ≡ Closes x) same h

chain_opens : (a b c e : Bool) (m d : ℕ) → (if a then Opens 41 else if b then Opens 93 else if c then Opens 125 else if e then Closes m else Plain) ≡ Opens d → mark_shape d ≡ Closes d
chain_opens true b c e m d h = closing_at d 41 (cc) refl
chain_opens false true c e m d h = closing_at d 93 (cc) refl
chain_opens false false true e m d h = closing_at d 125 (cc) refl
chain_opens false false false true m d h = absurd (cc)
chain_opens false false false false m d h = absurd (cc)

opens_closes : (t : TokenKind) (d : ℕ) → shape_of t ≡ Opens d → mark_shape d ≡ Closes d
opens_closes (kind.Mark m) d h = chain_opens (m == 40) (m == 91) (m == 123) (m == 41 || (m == 93 || m == 125)) m d h
opens_closes _ d h = absurd (cc)

-- what an opening mark asks for has a spelling
spellable_at : (d e : ℕ) → e ≡ d → is_spellable (mark e) ≡ true → is_spellable (mark d) ≡ true
spellable_at d e same h = subst (λ x. is_spellable (mark x) ≡ true) same h

chain_spellable : (a b c e : Bool) (m d : ℕ) → (if a then Opens 41 else if b then Opens 93 else if c then Opens 125 else if e then Closes m else Plain) ≡ Opens d → is_spellable (mark d) ≡ true
chain_spellable true b c e m d h = spellable_at d 41 (cc) refl
chain_spellable false true c e m d h = spellable_at d 93 (cc) refl
chain_spellable false false true e m d h = spellable_at d 125 (cc) refl
chain_spellable false false false true m d h = absurd (cc)
chain_spellable false false false false m d h = absurd (cc)

opens_spellable : (t : TokenKind) (d : ℕ) → shape_of t ≡ Opens d → is_spellable (mark d) ≡ true
opens_spellable (kind.Mark m) d h = chain_spellable (m == 40) (m == 91) (m == 123) (m == 41 || (m == 93 || m == 125)) m d h
opens_spellable _ d h = absurd (cc)

pub closing_is : (c : ℕ) → is_closing (mark_shape c) ≡ true → mark_shape c ≡ Closes c
closing_is c h = by_mark (mark_shape c) refl h
  where
    by_mark : (s : Shape) → mark_shape c ≡ s → is_closing s ≡ true → mark_shape c ≡ Closes c
    by_mark (Opens d) e h = absurd (cc)
    by_mark (Closes d) e h = e ∙ ap Closes (sym (chain_closes (c == 40) (c == 91) (c == 123) (c == 41 || (c == 93 || c == 125)) c d e))
    by_mark Plain e h = absurd (cc)

-- the tokens close groups with these marks, one after another
abbrev pub Closing : List ℕ → List TokenKind → Type 0
Closing [] ts = ts ≡ []
Closing (c ∷ cs) ts = (inside : List TokenKind) × (rest : List TokenKind) × (ts ≡ inside ++ kind.Mark c ∷ rest) × Inner inside × Closing cs rest

abbrev pub Closings : List ℕ → Unit {0} → List TokenKind → Type 0
Closings marks u ts = Closing marks ts

abbrev pub marks_of : List ℕ → List Sort
marks_of marks = map mark marks

closing_ends : (marks : List ℕ) → Closing marks (map example (marks_of marks))
closing_ends [] = refl
closing_ends (c ∷ cs) = ([], map example (marks_of cs), refl, none, closing_ends cs)

-- one token in front of what is told
front_told : (t : TokenKind) (D E : Unit {0} → List TokenKind → Type 0) (r q : List TokenKind → Read (Unit {0})) (ts : List TokenKind) (x : Read (Unit {0}))
    → ((u : Unit {0}) (us : List TokenKind) → D u us → E u (t ∷ us)) → ((us : List TokenKind) → q (t ∷ us) ≡ r us) → Told D r ts x → Told E q (t ∷ ts) x
front_told t D E r q ts (done v rest) wide as_r k = record {
  front = t ∷ k.front;
  cut = ap (λ us. t ∷ us) k.cut;
  derives = wide v k.front k.derives;
  local = λ other same. as_r (k.front ++ other) ∙ k.local other same;
}
front_told t D E r q ts (fault left) wide as_r k = record {
  front = t ∷ k.front;
  rest = k.rest;
  cut = ap (λ us. t ∷ us) k.cut;
  left_is = k.left_is;
  more = k.more;
  spelled = k.spelled;
  value = k.value;
  derives = wide k.value (k.front ++ map example k.more) k.derives;
  local = λ other same. as_r (k.front ++ other) ∙ k.local other same;
}

scan_done : (other : List TokenKind) → scan other [] ≡ done tt other
scan_done [] = refl
scan_done (t ∷ ts) = refl

-- what each token does to the marks that are to come
join_open : (t : TokenKind) (d c : ℕ) (cs : List ℕ) (us : List TokenKind) → shape_of t ≡ Opens d → Closing (d ∷ c ∷ cs) us → Closing (c ∷ cs) (t ∷ us)
join_open t d c cs us s (inside, rest, cut, i, (more, last, next, j, k)) = (
  t ∷ (inside ++ kind.Mark d ∷ more),
  last,
  ap (λ x. t ∷ x) (cut ∙ ap (λ x. inside ++ kind.Mark d ∷ x) next ∙ sym (append_assoc inside (kind.Mark d ∷ more) (kind.Mark c ∷ last))),
  group s i j,
  k,
)

join_plain : (t : TokenKind) (c : ℕ) (cs : List ℕ) (us : List TokenKind) → shape_of t ≡ Plain → Closing (c ∷ cs) us → Closing (c ∷ cs) (t ∷ us)
join_plain t c cs us s (inside, rest, cut, i, k) = (t ∷ inside, rest, ap (λ x. t ∷ x) cut, one s i, k)

join_close : (t : TokenKind) (d c : ℕ) (cs : List ℕ) (us : List TokenKind) → shape_of t ≡ Closes d → d ≡ c → Closing cs us → Closing (c ∷ cs) (t ∷ us)
join_close t d c cs us s same k = ([], us, ap (λ x. x ∷ us) (closes_is t d s ∙ ap kind.Mark same), none, k)

pub scan_told : (ts : List TokenKind) (marks : List ℕ) → list_all is_spellable (marks_of marks) ≡ true → Told (Closings marks) (λ us. scan us marks) ts (scan ts marks)
scan_told [] [] ok = record { front = []; cut = refl; derives = refl; local = λ other same. scan_done other }
scan_told (t ∷ ts) [] ok = record { front = []; cut = refl; derives = refl; local = λ other same. scan_done other }
scan_told [] (c ∷ cs) ok = record {
  front = [];
  rest = [];
  cut = refl;
  left_is = refl;
  more = marks_of (c ∷ cs);
  spelled = ok;
  value = tt;
  derives = closing_ends (c ∷ cs);
  local = λ other same. at_end other same;
}
  where
    at_end : (other : List TokenKind) → SameHead [] other → scan other (c ∷ cs) ≡ fault (length other)
    at_end [] same = refl
    at_end (u ∷ us) same = absurd same
scan_told (t ∷ ts) (c ∷ cs) ok = by (shape_of t) refl (λ marks. scan_told ts marks)
  where
    closed : (d : ℕ) (b : Bool) → (d == c) ≡ b → shape_of t ≡ Closes d → Told (Closings cs) (λ us. scan us cs) ts (scan ts cs)
        → Told (Closings (c ∷ cs)) (λ us. scan us (c ∷ cs)) (t ∷ ts) (if b then scan ts cs else fault (length (t ∷ ts)))
    closed d true e s k = front_told t (Closings cs) (Closings (c ∷ cs)) (λ us. scan us cs) (λ us. scan us (c ∷ cs)) ts (scan ts cs)
        (λ u us x. join_close t d c cs us s (eqb-true d c e) x) (λ us. (rw s (rw e refl))) k
    closed d false e s k = record {
      front = [];
      rest = t ∷ ts;
      cut = refl;
      left_is = refl;
      more = marks_of (c ∷ cs);
      spelled = ok;
      value = tt;
      derives = closing_ends (c ∷ cs);
      local = λ other same. stray other same;
    }
      where
        stray : (other : List TokenKind) → SameHead (t ∷ ts) other → scan other (c ∷ cs) ≡ fault (length other)
        stray [] same = absurd same
        stray (u ∷ us) same =
            let q : shape_of u ≡ Closes d = ap shape_of (sym same) ∙ s in
            rw q (rw e refl)

    by : (s : Shape) → shape_of t ≡ s → ((marks : List ℕ) → list_all is_spellable (marks_of marks) ≡ true → Told (Closings marks) (λ us. scan us marks) ts (scan ts marks))
        → Told (Closings (c ∷ cs)) (λ us. scan us (c ∷ cs)) (t ∷ ts) (by_shape s c cs (length (t ∷ ts)) (λ marks. scan ts marks))
    by (Opens d) s go = front_told t (Closings (d ∷ c ∷ cs)) (Closings (c ∷ cs)) (λ us. scan us (d ∷ c ∷ cs)) (λ us. scan us (c ∷ cs)) ts (scan ts (d ∷ c ∷ cs))
        (λ u us x. join_open t d c cs us s x) (λ us. (rw s refl)) (go (d ∷ c ∷ cs) (rw (opens_spellable t d s) ok))
    by Plain s go = front_told t (Closings (c ∷ cs)) (Closings (c ∷ cs)) (λ us. scan us (c ∷ cs)) (λ us. scan us (c ∷ cs)) ts (scan ts (c ∷ cs))
        (λ u us x. join_plain t c cs us s x) (λ us. (rw s refl)) (go (c ∷ cs) ok)
    by (Closes d) s go = closed d (d == c) refl s (go cs (and_right (is_spellable (mark c)) (list_all is_spellable (marks_of cs)) ok))

-- what is inside a group is passed over
scan_inside : (inside : List TokenKind) → Inner inside → (c : ℕ) (cs : List ℕ) (ts : List TokenKind) → scan (inside ++ ts) (c ∷ cs) ≡ scan ts (c ∷ cs)
scan_inside _ none c cs ts = refl
scan_inside _ (one {ts = us} s i) c cs ts = rw s (scan_inside us i c cs ts)
scan_inside _ (group {o = o} {c = d} {inside = us} {rest = vs} s i j) c cs ts =
    let closing = opens_closes o d s in
    let same : (d == d) ≡ true = eq-eqb d d refl in
    let whole : (us ++ kind.Mark d ∷ vs) ++ ts ≡ us ++ (kind.Mark d ∷ (vs ++ ts)) = append_assoc us (kind.Mark d ∷ vs) ts in
    let step : scan (kind.Mark d ∷ (vs ++ ts)) (d ∷ c ∷ cs) ≡ scan (vs ++ ts) (c ∷ cs) = rw closing (rw same refl) in
    rw s (ap (λ x. scan x (d ∷ c ∷ cs)) whole ∙ scan_inside us i d (c ∷ cs) (kind.Mark d ∷ (vs ++ ts)) ∙ step ∙ scan_inside vs j c cs ts)

pub scan_again : (c : ℕ) (front rest : List TokenKind) → mark_shape c ≡ Closes c → Closed c front → scan (front ++ rest) (c ∷ []) ≡ done tt rest
scan_again c front rest closing (inside, cut, i) =
    let same : (c == c) ≡ true = eq-eqb c c refl in
    let whole : front ++ rest ≡ inside ++ (kind.Mark c ∷ rest) = ap (λ x. x ++ rest) cut ∙ append_assoc inside (kind.Mark c ∷ []) rest in
    let step : scan (kind.Mark c ∷ rest) (c ∷ []) ≡ scan rest [] = rw closing (rw same refl) in
    ap (λ x. scan x (c ∷ [])) whole ∙ scan_inside inside i c [] (kind.Mark c ∷ rest) ∙ step ∙ scan_done rest

pub nest_told : (o c : ℕ) (ts : List TokenKind) → list_all is_spellable (mark o ∷ mark c ∷ []) ≡ true → Told (Derives (nest o c)) (read_nest o c) ts (read_nest o c ts)
nest_told o c [] ok = record {
  front = [];
  rest = [];
  cut = refl;
  left_is = refl;
  more = mark o ∷ mark c ∷ [];
  spelled = ok;
  value = tt;
  derives = (kind.Mark o, kind.Mark c ∷ [], refl, refl, ([], refl, none));
  local = λ other same. at_end other same;
}
  where
    at_end : (other : List TokenKind) → SameHead [] other → read_nest o c other ≡ fault (length other)
    at_end [] same = refl
    at_end (u ∷ us) same = absurd same
nest_told o c (t ∷ ts) ok = by_sort (same_sort (mark o) (sort_of t)) refl
  where
    by_sort : (b : Bool) → same_sort (mark o) (sort_of t) ≡ b → Told (Derives (nest o c)) (read_nest o c) (t ∷ ts) (if b then scan ts (c ∷ []) else fault (length (t ∷ ts)))
    by_sort true e = front_told t (Closings (c ∷ [])) (Derives (nest o c)) (λ us. scan us (c ∷ [])) (read_nest o c) ts (scan ts (c ∷ []))
        (λ u us x. (t, us, refl, sym (same_sort-true (mark o) (sort_of t) e), (x.0, x.2 ∙ ap (λ y. x.0 ++ kind.Mark c ∷ y) x.4, x.3))) (λ us. (rw e refl)) (scan_told ts (c ∷ []) (and_right (is_spellable (mark o)) (list_all is_spellable (mark c ∷ [])) ok))
    by_sort false e = record {
      front = [];
      rest = t ∷ ts;
      cut = refl;
      left_is = refl;
      more = mark o ∷ mark c ∷ [];
      spelled = ok;
      value = tt;
      derives = (kind.Mark o, kind.Mark c ∷ [], refl, refl, ([], refl, none));
      local = λ other same. stray other same;
    }
      where
        stray : (other : List TokenKind) → SameHead (t ∷ ts) other → read_nest o c other ≡ fault (length other)
        stray [] same = absurd same
        stray (u ∷ us) same =
            let q : same_sort (mark o) (sort_of u) ≡ false = ap (λ x. same_sort (mark o) (sort_of x)) (sym same) ∙ e in
            rw q refl
