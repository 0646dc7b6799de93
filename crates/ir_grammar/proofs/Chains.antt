-- What is told of parts is told of what they make up.
use Rattle.std.proofs.Common.{◌≡◌, true, List, ◌++◌, refl, sym, ◌∙◌, ap, subst, append_assoc, map}
use Rattle.std.specs.List.{list_all}
use Rattle.ir_lex.specs.declared.token.TokenKind.{TokenKind}
use Rattle.ir_grammar.specs.Tokens.{Sort, example, is_spellable}
use Rattle.ir_grammar.specs.Reading.{Read, done, fault, ◌>>=◌}
use Rattle.ir_grammar.proofs.Sets.{all-append}
use Rattle.ir_grammar.proofs.Heads.{map-append}
use Rattle.ir_grammar.proofs.Alike.{SameHead, same_behind, Took, Told}

-- what is told of a part is told of the whole
pub widen : {A : Type 0} (D E : A → List TokenKind → Type 0) (r q : List TokenKind → Read A) (ts : List TokenKind) (x : Read A)
    → ((v : A) (us : List TokenKind) → D v us → E v us)
    → ((front rest other : List TokenKind) → ts ≡ front ++ rest → SameHead rest other → q (front ++ other) ≡ r (front ++ other))
    → Told D r ts x → Told E q ts x
widen D E r q ts (done v rest) wide as_r t = record {
  front = t.front;
  cut = t.cut;
  derives = wide v t.front t.derives;
  local = λ other same. as_r t.front rest other t.cut same ∙ t.local other same;
}
widen D E r q ts (fault left) wide as_r t = record {
  front = t.front;
  rest = t.rest;
  cut = t.cut;
  left_is = t.left_is;
  more = t.more;
  spelled = t.spelled;
  value = t.value;
  derives = wide t.value (t.front ++ map example t.more) t.derives;
  local = λ other same. as_r t.front t.rest other t.cut same ∙ t.local other same;
}

-- one part, and behind it one that may depend on its value
module _ {A B C : Type 0} (D : A → List TokenKind → Type 0) (E : A → B → List TokenKind → Type 0) (F : C → List TokenKind → Type 0)
    (r : List TokenKind → Read A) (q : A → List TokenKind → Read B) (f : A → B → C) where
  abbrev pub chain : List TokenKind → Read C
  chain ts = r ts >>= λ a us. q a us >>= λ b vs. done (f a b) vs

  -- one part, and the next behind it
  chain_next : (ts : List TokenKind) (a : A) (us : List TokenKind) (y : Read B)
      → ((a : A) (b : B) (ts left right : List TokenKind) → ts ≡ left ++ right → D a left → E a b right → F (f a b) ts)
      → Took D r ts a us → Told (E a) (q a) us y → Told F chain ts (y >>= λ b vs. done (f a b) vs)
  chain_next ts a us (done b vs) join t k = record {
    front = t.front ++ k.front;
    cut = t.cut ∙ ap (λ x. t.front ++ x) k.cut ∙ sym (append_assoc t.front k.front vs);
    derives = join a b (t.front ++ k.front) t.front k.front refl t.derives k.derives;
    local = λ other same.
        ap chain (append_assoc t.front k.front other)
        ∙ ap (λ x. x >>= λ a us. q a us >>= λ b vs. done (f a b) vs) (t.local (k.front ++ other) (subst (λ x. SameHead x (k.front ++ other)) (sym k.cut) (same_behind k.front vs other same)))
        ∙ ap (λ x. x >>= λ b vs. done (f a b) vs) (k.local other same);
  }
  chain_next ts a us (fault left) join t k = record {
    front = t.front ++ k.front;
    rest = k.rest;
    cut = t.cut ∙ ap (λ x. t.front ++ x) k.cut ∙ sym (append_assoc t.front k.front k.rest);
    left_is = k.left_is;
    more = k.more;
    spelled = k.spelled;
    value = f a k.value;
    derives = join a k.value ((t.front ++ k.front) ++ map example k.more) t.front (k.front ++ map example k.more) (append_assoc t.front k.front (map example k.more)) t.derives k.derives;
    local = λ other same.
        ap chain (append_assoc t.front k.front other)
        ∙ ap (λ x. x >>= λ a us. q a us >>= λ b vs. done (f a b) vs) (t.local (k.front ++ other) (subst (λ x. SameHead x (k.front ++ other)) (sym k.cut) (same_behind k.front k.rest other same)))
        ∙ ap (λ x. x >>= λ b vs. done (f a b) vs) (k.local other same);
  }

  -- two parts, where there is a text of the second
  pub chain_told : (ts : List TokenKind) (x : Read A) (end : List Sort) (b : B) → list_all is_spellable end ≡ true
      → ((a : A) (b : B) (ts left right : List TokenKind) → ts ≡ left ++ right → D a left → E a b right → F (f a b) ts)
      → ((a : A) → E a b (map example end)) → Told D r ts x → ((us : List TokenKind) (a : A) → x ≡ done a us → Told (E a) (q a) us (q a us)) → Told F chain ts (x >>= λ a us. q a us >>= λ b vs. done (f a b) vs)
  chain_told ts (done a us) end b sp join e t k = chain_next ts a us (q a us) join t (k us a refl)
  chain_told ts (fault left) end b sp join e t k = record {
    front = t.front;
    rest = t.rest;
    cut = t.cut;
    left_is = t.left_is;
    more = t.more ++ end;
    spelled = all-append is_spellable t.more end t.spelled sp;
    value = f t.value b;
    derives = join t.value b (t.front ++ map example (t.more ++ end)) (t.front ++ map example t.more) (map example end)
        (ap (λ x. t.front ++ x) (map-append example t.more end) ∙ sym (append_assoc t.front (map example t.more) (map example end))) t.derives (e t.value);
    local = λ other same. ap (λ x. x >>= λ a us. q a us >>= λ b vs. done (f a b) vs) (t.local other same);
  }

-- a part whose value is seen otherwise
pub map_told : {A C : Type 0} (D : A → List TokenKind → Type 0) (F : C → List TokenKind → Type 0) (r : List TokenKind → Read A) (f : A → C) (ts : List TokenKind) (x : Read A)
    → ((a : A) (us : List TokenKind) → D a us → F (f a) us) → Told D r ts x → Told F (λ us. r us >>= λ a vs. done (f a) vs) ts (x >>= λ a vs. done (f a) vs)
map_told D F r f ts (done a rest) wide t = record {
  front = t.front;
  cut = t.cut;
  derives = wide a t.front t.derives;
  local = λ other same. ap (λ x. x >>= λ a vs. done (f a) vs) (t.local other same);
}
map_told D F r f ts (fault left) wide t = record {
  front = t.front;
  rest = t.rest;
  cut = t.cut;
  left_is = t.left_is;
  more = t.more;
  spelled = t.spelled;
  value = f t.value;
  derives = wide t.value (t.front ++ map example t.more) t.derives;
  local = λ other same. ap (λ x. x >>= λ a vs. done (f a) vs) (t.local other same);
}
