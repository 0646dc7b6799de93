-- Rows behind separators, which one other thing may end.
use Rattle.std.proofs.Common.{◌≡◌, ℕ, zero, suc, ◌<◌, ◌≤◌, ◌⊎◌, true, false, List, [], ◌∷◌, ◌++◌, length, length-append, refl, sym, ◌∙◌, ap, subst, inl, inr, arith, append_assoc, append-nil, Option, Some, None}
use Rattle.std.specs.Prelude.{◌&&◌, not}
use Rattle.std.proofs.lemmas.Bool.{cases_Bool}
use Rattle.ir_lex.specs.declared.token.TokenKind.{TokenKind}
use Rattle.ir_grammar.specs.Tokens.{Sort, starts}
use Rattle.ir_grammar.specs.Grammar.{Grammar, loop, Row, Behind, Perhaps, Derives}
use Rattle.ir_grammar.specs.Reading.{null, first, next, apart, fine, Read, done, fault, ◌>>=◌, read, read_choice, read_round, read_rounds, unless_last, with_round, ending, ending_value}
use Rattle.ir_grammar.proofs.Sets.{and_left, and_right, not_true}
use Rattle.ir_grammar.proofs.Heads.{nulls, ends, spelled-ending}
use Rattle.ir_grammar.proofs.Stops.{stops_before, begins, where_not}
use Rattle.ir_grammar.proofs.Alike.{starts_same, starts_cut, Took, Told}
use Rattle.ir_grammar.proofs.Chains.{widen, chain, chain_told, map_told}

-- what is known of the parts of a fine loop
pub record Looped {A B : Type 0} (s : Grammar (Unit {0})) (g : Grammar A) (h : Grammar B) : Type 0 where
  pub good_s : fine s ≡ true
  pub good_g : fine g ≡ true
  pub good_h : fine h ≡ true
  pub some_s : null s ≡ false
  pub some_g : null g ≡ false
  pub some_h : null h ≡ false
  pub before_g : apart (next s) (first g) ≡ true
  pub before_h : apart (next s) (first h) ≡ true
  pub split : apart (first g) (first h) ≡ true
  pub again : apart (next g) (first s) ≡ true

pub looped : {A B : Type 0} (s : Grammar (Unit {0})) (g : Grammar A) (h : Grammar B) → fine (loop s g h) ≡ true → Looped s g h
looped s g h ok =
    let c1 = apart (first g) (first h) && apart (next g) (first s) in
    let c2 = apart (next s) (first h) && c1 in
    let c3 = apart (next s) (first g) && c2 in
    let c4 = not (null h) && c3 in
    let c5 = not (null g) && c4 in
    let c6 = not (null s) && c5 in
    let k1 = and_right (fine s) (fine g && (fine h && c6)) ok in
    let k2 = and_right (fine g) (fine h && c6) k1 in
    let k3 = and_right (fine h) c6 k2 in
    let k4 = and_right (not (null s)) c5 k3 in
    let k5 = and_right (not (null g)) c4 k4 in
    let k6 = and_right (not (null h)) c3 k5 in
    let k7 = and_right (apart (next s) (first g)) c2 k6 in
    let k8 = and_right (apart (next s) (first h)) c1 k7 in
    record {
      good_s = and_left (fine s) (fine g && (fine h && c6)) ok;
      good_g = and_left (fine g) (fine h && c6) k1;
      good_h = and_left (fine h) c6 k2;
      some_s = not_true (null s) (and_left (not (null s)) c5 k3);
      some_g = not_true (null g) (and_left (not (null g)) c4 k4);
      some_h = not_true (null h) (and_left (not (null h)) c3 k5);
      before_g = and_left (apart (next s) (first g)) c2 k6;
      before_h = and_left (apart (next s) (first h)) c1 k7;
      split = and_left (apart (first g) (first h)) (apart (next g) (first s)) k8;
      again = and_right (apart (first g) (first h)) (apart (next g) (first s)) k8;
    }

-- a separator and one thing, or a separator and another
abbrev pub Round : {A B : Type 0} → (List TokenKind → Type 0) → (A → List TokenKind → Type 0) → (B → List TokenKind → Type 0) → A ⊎ B → List TokenKind → Type 0
Round S G H (inl a) ts = Behind S G a ts
Round S G H (inr b) ts = Behind S H b ts

-- one thing, or another
abbrev pub Choice : {A B : Type 0} → (A → List TokenKind → Type 0) → (B → List TokenKind → Type 0) → A ⊎ B → List TokenKind → Type 0
Choice G H (inl a) ts = G a ts
Choice G H (inr b) ts = H b ts

-- rounds, of which the second kind is the last
module _ {A B : Type 0} (D : A ⊎ B → List TokenKind → Type 0) (r : List TokenKind → Read (A ⊎ B)) (sorts : List Sort) where
  abbrev pub rounds : List TokenKind → Read (List A × Option B)
  rounds ts = read_rounds (length ts) sorts r ts

  abbrev pub Rounds : List A × Option B → List TokenKind → Type 0
  Rounds v ts = (front : List TokenKind) × (rest : List TokenKind) × (ts ≡ front ++ rest) × Row (λ a us. D (inl a) us) v.0 front × Perhaps (λ b us. D (inr b) us) v.1 rest

  -- what stands behind a round
  abbrev pub After : A ⊎ B → List A × Option B → List TokenKind → Type 0
  After (inl a) v ts = Rounds v ts
  After (inr b) v ts = (v ≡ ([], None)) × (ts ≡ [])

  abbrev pub Shrinks : Type 0
  Shrinks = (ts : List TokenKind) (x : A ⊎ B) (rest : List TokenKind) → r ts ≡ done x rest → length rest < length ts

  -- no round is next
  pub rounds_none : (n : ℕ) (ts : List TokenKind) → starts sorts ts ≡ false → read_rounds n sorts r ts ≡ done ([], None) ts
  rounds_none zero ts e = refl
  rounds_none (suc n) ts e = rw e refl

  -- a round is next
  rounds_one : (n : ℕ) (ts : List TokenKind) → starts sorts ts ≡ true
      → read_rounds (suc n) sorts r ts ≡ r ts >>= λ x us. unless_last x (λ vs. read_rounds n sorts r vs) us >>= λ y vs. done (with_round x y) vs
  rounds_one n ts e = rw e refl

  rounds_enough : Shrinks → (n m : ℕ) (ts : List TokenKind) → length ts ≤ n → length ts ≤ m → read_rounds n sorts r ts ≡ read_rounds m sorts r ts
  rounds_enough shrinks zero zero ts a b = refl
  rounds_enough shrinks zero (suc m) [] a b = refl
  rounds_enough shrinks zero (suc m) (t ∷ ts) a b = absurd (omega arith)
  rounds_enough shrinks (suc n) zero [] a b = refl
  rounds_enough shrinks (suc n) zero (t ∷ ts) a b = absurd (omega arith)
  rounds_enough shrinks (suc n) (suc m) ts a b = by_round (r ts) refl (λ us. rounds_enough shrinks n m us)
    where
      by_round : (x : Read (A ⊎ B)) → r ts ≡ x → ((us : List TokenKind) → length us ≤ n → length us ≤ m → read_rounds n sorts r us ≡ read_rounds m sorts r us)
          → read_rounds (suc n) sorts r ts ≡ read_rounds (suc m) sorts r ts
      by_round (fault left) e go = rw e refl
      by_round (done (inl v) us) e go =
          let less = shrinks ts (inl v) us e in
          rw e (rw (go us (omega arith) (omega arith)) refl)
      by_round (done (inr v) us) e go = rw e refl

  pub rounds_step : Shrinks → (ts : List TokenKind) → starts sorts ts ≡ true → rounds ts ≡ r ts >>= λ x us. unless_last x rounds us >>= λ y vs. done (with_round x y) vs
  rounds_step shrinks [] e = absurd (cc)
  rounds_step shrinks (t ∷ ts) e = rw e (by_round (r (t ∷ ts)) refl)
    where
      by_round : (x : Read (A ⊎ B)) → r (t ∷ ts) ≡ x
          → (x >>= λ x us. unless_last x (λ vs. read_rounds (length ts) sorts r vs) us >>= λ y vs. done (with_round x y) vs)
          ≡ (x >>= λ x us. unless_last x rounds us >>= λ y vs. done (with_round x y) vs)
      by_round (fault left) q = refl
      by_round (done (inl v) us) q =
          let less = shrinks (t ∷ ts) (inl v) us q in
          ap (λ x. x >>= λ y vs. done (with_round (inl v) y) vs) (rounds_enough shrinks (length ts) (length us) us (omega arith) (omega arith))
      by_round (done (inr v) us) q = refl

  -- a round and what stands behind it are rounds
  join_round : (x : A ⊎ B) (y : List A × Option B) (ts left right : List TokenKind) → ts ≡ left ++ right → D x left → After x y right → Rounds (with_round x y) ts
  join_round (inl a) y ts left right cut d (front, rest, parts, row, last) =
      (left ++ front, rest, cut ∙ ap (λ z. left ++ z) parts ∙ sym (append_assoc left front rest), (left, front, refl, d, row), last)
  join_round (inr b) y ts left right cut d (none, empty) =
      let whole : ts ≡ left = cut ∙ ap (λ z. left ++ z) empty ∙ append-nil left in
      ([], ts, refl, refl, subst (D (inr b)) (sym whole) d)

  -- nothing may stand behind a round
  ends_after : (x : A ⊎ B) → After x ([], None) []
  ends_after (inl a) = ([], [], refl, refl, refl)
  ends_after (inr b) = (refl, refl)

  no_round_told : (ts : List TokenKind) → starts sorts ts ≡ false → Told Rounds rounds ts (rounds ts)
  no_round_told ts e = subst (Told Rounds rounds ts) (sym (rounds_none (length ts) ts e)) (record {
    front = [];
    cut = refl;
    derives = ([], [], refl, refl, refl);
    local = λ other same. rounds_none (length other) other (starts_same sorts ts other same ∙ e);
  })

  after_told : (x : A ⊎ B) (us : List TokenKind) → Told Rounds rounds us (rounds us) → Told (After x) (unless_last x rounds) us (unless_last x rounds us)
  after_told (inl a) us t = t
  after_told (inr b) us t = record { front = []; cut = refl; derives = (refl, refl); local = λ other same. refl }

  round_told : Shrinks → (ts : List TokenKind) → starts sorts ts ≡ true → Told D r ts (r ts)
      → ((us : List TokenKind) (x : A ⊎ B) → r ts ≡ done x us → Told Rounds rounds us (rounds us)) → Told Rounds rounds ts (rounds ts)
  round_told shrinks ts e item go =
      let stepped : List TokenKind → Read (List A × Option B) = chain D After Rounds r (λ x us. unless_last x rounds us) with_round in
      subst (Told Rounds rounds ts) (sym (rounds_step shrinks ts e))
      (widen Rounds Rounds stepped rounds ts (stepped ts) (λ v us d. d)
      (λ front rest other cut same. rounds_step shrinks (front ++ other) (starts_cut sorts ts front rest other cut same ∙ e))
      (chain_told D After Rounds r (λ x us. unless_last x rounds us) with_round ts (r ts) [] ([], None) refl join_round ends_after item (λ us x q. after_told x us (go us x q))))

  rounds_told : Shrinks → ((ts : List TokenKind) → Told D r ts (r ts)) → (n : ℕ) (ts : List TokenKind) → length ts ≤ n → Told Rounds rounds ts (rounds ts)
  rounds_told shrinks item zero [] le = no_round_told [] refl
  rounds_told shrinks item zero (t ∷ ts) le = absurd (omega arith)
  rounds_told shrinks item (suc n) ts le = by_next (cases_Bool (starts sorts ts)) (λ us. rounds_told shrinks item n us)
    where
      by_next : (starts sorts ts ≡ true) ⊎ (starts sorts ts ≡ false) → ((us : List TokenKind) → length us ≤ n → Told Rounds rounds us (rounds us)) → Told Rounds rounds ts (rounds ts)
      by_next (inr e) go = no_round_told ts e
      by_next (inl e) go = round_told shrinks ts e (item ts) (λ us v q. go us (let less = shrinks ts v us q in omega arith))

-- what is told of the parts of a loop is told of it
module _ {A B : Type 0} (s : Grammar (Unit {0})) (g : Grammar A) (h : Grammar B) (k : Looped s g h) where
  abbrev pub OneRound : A ⊎ B → List TokenKind → Type 0
  OneRound = Round (λ us. Derives s tt us) (λ (a : A) (us : List TokenKind). Derives g a us) (λ (b : B) (us : List TokenKind). Derives h b us)

  abbrev pub one_round : List TokenKind → Read (A ⊎ B)
  one_round = read_round (read s) (first g) (read g) (read h)

  abbrev pub one_choice : List TokenKind → Read (A ⊎ B)
  one_choice = read_choice (first g) (read g) (read h)

  round_filled : (x : A ⊎ B) (front : List TokenKind) → OneRound x front → 0 < length front
  round_filled (inl a) front (left, right, cut, ds, dg) = filled left cut ds
    where
      filled : (left : List TokenKind) → front ≡ left ++ right → Derives s tt left → 0 < length front
      filled [] cut ds = absurd (let none = nulls s tt [] refl ds in let q : true ≡ false = sym none ∙ k.some_s in cc)
      filled (t ∷ left) cut ds = let l = ap length cut in omega arith
  round_filled (inr b) front (left, right, cut, ds, dh) = filled left cut ds
    where
      filled : (left : List TokenKind) → front ≡ left ++ right → Derives s tt left → 0 < length front
      filled [] cut ds = absurd (let none = nulls s tt [] refl ds in let q : true ≡ false = sym none ∙ k.some_s in cc)
      filled (t ∷ left) cut ds = let l = ap length cut in omega arith

  module _ (told_s : (ts : List TokenKind) → Told (Derives s) (read s) ts (read s ts)) (told_g : (ts : List TokenKind) → Told (Derives g) (read g) ts (read g ts))
      (told_h : (ts : List TokenKind) → Told (Derives h) (read h) ts (read h ts)) where
    choice_told : (ts : List TokenKind) → Told (Choice (Derives g) (Derives h)) one_choice ts (one_choice ts)
    choice_told ts = by_next (cases_Bool (starts (first g) ts))
      where
        by_next : (starts (first g) ts ≡ true) ⊎ (starts (first g) ts ≡ false) → Told (Choice (Derives g) (Derives h)) one_choice ts (one_choice ts)
        by_next (inl e) =
            let same : one_choice ts ≡ read g ts >>= λ a us. done (inl a) us = rw e refl in
            subst (Told (Choice (Derives g) (Derives h)) one_choice ts) (sym same)
            (widen (Choice (Derives g) (Derives h)) (Choice (Derives g) (Derives h)) (λ us. read g us >>= λ a vs. done (inl a) vs) one_choice ts (read g ts >>= λ a us. done (inl a) us)
            (λ v us d. d) (λ front rest other cut alike. (let q = starts_cut (first g) ts front rest other cut alike ∙ e in rw q refl))
            (map_told (Derives g) (Choice (Derives g) (Derives h)) (read g) inl ts (read g ts) (λ a us d. d) (told_g ts)))
        by_next (inr e) =
            let same : one_choice ts ≡ read h ts >>= λ b us. done (inr b) us = rw e refl in
            subst (Told (Choice (Derives g) (Derives h)) one_choice ts) (sym same)
            (widen (Choice (Derives g) (Derives h)) (Choice (Derives g) (Derives h)) (λ us. read h us >>= λ b vs. done (inr b) vs) one_choice ts (read h ts >>= λ b us. done (inr b) us)
            (λ v us d. d) (λ front rest other cut alike. (let q = starts_cut (first g) ts front rest other cut alike ∙ e in rw q refl))
            (map_told (Derives h) (Choice (Derives g) (Derives h)) (read h) inr ts (read h ts) (λ b us d. d) (told_h ts)))

    join_choice : (u : Unit {0}) (x : A ⊎ B) (ts left right : List TokenKind) → ts ≡ left ++ right → Derives s u left → Choice (Derives g) (Derives h) x right → OneRound x ts
    join_choice u (inl a) ts left right cut ds d = (left, right, cut, ds, d)
    join_choice u (inr b) ts left right cut ds d = (left, right, cut, ds, d)

    one_round_told : (ts : List TokenKind) → Told OneRound one_round ts (one_round ts)
    one_round_told ts =
        chain_told (Derives s) (λ _. Choice (Derives g) (Derives h)) OneRound (read s) (λ _. one_choice) (λ _ x. x) ts (read s ts) (ending g) (inl (ending_value g)) (spelled-ending g k.good_g)
        join_choice (λ _. ends g) (told_s ts) (λ us _ q. choice_told us)

    pub rounds_shrink : Shrinks OneRound one_round (first s)
    rounds_shrink ts x rest e = by_took (subst (Told OneRound one_round ts) e (one_round_told ts))
      where
        by_took : Took OneRound one_round ts x rest → length rest < length ts
        by_took t = let some = round_filled x t.front t.derives in let l = ap length t.cut in let parts = length-append t.front rest in omega arith

    pub loop_told : (ts : List TokenKind) → Told (Derives (loop s g h)) (read (loop s g h)) ts (read (loop s g h) ts)
    loop_told ts = rounds_told OneRound one_round (first s) rounds_shrink one_round_told (length ts) ts (omega arith)

  -- what derives is read again
  module _ (again_s : (v : Unit {0}) (front rest : List TokenKind) → Derives s v front → starts (next s) rest ≡ false → read s (front ++ rest) ≡ done v rest)
      (again_g : (v : A) (front rest : List TokenKind) → Derives g v front → starts (next g) rest ≡ false → read g (front ++ rest) ≡ done v rest)
      (again_h : (v : B) (front rest : List TokenKind) → Derives h v front → starts (next h) rest ≡ false → read h (front ++ rest) ≡ done v rest) where
    again_left : (a : A) (us rest : List TokenKind) → OneRound (inl a) us → starts (next g) rest ≡ false → one_round (us ++ rest) ≡ done (inl a) rest
    again_left a us rest (left, right, cut, ds, dg) stop =
        let middle = stops_before (next s) g a right rest k.before_g dg (where_not (null g) (next s) rest k.some_g) in
        let whole : us ++ rest ≡ left ++ (right ++ rest) = ap (λ x. x ++ rest) cut ∙ append_assoc left right rest in
        rw whole
        (rw (again_s tt left (right ++ rest) ds middle)
        (rw (begins g a right rest k.some_g dg)
        (rw (again_g a right rest dg stop) refl)))

    again_right : (b : B) (us rest : List TokenKind) → OneRound (inr b) us → starts (next h) rest ≡ false → one_round (us ++ rest) ≡ done (inr b) rest
    again_right b us rest (left, right, cut, ds, dh) stop =
        let middle = stops_before (next s) h b right rest k.before_h dh (where_not (null h) (next s) rest k.some_h) in
        let other = stops_before (first g) h b right rest k.split dh (where_not (null h) (first g) rest k.some_h) in
        let whole : us ++ rest ≡ left ++ (right ++ rest) = ap (λ x. x ++ rest) cut ∙ append_assoc left right rest in
        rw whole
        (rw (again_s tt left (right ++ rest) ds middle)
        (rw other
        (rw (again_h b right rest dh stop) refl)))

    -- a round begins with a separator
    round_begins : (x : A ⊎ B) (us rest : List TokenKind) → OneRound x us → starts (first s) (us ++ rest) ≡ true
    round_begins (inl a) us rest (left, right, cut, ds, dg) =
        let whole : us ++ rest ≡ left ++ (right ++ rest) = ap (λ x. x ++ rest) cut ∙ append_assoc left right rest in
        rw whole (begins s tt left (right ++ rest) k.some_s ds)
    round_begins (inr b) us rest (left, right, cut, ds, dh) =
        let whole : us ++ rest ≡ left ++ (right ++ rest) = ap (λ x. x ++ rest) cut ∙ append_assoc left right rest in
        rw whole (begins s tt left (right ++ rest) k.some_s ds)

    again_last : (w : Option B) (n : ℕ) (right rest : List TokenKind) → length (right ++ rest) ≤ n → Perhaps (λ b us. OneRound (inr b) us) w right
        → starts (first s) rest ≡ false → starts (next h) rest ≡ false → read_rounds n (first s) one_round (right ++ rest) ≡ done ([], w) rest
    again_last None n right rest le d end stop = rw d (rounds_none OneRound one_round (first s) n rest end)
    again_last (Some b) zero right rest le d end stop = absurd (let some = round_filled (inr b) right d in let parts = length-append right rest in omega arith)
    again_last (Some b) (suc n) right rest le d end stop = rw (round_begins (inr b) right rest d) (rw (again_right b right rest d stop) refl)

    again_rounds : (vs : List A) (w : Option B) (n : ℕ) (front right rest : List TokenKind) → length (front ++ (right ++ rest)) ≤ n → Row (λ a us. OneRound (inl a) us) vs front
        → Perhaps (λ b us. OneRound (inr b) us) w right → starts (first s) rest ≡ false → starts (next g) rest ≡ false → starts (next h) rest ≡ false
        → read_rounds n (first s) one_round (front ++ (right ++ rest)) ≡ done (vs, w) rest
    again_rounds [] w n front right rest le row last end stop_g stop_h =
        rw row (again_last w n right rest (subst (λ x. length (x ++ (right ++ rest)) ≤ n) row le) last end stop_h)
    again_rounds (a ∷ vs) w zero front right rest le (left, middle, cut, d, row) last end stop_g stop_h =
        absurd (let some = round_filled (inl a) left d in let l = ap length cut in let p1 = length-append left middle in let p2 = length-append front (right ++ rest) in omega arith)
    again_rounds (a ∷ vs) w (suc n) front right rest le (left, middle, cut, d, row) last end stop_g stop_h =
        let whole : front ++ (right ++ rest) ≡ left ++ (middle ++ (right ++ rest)) = ap (λ x. x ++ (right ++ rest)) cut ∙ append_assoc left middle (right ++ rest) in
        let some = round_filled (inl a) left d in
        let l = ap length whole in
        let parts = length-append left (middle ++ (right ++ rest)) in
        let short : length (middle ++ (right ++ rest)) ≤ n = omega arith in
        rw whole
        (rw (round_begins (inl a) left (middle ++ (right ++ rest)) d)
        (rw (again_left a left (middle ++ (right ++ rest)) d (stop_middle vs w middle right row last))
        (rw (again_rounds vs w n middle right rest short row last end stop_g stop_h) refl)))
      where
        stop_middle : (vs : List A) (w : Option B) (middle right : List TokenKind) → Row (λ a us. OneRound (inl a) us) vs middle → Perhaps (λ b us. OneRound (inr b) us) w right
            → starts (next g) (middle ++ (right ++ rest)) ≡ false
        stop_middle vs w middle right row last =
            let d : Derives (loop s g h) (vs, w) (middle ++ right) = (middle, right, refl, row, last) in
            let ok : apart (next g) (first (loop s g h)) ≡ true = rw k.some_s (rw (append-nil (first s)) k.again) in
            rw (sym (append_assoc middle right rest)) (stops_before (next g) (loop s g h) (vs, w) (middle ++ right) rest ok d stop_g)

    pub again_loop : (v : List A × Option B) (front rest : List TokenKind) → Derives (loop s g h) v front → starts (first s) rest ≡ false → starts (next g) rest ≡ false
        → starts (next h) rest ≡ false → read (loop s g h) (front ++ rest) ≡ done v rest
    again_loop v front rest (left, right, cut, row, last) end stop_g stop_h =
        let whole : front ++ rest ≡ left ++ (right ++ rest) = ap (λ x. x ++ rest) cut ∙ append_assoc left right rest in
        rw whole (again_rounds v.0 v.1 (length (left ++ (right ++ rest))) left right rest (omega arith) row last end stop_g stop_h)
