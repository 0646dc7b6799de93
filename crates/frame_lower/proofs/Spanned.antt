-- The flat memory of calls and globals lies below the highest address.
use Rattle.std.proofs.Common.{◌≡◌, ℕ, suc, ◌+◌, ◌^◌, ◌<◌, ◌≤◌, true, nat_le, List, [], ◌∷◌, ◌++◌, length, map, Some, refl, sym, subst, inl, inr, arith}
use Rattle.std.specs.Prelude.{slice_get}
use Rattle.std.proofs.lemmas.Bool.{or_cases, and_parts, leb-true}
use Rattle.x86_core.specs.declared.image.Segment.{Segment}
use Rattle.x86_core.specs.Data.{stack_end}
use Rattle.low_core.specs.declared.sel.Sel.{Sel}
use Rattle.low_core.specs.Flat.{Span, Bytes, covers, is_inside}
use Rattle.low_core.specs.Plan.{Plan, Content, global_spans}
use Rattle.low_core.specs.SelState.{SelFrame}
use Rattle.obj_core.specs.declared.object.Object.{Object}
use Rattle.obj_core.specs.declared.object.Place.{Place}
use Rattle.frame_rows.specs.Words.{Words}
use Rattle.frame_lower.specs.Chain.{function_in, spans_of, own_of, Chain}
use Rattle.frame_lower.specs.Rows.{Making}
use Rattle.frame_lower.specs.Suits.{Suits}
use Rattle.frame_lower.proofs.Chains.{chain_high}
use Rattle.frame_lower.proofs.Stage.{last, globals, Whole}

-- each of them ends below it
abbrev pub AllBelow : List Span → Type 0
AllBelow [] = Unit {0}
AllBelow (s ∷ spans) = (s.start + s.size < 2 ^ 64) × AllBelow spans

below_both : (spans more : List Span) → AllBelow spans → AllBelow more → AllBelow (spans ++ more)
below_both [] more h k = k
below_both (s ∷ spans) more h k = (h.0, below_both spans more h.1 k)

-- and so does each range in one of them
pub range_below : (spans : List Span) (p n : ℕ) → AllBelow spans → is_inside p n spans ≡ true → p + n < 2 ^ 64
range_below [] p n below inside = absurd (cc)
range_below (s ∷ spans) p n below inside = elim (or_cases (covers p n s) (is_inside p n spans) inside) [
  | inl here ↦ let two = and_parts (nat_le s.start p) (nat_le (p + n) (s.start + s.size)) here in let to = leb-true (p + n) (s.start + s.size) two.1 in let b = below.0 in omega (arith, to, b)
  | inr other ↦ range_below spans p n below.1 other
]

globals_below : (ats : List ℕ) (cs : List Content) → ((g at : ℕ) (c : Content) → slice_get ats g ≡ Some at → slice_get cs g ≡ Some c → at + length c.bytes < 2 ^ 64) → AllBelow (global_spans ats cs)
globals_below [] cs below = tt
globals_below (at ∷ ats) [] below = tt
globals_below (at ∷ ats) (c ∷ cs) below = (below 0 at c refl refl, globals_below ats cs (λ g a d i j. below (suc g) a d i j))

module _ (o : Object) (sel : Sel) (plan : Plan) (contents : List Content) (by : ℕ → Making) (live : ℕ → ℕ → ℕ → ℕ → Type 0) (suits : Suits o sel plan contents by live) (input : List ℕ) where
  abbrev globals_ : List Span
  globals_ = globals o sel plan contents by live suits input

  abbrev last_ : Place
  last_ = last o sel plan contents by live suits input

  -- the own memory of a call lies below where its registers are pushed
  own_below : (f : SelFrame) → slice_get sel.functions f.function ≡ Some (function_in sel f.function) → f.own ≡ own_of o sel by globals_ live last_ f → f.base + (by f.function).room + 48 ≤ stack_end → f.own.start + f.own.size < 2 ^ 64
  own_below f is_function own high =
      let room = suits.rooms f.function _ is_function in
      subst (λ (s : Span). s.start + s.size < 2 ^ 64) (sym own) (omega (arith, room, high))

  calls_below : (xs : List SelFrame) (ss : List Segment) (f : SelFrame) (depth : ℕ) → Chain o sel by globals_ live last_ ss f depth xs → AllBelow (map (λ (x : SelFrame). x.own) xs)
  calls_below [] ss f depth chain = tt
  calls_below (x ∷ xs) ss f depth chain =
      let e = chain.0 in
      (own_below x e.is_function e.own (chain_high o sel by globals_ live last_ xs ss x (suc depth) chain.2), calls_below xs ss x (suc depth) chain.2)

  pub spans_below : (f : SelFrame) (depth : ℕ) (callers : List SelFrame) (alive : ℕ → Type 0) (bytes : Bytes) (w : Words) (ss : List Segment) → slice_get sel.functions f.function ≡ Some (function_in sel f.function) →
      Whole o sel plan contents by live suits input f depth callers alive bytes w ss → AllBelow (spans_of o sel by globals_ live last_ (f ∷ callers))
  spans_below f depth callers alive bytes w ss is_function whole = (
    own_below f is_function whole.own (chain_high o sel by globals_ live last_ callers ss f depth whole.chain),
    below_both (map (λ (x : SelFrame). x.own) callers) globals_ (calls_below callers ss f depth whole.chain)
        (globals_below plan.globals contents (λ g at c i j. suits.fits.globals_below g at c (record { address = i; content = j }))),
  )
