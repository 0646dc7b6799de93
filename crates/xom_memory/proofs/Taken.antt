-- A write or a byte that is taken, in front of the stack or in it, is allowed exactly where the definition says.
use Rattle.std.proofs.Common.{◌≡◌, ℕ, ◌-◌, ◌<◌, Bool, true, false, ◌&&◌, ◌||◌, eqb, List, [], ◌∷◌, ◌++◌, length, Option, Some, None, IsSome, Result, Ok, Err, OnOk, OnErr, refl, ap, sym, ◌∙◌, subst, arith}
use Rattle.std.proofs.lemmas.Bool.Decides.{nat_tests}
use Rattle.std.specs.Option.{unwrap_or}
use Rattle.rd_io.specs.Told.{SourceTold}
use Rattle.x86_core.specs.declared.image.Segment.{Segment}
use Rattle.x86_core.specs.Data.{segment}
use Rattle.x86_core.specs.Memory.{writes, covers, one_covers, is_allowed, write_at}
use Rattle.xom_memory.specs.declared.memory.WriteFault.{WriteFault}
use Rattle.xom_memory.specs.declared.memory.WriteFault.TheVariants.{Refused, NoMemory}
use Rattle.xom_memory.specs.declared.memory.TakeFault.{TakeFault}
use Rattle.xom_memory.specs.declared.memory.TakeFault.TheVariants as take
use Rattle.xom_memory.specs.Access.{written_at, Wrote, Written, Permits}
use Rattle.xom_memory.specs.Taking.{TakesTo, TakesInto}
use Rattle.xom_memory.proofs.Allowed.{write_allowed, write_refused}
use Rattle.xom_memory.proofs.Behind.{write_front, write_back, holds_behind}

not_zero : (n : ℕ) → 0 < n → eqb n 0 ≡ false
not_zero n h = grind (arith, nat_tests)

-- a right to some bytes is that of one segment
pub permits_some : (T : Type 0) (r : Result T WriteFault) (n : ℕ) (c : Bool) → 0 < n → Permits r c → Permits r (eqb n 0 || c)
permits_some T r n c h p = let P : Bool → Type 0 = λ z. Permits r (z || c) in subst P (sym (not_zero n h)) p

written_one : (T : Type 0) (r : Result T WriteFault) (ss ss2 : List Segment) (at : ℕ) (bs : List ℕ) → Written r (write_at ss at bs) ss ss2 → Permits r (one_covers writes ss at (length bs))
written_one T (Ok x) ss ss2 at bs w = write_allowed ss ss2 at bs w
written_one T (Err Refused) ss ss2 at bs w = write_refused ss at bs w.0
written_one T (Err NoMemory) ss ss2 at bs w = by (write_at ss at bs) refl w.0
  where
    by : (o : Option (List Segment)) → write_at ss at bs ≡ o → IsSome o → one_covers writes ss at (length bs) ≡ true
    by None e h = absurd (cc)
    by (Some more) e h = write_allowed ss more at bs e

pub written_permits : (T : Type 0) (r : Result T WriteFault) (ss ss2 : List Segment) (at : ℕ) (bs : List ℕ) → 0 < length bs → Written r (write_at ss at bs) ss ss2 → Permits r (is_allowed writes ss at (length bs))
written_permits T r ss ss2 at bs h w = permits_some T r (length bs) (one_covers writes ss at (length bs)) h (written_one T r ss ss2 at bs w)

pub written_is : (T : Type 0) (r : Result T WriteFault) (ss ss2 : List Segment) (at : ℕ) (bs : List ℕ) → 0 < length bs → Written r (write_at ss at bs) ss ss2 → OnOk r (ss2 ≡ written_at ss at bs)
written_is T (Ok x) ss ss2 at [] h w = absurd (omega arith)
written_is T (Ok x) ss ss2 at (b ∷ bs) h w = ap (λ o. unwrap_or o ss) (sym w)
written_is T (Err e) ss ss2 at bs h w = tt

pub written_same : (T : Type 0) (r : Result T WriteFault) (ss ss2 : List Segment) (at : ℕ) (bs : List ℕ) → Written r (write_at ss at bs) ss ss2 → OnErr r (ss2 ≡ ss)
written_same T (Ok x) ss ss2 at bs w = tt
written_same T (Err Refused) ss ss2 at bs w = w.1
written_same T (Err NoMemory) ss ss2 at bs w = w.1

-- a byte that may be written is written
pub wrote_allowed : (w : Bool) (ss ss2 : List Segment) (at b : ℕ) → one_covers writes ss at 1 ≡ true → Wrote w (write_at ss at (b ∷ [])) ss ss2 → write_at ss at (b ∷ []) ≡ Some ss2
wrote_allowed true ss ss2 at b h w = w
wrote_allowed false ss ss2 at b h w = let e : one_covers writes ss at 1 ≡ false = write_refused ss at (b ∷ []) w.0 in absurd (cc)

unwritten : (ss : List Segment) (at : ℕ) (bs : List ℕ) → one_covers writes ss at (length bs) ≡ false → write_at ss at bs ≡ None
unwritten ss at bs e = by (write_at ss at bs) refl
  where
    by : (o : Option (List Segment)) → write_at ss at bs ≡ o → o ≡ None
    by None f = refl
    by (Some more) f = let h : one_covers writes ss at (length bs) ≡ true = write_allowed ss more at bs f in absurd (cc)

-- in front of another segment
pub taken_front : (t : Segment) (ss ss2 : List Segment) (at : ℕ) (r : Result (Option ℕ) TakeFault) (before now : SourceTold) → one_covers writes ss at 1 ≡ true → TakesTo r at ss ss2 before now → TakesTo r at (ss ++ t ∷ []) (ss2 ++ t ∷ []) before now
taken_front t ss ss2 at r before now h w = by r w
  where
    right : one_covers writes (ss ++ t ∷ []) at 1 ≡ true
    right = holds_behind t writes ss at 1 ∙ ap (λ c. c || one_covers writes (t ∷ []) at 1) h

    same : ss2 ≡ ss → ss2 ++ t ∷ [] ≡ ss ++ t ∷ []
    same e = ap (λ x. x ++ t ∷ []) e

    by : (r : Result (Option ℕ) TakeFault) → TakesTo r at ss ss2 before now → TakesTo r at (ss ++ t ∷ []) (ss2 ++ t ∷ []) before now
    by (Ok (Some b)) w = (write_front t ss ss2 at (b ∷ []) w.0, w.1)
    by (Ok None) w = (right, (same w.1.0, w.1.1))
    by (Err take.Failed) w = (right, (same w.1.0, w.1.1))
    by (Err take.Refused) w = let e = w.0 in absurd (cc)
    by (Err take.NoMemory) w = (right, (same w.1.0, w.1.1))

-- in the last segment
pub taken_back : (start rights : ℕ) (bytes bytes2 : List ℕ) (ss : List Segment) (at : ℕ) (r : Result (Option ℕ) TakeFault) (before now : SourceTold) → one_covers writes ss at 1 ≡ false →
    writes (segment start bytes rights).rights ≡ true → covers (segment start bytes rights) at 1 ≡ true → TakesInto r (at - start) bytes bytes2 before now →
    TakesTo r at (ss ++ segment start bytes rights ∷ []) (ss ++ segment start bytes2 rights ∷ []) before now
taken_back start rights bytes bytes2 ss at r before now none w c h = by r h
  where
    both : (writes (segment start bytes rights).rights && covers (segment start bytes rights) at 1) ≡ true
    both = ap (λ x. x && covers (segment start bytes rights) at 1) w ∙ c

    right : one_covers writes (ss ++ segment start bytes rights ∷ []) at 1 ≡ true
    right = holds_behind (segment start bytes rights) writes ss at 1 ∙ ap (λ x. x || one_covers writes (segment start bytes rights ∷ []) at 1) none ∙ ap (λ x. x || false) both

    same : bytes2 ≡ bytes → ss ++ segment start bytes2 rights ∷ [] ≡ ss ++ segment start bytes rights ∷ []
    same e = ap (λ x. ss ++ segment start x rights ∷ []) e

    by : (r : Result (Option ℕ) TakeFault) → TakesInto r (at - start) bytes bytes2 before now → TakesTo r at (ss ++ segment start bytes rights ∷ []) (ss ++ segment start bytes2 rights ∷ []) before now
    by (Ok (Some b)) h = (write_back (segment start bytes rights) ss at (b ∷ []) (unwritten ss at (b ∷ []) none) both ∙ ap (λ x. Some (ss ++ segment start x rights ∷ [])) (sym h.0), h.1)
    by (Ok None) h = (right, (same h.0, h.1))
    by (Err take.Failed) h = (right, (same h.0, h.1))
    by (Err take.Refused) h = absurd h
    by (Err take.NoMemory) h = (right, (same h.0, h.1))
