-- Lasting code is what is fetched, stays through every write, and so does what a table tells of it.
use Rattle.std.proofs.Common.{◌≡◌, ℕ, ◌+◌, ◌-◌, zero, suc, Bool, true, false, ◌&&◌, List, [], ◌∷◌, ◌++◌, length, take, drop, Option, Some, None, refl, ap, sym, ◌∙◌, subst, arith, if◌then◌else◌, option_map, get_or, length-append, length-take, length-drop}
use Rattle.std.specs.Prelude.{nat_le}
use Rattle.std.proofs.lemmas.Bool.Decides.{nat_tests}
use Rattle.x86_core.specs.declared.image.Segment.{Segment}
use Rattle.x86_core.specs.declared.instr.Decoded.TheVariants.{One, Short}
use Rattle.x86_core.specs.Decoding.{decode}
use Rattle.x86_core.specs.Memory.{writes, executes, covers, write_at, code_at, with_bytes, behind}
use Rattle.x86_core.specs.Machine.{machine_fetch, by_bytes, by_decoded}
use Rattle.x86_core.specs.Data.{stack_start, segment}
use Rattle.xom_memory.specs.declared.codes.Known.{Known}
use Rattle.xom_memory.specs.Codes.{lasting_code, IsTold, AreTold}
use Rattle.xom_memory.proofs.Behind.{code_front, code_back}

pub lasting_is : (ss : List Segment) (at : ℕ) (bs : List ℕ) → lasting_code ss at ≡ Some bs → code_at ss at ≡ Some bs
lasting_is [] at bs e = absurd (cc)
lasting_is (s ∷ ss) at bs e = by (executes s.rights && covers s at 1) (writes s.rights) (lasting_is ss at bs) e
  where
    by : (c w : Bool) → (lasting_code ss at ≡ Some bs → code_at ss at ≡ Some bs) →
        (if c then (if w then None else Some (take 16 (drop (at - s.start) s.bytes))) else lasting_code ss at) ≡ Some bs →
        (if c then Some (take 16 (drop (at - s.start) s.bytes)) else code_at ss at) ≡ Some bs
    by true true go e = absurd (cc)
    by true false go e = e
    by false w go e = go e

-- a segment that is written covers the same addresses as before
same_length : (s : Segment) (at : ℕ) (bs : List ℕ) → covers s at (length bs) ≡ true → length (with_bytes s at bs).bytes ≡ length s.bytes
same_length s at bs h =
    let n : ℕ = at - s.start in
    grind (arith, nat_tests, length-append (take (at - s.start) s.bytes) (bs ++ drop (at - s.start + length bs) s.bytes), length-append bs (drop (at - s.start + length bs) s.bytes), length-take (at - s.start) s.bytes, length-drop (at - s.start + length bs) s.bytes)

pub lasting_stays : (ss ss2 : List Segment) (w : ℕ) (bs : List ℕ) → write_at ss w bs ≡ Some ss2 → (at : ℕ) → lasting_code ss2 at ≡ lasting_code ss at
lasting_stays [] ss2 w bs e at = absurd (cc)
lasting_stays (s ∷ ss) ss2 w bs e at = by (writes s.rights) (covers s w (length bs)) refl refl (write_at ss w bs) (λ m f. lasting_stays ss m w bs f at) refl e
  where
    there : Option (List ℕ)
    there = Some (take 16 (drop (at - s.start) s.bytes))

    written : writes s.rights ≡ true → covers s w (length bs) ≡ true → lasting_code (with_bytes s w bs ∷ ss) at ≡ lasting_code (s ∷ ss) at
    written hw hc =
        let none : Option (List ℕ) = None in
        rw hw (ap (λ (n : ℕ). if executes s.rights && (nat_le s.start at && nat_le (at + 1) (s.start + n)) then none else lasting_code ss at) (same_length s w bs hc))

    by : (r c : Bool) → writes s.rights ≡ r → covers s w (length bs) ≡ c → (o : Option (List Segment)) → ((m : List Segment) → write_at ss w bs ≡ Some m → lasting_code m at ≡ lasting_code ss at) → write_at ss w bs ≡ o →
        (if r && c then Some (with_bytes s w bs ∷ ss) else behind s o) ≡ Some ss2 → lasting_code ss2 at ≡ lasting_code (s ∷ ss) at
    by true true hr hc o go f e = let same : with_bytes s w bs ∷ ss ≡ ss2 = cc in ap (λ m. lasting_code m at) (sym same) ∙ written hr hc
    by true false hr hc None go f e = absurd (cc)
    by true false hr hc (Some m) go f e = let same : s ∷ m ≡ ss2 = cc in ap (λ m. lasting_code m at) (sym same) ∙ ap (λ x. if executes s.rights && covers s at 1 then (if writes s.rights then None else there) else x) (go m f)
    by false c hr hc None go f e = absurd (cc)
    by false c hr hc (Some m) go f e = let same : s ∷ m ≡ ss2 = cc in ap (λ m. lasting_code m at) (sym same) ∙ ap (λ x. if executes s.rights && covers s at 1 then (if writes s.rights then None else there) else x) (go m f)

-- what a table tells stays
told_same : (ss ss2 : List Segment) → ((at : ℕ) → lasting_code ss2 at ≡ lasting_code ss at) → (k : Option Known) → IsTold ss k → IsTold ss2 k
told_same ss ss2 h None t = tt
told_same ss ss2 h (Some k) t = ap (option_map decode) (h k.at) ∙ t

pub told_stays : (ss ss2 : List Segment) (es : List (Option Known)) → ((at : ℕ) → lasting_code ss2 at ≡ lasting_code ss at) → AreTold ss es → AreTold ss2 es
told_stays ss ss2 es h t = λ k d b. told_same ss ss2 h (get_or es k d) (t k d b)

-- what the machine fetches in front of another segment
pub front_fetched : (t : Segment) (ss : List Segment) (at : ℕ) (bs : List ℕ) → code_at ss at ≡ Some bs → machine_fetch (ss ++ t ∷ []) at ≡ by_decoded at (decode bs)
front_fetched t ss at bs e = ap (by_bytes at) (code_front t ss at bs e)

pub lasting_fetched : (t : Segment) (ss : List Segment) (at : ℕ) (bs : List ℕ) → lasting_code ss at ≡ Some bs → machine_fetch (ss ++ t ∷ []) at ≡ by_decoded at (decode bs)
lasting_fetched t ss at bs e = front_fetched t ss at bs (lasting_is ss at bs e)

pub nothing_fetched : (bytes : List ℕ) (ss : List Segment) (at : ℕ) → code_at ss at ≡ None → machine_fetch (ss ++ segment stack_start bytes 6 ∷ []) at ≡ by_decoded at Short
nothing_fetched bytes ss at e = ap (by_bytes at) (code_back (segment stack_start bytes 6) ss at e)

-- what is told is what the machine fetches
pub told_fetched : (t : Segment) (ss : List Segment) (at : ℕ) (k : Known) → k.at ≡ at → IsTold ss (Some k) → machine_fetch (ss ++ t ∷ []) at ≡ by_decoded at (One k.instr k.len)
told_fetched t ss at k e h = by (lasting_code ss at) refl (ap (λ n. option_map decode (lasting_code ss n)) (sym e) ∙ h)
  where
    by : (o : Option (List ℕ)) → lasting_code ss at ≡ o → option_map decode o ≡ Some (One k.instr k.len) → by_bytes at (code_at (ss ++ t ∷ []) at) ≡ by_decoded at (One k.instr k.len)
    by None f g = absurd (cc)
    by (Some bs) f g =
        let is : decode bs ≡ One k.instr k.len = cc in
        ap (by_bytes at) (code_front t ss at bs (lasting_is ss at bs f)) ∙ ap (by_decoded at) is
