-- What a tie says of names and of where objects lie, and what an alloca leaves.
use Rattle.std.proofs.Common.{◌≡◌, ◌≢◌, ℕ, suc, ◌+◌, ◌-◌, ◌<◌, ◌≤◌, inl, inr, List, [], ◌∷◌, ◌++◌, length, slice_get, Bool, true, nat_le, refl, ap, sym, ◌∙◌, subst, arith}
use Rattle.std.specs.Prelude.{get_or}
use Rattle.std.proofs.lemmas.Bool.{leb-true, and_parts, or_cases}
use Rattle.std.proofs.lemmas.Option.{slice_get_within, get_or_from_slice_get}
use Rattle.std.proofs.Math.Seq.{get_or-append_seam}
use Rattle.ir_core.specs.declared.memory.Value.{Value}
use Rattle.ir_core.specs.declared.memory.Value.TheVariants.{Num, Null, At, Fun}
use Rattle.ir_core.specs.declared.memory.Object0.{Object0}
use Rattle.ir_core.specs.Memory.{Memory, with_alloca}
use Rattle.low_core.specs.Flat.{Span, Bytes, covers, is_inside}
use Rattle.low_core.specs.Contents.{Addresses, word_of}
use Rattle.low_core.specs.Bridge.{Setting, CallMemory, flat_in, Lives, address_of, IsKnown, Bridges}
use Rattle.flat_memory.specs.Accesses.{SettingFits, AreFree, with_address, Allocates, Names, IsOff}
use Rattle.flat_memory.proofs.Lists.{length_pushed}
use Rattle.flat_memory.proofs.Spans.{object_inside, object_writable}
use Rattle.flat_memory.proofs.Frames.{address_kept, Stands, New, Old, stands}

module _ (g : Setting) (calls : List CallMemory) (m : Memory) (at : Addresses) (bytes : Bytes) (fits : SettingFits g) (b : Bridges g calls m at bytes) where
  pub names_law : Names g (flat_in g calls bytes).spans m at
  names_law = record {
    numbered = b.numbered;
    functions = b.functions;
    global = λ n a c lies.
        let x = b.global n a c lies in
        let within = slice_get_within m n x.object x.lives.stands in
        let low = b.below n x.object x.lives.stands in
        let is = x.address_is in
        (omega (arith, low, is), (within, omega arith));
    function = λ f a taken planned.
        (get_or_from_slice_get at.functions f a 0 (ap (λ fs. slice_get fs f) b.functions ∙ planned), taken);
    inside = object_inside g calls m at bytes fits b;
    writable = object_writable g calls m at bytes fits b;
  }

-- what lies in a part of memory is apart from what is off all parts
inside_off : (ss : List Span) (a k d p n e : ℕ) → is_inside a k ss ≡ true → d < k → IsOff p n ss → e < n → a + d ≢ p + e
inside_off [] a k d p n e h lt off en = absurd (cc)
inside_off (s ∷ ss) a k d p n e h lt off en =
    elim (or_cases (covers a k s) (is_inside a k ss) h) [
      | inl c ↦
          let both = and_parts (nat_le s.start a) (nat_le (a + k) (s.start + s.size)) c in
          let low : s.start ≤ a = leb-true s.start a both.0 in
          let high : a + k ≤ s.start + s.size = leb-true (a + k) (s.start + s.size) both.1 in
          λ same. off.0 e (a + d - s.start) en (omega (arith, low, high, lt)) (omega (arith, low, same))
      | inr more ↦ inside_off ss a k d p n e more lt off.1 en
    ]

pub off_law : (g : Setting) (calls : List CallMemory) (m : Memory) (at : Addresses) (bytes : Bytes) → SettingFits g → Bridges g calls m at bytes → (p n : ℕ) → IsOff p n (flat_in g calls bytes).spans →
    (i d e : ℕ) (x : Object0) → Lives m i x → d < x.size → e < n → address_of at i + d ≢ p + e
off_law g calls m at bytes fits b p n off i d e x l lt en =
    inside_off (flat_in g calls bytes).spans (address_of at i) x.size d p n e (object_inside g calls m at bytes fits b i x l) lt off en

known_kept : (n : ℕ) (taken : List Bool) (at : Addresses) (p : ℕ) (v : Value) → length at.objects ≡ n → IsKnown n taken v → (word_of (with_address at p) v ≡ word_of at v) × IsKnown (suc n) taken v
known_kept n taken at p (Num w k) long known = (refl, known)
known_kept n taken at p Null long known = (refl, known)
known_kept n taken at p (At o d) long known = address_kept n taken at p (At o d) long known
known_kept n taken at p (Fun f) long known = address_kept n taken at p (Fun f) long known

module _ (g : Setting) (c : CallMemory) (cs : List CallMemory) (m : Memory) (at : Addresses) (bytes : Bytes) (b : Bridges g (c ∷ cs) m at bytes) (p size : ℕ)
    (free : AreFree g m at p size) (inside : covers p size c.own ≡ true) (writable : c.own.writable ≡ true) where
  one_more : length (with_alloca m size) ≡ suc (length m)
  one_more = length_pushed m _

  new_word : word_of (with_address at p) (At (length m) 0) ≡ p
  new_word =
      let long = b.numbered in
      let there : get_or (at.objects ++ p ∷ []) (length m) 0 ≡ p = ap (λ k. get_or (at.objects ++ p ∷ []) k 0) (sym long) ∙ get_or-append_seam at.objects p [] 0 in
      let low = free.below in
      omega (arith, there, low)

  free_kept : (q n : ℕ) → AreFree g m at q n → ((d e : ℕ) → d < n → e < size → q + d ≢ p + e) → AreFree g (with_alloca m size) (with_address at p) q n
  free_kept q n other beside = record {
    below = other.below;
    apart = λ i d e x l lt en. apart i d e x l.live lt en (stands g c cs m at bytes b p size free inside writable i x l.stands);
    not_null = other.not_null;
    no_function = other.no_function;
  }
    where
      apart : (i d e : ℕ) (x : Object0) → x.live ≡ true → d < x.size → e < n → Stands g c cs m at bytes b p size free inside writable i x → address_of (with_address at p) i + d ≢ q + e
      apart i d e x l lt en (New is a s k u) = λ r. beside e d en (omega (arith, lt, s)) (omega (arith, a, r))
      apart i d e x l lt en (Old a h) = let z = other.apart i d e x (record { stands = h; live = l }) lt en in λ r. z (omega (arith, a, r))

  pub allocates_law : Allocates g m (with_alloca m size) at (with_address at p) p size
  allocates_law = record {
    count = one_more;
    word = new_word;
    known = subst (λ n. IsKnown n g.taken (At (length m) 0)) (sym one_more) (omega arith, omega arith);
    kept = λ v known. let x = known_kept (length m) g.taken at p v b.numbered known in (x.0, subst (λ n. IsKnown n g.taken v) (sym one_more) x.1);
    free = free_kept;
  }
