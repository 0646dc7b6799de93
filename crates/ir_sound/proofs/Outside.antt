-- Calls of outside functions keep calls over memory.
use Rattle.std.proofs.Common.{◌≡◌, ℕ, ◌%◌, ◌^◌, ◌<◌, true, List, [], ◌∷◌, Option, Some, None, refl, ap, sym, ◌∙◌, subst, arith}
use Rattle.std.specs.Prelude.{◌-◌, slice_get}
use Rattle.std.proofs.lemmas.Bool.{and_parts}
use Rattle.std.proofs.Math.Nat.{mod-lt}
use Rattle.rd_num.specs.declared.width.Width.{Width}
use Rattle.rd_num.specs.declared.width.Width.TheVariants.{W1, W8, W32, W64}
use Rattle.ir_core.specs.declared.module.Module.{Module}
use Rattle.ir_core.specs.declared.memory.Value.{Value}
use Rattle.ir_core.specs.declared.memory.Value.TheVariants.{Num}
use Rattle.ir_core.specs.declared.kind.Kind.{Kind}
use Rattle.ir_core.specs.declared.kind.Kind.TheVariants.{NoValue, Number, Pointer}
use Rattle.ir_core.specs.Kinds.{same_kind}
use Rattle.ir_core.specs.Memory.{copied, filled}
use Rattle.ir_core.specs.State.{Frame, State, Exchange, Nothing, Print, Take}
use Rattle.ir_core.specs.declared.outer.Outer.{Outer}
use Rattle.ir_core.specs.declared.outer.Outer.TheVariants.{Putchar, Getchar, Exit, Memcpy, Memset, TrapNow, Lifetime, NoOuter}
use Rattle.ir_core.specs.Calls.{same_kinds, goes_on, read_byte, outer_turn}
use Rattle.ir_core.specs.Typing.{outer_fits}
use Rattle.ir_sound.specs.WellTyped.{Properly, Present, IsOfKind, present, IsTypedTurn}
use Rattle.ir_sound.proofs.Frames.{Calling, memory_turn, resumed_are}
use Rattle.ir_sound.proofs.Objects.{copied_gives, filled_gives}
use Rattle.ir_sound.proofs.Operands.{number_of, AreOfKinds}
use Rattle.ir_sound.proofs.SameLaws.{kind_is, kinds_are, none_is, not_true, some_is}

-- the first of some values, and the others
record First (x : Present) (k : Kind) (ks : List Kind) (vs : List Value) : Type 0 where
  pub value : Value
  pub others : List Value
  pub are : vs ≡ value ∷ others
  pub is : IsOfKind x k value
  pub rest : AreOfKinds x ks others

-- is there
first_of_kinds : (x : Present) (k : Kind) (ks : List Kind) (vs : List Value) → AreOfKinds x (k ∷ ks) vs → First x k ks vs
first_of_kinds x k ks [] are = absurd are
first_of_kinds x k ks (v ∷ vs) are = record { value = v; others = vs; are = refl; is = are.0; rest = are.1 }

-- no values
none_of_kinds : (x : Present) (vs : List Value) → AreOfKinds x [] vs → vs ≡ []
none_of_kinds x [] are = refl
none_of_kinds x (v ∷ vs) are = absurd are

-- the value of a row of one width
one_number : (x : Present) (w : Width) (vs : List Value) → AreOfKinds x (Number w ∷ []) vs → (n : ℕ) × (vs ≡ Num w n ∷ [])
one_number x w vs are = of_first (first_of_kinds x (Number w) [] vs are)
  where
    of_first : First x (Number w) [] vs → (n : ℕ) × (vs ≡ Num w n ∷ [])
    of_first f =
        let n = number_of x w f.value f.is in
        let value = n.1 in
        let front = f.are in
        let end = none_of_kinds x f.others f.rest in
        (n.0, cc)

-- a pointer, another value, a number of 64 bits, and a truth value
record RangeArguments (x : Present) (k : Kind) (vs : List Value) : Type 0 where
  pub to : Value
  pub from : Value
  pub count : ℕ
  pub volatile : Value
  pub are : vs ≡ to ∷ from ∷ Num W64 count ∷ volatile ∷ []
  pub is : IsOfKind x k from

-- are the values of these kinds
range_arguments : (x : Present) (k : Kind) (vs : List Value) → AreOfKinds x (Pointer ∷ k ∷ Number W64 ∷ Number W1 ∷ []) vs → RangeArguments x k vs
range_arguments x k vs are = of_first (first_of_kinds x Pointer (k ∷ Number W64 ∷ Number W1 ∷ []) vs are)
  where
    of_fourth : (to : First x Pointer (k ∷ Number W64 ∷ Number W1 ∷ []) vs) (from : First x k (Number W64 ∷ Number W1 ∷ []) to.others) (count : First x (Number W64) (Number W1 ∷ []) from.others) → First x (Number W1) [] count.others → RangeArguments x k vs
    of_fourth to from count volatile =
        let n = number_of x W64 count.value count.is in
        record {
          to = to.value;
          from = from.value;
          count = n.0;
          volatile = volatile.value;
          are =
              let value = n.1 in
              let one = to.are in
              let two = from.are in
              let three = count.are in
              let four = volatile.are in
              let end = none_of_kinds x volatile.others volatile.rest in
              cc;
          is = from.is;
        }

    of_third : (to : First x Pointer (k ∷ Number W64 ∷ Number W1 ∷ []) vs) (from : First x k (Number W64 ∷ Number W1 ∷ []) to.others) → First x (Number W64) (Number W1 ∷ []) from.others → RangeArguments x k vs
    of_third to from count = of_fourth to from count (first_of_kinds x (Number W1) [] count.others count.rest)

    of_second : (to : First x Pointer (k ∷ Number W64 ∷ Number W1 ∷ []) vs) → First x k (Number W64 ∷ Number W1 ∷ []) to.others → RangeArguments x k vs
    of_second to from = of_third to from (first_of_kinds x (Number W64) (Number W1 ∷ []) from.others from.rest)

    of_first : First x Pointer (k ∷ Number W64 ∷ Number W1 ∷ []) vs → RangeArguments x k vs
    of_first to = of_second to (first_of_kinds x k (Number W64 ∷ Number W1 ∷ []) to.others to.rest)

-- the callers go on
goes_turn : (m : Module) (s : State) (kind : Kind) (into : Option (List ℕ)) (g : Frame) (gs : List Frame) (exchange : Exchange) (result : Option Value) → ((v : Value) → result ≡ Some v → IsOfKind (present m s.objects) kind v) → Calling m s kind into (g ∷ gs) → Properly (IsTypedTurn m) (goes_on s (g ∷ gs) into exchange result)
goes_turn m s kind into g gs exchange result is c = record { calls = resumed_are m (present m s.objects) kind into g gs result is c.waiting; cells = c.cells; globals = c.globals }

-- a result of a kind
result_is : (x : Present) (k : Kind) (u v : Value) → IsOfKind x k u → let o : Option Value = Some u in o ≡ Some v → IsOfKind x k v
result_is x k u v is e = subst (IsOfKind x k) (some_is u v e) is

-- a caller that goes on with a result
goes_with : (m : Module) (s : State) (ret kind : Kind) (into : Option (List ℕ)) (g : Frame) (gs : List Frame) (exchange : Exchange) (v : Value) → Calling m s ret into (g ∷ gs) → ret ≡ kind → IsOfKind (present m s.objects) kind v → Properly (IsTypedTurn m) (goes_on s (g ∷ gs) into exchange (Some v))
goes_with m s ret kind into g gs exchange v c e is = goes_turn m s kind into g gs exchange (Some v) (λ u f. result_is (present m s.objects) kind v u is f) (subst (λ k. Calling m s k into (g ∷ gs)) e c)

-- and one without
goes_without : (m : Module) (s : State) (ret : Kind) (into : Option (List ℕ)) (g : Frame) (gs : List Frame) → Calling m s ret into (g ∷ gs) → Properly (IsTypedTurn m) (goes_on s (g ∷ gs) into Nothing None)
goes_without m s ret into g gs c = goes_turn m s ret into g gs Nothing None (λ u f. none_is u f) c

-- a byte of the input, or -1
byte_gives : (m : Module) (s : State) (ret : Kind) (into : Option (List ℕ)) (g : Frame) (gs : List Frame) (o : Option ℕ) → ((b : ℕ) → o ≡ Some b → b < 256) → Calling m s ret into (g ∷ gs) → ret ≡ Number W32 → Properly (IsTypedTurn m) (read_byte s (g ∷ gs) into o)
byte_gives m s ret into g gs (Some b) bytes c e = let h = bytes b refl in goes_with m s ret (Number W32) into g gs Take (Num W32 b) c e (refl, omega arith)
byte_gives m s ret into g gs None bytes c e = goes_with m s ret (Number W32) into g gs Nothing (Num W32 (2 ^ 32 - 1)) c e (refl, omega arith)

-- kinds of arguments as they should be
kinds_so : (x : Present) (ks js : List Kind) (vs : List Value) → same_kinds ks js ≡ true → AreOfKinds x ks vs → AreOfKinds x js vs
kinds_so x ks js vs e are = subst (λ k. AreOfKinds x k vs) (kinds_are ks js e) are

-- `putchar` of a number
put_gives : (m : Module) (input : List ℕ) (s : State) (ret : Kind) (into : Option (List ℕ)) (g : Frame) (gs : List Frame) (vs : List Value) (n : ℕ) → vs ≡ Num W32 n ∷ [] → Calling m s ret into (g ∷ gs) → ret ≡ Number W32 → Properly (IsTypedTurn m) (outer_turn input s (g ∷ gs) into Putchar vs)
put_gives m input s ret into g gs vs n are c gives =
    let small = mod-lt n (let l : 0 < 256 = omega arith in l) in
    subst (λ us. Properly (IsTypedTurn m) (outer_turn input s (g ∷ gs) into Putchar us)) (sym are)
    (goes_with m s ret (Number W32) into g gs (Print (n % 256)) (Num W32 (n % 256)) c gives (refl, omega arith))

-- `exit` with a number
exit_gives : (m : Module) (input : List ℕ) (s : State) (into : Option (List ℕ)) (g : Frame) (gs : List Frame) (vs : List Value) (n : ℕ) → vs ≡ Num W32 n ∷ [] → Properly (IsTypedTurn m) (outer_turn input s (g ∷ gs) into Exit vs)
exit_gives m input s into g gs vs n are = subst (λ us. Properly (IsTypedTurn m) (outer_turn input s (g ∷ gs) into Exit us)) (sym are) tt

-- `memcpy`
copy_gives : (m : Module) (input : List ℕ) (s : State) (ret : Kind) (into : Option (List ℕ)) (g : Frame) (gs : List Frame) (vs : List Value) → Calling m s ret into (g ∷ gs) → RangeArguments (present m s.objects) Pointer vs → Properly (IsTypedTurn m) (outer_turn input s (g ∷ gs) into Memcpy vs)
copy_gives m input s ret into g gs vs c a =
    subst (λ us. Properly (IsTypedTurn m) (outer_turn input s (g ∷ gs) into Memcpy us)) (sym a.are)
    (memory_turn m s.objects (g ∷ gs) (copied s.objects a.to a.from a.count) (copied_gives (present m s.objects) s.objects c.cells a.to a.from a.count) (c.waiting.0.stands, c.waiting.1) c.globals)

-- `memset` with a byte
fill_gives : (m : Module) (input : List ℕ) (s : State) (ret : Kind) (into : Option (List ℕ)) (g : Frame) (gs : List Frame) (vs : List Value) → Calling m s ret into (g ∷ gs) → (a : RangeArguments (present m s.objects) (Number W8) vs) → (byte : ℕ) × (a.from ≡ Num W8 byte) × (byte < 2 ^ 8) → Properly (IsTypedTurn m) (outer_turn input s (g ∷ gs) into Memset vs)
fill_gives m input s ret into g gs vs c a b =
    subst (λ us. Properly (IsTypedTurn m) (outer_turn input s (g ∷ gs) into Memset us)) (sym (a.are ∙ ap (λ v. a.to ∷ v ∷ Num W64 a.count ∷ a.volatile ∷ []) b.1))
    (memory_turn m s.objects (g ∷ gs) (filled s.objects a.to b.0 a.count) (filled_gives (present m s.objects) s.objects c.cells a.to b.0 a.count b.2) (c.waiting.0.stands, c.waiting.1) c.globals)

-- what the callers get from an outside function
pub outer_gives : (m : Module) (input : List ℕ) (s : State) (ret : Kind) (kinds : List Kind) (into : Option (List ℕ)) (g : Frame) (gs : List Frame) (vs : List Value) → ((k b : ℕ) → slice_get input k ≡ Some b → b < 256) → Calling m s ret into (g ∷ gs) → AreOfKinds (present m s.objects) kinds vs → (o : Outer) → outer_fits o ret kinds ≡ true → Properly (IsTypedTurn m) (outer_turn input s (g ∷ gs) into o vs)
outer_gives m input s ret kinds into g gs vs bytes c are Putchar fits =
    let parts = and_parts (same_kind ret (Number W32)) (same_kinds kinds (Number W32 ∷ [])) fits in
    let one = one_number (present m s.objects) W32 vs (kinds_so (present m s.objects) kinds (Number W32 ∷ []) vs parts.1 are) in
    put_gives m input s ret into g gs vs one.0 one.1 c (kind_is ret (Number W32) parts.0)
outer_gives m input s ret kinds into g gs vs bytes c are Getchar fits =
    let parts = and_parts (same_kind ret (Number W32)) (same_kinds kinds []) fits in
    subst (λ us. Properly (IsTypedTurn m) (outer_turn input s (g ∷ gs) into Getchar us)) (sym (none_of_kinds (present m s.objects) vs (kinds_so (present m s.objects) kinds [] vs parts.1 are)))
    (byte_gives m s ret into g gs (slice_get input s.taken) (bytes s.taken) c (kind_is ret (Number W32) parts.0))
outer_gives m input s ret kinds into g gs vs bytes c are Exit fits =
    let parts = and_parts (same_kind ret NoValue) (same_kinds kinds (Number W32 ∷ [])) fits in
    let one = one_number (present m s.objects) W32 vs (kinds_so (present m s.objects) kinds (Number W32 ∷ []) vs parts.1 are) in
    exit_gives m input s into g gs vs one.0 one.1
outer_gives m input s ret kinds into g gs vs bytes c are Memcpy fits =
    let js : List Kind = Pointer ∷ Pointer ∷ Number W64 ∷ Number W1 ∷ [] in
    let parts = and_parts (same_kind ret NoValue) (same_kinds kinds js) fits in
    copy_gives m input s ret into g gs vs c (range_arguments (present m s.objects) Pointer vs (kinds_so (present m s.objects) kinds js vs parts.1 are))
outer_gives m input s ret kinds into g gs vs bytes c are Memset fits =
    let js : List Kind = Pointer ∷ Number W8 ∷ Number W64 ∷ Number W1 ∷ [] in
    let parts = and_parts (same_kind ret NoValue) (same_kinds kinds js) fits in
    let a = range_arguments (present m s.objects) (Number W8) vs (kinds_so (present m s.objects) kinds js vs parts.1 are) in
    fill_gives m input s ret into g gs vs c a (number_of (present m s.objects) W8 a.from a.is)
outer_gives m input s ret kinds into g gs vs bytes c are TrapNow fits = tt
outer_gives m input s ret kinds into g gs vs bytes c are Lifetime fits = goes_without m s ret into g gs c
outer_gives m input s ret kinds into g gs vs bytes c are NoOuter fits = not_true fits
