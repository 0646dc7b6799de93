-- A new frame on the stack: there is room for it, and nothing else is where it has its own memory.
use Rattle.std.proofs.Common.{◌≡◌, ◌≢◌, ℕ, zero, suc, ◌+◌, ◌*◌, ◌-◌, ◌<◌, ◌≤◌, List, [], ◌∷◌, ◌++◌, map, max, length, Some, slice_get, refl, ap, sym, ◌∙◌, subst, inl, inr, ◌⊎◌, arith}
use Rattle.std.proofs.Math.Nat.{suc-mul}
use Rattle.std.proofs.lemmas.Nat.{mul-le}
use Rattle.ir_core.specs.declared.TheConstants.{MAX_CALLS}
use Rattle.ir_core.specs.declared.module.Function.{Function}
use Rattle.ir_core.specs.declared.module.Module.{Module}
use Rattle.ir_core.specs.Counts.{greatest}
use Rattle.ir_core.specs.Memory.{Memory}
use Rattle.ir_core.specs.State.{Frame}
use Rattle.x86_core.specs.Data.{stack_start, stack_end}
use Rattle.low_core.specs.Flat.{Span, Bytes}
use Rattle.low_core.specs.Plan.{FramePlan, Plan, Content, IsOffStack, global_spans}
use Rattle.low_core.specs.Contents.{Addresses}
use Rattle.low_core.specs.Bridge.{Setting, CallMemory, Bridges}
use Rattle.low_core.specs.SelState.{SelFrame, top_of, own_span}
use Rattle.flat_memory.specs.Accesses.{AreFree, IsOff}
use Rattle.flat_memory.proofs.Named.{off_law}
use Rattle.isel_rows.specs.Functions.{function_selected}
use Rattle.isel.proofs.Beside.{greatest_frame, AreBeside, memories, setting_of}
use Rattle.isel.proofs.Places.{function_there}
use Rattle.isel.proofs.Premises.{Premises}

-- one more frame, below so many of which none is greater than another number
pub record HasRoom (first end top n most bytes : ℕ) : Type 0 where
  pub below : bytes ≤ top
  pub above : first ≤ top - bytes
  pub room : end ≤ top - bytes + suc n * most

-- there is room for it
pub more_room : (first end top n most calls bytes : ℕ) → end ≤ top + n * most → n < calls → calls * most + 4096 ≤ end - first → bytes ≤ most → HasRoom first end top n most bytes
more_room first end top n most calls bytes before few all small =
    let one = suc-mul n most in
    let le : suc n * most ≤ calls * most = mul-le (suc n) most calls most (omega (arith, few)) (omega arith) in
    record {
      below = omega (arith, one, le, before, all, small);
      above = omega (arith, one, le, before, all, small);
      room = omega (arith, one, le, before, all, small);
    }

-- a frame of a plan is no greater than the greatest
frame_low : (frames : List FramePlan) (k : ℕ) (frame : FramePlan) → slice_get frames k ≡ Some frame → frame.bytes ≤ greatest (map (λ (q : FramePlan). q.bytes) frames)
frame_low [] k frame e = absurd (cc)
frame_low (q ∷ qs) zero frame e =
    let same : q ≡ frame = cc in
    let bytes : q.bytes ≡ frame.bytes = ap (λ (r : FramePlan). r.bytes) same in
    omega (arith, bytes)
frame_low (q ∷ qs) (suc k) frame e = let r = frame_low qs k frame e in omega (arith, r)

-- what each frame keeps, the greatest does
greatest_kept : (calls limit : ℕ) (frames : List FramePlan) → ((k : ℕ) (frame : FramePlan) → slice_get frames k ≡ Some frame → calls * frame.bytes + 4096 ≤ limit) → 4096 ≤ limit
    → calls * greatest (map (λ (q : FramePlan). q.bytes) frames) + 4096 ≤ limit
greatest_kept calls limit [] each least = let none : calls * 0 ≡ 0 = omega arith in omega (arith, none, least)
greatest_kept calls limit (q ∷ qs) each least = by (q.bytes) (greatest (map (λ (r : FramePlan). r.bytes) qs)) (each 0 q refl) (greatest_kept calls limit qs (λ k frame e. each (suc k) frame e) least)
  where
    by : (a b : ℕ) → calls * a + 4096 ≤ limit → calls * b + 4096 ≤ limit → calls * max a b + 4096 ≤ limit
    by a b first others = elim (either a b) [
      | inl e ↦ subst (λ n. calls * n + 4096 ≤ limit) (sym e) first
      | inr e ↦ subst (λ n. calls * n + 4096 ≤ limit) (sym e) others
    ]
      where
        either : (a b : ℕ) → (max a b ≡ a) ⊎ (max a b ≡ b)
        either zero b = inr (omega arith)
        either (suc a) zero = inl (omega arith)
        either (suc a) (suc b) = elim (either a b) [
          | inl e ↦ inl (omega (arith, e))
          | inr e ↦ inr (omega (arith, e))
        ]

module _ (m : Module) (plan : Plan) (contents : List Content) (p : Premises m plan contents) where
  abbrev g : Setting
  g = setting_of m plan contents

  -- calls stand within the stack, each with room for the greatest frame
  pub top_low : (objects : Memory) (at : Addresses) (fs : List Frame) (hs : List SelFrame) → AreBeside m g objects at fs hs → top_of hs ≤ stack_end
  top_low objects at [] [] are = omega arith
  top_low objects at [] (h ∷ hs) are = absurd are
  top_low objects at (f ∷ fs) [] are = absurd are
  top_low objects at (f ∷ fs) (h ∷ hs) are =
      let more = top_low objects at fs hs are.3 in
      let base = are.1.base in
      omega (arith, more, base)

  -- and there is room for the greatest below them
  pub top_high : (objects : Memory) (at : Addresses) (fs : List Frame) (hs : List SelFrame) → AreBeside m g objects at fs hs → stack_end ≤ top_of hs + length hs * greatest_frame plan
  top_high objects at [] [] are = omega arith
  top_high objects at [] (h ∷ hs) are = absurd are
  top_high objects at (f ∷ fs) [] are = absurd are
  top_high objects at (f ∷ fs) (h ∷ hs) are =
      let same : 1 + length hs ≡ suc (length hs) = omega arith in
      subst (λ n. stack_end ≤ h.base + n * greatest_frame plan) same are.1.room

  -- as many calls on both sides
  pub calls_count : (objects : Memory) (at : Addresses) (fs : List Frame) (hs : List SelFrame) → AreBeside m g objects at fs hs → length hs ≡ length fs
  calls_count objects at [] [] are = refl
  calls_count objects at [] (h ∷ hs) are = absurd are
  calls_count objects at (f ∷ fs) [] are = absurd are
  calls_count objects at (f ∷ fs) (h ∷ hs) are = ap suc (calls_count objects at fs hs are.3)

  -- own memories of calls are above the frame of a new one
  off_calls : (objects : Memory) (at : Addresses) (fs : List Frame) (hs : List SelFrame) (start size : ℕ) (ss : List Span) → AreBeside m g objects at fs hs → start + size ≤ top_of hs → IsOff start size ss
      → IsOff start size (map (λ (c : CallMemory). c.own) (memories fs hs) ++ ss)
  off_calls objects at [] [] start size ss are low off = off
  off_calls objects at [] (h ∷ hs) start size ss are low off = absurd are
  off_calls objects at (f ∷ fs) [] start size ss are low off = absurd are
  off_calls objects at (f ∷ fs) (h ∷ hs) start size ss are low off =
      let own = are.1.start in
      let base = are.1.base in
      ((λ e q few small same. omega (arith, few, small, same, own, low)), off_calls objects at fs hs start size ss are.3 (omega (arith, base, low)) off)

  -- and globals are off the stack
  off_globals : (start size : ℕ) → stack_start ≤ start → start + size ≤ stack_end → (ats : List ℕ) (cs : List Content)
      → ((n a : ℕ) (c : Content) → slice_get ats n ≡ Some a → slice_get cs n ≡ Some c → (i : ℕ) → i < length c.bytes → IsOffStack (a + i)) → IsOff start size (global_spans ats cs)
  off_globals start size high low [] cs off = tt
  off_globals start size high low (a ∷ ats) [] off = tt
  off_globals start size high low (a ∷ ats) (c ∷ cs) off = (first, off_globals start size high low ats cs (λ n b d is_a is_c. off (suc n) b d is_a is_c))
    where
      first : (e q : ℕ) → e < size → q < length c.bytes → start + e ≢ a + q
      first e q few small same = elim (off 0 a c refl refl q small) [
        | inl before ↦ omega (arith, before, same, high)
        | inr behind ↦ omega (arith, behind, same, low, few)
      ]

  -- the own memory of a new call
  module _ (objects : Memory) (at : Addresses) (bytes : Bytes) (fs : List Frame) (hs : List SelFrame) (are : AreBeside m g objects at fs hs) (tied : Bridges g (memories fs hs) objects at bytes) (few : length hs < MAX_CALLS)
      (k : ℕ) (fn : Function) (there : slice_get m.functions k ≡ Some fn) (frame : FramePlan) (planned : slice_get plan.frames k ≡ Some frame) where
    abbrev pub own : Span
    own = own_span (function_selected m fn) frame (top_of hs)

    -- there is room for its frame
    pub has_room : HasRoom stack_start stack_end (top_of hs) (length hs) (greatest_frame plan) frame.bytes
    has_room =
        let all = greatest_kept MAX_CALLS (stack_end - stack_start) plan.frames (λ j q e. p.fits.room j q e) (omega arith) in
        more_room stack_start stack_end (top_of hs) (length hs) (greatest_frame plan) MAX_CALLS frame.bytes (top_high objects at fs hs are) few all (frame_low plan.frames k frame planned)

    -- in which it lies
    pub inside : frame.allocas + own.size ≤ frame.bytes
    inside = p.fits.allocas k (function_selected m fn) frame (function_there m k fn there) planned

    -- it is on the stack
    pub own_high : stack_start ≤ own.start
    own_high = let above = has_room.above in omega (arith, above)

    -- below the callers
    pub own_low : own.start + own.size ≤ top_of hs
    own_low = let below = has_room.below in let fit = inside in omega (arith, below, fit)

    -- and apart from all other parts of memory
    off : IsOff own.start own.size (map (λ (c : CallMemory). c.own) (memories fs hs) ++ global_spans plan.globals contents)
    off =
        let low = own_low in
        let top = top_low objects at fs hs are in
        off_calls objects at fs hs own.start own.size (global_spans plan.globals contents) are own_low
        (off_globals own.start own.size own_high (omega (arith, low, top)) plan.globals contents (λ n a c is_a is_c i small. (p.fits.globals_off n a i c (record { address = is_a; content = is_c }) small).1))

    -- nothing is there
    pub own_free : AreFree g objects at own.start own.size
    own_free =
        let low = own_low in
        let high = own_high in
        let top = top_low objects at fs hs are in
        record {
          below = omega (arith, low, top);
          apart = λ i d e x lives small few. off_law g (memories fs hs) objects at bytes p.setting tied own.start own.size off i d e x lives small few;
          not_null = λ e few same. omega (arith, high, same);
          no_function = λ e f a few taken stands same. elim (p.fits.functions_off f a (record { taken = taken; address = ap (λ l. slice_get l f) (sym tied.functions) ∙ stands })).1 [
            | inl before ↦ omega (arith, before, same, high)
            | inr behind ↦ omega (arith, behind, same, low, top, few)
          ];
        }
