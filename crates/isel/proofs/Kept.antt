-- Objects that change: calls stay beside calls.
use Rattle.std.proofs.Common.{◌≡◌, ◌≢◌, ℕ, ◌+◌, ◌<◌, ◌≤◌, List, [], ◌∷◌, Bool, true, false, length, take, Option, Some, None, slice_get, slice_set, refl, ap, sym, ◌∙◌, subst, inl, inr, arith}
use Rattle.std.proofs.lemmas.Bool.{cases_eq}
use Rattle.std.proofs.lemmas.Option.{slice_get_within}
use Rattle.ir_core.specs.declared.memory.Value.{Value}
use Rattle.ir_core.specs.declared.memory.Object0.{Object0}
use Rattle.ir_core.specs.declared.module.Module.{Module}
use Rattle.ir_core.specs.Memory.{Memory, dead, dead_at, without}
use Rattle.ir_core.specs.State.{Local, Frame}
use Rattle.low_core.specs.Contents.{Addresses, word_of}
use Rattle.low_core.specs.Bridge.{Setting, Lives, IsKnown}
use Rattle.low_core.specs.SelState.{SelFrame, top_of}
use Rattle.flat_memory.specs.Accesses.{AreFree, SameObjects, Allocates}
use Rattle.flat_memory.proofs.Lists.{get_set_same, get_set_other, length_set}
use Rattle.isel_rows.specs.Functions.{allocas_in}
use Rattle.isel.proofs.Beside.{allocas_before, Holds, IsCallBeside, AreBeside}

-- other objects: what was known has the words that it had, and what was free is free, but for so many addresses
pub record Changed (g : Setting) (m m2 : Memory) (at at2 : Addresses) (start size : ℕ) : Type 0 where
  pub kept : (v : Value) → IsKnown (length m) g.taken v → (word_of at2 v ≡ word_of at v) × IsKnown (length m2) g.taken v
  pub free : (p n : ℕ) → AreFree g m at p n → ((d e : ℕ) → d < n → e < size → p + d ≢ start + e) → AreFree g m2 at2 p n

-- the same objects with other cells
pub same_changed : (g : Setting) (m m2 : Memory) (at : Addresses) → SameObjects m m2 → Changed g m m2 at at 0 0
same_changed g m m2 at same = record {
  kept = λ v known. (refl, subst (λ n. IsKnown n g.taken v) (sym same.count) known);
  free = λ p n free off. record {
    below = free.below;
    apart = λ i d e y lives low high.
        let x = same.before i y lives in
        let size = x.1.1 in
        free.apart i d e x.0 x.1.0 (omega arith) high;
    not_null = free.not_null;
    no_function = free.no_function;
  };
}

-- one object more
pub alloca_changed : (g : Setting) (m m2 : Memory) (at at2 : Addresses) (start size : ℕ) → Allocates g m m2 at at2 start size → Changed g m m2 at at2 start size
alloca_changed g m m2 at at2 start size x = record { kept = x.kept; free = x.free }

-- what lives once one of them is dead has lived
dead_lives : (m : Memory) (o : ℕ) (q : Option Object0) (i : ℕ) (y : Object0) → slice_get m o ≡ q → Lives (dead_at m o q) i y → Lives m i y
dead_lives m o None i y is lives = lives
dead_lives m o (Some x) i y is lives = elim (cases_eq i o) [
  | inl same ↦
      let there : Some (dead x) ≡ Some y = sym (get_set_same m o (dead x) (slice_get_within m o x is)) ∙ ap (slice_get (slice_set m o (dead x))) (sym same) ∙ lives.stands in
      let is_dead : dead x ≡ y = cc in
      absurd (not_both y.live lives.live (ap (λ (z : Object0). z.live) (sym is_dead)))
  | inr other ↦ record { stands = sym (get_set_other m o i (dead x) (λ e. other (sym e))) ∙ lives.stands; live = lives.live }
]
  where
    not_both : (b : Bool) → b ≡ true → b ≡ false → ⊥
    not_both b t f = cc

pub without_lives : (os : List ℕ) (m : Memory) (i : ℕ) (y : Object0) → Lives (without m os) i y → Lives m i y
without_lives [] m i y lives = lives
without_lives (o ∷ os) m i y lives = dead_lives m o (slice_get m o) i y refl (without_lives os (dead_at m o (slice_get m o)) i y lives)

pub without_count : (os : List ℕ) (m : Memory) → length (without m os) ≡ length m
without_count [] m = refl
without_count (o ∷ os) m = without_count os (dead_at m o (slice_get m o)) ∙ one (slice_get m o)
  where
    one : (q : Option Object0) → length (dead_at m o q) ≡ length m
    one None = refl
    one (Some x) = length_set m o (dead x)

-- some of them dead
pub dead_changed : (g : Setting) (m : Memory) (at : Addresses) (os : List ℕ) → Changed g m (without m os) at at 0 0
dead_changed g m at os = record {
  kept = λ v known. (refl, subst (λ n. IsKnown n g.taken v) (sym (without_count os m)) known);
  free = λ p n free off. record {
    below = free.below;
    apart = λ i d e y lives low high. free.apart i d e y (without_lives os m i y lives) low high;
    not_null = free.not_null;
    no_function = free.no_function;
  };
}

-- registers hold the words that they held
pub holds_kept : (g : Setting) (m m2 : Memory) (at at2 : Addresses) (start size : ℕ) → Changed g m m2 at at2 start size → (names : List (List ℕ)) (locals : List Local) (registers : List (Option ℕ)) → Holds (length m) g.taken at names locals registers → Holds (length m2) g.taken at2 names locals registers
holds_kept g m m2 at at2 start size changed names locals registers x = record {
  values = x.values;
  count = x.count;
  stand = x.stand;
  words = λ k v e. x.words k v e ∙ ap (λ w. Some (Some w)) (sym (changed.kept v (x.known k v e)).0);
  known = λ k v e. (changed.kept v (x.known k v e)).1;
}

-- own memory in which none of so many addresses is
abbrev pub IsOffOwn : ℕ → ℕ → SelFrame → Type 0
IsOffOwn start size h = (q e : ℕ) → q < h.own.size → e < size → h.own.start + q ≢ start + e

abbrev pub AreOffOwn : ℕ → ℕ → List SelFrame → Type 0
AreOffOwn start size [] = Unit {0}
AreOffOwn start size (h ∷ hs) = IsOffOwn start size h × AreOffOwn start size hs

-- where there are no such addresses
pub none_off : (start : ℕ) (hs : List SelFrame) → AreOffOwn start 0 hs
none_off start [] = tt
none_off start (h ∷ hs) = (λ q e low high. absurd (omega arith), none_off start hs)

module _ (m : Module) (g : Setting) where
  -- addresses below the frames of calls are not in their own memory
  pub below_off : (objects : Memory) (at : Addresses) (fs : List Frame) (hs : List SelFrame) (start size : ℕ) → AreBeside m g objects at fs hs → start + size ≤ top_of hs → AreOffOwn start size hs
  below_off objects at [] [] start size are low = tt
  below_off objects at [] (h ∷ hs) start size are low = absurd are
  below_off objects at (f ∷ fs) [] start size are low = absurd are
  below_off objects at (f ∷ fs) (h ∷ hs) start size are low =
      let own = are.1.start in
      let top = are.1.base in
      (λ q e small high same. omega arith, below_off objects at fs hs start size are.3 (omega arith))

  module _ (objects objects2 : Memory) (at at2 : Addresses) (start size : ℕ) (changed : Changed g objects objects2 at at2 start size) where
    -- a call stays beside a call
    pub call_kept : (f : Frame) (h : SelFrame) → IsOffOwn start size h → IsCallBeside m g objects at f h → IsCallBeside m g objects2 at2 f h
    call_kept f h off c = record {
      fn = c.fn;
      block = c.block;
      in_module = c.in_module;
      in_function = c.in_function;
      function = c.function;
      same_block = c.same_block;
      next = c.next;
      registers = c.registers;
      holds = holds_kept g objects objects2 at at2 start size changed _ f.locals h.registers c.holds;
      size = c.size;
      writable = c.writable;
      left = c.left;
      whole = c.whole;
      free = changed.free _ c.left c.free (λ d e low high same.
          let whole = c.whole in
          let used : ℕ = allocas_before m.types c.fn.blocks f.block + allocas_in m.types (take f.next c.block.insts) in
          off (used + d) e (omega arith) high (omega (arith, same)));
    }

    -- and calls beside calls
    pub calls_kept : (fs : List Frame) (hs : List SelFrame) → AreOffOwn start size hs → AreBeside m g objects at fs hs → AreBeside m g objects2 at2 fs hs
    calls_kept [] [] off are = are
    calls_kept [] (h ∷ hs) off are = are
    calls_kept (f ∷ fs) [] off are = are
    calls_kept (f ∷ fs) (h ∷ hs) off are = (call_kept f h off.0 are.0, are.1, are.2, calls_kept fs hs off.1 are.3)
