-- Where a program of registers has its globals, its functions and its frames, and what its globals hold at first.
use Rattle.std.specs.Prelude.{◌≡◌, ◌≢◌, ℕ, ◌+◌, ◌*◌, ◌-◌, ◌^◌, ◌<◌, ◌≤◌, ◌⊎◌, List, [], ◌∷◌, Bool, true, not, ◌&&◌, nat_le, nat_lt, length, slice_get, Some, None, if◌then◌else◌, All}
use Rattle.ir_core.specs.declared.TheConstants.{MAX_CALLS}
use Rattle.x86_core.specs.Data.{stack_start, stack_end}
use Rattle.low_core.specs.declared.sel.SelOp.{SelOp}
use Rattle.low_core.specs.declared.sel.SelOp.TheVariants.{GlobalAt}
use Rattle.low_core.specs.declared.sel.SelFun.{SelFun}
use Rattle.low_core.specs.declared.sel.Sel.{Sel}
use Rattle.low_core.specs.Flat.{Span, Bytes}
use Rattle.low_core.specs.SelParts.{ops_of}

-- how many bytes the frame of a function has, and where in it, counted from its lowest address, the function's own memory begins
pub record FramePlan : Type 0 where
  pub bytes : ℕ
  pub allocas : ℕ

-- an address for each global and for each function as a pointer, and a frame for each function
pub record Plan : Type 0 where
  pub globals : List ℕ
  pub functions : List ℕ
  pub frames : List FramePlan

-- a global at first
pub record Content : Type 0 where
  pub constant : Bool
  pub bytes : List ℕ

-- the globals as parts of memory
abbrev pub global_spans : List ℕ → List Content → List Span
global_spans [] cs = []
global_spans (at ∷ ats) [] = []
global_spans (at ∷ ats) (c ∷ cs) = record { start = at; size = length c.bytes; writable = not c.constant } ∷ global_spans ats cs

-- memory before the first step: the bytes of the globals, and no others
abbrev pub first_bytes : List ℕ → List Content → Bytes
first_bytes [] cs p = None
first_bytes (at ∷ ats) [] p = None
first_bytes (at ∷ ats) (c ∷ cs) p = if nat_le at p && nat_lt p (at + length c.bytes) then slice_get c.bytes (p - at) else first_bytes ats cs p

-- a global of the contents, and its address
pub record Lies (plan : Plan) (contents : List Content) (g at : ℕ) (c : Content) : Type 0 where
  pub address : slice_get plan.globals g ≡ Some at
  pub content : slice_get contents g ≡ Some c

-- a function to which a pointer may arise, and its address
pub record IsTaken (sel : Sel) (plan : Plan) (f at : ℕ) : Type 0 where
  pub taken : slice_get sel.taken f ≡ Some true
  pub address : slice_get plan.functions f ≡ Some at

-- outside of the stack
abbrev pub IsOffStack : ℕ → Type 0
IsOffStack p = (p < stack_start) ⊎ (stack_end ≤ p)

-- an operation names no global but these
abbrev pub NamesOneOf : ℕ → SelOp → Type 0
NamesOneOf count (GlobalAt r g) = g < count
NamesOneOf count other = Unit {0}

-- a plan that fits: there is room for all, and no two things are at one address
pub record PlanFits (sel : Sel) (contents : List Content) (plan : Plan) : Type 0 where
  pub globals : length plan.globals ≡ length contents
  pub functions : length plan.functions ≡ length sel.functions
  pub frames : length plan.frames ≡ length sel.functions
  pub named : All (λ (f : SelFun). All (NamesOneOf (length contents)) (ops_of f)) sel.functions
  pub globals_below : (g at : ℕ) (c : Content) → Lies plan contents g at c → at + length c.bytes < 2 ^ 64
  pub globals_apart : (g h at at2 i j : ℕ) (c d : Content) → Lies plan contents g at c → Lies plan contents h at2 d → g ≢ h →
      i < length c.bytes → j < length d.bytes → at + i ≢ at2 + j
  pub globals_off : (g at i : ℕ) (c : Content) → Lies plan contents g at c → i < length c.bytes → (at + i ≢ 0) × IsOffStack (at + i)
  pub functions_below : (f at : ℕ) → IsTaken sel plan f at → at < 2 ^ 64
  pub functions_apart : (f g at : ℕ) → IsTaken sel plan f at → IsTaken sel plan g at → f ≡ g
  pub functions_off : (f at : ℕ) → IsTaken sel plan f at → (at ≢ 0) × IsOffStack at
  pub functions_beside : (f g at at2 i : ℕ) (c : Content) → IsTaken sel plan f at → Lies plan contents g at2 c → i < length c.bytes → at ≢ at2 + i
  pub allocas : (f : ℕ) (fn : SelFun) (p : FramePlan) → slice_get sel.functions f ≡ Some fn → slice_get plan.frames f ≡ Some p → p.allocas + fn.frame ≤ p.bytes
  pub room : (f : ℕ) (p : FramePlan) → slice_get plan.frames f ≡ Some p → MAX_CALLS * p.bytes + 4096 ≤ stack_end - stack_start
