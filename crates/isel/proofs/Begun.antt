-- A call that begins: beside it stands a call of registers, in a new frame with its own memory, of whose bytes nothing is known.
use Rattle.std.proofs.Common.{◌≡◌, ℕ, suc, ◌+◌, ◌*◌, ◌<◌, ◌≤◌, List, [], ◌∷◌, map, take, length, replicate, Option, Some, None, slice_get, refl, ap, sym, ◌∙◌, subst, arith}
use Rattle.std.proofs.lemmas.List.{length-replicate}
use Rattle.ir_core.specs.declared.TheConstants.{MAX_CALLS}
use Rattle.ir_core.specs.declared.instruction.Inst.{Inst}
use Rattle.ir_core.specs.declared.memory.Value.{Value}
use Rattle.ir_core.specs.declared.module.Block.{Block}
use Rattle.ir_core.specs.declared.module.Function.{Function}
use Rattle.ir_core.specs.declared.module.Module.{Module}
use Rattle.ir_core.specs.declared.ty.NamedTy.{NamedTy}
use Rattle.ir_core.specs.Calls.{first_frame}
use Rattle.ir_core.specs.Memory.{Memory}
use Rattle.ir_core.specs.State.{Frame}
use Rattle.ir_core.specs.Valid.{LocalKind, results_of}
use Rattle.ir_sound.specs.WellTyped.{Each}
use Rattle.ir_sound.proofs.RowLaws.{item_at}
use Rattle.x86_core.specs.Data.{stack_end}
use Rattle.low_core.specs.Flat.{Bytes, forgotten}
use Rattle.low_core.specs.Plan.{FramePlan, Plan, Content}
use Rattle.low_core.specs.Contents.{Addresses, word_of}
use Rattle.low_core.specs.Bridge.{Setting, IsKnown, Bridges}
use Rattle.low_core.specs.SelState.{SelFrame, top_of, first_sel_frame}
use Rattle.low_core.specs.Weights.{lean_own}
use Rattle.flat_memory.specs.Accesses.{AreFree}
use Rattle.flat_memory.proofs.Frames.{made_law}
use Rattle.isel_rows.specs.Functions.{allocas_in, insts_ops, numbers_from, function_selected}
use Rattle.isel_rows.specs.Variables.{variables_of, registers_count}
use Rattle.isel.proofs.Beside.{allocas_before, greatest_frame, IsCallBeside, IsOnTop, WaitsIn, AreBeside, memories, setting_of}
use Rattle.isel.proofs.Entered.{params_numbered, params_hold, length_bound}
use Rattle.isel.proofs.Premises.{Premises, moves_at}
use Rattle.isel.proofs.Stacked.{has_room, inside, own_free}
use Rattle.isel.proofs.Typed.{function_shaped}

-- no instruction is in front of the first
none_taken : (is : List Inst) → take 0 is ≡ []
none_taken [] = refl
none_taken (i ∷ is) = refl

-- and no alloca in front of the first block
none_before : (types : List NamedTy) (bs : List Block) → allocas_before types bs 0 ≡ 0
none_before types [] = refl
none_before types (b ∷ bs) = refl

module _ (m : Module) (plan : Plan) (contents : List Content) (p : Premises m plan contents) where
  abbrev g : Setting
  g = setting_of m plan contents

  -- calls beside calls, and memory tied, once one more call has begun
  pub record HasBegun (objects : Memory) (at : Addresses) (bytes : Bytes) (fs : List Frame) (hs : List SelFrame) (f : Frame) (h : SelFrame) : Type 0 where
    pub are : AreBeside m g objects at (f ∷ fs) (h ∷ hs)
    pub tied : Bridges g (memories (f ∷ fs) (h ∷ hs)) objects at (forgotten bytes h.own.start h.own.size)

  module _ (objects : Memory) (at : Addresses) (bytes : Bytes) (fs : List Frame) (hs : List SelFrame) (are : AreBeside m g objects at fs hs) (tied : Bridges g (memories fs hs) objects at bytes) (few : length hs < MAX_CALLS)
      (k : ℕ) (fn : Function) (there : slice_get m.functions k ≡ Some fn) (frame : FramePlan) (planned : slice_get plan.frames k ≡ Some frame)
      (us : List Value) (even : length us ≡ length fn.params) (known : Each (IsKnown (length objects) g.taken) us) (into : Option (List ℕ)) (r : Option ℕ) (waits : WaitsIn m fs into r) where
    abbrev V : List LocalKind
    V = variables_of fn

    abbrev h : SelFrame
    h = first_sel_frame k (function_selected m fn) frame (top_of hs) (map (word_of at) us) r

    abbrev f : Frame
    f = first_frame k fn us into

    -- the first block of the function
    first_block : (b : Block) × (slice_get fn.blocks 0 ≡ Some b)
    first_block = item_at fn.blocks 0 (moves_at m plan contents p k fn there).some_block

    -- there are registers for all
    long : length h.registers ≡ registers_count V fn
    long = length_bound (numbers_from 0 (length fn.params)) (map (word_of at) us) (replicate (registers_count V fn) no_word) ∙ length-replicate (registers_count V fn) no_word
      where
        no_word : Option ℕ
        no_word = None

    -- the call beside it
    call : IsCallBeside m g objects at f h
    call =
        let b = first_block in
        let none : allocas_before m.types fn.blocks 0 ≡ 0 = none_before m.types fn.blocks in
        let taken : take 0 b.0.insts ≡ [] = none_taken b.0.insts in
        let used : allocas_in m.types (take 0 b.0.insts) ≡ 0 = ap (allocas_in m.types) taken in
        let start : h.own.start ≡ h.own.start + (allocas_before m.types fn.blocks 0 + allocas_in m.types (take 0 b.0.insts)) = omega (arith, none, used) in
        record {
          fn = fn;
          block = b.0;
          in_module = there;
          in_function = b.1;
          function = refl;
          same_block = refl;
          next = sym (ap (λ is. length (insts_ops m V (allocas_before m.types fn.blocks 0) is)) taken);
          registers = long;
          holds = params_hold (length objects) g.taken at V (registers_count V fn) 0 fn.params us (omega arith)
              (params_numbered [] fn.params (results_of fn.blocks) (function_shaped lean_own m p.shaped k fn there).params) even known;
          size = refl;
          writable = refl;
          left = h.own.size;
          whole = omega (arith, none, used);
          free = subst (λ n. AreFree g objects at n h.own.size) start (own_free m plan contents p objects at bytes fs hs are tied few k fn there frame planned);
        }

    -- it stands on top of its callers
    on_top : IsOnTop plan h hs
    on_top =
        let room = has_room m plan contents p objects at bytes fs hs are tied few k fn there frame planned in
        let below = room.below in
        let same : suc (length hs) ≡ 1 + length hs = omega arith in
        record {
          frame = frame;
          planned = planned;
          base = omega (arith, below);
          start = refl;
          inside = inside m plan contents p objects at bytes fs hs are tied few k fn there frame planned;
          room = subst (λ n. stack_end ≤ h.base + n * greatest_frame plan) same room.room;
        }

    -- the call has begun
    pub has_begun : HasBegun objects at bytes fs hs f h
    has_begun =
        let free = own_free m plan contents p objects at bytes fs hs are tied few k fn there frame planned in
        record {
          are = (call, on_top, waits, are);
          tied = made_law g (memories fs hs) objects at bytes tied h.own free.apart;
        }
