-- A call of a function by its number, and one by its address.
use Rattle.std.proofs.Common.{◌≡◌, ℕ, ◌+◌, ◌-◌, ◌≤◌, List, [], ◌∷◌, ◌++◌, length, drop, Option, Some, None, Ok, refl, sym, ◌∙◌, ap, subst, inl, inr, arith}
use Rattle.std.specs.Prelude.{negsuc, slice_get}
use Rattle.std.proofs.lemmas.Bool.{cases_eq}
use Rattle.std.proofs.lemmas.List.{append-nil, length-drop}
use Rattle.behavior.specs.Simulation.{Comes}
use Rattle.behavior.proofs.Stretch.{comes_one, comes_join, comes_wider}
use Rattle.ir_core.specs.declared.memory.Reason.TheVariants.{Bounds}
use Rattle.ir_core.specs.Stops.{Answer, Left, Malformed, and_then, found_or}
use Rattle.rd_num.specs.Number.{le_bytes}
use Rattle.x86_core.specs.declared.flags.Flags.{Flags}
use Rattle.x86_core.specs.declared.image.Segment.{Segment}
use Rattle.x86_core.specs.declared.instr.Instr.{Instr}
use Rattle.x86_core.specs.declared.reg.Reg.TheVariants.{R11}
use Rattle.x86_core.specs.Data.{stack_start, stack_end}
use Rattle.x86_core.specs.Arithmetic.{moved}
use Rattle.x86_core.specs.Step.{State}
use Rattle.x86_rows.specs.Addresses.{SameShape, Written}
use Rattle.x86_rows.specs.Straight.{Through, exec}
use Rattle.x86_rows.proofs.Writing.{write_range}
use Rattle.low_core.specs.declared.sel.SelBlock.{SelBlock}
use Rattle.low_core.specs.declared.sel.SelFun.{SelFun}
use Rattle.low_core.specs.declared.sel.SelOp.{SelOp}
use Rattle.low_core.specs.declared.sel.SelOp.TheVariants.{Call, CallAt}
use Rattle.low_core.specs.declared.sel.Sel.{Sel}
use Rattle.low_core.specs.Flat.{Flat, Bytes}
use Rattle.low_core.specs.Plan.{Plan, Content}
use Rattle.low_core.specs.SelParts as parts
use Rattle.low_core.specs.SelShaped.{IsCallOf}
use Rattle.low_core.specs.SelState.{SelFrame, SelState, SelTurn, word_in, words_in}
use Rattle.low_core.specs.SelStep.{enters, function_at, op_turn}
use Rattle.low_core.specs.SelWeights.{arguments_of}
use Rattle.obj_core.specs.declared.object.Object.{Object}
use Rattle.obj_core.specs.declared.object.Place.{Place}
use Rattle.obj_core.specs.declared.object.Slot.{Slot}
use Rattle.obj_core.specs.Slots.{slot_start}
use Rattle.obj_core.specs.SymbolicMachine.{symbolic_step}
use Rattle.obj_rows.specs.Marked.{Stands}
use Rattle.obj_rows.specs.Standing.{Outside as World, standing}
use Rattle.obj_rows.proofs.Slots.{call_goes, call_returns, indirect_returns, pointer_goes}
use Rattle.obj_rows.proofs.Words.{found_within}
use Rattle.frame_rows.specs.Code.{home_read}
use Rattle.frame_rows.specs.Words.{Words, core_of}
use Rattle.frame_rows.proofs.Meeting.{word_cases}
use Rattle.frame_lower.specs.Calls.{pass_row}
use Rattle.frame_lower.specs.Chain.{function_in, code_in, rest_in}
use Rattle.frame_lower.specs.Rows.{Making}
use Rattle.frame_lower.specs.Suits.{GoesBackTo, IsPointer, Suits}
use Rattle.frame_lower.proofs.Arguments.{Told, words_cases, have_long, have_small}
use Rattle.frame_lower.proofs.Calling.{called}
use Rattle.frame_lower.proofs.Chains.{chain_high}
use Rattle.frame_lower.proofs.Entered.{address_taken, taken_is, enters_is, enters_not}
use Rattle.frame_lower.proofs.Facts.{op_shaped}
use Rattle.frame_lower.proofs.Jumping.{slot, jump_at, back_stands, has_slot, to_slot, passed_fit}
use Rattle.frame_lower.proofs.Passing.{Passes, passes, passes_at}
use Rattle.frame_lower.proofs.PlainStep.{stack_same, Turned}
use Rattle.frame_lower.proofs.Stage.{flat_in, globals, last, state_of, function_is, Whole}

module _ (o : Object) (sel : Sel) (plan : Plan) (contents : List Content) (by : ℕ → Making) (live : ℕ → ℕ → ℕ → ℕ → Type 0) (suits : Suits o sel plan contents by live) (input : List ℕ) where
  abbrev step : State Place → State Place
  step = symbolic_step o

  module _ (f : SelFrame) (callers : List SelFrame) (bytes : Bytes) (printed : List ℕ) (taken depth : ℕ) (w : Words) (fl : Flags) (ss : List Segment) (off : ℕ) (b : SelBlock)
      (is_function : slice_get sel.functions f.function ≡ Some (function_in sel f.function)) (is_block : slice_get (function_in sel f.function).blocks f.block ≡ Some b)
      (stands : Stands (code_in sel by f.function) off (rest_in sel by f.function off f.block f.next b)) (whole : Whole o sel plan contents by live suits input f depth callers (live f.function f.block f.next) bytes w ss) where
    abbrev s : SelState
    s = state_of f callers bytes printed taken

    abbrev out : World
    out = record { left = drop taken input; printed = printed; taken = taken }

    abbrev t0 : State Place
    t0 = standing out (Place.Code f.function off) (core_of w fl ss)

    abbrev Turned_ : Answer SelTurn → Type 0
    Turned_ = Turned o sel plan contents by live suits input f callers bytes printed taken depth w fl ss off b is_function is_block stands whole

    abbrev x : Making
    x = by f.function

    abbrev flat : Flat
    flat = flat_in o sel plan contents by live suits input (f ∷ callers) bytes

    abbrev alive : ℕ → Type 0
    alive = live f.function f.block f.next

    -- the words of the arguments come where the function finds them
    passing : (op : SelOp) (args : List ℕ) → slice_get b.ops f.next ≡ Some op → arguments_of op ≡ length args → ((z : ℕ) → parts.IsOneOf z args → alive z) → (t : Told f.registers args) →
        Passes x.homes f.base x.words alive f.registers flat args t.words w fl ss
    passing op args there count used t =
        let fit = passed_fit o sel plan contents by live suits f off b is_function is_block stands op there args count in
        let f1 = fit.1 in
        passes x.homes f.base x.words alive f.registers flat args t.words w fl ss fit.0 (λ z j l lt. suits.behind f.function f.block f.next z j l (omega (arith, lt, f1))) used t.have whole.tied

    -- the word that leads back goes below the frame
    landing : (ss1 : List Segment) → SameShape ss ss1 → (k : ℕ) → Written ss1 (f.base - 8) (le_bytes 8 (slot_start o k + 5))
    landing ss1 shape k =
        let r = whole.room in
        let h = chain_high o sel by (globals o sel plan contents by live suits input) live (last o sel plan contents by live suits input) callers ss f depth whole.chain in
        let stack = stack_same stack_start stack_end ss ss1 shape whole.stack in
        write_range ss1 (f.base - 8) (le_bytes 8 (slot_start o k + 5)) stack.disjoint (omega arith) (stack.writable (f.base - 8) 8 (omega (arith, r)) (omega (arith, r, h)) (omega arith))

    down : (w1 : Words) → w1.rsp ≡ f.base → moved w1.rsp (negsuc 7) ≡ f.base - 8
    down w1 at =
        let r = whole.room in
        let h = chain_high o sel by (globals o sel plan contents by live suits input) live (last o sel plan contents by live suits input) callers ss f depth whole.chain in
        ap (λ p. moved p (negsuc 7)) at ∙ omega (arith, r, h)

    -- a call by number
    pub call_step : (g : ℕ) (into : Option ℕ) (args : List ℕ) → slice_get b.ops f.next ≡ Some (Call g into args) → Turned_ (op_turn sel plan flat input s f callers (Call g into args))
    call_step g into args there = elim (words_cases f.registers args) [
      | inr e ↦ subst (λ q. Turned_ (and_then q (λ ns. enters Malformed sel plan s f callers into ns g))) (sym e) (inl refl)
      | inl t ↦ subst (λ q. Turned_ (and_then q (λ ns. enters Malformed sel plan s f callers into ns g))) (sym t.gives) (by_words t)
    ]
      where
        by_words : (t : Told f.registers args) → Turned_ (enters Malformed sel plan s f callers into t.words g)
        by_words t =
            let op = Call g into args in
            let shaped = op_shaped o sel plan contents by live suits f.function f.block f.next _ b op is_function is_block there in
            let callee : IsCallOf sel g (length args) = shaped.fits in
            let same_function = function_is sel g callee.fn callee.stands in
            let is_callee : slice_get sel.functions g ≡ Some (function_in sel g) = callee.stands ∙ ap Some (sym same_function) in
            let long = have_long f.registers args t.words t.have in
            let params : length (function_in sel g).params ≡ length t.words = ap (λ (fn : SelFun). length fn.params) same_function ∙ callee.params ∙ sym long in
            let few : length args ≤ 32 = shaped.few in
            let used = ((suits.allotted f.function _ is_function).ops f.block f.next b op is_block there).reads in
            let p = passing op args there refl used t in
            let k = slot o sel plan contents by live suits f off b is_function is_block stands op there in
            let back : GoesBackTo o k (λ c. Slot.Call g c) _ = has_slot o sel plan contents by live suits f off b is_function is_block stands op there [] into args refl few (omega arith) in
            let pushed = landing p.segments p.shape k in
            let w1 = p.after in
            let at : w1.rsp ≡ f.base = p.tied.at_base in
            let c1 = core_of w1 fl p.segments in
            let t1 = standing out (Place.Slot k 0) c1 in
            let t2 = standing out (Place.Code g 0) (core_of (record w1 { rsp = f.base - 8 }) fl pushed.segments) in
            let fit = passed_fit o sel plan contents by live suits f off b is_function is_block stands op there args refl in
            let longer : length (drop 6 t.words) ≤ x.words = (let f0 = fit.0 in let d = length-drop 6 t.words in let e = length-drop 6 args in omega (arith, f0, d, e, long)) in
            let comes : Comes step 1 200 t0 t2 =
            comes_wider step (1 + 1) (70 + 1) 1 200 t0 t2 (omega arith) (omega arith)
            (comes_join step 1 70 1 1 t0 t1 t2 (to_slot o sel plan contents by live suits f off b is_function is_block stands op there [] into args refl few (omega arith) out w w1 fl fl ss p.segments (p.runs []))
            (comes_one step t1 t2 (call_goes o out k c1 g back.back (f.base - 8) back.is_slot (down w1 at) pushed))) in
            subst Turned_ (sym (enters_is o sel plan contents by live suits s f callers into t.words g is_callee Malformed params))
            (called o sel plan contents by live suits input f callers bytes printed taken depth w fl ss off b is_function is_block stands whole op there into refl g is_callee t.words (sym params)
            (have_small f.registers args t.words whole.tied.small t.have) longer
            w1 fl p.segments p.same p.tied p.held p.stand p.shape p.outside k (found_within o.slots k _ back.is_slot) pushed comes
            (jump_at o sel plan contents by live suits f off b is_function is_block stands op there [] into args refl few (omega arith) + 5)
            (λ out2 core. call_returns o out2 k core g back.back back.is_slot ∙ ap (λ q. standing out2 q core) back.is_place)
            (back_stands o sel plan contents by live suits f off b is_function is_block stands op there [] into args refl few (omega arith)))

    -- a call by address
    pub call_at_step : (a : ℕ) (into : Option ℕ) (args : List ℕ) → slice_get b.ops f.next ≡ Some (CallAt a into args) → Turned_ (op_turn sel plan flat input s f callers (CallAt a into args))
    call_at_step a into args there = elim (word_cases f.registers a) [
      | inr e ↦ subst (λ q. Turned_ (and_then q (λ at. and_then (words_in f.registers args)
          (λ ns. and_then (found_or (Left Bounds) (function_at at sel.taken plan.functions)) (λ g. enters (Left Bounds) sel plan s f callers into ns g))))) (sym e) (inl refl)
      | inl v ↦ subst (λ q. Turned_ (and_then q (λ at. and_then (words_in f.registers args)
          (λ ns. and_then (found_or (Left Bounds) (function_at at sel.taken plan.functions)) (λ g. enters (Left Bounds) sel plan s f callers into ns g))))) (sym v.1)
          (elim (words_cases f.registers args) [
            | inr e ↦ subst (λ q. Turned_ (and_then q (λ ns. and_then (found_or (Left Bounds) (function_at v.0 sel.taken plan.functions)) (λ g. enters (Left Bounds) sel plan s f callers into ns g)))) (sym e) (inl refl)
            | inl t ↦ subst (λ q. Turned_ (and_then q (λ ns. and_then (found_or (Left Bounds) (function_at v.0 sel.taken plan.functions)) (λ g. enters (Left Bounds) sel plan s f callers into ns g)))) (sym t.gives)
                (by_address v.0 v.1 t (function_at v.0 sel.taken plan.functions) refl)
          ])
    ]
      where
        by_words : (at : ℕ) → word_in f.registers a ≡ Ok at → (t : Told f.registers args) (g : ℕ) → function_at at sel.taken plan.functions ≡ Some g → length (function_in sel g).params ≡ length t.words →
            slice_get sel.functions g ≡ Some (function_in sel g) → IsPointer o g at →
            Turned_ (enters (Left Bounds) sel plan s f callers into t.words g)
        by_words at told t g is params is_callee pointer =
            let op = CallAt a into args in
            let shaped = op_shaped o sel plan contents by live suits f.function f.block f.next _ b op is_function is_block there in
            let long = have_long f.registers args t.words t.have in
            let few : length args ≤ 32 = shaped.few in
            let reads = ((suits.allotted f.function _ is_function).ops f.block f.next b op is_block there).reads in
            let p = passes_at x.homes f.base x.words alive f.registers flat a args t.words w fl ss at (reads a (inl refl)) told (passing op args there refl (λ z i. reads z (inr i)) t) in
            let wanted : List Instr = home_read (x.homes a) R11 ∷ [] in
            let k = slot o sel plan contents by live suits f off b is_function is_block stands op there in
            let back : GoesBackTo o k Slot.Indirect _ = has_slot o sel plan contents by live suits f off b is_function is_block stands op there wanted into args refl few (omega arith) in
            let pushed = landing p.segments p.shape k in
            let w1 = p.after in
            let at_base : w1.rsp ≡ f.base = p.tied.at_base in
            let c1 = core_of w1 fl p.segments in
            let t1 = standing out (Place.Slot k 0) c1 in
            let t2 = standing out (Place.Code g 0) (core_of (record w1 { rsp = f.base - 8 }) fl pushed.segments) in
            let fit = passed_fit o sel plan contents by live suits f off b is_function is_block stands op there args refl in
            let longer : length (drop 6 t.words) ≤ x.words = (let f0 = fit.0 in let d = length-drop 6 t.words in let e = length-drop 6 args in omega (arith, f0, d, e, long)) in
            let four : Comes step 4 4 t1 t2 = record {
              count = 4;
              low = omega arith;
              high = omega arith;
              arrives =
                  pointer_goes o out k c1 back.back (f.base - 8) pointer.slot g back.is_slot pointer.is_slot (p.pointer ∙ pointer.address) (down w1 at_base) pushed;
            } in
            let ready : exec (pass_row x.homes args ++ wanted) (core_of w fl ss) ≡ Through c1 = ap (λ r. exec r (core_of w fl ss)) (sym (append-nil (pass_row x.homes args ++ wanted))) ∙ p.runs [] in
            let comes : Comes step 1 200 t0 t2 =
            comes_wider step (1 + 4) (70 + 4) 1 200 t0 t2 (omega arith) (omega arith)
            (comes_join step 1 70 4 4 t0 t1 t2 (to_slot o sel plan contents by live suits f off b is_function is_block stands op there wanted into args refl few (omega arith) out w w1 fl fl ss p.segments ready) four) in
            subst Turned_ (sym (enters_is o sel plan contents by live suits s f callers into t.words g is_callee (Left Bounds) params))
            (called o sel plan contents by live suits input f callers bytes printed taken depth w fl ss off b is_function is_block stands whole op there into refl g is_callee t.words (sym params)
            (have_small f.registers args t.words whole.tied.small t.have) longer
            w1 fl p.segments p.same p.tied p.held p.stand p.shape p.outside k (found_within o.slots k _ back.is_slot) pushed comes
            (jump_at o sel plan contents by live suits f off b is_function is_block stands op there wanted into args refl few (omega arith) + 5)
            (λ out2 core. indirect_returns o out2 k core back.back back.is_slot ∙ ap (λ q. standing out2 q core) back.is_place)
            (back_stands o sel plan contents by live suits f off b is_function is_block stands op there wanted into args refl few (omega arith)))

        by_address : (at : ℕ) → word_in f.registers a ≡ Ok at → (t : Told f.registers args) (q : Option ℕ) → function_at at sel.taken plan.functions ≡ q →
            Turned_ (and_then (found_or (Left Bounds) (function_at at sel.taken plan.functions)) (λ g. enters (Left Bounds) sel plan s f callers into t.words g))
        by_address at told t None is = subst (λ q. Turned_ (and_then (found_or (Left Bounds) q) (λ g. enters (Left Bounds) sel plan s f callers into t.words g))) (sym is) (inl refl)
        by_address at told t (Some g) is =
            let taken_so = address_taken at sel.taken plan.functions g is in
            let is_callee = taken_is o sel plan contents by live suits g taken_so.0 in
            subst (λ q. Turned_ (and_then (found_or (Left Bounds) q) (λ h. enters (Left Bounds) sel plan s f callers into t.words h))) (sym is)
            (elim (cases_eq (length (function_in sel g).params) (length t.words)) [
              | inl same ↦ by_words at told t g is same is_callee (suits.pointers g at (record { taken = taken_so.0; address = taken_so.1 }))
              | inr other ↦ subst Turned_ (sym (enters_not o sel plan contents by live suits s f callers into t.words g is_callee (Left Bounds) other)) (inl refl)
            ])
