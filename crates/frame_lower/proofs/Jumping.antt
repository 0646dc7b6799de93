-- From a call to its slot: arguments where they are wanted, and a jump.
use Rattle.std.proofs.Common.{◌≡◌, ℕ, zero, suc, ◌+◌, ◌-◌, ◌≤◌, List, [], ◌∷◌, ◌++◌, length, drop, take, Option, Some, refl, sym, ◌∙◌, ap, subst, arith, append_assoc, length-append}
use Rattle.std.specs.Prelude.{pos, slice_get}
use Rattle.std.specs.List.{flat_map}
use Rattle.std.proofs.lemmas.List.{length-drop}
use Rattle.behavior.specs.Simulation.{Comes}
use Rattle.behavior.proofs.Stretch.{comes_one, comes_join, comes_wider}
use Rattle.ir_core.specs.Counts.{greatest}
use Rattle.x86_core.specs.declared.flags.Flags.{Flags}
use Rattle.x86_core.specs.declared.image.Segment.{Segment}
use Rattle.x86_core.specs.declared.instr.Instr.{Instr}
use Rattle.x86_core.specs.declared.instr.Instr.TheVariants.{Jmp}
use Rattle.x86_rows.specs.Straight.{Through, exec}
use Rattle.low_core.specs.declared.sel.SelBlock.{SelBlock}
use Rattle.low_core.specs.declared.sel.SelOp.{SelOp}
use Rattle.low_core.specs.declared.sel.Sel.{Sel}
use Rattle.low_core.specs.Plan.{Plan, Content}
use Rattle.low_core.specs.SelState.{SelFrame}
use Rattle.low_core.specs.SelWeights.{arguments_of, words_passed}
use Rattle.obj_core.specs.declared.object.Object.{Object}
use Rattle.obj_core.specs.declared.object.Place.{Place}
use Rattle.obj_core.specs.Disassembly.{size_of}
use Rattle.obj_core.specs.SymbolicMachine.{symbolic_step}
use Rattle.obj_rows.specs.Marked.{Marked, linked, all_unlinked, row_size, Stands}
use Rattle.obj_rows.specs.Standing.{Outside, standing}
use Rattle.obj_rows.proofs.Branches.{jumps}
use Rattle.obj_rows.proofs.Rows.{row_size-append, instrs_of-unlinked, length-unlinked, stands_one, stands_next, stands_first, stands_behind}
use Rattle.obj_rows.proofs.Runs.{row_comes}
use Rattle.frame_rows.specs.Words.{Words, core_of}
use Rattle.frame_lower.specs.Calls.{pass_row, take_row, call_row}
use Rattle.frame_lower.specs.Chain.{function_in, slot_behind, code_in, rest_in}
use Rattle.frame_lower.specs.Rows.{Making, marked_op}
use Rattle.frame_lower.specs.Suits.{HasSlot, Suits}
use Rattle.frame_lower.proofs.Counts.{pass_count}
use Rattle.frame_lower.proofs.Greatest.{passed, most_of_both}
use Rattle.frame_lower.proofs.Rests.{op_stands}

-- each call passes no more words than the most of all
most_in : (ops : List SelOp) (n : ℕ) (op : SelOp) → slice_get ops n ≡ Some op → arguments_of op - 6 ≤ greatest (passed ops)
most_in [] n op there = absurd (cc)
most_in (p ∷ ops) zero op there = let same : p ≡ op = cc in let e = ap arguments_of same in omega (arith, e)
most_in (p ∷ ops) (suc n) op there = let h = most_in ops n op there in omega (arith, h)

pub most_passed : (bs : List SelBlock) (k n : ℕ) (b : SelBlock) (op : SelOp) → slice_get bs k ≡ Some b → slice_get b.ops n ≡ Some op → arguments_of op - 6 ≤ greatest (passed (flat_map (λ (c : SelBlock). c.ops) bs))
most_passed [] k n b op is_block there = absurd (cc)
most_passed (c ∷ bs) zero n b op is_block there =
    let same : c ≡ b = cc in
    let first = most_in c.ops n op (subst (λ (d : SelBlock). slice_get d.ops n ≡ Some op) (sym same) there) in
    let both = most_of_both c.ops (flat_map (λ (d : SelBlock). d.ops) bs) in
    omega (arith, first, both)
most_passed (c ∷ bs) (suc k) n b op is_block there =
    let others = most_passed bs k n b op is_block there in
    let both = most_of_both c.ops (flat_map (λ (d : SelBlock). d.ops) bs) in
    omega (arith, others, both)

module _ (o : Object) (sel : Sel) (plan : Plan) (contents : List Content) (by : ℕ → Making) (live : ℕ → ℕ → ℕ → ℕ → Type 0) (suits : Suits o sel plan contents by live) where
  module _ (f : SelFrame) (off : ℕ) (b : SelBlock) (is_function : slice_get sel.functions f.function ≡ Some (function_in sel f.function)) (is_block : slice_get (function_in sel f.function).blocks f.block ≡ Some b)
      (stands : Stands (code_in sel by f.function) off (rest_in sel by f.function off f.block f.next b)) (op : SelOp) (there : slice_get b.ops f.next ≡ Some op) where
    abbrev x : Making
    x = by f.function

    abbrev code : List Marked
    code = code_in sel by f.function

    -- the slot
    abbrev pub slot : ℕ
    slot = slot_behind sel f.function f.block (take f.next b.ops)

    module _ (wanted : List Instr) (into : Option ℕ) (args : List ℕ) (is_row : marked_op x slot op ≡ call_row x.homes wanted slot into args) (few : length args ≤ 32) (one : length wanted ≤ 1) where
      abbrev ready : List Instr
      ready = pass_row x.homes args ++ wanted

      abbrev taking : List Marked
      taking = all_unlinked (take_row x.homes into)

      abbrev jump : Marked
      jump = linked (Jmp (pos 0)) slot

      -- where the jump stands, and where the run comes back
      abbrev pub jump_at : ℕ
      jump_at = off + row_size (all_unlinked ready)

      abbrev rest_from : ℕ → List Marked
      rest_from p = rest_in sel by f.function p f.block (f.next + 1) b

      whole_row : Stands code off (all_unlinked ready ++ (jump ∷ (taking ++ rest_from (jump_at + 5 + row_size taking))))
      whole_row =
          let row = call_row x.homes wanted slot into args in
          let far : off + row_size row ≡ jump_at + 5 + row_size taking = (let l = row_size-append (all_unlinked ready) (jump ∷ taking) in let five : size_of (Jmp (pos 0)) ≡ 5 = refl in omega (arith, l, five)) in
          subst (Stands code off) (append_assoc (all_unlinked ready) (jump ∷ taking) (rest_from (jump_at + 5 + row_size taking)))
          (subst (λ p. Stands code off (row ++ rest_from p)) far (subst (λ r. Stands code off (r ++ rest_from (off + row_size r))) is_row (op_stands sel by f.function f.block f.next b code off stands op there)))

      pub jump_stands : Stands code jump_at (jump ∷ (taking ++ rest_from (jump_at + 5 + row_size taking)))
      jump_stands = stands_behind code off (all_unlinked ready) (jump ∷ (taking ++ rest_from (jump_at + 5 + row_size taking))) whole_row

      pub back_stands : Stands code (jump_at + 5) (taking ++ rest_from (jump_at + 5 + row_size taking))
      back_stands = stands_next code jump_at jump (taking ++ rest_from (jump_at + 5 + row_size taking)) jump_stands

      pub has_slot : HasSlot o (length sel.functions) slot (Place.Code f.function (jump_at + 5)) op
      has_slot = suits.calls f.function f.block f.next jump_at (function_in sel f.function) b op (taking ++ rest_from (jump_at + 5 + row_size taking)) is_function is_block there jump_stands

      -- to the slot
      pub to_slot : (out : Outside) (w w1 : Words) (fl fl1 : Flags) (ss ss1 : List Segment) → exec ready (core_of w fl ss) ≡ Through (core_of w1 fl1 ss1) →
          Comes (symbolic_step o) 1 70 (standing out (Place.Code f.function off) (core_of w fl ss)) (standing out (Place.Slot slot 0) (core_of w1 fl1 ss1))
      to_slot out w w1 fl fl1 ss ss1 runs =
          let marked = all_unlinked ready in
          let n = length marked in
          let t0 = standing out (Place.Code f.function off) (core_of w fl ss) in
          let t1 = standing out (Place.Code f.function jump_at) (core_of w1 fl1 ss1) in
          let t2 = standing out (Place.Slot slot 0) (core_of w1 fl1 ss1) in
          let long = length-unlinked ready in
          let both = length-append (pass_row x.homes args) wanted in
          let count = pass_count x.homes args in
          let is = suits.codes f.function (function_in sel f.function) is_function in
          comes_wider (symbolic_step o) (n + 1) (n + 1) 1 70 t0 t2 (omega arith) (omega (arith, long, both, count, few, one))
          (comes_join (symbolic_step o) n n 1 1 t0 t1 t2
          (row_comes o f.function code is out marked off (core_of w fl ss) (core_of w1 fl1 ss1) (stands_first code off marked (jump ∷ (taking ++ rest_from (jump_at + 5 + row_size taking))) whole_row)
          (ap (λ r. exec r (core_of w fl ss)) (instrs_of-unlinked ready) ∙ runs))
          (comes_one (symbolic_step o) t1 t2 (jumps o f.function code is out jump_at (core_of w1 fl1 ss1) (Some slot) (pos 0) (stands_one code jump_at jump (taking ++ rest_from (jump_at + 5 + row_size taking)) jump_stands))))

    -- the words that it passes are in the frame
    pub passed_fit : (args : List ℕ) → arguments_of op ≡ length args → (length (drop 6 args) ≤ x.words) × (length (drop 6 args) ≤ words_passed (function_in sel f.function))
    passed_fit args is =
        let most = most_passed (function_in sel f.function).blocks f.block f.next b op is_block there in
        let behind = length-drop 6 args in
        let inside = suits.passed f.function _ is_function in
        (omega (arith, most, behind, inside, is), omega (arith, most, behind, is))
