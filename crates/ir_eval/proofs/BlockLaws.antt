-- The parts of the program of a typed, small module give what the parts of the module give.
use Rattle.std.proofs.Common.{◌≡◌, ℕ, zero, suc, ◌+◌, ◌*◌, ◌≤◌, Bool, true, false, List, [], ◌∷◌, length, Option, Some, None, refl, ap, sym, ◌∙◌, subst, arith, if◌then◌else◌}
use Rattle.std.specs.Prelude.{◌&&◌, option_map, slice_get}
use Rattle.std.specs.List.{list_all, flat_map, sum_by}
use Rattle.std.proofs.lemmas.Bool.{and_parts}
use Rattle.std.proofs.lemmas.List.Sums.{sum_by-cons}
use Rattle.ir_core.specs.declared.limit.TheConstants.{MAX_FRAME}
use Rattle.ir_core.specs.declared.ty.NamedTy.{NamedTy}
use Rattle.ir_core.specs.declared.instruction.Op.{Op}
use Rattle.ir_core.specs.declared.instruction.Op.TheVariants.{Phi}
use Rattle.ir_core.specs.declared.instruction.Inst.{Inst}
use Rattle.ir_core.specs.declared.instruction.Entry.{Entry}
use Rattle.ir_core.specs.declared.module.Block.{Block}
use Rattle.ir_core.specs.declared.module.Function.{Function}
use Rattle.ir_core.specs.declared.module.Module.{Module}
use Rattle.ir_core.specs.declared.kind.Kind.{Kind}
use Rattle.ir_core.specs.Kinds.{kind_of}
use Rattle.ir_core.specs.Names.{same_name, first_where}
use Rattle.ir_core.specs.Counts.{told, alloca_bytes, inst_frame, stack_arguments, frame_count}
use Rattle.ir_core.specs.Typing.{is_value, is_result, has_kind, kind_given, into_fits, op_fits, operand_fits, inst_fits, term_fits}
use Rattle.ir_core.specs.Valid.{LocalKind, kind_in, named_locals, locals_of, env_of, predecessors}
use Rattle.ir_core.specs.Mentions.{of_op, of_end, of_block, of_function}
use Rattle.ir_core.specs.Step.{Choice, choices_of}
use Rattle.ir_context.specs.Registers.{number_of}
use Rattle.ir_program.specs.Actions.{into_of}
use Rattle.ir_program.specs.Programs.{register_names}
use Rattle.ir_sound.specs.Typed.{param_typed, phis_typed, labels_known, block_typed, entry_typed, function_typed, IsTyped}
use Rattle.ir_sound.specs.WellTyped.{Each}
use Rattle.ir_sound.proofs.RowLaws.{all_at, Each_at, Each_parts, Each_rows}
use Rattle.ir_sound.proofs.SameLaws.{none_is, not_true, some_is}
use Rattle.ir_context.specs.Small.{FieldsAreSmall, IsSmallMention}
use Rattle.ir_globals.specs.Small.{IsSmallModule}
use Rattle.ir_run.specs.Standing.{IntoStands}
use Rattle.ir_run.specs.Agreement.{InstAgrees, PhisAgree, BlockAgrees, Agrees}
use Rattle.ir_eval.proofs.PartLaws.{entries_placed, phi_taken, end_agrees}
use Rattle.ir_eval.proofs.ActLaws.{acts_as}

-- a name without a number is that of no local
unnumbered : (ls : List LocalKind) (name : List ℕ) → number_of (named_locals ls) name ≡ None → kind_in ls name ≡ None
unnumbered [] name e = refl
unnumbered (l ∷ ls) name e = by (same_name l.name name) (unnumbered ls name) e
  where
    unmapped : (o : Option ℕ) → option_map (λ n. suc n) o ≡ None → o ≡ None
    unmapped (Some n) f = none_is (suc n) (sym f)
    unmapped None f = refl

    by : (b : Bool) → (number_of (named_locals ls) name ≡ None → kind_in ls name ≡ None) → (if b then Some 0 else option_map (λ n. suc n) (number_of (named_locals ls) name)) ≡ None
        → option_map (λ (h : LocalKind). h.kind) (if b then Some l else first_where (λ (h : LocalKind). same_name h.name name) ls) ≡ None
    by true go f = none_is 0 (sym f)
    by false go f = go (unmapped (number_of (named_locals ls) name) f)

-- the result of an instruction has a register
into_stands : (ls : List LocalKind) (into : Option (List ℕ)) (kind : Kind) → into_fits (kind_in ls) into kind ≡ true → IntoStands (named_locals ls) (into_of (named_locals ls) into) into
into_stands ls None kind fits = tt
into_stands ls (Some name) kind fits = by (number_of (named_locals ls) name) refl
  where
    by : (o : Option ℕ) → number_of (named_locals ls) name ≡ o → IntoStands (named_locals ls) o (Some name)
    by (Some k) e = e
    by None e = not_true (sym (ap (λ o. has_kind o kind) (unnumbered ls name e)) ∙ (and_parts (is_value kind) (has_kind (kind_in ls name) kind) fits).1)

-- an item of a sum isn't above it
item_below : {X : Type 0} (count : X → ℕ) (xs : List X) (i : ℕ) (x : X) → slice_get xs i ≡ Some x → count x ≤ sum_by count xs
item_below count [] i x at = none_is x at
item_below count (y ∷ ys) zero x at = subst (λ z. count z ≤ sum_by count (y ∷ ys)) (some_is y x at) (let sum = sum_by-cons count y ys in let le : count y ≤ sum_by count (y ∷ ys) = omega arith in le)
item_below count (y ∷ ys) (suc i) x at = let sum = sum_by-cons count y ys in let go = item_below count ys i x at in omega arith

-- the part of a sum within a limit
part_within : (front middle all : ℕ) → told (front + all) ≤ MAX_FRAME → middle ≤ all → middle ≤ MAX_FRAME
part_within front middle all e le = omega arith

-- the bytes of an alloca are within the limit of a frame
alloca_within : (types : List NamedTy) (f : Function) (k j : ℕ) (b : Block) (i : Inst) → frame_count types f ≤ MAX_FRAME → slice_get f.blocks k ≡ Some b → slice_get b.insts j ≡ Some i → alloca_bytes types i.op ≤ MAX_FRAME
alloca_within types f k j b i frame block inst =
    let count : Block → ℕ = λ c. sum_by (inst_frame types) c.insts in
    let of_block = item_below count f.blocks k b block in
    let of_inst = item_below (inst_frame types) b.insts j i inst in
    let own : alloca_bytes types i.op ≤ inst_frame types i = omega arith in
    let le : alloca_bytes types i.op ≤ sum_by count f.blocks = omega arith in
    part_within (256 + 16 * length f.params + 16 * stack_arguments f) (alloca_bytes types i.op) (sum_by count f.blocks) frame le

-- the phis of a block
phis_agree : (m : Module) (ls : List LocalKind) (from : List ℕ) (insts : List Inst) → FieldsAreSmall m.types m.types → Each (IsSmallMention m.types) (flat_map (λ (i : Inst). of_op i.op) insts) → list_all (inst_fits m (kind_in ls)) insts ≡ true
    → PhisAgree m (named_locals ls) from (choices_of insts)
phis_agree m ls from [] all small fits = tt
phis_agree m ls from (i ∷ is) all small fits =
    let p = and_parts (inst_fits m (kind_in ls) i) (list_all (inst_fits m (kind_in ls)) is) fits in
    let s = Each_parts (IsSmallMention m.types) (of_op i.op) (flat_map (λ (j : Inst). of_op j.op) is) small in
    by i.result i.op p.0 s.0 (phis_agree m ls from is all s.1 p.1)
  where
    by : (into : Option (List ℕ)) (op : Op) → inst_fits m (kind_in ls) (record { result = into; op = op }) ≡ true → Each (IsSmallMention m.types) (of_op op) → PhisAgree m (named_locals ls) from (choices_of is)
        → PhisAgree m (named_locals ls) from (choices_of ((record { result = into; op = op }) ∷ is))
    by into (Phi ty entries) fits small go =
        let p = and_parts (op_fits m (kind_in ls) (Phi ty entries)) (into_fits (kind_in ls) into (kind_of ty)) fits in
        let q = and_parts (is_value (kind_of ty)) (list_all (λ (e : Entry). operand_fits m (kind_in ls) (kind_of ty) e.value) entries) p.0 in
        let c : Choice = record { into = into; kind = kind_of ty; entries = entries } in
        (record { into = into_stands ls into (kind_of ty) p.1; taken = phi_taken m (named_locals ls) from c (entries_placed m (kind_in ls) (kind_of ty) entries all small.1 q.1) }, go)
    by into op fits small go = tt

-- an instruction
inst_agrees : (m : Module) (ls : List LocalKind) (i : Inst) → FieldsAreSmall m.types m.types → Each (IsSmallMention m.types) (of_op i.op) → inst_fits m (kind_in ls) i ≡ true → alloca_bytes m.types i.op ≤ MAX_FRAME → InstAgrees m (named_locals ls) i
inst_agrees m ls i all small fits frame =
    let p = and_parts (op_fits m (kind_in ls) i.op) (into_fits (kind_in ls) i.result (kind_given i.op)) fits in
    record { into = into_stands ls i.result (kind_given i.op) p.1; acts = acts_as m (kind_in ls) (named_locals ls) all i.op small p.0 frame }

-- a block of a function
block_agrees : (m : Module) (f : Function) (k : ℕ) (b : Block) → FieldsAreSmall m.types m.types → Each (IsSmallMention m.types) (of_function f) → frame_count m.types f ≤ MAX_FRAME → slice_get f.blocks k ≡ Some b → block_typed m (env_of f) f b ≡ true → BlockAgrees m (register_names f) b
block_agrees m f k b all small frame at typed =
    let P = IsSmallMention m.types in
    let p = and_parts (list_all (inst_fits m (env_of f)) b.insts && term_fits m (env_of f) (kind_of f.ret) b.end) (phis_typed (predecessors f.blocks b.label) b.insts && labels_known f.blocks b) typed in
    let q = and_parts (list_all (inst_fits m (env_of f)) b.insts) (term_fits m (env_of f) (kind_of f.ret) b.end) p.0 in
    let blocks = (Each_parts P _ (flat_map of_block f.blocks) small.1).1 in
    let own = Each_at (λ (c : Block). Each P (of_block c)) f.blocks k b (Each_rows P of_block f.blocks blocks) at in
    let s = Each_parts P (flat_map (λ (i : Inst). of_op i.op) b.insts) (of_end b.end) own in
    record {
      insts = λ j i. λ here.
          inst_agrees m (locals_of f) i all (Each_at (λ (x : Inst). Each P (of_op x.op)) b.insts j i (Each_rows P (λ (x : Inst). of_op x.op) b.insts s.0) here)
          (all_at (inst_fits m (env_of f)) b.insts j i q.0 here) (alloca_within m.types f k j b i frame at here);
      phis = λ from. phis_agree m (locals_of f) from b.insts all s.0 q.0;
      end = end_agrees m (env_of f) (register_names f) (kind_of f.ret) b.end all s.1 q.1;
    }

-- a module that is typed and small
pub typed_agrees : (m : Module) → IsTyped m → IsSmallModule m → Agrees m
typed_agrees m typed small number f k b function block =
    let of_f = all_at (λ (g : Function). function_typed m (env_of g) g) m.functions number f typed.functions function in
    let p = and_parts (is_result f.ret && list_all (param_typed (env_of f)) f.params) (entry_typed f.blocks && list_all (block_typed m (env_of f) f) f.blocks) of_f in
    let q = and_parts (entry_typed f.blocks) (list_all (block_typed m (env_of f) f) f.blocks) p.1 in
    block_agrees m f k b small.fields (Each_at (λ (g : Function). Each (IsSmallMention m.types) (of_function g)) m.functions number f small.functions function)
    (Each_at (λ (g : Function). frame_count m.types g ≤ MAX_FRAME) m.functions number f small.frames function) block (all_at (block_typed m (env_of f) f) f.blocks k b q.1 block)
