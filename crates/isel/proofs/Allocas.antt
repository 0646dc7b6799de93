-- Allocas: each has its place in the own memory of its call, behind those in front of it.
use Rattle.std.proofs.Common.{◌≡◌, ℕ, zero, suc, ◌+◌, ◌-◌, ◌*◌, ◌<◌, ◌≤◌, true, List, [], ◌∷◌, length, take, Option, Some, slice_get, refl, ap, sym, ◌∙◌, subst, inl, inr, arith}
use Rattle.std.specs.List.{sum_by}
use Rattle.std.proofs.lemmas.Bool.{and_from, le-leb}
use Rattle.std.proofs.lemmas.List.Sums.{sum_by-take-le, sum_by-cons}
use Rattle.ir_core.specs.declared.instruction.Inst.{Inst}
use Rattle.ir_core.specs.declared.instruction.Op.TheVariants as op
use Rattle.ir_core.specs.declared.memory.Value.{Value}
use Rattle.ir_core.specs.declared.memory.Value.TheVariants.{At}
use Rattle.ir_core.specs.declared.module.Block.{Block}
use Rattle.ir_core.specs.declared.module.Module.{Module}
use Rattle.ir_core.specs.declared.ty.NamedTy.{NamedTy}
use Rattle.ir_core.specs.declared.ty.Ty.{Ty}
use Rattle.ir_core.specs.Counts.{alloca_bytes, spaced}
use Rattle.ir_core.specs.Memory.{Memory, with_alloca}
use Rattle.ir_core.specs.Shapes.{shape_of}
use Rattle.ir_core.specs.State.{Frame, State, turned, with_local}
use Rattle.ir_core.specs.Step.{instruction_turn}
use Rattle.ir_core.specs.Valid.{LocalKind, named_locals}
use Rattle.low_core.specs.Flat.{Bytes, covers}
use Rattle.low_core.specs.Plan.{Plan, Content}
use Rattle.low_core.specs.Contents.{Addresses}
use Rattle.low_core.specs.Bridge.{Setting}
use Rattle.low_core.specs.SelState.{SelFrame, with_register}
use Rattle.flat_memory.specs.Accesses.{AreFree, Allocates, with_address}
use Rattle.flat_memory.proofs.Frames.{alloca_law}
use Rattle.flat_memory.proofs.Lists.{get_set_same, get_set_other, length_set}
use Rattle.flat_memory.proofs.Named.{allocates_law}
use Rattle.isel_rows.specs.Rows.{result_register}
use Rattle.isel_rows.specs.Functions.{allocas_in}
use Rattle.isel_rows.specs.Selected.{module_selected}
use Rattle.isel.proofs.Beside.{allocas_before, Holds, IsCallBeside, memories, setting_of, Meets}
use Rattle.isel.proofs.Holding.{holds_given}
use Rattle.isel.proofs.Kept.{Changed, alloca_changed, holds_kept, below_off, calls_kept}
use Rattle.isel.proofs.Places.{OpsAt, ops_at}
use Rattle.isel.proofs.Premises.{Premises, rules_at}
use Rattle.isel.proofs.Straight.{moved, straight}
use Rattle.isel.proofs.Here.{IsHere, vs, now, ready, ops, stands_here, result_below, into_variable}
use Rattle.isel.proofs.Past.{top_past}
use Rattle.isel.proofs.Results.{Stands, IsMet}

-- a multiple of sixteen that isn't below
spaced_enough : (n : ℕ) → n ≤ spaced n
spaced_enough n = omega arith

-- the allocas of a block, behind those of the blocks in front of it, are among all
block_room : (types : List NamedTy) (bs : List Block) (k : ℕ) (b : Block) → slice_get bs k ≡ Some b → allocas_before types bs k + allocas_in types b.insts ≤ sum_by (λ (c : Block). allocas_in types c.insts) bs
block_room types [] k b e = absurd (cc)
block_room types (c ∷ bs) zero b e =
    let same : c ≡ b = cc in
    let bytes : allocas_in types c.insts ≡ allocas_in types b.insts = ap (λ (d : Block). allocas_in types d.insts) same in
    let all = sum_by-cons (λ (d : Block). allocas_in types d.insts) c bs in
    omega (arith, bytes, all)
block_room types (c ∷ bs) (suc k) b e =
    let others = block_room types bs k b e in
    let all = sum_by-cons (λ (d : Block). allocas_in types d.insts) c bs in
    omega (arith, others, all)

-- a part of free addresses
free_part : (g : Setting) (m : Memory) (at : Addresses) (p n by k : ℕ) → AreFree g m at p n → by + k ≤ n → AreFree g m at (p + by) k
free_part g m at p n by k free low = record {
  below = let below = free.below in omega arith;
  apart = λ i d e x lives small high same. free.apart i d (by + e) x lives small (omega arith) (omega (arith, same));
  not_null = λ e high same. free.not_null (by + e) (omega arith) (omega (arith, same));
  no_function = λ e f a high known there same. free.no_function (by + e) f a (omega arith) known there (omega (arith, same));
}

module _ (m : Module) (plan : Plan) (contents : List Content) (p : Premises m plan contents) (input : List ℕ) (s : State) (f : Frame) (fs : List Frame) (h : SelFrame) (hs : List SelFrame) (bytes : Bytes)
    (x : IsHere m (setting_of m plan contents) s f fs h hs bytes) where
  abbrev g : Setting
  g = setting_of m plan contents

  abbrev vars : List LocalKind
  vars = vs m plan contents p input s f fs h hs bytes x

  module _ (into : Option (List ℕ)) (ty : Ty) (count : ℕ) (there : slice_get x.call.block.insts f.next ≡ Some (record { result = into; op = op.Alloca ty count })) where
    abbrev i : Inst
    i = record { result = into; op = op.Alloca ty count }

    abbrev size : ℕ
    size = count * (shape_of m.types ty).size

    abbrev before : ℕ
    before = allocas_before m.types x.call.fn.blocks f.block

    abbrev used : ℕ
    used = before + allocas_in m.types (take f.next x.call.block.insts)

    abbrev start : ℕ
    start = h.own.start + used

    abbrev objects : Memory
    objects = with_alloca s.objects size

    abbrev at : Addresses
    at = with_address x.at start

    -- the operation of the alloca
    o : OpsAt m vars before x.call.block.insts f.next i
    o = ops_at m vars before x.call.block.insts f.next i there

    -- there is room for it
    room : spaced size ≤ x.call.left
    room =
        let some = block_room m.types x.call.fn.blocks f.block x.call.block x.call.in_function in
        let part = sum_by-take-le (λ (j : Inst). alloca_bytes m.types j.op) x.call.block.insts (f.next + 1) in
        let all : h.own.size ≡ sum_by (λ (c : Block). allocas_in m.types c.insts) x.call.fn.blocks = x.call.size in
        let whole = x.call.whole in
        let next = o.allocas in
        omega (arith, some, part, all, whole, next)

    -- its bytes are free
    free : AreFree g s.objects x.at start size
    free =
        let r = room in
        let enough = spaced_enough size in
        let z : start + 0 ≡ start = omega arith in
        subst (λ n. AreFree g s.objects x.at n size) z (free_part g s.objects x.at start x.call.left 0 size x.call.free (omega arith))

    -- they are in the own memory of the call
    inside : covers start size h.own ≡ true
    inside =
        let r = room in
        let enough = spaced_enough size in
        let whole = x.call.whole in
        and_from _ _ (le-leb h.own.start start (omega arith)) (le-leb (start + size) (h.own.start + h.own.size) (omega arith))

    -- so it is made there
    allocates : Allocates g s.objects objects x.at at start size
    allocates = allocates_law g (record { own = h.own; objects = f.objects }) (memories fs hs) s.objects x.at bytes x.tied start size free inside x.call.writable

    -- and what was known stays so
    changed : Changed g s.objects objects x.at at start size
    changed = alloca_changed g s.objects objects x.at at start size allocates

    abbrev r : ℕ
    r = result_register vars into

    abbrev after : List (Option ℕ)
    after = with_register h.registers r start

    abbrev v : Value
    v = At (length s.objects) 0

    -- variables hold their values, its place among them
    holds : Holds (length objects) g.taken at (named_locals vars) (with_local into v f.locals) after
    holds =
        let rules = rules_at m plan contents p f.function x.call.fn x.call.in_module f.block x.call.block x.call.in_function f.next i there in
        let low : r < length vars + 8 = result_below m plan contents p input s f fs h hs bytes x i rules.into in
        let many = (ready m plan contents p input s f fs h hs bytes x).room in
        let old = holds_kept g s.objects objects x.at at start size changed (named_locals vars) f.locals h.registers x.call.holds in
        holds_given (length objects) g.taken at vars f.locals h.registers after into v old (into_variable m plan contents p input s f fs h hs bytes x i rules.into)
        (get_set_same h.registers r (Some start) (omega arith) ∙ ap (λ n. Some (Some n)) (sym allocates.word))
        (λ j u other e. get_set_other h.registers r j (Some start) (λ same. other (sym same)) ∙ old.words j u e)
        allocates.known

    -- the call behind it
    call : IsCallBeside m g objects at (record f { next = f.next + 1; locals = with_local into v f.locals; objects = length s.objects ∷ f.objects }) (moved h after 1)
    call =
        let allocas = o.allocas in
        let enough = spaced_enough size in
        let fits = room in
        let whole = x.call.whole in
        let further : start + spaced size ≡ h.own.start + (before + allocas_in m.types (take (f.next + 1) x.call.block.insts)) = omega (arith, allocas) in
        let left : ℕ = x.call.left - spaced size in
        let rest = free_part g s.objects x.at start x.call.left (spaced size) left x.call.free (omega arith) in
        record {
          fn = x.call.fn;
          block = x.call.block;
          in_module = x.call.in_module;
          in_function = x.call.in_function;
          function = x.call.function;
          same_block = x.call.same_block;
          next = ap (λ n. n + 1) x.call.next ∙ sym o.next;
          registers = length_set h.registers r (Some start) ∙ x.call.registers;
          holds = holds;
          size = x.call.size;
          writable = x.call.writable;
          left = left;
          whole = omega (arith, allocas, whole, fits);
          free = subst (λ n. AreFree g objects at n left) further (changed.free (start + spaced size) left rest (λ d e low high same. omega (arith, same, high, enough)));
        }

    -- the alloca is met by its operation
    pub alloca_meets : Meets m g input (length (ops m plan contents p input s f fs h hs bytes x i there)) (now m plan contents p input s f fs h hs bytes x) (turned s (instruction_turn m input s f fs into (op.Alloca ty count)))
    alloca_meets =
        let stands = stands_here m plan contents p input s f fs h hs bytes x i there in
        let r = room in
        let enough = spaced_enough size in
        let whole = x.call.whole in
        let in_frame = x.on_top.inside in
        let top = x.on_top.base in
        let own = x.on_top.start in
        inr (inl (record {
          frames = moved h after 1 ∷ hs;
          bytes = bytes;
          is = straight (module_selected m) plan contents input hs bytes s.printed s.taken (ops m plan contents p input s f fs h hs bytes x i there) h stands.0 after stands.1 refl;
          beside = record {
            at = at;
            calls = (
              call,
              top_past m plan contents p input s f fs h hs bytes x i there after (h.next + 1),
              x.waits,
              calls_kept m g s.objects objects x.at at start size changed fs hs (below_off m g s.objects x.at fs hs start size x.callers (omega arith)) x.callers,
            );
            tied = alloca_law g (record { own = h.own; objects = f.objects }) (memories fs hs) s.objects x.at bytes x.tied start size free inside x.call.writable;
          };
        }))

  -- an alloca
  pub alloca_met : (into : Option (List ℕ)) (ty : Ty) (count : ℕ) → Stands m plan contents p input s f fs h hs bytes x into (op.Alloca ty count) → IsMet m plan contents p input s f fs h hs bytes x into (op.Alloca ty count)
  alloca_met into ty count there = alloca_meets into ty count there
