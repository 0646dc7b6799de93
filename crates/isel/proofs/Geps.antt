-- A pointer that moves along the path of its indices is met.
use Rattle.std.proofs.Common.{◌≡◌, ℕ, ◌+◌, ◌%◌, ◌^◌, ◌<◌, true, List, [], ◌∷◌, ◌++◌, map, length, Option, Some, None, Ok, Err, slice_get, refl, ap, sym, ◌∙◌, subst, arith}
use Rattle.std.specs.Prelude.{◌&&◌}
use Rattle.std.specs.List.{list_all}
use Rattle.std.proofs.lemmas.Bool.{and_parts}
use Rattle.rd_num.specs.declared.width.Width.{Width}
use Rattle.ir_core.specs.declared.ty.Ty.{Ty}
use Rattle.ir_core.specs.declared.operand.Operand.{Operand}
use Rattle.ir_core.specs.declared.operand.Operand.TheVariants.{Int, Bool as Truth, Null as NullWord, Undef, Poison, Local as LocalName, Global, Const}
use Rattle.ir_core.specs.declared.instruction.Arg.{Arg}
use Rattle.ir_core.specs.declared.instruction.Op.TheVariants.{Gep}
use Rattle.ir_core.specs.declared.kind.Kind.{Kind}
use Rattle.ir_core.specs.declared.kind.Kind.TheVariants.{NoValue, Number, Pointer}
use Rattle.ir_core.specs.declared.memory.Value.{Value}
use Rattle.ir_core.specs.declared.memory.Value.TheVariants.{Num, Null, At, Fun}
use Rattle.ir_core.specs.declared.module.Module.{Module}
use Rattle.ir_core.specs.Arithmetic.{modulus}
use Rattle.ir_core.specs.Kinds.{kind_of}
use Rattle.ir_core.specs.Mentions.{of_typed, of_args, of_op}
use Rattle.ir_core.specs.Operands.{value_of, values_of, index_words, bytes_to, global_number}
use Rattle.ir_core.specs.Pointers.{moved_pointer}
use Rattle.ir_core.specs.State.{Frame, State, turned}
use Rattle.ir_core.specs.Step.{gives, result_of}
use Rattle.ir_core.specs.Stops.{Answer, and_then, found_or}
use Rattle.ir_core.specs.Typing.{is_index, operand_fits, op_fits, known_arg, leads_from}
use Rattle.ir_core.specs.Valid.{LocalKind, env_of, named_locals}
use Rattle.ir_sound.specs.WellTyped.{Each, IsOfKind, present}
use Rattle.ir_sound.proofs.Operands.{value_gives}
use Rattle.ir_sound.proofs.RowLaws.{Each_parts}
use Rattle.ir_sound.proofs.SameLaws.{has_kind_is, not_true}
use Rattle.ir_sound.specs.WellTyped.{Properly}
use Rattle.ir_context.specs.declared.origin.Origin.{Origin}
use Rattle.ir_context.specs.declared.path.Path.{Path}
use Rattle.ir_context.specs.declared.path.Stride.{Stride}
use Rattle.ir_context.specs.Laws.{MovesAlong}
use Rattle.ir_context.specs.Origins.{known, register_of, place_in, place_of, origin_of, arg_origin}
use Rattle.ir_context.specs.Reads.{origin_value, stride_values, stride_bytes, moved_along}
use Rattle.ir_context.specs.Registers.{number_of}
use Rattle.ir_context.proofs.OperandLaws.{operand_read, gep_moves}
use Rattle.low_core.specs.declared.sel.SelOp.{SelOp}
use Rattle.low_core.specs.Flat.{Bytes, Flat}
use Rattle.low_core.specs.Plan.{Plan, Content}
use Rattle.low_core.specs.Contents.{word_of}
use Rattle.low_core.specs.Bridge.{Setting, IsKnown}
use Rattle.low_core.specs.SelState.{SelFrame, with_register}
use Rattle.low_core.specs.Weights.{lean_own}
use Rattle.flat_memory.specs.Accesses.{IsPointer}
use Rattle.flat_memory.proofs.Compare.{moved_law}
use Rattle.flat_memory.proofs.Lists.{get_set_same, get_set_other, length_set}
use Rattle.isel_rows.specs.Variables.{variables_of, operand_register, bytes_register, index_register, width_of, width_in}
use Rattle.isel_rows.specs.Brought.{operand_brought}
use Rattle.isel_rows.specs.Rows.{moved_ops, path_taken, result_register, ops_of}
use Rattle.isel.proofs.Beside.{memories, setting_of, Meets}
use Rattle.isel.proofs.Choices.{pointer_small, pointer_has}
use Rattle.isel.proofs.Here.{IsHere, done, memory, now, ready, lands_set, result_below}
use Rattle.isel.proofs.Holding.{variable_of}
use Rattle.isel.proofs.Mentioned.{IsFine, fields_small, all_small}
use Rattle.isel.proofs.Moving.{AreRead, moved_gives}
use Rattle.isel.proofs.Operands.{operand_brings, ready_after, brought_apart}
use Rattle.isel.proofs.Operations.{has, gives_or_left}
use Rattle.isel.proofs.Paths.{IsIndex, AreIndices, path_read}
use Rattle.isel.proofs.Premises.{Premises}
use Rattle.isel.proofs.Results.{Stands, IsMet, rules, fine}
use Rattle.isel.proofs.Straight.{gave, passed, passed_both}
use Rattle.isel.proofs.Tame.{IsTame, then_tame, value_tame, values_tame, words_tame, bytes_tame, moved_tame}

-- an index has a number's kind
index_kind : (kind : Kind) → is_index kind ≡ true → (w : Width) × (kind ≡ Number w)
index_kind (Number w) e = (w, refl)
index_kind NoValue e = not_true e
index_kind Pointer e = not_true e

-- a pointer that can arise is a value that can
pointer_known : (n : ℕ) (taken : List _) (v : Value) → IsPointer n taken v → IsKnown n taken v
pointer_known n taken (Num w k) is = absurd is
pointer_known n taken Null is = tt
pointer_known n taken (At o d) is = is
pointer_known n taken (Fun f) is = is

-- one value
value_same : (u v : Value) → let a : Answer Value = Ok u in a ≡ Ok v → u ≡ v
value_same u v e = cc

module _ (m : Module) (plan : Plan) (contents : List Content) (p : Premises m plan contents) (input : List ℕ) (s : State) (f : Frame) (fs : List Frame) (h : SelFrame) (hs : List SelFrame) (bytes : Bytes)
    (x : IsHere m (setting_of m plan contents) s f fs h hs bytes) where
  abbrev g : Setting
  g = setting_of m plan contents

  abbrev V : List LocalKind
  V = variables_of x.call.fn

  abbrev values : List (Option Value)
  values = x.call.holds.values

  abbrev flat : Flat
  flat = memory m plan contents p input s f fs h hs bytes x

  -- what is known before the run is no variable
  known_index : (a : Answer Value) → IsIndex V values (known a)
  known_index (Ok v) = tt
  known_index (Err stop) = tt

  in_index : (n by : ℕ) (ss : List Stride) → IsIndex V values (place_in n by ss)
  in_index n by [] = tt
  in_index n by (s ∷ ss) = tt

  place_index : (n : Option ℕ) (path : Option Path) → IsIndex V values (place_of n path)
  place_index (Some n) (Some path) = in_index n path.constant path.strides
  place_index (Some n) None = tt
  place_index None path = tt

  -- a variable that is an index has numbers of its width
  local_index : (w : Width) (name : List ℕ) → operand_fits m (env_of x.call.fn) (Number w) (LocalName name) ≡ true → (o : Option ℕ) → number_of (named_locals V) name ≡ o → IsIndex V values (register_of o)
  local_index w name fits None e = tt
  local_index w name fits (Some k) e = λ u n is.
      let v = variable_of x.call.fn name (Number w) (has_kind_is (env_of x.call.fn name) (Number w) fits) in
      let read = operand_read m (env_of x.call.fn) (named_locals V) (Number w) (LocalName name) (fields_small lean_own m p.shaped) (tt, tt) fits values f.locals x.call.holds.stand in
      let value : value_of m f.locals (Number w) (LocalName name) ≡ Ok (Num u n) = sym read ∙ ap (λ q. origin_value values (register_of q)) e ∙ ap (found_or _) is in
      let of_kind = subst (Properly (IsOfKind (present m s.objects) (Number w))) value
      (value_gives m (present m s.objects) (env_of x.call.fn) f.locals x.typed.covered x.typed.locals (Number w) (LocalName name) fits) in
      let same : Some v.number ≡ Some k = sym v.is ∙ e in
      let number : v.number ≡ k = cc in (
        ap (λ j. width_in (slice_get V j)) (sym number) ∙ ap width_in v.there ∙ ap width_of v.of_kind ∙ sym of_kind.0,
        subst (λ t. n < modulus t) (sym of_kind.0) of_kind.1,
      )

  index_is : (w : Width) (a : Operand) → operand_fits m (env_of x.call.fn) (Number w) a ≡ true → IsIndex V values (origin_of m (named_locals V) (Number w) a)
  index_is w (Int n) fits = tt
  index_is w (Truth b) fits = tt
  index_is w NullWord fits = tt
  index_is w Undef fits = tt
  index_is w Poison fits = tt
  index_is w (LocalName name) fits = local_index w name fits (number_of (named_locals V) name) refl
  index_is w (Global name) fits = known_index _
  index_is w (Const place) fits = place_index (global_number m place.base) _

  indices_are : (args : List Arg) → list_all (λ (a : Arg). is_index (kind_of a.ty) && operand_fits m (env_of x.call.fn) (kind_of a.ty) a.value) args ≡ true → AreIndices V values (map (arg_origin m (named_locals V)) args)
  indices_are [] fits = tt
  indices_are (a ∷ as') fits =
      let E = env_of x.call.fn in
      let q = and_parts (is_index (kind_of a.ty) && operand_fits m E (kind_of a.ty) a.value) (list_all (λ (b : Arg). is_index (kind_of b.ty) && operand_fits m E (kind_of b.ty) b.value) as') fits in
      let r = and_parts (is_index (kind_of a.ty)) (operand_fits m E (kind_of a.ty) a.value) q.0 in
      let k = index_kind (kind_of a.ty) r.0 in (
        subst (λ j. IsIndex V values (origin_of m (named_locals V) j a.value)) (sym k.1) (index_is k.0 a.value (subst (λ j. operand_fits m E j a.value ≡ true) k.1 r.1)),
        indices_are as' q.1,
      )

  module _ (into : Option (List ℕ)) (ty : Ty) (a : Operand) (indices : List Arg) (there : Stands m plan contents p input s f fs h hs bytes x into (Gep ty a indices)) where
    abbrev base : Origin
    base = origin_of m (named_locals V) Pointer a

    abbrev from : ℕ
    from = (operand_brought m V 0 Pointer a).register

    abbrev r : ℕ
    r = result_register V into

    abbrev ops : List SelOp
    ops = ops_of m V (done m plan contents p input s f fs h hs bytes x) into (Gep ty a indices)

    fits : op_fits m (env_of x.call.fn) (Gep ty a indices) ≡ true
    fits = (rules m plan contents p input s f fs h hs bytes x into (Gep ty a indices) there).fits

    mentioned : Each (IsFine m) (of_typed ty a ++ of_args indices)
    mentioned = fine m plan contents p input s f fs h hs bytes x into (Gep ty a indices) there

    parts : (operand_fits m (env_of x.call.fn) Pointer a ≡ true) × (list_all (λ (b : Arg). is_index (kind_of b.ty) && operand_fits m (env_of x.call.fn) (kind_of b.ty) b.value) indices ≡ true)
    parts =
        let test : Arg → _ = λ (b : Arg). is_index (kind_of b.ty) && operand_fits m (env_of x.call.fn) (kind_of b.ty) b.value in
        let q = and_parts (operand_fits m (env_of x.call.fn) Pointer a) (list_all test indices && leads_from m.types ty (map known_arg indices)) fits in
        (q.0, (and_parts (list_all test indices) (leads_from m.types ty (map known_arg indices)) q.1).0)

    along : MovesAlong m (named_locals V) ty a indices
    along = gep_moves m (env_of x.call.fn) (named_locals V) ty a indices (fields_small lean_own m p.shaped) (all_small m (of_op (Gep ty a indices)) mentioned) fits

    -- where the pointer goes on
    abbrev goes : Value → Answer Value
    goes v = and_then (values_of m f.locals indices) (λ is. and_then (index_words is) (λ ns. and_then (bytes_to m ty ns) (λ by. moved_pointer by v)))

    tame : IsTame (result_of m s.objects f.locals (Gep ty a indices))
    tame =
        then_tame (value_of m f.locals Pointer a) _ (value_tame m f.locals Pointer a)
        (λ v. then_tame (values_of m f.locals indices) _ (values_tame m f.locals indices)
        (λ vs. then_tame (index_words vs) _ (words_tame vs)
        (λ ns. then_tame (bytes_to m ty ns) _ (bytes_tame m ty ns) (λ by. moved_tame by v))))

    -- with its value the operations give the word of where it goes
    lands : (w : Value) → result_of m s.objects f.locals (Gep ty a indices) ≡ Ok w → Meets m g input (length ops) (now m plan contents p input s f fs h hs bytes x) (turned s (gives s f fs into w))
    lands w e =
        let v = gave (value_of m f.locals Pointer a) goes w e in
        let first = has m plan contents p input s f fs h hs bytes x Pointer a v.value parts.0 (Each_parts (IsFine m) (of_typed ty a) (of_args indices) mentioned).0.1 v.first in
        let on : moved_along values base along.path ≡ Ok w = along.moves s.objects values f.locals x.call.holds.stand ∙ e in
        let b = gave (origin_value values base) (λ u. and_then (stride_values values along.path.strides) (λ us. and_then (stride_bytes along.path.strides us) (λ by. moved_pointer (along.path.constant + by) u))) w on in
        let us = gave (stride_values values along.path.strides) (λ us. and_then (stride_bytes along.path.strides us) (λ by. moved_pointer (along.path.constant + by) b.value)) w b.then in
        let by = gave (stride_bytes along.path.strides us.value) (λ by. moved_pointer (along.path.constant + by) b.value) w us.then in
        let same : b.value ≡ v.value = value_same b.value v.value (sym b.first ∙ first.is) in
        let moved : moved_pointer (along.path.constant + by.value) v.value ≡ Ok w = ap (moved_pointer (along.path.constant + by.value)) (sym same) ∙ by.then in
        let pointer = pointer_has m plan contents p input s f fs h hs bytes x Pointer a v.value refl first in
        let law = moved_law g (memories (f ∷ fs) (h ∷ hs)) s.objects x.at bytes p.setting x.tied (along.path.constant + by.value) v.value w pointer moved in
        let prepared = ready m plan contents p input s f fs h hs bytes x in
        let brings = operand_brings plan h.own flat x.at V values h.registers 0 base v.value (omega arith) prepared first.planned first.is in
        let prepared2 = ready_after plan h.own flat x.at V values h.registers (operand_brought m V 0 Pointer a).ops (operand_register V 0) (omega arith) prepared brings.left in
        let apart = brought_apart plan h.own flat x.at V values h.registers (operand_register V 0) in
        let read : AreRead V values along.path.strides = path_read V values m.types ty (map (arg_origin m (named_locals V)) indices) along.path (indices_are indices parts.1) along.is in
        let word : ℕ = (word_of x.at v.value + (along.path.constant + by.value)) % 2 ^ 64 in
        let y = moved_gives plan h.own flat x.at V values brings.left.after r along.path from (word_of x.at v.value) us.value by.value prepared2 brings.holds
        (pointer_small m plan contents p input s f fs h hs bytes x v.value pointer) (apart (bytes_register V) base v.value prepared first.is (omega arith) (λ n. omega arith))
        (apart (index_register V) base v.value prepared first.is (omega arith) (λ n. omega arith)) read us.first by.first in
        let low = result_below m plan contents p input s f fs h hs bytes x (record { result = into; op = Gep ty a indices }) (rules m plan contents p input s f fs h hs bytes x into (Gep ty a indices) there).into in
        let room = y.ready.room in
        let path : ops ≡ (operand_brought m V 0 Pointer a).ops ++ moved_ops V r along.path from = ap (λ o. (operand_brought m V 0 Pointer a).ops ++ moved_ops V r (path_taken o) from) along.is in
        lands_set m plan contents p input s f fs h hs bytes x (record { result = into; op = Gep ty a indices }) there w (with_register y.before r word) refl
        (ap (passed plan h.own flat h.registers) path
        ∙ passed_both plan h.own flat h.registers brings.left.after (with_register y.before r word) (operand_brought m V 0 Pointer a).ops (moved_ops V r along.path from) brings.left.runs y.runs)
        (length_set y.before r (Some word) ∙ y.count ∙ brings.left.count)
        (get_set_same y.before r (Some word) (omega (arith, low, room)) ∙ ap (λ n. Some (Some n)) (sym law.word))
        (λ j u other is. get_set_other y.before r j (Some word) (λ n. other (sym n)) ∙ y.ready.have j u is) (pointer_known (length s.objects) g.taken w law.pointer)

    -- a pointer that moves
    pub gep_met : IsMet m plan contents p input s f fs h hs bytes x into (Gep ty a indices)
    gep_met = gives_or_left m plan contents p input s f fs h hs bytes x into (length ops) (result_of m s.objects f.locals (Gep ty a indices)) tame lands
