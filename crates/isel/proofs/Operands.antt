-- Operands and arguments in a row: what was brought for one stays while the next are brought.
use Rattle.std.proofs.Common.{◌≡◌, ◌≢◌, ℕ, ◌+◌, ◌<◌, ◌≤◌, List, [], ◌∷◌, ◌++◌, length, map, Option, Some, None, Ok, slice_get, refl, ap, ◌∙◌, subst, arith}
use Rattle.std.specs.Prelude.{option_and_then}
use Rattle.std.proofs.lemmas.Option.{slice_get_within}
use Rattle.ir_core.specs.declared.instruction.Arg.{Arg}
use Rattle.ir_core.specs.declared.memory.Value.{Value}
use Rattle.ir_core.specs.declared.memory.Reason.TheVariants.{Unset as UnsetReason}
use Rattle.ir_core.specs.declared.module.Module.{Module}
use Rattle.ir_core.specs.Stops.{Left, Answer, and_then, found_or}
use Rattle.ir_core.specs.Valid.{LocalKind, named_locals}
use Rattle.ir_context.specs.declared.origin.Origin.{Origin}
use Rattle.ir_context.specs.declared.origin.Origin.TheVariants.{Known, Register, Unset, Malformed}
use Rattle.ir_context.specs.Origins.{arg_origin}
use Rattle.ir_context.specs.Reads.{origin_value, origin_values}
use Rattle.ir_context.specs.Registers.{register}
use Rattle.low_core.specs.declared.sel.SelOp.{SelOp}
use Rattle.low_core.specs.Flat.{Span, Flat}
use Rattle.low_core.specs.Plan.{Plan}
use Rattle.low_core.specs.Contents.{Addresses, word_of}
use Rattle.low_core.specs.SelState.{words_in}
use Rattle.isel_rows.specs.Variables.{operand_register, bytes_register, argument_register}
use Rattle.isel_rows.specs.Brought.{brought, args_brought}
use Rattle.isel.proofs.Straight.{gave, passed, passed_both}
use Rattle.isel.proofs.Words.{HasWord, word_read, IsPlanned, HaveWords, Leaves, Brings, origin_brings}

-- the registers of variables hold the words of their values, and there are those that words pass through
pub record IsReady (at : Addresses) (vs : List LocalKind) (values : List (Option Value)) (registers : List (Option ℕ)) : Type 0 where
  pub room : length vs + 8 ≤ length registers
  pub few : length values ≤ length vs
  pub have : HaveWords at values registers

-- a variable with a value is one of them
pub below_few : (values : List (Option Value)) (k : ℕ) (v : Value) → register values k ≡ Some v → k < length values
below_few values k v e = of_get (slice_get values k) refl e
  where
    of_get : (o : Option (Option Value)) → slice_get values k ≡ o → option_and_then (λ (w : Option Value). w) o ≡ Some v → k < length values
    of_get (Some w) is e = slice_get_within values k w is
    of_get None is e = absurd (cc)

-- registers hold words, each its own
abbrev pub HaveAll : List (Option ℕ) → List ℕ → List ℕ → Type 0
HaveAll registers [] [] = Unit {0}
HaveAll registers [] (w ∷ ws) = ⊥
HaveAll registers (r ∷ rs) [] = ⊥
HaveAll registers (r ∷ rs) (w ∷ ws) = HasWord registers r w × HaveAll registers rs ws

-- they can be read
pub all_read : (registers : List (Option ℕ)) (rs ws : List ℕ) → HaveAll registers rs ws → words_in registers rs ≡ Ok ws
all_read registers [] [] h = refl
all_read registers [] (w ∷ ws) h = absurd h
all_read registers (r ∷ rs) [] h = absurd h
all_read registers (r ∷ rs) (w ∷ ws) h =
    ap (λ a. and_then a (λ n. and_then (words_in registers rs) (λ ns. Ok (n ∷ ns)))) (word_read registers r w h.0)
    ∙ ap (λ a. and_then a (λ ns. Ok (w ∷ ns))) (all_read registers rs ws h.1)

module _ (plan : Plan) (own : Span) (flat : Flat) (at : Addresses) (vs : List LocalKind) (values : List (Option Value)) where
  -- what is brought into other registers leaves the variables as they are
  pub ready_after : (registers : List (Option ℕ)) (ops : List SelOp) (r : ℕ) → length vs ≤ r → IsReady at vs values registers → (x : Leaves plan own flat registers ops r (bytes_register vs)) → IsReady at vs values x.after
  ready_after registers ops r high ready x =
      let room = ready.room in
      let few = ready.few in
      let count = x.count in
      record {
        room = omega arith;
        few = ready.few;
        have = λ k v e.
            let low = below_few values k v e in
            x.kept k (λ h. omega arith) (λ h. omega arith) ∙ ready.have k v e;
      }

  -- what was brought stands in a register of its own, or in a variable's
  pub brought_apart : (registers : List (Option ℕ)) (q r : ℕ) (o : Origin) (v : Value) → IsReady at vs values registers → origin_value values o ≡ Ok v → length vs ≤ r → q ≢ r → (brought vs q o).register ≢ r
  brought_apart registers q r (Known u) v ready is high apart = apart
  brought_apart registers q r (Register k) v ready is high apart = λ e. of_value (register values k) refl is e
    where
      of_value : (x : Option Value) → register values k ≡ x → found_or (Left UnsetReason) x ≡ Ok v → k ≡ r → ⊥
      of_value (Some u) there e same = let low = below_few values k u there in let few = ready.few in omega arith
      of_value None there e same = absurd (cc)
  brought_apart registers q r Unset v ready is high apart = absurd (cc)
  brought_apart registers q r Malformed v ready is high apart = absurd (cc)

  -- an operand
  pub operand_brings : (registers : List (Option ℕ)) (k : ℕ) (o : Origin) (v : Value) → k < 3 → IsReady at vs values registers → IsPlanned plan at o → origin_value values o ≡ Ok v →
      Brings plan own flat registers (brought vs (operand_register vs k) o).ops (operand_register vs k) (bytes_register vs) (brought vs (operand_register vs k) o).register (word_of at v)
  operand_brings registers k o v few ready planned is =
      let room = ready.room in
      origin_brings plan own flat at vs registers values (operand_register vs k) o v (omega arith) (omega arith) (λ e. omega arith) ready.have planned is

  -- two operands, the first as it was brought
  pub record BringsTwo (registers : List (Option ℕ)) (o p : Origin) (u v : Value) : Type 0 where
    pub after : List (Option ℕ)
    pub runs : passed plan own flat registers ((brought vs (operand_register vs 0) o).ops ++ (brought vs (operand_register vs 1) p).ops) ≡ Ok after
    pub first : HasWord after (brought vs (operand_register vs 0) o).register (word_of at u)
    pub second : HasWord after (brought vs (operand_register vs 1) p).register (word_of at v)
    pub ready : IsReady at vs values after
    pub count : length after ≡ length registers

  pub two_bring : (registers : List (Option ℕ)) (o p : Origin) (u v : Value) → IsReady at vs values registers → IsPlanned plan at o → IsPlanned plan at p → origin_value values o ≡ Ok u → origin_value values p ≡ Ok v → BringsTwo registers o p u v
  two_bring registers o p u v ready first second is_first is_second =
      let x = operand_brings registers 0 o u (omega arith) ready first is_first in
      let ready1 = ready_after registers _ (operand_register vs 0) (omega arith) ready x.left in
      let y = operand_brings x.left.after 1 p v (omega arith) ready1 second is_second in
      let s : ℕ = (brought vs (operand_register vs 0) o).register in
      record {
        after = y.left.after;
        runs = passed_both plan own flat registers x.left.after y.left.after (brought vs (operand_register vs 0) o).ops (brought vs (operand_register vs 1) p).ops x.left.runs y.left.runs;
        first =
            y.left.kept s (brought_apart registers (operand_register vs 0) (operand_register vs 1) o u ready is_first (omega arith) (λ e. omega arith))
            (brought_apart registers (operand_register vs 0) (bytes_register vs) o u ready is_first (omega arith) (λ e. omega arith)) ∙ x.holds;
        second = y.holds;
        ready = ready_after x.left.after _ (operand_register vs 1) (omega arith) ready1 y.left;
        count = y.left.count ∙ x.left.count;
      }

  -- three operands
  pub record BringsThree (registers : List (Option ℕ)) (o p q : Origin) (u v w : Value) : Type 0 where
    pub after : List (Option ℕ)
    pub runs : passed plan own flat registers (((brought vs (operand_register vs 0) o).ops ++ (brought vs (operand_register vs 1) p).ops) ++ (brought vs (operand_register vs 2) q).ops) ≡ Ok after
    pub first : HasWord after (brought vs (operand_register vs 0) o).register (word_of at u)
    pub second : HasWord after (brought vs (operand_register vs 1) p).register (word_of at v)
    pub third : HasWord after (brought vs (operand_register vs 2) q).register (word_of at w)
    pub ready : IsReady at vs values after
    pub count : length after ≡ length registers

  pub three_bring : (registers : List (Option ℕ)) (o p q : Origin) (u v w : Value) → IsReady at vs values registers → IsPlanned plan at o → IsPlanned plan at p → IsPlanned plan at q → origin_value values o ≡ Ok u → origin_value values p ≡ Ok v → origin_value values q ≡ Ok w → BringsThree registers o p q u v w
  three_bring registers o p q u v w ready first second third is_first is_second is_third =
      let x = two_bring registers o p u v ready first second is_first is_second in
      let y = operand_brings x.after 2 q w (omega arith) x.ready third is_third in
      let s : ℕ = (brought vs (operand_register vs 0) o).register in
      let t : ℕ = (brought vs (operand_register vs 1) p).register in
      record {
        after = y.left.after;
        runs = passed_both plan own flat registers x.after y.left.after ((brought vs (operand_register vs 0) o).ops ++ (brought vs (operand_register vs 1) p).ops) (brought vs (operand_register vs 2) q).ops x.runs y.left.runs;
        first =
            y.left.kept s (brought_apart registers (operand_register vs 0) (operand_register vs 2) o u ready is_first (omega arith) (λ e. omega arith))
            (brought_apart registers (operand_register vs 0) (bytes_register vs) o u ready is_first (omega arith) (λ e. omega arith)) ∙ x.first;
        second =
            y.left.kept t (brought_apart registers (operand_register vs 1) (operand_register vs 2) p v ready is_second (omega arith) (λ e. omega arith))
            (brought_apart registers (operand_register vs 1) (bytes_register vs) p v ready is_second (omega arith) (λ e. omega arith)) ∙ x.second;
        third = y.holds;
        ready = ready_after x.after _ (operand_register vs 2) (omega arith) x.ready y.left;
        count = y.left.count ∙ x.count;
      }

  -- arguments from the k-th on: nothing that stands in front of their registers is changed
  pub record BringsAll (registers : List (Option ℕ)) (k : ℕ) (ops : List SelOp) (sources : List ℕ) (words : List ℕ) : Type 0 where
    pub after : List (Option ℕ)
    pub runs : passed plan own flat registers ops ≡ Ok after
    pub hold : HaveAll after sources words
    pub kept : (j : ℕ) → j < argument_register vs k → j ≢ bytes_register vs → slice_get after j ≡ slice_get registers j
    pub count : length after ≡ length registers

  -- what is known stands where the plan has it
  abbrev pub ArePlanned : List Origin → Type 0
  ArePlanned [] = Unit {0}
  ArePlanned (o ∷ os) = IsPlanned plan at o × ArePlanned os

  pub all_bring : (m : Module) (args : List Arg) (registers : List (Option ℕ)) (k : ℕ) (us : List Value) → IsReady at vs values registers → argument_register vs k + length args ≤ length registers →
      ArePlanned (map (arg_origin m (named_locals vs)) args) → origin_values values (map (arg_origin m (named_locals vs)) args) ≡ Ok us →
      BringsAll registers k (args_brought m vs k args).ops (args_brought m vs k args).registers (map (word_of at) us)
  all_bring m [] registers k us ready room planned is =
      let none : [] ≡ us = cc in
      subst (λ l. BringsAll registers k [] [] (map (word_of at) l)) none (record { after = registers; runs = refl; hold = tt; kept = λ j low far. refl; count = refl })
  all_bring m (a ∷ as') registers k us ready room planned is =
      let o : Origin = arg_origin m (named_locals vs) a in
      let os : List Origin = map (arg_origin m (named_locals vs)) as' in
      let p = gave (origin_value values o) (λ v. and_then (origin_values values os) (λ vs. Ok (v ∷ vs))) us is in
      let q = gave (origin_values values os) (λ vs. answer_values (p.value ∷ vs)) us p.then in
      let x = origin_brings plan own flat at vs registers values (argument_register vs k) o p.value (omega arith) (omega arith) (λ e. omega arith) ready.have planned.0 p.first in
      let ready1 = ready_after registers _ (argument_register vs k) (omega arith) ready x.left in
      let count = x.left.count in
      let y = all_bring m as' x.left.after (k + 1) q.value ready1 (omega arith) planned.1 q.first in
      let s : ℕ = (brought vs (argument_register vs k) o).register in
      let same : p.value ∷ q.value ≡ us = cc in
      let low : s < argument_register vs (k + 1) = brought_below registers k o p.value ready p.first in
      let far : s ≢ bytes_register vs = brought_apart registers (argument_register vs k) (bytes_register vs) o p.value ready p.first (omega arith) (λ e. omega arith) in
      subst (λ l. BringsAll registers k (args_brought m vs k (a ∷ as')).ops (args_brought m vs k (a ∷ as')).registers (map (word_of at) l)) same (record {
        after = y.after;
        runs = passed_both plan own flat registers x.left.after y.after (brought vs (argument_register vs k) o).ops (args_brought m vs (k + 1) as').ops x.left.runs y.runs;
        hold = (y.kept s low far ∙ x.holds, y.hold);
        kept = λ j before bytes. y.kept j (omega arith) bytes ∙ x.left.kept j (λ e. omega arith) bytes;
        count = y.count ∙ x.left.count;
      })
    where
      answer_values : List Value → Answer (List Value)
      answer_values l = Ok l

      brought_below : (registers : List (Option ℕ)) (k : ℕ) (o : Origin) (v : Value) → IsReady at vs values registers → origin_value values o ≡ Ok v → (brought vs (argument_register vs k) o).register < argument_register vs (k + 1)
      brought_below registers k (Known u) v ready is = omega arith
      brought_below registers k (Register j) v ready is = of_value (register values j) refl is
        where
          of_value : (x : Option Value) → register values j ≡ x → found_or (Left UnsetReason) x ≡ Ok v → j < argument_register vs (k + 1)
          of_value (Some u) there e = let low = below_few values j u there in let few = ready.few in omega arith
          of_value None there e = absurd (cc)
      brought_below registers k Unset v ready is = absurd (cc)
      brought_below registers k Malformed v ready is = absurd (cc)
