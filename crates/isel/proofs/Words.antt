-- What registers hold once the words of operands were brought into them.
use Rattle.std.proofs.Common.{◌≡◌, ◌≢◌, ℕ, ◌+◌, ◌%◌, ◌^◌, ◌<◌, List, [], ◌∷◌, length, Bool, true, false, Option, Some, None, Ok, slice_get, refl, ap, sym, ◌∙◌, subst, arith}
use Rattle.std.specs.Prelude.{nat_eq, if◌then◌else◌}
use Rattle.std.proofs.lemmas.Bool.{eqb-true}
use Rattle.rd_num.specs.declared.width.Width.{Width}
use Rattle.rd_num.specs.declared.width.Width.TheVariants.{W64}
use Rattle.ir_core.specs.declared.memory.Value.{Value}
use Rattle.ir_core.specs.declared.memory.Value.TheVariants.{Num, Null, At, Fun}
use Rattle.ir_core.specs.declared.instruction.BinOp.TheVariants.{Add as BinAdd}
use Rattle.ir_core.specs.declared.memory.Reason.TheVariants.{Unset as UnsetReason}
use Rattle.ir_core.specs.Arithmetic.{binary}
use Rattle.ir_core.specs.Stops.{Left, Answer, and_then, found_or, Malformed}
use Rattle.ir_core.specs.Valid.{LocalKind}
use Rattle.ir_context.specs.declared.origin.Origin.{Origin}
use Rattle.ir_context.specs.declared.origin.Origin.TheVariants.{Known, Register, Unset, Malformed as NoOrigin}
use Rattle.ir_context.specs.Reads.{origin_value}
use Rattle.ir_context.specs.Registers.{register}
use Rattle.low_core.specs.declared.sel.SelAlu.TheVariants.{Add}
use Rattle.low_core.specs.declared.sel.SelOp.{SelOp}
use Rattle.low_core.specs.declared.sel.SelOp.TheVariants.{Set, Alu, GlobalAt, FunctionAt}
use Rattle.low_core.specs.Flat.{Span, Flat}
use Rattle.low_core.specs.Plan.{Plan}
use Rattle.low_core.specs.Contents.{Addresses, word_of}
use Rattle.low_core.specs.SelState.{word_in, with_register, held}
use Rattle.low_core.specs.SelParts.{assigns_of}
use Rattle.low_core.specs.SelStep.{word_of_op, with_result, of_two, low_bits}
use Rattle.flat_memory.proofs.Lists.{get_set_same, get_set_other, length_set}
use Rattle.isel_rows.specs.Variables.{bytes_register}
use Rattle.isel_rows.specs.Brought.{place_ops, value_ops, brought}
use Rattle.isel.proofs.Straight.{reader, passed}

-- a register holds a word
abbrev pub HasWord : List (Option ℕ) → ℕ → ℕ → Type 0
HasWord registers r word = slice_get registers r ≡ Some (Some word)

-- it can be read
pub word_read : (registers : List (Option ℕ)) (r word : ℕ) → HasWord registers r word → word_in registers r ≡ Ok word
word_read registers r word h = ap (λ o. found_or (Left UnsetReason) (held o)) h

-- two of them
pub two_read : (registers : List (Option ℕ)) (w : Width) (s t a b : ℕ) (f : ℕ → ℕ → Answer ℕ) → HasWord registers s a → HasWord registers t b → of_two registers w s t f ≡ f (low_bits w a) (low_bits w b)
two_read registers w s t a b f first second =
    ap (λ x. and_then x (λ a. and_then (word_in registers t) (λ b. f (low_bits w a) (low_bits w b)))) (word_read registers s a first)
    ∙ ap (λ x. and_then x (λ b. f (low_bits w a) (low_bits w b))) (word_read registers t b second)

-- an operation that gives a word, in front of others
pub pass : (plan : Plan) (own : Span) (flat : Flat) (registers : List (Option ℕ)) (op : SelOp) (ops : List SelOp) (n : ℕ) (after : List (Option ℕ)) → word_of_op plan (reader own registers) flat op ≡ Ok n → passed plan own flat (with_result (assigns_of op) n registers) ops ≡ Ok after → passed plan own flat registers (op ∷ ops) ≡ Ok after
pass plan own flat registers op ops n after first others = ap (λ a. and_then a (λ i. passed plan own flat (with_result (assigns_of op) i registers) ops)) first ∙ others

-- a global or a function stands where the plan has it
abbrev pub HasPlace : Plan → Addresses → Value → Type 0
HasPlace plan at (Num w n) = Unit {0}
HasPlace plan at Null = Unit {0}
HasPlace plan at (At g by) = (a : ℕ) × ((slice_get plan.globals g ≡ Some a) × (word_of at (At g 0) ≡ a))
HasPlace plan at (Fun f) = (a : ℕ) × ((slice_get plan.functions f ≡ Some a) × (word_of at (Fun f) ≡ a))

-- what is known does
abbrev pub IsPlanned : Plan → Addresses → Origin → Type 0
IsPlanned plan at (Known v) = HasPlace plan at v
IsPlanned plan at other = Unit {0}

-- registers of variables hold the words of their values
abbrev pub HaveWords : Addresses → List (Option Value) → List (Option ℕ) → Type 0
HaveWords at values registers = (k : ℕ) (v : Value) → register values k ≡ Some v → HasWord registers k (word_of at v)

-- registers after operations that change two of them at most
pub record Leaves (plan : Plan) (own : Span) (flat : Flat) (registers : List (Option ℕ)) (ops : List SelOp) (r bytes : ℕ) : Type 0 where
  pub after : List (Option ℕ)
  pub runs : passed plan own flat registers ops ≡ Ok after
  pub kept : (j : ℕ) → j ≢ r → j ≢ bytes → slice_get after j ≡ slice_get registers j
  pub count : length after ≡ length registers

-- and one of them holds a word then
pub record Brings (plan : Plan) (own : Span) (flat : Flat) (registers : List (Option ℕ)) (ops : List SelOp) (r bytes source word : ℕ) : Type 0 where
  pub left : Leaves plan own flat registers ops r bytes
  pub holds : HasWord left.after source word

module _ (plan : Plan) (own : Span) (flat : Flat) (at : Addresses) (vs : List LocalKind) where
  -- one operation that gives a word
  one_brings : (registers : List (Option ℕ)) (op : SelOp) (r word : ℕ) → r < length registers → passed plan own flat registers (op ∷ []) ≡ Ok (with_register registers r word) → Brings plan own flat registers (op ∷ []) r (bytes_register vs) r word
  one_brings registers op r word within runs = record {
    left = record {
      after = with_register registers r word;
      runs = runs;
      kept = λ j other bytes. get_set_other registers r j (Some word) (λ e. other (sym e));
      count = length_set registers r (Some word);
    };
    holds = get_set_same registers r (Some word) within;
  }

  -- the word of a place, behind its start
  place_word : (g by a : ℕ) → word_of at (At g 0) ≡ a → word_of at (At g by) ≡ (a % 2 ^ 64 + by % 2 ^ 64) % 2 ^ 64
  place_word g by a is = omega (arith, is)

  -- a place in a global
  place_brings : (registers : List (Option ℕ)) (r g by : ℕ) → r < length registers → bytes_register vs < length registers → r ≢ bytes_register vs → HasPlace plan at (At g by) → Brings plan own flat registers (place_ops vs r g by) r (bytes_register vs) r (word_of at (At g by))
  place_brings registers r g by within bytes_within apart place = of_test (nat_eq by 0) refl
    where
      a : ℕ
      a = place.0

      bytes : ℕ
      bytes = bytes_register vs

      start : word_of_op plan (reader own registers) flat (GlobalAt r g) ≡ Ok a
      start = ap (found_or Malformed) place.1.0

      first : List (Option ℕ)
      first = with_register registers r a

      second : List (Option ℕ)
      second = with_register first bytes by

      of_test : (b : Bool) → nat_eq by 0 ≡ b → Brings plan own flat registers (if b then GlobalAt r g ∷ [] else GlobalAt r g ∷ Set bytes by ∷ Alu Add W64 r r bytes ∷ []) r bytes r (word_of at (At g by))
      of_test true e =
          let none : by ≡ 0 = eqb-true by 0 e in
          let word : a ≡ word_of at (At g by) = sym place.1.1 ∙ ap (λ n. word_of at (At g n)) (sym none) in
          subst (Brings plan own flat registers (GlobalAt r g ∷ []) r bytes r) word (one_brings registers (GlobalAt r g) r a within (pass plan own flat registers (GlobalAt r g) [] a first start refl))
      of_test false e =
          let long : length first ≡ length registers = length_set registers r (Some a) in
          let more : length second ≡ length first = length_set first bytes (Some by) in
          let from : HasWord second r a = get_set_other first bytes r (Some by) (λ e. apart (sym e)) ∙ get_set_same registers r (Some a) within in
          let far : HasWord second bytes by = get_set_same first bytes (Some by) (omega (arith, bytes_within, long)) in
          let word : word_of at (At g by) ≡ (a % 2 ^ 64 + by % 2 ^ 64) % 2 ^ 64 = place_word g by a place.1.1 in
          record {
            left = record {
              after = with_register second r (word_of at (At g by));
              runs =
                  pass plan own flat registers (GlobalAt r g) (Set bytes by ∷ Alu Add W64 r r bytes ∷ []) a (with_register second r (word_of at (At g by))) start
                  (pass plan own flat first (Set bytes by) (Alu Add W64 r r bytes ∷ []) by (with_register second r (word_of at (At g by))) refl
                  (pass plan own flat second (Alu Add W64 r r bytes) [] (word_of at (At g by)) (with_register second r (word_of at (At g by)))
                  (two_read second W64 r bytes a by (λ a b. binary BinAdd W64 a b) from far ∙ ap Ok (sym word)) refl));
              kept = λ j other far. get_set_other second r j (Some (word_of at (At g by))) (λ e. other (sym e)) ∙ get_set_other first bytes j (Some by) (λ e. far (sym e)) ∙ get_set_other registers r j (Some a) (λ e. other (sym e));
              count = length_set second r (Some (word_of at (At g by))) ∙ more ∙ long;
            };
            holds = get_set_same second r (Some (word_of at (At g by))) (omega (arith, within, long, more));
          }

  -- the word of a value
  pub value_brings : (registers : List (Option ℕ)) (r : ℕ) (v : Value) → r < length registers → bytes_register vs < length registers → r ≢ bytes_register vs → HasPlace plan at v → Brings plan own flat registers (value_ops vs r v) r (bytes_register vs) r (word_of at v)
  value_brings registers r (Num w n) within bytes_within apart place = one_brings registers (Set r n) r n within refl
  value_brings registers r Null within bytes_within apart place = one_brings registers (Set r 0) r 0 within refl
  value_brings registers r (At g by) within bytes_within apart place = place_brings registers r g by within bytes_within apart place
  value_brings registers r (Fun f) within bytes_within apart place =
      let start : word_of_op plan (reader own registers) flat (FunctionAt r f) ≡ Ok place.0 = ap (found_or Malformed) place.1.0 in
      subst (Brings plan own flat registers (FunctionAt r f ∷ []) r (bytes_register vs) r) (sym place.1.1) (one_brings registers (FunctionAt r f) r place.0 within (pass plan own flat registers (FunctionAt r f) [] place.0 (with_register registers r place.0) start refl))

  -- the word of an origin
  pub origin_brings : (registers : List (Option ℕ)) (values : List (Option Value)) (r : ℕ) (o : Origin) (v : Value) → r < length registers → bytes_register vs < length registers → r ≢ bytes_register vs →
      HaveWords at values registers → IsPlanned plan at o → origin_value values o ≡ Ok v → Brings plan own flat registers (brought vs r o).ops r (bytes_register vs) (brought vs r o).register (word_of at v)
  origin_brings registers values r (Known u) v within bytes_within apart have planned is =
      let same : u ≡ v = cc in
      subst (λ x. Brings plan own flat registers (value_ops vs r u) r (bytes_register vs) r (word_of at x)) same (value_brings registers r u within bytes_within apart planned)
  origin_brings registers values r (Register k) v within bytes_within apart have planned is = record {
    left = record { after = registers; runs = refl; kept = λ j other far. refl; count = refl };
    holds = have k v (found_there (register values k) is);
  }
    where
      found_there : (o : Option Value) → found_or (Left UnsetReason) o ≡ Ok v → o ≡ Some v
      found_there (Some u) e = let same : u ≡ v = cc in ap Some same
      found_there None e = absurd (cc)
  origin_brings registers values r Unset v within bytes_within apart have planned is = absurd (cc)
  origin_brings registers values r NoOrigin v within bytes_within apart have planned is = absurd (cc)
