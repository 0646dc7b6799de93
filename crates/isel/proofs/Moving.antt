-- A pointer that moves along a path, as its word in a register.
use Rattle.std.proofs.Common.{◌≡◌, ◌≢◌, ℕ, ◌+◌, ◌*◌, ◌%◌, ◌^◌, ◌<◌, ◌≤◌, List, [], ◌∷◌, ◌++◌, length, Bool, true, false, Option, Some, None, Ok, slice_get, refl, ap, sym, ◌∙◌, subst, arith}
use Rattle.std.specs.Prelude.{nat_eq, if◌then◌else◌}
use Rattle.std.proofs.Math.Nat.{mod-lt}
use Rattle.std.proofs.lemmas.Bool.{eqb-true}
use Rattle.rd_num.specs.declared.width.Width.{Width}
use Rattle.rd_num.specs.declared.width.Width.TheVariants.{W64}
use Rattle.ir_core.specs.declared.instruction.BinOp.TheVariants.{Add as BinAdd, Mul as BinMul}
use Rattle.ir_core.specs.declared.instruction.CastOp.TheVariants.{Sext}
use Rattle.ir_core.specs.declared.memory.Value.{Value}
use Rattle.ir_core.specs.declared.memory.Value.TheVariants.{Num, Null, At, Fun}
use Rattle.ir_core.specs.declared.memory.Reason.TheVariants.{Unset as UnsetReason}
use Rattle.ir_core.specs.Arithmetic.{modulus, binary, cast}
use Rattle.ir_core.specs.Kinds.{signed_word}
use Rattle.ir_core.specs.Operands.{index_word}
use Rattle.ir_core.specs.Stops.{Left, Answer, and_then, found_or}
use Rattle.ir_core.specs.Valid.{LocalKind}
use Rattle.ir_context.specs.declared.origin.Origin.{Origin}
use Rattle.ir_context.specs.declared.origin.Origin.TheVariants.{Known, Register, Unset, Malformed}
use Rattle.ir_context.specs.declared.path.Path.{Path}
use Rattle.ir_context.specs.declared.path.Stride.{Stride}
use Rattle.ir_context.specs.Reads.{origin_value, stride_values, stride_bytes}
use Rattle.ir_context.specs.Registers.{register}
use Rattle.low_core.specs.declared.sel.SelAlu.TheVariants.{Add, Mul}
use Rattle.low_core.specs.declared.sel.SelOp.{SelOp}
use Rattle.low_core.specs.declared.sel.SelOp.TheVariants.{Set, Copy, Alu, Widen}
use Rattle.low_core.specs.Flat.{Span, Flat}
use Rattle.low_core.specs.Plan.{Plan}
use Rattle.low_core.specs.Contents.{Addresses}
use Rattle.low_core.specs.SelState.{with_register, word_in}
use Rattle.low_core.specs.SelStep.{low_bits}
use Rattle.flat_memory.proofs.Lists.{get_set_same, get_set_other, length_set}
use Rattle.isel_rows.specs.Variables.{bytes_register, index_register, moved_register, width_in}
use Rattle.isel_rows.specs.Brought.{Brought}
use Rattle.isel_rows.specs.Rows.{constant_moved, stride_ops, strides_moved, moved_ops}
use Rattle.isel.proofs.Straight.{gave, passed, passed_both}
use Rattle.isel.proofs.Words.{HasWord, word_read, two_read, pass}
use Rattle.isel.proofs.Operands.{IsReady, below_few}
use Rattle.isel.proofs.Numbers.{step_sum, sum_sums, index_cast}

-- an index that is read is a variable with a number, and the program reads it at that number's width
abbrev pub IsRead : List LocalKind → List (Option Value) → Origin → Type 0
IsRead vs values (Known v) = (n : ℕ) → index_word v ≡ Ok n → ⊥
IsRead vs values (Register k) = (w : Width) (n : ℕ) → register values k ≡ Some (Num w n) → (width_in (slice_get vs k) ≡ w) × (n < modulus w)
IsRead vs values Unset = Unit {0}
IsRead vs values Malformed = Unit {0}

abbrev pub AreRead : List LocalKind → List (Option Value) → List Stride → Type 0
AreRead vs values [] = Unit {0}
AreRead vs values (s ∷ ss) = IsRead vs values s.index × AreRead vs values ss

-- a word stays one
mod_small : (n : ℕ) → n % 2 ^ 64 < 2 ^ 64
mod_small n = mod-lt n (omega arith)

module _ (plan : Plan) (own : Span) (flat : Flat) (at : Addresses) (vs : List LocalKind) (values : List (Option Value)) where
  -- operations that leave variables as they are, and then a register with a word
  pub record Carries (registers : List (Option ℕ)) (ops : List SelOp) (source word : ℕ) : Type 0 where
    pub after : List (Option ℕ)
    pub runs : passed plan own flat registers ops ≡ Ok after
    pub holds : HasWord after source word
    pub ready : IsReady at vs values after
    pub count : length after ≡ length registers

  -- a register behind those of variables
  pub ready_set : (registers : List (Option ℕ)) (r word : ℕ) → length vs ≤ r → IsReady at vs values registers → IsReady at vs values (with_register registers r word)
  ready_set registers r word high ready =
      let room = ready.room in
      let count = length_set registers r (Some word) in
      record {
        room = omega (arith, room, count);
        few = ready.few;
        have = λ k v e.
            let low = below_few values k v e in
            let few = ready.few in
            get_set_other registers r k (Some word) (λ h. omega arith) ∙ ready.have k v e;
      }

  -- by what is known before the run
  pub constant_carries : (registers : List (Option ℕ)) (from a by : ℕ) → IsReady at vs values registers → HasWord registers from a → a < 2 ^ 64 → from ≢ bytes_register vs →
      Carries registers (constant_moved vs from by).ops (constant_moved vs from by).register ((a + by) % 2 ^ 64)
  constant_carries registers from a by ready holds small apart = of_test (nat_eq by 0) refl
    where
      bytes : ℕ
      bytes = bytes_register vs

      moved : ℕ
      moved = moved_register vs

      word : ℕ
      word = (a % 2 ^ 64 + by % 2 ^ 64) % 2 ^ 64

      of_test : (b : Bool) → nat_eq by 0 ≡ b →
          let x : Brought = if b then record { ops = []; register = from } else record { ops = Set bytes by ∷ Alu Add W64 moved from bytes ∷ []; register = moved } in
          Carries registers x.ops x.register ((a + by) % 2 ^ 64)
      of_test true e =
          let none : by ≡ 0 = eqb-true by 0 e in
          let same : a ≡ (a + by) % 2 ^ 64 = omega arith in
          record { after = registers; runs = refl; holds = subst (HasWord registers from) same holds; ready = ready; count = refl }
      of_test false e =
          let room = ready.room in
          let first : List (Option ℕ) = with_register registers bytes by in
          let long : length first ≡ length registers = length_set registers bytes (Some by) in
          let read : HasWord first from a = get_set_other registers bytes from (Some by) (λ h. apart (sym h)) ∙ holds in
          let far : HasWord first bytes by = get_set_same registers bytes (Some by) (omega arith) in
          let same : word ≡ (a + by) % 2 ^ 64 = omega arith in
          record {
            after = with_register first moved word;
            runs =
                pass plan own flat registers (Set bytes by) (Alu Add W64 moved from bytes ∷ []) by (with_register first moved word) refl
                (pass plan own flat first (Alu Add W64 moved from bytes) [] word (with_register first moved word) (two_read first W64 from bytes a by (λ a b. binary BinAdd W64 a b) read far) refl);
            holds = get_set_same first moved (Some word) (omega (arith, room, long)) ∙ ap (λ n. Some (Some n)) same;
            ready = ready_set first moved word (omega arith) (ready_set registers bytes by (omega arith) ready);
            count = length_set first moved (Some word) ∙ long;
          }

  -- where it stands then
  pub constant_apart : (from by q : ℕ) → from ≢ q → moved_register vs ≢ q → (constant_moved vs from by).register ≢ q
  constant_apart from by q other apart = of_test (nat_eq by 0)
    where
      of_test : (b : Bool) →
          let x : Brought = if b then record { ops = []; register = from } else record { ops = Set (bytes_register vs) by ∷ Alu Add W64 (moved_register vs) from (bytes_register vs) ∷ []; register = moved_register vs } in
          x.register ≢ q
      of_test true = other
      of_test false = apart

  -- by one index that is read
  stride_carries : (registers : List (Option ℕ)) (from a k size : ℕ) (w : Width) (n : ℕ) → IsReady at vs values registers → HasWord registers from a → from ≢ bytes_register vs → from ≢ index_register vs →
      register values k ≡ Some (Num w n) → width_in (slice_get vs k) ≡ w → n < modulus w →
      Carries registers (stride_ops vs from (record { index = Register k; size = size })) (moved_register vs) ((a + signed_word w n * size) % 2 ^ 64)
  stride_carries registers from a k size w n ready holds far other is width small = record {
    after = fourth;
    runs =
        pass plan own flat registers (Widen true wide W64 index k) (Set bytes size ∷ Alu Mul W64 index index bytes ∷ Alu Add W64 moved from index ∷ []) i fourth widened
        (pass plan own flat first (Set bytes size) (Alu Mul W64 index index bytes ∷ Alu Add W64 moved from index ∷ []) size fourth refl
        (pass plan own flat second (Alu Mul W64 index index bytes) (Alu Add W64 moved from index ∷ []) product fourth (two_read second W64 index bytes i size (λ a b. binary BinMul W64 a b) index_second bytes_second)
        (pass plan own flat third (Alu Add W64 moved from index) [] sum fourth (two_read third W64 from index a product (λ a b. binary BinAdd W64 a b) from_third index_third) refl)));
    holds = get_set_same third moved (Some sum) (let l = long3 in omega (arith, room, l)) ∙ ap (λ n. Some (Some n)) (step_sum (2 ^ 64) a (signed_word w n) size);
    ready = ready_set third moved sum (omega arith) (ready_set second index product (omega arith) (ready_set first bytes size (omega arith) (ready_set registers index i (omega arith) ready)));
    count = length_set third moved (Some sum) ∙ long3;
  }
    where
      room : length vs + 8 ≤ length registers
      room = ready.room

      bytes : ℕ
      bytes = bytes_register vs

      index : ℕ
      index = index_register vs

      moved : ℕ
      moved = moved_register vs

      wide : Width
      wide = width_in (slice_get vs k)

      i : ℕ
      i = signed_word w n % 2 ^ 64

      product : ℕ
      product = (i % 2 ^ 64 * (size % 2 ^ 64)) % 2 ^ 64

      sum : ℕ
      sum = (a % 2 ^ 64 + product % 2 ^ 64) % 2 ^ 64

      first : List (Option ℕ)
      first = with_register registers index i

      second : List (Option ℕ)
      second = with_register first bytes size

      third : List (Option ℕ)
      third = with_register second index product

      fourth : List (Option ℕ)
      fourth = with_register third moved sum

      widened : and_then (word_in registers k) (λ a. let x : Answer ℕ = Ok (cast Sext wide W64 (low_bits wide a)) in x) ≡ Ok i
      widened =
          ap (λ x. and_then x (λ a. let y : Answer ℕ = Ok (cast Sext wide W64 (low_bits wide a)) in y)) (word_read registers k n (ready.have k (Num w n) is))
          ∙ ap (λ v. let y : Answer ℕ = Ok (cast Sext v W64 (low_bits v n)) in y) width ∙ ap Ok (index_cast w n small)

      long1 : length first ≡ length registers
      long1 = length_set registers index (Some i)

      long2 : length second ≡ length registers
      long2 = length_set first bytes (Some size) ∙ long1

      long3 : length third ≡ length registers
      long3 = length_set second index (Some product) ∙ long2

      index_second : HasWord second index i
      index_second = get_set_other first bytes index (Some size) (λ e. omega arith) ∙ get_set_same registers index (Some i) (omega (arith, room))

      bytes_second : HasWord second bytes size
      bytes_second = get_set_same first bytes (Some size) (omega (arith, room, long1))

      index_third : HasWord third index product
      index_third = get_set_same second index (Some product) (omega (arith, room, long2))

      from_third : HasWord third from a
      from_third =
          get_set_other second index from (Some product) (λ e. other (sym e)) ∙ get_set_other first bytes from (Some size) (λ e. far (sym e))
          ∙ get_set_other registers index from (Some i) (λ e. other (sym e)) ∙ holds

  -- an index that is read, and the bytes that it stands for
  one_carries : (registers : List (Option ℕ)) (from a : ℕ) (o : Origin) (size : ℕ) (v : Value) (n : ℕ) → IsReady at vs values registers → HasWord registers from a → from ≢ bytes_register vs → from ≢ index_register vs →
      IsRead vs values o → origin_value values o ≡ Ok v → index_word v ≡ Ok n → Carries registers (stride_ops vs from (record { index = o; size = size })) (moved_register vs) ((a + n * size) % 2 ^ 64)
  one_carries registers from a (Known u) size v n ready holds far other read is word = let same : u ≡ v = cc in absurd (read n (ap index_word same ∙ word))
  one_carries registers from a (Register k) size v n ready holds far other read is word = of_value v (found_there (register values k) is) word
    where
      found_there : (o : Option Value) → found_or (Left UnsetReason) o ≡ Ok v → o ≡ Some v
      found_there (Some u) e = let same : u ≡ v = cc in ap Some same
      found_there None e = absurd (cc)

      of_value : (u : Value) → register values k ≡ Some u → index_word u ≡ Ok n → Carries registers (stride_ops vs from (record { index = Register k; size = size })) (moved_register vs) ((a + n * size) % 2 ^ 64)
      of_value (Num w b) there e =
          let same : signed_word w b ≡ n = cc in
          let r = read w b there in
          subst (λ i. Carries registers (stride_ops vs from (record { index = Register k; size = size })) (moved_register vs) ((a + i * size) % 2 ^ 64)) same
          (stride_carries registers from a k size w b ready holds far other there r.0 r.1)
      of_value Null there e = absurd (cc)
      of_value (At o d) there e = absurd (cc)
      of_value (Fun f) there e = absurd (cc)
  one_carries registers from a Unset size v n ready holds far other read is word = absurd (cc)
  one_carries registers from a Malformed size v n ready holds far other read is word = absurd (cc)

  -- by all of them
  pub strides_carry : (ss : List Stride) (registers : List (Option ℕ)) (from a : ℕ) (us : List Value) (by : ℕ) → IsReady at vs values registers → HasWord registers from a → a < 2 ^ 64 → from ≢ bytes_register vs → from ≢ index_register vs →
      AreRead vs values ss → stride_values values ss ≡ Ok us → stride_bytes ss us ≡ Ok by → Carries registers (strides_moved vs from ss).ops (strides_moved vs from ss).register ((a + by) % 2 ^ 64)
  strides_carry [] registers from a us by ready holds small far other read are sum =
      let none : 0 ≡ by = no_bytes us sum in
      let same : a ≡ (a + by) % 2 ^ 64 = omega arith in
      record { after = registers; runs = refl; holds = subst (HasWord registers from) same holds; ready = ready; count = refl }
    where
      no_bytes : (us : List Value) → stride_bytes [] us ≡ Ok by → 0 ≡ by
      no_bytes us e = cc
  strides_carry (s ∷ ss) registers from a us by ready holds small far other read are sum =
      let p = gave (origin_value values s.index) (λ v. and_then (stride_values values ss) (λ vs. answer_values (v ∷ vs))) us are in
      let q = gave (stride_values values ss) (λ vs. answer_values (p.value ∷ vs)) us p.then in
      let same : us ≡ p.value ∷ q.value = cc in
      let sum1 : stride_bytes (s ∷ ss) (p.value ∷ q.value) ≡ Ok by = ap (stride_bytes (s ∷ ss)) (sym same) ∙ sum in
      let n = gave (index_word p.value) (λ n. and_then (stride_bytes ss q.value) (λ more. answer_word (n * s.size + more))) by sum1 in
      let more = gave (stride_bytes ss q.value) (λ more. answer_word (n.value * s.size + more)) by n.then in
      let total : n.value * s.size + more.value ≡ by = cc in
      let x = one_carries registers from a s.index s.size p.value n.value ready holds far other read.0 p.first n.first in
      let b : ℕ = (a + n.value * s.size) % 2 ^ 64 in
      let y = strides_carry ss x.after (moved_register vs) b q.value more.value x.ready x.holds (mod_small (a + n.value * s.size)) (λ e. omega arith) (λ e. omega arith) read.1 q.first more.first in
      record {
        after = y.after;
        runs = passed_both plan own flat registers x.after y.after (stride_ops vs from s) (strides_moved vs (moved_register vs) ss).ops x.runs y.runs;
        holds = y.holds ∙ ap (λ w. Some (Some w)) (sum_sums (2 ^ 64) b a (n.value * s.size) more.value refl ∙ ap (λ t. (a + t) % 2 ^ 64) total);
        ready = y.ready;
        count = y.count ∙ x.count;
      }
    where
      answer_values : List Value → Answer (List Value)
      answer_values l = Ok l

      answer_word : ℕ → Answer ℕ
      answer_word n = Ok n

  -- operations after which a register has a word, and variables as they were before
  pub record Gives (registers : List (Option ℕ)) (ops : List SelOp) (r word : ℕ) : Type 0 where
    pub before : List (Option ℕ)
    pub runs : passed plan own flat registers ops ≡ Ok (with_register before r word)
    pub ready : IsReady at vs values before
    pub count : length before ≡ length registers

  -- a pointer along a path
  pub moved_gives : (registers : List (Option ℕ)) (r : ℕ) (p : Path) (from a : ℕ) (us : List Value) (by : ℕ) → IsReady at vs values registers → HasWord registers from a → a < 2 ^ 64 → from ≢ bytes_register vs → from ≢ index_register vs →
      AreRead vs values p.strides → stride_values values p.strides ≡ Ok us → stride_bytes p.strides us ≡ Ok by → Gives registers (moved_ops vs r p from) r ((a + (p.constant + by)) % 2 ^ 64)
  moved_gives registers r p from a us by ready holds small far other read are sum =
      let x = constant_carries registers from a p.constant ready holds small far in
      let b : ℕ = (a + p.constant) % 2 ^ 64 in
      let middle : ℕ = (constant_moved vs from p.constant).register in
      let y = strides_carry p.strides x.after middle b us by x.ready x.holds (mod_small (a + p.constant)) (constant_apart from p.constant (bytes_register vs) far (λ e. omega arith)) (constant_apart from p.constant (index_register vs) other (λ e. omega arith)) read are sum in
      let others : Brought = strides_moved vs middle p.strides in
      let word : ℕ = (a + (p.constant + by)) % 2 ^ 64 in
      let there : HasWord y.after others.register word = y.holds ∙ ap (λ w. Some (Some w)) (sum_sums (2 ^ 64) b a p.constant by refl) in
      record {
        before = y.after;
        runs =
            passed_both plan own flat registers x.after (with_register y.after r word) (constant_moved vs from p.constant).ops (others.ops ++ Copy r others.register ∷ []) x.runs
            (passed_both plan own flat x.after y.after (with_register y.after r word) others.ops (Copy r others.register ∷ []) y.runs
            (pass plan own flat y.after (Copy r others.register) [] word (with_register y.after r word) (word_read y.after others.register word there) refl));
        ready = y.ready;
        count = y.count ∙ x.count;
      }
