-- Operations one after another inside a block of the innermost call.
use Rattle.std.proofs.Common.{◌≡◌, ℕ, zero, suc, ◌+◌, List, [], ◌∷◌, ◌++◌, length, Option, Some, None, Ok, Err, map, slice_get, drop, refl, ap, sym, ◌∙◌, arith}
use Rattle.std.proofs.Math.Seq.{drop-append_seam}
use Rattle.std.proofs.lemmas.List.{append-nil, drop-drop}
use Rattle.behavior.specs.Ending.{Going}
use Rattle.behavior.specs.System.{iter}
use Rattle.behavior.proofs.Between.{iter_add}
use Rattle.ir_core.specs.Stops.{Answer, and_then, found_or, Malformed}
use Rattle.ir_core.specs.State.{Nothing}
use Rattle.low_core.specs.declared.sel.SelOp.{SelOp}
use Rattle.low_core.specs.declared.sel.SelOp.TheVariants.{Set, Copy, Alu, Div, Widen, Test, Pick, Load, Store, FrameAt, GlobalAt, FunctionAt, Call, CallAt, Outside}
use Rattle.low_core.specs.declared.sel.SelBlock.{SelBlock}
use Rattle.low_core.specs.declared.sel.SelFun.{SelFun}
use Rattle.low_core.specs.declared.sel.Sel.{Sel}
use Rattle.low_core.specs.Flat.{Span, Bytes, Flat}
use Rattle.low_core.specs.Plan.{Plan, Content, global_spans}
use Rattle.low_core.specs.SelParts.{assigns_of}
use Rattle.low_core.specs.SelState.{SelFrame, SelState, sel_turned}
use Rattle.low_core.specs.SelStep.{word_of_op, with_result, gives_word, op_turn, end_turn, sel_turn_at, sel_step}

-- a run that goes on
abbrev pub going : List SelFrame → Bytes → List ℕ → ℕ → SelState
going frames bytes printed taken = record { frames = frames; bytes = bytes; printed = printed; taken = taken; ending = Going }

-- a call so many operations on, with other words in its registers
abbrev pub moved : SelFrame → List (Option ℕ) → ℕ → SelFrame
moved g registers count = record g { next = g.next + count; registers = registers }

-- what an operation that gives a word reads of a call
abbrev pub reader : Span → List (Option ℕ) → SelFrame
reader own registers = record { function = 0; block = 0; next = 0; registers = registers; base = 0; own = own; into = None }

-- the registers after operations that each give a word
abbrev pub passed : Plan → Span → Flat → List (Option ℕ) → List SelOp → Answer (List (Option ℕ))
passed plan own flat registers [] = Ok registers
passed plan own flat registers (op ∷ ops) = and_then (word_of_op plan (reader own registers) flat op) (λ n. passed plan own flat (with_result (assigns_of op) n registers) ops)

-- the block in which a call stands, and the operations from there on
pub record StandsAt (sel : Sel) (g : SelFrame) (ops : List SelOp) : Type 0 where
  pub fn : SelFun
  pub in_program : slice_get sel.functions g.function ≡ Some fn
  pub block : SelBlock
  pub in_function : slice_get fn.blocks g.block ≡ Some block
  pub there : drop g.next block.ops ≡ ops

-- the first of the items from a place on
pub at_drop : {X : Type 0} (xs : List X) (k : ℕ) (x : X) (rest : List X) → drop k xs ≡ x ∷ rest → slice_get xs k ≡ Some x
at_drop [] zero x rest e = absurd (cc)
at_drop [] (suc k) x rest e = absurd (cc)
at_drop (y ∷ ys) zero x rest e = cc
at_drop (y ∷ ys) (suc k) x rest e = at_drop ys k x rest e

-- none is there
pub none_drop : {X : Type 0} (xs : List X) (k : ℕ) → drop k xs ≡ [] → slice_get xs k ≡ None
none_drop [] zero e = refl
none_drop [] (suc k) e = refl
none_drop (y ∷ ys) zero e = absurd (cc)
none_drop (y ∷ ys) (suc k) e = none_drop ys k e

-- behind some of the items from a place on
pub drop_more : {X : Type 0} (xs : List X) (k : ℕ) (ys rest : List X) → drop k xs ≡ ys ++ rest → drop (k + length ys) xs ≡ rest
drop_more xs k ys rest e = sym (drop-drop (length ys) k xs) ∙ ap (drop (length ys)) e ∙ drop-append_seam ys rest

-- so many operations on
pub stands_on : (sel : Sel) (g : SelFrame) (ops rest : List SelOp) (registers : List (Option ℕ)) → StandsAt sel g (ops ++ rest) → StandsAt sel (moved g registers (length ops)) rest
stands_on sel g ops rest registers x = record {
  fn = x.fn;
  in_program = x.in_program;
  block = x.block;
  in_function = x.in_function;
  there = drop_more x.block.ops g.next ops rest x.there;
}

-- an operation reads nothing else of a call
read_only : (plan : Plan) (g : SelFrame) (flat : Flat) (op : SelOp) → word_of_op plan g flat op ≡ word_of_op plan (reader g.own g.registers) flat op
read_only plan g flat (Set r n) = refl
read_only plan g flat (Copy r s) = refl
read_only plan g flat (Alu op w r s t) = refl
read_only plan g flat (Div signed rest w r s t) = refl
read_only plan g flat (Widen signed from to r s) = refl
read_only plan g flat (Test pred w r s t) = refl
read_only plan g flat (Pick r c s t) = refl
read_only plan g flat (Load w r s) = refl
read_only plan g flat (FrameAt r at) = refl
read_only plan g flat (GlobalAt r n) = refl
read_only plan g flat (FunctionAt r n) = refl
read_only plan g flat other = refl

-- what was given on the way to a result
pub record Gave {A B : Type 0} (a : Answer A) (rest : A → Answer B) (b : B) : Type 0 where
  pub value : A
  pub first : a ≡ Ok value
  pub then : rest value ≡ Ok b

pub gave : {A B : Type 0} (a : Answer A) (rest : A → Answer B) (b : B) → and_then a rest ≡ Ok b → Gave a rest b
gave (Ok value) rest b e = record { value = value; first = refl; then = e }
gave (Err stop) rest b e = absurd (cc)

module _ (sel : Sel) (plan : Plan) (contents : List Content) (input : List ℕ) (callers : List SelFrame) (bytes : Bytes) (printed : List ℕ) (taken : ℕ) where
  -- the run with a call in front of others
  abbrev pub with_call : SelFrame → SelState
  with_call g = going (g ∷ callers) bytes printed taken

  -- the memory that it sees
  abbrev pub seen : Span → Flat
  seen own = record { spans = own ∷ (map (λ (f : SelFrame). f.own) callers ++ global_spans plan.globals contents); bytes = bytes }

  abbrev step : SelState → SelState
  step = sel_step sel plan contents input

  -- a step at an operation
  pub step_at : (g : SelFrame) (op : SelOp) (rest : List SelOp) → StandsAt sel g (op ∷ rest) → sel_step sel plan contents input (with_call g) ≡ sel_turned (with_call g) (op_turn sel plan (seen g.own) input (with_call g) g callers op)
  unfolding sel_step
  step_at g op rest x =
      ap (λ o. sel_turned (with_call g) (and_then (found_or Malformed o) (λ (fn : SelFun). and_then (found_or Malformed (slice_get fn.blocks g.block)) (λ (b : SelBlock). sel_turn_at sel plan (seen g.own) input (with_call g) g callers b (slice_get b.ops g.next))))) x.in_program
      ∙ ap (λ o. sel_turned (with_call g) (and_then (found_or Malformed o) (λ (b : SelBlock). sel_turn_at sel plan (seen g.own) input (with_call g) g callers b (slice_get b.ops g.next)))) x.in_function
      ∙ ap (λ o. sel_turned (with_call g) (sel_turn_at sel plan (seen g.own) input (with_call g) g callers x.block o)) (at_drop x.block.ops g.next op rest x.there)

  -- a step at the end of a block
  pub step_end : (g : SelFrame) (x : StandsAt sel g []) → sel_step sel plan contents input (with_call g) ≡ sel_turned (with_call g) (end_turn (with_call g) g callers x.block.end)
  unfolding sel_step
  step_end g x =
      ap (λ o. sel_turned (with_call g) (and_then (found_or Malformed o) (λ (fn : SelFun). and_then (found_or Malformed (slice_get fn.blocks g.block)) (λ (b : SelBlock). sel_turn_at sel plan (seen g.own) input (with_call g) g callers b (slice_get b.ops g.next))))) x.in_program
      ∙ ap (λ o. sel_turned (with_call g) (and_then (found_or Malformed o) (λ (b : SelBlock). sel_turn_at sel plan (seen g.own) input (with_call g) g callers b (slice_get b.ops g.next)))) x.in_function
      ∙ ap (λ o. sel_turned (with_call g) (sel_turn_at sel plan (seen g.own) input (with_call g) g callers x.block o)) (none_drop x.block.ops g.next x.there)

  -- an operation that gives a word
  value_turn : (g : SelFrame) (op : SelOp) (n : ℕ) → word_of_op plan g (seen g.own) op ≡ Ok n → op_turn sel plan (seen g.own) input (with_call g) g callers op ≡ gives_word (with_call g) g callers (assigns_of op) n Nothing
  value_turn g (Store w a b) n e = absurd (cc)
  value_turn g (Call f r args) n e = absurd (cc)
  value_turn g (CallAt a r args) n e = absurd (cc)
  value_turn g (Outside which r args) n e = absurd (cc)
  value_turn g op n e = ap (λ a. and_then a (λ n. gives_word (with_call g) g callers (assigns_of op) n Nothing)) e

  -- operations that each give a word
  pub straight : (ops : List SelOp) (g : SelFrame) (rest : List SelOp) (registers : List (Option ℕ)) → StandsAt sel g (ops ++ rest) → passed plan g.own (seen g.own) g.registers ops ≡ Ok registers →
      iter (sel_step sel plan contents input) (length ops) (with_call g) ≡ with_call (moved g registers (length ops))
  straight [] g rest registers x e =
      let same : g.registers ≡ registers = cc in
      let none : g.next ≡ g.next + 0 = omega arith in
      ap (λ rs. with_call (record g { registers = rs })) same ∙ ap (λ n. with_call (record g { next = n; registers = registers })) none
  straight (op ∷ ops) g rest registers x e =
      let v = gave (word_of_op plan (reader g.own g.registers) (seen g.own) op) (λ n. passed plan g.own (seen g.own) (with_result (assigns_of op) n g.registers) ops) registers e in
      let g1 : SelFrame = moved g (with_result (assigns_of op) v.value g.registers) 1 in
      let word : word_of_op plan g (seen g.own) op ≡ Ok v.value = read_only plan g (seen g.own) op ∙ v.first in
      let first : step (with_call g) ≡ with_call g1 = step_at g op (ops ++ rest) x ∙ ap (sel_turned (with_call g)) (value_turn g op v.value word) in
      let y : StandsAt sel g1 (ops ++ rest) = stands_on sel g (op ∷ []) (ops ++ rest) (with_result (assigns_of op) v.value g.registers) x in
      let many : g.next + 1 + length ops ≡ g.next + suc (length ops) = omega arith in
      ap (iter step (length ops)) first ∙ straight ops g1 rest registers y v.then ∙ ap (λ n. with_call (record g { next = n; registers = registers })) many

  -- and then another one
  pub straight_then : (ops : List SelOp) (g : SelFrame) (op : SelOp) (rest : List SelOp) (registers : List (Option ℕ)) → StandsAt sel g (ops ++ op ∷ rest) → passed plan g.own (seen g.own) g.registers ops ≡ Ok registers →
      let g2 : SelFrame = moved g registers (length ops) in
      iter (sel_step sel plan contents input) (length ops + 1) (with_call g) ≡ sel_turned (with_call g2) (op_turn sel plan (seen g.own) input (with_call g2) g2 callers op)
  straight_then ops g op rest registers x e =
      sym (iter_add step (length ops) 1 (with_call g)) ∙ ap step (straight ops g (op ∷ rest) registers x e) ∙ step_at (moved g registers (length ops)) op rest (stands_on sel g ops (op ∷ rest) registers x)

  -- or the end
  pub straight_end : (ops : List SelOp) (g : SelFrame) (registers : List (Option ℕ)) (x : StandsAt sel g ops) → passed plan g.own (seen g.own) g.registers ops ≡ Ok registers →
      let g2 : SelFrame = moved g registers (length ops) in
      iter (sel_step sel plan contents input) (length ops + 1) (with_call g) ≡ sel_turned (with_call g2) (end_turn (with_call g2) g2 callers x.block.end)
  straight_end ops g registers x e =
      let all : StandsAt sel g (ops ++ []) = record { fn = x.fn; in_program = x.in_program; block = x.block; in_function = x.in_function; there = x.there ∙ sym (append-nil ops) } in
      sym (iter_add step (length ops) 1 (with_call g)) ∙ ap step (straight ops g [] registers all e)
      ∙ step_end (moved g registers (length ops)) (record { fn = x.fn; in_program = x.in_program; block = x.block; in_function = x.in_function; there = drop_more x.block.ops g.next ops [] all.there })

-- operations in two parts
pub passed_both : (plan : Plan) (own : Span) (flat : Flat) (registers first second : List (Option ℕ)) (ops more : List SelOp) → passed plan own flat registers ops ≡ Ok first → passed plan own flat first more ≡ Ok second → passed plan own flat registers (ops ++ more) ≡ Ok second
passed_both plan own flat registers first second [] more e f = let same : registers ≡ first = cc in ap (λ rs. passed plan own flat rs more) same ∙ f
passed_both plan own flat registers first second (op ∷ ops) more e f =
    let v = gave (word_of_op plan (reader own registers) flat op) (λ n. passed plan own flat (with_result (assigns_of op) n registers) ops) first e in
    ap (λ a. and_then a (λ n. passed plan own flat (with_result (assigns_of op) n registers) (ops ++ more))) v.first
    ∙ passed_both plan own flat (with_result (assigns_of op) v.value registers) first second ops more v.then f
