-- The law of a division, and that of every operation but calls.
use Rattle.std.proofs.Common.{◌≡◌, ℕ, ◌+◌, Bool, List, Ok, refl, ◌∙◌, inl, inr}
use Rattle.rd_num.specs.declared.width.Width.{Width}
use Rattle.ir_core.specs.Arithmetic.{binary}
use Rattle.x86_core.specs.declared.flags.Flags.{Flags}
use Rattle.x86_core.specs.declared.image.Segment.{Segment}
use Rattle.low_core.specs.declared.sel.Sel.{Sel}
use Rattle.low_core.specs.declared.sel.SelOp.{SelOp}
use Rattle.low_core.specs.declared.sel.SelOp.TheVariants.{Set, Copy, Alu, Div, Widen, Test, Pick, Load, Store, FrameAt, GlobalAt, FunctionAt, Call, CallAt, Outside}
use Rattle.low_core.specs.Flat.{Span}
use Rattle.low_core.specs.Plan.{Plan}
use Rattle.low_core.specs.SelState.{SelFrame, SelState, word_in}
use Rattle.low_core.specs.SelStep.{low_bits, division}
use Rattle.frame_rows.specs.declared.spot.Spot.{Spot}
use Rattle.frame_rows.specs.Words.{Words}
use Rattle.frame_rows.specs.Code.{result_row, op_row, div_row}
use Rattle.frame_rows.specs.Ties.{Tied}
use Rattle.frame_rows.proofs.Results.{reads_both}
use Rattle.frame_rows.proofs.Meeting.{free_of, Met, given, made_met, divided_met, two_met, makes_both}
use Rattle.frame_rows.proofs.Divides.{Answers, Stops, Gives, div_makes}
use Rattle.frame_rows.proofs.Simple.{Law, set_law, copy_law, alu_law, load_law, store_law, frame_law, global_law, function_law}
use Rattle.frame_rows.proofs.Chosen.{test_law, pick_law, widen_law}

module _ (homes : ℕ → Spot) (base words own : ℕ) (plan : Plan) (live after : ℕ → Type 0) (sel : Sel) (input : List ℕ) (s : SelState) (f : SelFrame) (callers : List SelFrame) (spans : List Span) (w : Words) (fl : Flags) (ss : List Segment)
    (tied : Tied homes base words live f.registers (record { spans = spans; bytes = s.bytes }) w ss) (at_own : f.own.start ≡ base + own) where
  div_law : (signed rest : Bool) (wi : Width) (r x y : ℕ) → Law homes base words own plan live after sel input s f callers spans w fl ss tied at_own (Div signed rest wi r x y)
  div_law signed rest wi r x y ready a =
      two_met homes base words live after s f callers spans w fl ss tied (op_row homes plan own (Div signed rest wi r x y)) r wi x y (λ m n. binary (division signed rest) wi m n) (λ m n is js.
      by_answer m n is js (div_makes (record w { rax = m; rcx = n }) fl ss signed rest wi ready))
    where
      by_answer : (m n : ℕ) → word_in f.registers x ≡ Ok m → word_in f.registers y ≡ Ok n → Answers (div_row signed rest wi) (record w { rax = m; rcx = n }) fl ss (binary (division signed rest) wi (low_bits wi m) (low_bits wi n)) →
          Met homes base words live after s f callers spans w fl ss (op_row homes plan own (Div signed rest wi r x y)) (given homes base words live after s f callers spans w fl ss r (binary (division signed rest) wi (low_bits wi m) (low_bits wi n)))
      by_answer m n is js (Stops e stops) =
          divided_met homes base words live after s f callers spans w fl ss tied r (result_row homes plan own (Div signed rest wi r x y)) (binary (division signed rest) wi (low_bits wi m) (low_bits wi n)) e
          (reads_both homes base words live f.registers (record { spans = spans; bytes = s.bytes }) w fl ss x y m n (div_row signed rest wi) tied (a.reads x (inl refl)) (a.reads y (inr (inl refl))) is js ∙ stops)
      by_answer m n is js (Gives k e small makes) =
          made_met homes base words live after s f callers spans w fl ss tied r (result_row homes plan own (Div signed rest wi r x y)) (binary (division signed rest) wi (low_bits wi m) (low_bits wi n)) k (free_of homes base words live after (Div signed rest wi r x y) r a refl) e small
          (makes_both homes base words live after s f callers spans w fl ss tied x y m n (div_row signed rest wi) k (a.reads x (inl refl)) (a.reads y (inr (inl refl))) is js makes)

  pub op_law : (op : SelOp) → Law homes base words own plan live after sel input s f callers spans w fl ss tied at_own op
  op_law (Set r n) = set_law homes base words own plan live after sel input s f callers spans w fl ss tied at_own r n
  op_law (Copy r x) = copy_law homes base words own plan live after sel input s f callers spans w fl ss tied at_own r x
  op_law (Alu o wi r x y) = alu_law homes base words own plan live after sel input s f callers spans w fl ss tied at_own o wi r x y
  op_law (Div signed rest wi r x y) = div_law signed rest wi r x y
  op_law (Widen signed from to r x) = widen_law homes base words own plan live after sel input s f callers spans w fl ss tied at_own signed from to r x
  op_law (Test p wi r x y) = test_law homes base words own plan live after sel input s f callers spans w fl ss tied at_own p wi r x y
  op_law (Pick r c x y) = pick_law homes base words own plan live after sel input s f callers spans w fl ss tied at_own r c x y
  op_law (Load wi r x) = load_law homes base words own plan live after sel input s f callers spans w fl ss tied at_own wi r x
  op_law (Store wi x y) = store_law homes base words own plan live after sel input s f callers spans w fl ss tied at_own wi x y
  op_law (FrameAt r at) = frame_law homes base words own plan live after sel input s f callers spans w fl ss tied at_own r at
  op_law (GlobalAt r g) = global_law homes base words own plan live after sel input s f callers spans w fl ss tied at_own r g
  op_law (FunctionAt r g) = function_law homes base words own plan live after sel input s f callers spans w fl ss tied at_own r g
  op_law (Call g r args) = λ ready a. absurd ready
  op_law (CallAt x r args) = λ ready a. absurd ready
  op_law (Outside which r args) = λ ready a. absurd ready
