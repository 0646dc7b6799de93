-- The laws of comparisons, choices and extensions.
use Rattle.std.proofs.Common.{◌≡◌, ℕ, ◌+◌, ◌%◌, ◌^◌, ◌<◌, Bool, true, false, nat_eq, if◌then◌else◌, List, [], ◌∷◌, Ok, refl, inl, inr}
use Rattle.std.specs.Prelude.{pos}
use Rattle.rd_num.specs.declared.width.Width.{Width}
use Rattle.rd_num.specs.declared.width.Width.TheVariants.{W1, W8, W16, W32, W64}
use Rattle.ir_core.specs.declared.instruction.Pred.{Pred}
use Rattle.ir_core.specs.Arithmetic.{compared, cast}
use Rattle.ir_core.specs.Stops.{and_then}
use Rattle.x86_core.specs.declared.flags.Flags.{Flags}
use Rattle.x86_core.specs.declared.reg.Reg.{Reg}
use Rattle.x86_core.specs.declared.reg.Reg.TheVariants.{Rax, Rcx, Rdx}
use Rattle.x86_core.specs.declared.image.Segment.{Segment}
use Rattle.x86_core.specs.declared.instr.Wide.{Wide}
use Rattle.x86_core.specs.declared.instr.AluOp.{AluOp}
use Rattle.x86_core.specs.declared.instr.ImmOp.{ImmOp}
use Rattle.x86_core.specs.declared.instr.Cond.{Cond}
use Rattle.x86_core.specs.declared.instr.Instr.{Instr}
use Rattle.x86_core.specs.declared.instr.Instr.TheVariants as instr
use Rattle.low_core.specs.declared.sel.Sel.{Sel}
use Rattle.low_core.specs.declared.sel.SelOp.TheVariants.{Widen, Test, Pick}
use Rattle.low_core.specs.Flat.{Span}
use Rattle.low_core.specs.Plan.{Plan}
use Rattle.low_core.specs.SelState.{SelFrame, SelState, word_in}
use Rattle.low_core.specs.SelStep.{low_bits, widening}
use Rattle.frame_rows.specs.declared.spot.Spot.{Spot}
use Rattle.frame_rows.specs.Words.{Words, with_held}
use Rattle.frame_rows.specs.Code.{home_read, cut, filled, result_row, op_row, test_row, both}
use Rattle.frame_rows.specs.Ties.{is_scratch, Tied}
use Rattle.frame_rows.proofs.Registers.{scratch_written}
use Rattle.frame_rows.proofs.Kept.{tied_same}
use Rattle.frame_rows.proofs.Results.{Makes, reads_one}
use Rattle.frame_rows.proofs.Numbers.{low_small}
use Rattle.frame_rows.proofs.Plain.{makes_after, scratch_same}
use Rattle.frame_rows.proofs.Meeting.{free_of, made_met, one_met, two_met, makes_both}
use Rattle.frame_rows.proofs.Choices.{truth, truth_small, test_makes, pick_makes}
use Rattle.frame_rows.proofs.Extends.{fill_makes, bit_fill_makes, bit_sign_makes}
use Rattle.frame_rows.proofs.Simple.{Law}

module _ (homes : ℕ → Spot) (base words own : ℕ) (plan : Plan) (live after : ℕ → Type 0) (sel : Sel) (input : List ℕ) (s : SelState) (f : SelFrame) (callers : List SelFrame) (spans : List Span) (w : Words) (fl : Flags) (ss : List Segment)
    (tied : Tied homes base words live f.registers (record { spans = spans; bytes = s.bytes }) w ss) (at_own : f.own.start ≡ base + own) where
  pub test_law : (p : Pred) (wi : Width) (r x y : ℕ) → Law homes base words own plan live after sel input s f callers spans w fl ss tied at_own (Test p wi r x y)
  test_law p wi r x y ready a =
      two_met homes base words live after s f callers spans w fl ss tied (op_row homes plan own (Test p wi r x y)) r wi x y (λ m n. Ok (truth (compared p wi m n))) (λ m n is js.
      made_met homes base words live after s f callers spans w fl ss tied r (result_row homes plan own (Test p wi r x y)) (Ok (truth (compared p wi (low_bits wi m) (low_bits wi n)))) (truth (compared p wi (low_bits wi m) (low_bits wi n)))
      (free_of homes base words live after (Test p wi r x y) r a refl) refl (truth_small (compared p wi (low_bits wi m) (low_bits wi n)))
      (makes_both homes base words live after s f callers spans w fl ss tied x y m n (test_row p wi) _ (a.reads x (inl refl)) (a.reads y (inr (inl refl))) is js (test_makes (record w { rax = m; rcx = n }) fl ss p wi)))

  -- an operand in a scratch register, and a row behind it
  read_first : (x n : ℕ) (t : Reg) (row : List Instr) (m : ℕ) → live x → is_scratch t ≡ true → word_in f.registers x ≡ Ok n → Makes row (with_held w t n) fl ss m → Makes (home_read (homes x) t ∷ row) w fl ss m
  read_first x n t row m l scratch is makes =
      makes_after (home_read (homes x) t) row w fl ss (with_held w t n) m (record { flags = fl; runs = reads_one homes base words live f.registers (record { spans = spans; bytes = s.bytes }) w fl ss tied x n t l is }) (scratch_written w t n scratch) makes

  choice_small : (b : Bool) (m n : ℕ) → m < 2 ^ 64 → n < 2 ^ 64 → (if b then m else n) < 2 ^ 64
  choice_small true m n lm ln = lm
  choice_small false m n lm ln = ln

  pub pick_law : (r c x y : ℕ) → Law homes base words own plan live after sel input s f callers spans w fl ss tied at_own (Pick r c x y)
  pick_law r c x y ready a =
      one_met homes base words live after s f callers spans w fl ss tied row r c (λ k. and_then (word_in f.registers x) (λ m. and_then (word_in f.registers y) (λ n. Ok (if nat_eq (k % 2) 0 then n else m)))) (λ k ks.
      one_met homes base words live after s f callers spans w fl ss tied row r x (λ m. and_then (word_in f.registers y) (λ n. Ok (if nat_eq (k % 2) 0 then n else m))) (λ m ms.
      one_met homes base words live after s f callers spans w fl ss tied row r y (λ n. Ok (if nat_eq (k % 2) 0 then n else m)) (λ n ns.
      made_met homes base words live after s f callers spans w fl ss tied r (result_row homes plan own (Pick r c x y)) (Ok (if nat_eq (k % 2) 0 then n else m)) (if nat_eq (k % 2) 0 then n else m)
      (free_of homes base words live after (Pick r c x y) r a refl) refl (choice_small (nat_eq (k % 2) 0) n m (tied.small y n ns) (tied.small x m ms)) (makes k m n ks ms ns))))
    where
      row : List Instr
      row = op_row homes plan own (Pick r c x y)

      makes : (k m n : ℕ) → word_in f.registers c ≡ Ok k → word_in f.registers x ≡ Ok m → word_in f.registers y ≡ Ok n → Makes (result_row homes plan own (Pick r c x y)) w fl ss (if nat_eq (k % 2) 0 then n else m)
      makes k m n ks ms ns =
          let w1 : Words = record w { rdx = k } in
          let t1 = tied_same homes base words live f.registers (record { spans = spans; bytes = s.bytes }) w w1 ss (scratch_same w w.rax w.rcx k) tied in
          read_first c k Rdx (both homes x y (instr.AluImm ImmOp.And Wide.W32 Rdx (pos 1) ∷ instr.Cmov Cond.E Rax Rcx ∷ [])) _ (a.reads c (inl refl)) refl ks
          (makes_both homes base words live after s f callers spans w1 fl ss t1 x y m n (instr.AluImm ImmOp.And Wide.W32 Rdx (pos 1) ∷ instr.Cmov Cond.E Rax Rcx ∷ []) _ (a.reads x (inr (inl refl))) (a.reads y (inr (inr (inl refl)))) ms ns
          (pick_makes (record w1 { rax = m; rcx = n }) fl ss))

  -- an extension of one operand
  widen_met : (signed : Bool) (from to : Width) (r x : ℕ) → ((n : ℕ) → word_in f.registers x ≡ Ok n → Makes (result_row homes plan own (Widen signed from to r x)) w fl ss (cast (widening signed) from to (low_bits from n))) →
      Law homes base words own plan live after sel input s f callers spans w fl ss tied at_own (Widen signed from to r x)
  widen_met signed from to r x makes ready a =
      one_met homes base words live after s f callers spans w fl ss tied (op_row homes plan own (Widen signed from to r x)) r x (λ n. Ok (cast (widening signed) from to (low_bits from n))) (λ n is.
      made_met homes base words live after s f callers spans w fl ss tied r (result_row homes plan own (Widen signed from to r x)) (Ok (cast (widening signed) from to (low_bits from n))) (cast (widening signed) from to (low_bits from n))
      (free_of homes base words live after (Widen signed from to r x) r a refl) refl (cast_small signed from to (low_bits from n)) (makes n is))
    where
      cast_small : (signed : Bool) (from to : Width) (n : ℕ) → cast (widening signed) from to n < 2 ^ 64
      cast_small true from to n = low_small to _
      cast_small false from to n = low_small to n

  pub widen_law : (signed : Bool) (from to : Width) (r x : ℕ) → Law homes base words own plan live after sel input s f callers spans w fl ss tied at_own (Widen signed from to r x)
  widen_law true W1 to r x ready a = widen_met true W1 to r x (λ n is. read_first x n Rcx (cut W1 Rcx ∷ instr.Alu AluOp.Sub Wide.W32 Rax Rax ∷ instr.Alu AluOp.Sub Wide.W64 Rax Rcx ∷ cut to Rax ∷ []) _ (a.reads x (inl refl)) refl is (bit_sign_makes (record w { rcx = n }) fl ss to)) ready a
  widen_law false W1 to r x ready a = widen_met false W1 to r x (λ n is. read_first x n Rax (filled false W1 Rax ∷ cut to Rax ∷ []) _ (a.reads x (inl refl)) refl is (bit_fill_makes (record w { rax = n }) fl ss to)) ready a
  widen_law true W8 to r x ready a = widen_met true W8 to r x (λ n is. read_first x n Rax (filled true W8 Rax ∷ cut to Rax ∷ []) _ (a.reads x (inl refl)) refl is (fill_makes (record w { rax = n }) fl ss true W8 to tt)) ready a
  widen_law false W8 to r x ready a = widen_met false W8 to r x (λ n is. read_first x n Rax (filled false W8 Rax ∷ cut to Rax ∷ []) _ (a.reads x (inl refl)) refl is (fill_makes (record w { rax = n }) fl ss false W8 to tt)) ready a
  widen_law true W16 to r x ready a = widen_met true W16 to r x (λ n is. read_first x n Rax (filled true W16 Rax ∷ cut to Rax ∷ []) _ (a.reads x (inl refl)) refl is (fill_makes (record w { rax = n }) fl ss true W16 to tt)) ready a
  widen_law false W16 to r x ready a = widen_met false W16 to r x (λ n is. read_first x n Rax (filled false W16 Rax ∷ cut to Rax ∷ []) _ (a.reads x (inl refl)) refl is (fill_makes (record w { rax = n }) fl ss false W16 to tt)) ready a
  widen_law true W32 to r x ready a = widen_met true W32 to r x (λ n is. read_first x n Rax (filled true W32 Rax ∷ cut to Rax ∷ []) _ (a.reads x (inl refl)) refl is (fill_makes (record w { rax = n }) fl ss true W32 to tt)) ready a
  widen_law false W32 to r x ready a = widen_met false W32 to r x (λ n is. read_first x n Rax (filled false W32 Rax ∷ cut to Rax ∷ []) _ (a.reads x (inl refl)) refl is (fill_makes (record w { rax = n }) fl ss false W32 to tt)) ready a
  widen_law true W64 to r x ready a = widen_met true W64 to r x (λ n is. read_first x n Rax (filled true W64 Rax ∷ cut to Rax ∷ []) _ (a.reads x (inl refl)) refl is (fill_makes (record w { rax = n }) fl ss true W64 to tt)) ready a
  widen_law false W64 to r x ready a = widen_met false W64 to r x (λ n is. read_first x n Rax (filled false W64 Rax ∷ cut to Rax ∷ []) _ (a.reads x (inl refl)) refl is (fill_makes (record w { rax = n }) fl ss false W64 to tt)) ready a
