-- The laws of constants, copies, operations on two words, places, loads and stores.
use Rattle.std.proofs.Common.{◌≡◌, ℕ, ◌+◌, zero, suc, List, [], ◌∷◌, Some, None, Ok, get_or, refl, ◌∙◌, ap, subst, inl, inr, ◌⊎◌, arith}
use Rattle.std.specs.Prelude.{slice_get}
use Rattle.rd_num.specs.declared.width.Width.{Width}
use Rattle.ir_core.specs.declared.memory.Reason.TheVariants.{Bounds, Unset}
use Rattle.ir_core.specs.Arithmetic.{binary}
use Rattle.ir_core.specs.Shapes.{bytes_of}
use Rattle.ir_core.specs.Stops.{Left, Malformed, Answer, and_then, found_or}
use Rattle.x86_core.specs.declared.flags.Flags.{Flags}
use Rattle.x86_core.specs.declared.reg.Reg.TheVariants.{Rax}
use Rattle.x86_core.specs.declared.image.Segment.{Segment}
use Rattle.x86_core.specs.declared.instr.Instr.TheVariants as instr
use Rattle.x86_rows.proofs.Rows.{exec-first}
use Rattle.low_core.specs.declared.sel.Sel.{Sel}
use Rattle.low_core.specs.declared.sel.SelAlu.{SelAlu}
use Rattle.low_core.specs.declared.sel.SelOp.{SelOp}
use Rattle.low_core.specs.declared.sel.SelOp.TheVariants.{Set, Copy, Alu, Load, Store, FrameAt, GlobalAt, FunctionAt}
use Rattle.low_core.specs.Flat.{Span, word_at, with_word_at}
use Rattle.low_core.specs.Plan.{Plan}
use Rattle.low_core.specs.SelState.{SelFrame, SelState, SelTurn, word_in}
use Rattle.low_core.specs.SelStep.{low_bits, alu_op, op_turn, puts_bytes}
use Rattle.frame_rows.specs.declared.spot.Spot.{Spot}
use Rattle.frame_rows.specs.Words.{Words, core_of}
use Rattle.frame_rows.specs.Code.{home_read, result_row, op_row, alu_row}
use Rattle.frame_rows.specs.Ties.{Tied}
use Rattle.frame_rows.specs.Steps.{IsReady, IsAllocated, Meets, IsLeft, GoesOn}
use Rattle.frame_rows.proofs.Results.{Makes, reads_one}
use Rattle.frame_rows.proofs.Numbers.{alu_word, alu_answer, alu_small}
use Rattle.frame_rows.proofs.Plain.{set_makes, place_makes, alu_makes, scratch_same}
use Rattle.frame_rows.proofs.Meeting.{word_cases, free_of, Met, given, left_met, made_met, one_met, two_met, makes_both}
use Rattle.frame_rows.proofs.Accesses.{load_cases, load_makes, load_small}
use Rattle.frame_rows.proofs.Stores.{put_word, store_cases, store_leads}

-- an entry of a list, or nothing
entry_cases : (xs : List ℕ) (k : ℕ) → ((n : ℕ) × ((slice_get xs k ≡ Some n) × (get_or xs k 0 ≡ n))) ⊎ (slice_get xs k ≡ None)
entry_cases [] k = inr refl
entry_cases (x ∷ xs) zero = inl (x, (refl, refl))
entry_cases (x ∷ xs) (suc k) = entry_cases xs k

module _ (homes : ℕ → Spot) (base words own : ℕ) (plan : Plan) (live after : ℕ → Type 0) (sel : Sel) (input : List ℕ) (s : SelState) (f : SelFrame) (callers : List SelFrame) (spans : List Span) (w : Words) (fl : Flags) (ss : List Segment)
    (tied : Tied homes base words live f.registers (record { spans = spans; bytes = s.bytes }) w ss) (at_own : f.own.start ≡ base + own) where
  -- the law of an operation
  abbrev pub Law : SelOp → Type 0
  Law op = IsReady plan base own op → IsAllocated homes live after op →
      Meets homes base words (op_row homes plan own op) w fl ss after f callers spans (op_turn sel plan (record { spans = spans; bytes = s.bytes }) input s f callers op)

  pub set_law : (r n : ℕ) → Law (Set r n)
  set_law r n ready a = made_met homes base words live after s f callers spans w fl ss tied r (result_row homes plan own (Set r n)) (Ok n) n (free_of homes base words live after (Set r n) r a refl) refl ready (set_makes w fl ss n)

  pub copy_law : (r x : ℕ) → Law (Copy r x)
  copy_law r x ready a = elim (word_cases f.registers x) [
    | inr e ↦ left_met homes base words live after s f callers spans w fl ss (op_row homes plan own (Copy r x)) r (word_in f.registers x) (Left Unset) e refl
    | inl p ↦ made_met homes base words live after s f callers spans w fl ss tied r (home_read (homes x) Rax ∷ []) (word_in f.registers x) p.0 (free_of homes base words live after (Copy r x) r a refl) p.1 (tied.small x p.0 p.1) (makes p.0 p.1)
  ]
    where
      makes : (n : ℕ) → word_in f.registers x ≡ Ok n → Makes (home_read (homes x) Rax ∷ []) w fl ss n
      makes n is = record {
        after = record w { rax = n };
        flags = fl;
        runs = exec-first (home_read (homes x) Rax) [] (core_of w fl ss) (core_of (record w { rax = n }) fl ss) (reads_one homes base words live f.registers (record { spans = spans; bytes = s.bytes }) w fl ss tied x n Rax (a.reads x (inl refl)) is);
        made = refl;
        same = scratch_same w n w.rcx w.rdx;
      }

  pub alu_law : (o : SelAlu) (wi : Width) (r x y : ℕ) → Law (Alu o wi r x y)
  alu_law o wi r x y ready a =
      two_met homes base words live after s f callers spans w fl ss tied (op_row homes plan own (Alu o wi r x y)) r wi x y (λ m n. binary (alu_op o) wi m n) (λ m n is js.
      made_met homes base words live after s f callers spans w fl ss tied r (result_row homes plan own (Alu o wi r x y)) (binary (alu_op o) wi (low_bits wi m) (low_bits wi n)) (alu_word o wi (low_bits wi m) (low_bits wi n))
      (free_of homes base words live after (Alu o wi r x y) r a refl) (alu_answer o wi (low_bits wi m) (low_bits wi n)) (alu_small o wi m n)
      (makes_both homes base words live after s f callers spans w fl ss tied x y m n (alu_row o wi) _ (a.reads x (inl refl)) (a.reads y (inr (inl refl))) is js (alu_makes (record w { rax = m; rcx = n }) fl ss o wi)))

  pub load_law : (wi : Width) (r x : ℕ) → Law (Load wi r x)
  load_law wi r x ready a = one_met homes base words live after s f callers spans w fl ss tied (op_row homes plan own (Load wi r x)) r x (λ at. word_at (record { spans = spans; bytes = s.bytes }) at (bytes_of wi)) by_word
    where
      by_word : (at : ℕ) → word_in f.registers x ≡ Ok at → Met homes base words live after s f callers spans w fl ss (op_row homes plan own (Load wi r x)) (given homes base words live after s f callers spans w fl ss r (word_at (record { spans = spans; bytes = s.bytes }) at (bytes_of wi)))
      by_word at is = elim (load_cases (record { spans = spans; bytes = s.bytes }) at (bytes_of wi)) [
        | inl p ↦ made_met homes base words live after s f callers spans w fl ss tied r (result_row homes plan own (Load wi r x)) (word_at (record { spans = spans; bytes = s.bytes }) at (bytes_of wi)) p.0 (free_of homes base words live after (Load wi r x) r a refl) p.1.0
            (load_small homes base words live f.registers (record { spans = spans; bytes = s.bytes }) w fl ss tied wi at p.0 p.1.1) (load_makes homes base words live f.registers (record { spans = spans; bytes = s.bytes }) w fl ss tied wi x at p.0 (a.reads x (inl refl)) is p.1.1)
        | inr q ↦ elim q [
          | inl e ↦ left_met homes base words live after s f callers spans w fl ss (op_row homes plan own (Load wi r x)) r _ (Left Bounds) e refl
          | inr e ↦ left_met homes base words live after s f callers spans w fl ss (op_row homes plan own (Load wi r x)) r _ (Left Unset) e refl
        ]
      ]

  pub frame_law : (r at : ℕ) → Law (FrameAt r at)
  frame_law r at ready a =
      let e : f.own.start + at ≡ base + (own + at) = omega (arith, at_own) in
      made_met homes base words live after s f callers spans w fl ss tied r (result_row homes plan own (FrameAt r at)) (Ok (f.own.start + at)) (base + (own + at)) (free_of homes base words live after (FrameAt r at) r a refl) (ap Ok e) ready.1
      (place_makes w fl ss (own + at) base tied.at_base ready.1)

  pub global_law : (r g : ℕ) → Law (GlobalAt r g)
  global_law r g ready a = elim (entry_cases plan.globals g) [
    | inl p ↦ made_met homes base words live after s f callers spans w fl ss tied r (result_row homes plan own (GlobalAt r g)) (found_or Malformed (slice_get plan.globals g)) p.0 (free_of homes base words live after (GlobalAt r g) r a refl) (ap (found_or Malformed) p.1.0) (ready p.0 p.1.0)
        (subst (λ n. Makes (instr.MovImm64 Rax (get_or plan.globals g 0) ∷ []) w fl ss n) p.1.1 (set_makes w fl ss (get_or plan.globals g 0)))
    | inr e ↦ left_met homes base words live after s f callers spans w fl ss (op_row homes plan own (GlobalAt r g)) r _ Malformed (ap (found_or Malformed) e) refl
  ]

  pub function_law : (r g : ℕ) → Law (FunctionAt r g)
  function_law r g ready a = elim (entry_cases plan.functions g) [
    | inl p ↦ made_met homes base words live after s f callers spans w fl ss tied r (result_row homes plan own (FunctionAt r g)) (found_or Malformed (slice_get plan.functions g)) p.0 (free_of homes base words live after (FunctionAt r g) r a refl) (ap (found_or Malformed) p.1.0) (ready p.0 p.1.0)
        (subst (λ n. Makes (instr.MovImm64 Rax (get_or plan.functions g 0) ∷ []) w fl ss n) p.1.1 (set_makes w fl ss (get_or plan.functions g 0)))
    | inr e ↦ left_met homes base words live after s f callers spans w fl ss (op_row homes plan own (FunctionAt r g)) r _ Malformed (ap (found_or Malformed) e) refl
  ]

  -- nothing is assigned by a store
  pub store_law : (wi : Width) (x y : ℕ) → Law (Store wi x y)
  store_law wi x y ready a = elim (word_cases f.registers x) [
    | inr e ↦ IsLeft (Left Unset) (ap (λ q. and_then q (λ at. and_then (word_in f.registers y) (λ word. put at word))) e) refl
    | inl p ↦ elim (word_cases f.registers y) [
      | inr e ↦ IsLeft (Left Unset) (ap (λ q. and_then q (λ at. and_then (word_in f.registers y) (λ word. put at word))) p.1 ∙ ap (λ q. and_then q (λ word. put p.0 word)) e) refl
      | inl q ↦
          let turn = ap (λ q. and_then q (λ at. and_then (word_in f.registers y) (λ word. put at word))) p.1 ∙ ap (λ q. and_then q (λ word. put p.0 word)) q.1 in
          elim (store_cases (record { spans = spans; bytes = s.bytes }) p.0 (bytes_of wi) q.0) [
            | inl z ↦ GoesOn f.registers (put_word (record { spans = spans; bytes = s.bytes }) p.0 (bytes_of wi) q.0) (turn ∙ ap (puts_bytes f callers) z.1)
                (store_leads homes base words live after f.registers (record { spans = spans; bytes = s.bytes }) w fl ss tied wi x y p.0 q.0 (a.reads x (inl refl)) (a.reads y (inr (inl refl))) (λ v l. a.stays v l (λ e. absurd (cc))) p.1 q.1 z.0)
            | inr e ↦ IsLeft (Left Bounds) (turn ∙ ap (puts_bytes f callers) e) refl
          ]
    ]
  ]
    where
      put : ℕ → ℕ → Answer SelTurn
      put at word = puts_bytes f callers (with_word_at (record { spans = spans; bytes = s.bytes }) at (bytes_of wi) word)
