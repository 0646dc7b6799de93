-- Operations that assign, by the words of their operands: a register without one leaves the step.
use Rattle.std.proofs.Common.{◌≡◌, ℕ, true, ◌^◌, ◌<◌, List, Option, Some, None, Ok, Err, refl, sym, ◌∙◌, ap, subst, inl, inr, ◌⊎◌}
use Rattle.std.specs.Prelude.{slice_get}
use Rattle.behavior.specs.Ending.{is_left}
use Rattle.behavior.specs.Ending as ending
use Rattle.rd_num.specs.declared.width.Width.{Width}
use Rattle.ir_core.specs.declared.memory.Reason.TheVariants.{Unset}
use Rattle.ir_core.specs.Stops.{Stop, Left, Divide, Answer, and_then, found_or, ending_of}
use Rattle.ir_core.specs.State.{Nothing}
use Rattle.x86_core.specs.declared.flags.Flags.{Flags}
use Rattle.x86_core.specs.declared.image.Segment.{Segment}
use Rattle.x86_core.specs.declared.instr.Instr.{Instr}
use Rattle.x86_rows.specs.Straight.{Stopped, exec}
use Rattle.x86_rows.proofs.Rows.{exec-stopped}
use Rattle.low_core.specs.declared.sel.SelOp.{SelOp}
use Rattle.low_core.specs.Flat.{Span, Flat}
use Rattle.low_core.specs.SelParts.{assigns_of}
use Rattle.low_core.specs.SelState.{SelFrame, SelState, SelTurn, held, word_in, with_register}
use Rattle.low_core.specs.SelStep.{low_bits, of_two, gives_word}
use Rattle.frame_rows.specs.declared.spot.Spot.{Spot}
use Rattle.frame_rows.specs.Words.{Words, core_of}
use Rattle.frame_rows.specs.Code.{both, assigned_row}
use Rattle.frame_rows.specs.Ties.{Tied}
use Rattle.frame_rows.specs.Steps.{IsAllocated, Meets, IsLeft, GoesOn, Divides}
use Rattle.frame_rows.proofs.Kept.{IsFree}
use Rattle.frame_rows.proofs.Results.{Makes, assigns, reads_both}

-- a register has a word, or it has none
pub word_cases : (registers : List (Option ℕ)) (x : ℕ) → ((n : ℕ) × (word_in registers x ≡ Ok n)) ⊎ (word_in registers x ≡ Err (Left Unset))
word_cases registers x = by_slot (slice_get registers x)
  where
    by_slot : (o : Option (Option ℕ)) → ((n : ℕ) × (found_or (Left Unset) (held o) ≡ Ok n)) ⊎ (found_or (Left Unset) (held o) ≡ Err (Left Unset))
    by_slot (Some (Some n)) = inl (n, refl)
    by_slot (Some None) = inr refl
    by_slot None = inr refl

same_register : (r x : ℕ) → Some r ≡ Some x → r ≡ x
same_register r x e = cc

-- the register that is assigned has a home of its own
pub free_of : (homes : ℕ → Spot) (base words : ℕ) (live after : ℕ → Type 0) (op : SelOp) (r : ℕ) → IsAllocated homes live after op → assigns_of op ≡ Some r → IsFree homes base words live after r
free_of homes base words live after op r a e x l ne = (a.stays x l (λ z. ne (sym (same_register r x (sym e ∙ z)))), a.apart x r e l ne)

module _ (homes : ℕ → Spot) (base words : ℕ) (live after : ℕ → Type 0) (s : SelState) (f : SelFrame) (callers : List SelFrame) (spans : List Span) (w : Words) (fl : Flags) (ss : List Segment) where
  -- the flat memory of the state
  abbrev pub flat : Flat
  flat = record { spans = spans; bytes = s.bytes }

  -- a row and a turn meet
  abbrev pub Met : List Instr → Answer SelTurn → Type 0
  Met row turn = Meets homes base words row w fl ss after f callers spans turn

  -- the turn that an answer gives for a register
  abbrev pub given : ℕ → Answer ℕ → Answer SelTurn
  given r answer = and_then answer (λ n. gives_word s f callers (Some r) n Nothing)

  pub met_as : (row : List Instr) (turn other : Answer SelTurn) → turn ≡ other → Met row other → Met row turn
  met_as row turn other e m = subst (Met row) (sym e) m

  pub left_met : (row : List Instr) (r : ℕ) (answer : Answer ℕ) (stop : Stop) → answer ≡ Err stop → is_left (ending_of stop) ≡ true → Met row (given r answer)
  left_met row r answer stop e l = IsLeft stop (ap (given r) e) l

  module _ (tied : Tied homes base words live f.registers flat w ss) where
    -- the row makes the answer
    pub made_met : (r : ℕ) (row : List Instr) (answer : Answer ℕ) (n : ℕ) → IsFree homes base words live after r → answer ≡ Ok n → n < 2 ^ 64 → Makes row w fl ss n → Met (assigned_row homes r row) (given r answer)
    made_met r row answer n free e small m = GoesOn (with_register f.registers r n) s.bytes (ap (given r) e) (assigns homes base words row live after f.registers flat w fl ss r n free small tied m)

    -- the row and the answer stop at a division
    pub divided_met : (r : ℕ) (row : List Instr) (answer : Answer ℕ) → answer ≡ Err Divide → exec row (core_of w fl ss) ≡ Stopped ending.Divide → Met (assigned_row homes r row) (given r answer)
    divided_met r row answer e stops = Divides (ap (given r) e) (exec-stopped row _ (core_of w fl ss) ending.Divide stops)

    -- one operand
    pub one_met : (row : List Instr) (r x : ℕ) (g : ℕ → Answer ℕ) → ((a : ℕ) → word_in f.registers x ≡ Ok a → Met row (given r (g a))) → Met row (given r (and_then (word_in f.registers x) g))
    one_met row r x g go = elim (word_cases f.registers x) [
      | inl p ↦ met_as row _ _ (ap (λ q. given r (and_then q g)) p.1) (go p.0 p.1)
      | inr e ↦ left_met row r _ (Left Unset) (ap (λ q. and_then q g) e) refl
    ]

    -- two operands, of which the low bits count
    pub two_met : (row : List Instr) (r : ℕ) (wi : Width) (x y : ℕ) (g : ℕ → ℕ → Answer ℕ) → ((a b : ℕ) → word_in f.registers x ≡ Ok a → word_in f.registers y ≡ Ok b → Met row (given r (g (low_bits wi a) (low_bits wi b)))) →
        Met row (given r (of_two f.registers wi x y g))
    two_met row r wi x y g go = one_met row r x (λ a. and_then (word_in f.registers y) (λ b. g (low_bits wi a) (low_bits wi b))) (λ a is. one_met row r y (λ b. g (low_bits wi a) (low_bits wi b)) (λ b js. go a b is js))

    -- what two operands in rax and rcx make
    pub makes_both : (x y a b : ℕ) (row : List Instr) (n : ℕ) → live x → live y → word_in f.registers x ≡ Ok a → word_in f.registers y ≡ Ok b → Makes row (record w { rax = a; rcx = b }) fl ss n → Makes (both homes x y row) w fl ss n
    makes_both x y a b row n l m is js made = record {
      after = made.after;
      flags = made.flags;
      runs = reads_both homes base words live f.registers flat w fl ss x y a b row tied l m is js ∙ made.runs;
      made = made.made;
      same = record { rbx = made.same.rbx; rbp = made.same.rbp; rsp = made.same.rsp; r12 = made.same.r12; r13 = made.same.r13; r14 = made.same.r14; r15 = made.same.r15 };
    }
