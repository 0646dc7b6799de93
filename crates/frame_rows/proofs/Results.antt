-- The form of each law: a row that makes a word in rax, and a row that leads from ties to ties.
use Rattle.std.proofs.Common.{◌≡◌, ℕ, ◌^◌, ◌<◌, List, [], ◌∷◌, Option, Ok, refl, ◌∙◌}
use Rattle.x86_core.specs.declared.flags.Flags.{Flags}
use Rattle.x86_core.specs.declared.reg.Reg.{Reg}
use Rattle.x86_core.specs.declared.reg.Reg.TheVariants.{Rax, Rcx}
use Rattle.x86_core.specs.declared.image.Segment.{Segment}
use Rattle.x86_core.specs.declared.instr.Instr.{Instr}
use Rattle.x86_rows.specs.Straight.{Through, ran, exec}
use Rattle.x86_rows.proofs.Rows.{exec-first, exec-through}
use Rattle.low_core.specs.Flat.{Flat}
use Rattle.low_core.specs.SelState.{word_in, with_register}
use Rattle.frame_rows.specs.declared.spot.Spot.{Spot}
use Rattle.frame_rows.specs.Words.{Words, with_held, core_of}
use Rattle.frame_rows.specs.Code.{home_read, home_write, both, assigned_row}
use Rattle.frame_rows.specs.Ties.{Tied}
use Rattle.frame_rows.specs.Steps.{Leads}
use Rattle.frame_rows.proofs.Registers.{Same}
use Rattle.frame_rows.proofs.Homes.{home_read_law, home_write_law}
use Rattle.frame_rows.proofs.Kept.{IsFree, tied_same, tied_assigned}

-- a row that makes a number in rax, with scratch registers alone
pub record Makes (row : List Instr) (w : Words) (f : Flags) (ss : List Segment) (n : ℕ) : Type 0 where
  pub after : Words
  pub flags : Flags
  pub runs : exec row (core_of w f ss) ≡ Through (core_of after flags ss)
  pub made : after.rax ≡ n
  pub same : Same w after

module _ (homes : ℕ → Spot) (base words : ℕ) where
  -- the made number goes to the home of the register that is assigned
  pub assigns : (row : List Instr) (live after : ℕ → Type 0) (registers : List (Option ℕ)) (flat : Flat) (w : Words) (f : Flags) (ss : List Segment) (r n : ℕ) → IsFree homes base words live after r → n < 2 ^ 64 →
      Tied homes base words live registers flat w ss → Makes row w f ss n → Leads homes base words (assigned_row homes r row) w f ss after (with_register registers r n) flat
  assigns row live after registers flat w f ss r n free small tied m =
      let t = tied_same homes base words live registers flat w m.after ss m.same tied in
      let x = home_write_law base words m.after m.flags ss (homes r) Rax n t.room t.at_base small (t.spots r) m.made in
      record {
        after = x.after;
        flags = m.flags;
        segments = x.segments;
        runs = exec-through row (home_write (homes r) Rax ∷ []) (core_of w f ss) (core_of m.after m.flags ss) m.runs ∙ exec-first (home_write (homes r) Rax) [] (core_of m.after m.flags ss) (core_of x.after m.flags x.segments) x.runs;
        tied = tied_assigned homes base words live after registers flat m.after m.flags ss r Rax n free small t x;
        depth = x.depth ∙ m.same.r15;
        shape = x.shape;
        others = λ p off outside. x.outside p off;
      }

  module _ (live : ℕ → Type 0) (registers : List (Option ℕ)) (flat : Flat) (w : Words) (f : Flags) (ss : List Segment) (tied : Tied homes base words live registers flat w ss) where
    -- an operand comes into a register
    pub reads_one : (x a : ℕ) (t : Reg) → live x → word_in registers x ≡ Ok a → ran (home_read (homes x) t) (core_of w f ss) ≡ Through (core_of (with_held w t a) f ss)
    reads_one x a t l is = home_read_law base words w f ss (homes x) t a tied.room tied.at_base (tied.small x a is) (tied.spots x) (tied.kept x a l is)

  -- two operands come into rax and rcx
  pub reads_both : (live : ℕ → Type 0) (registers : List (Option ℕ)) (flat : Flat) (w : Words) (f : Flags) (ss : List Segment) (x y a b : ℕ) (row : List Instr) → Tied homes base words live registers flat w ss →
      live x → live y → word_in registers x ≡ Ok a → word_in registers y ≡ Ok b → exec (both homes x y row) (core_of w f ss) ≡ exec row (core_of (record w { rax = a; rcx = b }) f ss)
  reads_both live registers flat w f ss x y a b row tied l m is js =
      let w1 : Words = record w { rax = a } in
      let same : Same w w1 = record { rbx = refl; rbp = refl; rsp = refl; r12 = refl; r13 = refl; r14 = refl; r15 = refl } in
      exec-first (home_read (homes x) Rax) (home_read (homes y) Rcx ∷ row) (core_of w f ss) (core_of w1 f ss) (reads_one live registers flat w f ss tied x a Rax l is) ∙
      exec-first (home_read (homes y) Rcx) row (core_of w1 f ss) (core_of (record w { rax = a; rcx = b }) f ss)
      (reads_one live registers flat w1 f ss (tied_same homes base words live registers flat w w1 ss same tied) y b Rcx m js)
