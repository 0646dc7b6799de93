-- The result of a call goes to its home, where it is wanted.
use Rattle.std.proofs.Common.{◌≡◌, ◌≢◌, ℕ, ◌^◌, ◌<◌, List, [], Option, Some, None, refl, sym}
use Rattle.x86_core.specs.declared.flags.Flags.{Flags}
use Rattle.x86_core.specs.declared.reg.Reg.TheVariants.{Rax}
use Rattle.x86_core.specs.declared.image.Segment.{Segment}
use Rattle.x86_rows.proofs.Rows.{exec-first}
use Rattle.x86_rows.proofs.Shapes.{shape_refl}
use Rattle.low_core.specs.Flat.{Flat}
use Rattle.low_core.specs.SelStep.{with_result}
use Rattle.frame_rows.specs.declared.spot.Spot.{Spot}
use Rattle.frame_rows.specs.Code.{home_write}
use Rattle.frame_rows.specs.Steps.{Leads}
use Rattle.frame_rows.specs.Ties.{Differ, Tied}
use Rattle.frame_rows.specs.Words.{Words, core_of}
use Rattle.frame_rows.proofs.Homes.{home_write_law}
use Rattle.frame_rows.proofs.Kept.{tied_fewer, tied_assigned}
use Rattle.frame_lower.specs.Calls.{take_row}

same_one : (r x : ℕ) → Some r ≡ Some x → r ≡ x
same_one r x e = cc

none_some : (x : ℕ) → let none : Option ℕ = None in none ≡ Some x → ⊥
none_some x e = absurd (cc)

-- what lives behind a call but for the result, and with it
module _ (homes : ℕ → Spot) (base words : ℕ) (live : ℕ → Type 0) where
  abbrev pub LiveBeside : Option ℕ → ℕ → Type 0
  LiveBeside into x = live x × (into ≢ Some x)

  pub takes : (into : Option ℕ) (registers : List (Option ℕ)) (flat : Flat) (w : Words) (f : Flags) (ss : List Segment) (n : ℕ) → ((x r : ℕ) → into ≡ Some r → live x → x ≢ r → Differ (homes x) (homes r)) →
      ((r : ℕ) → into ≡ Some r → (w.rax ≡ n) × (n < 2 ^ 64)) →
      Tied homes base words (LiveBeside into) registers flat w ss → Leads homes base words (take_row homes into) w f ss live (with_result into n registers) flat
  takes None registers flat w f ss n apart result tied = record {
    after = w;
    flags = f;
    segments = ss;
    runs = refl;
    tied = tied_fewer homes base words (LiveBeside None) live registers flat w ss (λ x l. (l, none_some x)) tied;
    depth = refl;
    shape = shape_refl ss;
    others = λ p o outside. refl;
  }
  takes (Some r) registers flat w f ss n apart result tied =
      let is = result r refl in
      let x = home_write_law base words w f ss (homes r) Rax n tied.room tied.at_base is.1 (tied.spots r) is.0 in
      record {
        after = x.after;
        flags = f;
        segments = x.segments;
        runs = exec-first (home_write (homes r) Rax) [] (core_of w f ss) (core_of x.after f x.segments) x.runs;
        tied = tied_assigned homes base words (LiveBeside (Some r)) live registers flat w f ss r Rax n (λ y l ne. ((l, λ e. ne (sym (same_one r y e))), apart y r refl l ne)) is.1 tied x;
        depth = x.depth;
        shape = x.shape;
        others = λ p o outside. x.outside p o;
      }
