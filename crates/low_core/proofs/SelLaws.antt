-- What every run of a program of registers has, whatever its operations do.
use Rattle.std.proofs.Common.{◌≡◌, ℕ, List, Ok, Err, refl, false}
use Rattle.behavior.specs.Ending.{Ending, Going, is_going}
use Rattle.behavior.specs.Moment.{HasStopped}
use Rattle.behavior.specs.System.{AddsAtMostOne, Silent, Prints, Takes}
use Rattle.ir_core.specs.Stops.{Answer}
use Rattle.ir_core.specs.State.{Exchange, Nothing, Print, Take}
use Rattle.low_core.specs.declared.sel.Sel.{Sel}
use Rattle.low_core.specs.Flat.{Bytes}
use Rattle.low_core.specs.Plan.{Plan, Content}
use Rattle.low_core.specs.SelState.{SelFrame, SelState, SelTurn, sel_moment, sel_turned, flat_of}
use Rattle.low_core.specs.SelStep.{sel_turn_of, sel_step}

-- what a turn adds
turned_adds : (s : SelState) (a : Answer SelTurn) → AddsAtMostOne (sel_moment s) (sel_moment (sel_turned s a))
turned_adds s (Ok t) = exchanged t.frames t.bytes t.exchange
  where
    exchanged : (frames : List SelFrame) (bytes : Bytes) (x : Exchange) → AddsAtMostOne (sel_moment s) (sel_moment (sel_turned s (Ok (record { frames = frames; bytes = bytes; exchange = x }))))
    exchanged frames bytes Nothing = Silent refl refl
    exchanged frames bytes (Print byte) = Prints byte refl refl refl
    exchanged frames bytes Take = Takes refl refl refl
turned_adds s (Err stop) = Silent refl refl

module _ (sel : Sel) (plan : Plan) (contents : List Content) (input : List ℕ) where
  -- what a step adds, by the fields of the state
  adds_at : (frames : List SelFrame) (bytes : Bytes) (printed : List ℕ) (taken : ℕ) (ending : Ending) →
      let s : SelState = record { frames = frames; bytes = bytes; printed = printed; taken = taken; ending = ending } in
      AddsAtMostOne (sel_moment s) (sel_moment (sel_step sel plan contents input s))
  unfolding sel_step
  adds_at frames bytes printed taken Going =
      let s : SelState = record { frames = frames; bytes = bytes; printed = printed; taken = taken; ending = Going } in
      turned_adds s (sel_turn_of sel plan (flat_of plan contents s) input s frames)
  adds_at frames bytes printed taken stopped = Silent refl refl

  -- a step of a run that has stopped, by the fields of the state
  stays_at : (frames : List SelFrame) (bytes : Bytes) (printed : List ℕ) (taken : ℕ) (ending : Ending) → is_going ending ≡ false →
      let s : SelState = record { frames = frames; bytes = bytes; printed = printed; taken = taken; ending = ending } in
      sel_step sel plan contents input s ≡ s
  unfolding sel_step
  stays_at frames bytes printed taken Going h = absurd (cc)
  stays_at frames bytes printed taken stopped h = refl

-- a step prints at most one byte or takes at most one, and then the run goes on
pub sel_adds : (sel : Sel) (plan : Plan) (contents : List Content) (input : List ℕ) (s : SelState) → AddsAtMostOne (sel_moment s) (sel_moment (sel_step sel plan contents input s))
sel_adds sel plan contents input s = adds_at sel plan contents input s.frames s.bytes s.printed s.taken s.ending

-- a run that has stopped stays as it is
pub sel_stays : (sel : Sel) (plan : Plan) (contents : List Content) (input : List ℕ) (s : SelState) → HasStopped (sel_moment s) → sel_step sel plan contents input s ≡ s
sel_stays sel plan contents input s h = stays_at sel plan contents input s.frames s.bytes s.printed s.taken s.ending h
