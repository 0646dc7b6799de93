-- Steps of a program in a row are steps of the meaning, and where they end.
use Rattle.std.proofs.Common.{◌≡◌, ◌<◌, ℕ, zero, suc, ◌+◌, ◌-◌, false, List, [], ◌∷◌, ◌++◌, Option, Some, None, Ok, Err, length, drop, slice_get, refl, ap, sym, ◌∙◌, subst, inl, inr, arith, length-append}
use Rattle.std.specs.Prelude.{◌⊎◌, if◌then◌else◌}
use Rattle.behavior.specs.Ending.{Ending, is_going, if_going}
use Rattle.behavior.specs.Ending as ending
use Rattle.behavior.specs.System.{iter}
use Rattle.behavior.proofs.Between.{iter_add}
use Rattle.rd_io.specs.Outside.{Takes, Gets, Counts, Appended, AppendedPart}
use Rattle.rd_io.specs.Told.{SourceTold, SinkTold}
use Rattle.rd_io.specs.declared.RunFault.{RunFault}
use Rattle.rd_io.specs.declared.RunFault.TheVariants as fault
use Rattle.rd_io.proofs.Grown.{gets_nothing, counts_nothing, gets_both, counts_both}
use Rattle.ir_core.specs.declared.module.Module.{Module}
use Rattle.ir_core.specs.State as model
use Rattle.ir_core.specs.Stops.{Answer, ending_of}
use Rattle.ir_core.specs.Stops as stops
use Rattle.ir_core.specs.Step.{source_step, turn_of}
use Rattle.ir_core.specs.Run.{source_start}
use Rattle.ir_core.specs.declared.stop.Stop.{Stop}
use Rattle.ir_core.specs.declared.stop.Stop.TheVariants as stop
use Rattle.ir_core.specs.Answers.{stop_of}
use Rattle.ir_program.specs.declared.program.Program.{Program}
use Rattle.ir_program.specs.Programs.{program_of}
use Rattle.ir_run.specs.declared.state.State.{State}
use Rattle.ir_run.specs.declared.state.Asked.{Asked}
use Rattle.ir_run.specs.declared.state.Asked.TheVariants.{Nothing, Print, Take}
use Rattle.ir_run.specs.Turns.{Turned, turned, gives, next_turn}
use Rattle.ir_run.specs.Standing.{StandsFor, FillsWide, Came, CameAsked, Meets}
use Rattle.ir_run.specs.Agreement.{Agrees}
use Rattle.ir_run.specs.Runs.{byte_value, Did, Lacked, Exchanged, LackedIn, Stepped, state_after, Exchanges, Goes, Followed, AsksIn, PrintsPart, IsCut, IsRun, Ran}
use Rattle.ir_run.proofs.Turning.{turn_meets}

-- a step by its turn and what came of what it asked
pub stepped_more : {T : Type 0} (p : Program) (old mid new : State) (asked : Asked) (a a2 : SourceTold) (b b2 : SinkTold) (x : T) → Ok (turned mid asked) ≡ next_turn p old
    → Exchanged mid asked new a a2 b b2 (Ok x) → Stepped p old new a a2 b b2 (Ok None)
unfolding Stepped
stepped_more p old mid new asked a a2 b b2 x is did = (turned mid asked, (is, did))

pub stepped_stop : (p : Program) (old new : State) (a : SourceTold) (b : SinkTold) (s : Stop) → Err (stop_of s) ≡ next_turn p old → Stepped p old new a a b b (Ok (Some s))
unfolding Stepped
stepped_stop p old new a b s is = (is, refl, refl)

pub stepped_lacks : (T : Type 0) (p : Program) (old mid new : State) (asked : Asked) (a a2 : SourceTold) (b b2 : SinkTold) (e : RunFault) → Ok (turned mid asked) ≡ next_turn p old
    → Exchanged {T = T} mid asked new a a2 b b2 (Err e) → Stepped p old new a a2 b b2 (Err e)
unfolding Stepped
stepped_lacks T p old mid new asked a a2 b b2 fault.Input is lacked = (turned mid asked, (is, lacked))
stepped_lacks T p old mid new asked a a2 b b2 fault.Output is lacked = (turned mid asked, (is, lacked))
stepped_lacks T p old mid new asked a a2 b b2 fault.NoMemory is lacked = inr (turned mid asked, (is, lacked))

pub stepped_wants : (p : Program) (old new : State) (a : SourceTold) (b : SinkTold) → Stepped p old new a a b b (Err fault.NoMemory)
unfolding Stepped
stepped_wants p old new a b = inl (refl, refl)

-- a step of the meaning by what is next
step_is : (m : Module) (input : List ℕ) (s : model.State) (x : Answer model.Turn) → s.ending ≡ ending.Going → turn_of m input s s.frames ≡ x → source_step m input s ≡ model.turned s x
unfolding source_step
step_is m input s x going is = ap (λ e. if_going e (model.turned s (turn_of m input s s.frames)) s) going ∙ ap (model.turned s) is

-- a run that has stopped stays
step_stays : (m : Module) (input : List ℕ) (s : model.State) → is_going s.ending ≡ false → source_step m input s ≡ s
unfolding source_step
step_stays m input s stopped = ap (λ b. if b then model.turned s (turn_of m input s s.frames) else s) stopped

-- how many bytes are taken once one was, or the end was met
abbrev taken_after : ℕ → Option ℕ → ℕ
taken_after k (Some b) = k + 1
taken_after k None = k

-- a byte that was taken is the next one
took_at : (input : List ℕ) (k : ℕ) (left : Option (List ℕ)) (o : Option ℕ) → Takes {E = Unit {0}} (Some (drop k input)) left (Ok o)
    → (slice_get input k ≡ o) × (left ≡ Some (drop (taken_after k o) input))
took_at [] zero left None h = (refl, h.1)
took_at [] zero left (Some b) h = let e = h.0 in absurd (cc)
took_at [] (suc k) left None h = (refl, h.1)
took_at [] (suc k) left (Some b) h = let e = h.0 in absurd (cc)
took_at (x ∷ xs) zero left None h = let e = h.0 in absurd (cc)
took_at (x ∷ xs) zero left (Some b) h = (sym h.0, h.1)
took_at (x ∷ xs) (suc k) left None h = took_at xs k left None h
took_at (x ∷ xs) (suc k) left (Some b) h =
    let r = took_at xs k left (Some b) h in
    let e : suc (k + 1) ≡ suc k + 1 = omega arith in
    (r.0, r.1 ∙ ap (λ n. Some (drop n (x ∷ xs))) e)

-- what a state comes to with a turn
abbrev turn_state : model.State → model.Turn → model.State
turn_state s t = model.turned s (Ok t)

module _ (m : Module) (input : List ℕ) (s : model.State) (st2 : State) (a a2 : SourceTold) (b b1 b2 : SinkTold) (outside : Exchanges s input a b b1) where
  -- nothing was asked
  silent_goes : (st : State) → Came m st (turn_of m input s s.frames) model.Nothing → st2 ≡ st → a2 ≡ a → b2 ≡ b1 → s.ending ≡ ending.Going → Goes m input (source_step m input s) st2 a2 b b2
  silent_goes st came same same_a same_b going =
      let is : source_step m input s ≡ turn_state s came.turn = step_is m input s (Ok came.turn) going came.is in
      subst (λ (u : model.State). Goes m input u st2 a2 b b2) (sym is) (record {
        going = refl;
        stands = subst (λ (u : State). StandsFor m u came.turn.frames came.turn.objects) (sym same) came.stands;
        outside = record {
          left = ap (λ (t : SourceTold). t.left) same_a ∙ outside.left ∙ ap (λ e. Some (drop (model.taken_with s.taken e) input)) (sym came.exchanged);
          written = subst (λ (t : SinkTold). Gets b.written t.written (model.printed_with s.printed came.turn.exchange)) (sym same_b)
              (subst (λ e. Gets b.written b1.written (model.printed_with s.printed e)) (sym came.exchanged) outside.written);
          total = subst (λ (t : SinkTold). Counts b.total t.total (length (model.printed_with s.printed came.turn.exchange))) (sym same_b)
              (subst (λ e. Counts b.total b1.total (length (model.printed_with s.printed e))) (sym came.exchanged) outside.total);
        };
      })

  -- a byte was printed
  print_goes : (st : State) (byte : ℕ) → Came m st (turn_of m input s s.frames) (model.Print byte) → st2 ≡ st → a2 ≡ a → Appended b1 b2 (byte ∷ []) → s.ending ≡ ending.Going
      → Goes m input (source_step m input s) st2 a2 b b2
  print_goes st byte came same same_a put going =
      let is : source_step m input s ≡ turn_state s came.turn = step_is m input s (Ok came.turn) going came.is in
      let many : length (s.printed ++ byte ∷ []) ≡ length s.printed + 1 = length-append s.printed (byte ∷ []) in
      let counted : Counts b.total b2.total (length s.printed + 1) = counts_both b.total b1.total b2.total (length s.printed) 1 outside.total put.total in
      subst (λ (u : model.State). Goes m input u st2 a2 b b2) (sym is) (record {
        going = refl;
        stands = subst (λ (u : State). StandsFor m u came.turn.frames came.turn.objects) (sym same) came.stands;
        outside = record {
          left = ap (λ (t : SourceTold). t.left) same_a ∙ outside.left ∙ ap (λ e. Some (drop (model.taken_with s.taken e) input)) (sym came.exchanged);
          written = subst (λ e. Gets b.written b2.written (model.printed_with s.printed e)) (sym came.exchanged)
              (gets_both b.written b1.written b2.written s.printed (byte ∷ []) outside.written put.written);
          total = subst (λ e. Counts b.total b2.total (length (model.printed_with s.printed e))) (sym came.exchanged)
              (subst (λ n. Counts b.total b2.total n) (sym many) counted);
        };
      })

  -- a byte was taken, or the end was met
  take_goes : (st : State) (into : Option ℕ) (o : Option ℕ) (exchange : model.Exchange) → Came m (gives st into (byte_value o)) (turn_of m input s s.frames) exchange
      → model.taken_with s.taken exchange ≡ taken_after s.taken o → model.printed_with s.printed exchange ≡ s.printed
      → st2 ≡ gives st into (byte_value o) → a2.left ≡ Some (drop (taken_after s.taken o) input) → b2 ≡ b1 → s.ending ≡ ending.Going
      → Goes m input (source_step m input s) st2 a2 b b2
  take_goes st into o exchange came takes prints same left same_b going =
      let is : source_step m input s ≡ turn_state s came.turn = step_is m input s (Ok came.turn) going came.is in
      let printed : model.printed_with s.printed came.turn.exchange ≡ s.printed = ap (model.printed_with s.printed) came.exchanged ∙ prints in
      subst (λ (u : model.State). Goes m input u st2 a2 b b2) (sym is) (record {
        going = refl;
        stands = subst (λ (u : State). StandsFor m u came.turn.frames came.turn.objects) (sym same) came.stands;
        outside = record {
          left = left ∙ ap (λ n. Some (drop n input)) (sym takes) ∙ ap (λ e. Some (drop (model.taken_with s.taken e) input)) (sym came.exchanged);
          written = subst (λ (t : SinkTold). Gets b.written t.written (model.printed_with s.printed came.turn.exchange)) (sym same_b) (subst (λ p. Gets b.written b1.written p) (sym printed) outside.written);
          total = subst (λ (t : SinkTold). Counts b.total t.total (length (model.printed_with s.printed came.turn.exchange))) (sym same_b) (subst (λ p. Counts b.total b1.total (length p)) (sym printed) outside.total);
        };
      })

  -- what was asked was done
  did_goes : (st : State) (asked : Asked) → CameAsked m st asked (slice_get input s.taken) (turn_of m input s s.frames) → Did st asked st2 a a2 b1 b2 → s.ending ≡ ending.Going
      → Goes m input (source_step m input s) st2 a2 b b2
  did_goes st Nothing came did going = silent_goes st came did.0 did.1 did.2 going
  did_goes st (Print byte) came did going = print_goes st byte came did.0 did.1 did.2 going
  did_goes st (Take into) came did going = by did.0.byte (took_at input s.taken a2.left did.0.byte (subst (λ l. Takes {E = Unit {0}} l a2.left (Ok did.0.byte)) outside.left did.0.taken)) did.0.given
    where
      by : (o : Option ℕ) → (slice_get input s.taken ≡ o) × (a2.left ≡ Some (drop (taken_after s.taken o) input)) → st2 ≡ gives st into (byte_value o) → Goes m input (source_step m input s) st2 a2 b b2
      by (Some c) at same = take_goes st into (Some c) model.Take (came.byte c at.0) refl refl same at.1 did.1 going
      by None at same = take_goes st into None model.Nothing (came.end at.0) refl refl same at.1 did.1 going

-- no step
pub followed_none : (p : Program) (start : State) (a : SourceTold) (b : SinkTold) → Followed p start 0 start a a b b
unfolding Followed
followed_none p start a b m input agree is starts left = record {
  going = starts.going;
  stands = starts.stands;
  outside = record {
    left = left ∙ ap (λ n. Some (drop n input)) (sym starts.taken);
    written = subst (λ xs. Gets b.written b.written xs) (sym starts.printed) (gets_nothing b.written);
    total = subst (λ xs. Counts b.total b.total (length xs)) (sym starts.printed) (counts_nothing b.total);
  };
}

-- what is next, for a run of the meaning
met : (p : Program) (m : Module) (input : List ℕ) (s : model.State) (st : State) (x : Answer Turned) → Agrees m → p ≡ program_of m → StandsFor m st s.frames s.objects → x ≡ next_turn p st
    → Meets m s.frames (slice_get input s.taken) x (turn_of m input s s.frames)
met p m input s st x agree is stands next =
    subst (λ y. Meets m s.frames (slice_get input s.taken) y (turn_of m input s s.frames)) (sym (next ∙ ap (λ q. next_turn q st) is)) (turn_meets m input s st agree stands)

-- one step more
pub followed_more : (p : Program) (start st st2 : State) (k : ℕ) (a a1 a2 : SourceTold) (b b1 b2 : SinkTold) → Followed p start k st a a1 b b1 → Stepped p st st2 a1 a2 b1 b2 (Ok None)
    → Followed p start (k + 1) st2 a a2 b b2
unfolding Followed Stepped
followed_more p start st st2 k a a1 a2 b b1 b2 followed step m input agree is starts left =
    let s : model.State = state_after m input k in
    let at : Goes m input (state_after m input k) st a1 b b1 = followed m input agree is starts left in
    let goes : Goes m input (source_step m input (state_after m input k)) st2 a2 b b2 =
    did_goes m input (state_after m input k) st2 a1 a2 b b1 b2 at.outside step.0.state step.0.asked
    (met p m input (state_after m input k) st (Ok step.0) agree is at.stands step.1.0) step.1.1 at.going in
    subst (λ (u : model.State). Goes m input u st2 a2 b b2) (iter_add (source_step m input) k 1 (source_start m)) goes

-- all steps
pub ran_all : (p : Program) (start st : State) (n : ℕ) (a a2 : SourceTold) (b b2 : SinkTold) → Followed p start n st a a2 b b2 → Ran p start n a a2 b b2 (Ok None)
unfolding Followed Ran
ran_all p start st n a a2 b b2 followed m input agree is starts left = let at = followed m input agree is starts left in (at.going, at.outside)

-- a stop is no going on
stops_going : (s : stops.Stop) → is_going (ending_of s) ≡ false
stops_going (stops.Ended status) = refl
stops_going stops.Divide = refl
stops_going stops.Trap = refl
stops_going stops.Depth = refl
stops_going (stops.Left reason) = refl
stops_going stops.Malformed = refl

-- steps of a run that has stopped lead nowhere
stays_stopped : (m : Module) (input : List ℕ) (s : model.State) (n : ℕ) → is_going s.ending ≡ false → iter (source_step m input) n s ≡ s
stays_stopped m input s zero stopped = refl
stays_stopped m input s (suc n) stopped = ap (iter (source_step m input) n) (step_stays m input s stopped) ∙ stays_stopped m input s n stopped

-- only the word for what has no step is that word
malformed_is : (s : Stop) → stop_of s ≡ stops.Malformed → s ≡ stop.Malformed
malformed_is (stop.Ended status) e = absurd (cc)
malformed_is stop.Divide e = absurd (cc)
malformed_is stop.Trap e = absurd (cc)
malformed_is stop.Depth e = absurd (cc)
malformed_is (stop.Left reason) e = absurd (cc)
malformed_is stop.Malformed e = refl

-- a step that stops the run
pub ran_stop : (p : Program) (start st st2 : State) (k n : ℕ) (a a1 a2 : SourceTold) (b b1 b2 : SinkTold) (x : Stop) → k < n → Followed p start k st a a1 b b1
    → Stepped p st st2 a1 a2 b1 b2 (Ok (Some x)) → Ran p start n a a2 b b2 (Ok (Some x))
unfolding Followed Stepped Ran
ran_stop p start st st2 k n a a1 a2 b b1 b2 x below followed step m input agree is starts left =
    by (met p m input (state_after m input k) st (Err (stop_of x)) agree is at.stands step.0)
  where
    at : Goes m input (state_after m input k) st a1 b b1
    at = followed m input agree is starts left

    by : (turn_of m input (state_after m input k) (state_after m input k).frames ≡ Err (stop_of x)) ⊎ ((stop_of x ≡ stops.Malformed) × FillsWide m (state_after m input k).frames)
        → IsRun m input n a2 b b2 (Ok (Some x))
    by (inl e) =
        let stopped : source_step m input (state_after m input k) ≡ record (state_after m input k) { ending = ending_of (stop_of x) } = step_is m input (state_after m input k) (Err (stop_of x)) at.going e in
        let count : k + 1 + (n - (k + 1)) ≡ n = omega arith in
        let last : state_after m input n ≡ record (state_after m input k) { ending = ending_of (stop_of x) } =
        ap (λ j. state_after m input j) (sym count)
        ∙ sym (iter_add (source_step m input) (k + 1) (n - (k + 1)) (source_start m))
        ∙ ap (iter (source_step m input) (n - (k + 1))) (sym (iter_add (source_step m input) k 1 (source_start m)) ∙ stopped)
        ∙ stays_stopped m input (record (state_after m input k) { ending = ending_of (stop_of x) }) (n - (k + 1)) (stops_going (stop_of x)) in
        inl (
          ap (λ (u : model.State). u.ending) last,
          subst (λ (u : model.State). Exchanges u input a2 b b2) (sym last) (record {
            left = ap (λ (t : SourceTold). t.left) step.1 ∙ at.outside.left;
            written = subst (λ (t : SinkTold). Gets b.written t.written (state_after m input k).printed) (sym step.2) at.outside.written;
            total = subst (λ (t : SinkTold). Counts b.total t.total (length (state_after m input k).printed)) (sym step.2) at.outside.total;
          }),
        )
    by (inr w) = inr (malformed_is x w.0, (k, (below, w.1)))

module _ (m : Module) (input : List ℕ) (s : model.State) (st : State) (a a2 : SourceTold) (b b1 b2 : SinkTold) (going : s.ending ≡ ending.Going) (outside : Exchanges s input a b b1) where
  -- a byte that was put in part
  prints_part : (byte : ℕ) → Came m st (turn_of m input s s.frames) (model.Print byte) → a2 ≡ a → AppendedPart b1 b2 (byte ∷ []) → PrintsPart m input s a2 b b2
  prints_part byte came same put =
      let is : source_step m input s ≡ turn_state s came.turn = step_is m input s (Ok came.turn) going came.is in
      record {
        byte = byte;
        prints = ap (λ (u : model.State). u.printed) is ∙ ap (model.printed_with s.printed) came.exchanged;
        left = ap (λ (t : SourceTold). t.left) same ∙ outside.left;
        written = (put.written.0, (put.written.1.0, gets_both b.written b1.written b2.written s.printed put.written.0 outside.written put.written.1.1));
        total = (put.total.0, (put.total.1.0, counts_both b.total b1.total b2.total (length s.printed) put.total.0 outside.total put.total.1.1));
      }

-- a step that the outside did not let happen
module _ (p : Program) (m : Module) (input : List ℕ) (s : model.State) (st : State) (a a2 : SourceTold) (b b1 b2 : SinkTold) (agree : Agrees m) (is : p ≡ program_of m) (at : Goes m input s st a b b1) where
  asks_in : (mid : State) (into : Option ℕ) → Ok (turned mid (Take into)) ≡ next_turn p st → AsksIn m s
  asks_in mid into next other c there =
      let came : CameAsked m mid (Take into) (slice_get other s.taken) (turn_of m other s s.frames) = met p m other s st (Ok (turned mid (Take into))) agree is at.stands next in
      let with_byte = came.byte c there in
      ap (λ (u : model.State). u.taken) (step_is m other s (Ok with_byte.turn) at.going with_byte.is) ∙ ap (model.taken_with s.taken) with_byte.exchanged

  cut : (e : RunFault) (mid : State) (asked : Asked) → Ok (turned mid asked) ≡ next_turn p st → Lacked asked a a2 b1 b2 e → IsCut m input s a2 b b2 e
  cut fault.Input mid Nothing next lacked = absurd lacked
  cut fault.Input mid (Print byte) next lacked = absurd lacked
  cut fault.Input mid (Take into) next lacked = (
    asks_in mid into next,
    record {
      left = lacked.0 ∙ at.outside.left;
      written = subst (λ (t : SinkTold). Gets b.written t.written s.printed) (sym lacked.1) at.outside.written;
      total = subst (λ (t : SinkTold). Counts b.total t.total (length s.printed)) (sym lacked.1) at.outside.total;
    },
  )
  cut fault.Output mid Nothing next lacked = absurd lacked
  cut fault.Output mid (Print byte) next lacked =
      prints_part m input s mid a a2 b b1 b2 at.going at.outside byte (met p m input s st (Ok (turned mid (Print byte))) agree is at.stands next) lacked.0 lacked.1
  cut fault.Output mid (Take into) next lacked = absurd lacked
  cut fault.NoMemory mid Nothing next lacked = absurd lacked
  cut fault.NoMemory mid (Print byte) next lacked =
      inr (prints_part m input s mid a a2 b b1 b2 at.going at.outside byte (met p m input s st (Ok (turned mid (Print byte))) agree is at.stands next) lacked.0 lacked.1)
  cut fault.NoMemory mid (Take into) next lacked = absurd lacked

pub ran_cut : (p : Program) (start st st2 : State) (k n : ℕ) (a a1 a2 : SourceTold) (b b1 b2 : SinkTold) (e : RunFault) → k < n → Followed p start k st a a1 b b1
    → Stepped p st st2 a1 a2 b1 b2 (Err e) → Ran p start n a a2 b b2 (Err e)
unfolding Followed Stepped Ran
ran_cut p start st st2 k n a a1 a2 b b1 b2 fault.Input below followed step m input agree is starts left =
    (k, (below, cut p m input (state_after m input k) st a1 a2 b b1 b2 agree is (followed m input agree is starts left) fault.Input step.0.state step.0.asked step.1.0 step.1.1))
ran_cut p start st st2 k n a a1 a2 b b1 b2 fault.Output below followed step m input agree is starts left =
    (k, (below, cut p m input (state_after m input k) st a1 a2 b b1 b2 agree is (followed m input agree is starts left) fault.Output step.0.state step.0.asked step.1.0 step.1.1))
ran_cut p start st st2 k n a a1 a2 b b1 b2 fault.NoMemory below followed step m input agree is starts left = (k, (below, by step))
  where
    at : Goes m input (state_after m input k) st a1 b b1
    at = followed m input agree is starts left

    by : ((a2 ≡ a1) × (b2 ≡ b1)) ⊎ LackedIn p st a1 a2 b1 b2 fault.NoMemory → IsCut m input (state_after m input k) a2 b b2 fault.NoMemory
    by (inl same) = inl (record {
      left = ap (λ (t : SourceTold). t.left) same.0 ∙ at.outside.left;
      written = subst (λ (t : SinkTold). Gets b.written t.written (state_after m input k).printed) (sym same.1) at.outside.written;
      total = subst (λ (t : SinkTold). Counts b.total t.total (length (state_after m input k).printed)) (sym same.1) at.outside.total;
    })
    by (inr lacked) = cut p m input (state_after m input k) st a1 a2 b b1 b2 agree is at fault.NoMemory lacked.0.state lacked.0.asked lacked.1.0 lacked.1.1
