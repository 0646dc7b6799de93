-- What is chosen for a program makes each of its functions keep the rules.
use Rattle.std.proofs.Common.{◌≡◌, ℕ, zero, suc, ◌+◌, ◌*◌, ◌<◌, ◌≤◌, ◌^◌, Bool, true, false, List, [], ◌∷◌, length, map, get_or, Some, slice_get, slice_index, refl, ap, sym, subst, ◌∙◌, arith}
use Rattle.std.specs.List.{All}
use Rattle.std.proofs.lemmas.List.Elements.{All-head, All-tail, All-nil}
use Rattle.rd_draw.proofs.Permuted.{shuffled_long}
use Rattle.rd_draw.specs.Draw.{keystream_word}
use Rattle.ir_core.specs.declared.limit.TheConstants.{MAX_CODE}
use Rattle.ir_core.specs.Counts.{greatest}
use Rattle.x86_core.specs.declared.reg.Reg.{Reg}
use Rattle.low_core.specs.declared.sel.Home.{Home}
use Rattle.low_core.specs.declared.sel.Home.TheVariants as home
use Rattle.low_core.specs.declared.sel.SelOp.{SelOp}
use Rattle.low_core.specs.declared.sel.SelOp.TheVariants.{Set, Copy, Alu, Div, Widen, Test, Pick, Load, Store, FrameAt, GlobalAt, FunctionAt, Call, CallAt, Outside}
use Rattle.low_core.specs.declared.sel.SelFun.{SelFun}
use Rattle.low_core.specs.declared.sel.Sel.{Sel}
use Rattle.low_core.specs.SelShaped.{IsOpShaped, IsFunShaped}
use Rattle.low_core.specs.SelWeights.{words_passed, sel_function_weight}
use Rattle.frame_rows.specs.declared.spot.Spot.TheVariants.{Frame}
use Rattle.frame_rows.specs.Bodies.{or_lowest}
use Rattle.frame_rows.specs.Ties.{IsHome}
use Rattle.obj_core.specs.Saved.{five_of}
use Rattle.obj_core.specs.Slots.{slot_base, push_purpose}
use Rattle.slot_plan.specs.Slots.{pointers_from, slots_of}
use Rattle.slot_plan.proofs.Bounds.{drawn, bounds}
use Rattle.frame_lower.specs.Blocks.{calls_of_blocks}
use Rattle.frame_lower.specs.Frames.{spot, words_to, frame_words}
use Rattle.frame_lower.specs.Functions.{Choices, making_with, slot_number}
use Rattle.frame_lower.specs.Given.{HasPlaces, HavePlaces, IsInFrame, AreInFrame, AreChosen}
use Rattle.frame_lower.specs.Rows.{Making}
use Rattle.frame_lower.proofs.FrameLaws.{room_few}
use Rattle.frame_lower.proofs.Programs.{is_small}
use Rattle.frame_lower.proofs.Ranged.{IsNear}
use Rattle.frame_lower.proofs.RowKeeps.{IsWhole}

-- homes of a number
pub places_of : (fs : List SelFun) (hss : List (List Home)) (n : ℕ) (f : SelFun) → HavePlaces fs hss → slice_get fs n ≡ Some f → HasPlaces f (get_or hss n [])
places_of [] hss n f have there = absurd cc
places_of (g ∷ fs) [] n f have there = absurd have
places_of (g ∷ fs) (hs ∷ hss) zero f have there = let same : g ≡ f = cc in subst (λ h. HasPlaces h hs) same have.0
places_of (g ∷ fs) (hs ∷ hss) (suc n) f have there = places_of fs hss n f have.1 there

pub in_frame_of : (hss : List (List Home)) (n : ℕ) → AreInFrame hss → All IsInFrame (get_or hss n [])
in_frame_of [] n all = All-nil IsInFrame
in_frame_of (hs ∷ hss) zero all = All-head (λ (h : List Home). All IsInFrame h) hs hss all
in_frame_of (hs ∷ hss) (suc n) all = in_frame_of hss n (All-tail (λ (h : List Home). All IsInFrame h) hs hss all)

-- they are words of the frame
module _ (names : List Reg) (passed : ℕ) where
  at_word : (homes : List Home) → All IsInFrame homes → (x : ℕ) → (k : ℕ) × (or_lowest (slice_get (map (spot names passed) homes) x) ≡ Frame k)
  at_word [] all x = (0, refl)
  at_word (home.Color c ∷ hs) all x = absurd (All-head IsInFrame (home.Color c) hs all)
  at_word (home.Frame k ∷ hs) all zero = (passed + k, refl)
  at_word (home.Frame k ∷ hs) all (suc x) = at_word hs (All-tail IsInFrame (home.Frame k) hs all) x

  -- below the number of words
  pub inside : (words : ℕ) (homes : List Home) → All IsInFrame homes → 0 < words → passed + greatest (map words_to homes) ≤ words → (x : ℕ) → IsHome words (or_lowest (slice_get (map (spot names passed) homes) x))
  inside words [] all some few x = some
  inside words (home.Color c ∷ hs) all some few x = absurd (All-head IsInFrame (home.Color c) hs all)
  inside words (home.Frame k ∷ hs) all some few zero = omega (arith, few)
  inside words (home.Frame k ∷ hs) all some few (suc x) = inside words hs (All-tail IsInFrame (home.Frame k) hs all) some (omega (arith, few)) x

-- addresses are small
slots_small : (positions : List ℕ) → All (λ p. p < 2 ^ 20) positions → (k : ℕ) → slice_index positions k < 2 ^ 20
slots_small [] all k = omega arith
slots_small (p ∷ ps) all zero = All-head (λ n. n < 2 ^ 20) p ps all
slots_small (p ∷ ps) all (suc k) = slots_small ps (All-tail (λ n. n < 2 ^ 20) p ps all) k

pointer_small : (positions : List ℕ) → All (λ p. p < 2 ^ 20) positions → (k : ℕ) (ts : List Bool) (g n : ℕ) → slice_get (map slot_number (pointers_from positions k ts)) g ≡ Some n → n < 2 ^ 64
pointer_small positions all k [] g n there = absurd cc
pointer_small positions all k (true ∷ ts) zero n there =
    let small = slots_small positions all k in
    let same : slot_base + 16 * slice_index positions k ≡ n = cc in
    omega (arith, small, same)
pointer_small positions all k (false ∷ ts) zero n there =
    let small = slots_small positions all 0 in
    let same : slot_base + 16 * slice_index positions 0 ≡ n = cc in
    omega (arith, small, same)
pointer_small positions all k (true ∷ ts) (suc g) n there = pointer_small positions all (suc k) ts g n there
pointer_small positions all k (false ∷ ts) (suc g) n there = pointer_small positions all k ts g n there

get_all : (P : ℕ → Type 0) (xs : List ℕ) (k n : ℕ) → All P xs → slice_get xs k ≡ Some n → P n
get_all P [] k n all there = absurd cc
get_all P (x ∷ xs) zero n all there = let same : x ≡ n = cc in subst P same (All-head P x xs all)
get_all P (x ∷ xs) (suc k) n all there = get_all P xs k n (All-tail P x xs all) there

pub five_long : (reg_draw purpose number : ℕ) → length (five_of reg_draw purpose number) ≡ 5
unfolding five_of
five_long reg_draw purpose number = shuffled_long (keystream_word reg_draw purpose number) 5

module _ (c : Choices) (sel : Sel) (slot_draw : ℕ) (chosen : AreChosen c sel slot_draw) where
  abbrev pub made : ℕ → SelFun → Making
  made number f = making_with c.placing.globals (map slot_number c.slots.pointers) c.reg_seed number (get_or c.names number []) (get_or c.homes number []) f

  positions_small : All (λ p. p < 2 ^ 20) c.slots.positions
  positions_small =
      subst (λ ps. All (λ p. p < 2 ^ 20) ps) (sym chosen.plan.positions)
      ((drawn (keystream_word slot_draw _ 0) (length (slots_of sel)) (bounds sel chosen.shaped).slots).1)

  functions_small : (g n : ℕ) → slice_get (map slot_number c.slots.pointers) g ≡ Some n → n < 2 ^ 64
  functions_small g n there = pointer_small c.slots.positions positions_small 1 sel.taken g n (ap (λ ps. slice_get (map slot_number ps) g) (sym chosen.plan.pointers) ∙ there)

  -- an operation of a function
  op_near : (number : ℕ) (f : SelFun) (op : SelOp) → 8 * frame_words f (get_or c.homes number []) + f.frame < 2 ^ 30 → IsOpShaped sel f op → IsNear (made number f) op
  op_near number f (Set r n) small h = h.fits
  op_near number f (Copy r s) small h = tt
  op_near number f (Alu o w r s t) small h = tt
  op_near number f (Div signed rest w r s t) small h = h.fits
  op_near number f (Widen signed from to r s) small h = tt
  op_near number f (Test p w r s t) small h = tt
  op_near number f (Pick r x s t) small h = tt
  op_near number f (Load w r s) small h = tt
  op_near number f (Store w s t) small h = tt
  op_near number f (FrameAt r at) small h = let inside_it = h.fits in ((omega (arith, small, inside_it)), (omega (arith, small, inside_it)))
  op_near number f (GlobalAt r g) small h = λ n there. get_all (λ at. at < 2 ^ 64) c.placing.globals g n chosen.addresses there
  op_near number f (FunctionAt r g) small h = λ n there. functions_small g n there
  op_near number f (Call g r args) small h = h.few
  op_near number f (CallAt s r args) small h = h.few
  op_near number f (Outside which r args) small h = h.few

  -- a function of a number
  pub whole : (number : ℕ) (f : SelFun) (slot : ℕ) → slice_get sel.functions number ≡ Some f → IsFunShaped sel f → sel_function_weight f ≤ MAX_CODE → slot + calls_of_blocks f.blocks ≤ length (slots_of sel) →
      IsWhole (made number f) c.reg_seed number (length (slots_of sel)) slot f
  whole number f slot there shaped light linked =
      let homes = get_or c.homes number [] in
      let names = get_or c.names number [] in
      let places = places_of sel.functions c.homes number f chosen.places there in
      let framed = in_frame_of c.homes number chosen.in_frame in
      let small = is_small sel f shaped light in
      let room = room_few f homes small places in
      let words : 8 * frame_words f homes + f.frame < 2 ^ 30 = omega (arith, room) in
      record {
        ranged = record {
          homes = inside names (words_passed f) (frame_words f homes) homes framed (omega arith) (omega arith);
          words = omega (arith, room);
          room = omega (arith, room);
          five = (let five : length (five_of c.reg_seed push_purpose number) ≡ 5 = five_long c.reg_seed push_purpose number in omega (arith, five));
          params = shaped.few;
          ops = λ k b below i op within. op_near number f _ words ((shaped.blocks k b below).ops i op within);
          light = omega (arith, light);
        };
        words = at_word names (words_passed f) homes framed;
        drawn = refl;
        some_block = shaped.some_block;
        targets = λ k b below. (shaped.blocks k b below).targets;
        linked = linked;
      }
