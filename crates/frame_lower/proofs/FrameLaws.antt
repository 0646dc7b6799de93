-- A function within the limits has a frame within them, and the code of functions is given what it asks for.
use Rattle.std.proofs.Common.{◌≡◌, ℕ, zero, suc, ◌+◌, ◌*◌, ◌<◌, ◌≤◌, ◌^◌, List, [], ◌∷◌, map, length, refl, ap, sym, subst, arith}
use Rattle.std.specs.Prelude.{slice_get}
use Rattle.std.specs.List.{All}
use Rattle.std.proofs.lemmas.List.Elements.{All-head, All-tail}
use Rattle.ir_core.specs.declared.limit.TheConstants.{MAX_FRAME}
use Rattle.ir_core.specs.Counts.{greatest}
use Rattle.x86_core.specs.declared.reg.Reg.{Reg}
use Rattle.low_core.specs.declared.sel.Home.{Home}
use Rattle.low_core.specs.declared.sel.Home.TheVariants as home
use Rattle.low_core.specs.declared.sel.SelBlock.{SelBlock}
use Rattle.low_core.specs.declared.sel.SelFun.{SelFun}
use Rattle.low_core.specs.declared.sel.SelOp.{SelOp}
use Rattle.low_core.specs.declared.sel.SelOp.TheVariants.{Set, Copy, Alu, Div, Widen, Test, Pick, Load, Store, FrameAt, GlobalAt, FunctionAt, Call, CallAt, Outside}
use Rattle.low_core.specs.Plan.{Plan}
use Rattle.low_core.specs.SelWeights.{words_passed}
use Rattle.frame_rows.specs.declared.spot.Spot.{Spot}
use Rattle.frame_rows.specs.Bodies.{IsNear, or_lowest, spot_of, AreNear, Reaches}
use Rattle.obj_core.specs.Saved.{five_of}
use Rattle.obj_core.specs.Slots.{push_purpose}
use Rattle.frame_lower.specs.declared.maker.Maker.{Maker}
use Rattle.frame_lower.specs.Frames.{spot, spots, words_to, frame_words, room_bytes}
use Rattle.frame_lower.specs.Functions.{making_with}
use Rattle.frame_lower.specs.Given.{HasPlaces, NamesPlace, IsSmall}
use Rattle.frame_lower.specs.Making.{making, IsFit}
use Rattle.frame_lower.specs.Rows.{Making}

most_places : (most : ℕ) (homes : List Home) → All (λ (h : Home). words_to h ≤ most) homes → greatest (map words_to homes) ≤ most
most_places most [] all = omega arith
most_places most (h ∷ hs) all =
    let first = All-head (λ (x : Home). words_to x ≤ most) h hs all in
    let others = most_places most hs (All-tail (λ (x : Home). words_to x ≤ most) h hs all) in
    omega arith

frame_limit : MAX_FRAME ≡ 65536
frame_limit = refl

-- the frame
pub room_few : (f : SelFun) (homes : List Home) → IsSmall f → HasPlaces f homes → room_bytes f homes ≤ 70000
room_few f homes small places =
    let r = small.room in
    let l = frame_limit in
    let p = most_places f.registers homes places in
    omega arith

-- homes are near
near_at : (names : List Reg) (passed most : ℕ) (homes : List Home) → All (λ (h : Home). words_to h ≤ most) homes → passed + most ≤ 20000 → (x : ℕ) → IsNear (or_lowest (slice_get (map (spot names passed) homes) x))
near_at names passed most [] all few x = omega arith
near_at names passed most (home.Color c ∷ hs) all few zero = tt
near_at names passed most (home.Frame k ∷ hs) all few zero = let first = All-head (λ (h : Home). words_to h ≤ most) (home.Frame k) hs all in omega arith
near_at names passed most (h ∷ hs) all few (suc x) = near_at names passed most hs (All-tail (λ (y : Home). words_to y ≤ most) h hs all) few x

pub fits : (f : SelFun) (homes : List Home) (names : List Reg) → IsSmall f → HasPlaces f homes → (m : Maker) → m.homes.now ≡ spots names f homes → m.words ≡ frame_words f homes → m.room ≡ room_bytes f homes → length m.order.now ≡ 5 → IsFit m
fits f homes names small places m are words room five =
    let r = small.room in
    let l = frame_limit in
    let few = room_few f homes small places in
    record {
      near = subst AreNear (sym are) (near_at names (words_passed f) f.registers homes places (omega arith));
      words = omega arith;
      room = omega arith;
      five = omega arith;
    }

-- operations reach what they name
reach : (f : SelFun) (own : ℕ) → own + f.frame < 2 ^ 31 → (op : SelOp) → NamesPlace f op → Reaches own op
reach f own few (FrameAt r at) names = omega arith
reach f own few (Set r n) names = tt
reach f own few (Copy r s) names = tt
reach f own few (Alu o w r s t) names = tt
reach f own few (Div signed rest w r s t) names = tt
reach f own few (Widen signed from to r s) names = tt
reach f own few (Test p w r s t) names = tt
reach f own few (Pick r c s t) names = tt
reach f own few (Load w r s) names = tt
reach f own few (Store w s t) names = tt
reach f own few (GlobalAt r g) names = tt
reach f own few (FunctionAt r g) names = tt
reach f own few (Call g r args) names = tt
reach f own few (CallAt s r args) names = tt
reach f own few (Outside which r args) names = tt

pub all_reach : (f : SelFun) (homes : List Home) → IsSmall f → HasPlaces f homes → (words : ℕ) → words ≡ frame_words f homes → All (λ (b : SelBlock). All (Reaches (8 * words)) b.ops) f.blocks
all_reach f homes small places words are k b inside i op there =
    let few = room_few f homes small places in
    reach f (8 * words) (omega arith) _ (small.places k b inside i op there)

-- what the code is made by
parts : (hs is : ℕ → Spot) (p q : Plan) (w v r s : ℕ) (os qs : List ℕ) → hs ≡ is → p ≡ q → w ≡ v → r ≡ s → os ≡ qs →
    let a : Making = record { homes = hs; plan = p; words = w; room = r; order = os } in let b : Making = record { homes = is; plan = q; words = v; room = s; order = qs } in a ≡ b
parts hs is p q w v r s os qs a b c d e = cc

pub making_is : (m : Maker) (reg_draw number : ℕ) (names : List Reg) (homes : List Home) (f : SelFun) → m.homes.now ≡ spots names f homes → m.words ≡ frame_words f homes → m.room ≡ room_bytes f homes →
    m.order.now ≡ five_of reg_draw push_purpose number → making m ≡ making_with m.globals.now m.functions.now reg_draw number names homes f
making_is m reg_draw number names homes f a b c d = parts _ _ _ _ _ _ _ _ _ _ (ap spot_of a) refl b c d
