-- Frames of functions whose registers live in them: there is one for each, with room for the function's own memory, and the stack has room for all.
use Rattle.std.proofs.Common.{◌≡◌, ℕ, zero, suc, ◌+◌, ◌≤◌, List, [], ◌∷◌, length, map, Some, slice_get, refl, ap, arith}
use Rattle.std.specs.List.{All}
use Rattle.std.proofs.lemmas.List.Elements.{All-head, All-tail}
use Rattle.ir_core.specs.declared.limit.TheConstants.{MAX_FRAME}
use Rattle.ir_core.specs.Counts.{greatest}
use Rattle.low_core.specs.declared.sel.Home.{Home}
use Rattle.low_core.specs.declared.sel.SelFun.{SelFun}
use Rattle.low_core.specs.declared.sel.Sel.{Sel}
use Rattle.low_core.specs.Plan.{FramePlan}
use Rattle.low_core.specs.SelShaped.{IsFunShaped}
use Rattle.low_core.specs.SelWeights.{sel_room}
use Rattle.frame_lower.specs.Frames.{words_to, frame_plan}
use Rattle.frame_lower.specs.Given.{HasPlaces, HavePlaces}
use Rattle.frame_lower.specs.Planned.{frames_of}

most_places : (most : ℕ) (homes : List Home) → All (λ (h : Home). words_to h ≤ most) homes → greatest (map words_to homes) ≤ most
most_places most [] all = omega arith
most_places most (h ∷ hs) all =
    let first = All-head (λ (x : Home). words_to x ≤ most) h hs all in
    let others = most_places most hs (All-tail (λ (x : Home). words_to x ≤ most) h hs all) in
    omega (arith, first, others)

-- a frame is no more than its function may ask for, but for the word that there always is
frame_small : (f : SelFun) (homes : List Home) → sel_room f ≤ MAX_FRAME → HasPlaces f homes → (frame_plan f homes).bytes ≤ 65480
frame_small f homes room places =
    let limit : MAX_FRAME ≡ 65536 = refl in
    let most = most_places f.registers homes places in
    omega (arith, room, limit, most)

pub frames_long : (fs : List SelFun) (hss : List (List Home)) → HavePlaces fs hss → length (frames_of fs hss) ≡ length fs
frames_long [] hss have = refl
frames_long (f ∷ fs) [] have = absurd have
frames_long (f ∷ fs) (hs ∷ hss) have = ap suc (frames_long fs hss have.1)

pub frame_there : (fs : List SelFun) (hss : List (List Home)) (g : ℕ) (f : SelFun) (p : FramePlan) → HavePlaces fs hss → slice_get fs g ≡ Some f → slice_get (frames_of fs hss) g ≡ Some p → p.allocas + f.frame ≤ p.bytes
frame_there [] hss g f p have there is = absurd cc
frame_there (h ∷ fs) [] g f p have there is = absurd have
frame_there (h ∷ fs) (hs ∷ hss) zero f p have there is =
    let same = ap (λ (x : SelFun). x.frame) (let e : h ≡ f = cc in e) in
    let it : frame_plan h hs ≡ p = cc in
    let bytes = ap (λ (x : FramePlan). x.bytes) it in
    let allocas = ap (λ (x : FramePlan). x.allocas) it in
    omega (arith, same, bytes, allocas)
frame_there (h ∷ fs) (hs ∷ hss) (suc g) f p have there is = frame_there fs hss g f p have.1 there is

pub frame_few : (sel : Sel) (fs : List SelFun) (hss : List (List Home)) (g : ℕ) (p : FramePlan) → All (IsFunShaped sel) fs → HavePlaces fs hss → slice_get (frames_of fs hss) g ≡ Some p → p.bytes ≤ 65480
frame_few sel [] hss g p shaped have is = absurd cc
frame_few sel (f ∷ fs) [] g p shaped have is = absurd have
frame_few sel (f ∷ fs) (hs ∷ hss) zero p shaped have is =
    let bytes = ap (λ (x : FramePlan). x.bytes) (let e : frame_plan f hs ≡ p = cc in e) in
    let small = frame_small f hs (All-head (IsFunShaped sel) f fs shaped).room have.0 in
    omega (arith, bytes, small)
frame_few sel (f ∷ fs) (hs ∷ hss) (suc g) p shaped have is = frame_few sel fs hss g p (All-tail (IsFunShaped sel) f fs shaped) have.1 is
