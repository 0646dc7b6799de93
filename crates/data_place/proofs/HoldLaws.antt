-- The placing of a valid module holds its data.
use Rattle.std.proofs.Common.{◌≡◌, ℕ, ◌+◌, ◌%◌, ◌≤◌, Bool, true, false, Result, Ok, Err, IfOk, List, [], ◌∷◌, length, map, refl, ap, sym, ◌∙◌, subst, arith}
use Rattle.std.specs.List.{sum_by}
use Rattle.std.proofs.lemmas.List.Sums.{sum_by-cons}
use Rattle.rd_num.specs.declared.width.NoMemory.{NoMemory}
use Rattle.ir_core.specs.declared.limit.TheConstants.{MAX_BYTES}
use Rattle.ir_core.specs.declared.module.GlobalVar.{GlobalVar}
use Rattle.ir_core.specs.declared.module.Module.{Module}
use Rattle.ir_core.specs.Refusals.{IsValid}
use Rattle.ir_context.specs.Extents.{extent_of}
use Rattle.ir_globals.specs.Told.{told_cells, told_object}
use Rattle.ir_globals.proofs.ExtentLaws.{extents_filled, extents_few}
use Rattle.ir_globals.proofs.FirstLaws.{first_told}
use Rattle.ir_globals.proofs.ValidLaws.{known_valid}
use Rattle.ir_sound.specs.WellTyped.{Each}
use Rattle.ir_sound.proofs.RowLaws.{length_map}
use Rattle.low_core.specs.Contents.{Addresses, cell_byte, content_of}
use Rattle.low_core.specs.Placing.{part_bytes, ArePlaced}
use Rattle.low_core.specs.Plan.{Content}
use Rattle.obj_core.specs.declared.address.SlotAddr.{SlotAddr}
use Rattle.obj_core.specs.declared.plan.Placing.{Placing}
use Rattle.data_place.specs.declared.starts.Room.{Room}
use Rattle.data_place.specs.Placed.{addresses_in, first_contents, HoldsData}
use Rattle.data_place.specs.Starts.{room_of, space_of, room_in, starts_from, told_content}
use Rattle.data_place.proofs.PartLaws.{content_room, long_front, room_both, part_whole}
use Rattle.data_place.proofs.StartLaws.{placed}

-- these globals begin with as many bytes as their types tell
abbrev Fill : Module → List GlobalVar → Type 0
Fill m gs = Each (λ (g : GlobalVar). length (told_cells m g.init g.ty) ≡ (extent_of m.types g.ty).size) gs

-- a content has the room of its type
room_is : (m : Module) (at : Addresses) (g : GlobalVar) → length (told_cells m g.init g.ty) ≡ (extent_of m.types g.ty).size → content_room (told_content m at g) ≡ room_of m g
room_is m at g e =
    ap (λ n. let r : Room = record { constant = g.constant; size = n } in r) (length_map (cell_byte at) (told_cells m g.init g.ty) ∙ e)

-- so have all
rooms_are : (m : Module) (at : Addresses) (gs : List GlobalVar) → Fill m gs → map content_room (map (told_content m at) gs) ≡ map (room_of m) gs
rooms_are m at [] fill = refl
rooms_are m at (g ∷ gs) fill = ap (λ r. r ∷ map content_room (map (told_content m at) gs)) (room_is m at g fill.0) ∙ ap (λ rs. room_of m g ∷ rs) (rooms_are m at gs fill.1)

-- contents as they are told
contents_told : (m : Module) (at : Addresses) (gs : List GlobalVar) → map (told_content m at) gs ≡ map (content_of at) (map (told_object m) gs)
contents_told m at [] = refl
contents_told m at (g ∷ gs) = ap (λ cs. told_content m at g ∷ cs) (contents_told m at gs)

-- both parts are as long as all rooms with their gaps
both_long : (m : Module) (at : Addresses) (gs : List GlobalVar) → Fill m gs
    → length (part_bytes true (map (told_content m at) gs)) + length (part_bytes false (map (told_content m at) gs)) ≡ sum_by (space_of m) gs
both_long m at [] fill = refl
both_long m at (g ∷ gs) fill =
    let c : Content = told_content m at g in
    let cs = map (told_content m at) gs in
    let constants = long_front true c cs in
    let others = long_front false c cs in
    let here : room_in true (content_room c) ≡ room_in true (room_of m g) = ap (room_in true) (room_is m at g fill.0) in
    let here2 : room_in false (content_room c) ≡ room_in false (room_of m g) = ap (room_in false) (room_is m at g fill.0) in
    let both = room_both (room_of m g) in
    let rest = both_long m at gs fill.1 in
    let sum = sum_by-cons (space_of m) g gs in
    omega arith

module _ (m : Module) (known : ∥ IsValid m ∥₁) where
  -- the rooms of a valid module are within the limit
  rooms_few : sum_by (space_of m) m.globals ≤ MAX_BYTES
  rooms_few = extents_few m (known_valid m known)

  -- its contents are as they are told
  contents_are : (globals : List ℕ) (pointers : List SlotAddr) → map (told_content m (addresses_in globals pointers)) m.globals ≡ first_contents m globals pointers
  contents_are globals pointers = contents_told m (addresses_in globals pointers) m.globals ∙ ap (map (content_of (addresses_in globals pointers))) (first_told m (known_valid m known))

  -- with these starts and parts they are placed
  held : (pointers : List SlotAddr) (globals constants others : List ℕ) → globals ≡ starts_from 0 0 (map (room_of m) m.globals)
      → constants ≡ part_bytes true (map (told_content m (addresses_in globals pointers)) m.globals) → others ≡ part_bytes false (map (told_content m (addresses_in globals pointers)) m.globals)
      → ArePlaced (first_contents m globals pointers) globals constants others
  held pointers globals constants others starts_are constants_are others_are =
      let at : Addresses = addresses_in globals pointers in
      let fill = extents_filled m (known_valid m known) in
      subst (λ (cs : List Content). ArePlaced cs globals constants others) (contents_are globals pointers)
      (placed (map (told_content m at) m.globals) globals constants others (starts_are ∙ ap (starts_from 0 0) (sym (rooms_are m at m.globals fill))) constants_are others_are)

  module _ (pointers : List SlotAddr) (p : Placing) (kept : HoldsData m pointers p) where
    -- data is of few bytes
    pub data_few : length p.ro + length p.rw ≤ MAX_BYTES
    data_few =
        let cs : List Content = map (told_content m (addresses_in p.globals pointers)) m.globals in
        let are = contents_are p.globals pointers in
        let long = both_long m (addresses_in p.globals pointers) m.globals (extents_filled m (known_valid m known)) in
        let few = rooms_few in
        let a : length p.ro ≡ length (part_bytes true cs) = ap length kept.ro_bytes ∙ ap (λ ds. length (part_bytes true ds)) (sym are) in
        let b : length p.rw ≡ length (part_bytes false cs) = ap length kept.rw_bytes ∙ ap (λ ds. length (part_bytes false ds)) (sym are) in
        omega arith

    -- and of whole multiples of 16
    pub data_whole : (length p.ro % 16 ≡ 0) × (length p.rw % 16 ≡ 0)
    data_whole = (
      ap (λ (bs : List ℕ). length bs % 16) kept.ro_bytes ∙ part_whole true (first_contents m p.globals pointers),
      ap (λ (bs : List ℕ). length bs % 16) kept.rw_bytes ∙ part_whole false (first_contents m p.globals pointers),
    )

  -- what loops tell, over the same module and the same lists
  module _ (context : Module) (same : context ≡ m) where
    pub rooms_seen : (gs : List GlobalVar) → gs ≡ m.globals → sum_by (space_of context) gs ≤ MAX_BYTES
    rooms_seen gs all = subst (λ x. sum_by (space_of x) gs ≤ MAX_BYTES) (sym same) (subst (λ xs. sum_by (space_of m) xs ≤ MAX_BYTES) (sym all) rooms_few)

    part_seen : (k : Bool) (pointers : List SlotAddr) (seen globals bytes : List ℕ) (gs : List GlobalVar) → gs ≡ m.globals → seen ≡ globals
        → bytes ≡ part_bytes k (map (told_content context (addresses_in seen pointers)) gs)
        → bytes ≡ part_bytes k (map (told_content m (addresses_in globals pointers)) m.globals)
    part_seen k pointers seen globals bytes gs all are e =
        e ∙ ap (λ x. part_bytes k (map (told_content x (addresses_in seen pointers)) gs)) same
        ∙ ap (λ xs. part_bytes k (map (told_content m (addresses_in seen pointers)) xs)) all
        ∙ ap (λ ats. part_bytes k (map (told_content m (addresses_in ats pointers)) m.globals)) are

    pub held_seen : (pointers : List SlotAddr) (seen globals constants others : List ℕ) (gs gs2 gs3 : List GlobalVar) → gs ≡ m.globals → gs2 ≡ m.globals → gs3 ≡ m.globals → seen ≡ globals
        → globals ≡ starts_from 0 0 (map (room_of context) gs)
        → constants ≡ part_bytes true (map (told_content context (addresses_in seen pointers)) gs2) → others ≡ part_bytes false (map (told_content context (addresses_in seen pointers)) gs3)
        → ArePlaced (first_contents m globals pointers) globals constants others
    held_seen pointers seen globals constants others gs gs2 gs3 all all2 all3 are starts_are constants_are others_are =
        held pointers globals constants others
        (starts_are ∙ ap (λ x. starts_from 0 0 (map (room_of x) gs)) same ∙ ap (λ xs. starts_from 0 0 (map (room_of m) xs)) all)
        (part_seen true pointers seen globals constants gs2 all2 are constants_are)
        (part_seen false pointers seen globals others gs3 all3 are others_are)

  -- an answer that holds data
  pub if_few : (pointers : List SlotAddr) (r : Result Placing NoMemory) → IfOk r (λ p. HoldsData m pointers p) → IfOk r (λ p. length p.ro + length p.rw ≤ MAX_BYTES)
  if_few pointers (Ok p) kept = data_few pointers p kept
  if_few pointers (Err e) kept = kept

  pub if_whole : (pointers : List SlotAddr) (r : Result Placing NoMemory) → IfOk r (λ p. HoldsData m pointers p) → IfOk r (λ p. (length p.ro % 16 ≡ 0) × (length p.rw % 16 ≡ 0))
  if_whole pointers (Ok p) kept = data_whole pointers p kept
  if_whole pointers (Err e) kept = kept
