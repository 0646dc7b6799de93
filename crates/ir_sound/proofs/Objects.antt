-- Memory whose objects hold cells: what is read from it is a value, and what is written keeps it so.
use Rattle.std.proofs.Common.{slice_set, subst, ◌≡◌, ℕ, zero, suc, ◌+◌, ◌/◌, ◌<◌, ◌≤◌, Bool, true, false, List, [], ◌∷◌, ◌++◌, length, map, take, drop, Option, Some, None, Ok, Err, refl, ap, ◌∙◌, arith, length-append, length-take-le, length-drop}
use Rattle.std.proofs.lemmas.List.{length-replicate}
use Rattle.std.specs.Prelude.{nat_eq, nat_le, replicate, slice_get, if◌then◌else◌}
use Rattle.std.proofs.lemmas.Bool.{leb-true}
use Rattle.std.proofs.Math.Nat.{mod-lt}
use Rattle.std.proofs.lemmas.Nat.{pow_pos}
use Rattle.rd_num.specs.declared.width.Width.{Width}
use Rattle.rd_num.specs.Number.{bits, le_bytes, le_number}
use Rattle.ir_core.specs.declared.memory.Value.{Value}
use Rattle.ir_core.specs.declared.memory.Value.TheVariants.{Num, Null, At, Fun}
use Rattle.ir_core.specs.declared.memory.Cell.{Cell}
use Rattle.ir_core.specs.declared.memory.Cell.TheVariants.{Unset, Byte, Piece}
use Rattle.ir_core.specs.declared.memory.Object0.{Object0}
use Rattle.ir_core.specs.declared.memory.Reason.TheVariants.{Bounds, Dead, Constant, Unset as WasUnset, Mixed, Overlap}
use Rattle.ir_core.specs.Stops.{Left, Answer, and_then}
use Rattle.ir_core.specs.declared.kind.Kind.{Kind}
use Rattle.ir_core.specs.declared.kind.Kind.TheVariants.{NoValue, Number, Pointer}
use Rattle.ir_core.specs.Shapes.{bytes_of}
use Rattle.ir_core.specs.Memory.{Memory, pointer_cells, cells_of, any_unset, numbers, same_cells, number_read, pointer_read, value_read, kind_size, Range, range_of, readable_range, unless_constant, writable_range, cells_at, load_at, written, store_at, filled, overlaps, copied, dead, dead_at, without}
use Rattle.ir_core.specs.Typing.{is_value}
use Rattle.ir_core.specs.declared.module.GlobalVar.{GlobalVar}
use Rattle.ir_core.specs.declared.module.Module.{Module}
use Rattle.ir_sound.specs.WellTyped.{IsGlobal, AreGlobals, IsOwn, Each, Properly, Present, IsOfKind, IsCell, IsObject}
use Rattle.ir_sound.proofs.AnswerLaws.{if_gives, then_gives}
use Rattle.ir_sound.proofs.RowLaws.{Each_at, Each_both, Each_drop, Each_more, Each_replicate, Each_set, Each_take, length_set}
use Rattle.ir_sound.proofs.SameLaws.{some_is, not_true}

-- bytes of a number
bytes_are : (x : Present) (k n : ℕ) → Each (IsCell x) (map Byte (le_bytes k n))
bytes_are x zero n = tt
bytes_are x (suc k) n = (mod-lt n (omega arith), bytes_are x k (n / 256))

-- pieces of a pointer
pieces_are : (x : Present) (v : Value) → IsOfKind x Pointer v → Each (IsCell x) (pointer_cells v)
pieces_are x v p = ((p, omega arith), ((p, omega arith), ((p, omega arith), ((p, omega arith), ((p, omega arith), ((p, omega arith), ((p, omega arith), ((p, omega arith), tt))))))))

-- a value is stored as cells
pub cells_are : (x : Present) (kind : Kind) (v : Value) → IsOfKind x kind v → Each (IsCell x) (cells_of v)
cells_are x kind (Num w n) p = bytes_are x (bytes_of w) n
cells_are x kind Null p = bytes_are x 8 0
cells_are x Pointer (At o d) p = pieces_are x (At o d) p
cells_are x Pointer (Fun f) p = pieces_are x (Fun f) p
cells_are x NoValue (At o d) p = absurd p
cells_are x NoValue (Fun f) p = absurd p
cells_are x (Number w) (At o d) p = absurd p
cells_are x (Number w) (Fun f) p = absurd p

-- a range inside of a live object that holds cells
pub record IsRange (x : Present) (m : Memory) (many : ℕ) (r : Range) : Type 0 where
  pub found : slice_get m r.object ≡ Some r.held
  pub object : IsObject x r.held
  pub live : r.held.live ≡ true
  pub inside : r.offset + many ≤ r.held.size

-- a range of what may be an object
range_gives : (x : Present) (m : Memory) (o d count : ℕ) (h : Option Object0) → slice_get m o ≡ h → ((y : Object0) → h ≡ Some y → IsObject x y) → Properly (IsRange x m count) (range_of o d count h)
range_gives x m o d count None at held = tt
range_gives x m o d count (Some y) at held = of_tests y.live (nat_le (d + count) y.size) refl refl (held y refl)
  where
    of_tests : (b c : Bool) → y.live ≡ b → nat_le (d + count) y.size ≡ c → IsObject x y → Properly (IsRange x m count) (if b then (if c then Ok (record { object = o; offset = d; held = y }) else Err (Left Bounds)) else Err (Left Dead))
    of_tests true true e f is = record { found = at; object = is; live = e; inside = leb-true (d + count) y.size f }
    of_tests true false e f is = tt
    of_tests false c e f is = tt

-- the tests of a load
pub readable_gives : (x : Present) (m : Memory) → Each (IsObject x) m → (count : ℕ) (p : Value) → Properly (IsRange x m count) (readable_range m count p)
readable_gives x m all count (At o d) = range_gives x m o d count (slice_get m o) refl (λ y e. Each_at (IsObject x) m o y all e)
readable_gives x m all count (Num w n) = tt
readable_gives x m all count Null = tt
readable_gives x m all count (Fun f) = tt

-- the tests of a store
pub writable_gives : (x : Present) (m : Memory) → Each (IsObject x) m → (count : ℕ) (p : Value) → Properly (IsRange x m count) (writable_range m count p)
writable_gives x m all count p =
    then_gives (IsRange x m count) (IsRange x m count) (readable_range m count p) unless_constant (readable_gives x m all count p)
    (λ r q. if_gives (IsRange x m count) r.held.constant (Err (Left Constant)) (Ok r) tt q)

-- a number that was read
number_gives : (x : Present) (w : Width) (ns : Option (List ℕ)) → Properly (IsOfKind x (Number w)) (number_read w ns)
number_gives x w (Some ns) = (refl, mod-lt (le_number ns) (pow_pos (bits w)))
number_gives x w None = tt

-- a pointer that was read
pointer_gives : (x : Present) (cs : List Cell) → Each (IsCell x) cs → Properly (IsOfKind x Pointer) (pointer_read cs)
pointer_gives x (Piece v k ∷ cs) all = if_gives (IsOfKind x Pointer) (same_cells (Piece v k ∷ cs) (pointer_cells v)) (Ok v) (Err (Left Mixed)) all.0.0 tt
pointer_gives x [] all = tt
pointer_gives x (Unset ∷ cs) all = tt
pointer_gives x (Byte n ∷ cs) all = if_gives (IsOfKind x Pointer) (same_cells (Byte n ∷ cs) (cells_of Null)) (Ok Null) (Err (Left Mixed)) tt tt

-- a value that was read
read_gives : (x : Present) (kind : Kind) (cs : List Cell) → is_value kind ≡ true → Each (IsCell x) cs → Properly (IsOfKind x kind) (value_read kind cs)
read_gives x NoValue cs fits all = not_true fits
read_gives x (Number w) cs fits all = number_gives x w (numbers cs)
read_gives x Pointer cs fits all = pointer_gives x cs all

-- a load gives a value of its kind
pub load_gives : (x : Present) (m : Memory) → Each (IsObject x) m → (kind : Kind) (p : Value) → is_value kind ≡ true → Properly (IsOfKind x kind) (load_at m kind p)
load_gives x m all kind p fits =
    then_gives (IsRange x m (kind_size kind)) (IsOfKind x kind) (readable_range m (kind_size kind) p) (λ r. if any_unset (cells_at r (kind_size kind)) then Err (Left WasUnset) else value_read kind (cells_at r (kind_size kind)))
    (readable_gives x m all (kind_size kind) p)
    (λ r q. if_gives (IsOfKind x kind) (any_unset (cells_at r (kind_size kind))) (Err (Left WasUnset)) (value_read kind (cells_at r (kind_size kind))) tt
    (read_gives x kind (cells_at r (kind_size kind)) fits (Each_take (IsCell x) (kind_size kind) (drop r.offset r.held.cells) (Each_drop (IsCell x) r.offset r.held.cells q.object.cells))))

-- the object of a global with other cells is one too
set_globals : (m : Module) (gs : List GlobalVar) (os : Memory) (n : ℕ) (o : Object0) (cells : List Cell) → slice_get os n ≡ Some o → AreGlobals m gs os → AreGlobals m gs (slice_set os n (record o { cells = cells }))
set_globals m [] os n o cells at all = tt
set_globals m (g ∷ gs) [] n o cells at all = absurd all
set_globals m (g ∷ gs) (y ∷ os) zero o cells at all = (subst (λ (p : Object0). IsGlobal m g p) (some_is y o at) all.0, all.1)
set_globals m (g ∷ gs) (y ∷ os) (suc n) o cells at all = (all.0, set_globals m gs os n o cells at all.1)

-- an object behind those of globals may be any other
set_behind : (m : Module) (gs : List GlobalVar) (os : Memory) (n : ℕ) (p : Object0) → length gs ≤ n → AreGlobals m gs os → AreGlobals m gs (slice_set os n p)
set_behind m [] os n p behind all = tt
set_behind m (g ∷ gs) [] n p behind all = absurd all
set_behind m (g ∷ gs) (y ∷ os) zero p behind all = absurd (omega arith)
set_behind m (g ∷ gs) (y ∷ os) (suc n) p behind all = (all.0, set_behind m gs os n p (omega arith) all.1)

-- more objects
pub globals_before : (m : Module) (gs : List GlobalVar) (os more : Memory) → AreGlobals m gs os → AreGlobals m gs (os ++ more)
globals_before m [] os more all = tt
globals_before m (g ∷ gs) [] more all = absurd all
globals_before m (g ∷ gs) (y ∷ os) more all = (all.0, globals_before m gs os more all.1)

-- as many objects at least
pub globals_within : (m : Module) (gs : List GlobalVar) (os : Memory) → AreGlobals m gs os → length gs ≤ length os
globals_within m [] os all = omega arith
globals_within m (g ∷ gs) [] all = absurd all
globals_within m (g ∷ gs) (y ∷ os) all = let h = globals_within m gs os all.1 in omega arith

-- memory in which as many objects hold cells as before, and the globals stand as before
pub record IsMemory (x : Present) (old new : Memory) : Type 0 where
  pub cells : Each (IsObject x) new
  pub many : length new ≡ length old
  pub globals : (m : Module) (gs : List GlobalVar) → length gs ≤ x.globals → AreGlobals m gs old → AreGlobals m gs new

-- memory as it was
same_memory : (x : Present) (m : Memory) → Each (IsObject x) m → IsMemory x m m
same_memory x m all = record { cells = all; many = refl; globals = λ whose gs few stand. stand }

-- a row with a part of it changed is as long
middle : {X : Type 0} (xs ys : List X) (at : ℕ) → at + length ys ≤ length xs → length (take at xs ++ ys ++ drop (at + length ys) xs) ≡ length xs
middle xs ys at inside =
    let e1 = length-append (take at xs ++ ys) (drop (at + length ys) xs) in
    let e2 = length-append (take at xs) ys in
    let e3 = length-take-le at xs (omega arith) in
    let e4 = length-drop (at + length ys) xs in
    omega arith

-- memory that was written
written_is : (x : Present) (m : Memory) (r : Range) (many : ℕ) (cells : List Cell) → Each (IsObject x) m → IsRange x m many r → length cells ≡ many → Each (IsCell x) cells → IsMemory x m (written m r cells)
written_is x m r many cells all held so new =
    let changed : List Cell = take r.offset r.held.cells ++ cells ++ drop (r.offset + length cells) r.held.cells in
    let object : IsObject x (record r.held { cells = changed }) = record {
      count =
          let size : length r.held.cells ≡ r.held.size = held.object.count ∙ ap (λ b. if b then r.held.size else 0) held.live in
          let inside = held.inside in
          let long = so in
          middle r.held.cells cells r.offset (omega arith) ∙ held.object.count;
      cells = Each_both (IsCell x) (take r.offset r.held.cells ++ cells) (drop (r.offset + length cells) r.held.cells)
          (Each_both (IsCell x) (take r.offset r.held.cells) cells (Each_take (IsCell x) r.offset r.held.cells held.object.cells) new) (Each_drop (IsCell x) (r.offset + length cells) r.held.cells held.object.cells);
    } in
    record { cells = Each_set (IsObject x) m r.object (record r.held { cells = changed }) all object; many = length_set m r.object (record r.held { cells = changed }); globals = λ whose gs few stand. set_globals whose gs m r.object r.held changed held.found stand }

-- as many cells as a range has
cells_length : (x : Present) (m : Memory) (many : ℕ) (r : Range) → IsRange x m many r → length (cells_at r many) ≡ many
cells_length x m many r is =
    let size : length r.held.cells ≡ r.held.size = is.object.count ∙ ap (λ b. if b then r.held.size else 0) is.live in
    let inside = is.inside in
    let left = length-drop r.offset r.held.cells in
    length-take-le many (drop r.offset r.held.cells) (omega arith)

-- a store keeps memory so
pub store_gives : (x : Present) (m : Memory) → Each (IsObject x) m → (kind : Kind) (v p : Value) → IsOfKind x kind v → Properly (IsMemory x m) (store_at m v p)
store_gives x m all kind v p is =
    then_gives (IsRange x m (length (cells_of v))) (IsMemory x m) (writable_range m (length (cells_of v)) p) (λ r. Ok (written m r (cells_of v))) (writable_gives x m all (length (cells_of v)) p)
    (λ r q. written_is x m r (length (cells_of v)) (cells_of v) all q refl (cells_are x kind v is))

-- so does a fill with a byte
pub filled_gives : (x : Present) (m : Memory) → Each (IsObject x) m → (p : Value) (byte count : ℕ) → byte < 256 → Properly (IsMemory x m) (filled m p byte count)
filled_gives x m all p byte count small =
    if_gives (IsMemory x m) (nat_eq count 0) (Ok m) (and_then (writable_range m count p) (λ r. Ok (written m r (replicate count (Byte byte))))) (same_memory x m all)
    (then_gives (IsRange x m count) (IsMemory x m) (writable_range m count p) (λ r. Ok (written m r (replicate count (Byte byte)))) (writable_gives x m all count p)
    (λ r q. written_is x m r count (replicate count (Byte byte)) all q (length-replicate count (Byte byte)) (Each_replicate (IsCell x) count (Byte byte) small)))

-- and a copy
pub copied_gives : (x : Present) (m : Memory) → Each (IsObject x) m → (to from : Value) (count : ℕ) → Properly (IsMemory x m) (copied m to from count)
copied_gives x m all to from count =
    let store : Range → Range → Answer Memory = λ a b. if overlaps count a b then Err (Left Overlap) else Ok (written m b (cells_at a count)) in
    if_gives (IsMemory x m) (nat_eq count 0) (Ok m) (and_then (readable_range m count from) (λ a. and_then (writable_range m count to) (λ b. store a b))) (same_memory x m all)
    (then_gives (IsRange x m count) (IsMemory x m) (readable_range m count from) (λ a. and_then (writable_range m count to) (λ b. store a b)) (readable_gives x m all count from)
    (λ a q. then_gives (IsRange x m count) (IsMemory x m) (writable_range m count to) (λ b. store a b) (writable_gives x m all count to)
    (λ b r. if_gives (IsMemory x m) (overlaps count a b) (Err (Left Overlap)) (Ok (written m b (cells_at a count))) tt
    (written_is x m b count (cells_at a count) all r (cells_length x m count a q) (Each_take (IsCell x) count (drop a.offset a.held.cells) (Each_drop (IsCell x) a.offset a.held.cells q.object.cells))))))

-- an object that dies
dead_is : (x : Present) (m : Memory) (o : ℕ) (y : Option Object0) → x.globals ≤ o → Each (IsObject x) m → IsMemory x m (dead_at m o y)
dead_is x m o None behind all = same_memory x m all
dead_is x m o (Some y) behind all = record { cells = Each_set (IsObject x) m o (dead y) all (record { count = refl; cells = tt }); many = length_set m o (dead y); globals = λ whose gs few stand. set_behind whose gs m o (dead y) (omega arith) stand }

-- memory once objects are dead
pub without_is : (x : Present) (os : List ℕ) (m : Memory) → Each (IsOwn x) os → Each (IsObject x) m → IsMemory x m (without m os)
without_is x [] m own all = same_memory x m all
without_is x (o ∷ os) m own all =
    let first = dead_is x m o (slice_get m o) own.0.0 all in
    let rest = without_is x os (dead_at m o (slice_get m o)) own.1 first.cells in
    record { cells = rest.cells; many = rest.many ∙ first.many; globals = λ whose gs few stand. rest.globals whose gs few (first.globals whose gs few stand) }

-- what was of a kind is so among more objects
pub record Wider (x y : Present) : Type 0 where
  pub objects : x.objects ≤ y.objects
  pub functions : x.functions ≡ y.functions
  pub globals : x.globals ≡ y.globals

-- a value among more objects
pub kind_wider : (x y : Present) → Wider x y → (kind : Kind) (v : Value) → IsOfKind x kind v → IsOfKind y kind v
kind_wider x y w NoValue v p = absurd p
kind_wider x y w (Number u) (Num v n) p = p
kind_wider x y w (Number u) Null p = absurd p
kind_wider x y w (Number u) (At o d) p = absurd p
kind_wider x y w (Number u) (Fun f) p = absurd p
kind_wider x y w Pointer (Num v n) p = absurd p
kind_wider x y w Pointer Null p = tt
kind_wider x y w Pointer (At o d) p = let q = p.0 in let e = w.objects in (omega arith, p.1)
kind_wider x y w Pointer (Fun f) p = let e = w.functions in omega arith

-- a cell
cell_wider : (x y : Present) → Wider x y → (c : Cell) → IsCell x c → IsCell y c
cell_wider x y w Unset p = tt
cell_wider x y w (Byte n) p = p
cell_wider x y w (Piece v k) p = (kind_wider x y w Pointer v p.0, p.1)

-- all objects
pub objects_wider : (x y : Present) → Wider x y → (m : Memory) → Each (IsObject x) m → Each (IsObject y) m
objects_wider x y w m all = Each_more (IsObject x) (IsObject y) m (λ o p. record { count = p.count; cells = Each_more (IsCell x) (IsCell y) o.cells (cell_wider x y w) p.cells }) all
