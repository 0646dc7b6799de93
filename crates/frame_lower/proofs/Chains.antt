-- What waits stays as it is where none of the bytes that are kept for it changes.
use Rattle.std.proofs.Common.{◌≡◌, ℕ, suc, ◌+◌, ◌*◌, ◌<◌, ◌≤◌, List, [], ◌∷◌, length, Option, refl, ◌∙◌, inl, inr, arith, length-append}
use Rattle.x86_core.specs.declared.reg.Reg.{Reg}
use Rattle.x86_core.specs.declared.image.Segment.{Segment}
use Rattle.x86_core.specs.Data.{stack_end}
use Rattle.x86_rows.specs.Addresses.{byte_at}
use Rattle.x86_rows.proofs.Covers.{range_same}
use Rattle.low_core.specs.declared.sel.Sel.{Sel}
use Rattle.low_core.specs.Flat.{Span}
use Rattle.low_core.specs.SelState.{SelFrame}
use Rattle.obj_core.specs.declared.object.Object.{Object}
use Rattle.obj_core.specs.declared.object.Place.{Place}
use Rattle.obj_core.specs.Saved.{saved_register}
use Rattle.frame_rows.specs.declared.spot.Spot.{Spot}
use Rattle.frame_rows.specs.declared.spot.Spot.TheVariants.{Own, Frame}
use Rattle.frame_rows.specs.Ties.{IsHome}
use Rattle.frame_lower.specs.Chain.{upward, Saved, Stored, IsWay, pushes_of, Reserved, Entry, Chain}
use Rattle.frame_lower.specs.Rows.{Making}

upward_long : (order : List ℕ) → length (upward order) ≡ length order
upward_long [] = refl
upward_long (place ∷ order) = let e = upward_long order in let l = length-append (upward order) (saved_register place ∷ []) in omega (arith, e, l)

-- a word stays wherever a register was pushed
pub saved_same : (ss ts : List Segment) (rs : List Reg) (p : ℕ) (r : Reg) (n : ℕ) → ((q : ℕ) → p ≤ q → q < p + 8 * length rs → byte_at ts q ≡ byte_at ss q) → Saved ss rs p r n → Saved ts rs p r n
saved_same ss ts [] p r n same saved = tt
saved_same ss ts (s ∷ rs) p r n same saved = (
  λ e. range_same ts ss 8 p (λ q from to. same q from (omega (arith, to))) ∙ saved.0 e,
  saved_same ss ts rs (p + 8) r n (λ q from to. same q (omega (arith, from)) (omega (arith, to))) saved.1,
)

-- and in the home of a function that waits
pub stored_same : (ss ts : List Segment) (order : List ℕ) (pushes words : ℕ) (h : Spot) (n : ℕ) → length order ≡ 5 → IsHome words h → ((q : ℕ) → pushes ≤ q → q < pushes + 48 + 8 * words → byte_at ts q ≡ byte_at ss q) →
    Stored ss order pushes (pushes + 48) h n → Stored ts order pushes (pushes + 48) h n
stored_same ss ts order pushes words (Own r) n five is same stored =
    let l = upward_long order in
    saved_same ss ts (upward order) pushes r n (λ q from to. same q from (omega (arith, l, five, to))) stored
stored_same ss ts order pushes words (Frame k) n five is same stored =
    range_same ts ss 8 (pushes + 48 + 8 * k) (λ q from to. same q (omega (arith, from)) (omega (arith, to, is))) ∙ stored

-- so does a word by which a run lands
pub way_same : (o : Object) (ss ts : List Segment) (at : ℕ) (place : Place) → ((q : ℕ) → at ≤ q → q < at + 8 → byte_at ts q ≡ byte_at ss q) → IsWay o ss at place → IsWay o ts at place
way_same o ss ts at place same way = record { word = way.word; small = way.small; there = range_same ts ss 8 at same ∙ way.there; lands = way.lands }

module _ (o : Object) (sel : Sel) (by : ℕ → Making) (globals : List Span) (live : ℕ → ℕ → ℕ → ℕ → Type 0) (last : Place) where
  abbrev pushes : SelFrame → ℕ
  pushes = pushes_of o sel by globals live last

  abbrev Keeps_ : List SelFrame → ℕ → ℕ → Type 0
  Keeps_ = Reserved o sel by globals live last

  abbrev Waits : List Segment → SelFrame → ℕ → List SelFrame → Type 0
  Waits = Chain o sel by globals live last

  module _ (five : (g : ℕ) → length (by g).order ≡ 5) (homes : (g x : ℕ) → IsHome (by g).words ((by g).homes x)) where
    pub entry_same : (ss ts : List Segment) (f : SelFrame) (depth : ℕ) (x : SelFrame) → ((q : ℕ) → pushes f ≤ q → q < pushes f + 48 + 8 * (by x.function).words → byte_at ts q ≡ byte_at ss q) →
        Entry o sel by globals live last ss f depth x → Entry o sel by globals live last ts f depth x
    entry_same ss ts f depth x same e = record {
      back = e.back;
      way = way_same o ss ts (pushes f + 40) e.back (λ q from to. same q (omega (arith, from)) (omega (arith, to))) e.way;
      offset = e.offset;
      returns = e.returns;
      here = e.here;
      is_function = e.is_function;
      is_block = e.is_block;
      after = e.after;
      after_is = e.after_is;
      stands = e.stands;
      base = e.base;
      own = e.own;
      room = e.room;
      small = e.small;
      apart = e.apart;
      stored = λ y n l ne i. stored_same ss ts (by f.function).order (pushes f) (by x.function).words ((by x.function).homes y) n (five f.function) (homes x.function y) same (e.stored y n l ne i);
    }

    pub chain_same : (xs : List SelFrame) (ss ts : List Segment) (f : SelFrame) (depth : ℕ) → ((q : ℕ) → Keeps_ xs (pushes f) q → byte_at ts q ≡ byte_at ss q) → Waits ss f depth xs → Waits ts f depth xs
    chain_same [] ss ts f depth same c = (c.0, way_same o ss ts (pushes f + 40) last (λ q from to. same q (omega (arith, from), omega (arith, to))) c.1)
    chain_same (x ∷ xs) ss ts f depth same c = (
      entry_same ss ts f (suc depth) x (λ q from to. same q (inl (from, to))) c.0,
      c.1,
      chain_same xs ss ts x (suc depth) (λ q i. same q (inr i)) c.2,
    )

  -- all of it lies in the stack
  pub chain_high : (xs : List SelFrame) (ss : List Segment) (f : SelFrame) (depth : ℕ) → Waits ss f depth xs → pushes f + 48 ≤ stack_end
  chain_high [] ss f depth c = c.0
  chain_high (x ∷ xs) ss f depth c = let b = c.0.base in let high = chain_high xs ss x (suc depth) c.2 in omega (arith, b, high)

  -- and none of it below the pushed registers
  pub reserved_low : (xs : List SelFrame) (ss : List Segment) (f : SelFrame) (depth q : ℕ) → Waits ss f depth xs → Keeps_ xs (pushes f) q → pushes f ≤ q
  reserved_low [] ss f depth q c i = i.0
  reserved_low (x ∷ xs) ss f depth q c (inl i) = i.0
  reserved_low (x ∷ xs) ss f depth q c (inr i) = let b = c.0.base in let low = reserved_low xs ss x (suc depth) q c.2 i in omega (arith, b, low)

  -- what waits for a call waits for it at another place and with other registers
  abbrev pub moved_to : SelFrame → ℕ → ℕ → List (Option ℕ) → SelFrame
  moved_to f k n registers = record f { block = k; next = n; registers = registers }

  pub chain_moved : (xs : List SelFrame) (ss : List Segment) (f : SelFrame) (depth k n : ℕ) (registers : List (Option ℕ)) → Waits ss f depth xs → Waits ss (moved_to f k n registers) depth xs
  chain_moved [] ss f depth k n registers c = c
  chain_moved (x ∷ xs) ss f depth k n registers c =
      let e = c.0 in (
        record {
          back = e.back;
          way = e.way;
          offset = e.offset;
          returns = e.returns;
          here = e.here;
          is_function = e.is_function;
          is_block = e.is_block;
          after = e.after;
          after_is = e.after_is;
          stands = e.stands;
          base = e.base;
          own = e.own;
          room = e.room;
          small = e.small;
          apart = e.apart;
          stored = e.stored;
        },
        c.1,
        c.2,
      )
