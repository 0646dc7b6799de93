-- A loop that copies so many bytes at once, over ranges that are apart or begin at one place.
use Rattle.std.proofs.Common.{◌≡◌, ℕ, zero, suc, ◌+◌, ◌-◌, ◌*◌, ◌<◌, ◌≤◌, ◌⊎◌, ◌^◌, ◌%◌, true, List, [], ◌∷◌, length, get_or, refl, sym, ◌∙◌, ap, subst, inl, inr, arith, lit≤}
use Rattle.std.specs.Prelude.{pos, negsuc}
use Rattle.std.proofs.lemmas.Bool.{cases_lt}
use Rattle.behavior.specs.Simulation.{Comes}
use Rattle.behavior.proofs.Stretch.{comes_join, comes_wider}
use Rattle.rd_num.specs.Number.{le_bytes, le_number}
use Rattle.x86_core.specs.declared.reg.Reg.TheVariants.{Rax, Rsi, Rdi}
use Rattle.x86_core.specs.declared.flags.Flags.{Flags}
use Rattle.x86_core.specs.declared.image.Segment.{Segment}
use Rattle.x86_core.specs.declared.instr.Size.{Size}
use Rattle.x86_core.specs.declared.instr.Instr.TheVariants.{Load, Store}
use Rattle.x86_core.specs.Arithmetic.{moved, size_bits}
use Rattle.x86_core.specs.Effect.{effect_of}
use Rattle.x86_core.specs.Memory.{reads, one_covers, write_at}
use Rattle.x86_core.specs.Step.{State, size_bytes}
use Rattle.x86_rows.specs.Addresses.{byte_at, range_at, SameShape, Written}
use Rattle.x86_rows.specs.Straight.{Core, Through, exec}
use Rattle.x86_rows.proofs.Covers.{range_length}
use Rattle.x86_rows.proofs.Leaves.{load, store_by}
use Rattle.x86_rows.proofs.Rows.{exec-first}
use Rattle.x86_rows.proofs.Shapes.{shape_refl, shape_trans, one_same}
use Rattle.x86_rows.proofs.Writing.{write_range}
use Rattle.obj_core.specs.declared.object.Object.{Object}
use Rattle.obj_core.specs.declared.object.Place.{Place}
use Rattle.obj_core.specs.SymbolicMachine.{symbolic_step}
use Rattle.obj_rows.specs.Marked.{Marked, all_unlinked, row_size, Stands, IsFunction}
use Rattle.obj_rows.specs.Standing.{Outside, standing}
use Rattle.rt_routines.specs.Code.{byte_of, past, fewer, copy_body, copy_loop}
use Rattle.rt_routines.proofs.Words.{Used, core_of}
use Rattle.rt_routines.proofs.Loops.{counted, leaves, turns}
use Rattle.rt_routines.proofs.Fills.{total, Writable, writable_rest}

-- bytes may be copied from one range to the other
pub record Copyable (ss : List Segment) (to from n : ℕ) : Type 0 where
  pub target : Writable ss to n
  pub below : 1 ≤ n → from + n < 2 ^ 64
  pub allowed : (p m : ℕ) → from ≤ p → p + m ≤ from + n → 1 ≤ m → one_covers reads ss p m ≡ true
  pub bytes : (q : ℕ) → from ≤ q → q < from + n → byte_at ss q < 256
  pub beside : (to ≡ from) ⊎ ((to + n ≤ from) ⊎ (from + n ≤ to))

-- what is still to be copied does not lie in what has been written
pub source_kept : (ss : List Segment) (to from n k q : ℕ) → Copyable ss to from n → k ≤ n → from + k ≤ q → q < from + n → (q < to) ⊎ (to + k ≤ q)
source_kept ss to from n k q x fits lo hi = elim x.beside [
  | inl one ↦ inr (omega (arith, one, lo))
  | inr apart ↦ elim apart [
    | inl before ↦ inr (omega (arith, before, lo, fits))
    | inr after ↦ inl (omega (arith, after, hi))
  ]
]

pub copyable_rest : (ss ts : List Segment) (to from n k m : ℕ) → k + m ≤ n → SameShape ss ts → ((q : ℕ) → (q < to) ⊎ (to + k ≤ q) → byte_at ts q ≡ byte_at ss q) → Copyable ss to from n → Copyable ts (to + k) (from + k) m
copyable_rest ss ts to from n k m fits shape same x = record {
  target = writable_rest ss ts to n k m fits shape x.target;
  below = λ some. let b = x.below (omega (arith, fits, some)) in omega (arith, b, fits);
  allowed = λ p l lo hi some. sym (one_same reads ss ts p l shape) ∙ x.allowed p l (omega (arith, lo)) (omega (arith, hi, fits)) some;
  bytes = λ q lo hi. subst (λ b. b < 256) (sym (same q (source_kept ss to from n k q x (omega (arith, fits)) lo (omega (arith, hi, fits))))) (x.bytes q (omega (arith, lo)) (omega (arith, hi, fits)));
  beside = elim x.beside [
    | inl one ↦ inl (omega (arith, one))
    | inr apart ↦ inr (elim apart [
      | inl before ↦ inl (omega (arith, before, fits))
      | inr after ↦ inr (omega (arith, after, fits))
    ])
  ];
}

-- a byte of a range
pub range_byte : (ss : List Segment) (p n i : ℕ) → i < n → get_or (range_at ss p n) i 0 ≡ byte_at ss (p + i)
range_byte ss p zero i lt = absurd (omega (arith, lt))
range_byte ss p (suc n) zero lt = let e : p ≡ p + 0 = omega arith in ap (byte_at ss) e
range_byte ss p (suc n) (suc i) lt = let e : p + 1 + i ≡ p + suc i = omega arith in range_byte ss (p + 1) n i (omega (arith, lt)) ∙ ap (byte_at ss) e

-- the registers in a loop
abbrev copying : Used → ℕ → ℕ → ℕ → ℕ → Used
copying u a to from count = record u { rax = a; rsi = from; rdi = to; rdx = count }

abbrev sum64 : ℕ → ℕ → ℕ
sum64 a b = (a % 2 ^ 64 + b % 2 ^ 64) % 2 ^ 64

abbrev less64 : ℕ → ℕ → ℕ
less64 a b = (a % 2 ^ 64 + 2 ^ 64 - b % 2 ^ 64) % 2 ^ 64

-- after a store the counters move on
record Counts (w : ℕ → ℕ) (u : Used) (f : Flags) (ss : List Segment) (bytes a to from count : ℕ) : Type 0 where
  flags : Flags
  runs : exec (past Rsi bytes ∷ past Rdi bytes ∷ fewer bytes ∷ []) (core_of w (copying u a to from count) f ss) ≡ Through (core_of w (copying u a (sum64 to bytes) (sum64 from bytes) (less64 count bytes)) flags ss)

counts : (w : ℕ → ℕ) (u : Used) (f : Flags) (ss : List Segment) (bytes a to from count : ℕ) → Counts w u f ss bytes a to from count
unfolding effect_of
counts w u f ss bytes a to from count = record { flags = _; runs = refl }

module _ (o : Object) (n : ℕ) (row : List Marked) (is : IsFunction o n row) (size : Size) (bytes off : ℕ) (long : row_size (all_unlinked (copy_body size bytes)) ≡ 35) (far : off < 2 ^ 32) (some : 1 ≤ bytes) (few : bytes ≤ 8)
    (stands : Stands row off (all_unlinked (copy_loop size bytes))) (out : Outside) (w : ℕ → ℕ) (u : Used) (as_long : size_bytes size ≡ bytes)
    (again_bytes : (ss : List Segment) (p : ℕ) → ((q : ℕ) → p ≤ q → q < p + bytes → byte_at ss q < 256) → le_bytes (size_bytes size) (le_number (range_at ss p (size_bytes size)) % 2 ^ size_bits size) ≡ range_at ss p bytes) where
  abbrev at : ℕ → Core → State Place
  at k c = standing out (Place.Code n k) c

  -- what so many rounds leave
  pub record Copies (f : Flags) (ss : List Segment) (r a to from count to2 rest : ℕ) : Type 0 where
    pub flags : Flags
    pub segments : List Segment
    pub last : ℕ
    pub comes : Comes (symbolic_step o) 2 (8 * r + 2) (at off (core_of w (copying u a to from count) f ss)) (at (off + 53) (core_of w (copying u last to2 (from + total bytes r) rest) flags segments))
    pub shape : SameShape ss segments
    pub inside : (i : ℕ) → i < total bytes r → byte_at segments (to + i) ≡ byte_at ss (from + i)
    pub outside : (q : ℕ) → (q < to) ⊎ (to + total bytes r ≤ q) → byte_at segments q ≡ byte_at ss q

  skips : moved (off + 13) (pos 40) ≡ off + 18 + 35
  skips = omega (arith, far)

  agains : moved (off + 18 + 35) (negsuc 52) ≡ off
  agains = omega (arith, far)

  small : bytes < 2 ^ 64
  small = omega (arith, few)

  -- one round
  record Round (f : Flags) (ss : List Segment) (a to from count : ℕ) : Type 0 where
    flags : Flags
    segments : List Segment
    last : ℕ
    comes : Comes (symbolic_step o) 8 8 (at off (core_of w (copying u a to from count) f ss)) (at off (core_of w (copying u last (to + bytes) (from + bytes) (count - bytes)) flags segments))
    shape : SameShape ss segments
    inside : (i : ℕ) → i < bytes → byte_at segments (to + i) ≡ byte_at ss (from + i)
    outside : (q : ℕ) → (q < to) ⊎ (to + bytes ≤ q) → byte_at segments q ≡ byte_at ss q

  round : (f : Flags) (ss : List Segment) (a to from count m : ℕ) → bytes ≤ count → count < 2 ^ 64 → bytes ≤ m → Copyable ss to from m → Round f ss a to from count
  round f ss a to from count m enough fits inside x =
      let below = x.target.below (omega (arith, some, inside)) in
      let from_below = x.below (omega (arith, some, inside)) in
      let copied = range_at ss from bytes in
      let count_is : length copied ≡ bytes = range_length ss from bytes in
      let y : Written ss to copied = write_range ss to copied x.target.disjoint (omega (arith, count_is, some)) (x.target.allowed to (length copied) (omega arith) (omega (arith, count_is, inside)) (omega (arith, count_is, some))) in
      let g = counted count bytes in
      let loaded = le_number (range_at ss from (size_bytes size)) in
      let c = core_of w (copying u a to from count) g ss in
      let c1 = core_of w (copying u loaded to from count) g ss in
      let c2 = core_of w (copying u loaded to from count) g y.segments in
      let there : moved to (pos 0) ≡ to = omega (arith, below) in
      let there2 : moved from (pos 0) ≡ from = omega (arith, from_below) in
      let may_read : one_covers reads ss from (size_bytes size) ≡ true = x.allowed from (size_bytes size) (omega arith) (omega (arith, as_long, inside)) (omega (arith, as_long, some)) in
      let gives = ap (λ bs. write_at ss to bs) (again_bytes ss from (λ q lo hi. x.bytes q lo (omega (arith, hi, inside)))) ∙ y.gives in
      let z = counts w u g y.segments bytes loaded to from count in
      let up : sum64 to bytes ≡ to + bytes = omega (arith, below, inside) in
      let up2 : sum64 from bytes ≡ from + bytes = omega (arith, from_below, inside) in
      let down : less64 count bytes ≡ count - bytes = omega (arith, enough, fits) in
      let d = core_of w (copying u loaded (to + bytes) (from + bytes) (count - bytes)) z.flags y.segments in
      let runs : exec (copy_body size bytes) c ≡ Through d =
      exec-first (Load size Rax (byte_of Rsi)) (Store size (byte_of Rdi) Rax ∷ past Rsi bytes ∷ past Rdi bytes ∷ fewer bytes ∷ []) c c1 (load c size Rax (byte_of Rsi) from there2 x.target.disjoint may_read) ∙
      exec-first (Store size (byte_of Rdi) Rax) (past Rsi bytes ∷ past Rdi bytes ∷ fewer bytes ∷ []) c1 c2 (store_by c1 size (byte_of Rdi) Rax to (loaded % 2 ^ size_bits size) y.segments there refl gives) ∙
      z.runs ∙
      ap (λ k. Through (core_of w (copying u loaded k (sum64 from bytes) (less64 count bytes)) z.flags y.segments)) up ∙
      ap (λ k. Through (core_of w (copying u loaded (to + bytes) k (less64 count bytes)) z.flags y.segments)) up2 ∙
      ap (λ k. Through (core_of w (copying u loaded (to + bytes) (from + bytes) k) z.flags y.segments)) down in
      record {
        flags = z.flags;
        segments = y.segments;
        last = loaded;
        comes = turns o n row is bytes (pos 40) (negsuc 52) (copy_body size bytes) off 35 long skips agains small stands out w (copying u a to from count) f ss d enough fits runs;
        shape = y.shape;
        inside = λ i lt. y.inside i (omega (arith, count_is, lt)) ∙ range_byte ss from bytes i lt;
        outside = λ q away. y.outside q (elim away [ inl lt ↦ inl lt | inr ge ↦ inr (omega (arith, count_is, ge)) ]);
      }

  -- as many rounds as there are
  pub copies : (r : ℕ) (f : Flags) (ss : List Segment) (a to from count to2 rest : ℕ) → count ≡ rest + total bytes r → rest < bytes → count < 2 ^ 64 → to2 ≡ to + total bytes r → Copyable ss to from (total bytes r) → Copies f ss r a to from count to2 rest
  copies zero f ss a to from count to2 rest left less fits end x =
      let e : count ≡ rest = omega (arith, left) in
      let e2 : to ≡ to2 = omega (arith, end) in
      let e3 : from ≡ from + 0 = omega arith in
      let there : off + 18 + 35 ≡ off + 53 = omega arith in
      let g = counted count bytes in
      let t0 = at off (core_of w (copying u a to from count) f ss) in
      record {
        flags = g;
        segments = ss;
        last = a;
        comes =
            subst (λ k. Comes (symbolic_step o) 2 2 t0 (at k (core_of w (copying u a to2 (from + 0) rest) g ss))) there
            (subst (λ k. Comes (symbolic_step o) 2 2 t0 (at (off + 18 + 35) (core_of w (copying u a to2 k rest) g ss))) e3
            (subst (λ k. Comes (symbolic_step o) 2 2 t0 (at (off + 18 + 35) (core_of w (copying u a to2 from k) g ss))) e
            (subst (λ k. Comes (symbolic_step o) 2 2 t0 (at (off + 18 + 35) (core_of w (copying u a k from count) g ss))) e2
            (leaves o n row is bytes (pos 40) (negsuc 52) (copy_body size bytes) off 35 long skips agains small stands out w (copying u a to from count) f ss (omega (arith, e, less))))));
        shape = shape_refl ss;
        inside = λ i lt. absurd (omega (arith, lt));
        outside = λ q away. refl;
      }
  copies (suc r) f ss a to from count to2 rest left less fits end x =
      let y = round f ss a to from count (total bytes (suc r)) (omega (arith, left)) fits (omega arith) x in
      let z = copies r y.flags y.segments y.last (to + bytes) (from + bytes) (count - bytes) to2 rest (omega (arith, left)) less (omega (arith, fits)) (omega (arith, end))
      (copyable_rest ss y.segments to from (total bytes (suc r)) bytes (total bytes r) (omega arith) y.shape y.outside x) in
      let e : from + bytes + total bytes r ≡ from + total bytes (suc r) = omega arith in
      let t0 = at off (core_of w (copying u a to from count) f ss) in
      let t1 = at off (core_of w (copying u y.last (to + bytes) (from + bytes) (count - bytes)) y.flags y.segments) in
      let t2 = at (off + 53) (core_of w (copying u z.last to2 (from + total bytes (suc r)) rest) z.flags z.segments) in
      record {
        flags = z.flags;
        segments = z.segments;
        last = z.last;
        comes =
            comes_wider (symbolic_step o) (8 + 2) (8 + (8 * r + 2)) 2 (8 * suc r + 2) t0 t2 (lit≤ tt) (omega arith)
            (comes_join (symbolic_step o) 8 8 2 (8 * r + 2) t0 t1 t2 y.comes
            (subst (λ k. Comes (symbolic_step o) 2 (8 * r + 2) t1 (at (off + 53) (core_of w (copying u z.last to2 k rest) z.flags z.segments))) e z.comes));
        shape = shape_trans ss y.segments z.segments y.shape z.shape;
        inside = λ i lt. elim (cases_lt i bytes) [
          | inl first ↦ z.outside (to + i) (inl (omega (arith, first))) ∙ y.inside i first
          | inr later ↦
              let there : to + i ≡ to + bytes + (i - bytes) = omega (arith, later) in
              let back : from + bytes + (i - bytes) ≡ from + i = omega (arith, later) in
              ap (byte_at z.segments) there ∙ z.inside (i - bytes) (omega (arith, later, lt)) ∙ ap (byte_at y.segments) back ∙
              y.outside (from + i) (source_kept ss to from (total bytes (suc r)) bytes (from + i) x (omega arith) (omega (arith, later)) (omega (arith, lt)))
        ];
        outside = λ q away. elim away [
          | inl before ↦ z.outside q (inl (omega (arith, before))) ∙ y.outside q (inl before)
          | inr after ↦ z.outside q (inr (omega (arith, after))) ∙ y.outside q (inr (omega (arith, after)))
        ];
      }
