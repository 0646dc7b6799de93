-- A loop that fills: so many bytes at once, each of them the same.
use Rattle.std.proofs.Common.{◌≡◌, ℕ, zero, suc, ◌+◌, ◌-◌, ◌*◌, ◌<◌, ◌≤◌, ◌⊎◌, ◌^◌, ◌%◌, true, List, [], ◌∷◌, length, get_or, refl, sym, ◌∙◌, ap, subst, inl, inr, arith, lit≤}
use Rattle.std.specs.Prelude.{pos, negsuc}
use Rattle.std.proofs.lemmas.Bool.{cases_lt}
use Rattle.behavior.specs.Simulation.{Comes}
use Rattle.behavior.proofs.Stretch.{comes_join, comes_wider}
use Rattle.rd_num.specs.Number.{le_bytes}
use Rattle.x86_core.specs.declared.reg.Reg.TheVariants.{Rax, Rdi}
use Rattle.x86_core.specs.declared.flags.Flags.{Flags}
use Rattle.x86_core.specs.declared.image.Segment.{Segment}
use Rattle.x86_core.specs.declared.instr.Size.{Size}
use Rattle.x86_core.specs.declared.instr.Instr.TheVariants.{Store}
use Rattle.x86_core.specs.Arithmetic.{moved, size_bits}
use Rattle.x86_core.specs.Effect.{effect_of}
use Rattle.x86_core.specs.Memory.{writes, one_covers}
use Rattle.x86_core.specs.Step.{State, size_bytes}
use Rattle.x86_rows.specs.Addresses.{byte_at, AreDisjoint, SameShape, Written}
use Rattle.x86_rows.specs.Straight.{Core, Through, exec}
use Rattle.x86_rows.proofs.Leaves.{store}
use Rattle.x86_rows.proofs.Rows.{exec-first}
use Rattle.x86_rows.proofs.Shapes.{shape_refl, shape_trans, one_same, disjoint_same}
use Rattle.x86_rows.proofs.Writing.{write_range}
use Rattle.obj_core.specs.declared.object.Object.{Object}
use Rattle.obj_core.specs.declared.object.Place.{Place}
use Rattle.obj_core.specs.SymbolicMachine.{symbolic_step}
use Rattle.obj_rows.specs.Marked.{Marked, all_unlinked, row_size, Stands, IsFunction}
use Rattle.obj_rows.specs.Standing.{Outside, standing}
use Rattle.rt_routines.specs.Code.{byte_of, past, fewer, fill_body, fill_loop}
use Rattle.rt_routines.proofs.Words.{Used, core_of}
use Rattle.rt_routines.proofs.Loops.{counted, leaves, turns}

-- the bytes of so many rounds
abbrev pub total : ℕ → ℕ → ℕ
total bytes zero = 0
total bytes (suc r) = bytes + total bytes r

-- parts of a range may be written
pub record Writable (ss : List Segment) (to n : ℕ) : Type 0 where
  pub disjoint : AreDisjoint ss
  pub below : 1 ≤ n → to + n < 2 ^ 64
  pub allowed : (p m : ℕ) → to ≤ p → p + m ≤ to + n → 1 ≤ m → one_covers writes ss p m ≡ true

-- what is left to fill, over a memory of the same shape
pub writable_rest : (ss ts : List Segment) (to n k m : ℕ) → k + m ≤ n → SameShape ss ts → Writable ss to n → Writable ts (to + k) m
writable_rest ss ts to n k m fits shape x = record {
  disjoint = disjoint_same ss ts shape x.disjoint;
  below = λ some. let b = x.below (omega (arith, fits, some)) in omega (arith, b, fits);
  allowed = λ p l from up_to some. sym (one_same writes ss ts p l shape) ∙ x.allowed p l (omega (arith, from)) (omega (arith, up_to, fits)) some;
}

-- the registers in a loop
abbrev filling : Used → ℕ → ℕ → Used
filling u to count = record u { rdi = to; rdx = count }

-- after a store the counters move on
record Counts (w : ℕ → ℕ) (u : Used) (f : Flags) (ss : List Segment) (bytes to count : ℕ) : Type 0 where
  flags : Flags
  runs : exec (past Rdi bytes ∷ fewer bytes ∷ []) (core_of w (filling u to count) f ss) ≡ Through (core_of w (filling u ((to % 2 ^ 64 + bytes % 2 ^ 64) % 2 ^ 64) ((count % 2 ^ 64 + 2 ^ 64 - bytes % 2 ^ 64) % 2 ^ 64)) flags ss)

counts : (w : ℕ → ℕ) (u : Used) (f : Flags) (ss : List Segment) (bytes to count : ℕ) → Counts w u f ss bytes to count
unfolding effect_of
counts w u f ss bytes to count = record { flags = _; runs = refl }

module _ (o : Object) (n : ℕ) (row : List Marked) (is : IsFunction o n row) (size : Size) (bytes off : ℕ) (long : row_size (all_unlinked (fill_body size bytes)) ≡ 21) (far : off < 2 ^ 32) (some : 1 ≤ bytes) (few : bytes ≤ 8)
    (stands : Stands row off (all_unlinked (fill_loop size bytes))) (out : Outside) (w : ℕ → ℕ) (u : Used) (b : ℕ)
    (as_long : length (le_bytes (size_bytes size) (u.rax % 2 ^ size_bits size)) ≡ bytes) (same : (i : ℕ) → i < bytes → get_or (le_bytes (size_bytes size) (u.rax % 2 ^ size_bits size)) i 0 ≡ b) where
  abbrev at : ℕ → Core → State Place
  at k c = standing out (Place.Code n k) c

  abbrev stored : List ℕ
  stored = le_bytes (size_bytes size) (u.rax % 2 ^ size_bits size)

  -- what so many rounds leave
  pub record Fills (f : Flags) (ss : List Segment) (r to count to2 rest : ℕ) : Type 0 where
    pub flags : Flags
    pub segments : List Segment
    pub comes : Comes (symbolic_step o) 2 (6 * r + 2) (at off (core_of w (filling u to count) f ss)) (at (off + 39) (core_of w (filling u to2 rest) flags segments))
    pub shape : SameShape ss segments
    pub inside : (i : ℕ) → i < total bytes r → byte_at segments (to + i) ≡ b
    pub outside : (q : ℕ) → (q < to) ⊎ (to + total bytes r ≤ q) → byte_at segments q ≡ byte_at ss q

  skips : moved (off + 13) (pos 26) ≡ off + 18 + 21
  skips = omega (arith, far)

  agains : moved (off + 18 + 21) (negsuc 38) ≡ off
  agains = omega (arith, far)

  small : bytes < 2 ^ 64
  small = omega (arith, few)

  -- one round
  record Round (f : Flags) (ss : List Segment) (to count : ℕ) : Type 0 where
    flags : Flags
    segments : List Segment
    comes : Comes (symbolic_step o) 6 6 (at off (core_of w (filling u to count) f ss)) (at off (core_of w (filling u (to + bytes) (count - bytes)) flags segments))
    shape : SameShape ss segments
    inside : (i : ℕ) → i < bytes → byte_at segments (to + i) ≡ b
    outside : (q : ℕ) → (q < to) ⊎ (to + bytes ≤ q) → byte_at segments q ≡ byte_at ss q

  round : (f : Flags) (ss : List Segment) (to count m : ℕ) → bytes ≤ count → count < 2 ^ 64 → bytes ≤ m → Writable ss to m → Round f ss to count
  round f ss to count m enough fits inside x =
      let below = x.below (omega (arith, some, inside)) in
      let y : Written ss to stored = write_range ss to stored x.disjoint (omega (arith, as_long, some)) (x.allowed to (length stored) (omega arith) (omega (arith, as_long, inside)) (omega (arith, as_long, some))) in
      let g = counted count bytes in
      let c = core_of w (filling u to count) g ss in
      let c2 = core_of w (filling u to count) g y.segments in
      let there : moved to (pos 0) ≡ to = omega (arith, below) in
      let z = counts w u g y.segments bytes to count in
      let up : (to % 2 ^ 64 + bytes % 2 ^ 64) % 2 ^ 64 ≡ to + bytes = omega (arith, below, inside) in
      let down : (count % 2 ^ 64 + 2 ^ 64 - bytes % 2 ^ 64) % 2 ^ 64 ≡ count - bytes = omega (arith, enough, fits) in
      let d = core_of w (filling u (to + bytes) (count - bytes)) z.flags y.segments in
      let runs : exec (fill_body size bytes) c ≡ Through d =
      exec-first (Store size (byte_of Rdi) Rax) (past Rdi bytes ∷ fewer bytes ∷ []) c c2 (store c size (byte_of Rdi) Rax to (u.rax % 2 ^ size_bits size) there refl y) ∙
      z.runs ∙ ap (λ k. Through (core_of w (filling u k ((count % 2 ^ 64 + 2 ^ 64 - bytes % 2 ^ 64) % 2 ^ 64)) z.flags y.segments)) up ∙ ap (λ k. Through (core_of w (filling u (to + bytes) k) z.flags y.segments)) down in
      record {
        flags = z.flags;
        segments = y.segments;
        comes = turns o n row is bytes (pos 26) (negsuc 38) (fill_body size bytes) off 21 long skips agains small stands out w (filling u to count) f ss d enough fits runs;
        shape = y.shape;
        inside = λ i lt. y.inside i (omega (arith, as_long, lt)) ∙ same i lt;
        outside = λ q away. y.outside q (elim away [ inl lt ↦ inl lt | inr ge ↦ inr (omega (arith, as_long, ge)) ]);
      }

  -- as many rounds as there are
  pub fills : (r : ℕ) (f : Flags) (ss : List Segment) (to count to2 rest : ℕ) → count ≡ rest + total bytes r → rest < bytes → count < 2 ^ 64 → to2 ≡ to + total bytes r → Writable ss to (total bytes r) → Fills f ss r to count to2 rest
  fills zero f ss to count to2 rest left less fits end x =
      let e : count ≡ rest = omega (arith, left) in
      let e2 : to ≡ to2 = omega (arith, end) in
      let there : off + 18 + 21 ≡ off + 39 = omega arith in
      let g = counted count bytes in
      record {
        flags = g;
        segments = ss;
        comes =
            subst (λ k. Comes (symbolic_step o) 2 2 (at off (core_of w (filling u to count) f ss)) (at k (core_of w (filling u to2 rest) g ss))) there
            (subst (λ k. Comes (symbolic_step o) 2 2 (at off (core_of w (filling u to count) f ss)) (at (off + 18 + 21) (core_of w (filling u to2 k) g ss))) e
            (subst (λ k. Comes (symbolic_step o) 2 2 (at off (core_of w (filling u to count) f ss)) (at (off + 18 + 21) (core_of w (filling u k count) g ss))) e2
            (leaves o n row is bytes (pos 26) (negsuc 38) (fill_body size bytes) off 21 long skips agains small stands out w (filling u to count) f ss (omega (arith, e, less)))));
        shape = shape_refl ss;
        inside = λ i lt. absurd (omega (arith, lt));
        outside = λ q away. refl;
      }
  fills (suc r) f ss to count to2 rest left less fits end x =
      let y = round f ss to count (total bytes (suc r)) (omega (arith, left)) fits (omega arith) x in
      let z = fills r y.flags y.segments (to + bytes) (count - bytes) to2 rest (omega (arith, left)) less (omega (arith, fits)) (omega (arith, end)) (writable_rest ss y.segments to (total bytes (suc r)) bytes (total bytes r) (omega arith) y.shape x) in
      let t0 = at off (core_of w (filling u to count) f ss) in
      let t1 = at off (core_of w (filling u (to + bytes) (count - bytes)) y.flags y.segments) in
      let t2 = at (off + 39) (core_of w (filling u to2 rest) z.flags z.segments) in
      record {
        flags = z.flags;
        segments = z.segments;
        comes = comes_wider (symbolic_step o) (6 + 2) (6 + (6 * r + 2)) 2 (6 * suc r + 2) t0 t2 (lit≤ tt) (omega arith) (comes_join (symbolic_step o) 6 6 2 (6 * r + 2) t0 t1 t2 y.comes z.comes);
        shape = shape_trans ss y.segments z.segments y.shape z.shape;
        inside = λ i lt. elim (cases_lt i bytes) [
          | inl first ↦ z.outside (to + i) (inl (omega (arith, first))) ∙ y.inside i first
          | inr later ↦
              let there : to + i ≡ to + bytes + (i - bytes) = omega (arith, later) in
              ap (byte_at z.segments) there ∙ z.inside (i - bytes) (omega (arith, later, lt))
        ];
        outside = λ q away. elim away [
          | inl before ↦ z.outside q (inl (omega (arith, before))) ∙ y.outside q (inl before)
          | inr after ↦ z.outside q (inr (omega (arith, after))) ∙ y.outside q (inr (omega (arith, after)))
        ];
      }
