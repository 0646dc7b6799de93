-- memcpy copies exactly so many bytes, eight at once and the rest one by one.
use Rattle.std.proofs.Common.{◌≡◌, ℕ, ◌+◌, ◌-◌, ◌*◌, ◌/◌, ◌<◌, ◌≤◌, ◌⊎◌, ◌^◌, ◌%◌, List, [], ◌∷◌, ◌++◌, None, refl, sym, ◌∙◌, ap, inl, inr, arith, lit≤}
use Rattle.std.proofs.lemmas.Bool.{cases_lt}
use Rattle.behavior.specs.Simulation.{Comes}
use Rattle.behavior.proofs.Stretch.{comes_one, comes_join, comes_wider}
use Rattle.x86_core.specs.declared.reg.Reg.TheVariants.{Rdx, Rsi, Rdi}
use Rattle.x86_core.specs.declared.flags.Flags.{Flags}
use Rattle.x86_core.specs.declared.image.Segment.{Segment}
use Rattle.x86_core.specs.declared.instr.Size.{Size}
use Rattle.x86_core.specs.declared.instr.Instr.TheVariants.{Ret}
use Rattle.x86_core.specs.Data.{stack_start, stack_end}
use Rattle.x86_core.specs.Registers.{word}
use Rattle.x86_core.specs.Step.{State}
use Rattle.x86_rows.specs.Addresses.{byte_at, range_at, SameShape}
use Rattle.x86_rows.proofs.Covers.{range_is, range_length}
use Rattle.x86_rows.proofs.Saving.{stack_same}
use Rattle.x86_rows.proofs.Shapes.{shape_trans}
use Rattle.obj_core.specs.declared.object.Object.{Object}
use Rattle.obj_core.specs.declared.object.Place.{Place}
use Rattle.obj_core.specs.SymbolicMachine.{symbolic_step}
use Rattle.obj_rows.specs.Marked.{all_unlinked, unlinked, Stands, IsFunction}
use Rattle.obj_rows.specs.Standing.{Outside, standing}
use Rattle.obj_rows.specs.Routines.{LandsBy, IsCalled, MayCopy, ComesBack, IsMemcpy, range_steps}
use Rattle.rt_routines.specs.Code.{copy_loop, memcpy_row}
use Rattle.rt_routines.proofs.Words.{Used, core_of, kept_same}
use Rattle.rt_routines.proofs.Asks.{by_name, comes_home, lands_same}
use Rattle.rt_routines.proofs.Fills.{total}
use Rattle.rt_routines.proofs.Copies.{Copyable, Copies, copies, copyable_rest, source_kept, range_byte}
use Rattle.rt_routines.proofs.Lent.{lent_copyable, copyable_first, count_small, landing_apart, total_eight, total_one, word_again, byte_again}

module _ (o : Object) (n : ℕ) (is : IsFunction o n memcpy_row) where
  at_words : Stands memcpy_row 0 (all_unlinked (copy_loop Size.W64 8))
  at_words = record { before = []; behind = all_unlinked (copy_loop Size.W8 1 ++ Ret ∷ []); split = refl; offset = refl }

  at_bytes : Stands memcpy_row 53 (all_unlinked (copy_loop Size.W8 1))
  at_bytes = record { before = all_unlinked (copy_loop Size.W64 8); behind = unlinked Ret ∷ []; split = refl; offset = refl }

  at_return : Stands memcpy_row 106 (unlinked Ret ∷ [])
  at_return = record { before = all_unlinked (copy_loop Size.W64 8 ++ copy_loop Size.W8 1); behind = []; split = refl; offset = refl }

  module _ (w : ℕ → ℕ) (u : Used) (f : Flags) (ss : List Segment) (out : Outside) (back : Place) (called : IsCalled o (core_of w u f ss) back) (may : 1 ≤ u.rdx → MayCopy (core_of w u f ss) u.rdi u.rsi u.rdx) where
    -- how many words, and how many bytes behind them
    abbrev words : ℕ
    words = u.rdx / 8

    abbrev rest : ℕ
    rest = u.rdx % 8

    abbrev first : ℕ
    first = total 8 words

    abbrev second : ℕ
    second = total 1 rest

    whole : u.rdx ≡ first + second
    whole = let a = total_eight words in let b = total_one rest in omega (arith, a, b)

    small : u.rdx < 2 ^ 64
    small = count_small u.rdi u.rdx (λ some. (may some).target.below)

    all : Copyable ss u.rdi u.rsi u.rdx
    all = lent_copyable (core_of w u f ss) u.rdi u.rsi u.rdx called.stack.disjoint may

    front : Copyable ss u.rdi u.rsi first
    front = let e = whole in copyable_first ss u.rdi u.rsi u.rdx first (omega (arith, e)) all

    -- words go first
    x : Copies o n memcpy_row is Size.W64 8 0 refl (lit≤ tt) (lit≤ tt) (lit≤ tt) at_words out w u refl word_again f ss words u.rax u.rdi u.rsi u.rdx (u.rdi + first) rest
    x =
        let a = total_eight words in
        copies o n memcpy_row is Size.W64 8 0 refl (lit≤ tt) (lit≤ tt) (lit≤ tt) at_words out w u refl word_again words f ss u.rax u.rdi u.rsi u.rdx (u.rdi + first) rest
        (omega (arith, a)) (omega arith) small refl front

    behind : Copyable x.segments (u.rdi + first) (u.rsi + first) second
    behind = let e = whole in copyable_rest ss x.segments u.rdi u.rsi u.rdx first second (omega (arith, e)) x.shape x.outside all

    -- and bytes after them
    y : Copies o n memcpy_row is Size.W8 1 53 refl (lit≤ tt) (lit≤ tt) (lit≤ tt) at_bytes out w u refl byte_again x.flags x.segments rest x.last (u.rdi + first) (u.rsi + first) rest (u.rdi + first + second) 0
    y =
        let b = total_one rest in
        copies o n memcpy_row is Size.W8 1 53 refl (lit≤ tt) (lit≤ tt) (lit≤ tt) at_bytes out w u refl byte_again rest x.flags x.segments x.last (u.rdi + first) (u.rsi + first) rest (u.rdi + first + second) 0
        (omega (arith, b)) (lit≤ tt) (omega arith) refl behind

    -- what both leave
    shape : SameShape ss y.segments
    shape = shape_trans ss x.segments y.segments x.shape y.shape

    inside : (i : ℕ) → i < u.rdx → byte_at y.segments (u.rdi + i) ≡ byte_at ss (u.rsi + i)
    inside i lt =
        let e = whole in
        elim (cases_lt i first) [
          | inl early ↦ y.outside (u.rdi + i) (inl (omega (arith, early))) ∙ x.inside i early
          | inr late ↦
              let there : u.rdi + i ≡ u.rdi + first + (i - first) = omega (arith, late) in
              let from : u.rsi + first + (i - first) ≡ u.rsi + i = omega (arith, late) in
              ap (byte_at y.segments) there ∙ y.inside (i - first) (omega (arith, late, lt, e)) ∙ ap (byte_at x.segments) from
              ∙ x.outside (u.rsi + i) (source_kept ss u.rdi u.rsi u.rdx first (u.rsi + i) all (omega (arith, e)) (omega (arith, late)) (omega (arith, lt)))
        ]

    outside : (q : ℕ) → (q < u.rdi) ⊎ (u.rdi + u.rdx ≤ q) → byte_at y.segments q ≡ byte_at ss q
    outside q away =
        let e = whole in
        elim away [
          | inl before ↦ y.outside q (inl (omega (arith, before))) ∙ x.outside q (inl before)
          | inr after ↦ y.outside q (inr (omega (arith, after, e))) ∙ x.outside q (inr (omega (arith, after, e)))
        ]

    -- and back
    abbrev last : Used
    last = record u { rax = y.last; rsi = u.rsi + first + second; rdi = u.rdi + first + second; rdx = 0 }

    lands : LandsBy o (core_of w last y.flags y.segments) u.rsp back
    lands =
        let r = called.room in
        lands_same o (core_of w u f ss) (core_of w last y.flags y.segments) u.rsp back
        (λ q low high. outside q (landing_apart u.rdi u.rdx u.rsp q (λ some. (may some).target.apart) (omega (arith, r)) low high)) called.lands

    home : symbolic_step o (standing out (Place.Code n 106) (core_of w last y.flags y.segments)) ≡ standing out back (core_of w (record last { rsp = u.rsp + 8 }) y.flags y.segments)
    home =
        let r = called.room in
        comes_home o n memcpy_row is out 106 w last y.flags y.segments back at_return (stack_same stack_start stack_end ss y.segments shape called.stack) (omega (arith, r)) called.top lands

    comes : Comes (symbolic_step o) 1 (range_steps u.rdx) (standing out (Place.Code n 0) (core_of w u f ss)) (standing out back (core_of w (record last { rsp = u.rsp + 8 }) y.flags y.segments))
    comes =
        let step = symbolic_step o in
        let t0 : State Place = standing out (Place.Code n 0) (core_of w u f ss) in
        let t1 : State Place = standing out (Place.Code n 53) (core_of w (record u { rax = x.last; rsi = u.rsi + first; rdi = u.rdi + first; rdx = rest }) x.flags x.segments) in
        let t2 : State Place = standing out (Place.Code n 106) (core_of w last y.flags y.segments) in
        let t3 : State Place = standing out back (core_of w (record last { rsp = u.rsp + 8 }) y.flags y.segments) in
        comes_wider step (2 + (2 + 1)) (8 * words + 2 + (8 * rest + 2 + 1)) 1 (range_steps u.rdx) t0 t3 (lit≤ tt) (omega arith)
        (comes_join step 2 (8 * words + 2) (2 + 1) (8 * rest + 2 + 1) t0 t1 t3 x.comes (comes_join step 2 (8 * rest + 2) 1 1 t1 t2 t3 y.comes (comes_one step t2 t3 home)))

    done : ComesBack o n (range_steps u.rdx) (core_of w u f ss) out out back None u.rdi (range_at ss u.rsi u.rdx)
    done = record {
      core = core_of w (record last { rsp = u.rsp + 8 }) y.flags y.segments;
      comes = comes;
      long = refl;
      kept = kept_same w u (record last { rsp = u.rsp + 8 }) refl;
      top = refl;
      answers = tt;
      shape = shape;
      range = range_is y.segments (range_at ss u.rsi u.rdx) u.rdi (λ i lt. let l = range_length ss u.rsi u.rdx in let s : i < u.rdx = omega (arith, l, lt) in inside i s ∙ sym (range_byte ss u.rsi u.rdx i s));
      others = λ q _ away. let l = range_length ss u.rsi u.rdx in outside q (elim away [ inl before ↦ inl before | inr after ↦ inr (omega (arith, l, after)) ]);
    }

  pub is_memcpy : IsMemcpy o n
  is_memcpy c out back called may =
      by_name (λ d. IsCalled o d back → (1 ≤ word d.regs Rdx → MayCopy d (word d.regs Rdi) (word d.regs Rsi) (word d.regs Rdx)) →
      ComesBack o n (range_steps (word d.regs Rdx)) d out out back None (word d.regs Rdi) (range_at d.segments (word d.regs Rsi) (word d.regs Rdx)))
      (λ w u f ss h m. done w u f ss out back h m) c called.long called may
