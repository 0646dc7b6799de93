-- memset fills exactly so many bytes, eight at once and the rest one by one.
use Rattle.std.proofs.Common.{◌≡◌, ℕ, zero, suc, ◌+◌, ◌-◌, ◌*◌, ◌/◌, ◌<◌, ◌≤◌, ◌⊎◌, ◌^◌, ◌%◌, List, [], ◌∷◌, ◌++◌, length, get_or, replicate, None, refl, sym, ◌∙◌, ap, inl, inr, arith, lit≤}
use Rattle.std.proofs.lemmas.Bool.{cases_lt}
use Rattle.std.proofs.lemmas.List.{length-replicate}
use Rattle.behavior.specs.Simulation.{Comes}
use Rattle.behavior.proofs.Stretch.{comes_one, comes_join, comes_wider}
use Rattle.rd_num.specs.Number.{le_bytes}
use Rattle.x86_core.specs.declared.reg.Reg.TheVariants.{Rax, Rcx, Rdx, Rsi, Rdi}
use Rattle.x86_core.specs.declared.flags.Flags.{Flags}
use Rattle.x86_core.specs.declared.image.Segment.{Segment}
use Rattle.x86_core.specs.declared.instr.Wide.{Wide}
use Rattle.x86_core.specs.declared.instr.Size.{Size}
use Rattle.x86_core.specs.declared.instr.WidenKind.{WidenKind}
use Rattle.x86_core.specs.declared.instr.Instr.{Instr}
use Rattle.x86_core.specs.declared.instr.Instr.TheVariants.{MovImm64, Imul, Widen, Ret}
use Rattle.x86_core.specs.Data.{stack_start, stack_end}
use Rattle.x86_core.specs.Arithmetic.{unknown_flags}
use Rattle.x86_core.specs.Effect.{effect_of}
use Rattle.x86_core.specs.Memory.{writes}
use Rattle.x86_core.specs.Registers.{word}
use Rattle.x86_core.specs.Step.{State}
use Rattle.x86_rows.specs.Addresses.{byte_at, SameShape}
use Rattle.x86_rows.specs.Straight.{Through, exec}
use Rattle.x86_rows.proofs.Covers.{range_is}
use Rattle.x86_rows.proofs.Saving.{stack_same}
use Rattle.x86_rows.proofs.Shapes.{shape_trans}
use Rattle.obj_core.specs.declared.object.Object.{Object}
use Rattle.obj_core.specs.declared.object.Place.{Place}
use Rattle.obj_core.specs.SymbolicMachine.{symbolic_step}
use Rattle.obj_rows.specs.Marked.{all_unlinked, unlinked, Stands, IsFunction}
use Rattle.obj_rows.specs.Standing.{Outside, standing}
use Rattle.obj_rows.specs.Routines.{LandsBy, IsCalled, IsLent, ComesBack, IsMemset, range_steps}
use Rattle.obj_rows.proofs.Runs.{row_comes}
use Rattle.rt_routines.specs.Code.{eight_ones, fill_loop, memset_row}
use Rattle.rt_routines.proofs.Words.{Used, core_of, kept_same}
use Rattle.rt_routines.proofs.Asks.{by_name, comes_home, lands_same}
use Rattle.rt_routines.proofs.Fills.{total, Writable, writable_rest, Fills, fills}
use Rattle.rt_routines.proofs.Lent.{lent_writable, writable_first, count_small, landing_apart, total_eight, total_one}

-- a byte eight times, as a word
abbrev eightfold : ℕ → ℕ
eightfold b = b * eight_ones % 2 ^ 64

each_of_eight : (b : ℕ) → b < 256 → (i : ℕ) → i < 8 → get_or (le_bytes 8 (eightfold b % 2 ^ 64)) i 0 ≡ b
each_of_eight b small zero lt = omega (arith, small)
each_of_eight b small (suc zero) lt = omega (arith, small)
each_of_eight b small (suc (suc zero)) lt = omega (arith, small)
each_of_eight b small (suc (suc (suc zero))) lt = omega (arith, small)
each_of_eight b small (suc (suc (suc (suc zero)))) lt = omega (arith, small)
each_of_eight b small (suc (suc (suc (suc (suc zero))))) lt = omega (arith, small)
each_of_eight b small (suc (suc (suc (suc (suc (suc zero)))))) lt = omega (arith, small)
each_of_eight b small (suc (suc (suc (suc (suc (suc (suc zero))))))) lt = omega (arith, small)
each_of_eight b small (suc (suc (suc (suc (suc (suc (suc (suc i)))))))) lt = absurd (omega (arith, lt))

each_of_one : (b : ℕ) → b < 256 → (i : ℕ) → i < 1 → get_or (le_bytes 1 (eightfold b % 2 ^ 8)) i 0 ≡ b
each_of_one b small zero lt = omega (arith, small)
each_of_one b small (suc i) lt = absurd (omega (arith, lt))

-- one of equal numbers
one_of_same : (count b i : ℕ) → i < count → get_or (replicate count b) i 0 ≡ b
one_of_same zero b i lt = absurd (omega (arith, lt))
one_of_same (suc count) b zero lt = refl
one_of_same (suc count) b (suc i) lt = one_of_same count b i (omega (arith, lt))

module _ (o : Object) (n : ℕ) (is : IsFunction o n memset_row) where
  abbrev front : List Instr
  front = Widen WidenKind.Zero8 Rax Rsi ∷ MovImm64 Rcx eight_ones ∷ Imul Wide.W64 Rax Rcx ∷ []

  at_front : Stands memset_row 0 (all_unlinked front)
  at_front = record { before = []; behind = all_unlinked (fill_loop Size.W64 8 ++ (fill_loop Size.W8 1 ++ Ret ∷ [])); split = refl; offset = refl }

  at_words : Stands memset_row 18 (all_unlinked (fill_loop Size.W64 8))
  at_words = record { before = all_unlinked front; behind = all_unlinked (fill_loop Size.W8 1 ++ Ret ∷ []); split = refl; offset = refl }

  at_bytes : Stands memset_row 57 (all_unlinked (fill_loop Size.W8 1))
  at_bytes = record { before = all_unlinked (front ++ fill_loop Size.W64 8); behind = unlinked Ret ∷ []; split = refl; offset = refl }

  at_return : Stands memset_row 96 (unlinked Ret ∷ [])
  at_return = record { before = all_unlinked (front ++ (fill_loop Size.W64 8 ++ fill_loop Size.W8 1)); behind = []; split = refl; offset = refl }

  module _ (w : ℕ → ℕ) (u : Used) (f : Flags) (ss : List Segment) (out : Outside) (back : Place) (called : IsCalled o (core_of w u f ss) back) (lent : 1 ≤ u.rdx → IsLent writes (core_of w u f ss) u.rdi u.rdx) where
    abbrev byte : ℕ
    byte = u.rsi % 256

    byte_small : byte < 256
    byte_small = omega arith

    -- the word to fill with
    abbrev ready : Used
    ready = record u { rax = eightfold byte; rcx = eight_ones }

    readies : exec front (core_of w u f ss) ≡ Through (core_of w ready unknown_flags ss)
    unfolding effect_of
    readies = refl

    -- how many words, and how many bytes behind them
    abbrev words : ℕ
    words = u.rdx / 8

    abbrev rest : ℕ
    rest = u.rdx % 8

    abbrev first : ℕ
    first = total 8 words

    abbrev second : ℕ
    second = total 1 rest

    whole : u.rdx ≡ first + second
    whole = let a = total_eight words in let b = total_one rest in omega (arith, a, b)

    small : u.rdx < 2 ^ 64
    small = count_small u.rdi u.rdx (λ some. (lent some).below)

    all : Writable ss u.rdi u.rdx
    all = lent_writable (core_of w u f ss) u.rdi u.rdx called.stack.disjoint lent

    -- words go first
    x : Fills o n memset_row is Size.W64 8 18 refl (lit≤ tt) (lit≤ tt) (lit≤ tt) at_words out w ready byte refl (each_of_eight byte byte_small) unknown_flags ss words u.rdi u.rdx (u.rdi + first) rest
    x =
        let a = total_eight words in
        let e = whole in
        fills o n memset_row is Size.W64 8 18 refl (lit≤ tt) (lit≤ tt) (lit≤ tt) at_words out w ready byte refl (each_of_eight byte byte_small) words unknown_flags ss u.rdi u.rdx (u.rdi + first) rest
        (omega (arith, a)) (omega arith) small refl (writable_first ss u.rdi u.rdx first (omega (arith, e)) all)

    -- and bytes after them
    y : Fills o n memset_row is Size.W8 1 57 refl (lit≤ tt) (lit≤ tt) (lit≤ tt) at_bytes out w ready byte refl (each_of_one byte byte_small) x.flags x.segments rest (u.rdi + first) rest (u.rdi + first + second) 0
    y =
        let b = total_one rest in
        let e = whole in
        fills o n memset_row is Size.W8 1 57 refl (lit≤ tt) (lit≤ tt) (lit≤ tt) at_bytes out w ready byte refl (each_of_one byte byte_small) rest x.flags x.segments (u.rdi + first) rest (u.rdi + first + second) 0
        (omega (arith, b)) (lit≤ tt) (omega arith) refl (writable_rest ss x.segments u.rdi u.rdx first second (omega (arith, e)) x.shape all)

    -- what both leave
    shape : SameShape ss y.segments
    shape = shape_trans ss x.segments y.segments x.shape y.shape

    inside : (i : ℕ) → i < u.rdx → byte_at y.segments (u.rdi + i) ≡ byte
    inside i lt =
        let e = whole in
        elim (cases_lt i first) [
          | inl early ↦ y.outside (u.rdi + i) (inl (omega (arith, early))) ∙ x.inside i early
          | inr late ↦
              let there : u.rdi + i ≡ u.rdi + first + (i - first) = omega (arith, late) in
              ap (byte_at y.segments) there ∙ y.inside (i - first) (omega (arith, late, lt, e))
        ]

    outside : (q : ℕ) → (q < u.rdi) ⊎ (u.rdi + u.rdx ≤ q) → byte_at y.segments q ≡ byte_at ss q
    outside q away =
        let e = whole in
        elim away [
          | inl before ↦ y.outside q (inl (omega (arith, before))) ∙ x.outside q (inl before)
          | inr after ↦ y.outside q (inr (omega (arith, after, e))) ∙ x.outside q (inr (omega (arith, after, e)))
        ]

    -- and back
    abbrev last : Used
    last = record ready { rdi = u.rdi + first + second; rdx = 0 }

    lands : LandsBy o (core_of w last y.flags y.segments) u.rsp back
    lands =
        let r = called.room in
        lands_same o (core_of w u f ss) (core_of w last y.flags y.segments) u.rsp back
        (λ q low high. outside q (landing_apart u.rdi u.rdx u.rsp q (λ some. (lent some).apart) (omega (arith, r)) low high)) called.lands

    home : symbolic_step o (standing out (Place.Code n 96) (core_of w last y.flags y.segments)) ≡ standing out back (core_of w (record last { rsp = u.rsp + 8 }) y.flags y.segments)
    home =
        let r = called.room in
        comes_home o n memset_row is out 96 w last y.flags y.segments back at_return (stack_same stack_start stack_end ss y.segments shape called.stack) (omega (arith, r)) called.top lands

    comes : Comes (symbolic_step o) 1 (range_steps u.rdx) (standing out (Place.Code n 0) (core_of w u f ss)) (standing out back (core_of w (record last { rsp = u.rsp + 8 }) y.flags y.segments))
    comes =
        let step = symbolic_step o in
        let t0 : State Place = standing out (Place.Code n 0) (core_of w u f ss) in
        let t1 : State Place = standing out (Place.Code n 18) (core_of w ready unknown_flags ss) in
        let t2 : State Place = standing out (Place.Code n 57) (core_of w (record ready { rdi = u.rdi + first; rdx = rest }) x.flags x.segments) in
        let t3 : State Place = standing out (Place.Code n 96) (core_of w last y.flags y.segments) in
        let t4 : State Place = standing out back (core_of w (record last { rsp = u.rsp + 8 }) y.flags y.segments) in
        let start = row_comes o n memset_row is out (all_unlinked front) 0 (core_of w u f ss) (core_of w ready unknown_flags ss) at_front readies in
        comes_wider step (3 + (2 + (2 + 1))) (3 + (6 * words + 2 + (6 * rest + 2 + 1))) 1 (range_steps u.rdx) t0 t4 (lit≤ tt) (omega arith)
        (comes_join step 3 3 (2 + (2 + 1)) (6 * words + 2 + (6 * rest + 2 + 1)) t0 t1 t4 start
        (comes_join step 2 (6 * words + 2) (2 + 1) (6 * rest + 2 + 1) t1 t2 t4 x.comes (comes_join step 2 (6 * rest + 2) 1 1 t2 t3 t4 y.comes (comes_one step t3 t4 home))))

    done : ComesBack o n (range_steps u.rdx) (core_of w u f ss) out out back None u.rdi (replicate u.rdx byte)
    done =
        let l : length (replicate u.rdx byte) ≡ u.rdx = length-replicate u.rdx byte in
        record {
          core = core_of w (record last { rsp = u.rsp + 8 }) y.flags y.segments;
          comes = comes;
          long = refl;
          kept = kept_same w u (record last { rsp = u.rsp + 8 }) refl;
          top = refl;
          answers = tt;
          shape = shape;
          range = range_is y.segments (replicate u.rdx byte) u.rdi (λ i lt. let s : i < u.rdx = omega (arith, l, lt) in inside i s ∙ sym (one_of_same u.rdx byte i s));
          others = λ q _ away. outside q (elim away [ inl before ↦ inl before | inr after ↦ inr (omega (arith, l, after)) ]);
        }

  pub is_memset : IsMemset o n
  is_memset c out back called lent =
      by_name (λ d. IsCalled o d back → (1 ≤ word d.regs Rdx → IsLent writes d (word d.regs Rdi) (word d.regs Rdx)) →
      ComesBack o n (range_steps (word d.regs Rdx)) d out out back None (word d.regs Rdi) (replicate (word d.regs Rdx) (word d.regs Rsi % 256)))
      (λ w u f ss h m. done w u f ss out back h m) c called.long called lent
