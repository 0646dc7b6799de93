-- What moves a pointer along a path fits the function.
use Rattle.std.proofs.Common.{ℕ, ◌^◌, ◌<◌, ◌≤◌, Bool, true, false, List, [], ◌∷◌, ◌++◌, arith}
use Rattle.std.specs.Prelude.{nat_eq, if◌then◌else◌}
use Rattle.rd_num.specs.declared.width.Width.{Width}
use Rattle.rd_num.specs.declared.width.Width.TheVariants.{W1, W8, W16, W32, W64}
use Rattle.rd_num.specs.Number.{bits}
use Rattle.ir_core.specs.declared.module.Function.{Function}
use Rattle.ir_core.specs.declared.module.Module.{Module}
use Rattle.ir_sound.specs.WellTyped.{Each}
use Rattle.ir_sound.proofs.RowLaws.{Each_both}
use Rattle.ir_context.specs.declared.path.Path.{Path}
use Rattle.ir_context.specs.declared.path.Stride.{Stride}
use Rattle.low_core.specs.declared.sel.SelAlu.TheVariants.{Add, Mul}
use Rattle.low_core.specs.declared.sel.SelOp.{SelOp}
use Rattle.low_core.specs.declared.sel.SelOp.TheVariants.{Set, Copy, Alu}
use Rattle.isel_rows.specs.Variables.{bytes_register, index_register, moved_register, register_read, width_read}
use Rattle.isel_rows.specs.Brought.{Brought}
use Rattle.isel_rows.specs.Rows.{constant_moved, stride_ops, strides_moved, moved_ops}
use Rattle.isel.proofs.ShapeForms.{vs, Fits, IsBelow, set_fits, copy_fits, alu_fits, widen_fits}
use Rattle.isel.proofs.ShapeOrigins.{StrideStands, PathStands}
use Rattle.isel.proofs.ShapeBrought.{behind_variables, read_below, BroughtFits}

-- a width has 64 bits at most
word_bits : (w : Width) → bits w ≤ bits W64
word_bits W1 = omega arith
word_bits W8 = omega arith
word_bits W16 = omega arith
word_bits W32 = omega arith
word_bits W64 = omega arith

module _ (m : Module) (fn : Function) where
  -- a register of the function
  abbrev Below : ℕ → Type 0
  Below r = IsBelow m fn r

  bytes_below : Below (bytes_register (vs m fn))
  bytes_below = behind_variables m fn 3 (omega arith)

  index_below : Below (index_register (vs m fn))
  index_below = behind_variables m fn 4 (omega arith)

  moved_below : Below (moved_register (vs m fn))
  moved_below = behind_variables m fn 5 (omega arith)

  -- by a constant
  constant_fits : (from by : ℕ) → Below from → by < 2 ^ 64 → BroughtFits m fn (constant_moved (vs m fn) from by)
  constant_fits from by first word = of_test (nat_eq by 0)
    where
      moves : List SelOp
      moves = Set (bytes_register (vs m fn)) by ∷ Alu Add W64 (moved_register (vs m fn)) from (bytes_register (vs m fn)) ∷ []

      fit : Each (Fits m fn) moves
      fit = (set_fits m fn (bytes_register (vs m fn)) by bytes_below word, (alu_fits m fn Add W64 (moved_register (vs m fn)) from (bytes_register (vs m fn)) tt moved_below first bytes_below, tt))

      of_test : (b : Bool) → BroughtFits m fn (if b then record { ops = []; register = from } else record { ops = moves; register = moved_register (vs m fn) })
      of_test true = record { ops = tt; register = first }
      of_test false = record { ops = fit; register = moved_below }

  -- by an index
  stride_fits : (from : ℕ) (s : Stride) → Below from → StrideStands m (vs m fn) s → Each (Fits m fn) (stride_ops (vs m fn) from s)
  stride_fits from s first stands =
      let bytes = bytes_register (vs m fn) in
      let index = index_register (vs m fn) in
      let moved = moved_register (vs m fn) in
      let widened = widen_fits m fn true (width_read (vs m fn) s.index) W64 index (register_read (vs m fn) s.index) (word_bits (width_read (vs m fn) s.index)) index_below (read_below m fn s.index stands.0) in
      let size = set_fits m fn bytes s.size bytes_below stands.1 in
      let times = alu_fits m fn Mul W64 index index bytes tt index_below index_below bytes_below in
      let sum = alu_fits m fn Add W64 moved from index tt moved_below first index_below in
      (widened, (size, (times, (sum, tt))))

  -- by indices one after another
  strides_fit : (from : ℕ) (ss : List Stride) → Below from → Each (StrideStands m (vs m fn)) ss → BroughtFits m fn (strides_moved (vs m fn) from ss)
  strides_fit from [] first stand = record { ops = tt; register = first }
  strides_fit from (s ∷ ss) first stand =
      let others = strides_fit (moved_register (vs m fn)) ss moved_below stand.1 in
      record {
        ops = Each_both (Fits m fn) (stride_ops (vs m fn) from s) (strides_moved (vs m fn) (moved_register (vs m fn)) ss).ops (stride_fits from s first stand.0) others.ops;
        register = others.register;
      }

  -- along a path, into a register
  pub moved_fits : (r : ℕ) (p : Path) (from : ℕ) → Below r → PathStands m (vs m fn) p → Below from → Each (Fits m fn) (moved_ops (vs m fn) r p from)
  moved_fits r p from to stands first =
      let constant : Brought = constant_moved (vs m fn) from p.constant in
      let c = constant_fits from p.constant first stands.0 in
      let others : Brought = strides_moved (vs m fn) constant.register p.strides in
      let o = strides_fit constant.register p.strides c.register stands.1 in
      Each_both (Fits m fn) constant.ops (others.ops ++ Copy r others.register ∷ []) c.ops
      (Each_both (Fits m fn) others.ops (Copy r others.register ∷ []) o.ops (copy_fits m fn r others.register to o.register, tt))
