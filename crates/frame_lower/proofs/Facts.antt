-- What a program that an object suits is known for, by the numbers of its parts.
use Rattle.std.proofs.Common.{◌≡◌, ℕ, ◌+◌, ◌*◌, ◌^◌, ◌<◌, ◌≤◌, true, List, [], Some, subst, arith}
use Rattle.std.specs.Prelude.{slice_get}
use Rattle.std.specs.List.{All}
use Rattle.std.proofs.lemmas.List.Elements.{All-get_or}
use Rattle.std.proofs.lemmas.Option.{slice_get_within, get_or_from_slice_get, slice_get-get_or}
use Rattle.low_core.specs.declared.sel.SelBlock.{SelBlock}
use Rattle.low_core.specs.declared.sel.SelFun.{SelFun}
use Rattle.low_core.specs.declared.sel.SelOp.{SelOp}
use Rattle.low_core.specs.declared.sel.SelOp.TheVariants.{Set, Copy, Alu, Div, Widen, Test, Pick, Load, Store, FrameAt, GlobalAt, FunctionAt, Call, CallAt, Outside}
use Rattle.low_core.specs.declared.sel.Sel.{Sel}
use Rattle.low_core.specs.Plan.{Plan, Content}
use Rattle.low_core.specs.SelShaped.{OpFits, IsOpShaped, IsBlockShaped, IsFunShaped}
use Rattle.obj_core.specs.declared.object.Object.{Object}
use Rattle.frame_rows.specs.Sizes.{IsNoCall}
use Rattle.frame_rows.specs.Steps.{IsReady}
use Rattle.frame_lower.specs.Chain.{most_frame}
use Rattle.frame_lower.specs.Rows.{Making}
use Rattle.frame_lower.specs.Suits.{Suits}

-- what holds of each holds of the one that is there
pub all_there : {X : Type 0} (P : X → Type 0) (xs : List X) (i : ℕ) (x : X) → All P xs → slice_get xs i ≡ Some x → P x
all_there P xs i x all there = subst P (get_or_from_slice_get xs i x x there) (All-get_or P xs i x (slice_get_within xs i x there) all)

module _ (o : Object) (sel : Sel) (plan : Plan) (contents : List Content) (by : ℕ → Making) (live : ℕ → ℕ → ℕ → ℕ → Type 0) (suits : Suits o sel plan contents by live) where
  pub function_shaped : (g : ℕ) (fn : SelFun) → slice_get sel.functions g ≡ Some fn → IsFunShaped sel fn
  function_shaped g fn there = all_there (IsFunShaped sel) sel.functions g fn suits.is_sel.functions there

  pub block_shaped : (g k : ℕ) (fn : SelFun) (b : SelBlock) → slice_get sel.functions g ≡ Some fn → slice_get fn.blocks k ≡ Some b → IsBlockShaped sel fn b
  block_shaped g k fn b there at = all_there (IsBlockShaped sel fn) fn.blocks k b (function_shaped g fn there).blocks at

  pub op_shaped : (g k n : ℕ) (fn : SelFun) (b : SelBlock) (op : SelOp) → slice_get sel.functions g ≡ Some fn → slice_get fn.blocks k ≡ Some b → slice_get b.ops n ≡ Some op → IsOpShaped sel fn op
  op_shaped g k n fn b op there at is = all_there (IsOpShaped sel fn) b.ops n op (block_shaped g k fn b there at).ops is

  -- a frame has few bytes, and all calls together have room
  pub frame_few : (g : ℕ) (fn : SelFun) → slice_get sel.functions g ≡ Some fn → (by g).room + 48 ≤ most_frame
  frame_few g fn there = let r = suits.fits.room g _ (suits.frames g fn there) in omega (arith, r)

  -- an operation that is no call is ready
  pub op_ready : (g k n base : ℕ) (fn : SelFun) (b : SelBlock) (op : SelOp) → slice_get sel.functions g ≡ Some fn → slice_get fn.blocks k ≡ Some b → slice_get b.ops n ≡ Some op → base + (by g).room < 2 ^ 63 → IsNoCall op →
      IsReady plan base (8 * (by g).words) op
  op_ready g k n base fn b op there at is low plain = by_op op (op_shaped g k n fn b op there at is).fits plain
    where
      by_op : (p : SelOp) → OpFits sel fn p → IsNoCall p → IsReady plan base (8 * (by g).words) p
      by_op (Set r m) fits none = fits
      by_op (Copy r s) fits none = tt
      by_op (Alu a w r s t) fits none = tt
      by_op (Div signed rest w r s t) fits none = fits
      by_op (Widen signed from to r s) fits none = tt
      by_op (Test p w r s t) fits none = tt
      by_op (Pick r c s t) fits none = tt
      by_op (Load w r s) fits none = tt
      by_op (Store w s t) fits none = tt
      by_op (FrameAt r m) fits none =
          let e = suits.rooms g fn there in
          let few = frame_few g fn there in
          (omega (arith, e, few, fits), omega (arith, e, fits, low))
      by_op (GlobalAt r i) fits none = λ m e.
          let inside = slice_get_within plan.globals i m e in
          let long = suits.fits.globals in
          let some = slice_get-get_or contents i (record { constant = true; bytes = [] }) (omega (arith, inside, long)) in
          let below = suits.fits.globals_below i m _ (record { address = e; content = some }) in
          omega (arith, below)
      by_op (FunctionAt r i) fits none = λ m e. suits.fits.functions_below i m (record { taken = fits; address = e })
      by_op (Call h r args) fits none = absurd none
      by_op (CallAt s r args) fits none = absurd none
      by_op (Outside which r args) fits none = absurd none
