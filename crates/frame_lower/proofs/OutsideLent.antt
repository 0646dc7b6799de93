-- What routines over ranges ask of memory is there: ranges of the flat memory may be used, and hold bytes.
use Rattle.std.proofs.Common.{◌≡◌, ℕ, ◌+◌, ◌<◌, ◌≤◌, Bool, true, List, length, Option, Some, sym, ◌∙◌, subst, inl, inr, ◌⊎◌, arith}
use Rattle.std.specs.Prelude.{slice_get}
use Rattle.std.proofs.lemmas.Bool.{cases_lt}
use Rattle.x86_core.specs.declared.flags.Flags.{Flags}
use Rattle.x86_core.specs.declared.image.Rights.{Rights}
use Rattle.x86_core.specs.declared.image.Segment.{Segment}
use Rattle.x86_core.specs.Data.{stack_start}
use Rattle.x86_core.specs.Memory.{reads, writes, one_covers}
use Rattle.x86_rows.specs.Addresses.{byte_at, range_at}
use Rattle.x86_rows.specs.Straight.{Core}
use Rattle.x86_rows.proofs.Shapes.{one_same}
use Rattle.low_core.specs.declared.sel.SelBlock.{SelBlock}
use Rattle.low_core.specs.declared.sel.Sel.{Sel}
use Rattle.low_core.specs.Flat.{Span, Bytes, is_inside, is_writable, with_bytes, bytes_from}
use Rattle.low_core.specs.Plan.{Plan, Content}
use Rattle.low_core.specs.SelState.{SelFrame}
use Rattle.obj_core.specs.declared.object.Object.{Object}
use Rattle.obj_rows.specs.Routines.{IsLent, MayCopy}
use Rattle.frame_rows.specs.Words.{Words}
use Rattle.frame_rows.proofs.Accesses.{writable_inside}
use Rattle.frame_lower.specs.Chain.{function_in}
use Rattle.frame_lower.specs.Rows.{Making}
use Rattle.frame_lower.specs.Suits.{Suits}
use Rattle.frame_lower.proofs.ByteMemory.{HoldBytes, byte_small}
use Rattle.frame_lower.proofs.Copying.{Copies, one_inside, copy_changes}
use Rattle.frame_lower.proofs.OutsideBack.{Changed}
use Rattle.frame_lower.proofs.OutsideMet.{Called, core}
use Rattle.frame_lower.proofs.OutsideMet as met
use Rattle.frame_lower.proofs.Spanned.{range_below, spans_below}
use Rattle.frame_lower.proofs.Stage.{Whole}

-- nothing was changed
pub none_changed : (spans : List Span) (bytes : Bytes) (at : ℕ) (bs : List ℕ) → length bs ≡ 0 → Changed spans bytes bytes at bs
none_changed spans bytes at bs none = record { target = λ q lo hi. absurd (omega (arith, lo, hi, none)); old = λ q b o e. e; new = λ i b lt e. absurd (omega (arith, lt, none)) }

module _ (o : Object) (sel : Sel) (plan : Plan) (contents : List Content) (by : ℕ → Making) (live : ℕ → ℕ → ℕ → ℕ → Type 0) (suits : Suits o sel plan contents by live) (input : List ℕ) where
  module _ (f : SelFrame) (callers : List SelFrame) (bytes : Bytes) (printed : List ℕ) (taken depth : ℕ) (w : Words) (fl : Flags) (ss : List Segment) (off : ℕ) (b : SelBlock)
      (is_function : slice_get sel.functions f.function ≡ Some (function_in sel f.function)) (is_block : slice_get (function_in sel f.function).blocks f.block ≡ Some b)
      (whole : Whole o sel plan contents by live suits input f depth callers (live f.function f.block f.next) bytes w ss) (fine : HoldBytes ss)
      (h : ℕ) (into : Option ℕ) (ns : List ℕ) (c : Called o sel plan contents by live suits input f callers bytes printed taken depth w fl ss off b is_function is_block h into ns) where
    abbrev spans : List Span
    spans = met.spans o sel plan contents by live suits input f callers bytes printed taken depth w fl ss off b is_function is_block

    abbrev core_ : Core
    core_ = core o sel plan contents by live suits input f callers bytes printed taken depth w fl ss off b is_function is_block h into ns c

    -- it lies outside of the stack below the frame
    apart : (at n q : ℕ) → is_inside at n spans ≡ true → at ≤ q → q < at + n → (q < stack_start) ⊎ (c.top + 8 ≤ q)
    apart at n q inside from to = elim (cases_lt q stack_start) [
      | inl under ↦ inl under
      | inr over ↦ elim (cases_lt q f.base) [
        | inl below ↦ absurd ((whole.off q (one_inside spans at n q inside from to)).0 over (omega (arith, below)))
        | inr high ↦ let a = c.above in inr (omega (arith, a, high))
      ]
    ]

    -- so its bytes are still there
    still : (at n q : ℕ) → is_inside at n spans ≡ true → at ≤ q → q < at + n → byte_at c.segments q ≡ byte_at ss q
    still at n q inside from to =
        let room = whole.room in
        let a = c.above in
        c.outside q (elim (apart at n q inside from to) [ inl under ↦ inl (omega (arith, under, room, a)) | inr over ↦ inr over ]) ∙ c.quiet q

    lent : (right : Rights → Bool) (at n : ℕ) → is_inside at n spans ≡ true → one_covers right c.before at n ≡ true → IsLent right core_ at n
    lent right at n inside covered = record {
      below = range_below spans at n (spans_below o sel plan contents by live suits input f depth callers (live f.function f.block f.next) bytes w ss is_function whole) inside;
      allowed = sym (one_same right c.before c.segments at n c.shape) ∙ covered;
      apart = λ q from to. apart at n q inside from to;
    }

    pub lent_writes : (at n : ℕ) → is_writable at n spans ≡ true → 1 ≤ n → IsLent writes core_ at n
    lent_writes at n may some = lent writes at n (writable_inside spans at n may) (c.whole.tied.memory.writable at n may some)

    pub may_copy : (to from n : ℕ) → Copies spans to from n → 1 ≤ n → MayCopy core_ to from n
    may_copy to from n copies some = record {
      target = lent_writes to n copies.target some;
      source = lent reads from n copies.source (c.whole.tied.memory.readable from n copies.source some);
      bytes = λ q lo hi. let s = still from n q copies.source lo hi in subst (λ m. m < 256) (sym s) (byte_small ss q fine);
      beside = copies.beside;
    }

    pub copied_changes : (to from n : ℕ) → Copies spans to from n → Changed spans bytes (with_bytes bytes to (bytes_from bytes from n)) to (range_at c.segments from n)
    copied_changes to from n copies = copy_changes spans bytes to n copies.target f.base (by f.function).words from ss c.segments whole.tied.memory copies.source (λ q lo hi. still from n q copies.source lo hi)
