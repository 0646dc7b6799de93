-- How a `Boxed` stores its value, for types that hold themselves through one: as the value of its `Box`.
use mathlib.Core.Path.{refl}
use mathlib.Core.Former.{Former, this, const, pair, via}
use base.Stored.{gnil}
use base.Fml.{ftrue}
use denote.RattleType.{RattleType}
use denote.Memory.{part_of}
use denote.RawPtr.{Ptr}
use denote.Sharing.{nothing}
use denote.HoleLaws.{Alike}
use denote.HolePlaces.{Recodes, struct_places, laid, one_value}
use denote.Hole.Fix.{over}
use denote.Param.Weighed.{Weighed}
use denote.Model.Placed.{view_places}
use Rattle.std.specs.declared.boxed.Box.{Box}
use Rattle.std.specs.contracts.boxed.Box as heap_box
use Rattle.std.specs.declared.alloc.Global.{Global}
use Rattle.std.specs.contracts.alloc.Global as heap
use Rattle.std.specs.contracts.impls.GlobalAllocator.TheImpl.{ghosts}
use Rattle.rd_num.specs.declared.boxed.Boxed.TheInside.{Inside}
use Rattle.rd_num.specs.declared.boxed.Boxed.TheView.{view, invariant}
use Rattle.rd_num.specs.contracts.boxed.Boxed as outer
use Rattle.rd_num.specs.contracts.boxed.Boxed.TheInside as inner

abbrev pub the_former : Former {0} → Former {0}
the_former value = value

abbrev pub the_weighed : {g : Former {0}} → Weighed g → Weighed (the_former g)
the_weighed weight = weight

-- the pointer and the allocator, which stay, and the value
abbrev parts : Former {0}
parts =
    via (pair (const (Ptr × Global)) this) Inside (λ T s. ((s.inner.ptr, s.inner.alloc), s.inner.value))
    (λ T p. record { inner = record { ptr = p.0.0; alloc = p.0.1; value = p.1 } }) (λ T s. refl) (λ T p. refl)

abbrev boxed_row : RattleType → RattleType
boxed_row R = heap_box.the_row R heap.the_row ghosts

abbrev revalued : {X Y : Type 0} → Box X Global → Y → Box Y Global
revalued b y = record { ptr = b.ptr; alloc = b.alloc; value = y }

module _ (R S : RattleType) (h : R.Denot → S.Denot) where
  box_places : Alike R S h → Alike (boxed_row R) (boxed_row S) (λ b. revalued b (h b.value))
  unfolding part_of
  box_places alike = record {
    mir_same = λ i. (boxed_row (one_value R (alike.mir_same i) (λ _. ftrue) (λ _ _. nothing) gnil)).mir;
    own_same = λ b i. (boxed_row (one_value R (alike.mir_same i) (alike.own_same b.value i) (alike.shr_same b.value i) gnil)).own_val (revalued b tt);
    shr_same = λ b i. (boxed_row (one_value R (alike.mir_same i) (alike.own_same b.value i) (alike.shr_same b.value i) gnil)).shr_at (revalued b tt);
  }

  pub the_codes_placed : Recodes R S h → Recodes (outer.the_row R) (outer.the_row S) ((the_former this).map R.Denot S.Denot h)
  the_codes_placed same value = same value

  pub the_places : Alike R S h → Alike (outer.the_row R) (outer.the_row S) ((the_former this).map R.Denot S.Denot h)
  the_places alike =
      view_places parts this view (λ X Y k u. refl) (λ X u. refl) R.Denot S.Denot h
      (outer.the_row R).coded (outer.the_row S).coded (invariant R.Denot) (invariant S.Denot)
      (λ u p q. refl) (λ u p q. refl) (λ u e. tt) (λ u e. tt)
      (over (inner.the_row R)) (over (inner.the_row S))
      (struct_places (inner.the_type R) (inner.the_type S) ((λ b. revalued b (h b.value)), tt) _ (λ d. refl) refl
      (laid _ _ _ (box_places alike), tt))
