-- How functions are linked to planned slots: each slot that comes back by one jump, and no link to a slot that isn't there.
use Rattle.std.specs.Prelude.{◌≡◌, ℕ, ◌+◌, ◌<◌, ◌^◌, List, length, Some, slice_get}
use Rattle.obj_core.specs.declared.object.Func.{Func}
use Rattle.obj_core.specs.declared.object.Link.{Link}
use Rattle.obj_core.specs.declared.plan.Site.{Site}
use Rattle.obj_core.specs.declared.plan.Slot0.{Slot0}
use Rattle.obj_core.specs.Object.{Each}
use Rattle.obj_rows.specs.Assembled.{site_of, ends_from}

-- a link to one of so many slots, whose jump ends below 2^32
abbrev pub IsLinkTo : ℕ → Link → Type 0
IsLinkTo slots l = (l.slot < slots) × (l.at + 4 < 2 ^ 32)

-- functions whose links are to planned slots, each of which has one where it comes back
pub record AreLinked (fs : List Func) (planned : List Slot0) : Type 0 where
  pub inside : Each (λ (f : Func). Each (IsLinkTo (length planned)) f.links) fs
  pub once : (k : ℕ) (slot : Slot0) (site : Site) → slice_get planned k ≡ Some slot → site_of slot ≡ Some site → length (ends_from k 0 fs) ≡ 1
