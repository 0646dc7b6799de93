-- How pointers compare and how they move.
use Rattle.std.specs.Prelude.{ℕ, ◌+◌, ◌%◌, ◌^◌, Bool, true, false, not, ◌&&◌, nat_eq, nat_lt, nat_le, slice_get, Option, Some, None, Ok, Err, if◌then◌else◌}
use Rattle.rd_num.specs.declared.width.Width.TheVariants.{W64}
use Rattle.ir_core.specs.declared.memory.Value.{Value}
use Rattle.ir_core.specs.declared.memory.Value.TheVariants.{Num, Null, At, Fun}
use Rattle.ir_core.specs.declared.memory.Object0.{Object0}
use Rattle.ir_core.specs.declared.memory.Reason.TheVariants.{Order, Equal, Gep}
use Rattle.ir_core.specs.declared.instruction.Pred.{Pred}
use Rattle.ir_core.specs.declared.instruction.Pred.TheVariants.{Eq, Ne, Ult, Ule, Ugt, Uge, Slt, Sle, Sgt, Sge}
use Rattle.ir_core.specs.Stops.{Left, Answer, and_then, Malformed}
use Rattle.ir_core.specs.Arithmetic.{compared}
use Rattle.ir_core.specs.Memory.{Memory}

-- whether an offset is inside of a live object
abbrev pub holds_place : Option Object0 → ℕ → Bool
holds_place (Some x) d = x.live && nat_lt d x.size
holds_place None d = false

-- the object of a place is live, and the offset is below its size
abbrev pub is_inside : Memory → ℕ → ℕ → Bool
is_inside m o d = holds_place (slice_get m o) d

-- places inside of live objects differ from null, from functions, and from such places in other objects; of others nothing is known
abbrev pub apart_if : Bool → Answer Bool
apart_if known = if known then Ok false else Err (Left Equal)

-- whether two pointers are the same, where that is claimed
abbrev pub pointers_equal : Memory → Value → Value → Answer Bool
pointers_equal m Null Null = Ok true
pointers_equal m Null (Fun g) = Ok false
pointers_equal m Null (At p e) = apart_if (is_inside m p e)
pointers_equal m (Fun f) Null = Ok false
pointers_equal m (Fun f) (Fun g) = Ok (nat_eq f g)
pointers_equal m (Fun f) (At p e) = apart_if (is_inside m p e)
pointers_equal m (At o d) Null = apart_if (is_inside m o d)
pointers_equal m (At o d) (Fun g) = apart_if (is_inside m o d)
pointers_equal m (At o d) (At p e) = if nat_eq o p then Ok (nat_eq d e) else apart_if (is_inside m o d && is_inside m p e)
pointers_equal m u v = Err Malformed

-- whether an offset is at most the size
abbrev pub reaches : Option Object0 → ℕ → Bool
reaches (Some x) d = nat_le d x.size
reaches None d = false

-- offsets of one object, live or dead, compare where both are at most its size
abbrev pub pointers_ordered : Pred → Memory → Value → Value → Answer Bool
pointers_ordered pred m (At o d) (At p e) =
    if nat_eq o p && (reaches (slice_get m o) d && reaches (slice_get m o) e) then Ok (compared pred W64 d e) else Err (Left Order)
pointers_ordered pred m u v = Err (Left Order)

-- what a comparison of two pointers says; signed order says nothing of them
abbrev pub pointers_compared : Pred → Memory → Value → Value → Answer Bool
pointers_compared Eq m u v = pointers_equal m u v
pointers_compared Ne m u v = and_then (pointers_equal m u v) (λ same. Ok (not same))
pointers_compared Ult m u v = pointers_ordered Ult m u v
pointers_compared Ule m u v = pointers_ordered Ule m u v
pointers_compared Ugt m u v = pointers_ordered Ugt m u v
pointers_compared Uge m u v = pointers_ordered Uge m u v
pointers_compared Slt m u v = Err (Left Order)
pointers_compared Sle m u v = Err (Left Order)
pointers_compared Sgt m u v = Err (Left Order)
pointers_compared Sge m u v = Err (Left Order)

-- null and functions can be moved by nothing alone
abbrev pub unmoved_pointer : ℕ → Value → Answer Value
unmoved_pointer by v = if nat_eq (by % 2 ^ 64) 0 then Ok v else Err (Left Gep)

-- a pointer so many bytes on, modulo 2^64
abbrev pub moved_pointer : ℕ → Value → Answer Value
moved_pointer by (At o d) = Ok (At o ((d + by) % 2 ^ 64))
moved_pointer by Null = unmoved_pointer by Null
moved_pointer by (Fun f) = unmoved_pointer by (Fun f)
moved_pointer by (Num w n) = Err Malformed
