-- The data of a small module, computed:
--     @a = constant [3 x i8] c"ABC"
--     @b = global ptr @a
--     @c = constant ptr @main
--     @d = global ptr getelementptr (i8, ptr @b, i64 4)
use Rattle.std.proofs.Common.{◌≡◌, ℕ, Bool, true, false, List, [], ◌∷◌, take, refl, sym, subst}
use Rattle.std.specs.Prelude.{codes, pos}
use denote.Hole.Carrier.{out}
use Rattle.ir_core.specs.declared.ty.Ty.{Ty, out-Ty}
use Rattle.ir_core.specs.declared.ty.Ty.TheVariants.{Array as Row}
use Rattle.rd_num.specs.declared.width.Width.TheVariants.{W8}
use Rattle.ir_core.specs.declared.operand.Operand.{Operand}
use Rattle.ir_core.specs.declared.operand.Place0.{Place0}
use Rattle.ir_core.specs.declared.init.Init.{Init}
use Rattle.ir_core.specs.declared.module.GlobalVar.{GlobalVar}
use Rattle.ir_core.specs.declared.module.Module.{Module}
use Rattle.ir_core.proofs.Inits.{init-text, init-value}
use Rattle.ir_core.proofs.Types.{shape-int, shape-ptr}
use Rattle.ir_core.proofs.WorkedWords.{i8, i64, int, named, program}
use Rattle.low_core.specs.Placing.{part_bytes, address_behind, ArePlaced}
use Rattle.low_core.specs.Plan.{Content}
use Rattle.obj_core.specs.declared.address.SlotAddr.{SlotAddr}
use Rattle.data_place.specs.Placed.{first_contents, HoldsData}
use Rattle.data_place.proofs.StartLaws.{placed}

-- a global
abbrev global : Bool → List ℕ → Ty → Init → GlobalVar
global constant name ty init = record { name = name; constant = constant; ty = ty; init = init }

-- four bytes behind the start of @b
abbrev behind_b : Place0
behind_b = record { source = i8; base = codes "b"; indices = record { ty = i64; value = pos 4 } ∷ [] }

-- the module
abbrev four : Module
four = program (
    global true (codes "a") (Row 3 i8) (Init.Text (codes "ABC"))
    ∷ global false (codes "b") Ty.Ptr (Init.Value (named (codes "a")))
    ∷ global true (codes "c") Ty.Ptr (Init.Value (named (codes "main")))
    ∷ global false (codes "d") Ty.Ptr (Init.Value (Operand.Const behind_b))
    ∷ []) [] [] (int 0)

-- constants at 0x20000000 and 0x20000010, the others at 0x30000000 and 0x30000010
abbrev addresses : List ℕ
addresses = 536870912 ∷ 805306368 ∷ 536870928 ∷ 805306384 ∷ []

-- the one function has the slot at 0x10000010
abbrev pointers : List SlotAddr
pointers = record { position = 1 } ∷ []

-- the low byte of a pointer comes first
abbrev contents : List Content
contents =
    record { constant = true; bytes = 65 ∷ 66 ∷ 67 ∷ [] }
    ∷ record { constant = false; bytes = 0 ∷ 0 ∷ 0 ∷ 32 ∷ 0 ∷ 0 ∷ 0 ∷ 0 ∷ [] }
    ∷ record { constant = true; bytes = 16 ∷ 0 ∷ 0 ∷ 16 ∷ 0 ∷ 0 ∷ 0 ∷ 0 ∷ [] }
    ∷ record { constant = false; bytes = 4 ∷ 0 ∷ 0 ∷ 48 ∷ 0 ∷ 0 ∷ 0 ∷ 0 ∷ [] }
    ∷ []

-- what the globals hold
pub contents_are : first_contents four addresses pointers ≡ contents
unfolding out-Ty out
contents_are =
    rw (init-text four (codes "ABC") (Row 3 i8), init-value four (named (codes "a")) Ty.Ptr, init-value four (named (codes "main")) Ty.Ptr, init-value four (Operand.Const behind_b) Ty.Ptr, shape-ptr [], shape-int [] W8) refl

-- the bytes of @a and @c
abbrev constants : List ℕ
constants = 65 ∷ 66 ∷ 67 ∷ 0 ∷ 0 ∷ 0 ∷ 0 ∷ 0 ∷ 0 ∷ 0 ∷ 0 ∷ 0 ∷ 0 ∷ 0 ∷ 0 ∷ 0 ∷ 16 ∷ 0 ∷ 0 ∷ 16 ∷ 0 ∷ 0 ∷ 0 ∷ 0 ∷ 0 ∷ 0 ∷ 0 ∷ 0 ∷ 0 ∷ 0 ∷ 0 ∷ 0 ∷ []

-- the bytes of @b and @d
abbrev others : List ℕ
others = 0 ∷ 0 ∷ 0 ∷ 32 ∷ 0 ∷ 0 ∷ 0 ∷ 0 ∷ 0 ∷ 0 ∷ 0 ∷ 0 ∷ 0 ∷ 0 ∷ 0 ∷ 0 ∷ 4 ∷ 0 ∷ 0 ∷ 48 ∷ 0 ∷ 0 ∷ 0 ∷ 0 ∷ 0 ∷ 0 ∷ 0 ∷ 0 ∷ 0 ∷ 0 ∷ 0 ∷ 0 ∷ []

-- the parts
pub constants_are : part_bytes true contents ≡ constants
constants_are = refl

pub others_are : part_bytes false contents ≡ others
others_are = refl

-- the last global's address
pub last_address : address_behind (take 3 contents) (record { constant = false; bytes = [] }) ≡ 805306384
last_address = refl

-- all of it together
pub four_is_placed : HoldsData four pointers (record { globals = addresses; ro = constants; rw = others })
four_is_placed = subst (λ (cs : List Content). ArePlaced cs addresses constants others) (sym contents_are) (placed contents addresses constants others refl refl refl)
