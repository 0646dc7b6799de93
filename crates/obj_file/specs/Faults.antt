-- Which bytes are the spelling of no object, and at which place that shows.
use Rattle.std.specs.Prelude.{◌≡◌, ℕ, ◌+◌, ◌≤◌, ◌⊎◌, List, ◌++◌, length, take}
use Rattle.obj_core.specs.declared.object.Object.{Object}
use Rattle.obj_core.specs.Object.{IsObject, Spells}
use Rattle.obj_file.specs.declared.fault.FormFault.{FormFault}

-- the spelling of some object, in either format, begins with these bytes
pub record BeginsOne (front : List ℕ) : Type 0 where
  pub o : Object
  pub object : IsObject o
  pub more : List ℕ
  pub spelling : Spells (front ++ more) o

-- the bytes spell no object, and this is the length of their longest prefix that begins the spelling of one
pub record IsNoneFrom (bytes : List ℕ) (place : ℕ) : Type 0 where
  pub none : (o : Object) → IsObject o → Spells bytes o → ⊥
  pub within : place ≤ length bytes
  pub begins : BeginsOne (take place bytes)
  pub longest : (place ≡ length bytes) ⊎ (BeginsOne (take (place + 1) bytes) → ⊥)

-- what a fault says of the bytes; want of memory says nothing
abbrev pub NamesFault : List ℕ → FormFault → Type 0
NamesFault bytes (FormFault.At place) = IsNoneFrom bytes place
NamesFault bytes FormFault.NoMemory = Unit {0}
