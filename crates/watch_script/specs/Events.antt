-- What the events of a script are, and what a script keeps of them.
use Rattle.std.specs.Prelude.{ℕ, Bool, true, ◌&&◌, nat_le, List, [], ◌∷◌, length}
use Rattle.watch_script.specs.declared.event.Event.{Event}
use Rattle.watch_script.specs.declared.event.Event.TheVariants.{Read, Write}

-- the number of instructions after which an event comes
abbrev pub after_of : Event → ℕ
after_of (Read after at len) = after
after_of (Write after at bytes) = after

-- the first address that is read or written
abbrev pub at_of : Event → ℕ
at_of (Read after at len) = at
at_of (Write after at bytes) = at

-- how many bytes are read or written
abbrev pub size_of : Event → ℕ
size_of (Read after at len) = len
size_of (Write after at bytes) = length bytes

-- none comes before an earlier one or before a number of instructions, and each reads or writes 1 to 4,096 bytes
abbrev pub are_in_order : ℕ → List Event → Bool
are_in_order least [] = true
are_in_order least (e ∷ es) = nat_le least (after_of e) && (nat_le 1 (size_of e) && (nat_le (size_of e) 4096 && are_in_order (after_of e) es))

abbrev pub is_script : List Event → Bool
is_script es = nat_le (length es) 4096 && are_in_order 0 es

-- the instructions after which the last event comes, or a number where there is none
abbrev pub last_after : ℕ → List Event → ℕ
last_after n [] = n
last_after n (e ∷ es) = last_after (after_of e) es
