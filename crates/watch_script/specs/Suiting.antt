-- Which replies the events of a script may have.
use Rattle.std.specs.Prelude.{Bool, true, false, ◌&&◌, List, [], ◌∷◌}
use Rattle.watch_script.specs.declared.event.Event.{Event}
use Rattle.watch_script.specs.declared.event.Event.TheVariants.{Read, Write}
use Rattle.watch_script.specs.declared.reply.Reply.{Reply}
use Rattle.watch_script.specs.declared.reply.Reply.TheVariants.{Bytes, Written, Refused}

-- a read isn't answered as a write is, nor a write as a read
abbrev pub is_suited : Event → Reply → Bool
is_suited (Read after at len) (Bytes bytes) = true
is_suited (Read after at len) Written = false
is_suited (Read after at len) Refused = true
is_suited (Write after at bytes) (Bytes read) = false
is_suited (Write after at bytes) Written = true
is_suited (Write after at bytes) Refused = true

-- one reply for each event, in their order
abbrev pub are_suited : List Event → List Reply → Bool
are_suited [] [] = true
are_suited [] (r ∷ rs) = false
are_suited (e ∷ es) [] = false
are_suited (e ∷ es) (r ∷ rs) = is_suited e r && are_suited es rs
