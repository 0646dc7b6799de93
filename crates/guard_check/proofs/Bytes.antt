-- Memory that holds bytes, and the words that are read from it.
use Rattle.std.proofs.Common.{ℕ, zero, suc, ◌+◌, ◌-◌, ◌*◌, ◌/◌, ◌^◌, ◌<◌, ◌≤◌, Bool, true, false, ◌&&◌, if◌then◌else◌, List, [], ◌∷◌, ◌++◌, length, take, drop, Option, Some, None, lit≤, arith}
use Rattle.rd_num.specs.Number.{le_bytes, le_number}
use Rattle.behavior.specs.Moment.{AreBytes}
use Rattle.x86_core.specs.declared.image.Segment.{Segment}
use Rattle.x86_core.specs.Memory.{reads, writes, covers, read_at, write_at, with_bytes, behind}
use Rattle.x86_core.specs.Data.{stack_bytes, data_segments, unless_empty, segment}
use Rattle.std.specs.Prelude.{replicate}
use Rattle.obj_core.specs.Object.{Each, IsByte}

-- parts of bytes are bytes
take_bytes : (n : ℕ) (bs : List ℕ) → AreBytes bs → AreBytes (take n bs)
take_bytes zero [] h = tt
take_bytes zero (b ∷ bs) h = tt
take_bytes (suc n) [] h = tt
take_bytes (suc n) (b ∷ bs) h = (h.0, take_bytes n bs h.1)

drop_bytes : (n : ℕ) (bs : List ℕ) → AreBytes bs → AreBytes (drop n bs)
drop_bytes zero [] h = tt
drop_bytes zero (b ∷ bs) h = h
drop_bytes (suc n) [] h = tt
drop_bytes (suc n) (b ∷ bs) h = drop_bytes n bs h.1

append_bytes : (xs ys : List ℕ) → AreBytes xs → AreBytes ys → AreBytes (xs ++ ys)
append_bytes [] ys h k = k
append_bytes (x ∷ xs) ys h k = (h.0, append_bytes xs ys h.1 k)

take_short : (n : ℕ) (bs : List ℕ) → length (take n bs) ≤ n
take_short zero [] = omega arith
take_short zero (b ∷ bs) = omega arith
take_short (suc n) [] = omega arith
take_short (suc n) (b ∷ bs) = let x = take_short n bs in omega (arith, x)

pub number_bytes : (k n : ℕ) → AreBytes (le_bytes k n)
number_bytes zero n = tt
number_bytes (suc k) n = (omega arith, number_bytes k (n / 256))

-- the number of up to k bytes is below a bound
abbrev Bounded : ℕ → ℕ → Type 0
Bounded k m = (bs : List ℕ) → AreBytes bs → length bs ≤ k → le_number bs < m

none_bounded : Bounded 0 1
none_bounded [] h k = omega arith
none_bounded (b ∷ bs) h k = absurd (omega (arith, k))

one_bounded : (b n m : ℕ) → b < 256 → n < m → b + 256 * n < 256 * m
one_bounded b n m h k = omega (arith, h, k)

more_bounded : (k m : ℕ) → 0 < m → Bounded k m → Bounded (suc k) (256 * m)
more_bounded k m some h [] g l = omega (arith, some)
more_bounded k m some h (b ∷ bs) g l = one_bounded b (le_number bs) m g.0 (h bs g.1 (omega (arith, l)))

-- eight bytes are a word
pub word_bounded : Bounded 8 (2 ^ 64)
word_bounded =
    more_bounded 7 (2 ^ 56) (lit≤ tt) (more_bounded 6 (2 ^ 48) (lit≤ tt) (more_bounded 5 (2 ^ 40) (lit≤ tt) (more_bounded 4 (2 ^ 32) (lit≤ tt)
    (more_bounded 3 (2 ^ 24) (lit≤ tt) (more_bounded 2 (2 ^ 16) (lit≤ tt) (more_bounded 1 (2 ^ 8) (lit≤ tt) (more_bounded 0 1 (lit≤ tt) none_bounded)))))))

-- each segment holds bytes
abbrev pub HoldBytes : List Segment → Type 0
HoldBytes [] = Unit {0}
HoldBytes (s ∷ ss) = AreBytes s.bytes × HoldBytes ss

-- what is read
abbrev pub ReadBytes : ℕ → Option (List ℕ) → Type 0
ReadBytes n None = Unit {0}
ReadBytes n (Some bs) = AreBytes bs × (length bs ≤ n)

read_by : (s : Segment) (at n : ℕ) (t : Bool) (rest : Option (List ℕ)) → AreBytes s.bytes → ReadBytes n rest → ReadBytes n (if t then Some (take n (drop (at - s.start) s.bytes)) else rest)
read_by s at n true rest h k = (take_bytes n _ (drop_bytes (at - s.start) s.bytes h), take_short n _)
read_by s at n false rest h k = k

pub read_bytes : (ss : List Segment) (at n : ℕ) → HoldBytes ss → ReadBytes n (read_at ss at n)
read_bytes [] at n h = tt
read_bytes (s ∷ ss) at n h = read_by s at n (reads s.rights && covers s at n) (read_at ss at n) h.0 (read_bytes ss at n h.1)

-- memory after a write
abbrev pub StillBytes : Option (List Segment) → Type 0
StillBytes None = Unit {0}
StillBytes (Some ss) = HoldBytes ss

behind_bytes : (s : Segment) (x : Option (List Segment)) → AreBytes s.bytes → StillBytes x → StillBytes (behind s x)
behind_bytes s None h k = tt
behind_bytes s (Some ss) h k = (h, k)

write_by : (s : Segment) (ss : List Segment) (at : ℕ) (bs : List ℕ) (t : Bool) (rest : Option (List Segment)) → AreBytes s.bytes → HoldBytes ss → AreBytes bs → StillBytes rest → StillBytes (if t then Some (with_bytes s at bs ∷ ss) else rest)
write_by s ss at bs true rest h k g r = (append_bytes _ _ (take_bytes (at - s.start) s.bytes h) (append_bytes bs _ g (drop_bytes (at - s.start + length bs) s.bytes h)), k)
write_by s ss at bs false rest h k g r = r

pub write_bytes : (ss : List Segment) (at : ℕ) (bs : List ℕ) → AreBytes bs → HoldBytes ss → StillBytes (write_at ss at bs)
write_bytes [] at bs g h = tt
write_bytes (s ∷ ss) at bs g h = write_by s ss at bs (writes s.rights && covers s at (length bs)) (behind s (write_at ss at bs)) h.0 h.1 g (behind_bytes s (write_at ss at bs) h.0 (write_bytes ss at bs g h.1))

-- memory at the start
zeros : (n : ℕ) → AreBytes (replicate n 0)
zeros zero = tt
zeros (suc n) = (omega arith, zeros n)

stack_holds : AreBytes stack_bytes
unfolding stack_bytes
stack_holds = zeros 536875008

each_bytes : (bs : List ℕ) → Each IsByte bs → AreBytes bs
each_bytes [] h = tt
each_bytes (b ∷ bs) h = (h.0, each_bytes bs h.1)

unless_bytes : (bs : List ℕ) (at rights : ℕ) (others : List Segment) → AreBytes bs → HoldBytes others → HoldBytes (unless_empty bs (segment at bs rights) others)
unless_bytes [] at rights others h k = k
unless_bytes (b ∷ bs) at rights others h k = (h, k)

pub start_bytes : (ro rw : List ℕ) → Each IsByte ro → Each IsByte rw → HoldBytes (data_segments ro rw)
start_bytes ro rw h k = unless_bytes ro _ 4 _ (each_bytes ro h) (unless_bytes rw _ 6 _ (each_bytes rw k) (stack_holds, tt))
