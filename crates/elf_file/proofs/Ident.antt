-- The test of a file's first bytes.
use Rattle.std.proofs.Common.{ℕ, ◌≡◌, ◌≤◌, ◌↔◌, Bool, List, length, take, IsTrue, sym, eqb}
use Rattle.std.proofs.lemmas.Bool.Decides.{Decides-eqb}
use Rattle.std.proofs.lemmas.Slice.Eq.{slice_eq-Decides}
use Rattle.std.specs.Bool.{Decides}
use Rattle.std.specs.List.{starts_with}
use Rattle.elf_file.specs.Elf.{ident}
use Rattle.elf_file.specs.Rules.{Rule1}

pub ident_tested : (bytes : List ℕ) (r : Bool) → 64 ≤ length bytes → r ≡ starts_with eqb bytes ident → IsTrue r ↔ Rule1 bytes
ident_tested bytes r long e =
    let d : Decides r (ident ≡ take 16 bytes) = slice_eq-Decides Decides-eqb ident (take 16 bytes) r e in
    (λ t. record { long = long; ident = sym (d.0 t) }, λ rule. d.1 (sym rule.ident))
