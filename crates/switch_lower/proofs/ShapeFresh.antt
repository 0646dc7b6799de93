-- New names differ from the names of a function, and the names of chunks from one another.
use Rattle.std.proofs.Common.{◌≡◌, ℕ, zero, suc, ◌+◌, ◌^◌, ◌≤◌, ◌<◌, Bool, true, false, List, [], ◌∷◌, ◌++◌, map, refl, ap, sym, ◌∙◌, arith}
use Rattle.std.specs.Prelude.{◌&&◌, max, nat_eq, if◌then◌else◌}
use Rattle.std.specs.List.{flat_map}
use Rattle.std.proofs.lemmas.Bool.{eqb-true}
use Rattle.std.proofs.lemmas.List.{append-nil}
use Rattle.rd_num.specs.Number.{le_bytes, le_number}
use Rattle.ir_core.specs.declared.instruction.Inst.{Inst}
use Rattle.ir_core.specs.declared.module.Block.{Block}
use Rattle.ir_core.specs.declared.module.Function.{Function}
use Rattle.ir_core.specs.Counts.{greatest}
use Rattle.ir_core.specs.Names.{same_name}
use Rattle.ir_core.specs.Definitions.{result_names, block_names, param_names, local_names}
use Rattle.ir_sound.specs.WellTyped.{Each}
use Rattle.ir_sound.proofs.RowLaws.{Each_parts, Each_rows, Each_more, each_mapped}
use Rattle.ir_sound.proofs.SameLaws.{name_is}
use Rattle.switch_lower.specs.Fresh.{zeros_of, zero_bytes, test_name, chunk_name, padding_for}

-- a name that begins with fewer zero bytes
abbrev pub IsOld : ℕ → List ℕ → Type 0
IsOld padding name = zeros_of name < padding

pub zeros_apart : (padding : ℕ) (rest name : List ℕ) → IsOld padding name → same_name (zero_bytes padding ++ rest) name ≡ false
zeros_apart zero rest name old = absurd (omega arith)
zeros_apart (suc k) rest [] old = refl
zeros_apart (suc k) rest (b ∷ bs) old = by_test (nat_eq b 0) refl old (λ o. zeros_apart k rest bs o)
  where
    by_test : (t : Bool) → nat_eq b 0 ≡ t → (if t then 1 + zeros_of bs else 0) < suc k → (IsOld k bs → same_name (zero_bytes k ++ rest) bs ≡ false) → (nat_eq 0 b && same_name (zero_bytes k ++ rest) bs) ≡ false
    by_test true e o go = let f = eqb-true b 0 e in ap (λ n. nat_eq 0 n && same_name (zero_bytes k ++ rest) bs) f ∙ go (omega arith)
    by_test false e o go = let back : nat_eq 0 b ≡ nat_eq b 0 = grind arith in ap (λ t. t && same_name (zero_bytes k ++ rest) bs) (back ∙ e)

-- the variable of tests differs from each variable
pub test_apart : (padding : ℕ) (name : List ℕ) → IsOld padding name → same_name (test_name padding) name ≡ false
test_apart padding name old = ap (λ l. same_name l name) (sym (append-nil (zero_bytes padding))) ∙ zeros_apart padding [] name old

-- the names of two chunks
bytes_again : (n : ℕ) → n < 2 ^ 64 → le_number (le_bytes 8 n) ≡ n
bytes_again n small = omega arith

same_behind : (padding : ℕ) (a b : List ℕ) → same_name (zero_bytes padding ++ a) (zero_bytes padding ++ b) ≡ same_name a b
same_behind zero a b = refl
same_behind (suc k) a b = same_behind k a b

pub chunks_apart : (padding n k : ℕ) → n < k → k < 2 ^ 64 → same_name (chunk_name padding n) (chunk_name padding k) ≡ false
chunks_apart padding n k less small = same_behind padding (le_bytes 8 n) (le_bytes 8 k) ∙ by_test (same_name (le_bytes 8 n) (le_bytes 8 k)) refl
  where
    by_test : (b : Bool) → same_name (le_bytes 8 n) (le_bytes 8 k) ≡ b → b ≡ false
    by_test false e = refl
    by_test true e =
        let a = bytes_again n (omega arith) in
        let b = bytes_again k small in
        let c : le_number (le_bytes 8 n) ≡ le_number (le_bytes 8 k) = ap le_number (name_is (le_bytes 8 n) (le_bytes 8 k) e) in
        absurd (omega (arith, sym a ∙ c ∙ b))

-- all names of a function are old
below_greatest : (ns : List ℕ) → Each (λ n. n ≤ greatest ns) ns
below_greatest [] = tt
below_greatest (n ∷ ns) = ((let a : n ≤ max n (greatest ns) = omega arith in a), Each_more (λ k. k ≤ greatest ns) (λ k. k ≤ max n (greatest ns)) ns (λ k le. omega arith) (below_greatest ns))

names_old : (f : Function) → Each (IsOld (padding_for f)) (local_names f)
names_old f = Each_more (λ (n : List ℕ). zeros_of n ≤ greatest (map zeros_of (local_names f))) (IsOld (padding_for f)) (local_names f) (λ n le. omega arith) (each_mapped (λ k. k ≤ greatest (map zeros_of (local_names f))) zeros_of (local_names f) (below_greatest (map zeros_of (local_names f))))

pub params_old : (f : Function) → Each (IsOld (padding_for f)) (param_names f)
params_old f = (Each_parts (IsOld (padding_for f)) (param_names f) (flat_map block_names f.blocks) (names_old f)).0

-- a block with old names
pub record HasOldNames (padding : ℕ) (b : Block) : Type 0 where
  pub label : IsOld padding b.label
  pub results : Each (λ (i : Inst). Each (IsOld padding) (result_names i.result)) b.insts

pub blocks_old : (f : Function) → Each (HasOldNames (padding_for f)) f.blocks
blocks_old f =
    let old = IsOld (padding_for f) in
    Each_more (λ (b : Block). Each old (block_names b)) (HasOldNames (padding_for f)) f.blocks
    (λ b all. record { label = all.0; results = Each_rows old (λ (i : Inst). result_names i.result) b.insts all.1 })
    (Each_rows old block_names f.blocks (Each_parts old (param_names f) (flat_map block_names f.blocks) (names_old f)).1)
