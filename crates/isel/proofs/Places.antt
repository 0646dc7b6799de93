-- Where the operations of an instruction stand, and how many bytes of allocas stand in front of them.
use Rattle.std.proofs.Common.{◌≡◌, ℕ, zero, suc, ◌+◌, List, [], ◌∷◌, ◌++◌, length, take, drop, Some, None, refl, ap, sym, ◌∙◌, arith}
use Rattle.std.specs.Prelude.{slice_get, option_map}
use Rattle.std.specs.List.{sum_by}
use Rattle.std.proofs.lemmas.List.{append_assoc, append-nil, length-append}
use Rattle.std.proofs.lemmas.List.Sums.{sum_by-append, sum_by-cons}
use Rattle.std.proofs.lemmas.Option.{slice_get-map}
use Rattle.std.proofs.Math.Seq.{drop-append_seam}
use Rattle.ir_core.specs.declared.instruction.Inst.{Inst}
use Rattle.ir_core.specs.declared.module.Block.{Block}
use Rattle.ir_core.specs.declared.module.Function.{Function}
use Rattle.ir_core.specs.declared.module.Module.{Module}
use Rattle.ir_core.specs.Counts.{alloca_bytes}
use Rattle.ir_core.specs.Valid.{LocalKind}
use Rattle.low_core.specs.declared.sel.SelOp.{SelOp}
use Rattle.isel_rows.specs.Rows.{ops_of}
use Rattle.isel_rows.specs.Functions.{allocas_in, insts_ops, block_selected, blocks_selected, function_selected}
use Rattle.isel_rows.specs.Selected.{module_selected}
use Rattle.isel.proofs.Beside.{allocas_before}

-- a list at one of its items
pub record Splits {X : Type 0} (xs : List X) (n : ℕ) (x : X) : Type 0 where
  pub after : List X
  pub whole : xs ≡ take n xs ++ x ∷ after
  pub next : take (n + 1) xs ≡ take n xs ++ x ∷ []

pub splits : {X : Type 0} (xs : List X) (n : ℕ) (x : X) → slice_get xs n ≡ Some x → Splits xs n x
splits [] n x e = absurd (cc)
splits {X = X} (y ∷ ys) zero x e =
    let same : y ≡ x = cc in
    let z : 0 + 1 ≡ 1 = omega arith in
    record { after = ys; whole = ap (λ (w : X). w ∷ ys) same; next = ap (λ k. take k (y ∷ ys)) z ∙ none ys ∙ ap (λ (w : X). w ∷ []) same }
  where
    none : (zs : List X) → take 1 (y ∷ zs) ≡ y ∷ []
    none [] = refl
    none (z ∷ zs) = refl
splits {X = X} (y ∷ ys) (suc n) x e =
    let s = splits ys n x e in
    let z : suc n + 1 ≡ suc (n + 1) = omega arith in
    record { after = s.after; whole = ap (λ (l : List X). y ∷ l) s.whole; next = ap (λ k. take k (y ∷ ys)) z ∙ ap (λ (l : List X). y ∷ l) s.next }

-- past the last item there is none, and what is taken is all
pub take_whole : {X : Type 0} (xs : List X) (n : ℕ) → slice_get xs n ≡ None → take n xs ≡ xs
take_whole [] zero e = refl
take_whole [] (suc n) e = refl
take_whole (x ∷ xs) zero e = absurd (cc)
take_whole {X = X} (x ∷ xs) (suc n) e = ap (λ (l : List X). x ∷ l) (take_whole xs n e)

module _ (m : Module) (vs : List LocalKind) where
  -- one part of the instructions after another
  pub insts_ops-append : (at : ℕ) (xs ys : List Inst) → insts_ops m vs at (xs ++ ys) ≡ insts_ops m vs at xs ++ insts_ops m vs (at + allocas_in m.types xs) ys
  insts_ops-append at [] ys = let z : at ≡ at + 0 = omega arith in ap (λ n. insts_ops m vs n ys) z
  insts_ops-append at (x ∷ xs) ys =
      let more = sum_by-cons (λ (i : Inst). alloca_bytes m.types i.op) x xs in
      let z : at + alloca_bytes m.types x.op + allocas_in m.types xs ≡ at + allocas_in m.types (x ∷ xs) = omega (arith, more) in
      ap (λ os. ops_of m vs at x.result x.op ++ os) (insts_ops-append (at + alloca_bytes m.types x.op) xs ys ∙ ap (λ n. insts_ops m vs (at + alloca_bytes m.types x.op) xs ++ insts_ops m vs n ys) z)
      ∙ sym (append_assoc (ops_of m vs at x.result x.op) (insts_ops m vs (at + alloca_bytes m.types x.op) xs) (insts_ops m vs (at + allocas_in m.types (x ∷ xs)) ys))

  -- the operations of an instruction follow those of the instructions in front of it
  pub record OpsAt (at : ℕ) (insts : List Inst) (n : ℕ) (i : Inst) : Type 0 where
    pub after : List SelOp
    pub there : (rest : List SelOp) → drop (length (insts_ops m vs at (take n insts))) (insts_ops m vs at insts ++ rest) ≡ ops_of m vs (at + allocas_in m.types (take n insts)) i.result i.op ++ (after ++ rest)
    pub next : length (insts_ops m vs at (take (n + 1) insts)) ≡ length (insts_ops m vs at (take n insts)) + length (ops_of m vs (at + allocas_in m.types (take n insts)) i.result i.op)
    pub allocas : allocas_in m.types (take (n + 1) insts) ≡ allocas_in m.types (take n insts) + alloca_bytes m.types i.op

  pub ops_at : (at : ℕ) (insts : List Inst) (n : ℕ) (i : Inst) → slice_get insts n ≡ Some i → OpsAt at insts n i
  ops_at at insts n i e =
      let s = splits insts n i e in
      let before : List Inst = take n insts in
      let here : ℕ = at + allocas_in m.types before in
      let ops : List SelOp = ops_of m vs here i.result i.op in
      let after : List SelOp = insts_ops m vs (here + alloca_bytes m.types i.op) s.after in
      let all : insts_ops m vs at insts ≡ insts_ops m vs at before ++ (ops ++ after) = ap (insts_ops m vs at) s.whole ∙ insts_ops-append at before (i ∷ s.after) in
      let one : ops ++ [] ≡ ops = append-nil ops in
      let longer = ap length (ap (insts_ops m vs at) s.next ∙ insts_ops-append at before (i ∷ []) ∙ ap (λ os. insts_ops m vs at before ++ os) one) ∙ length-append (insts_ops m vs at before) ops in
      record {
        after = after;
        there = λ rest.
            ap (λ os. drop (length (insts_ops m vs at before)) (os ++ rest)) all
            ∙ ap (drop (length (insts_ops m vs at before))) (append_assoc (insts_ops m vs at before) (ops ++ after) rest)
            ∙ drop-append_seam (insts_ops m vs at before) ((ops ++ after) ++ rest)
            ∙ append_assoc ops after rest;
        next = longer;
        allocas =
            let more = ap (allocas_in m.types) s.next ∙ sum_by-append (λ (j : Inst). alloca_bytes m.types j.op) before (i ∷ []) in
            let last = sum_by-cons (λ (j : Inst). alloca_bytes m.types j.op) i [] in
            let none : sum_by (λ (j : Inst). alloca_bytes m.types j.op) [] ≡ 0 = refl in
            omega (arith, more, last, none);
      }

  -- past the last instruction stand those of the end
  pub end_at : (at : ℕ) (insts : List Inst) (n : ℕ) → slice_get insts n ≡ None → (rest : List SelOp) → drop (length (insts_ops m vs at (take n insts))) (insts_ops m vs at insts ++ rest) ≡ rest
  end_at at insts n e rest = ap (λ is. drop (length (insts_ops m vs at is)) (insts_ops m vs at insts ++ rest)) (take_whole insts n e) ∙ drop-append_seam (insts_ops m vs at insts) rest

  -- a block of a function
  pub block_there : (labels : List (List ℕ)) (at : ℕ) (bs : List Block) (number : ℕ) (b : Block) → slice_get bs number ≡ Some b → slice_get (blocks_selected m vs labels at bs) number ≡ Some (block_selected m vs labels (at + allocas_before m.types bs number) b)
  block_there labels at [] number b e = absurd (cc)
  block_there labels at (c ∷ bs) zero b e =
      let same : c ≡ b = cc in
      let z : at ≡ at + 0 = omega arith in
      ap (λ (d : Block). Some (block_selected m vs labels at d)) same ∙ ap (λ n. Some (block_selected m vs labels n b)) z
  block_there labels at (c ∷ bs) (suc number) b e =
      let z : at + allocas_in m.types c.insts + allocas_before m.types bs number ≡ at + (allocas_in m.types c.insts + allocas_before m.types bs number) = omega arith in
      block_there labels (at + allocas_in m.types c.insts) bs number b e ∙ ap (λ n. Some (block_selected m vs labels n b)) z

-- a function of the program
pub function_there : (m : Module) (number : ℕ) (fn : Function) → slice_get m.functions number ≡ Some fn → slice_get (module_selected m).functions number ≡ Some (function_selected m fn)
function_there m number fn e = slice_get-map (function_selected m) m.functions number ∙ ap (option_map (function_selected m)) e
