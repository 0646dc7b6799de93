-- What operations and ends of programs of registers read, assign and lead to.
use Rattle.std.specs.Prelude.{◌≡◌, ℕ, ◌⊎◌, List, [], ◌∷◌, Option, Some, None}
use Rattle.std.specs.List.{flat_map}
use Rattle.low_core.specs.declared.sel.SelOp.{SelOp}
use Rattle.low_core.specs.declared.sel.SelOp.TheVariants.{Set, Copy, Alu, Div, Widen, Test, Pick, Load, Store, FrameAt, GlobalAt, FunctionAt, Call, CallAt, Outside}
use Rattle.low_core.specs.declared.sel.SelEnd.{SelEnd}
use Rattle.low_core.specs.declared.sel.SelEnd.TheVariants.{Go, If, Ret, Trap}
use Rattle.low_core.specs.declared.sel.SelBlock.{SelBlock}
use Rattle.low_core.specs.declared.sel.SelFun.{SelFun}

-- the registers that an operation reads, in their order
abbrev pub reads_of : SelOp → List ℕ
reads_of (Set r n) = []
reads_of (Copy r s) = s ∷ []
reads_of (Alu op w r s t) = s ∷ t ∷ []
reads_of (Div signed rest w r s t) = s ∷ t ∷ []
reads_of (Widen signed from to r s) = s ∷ []
reads_of (Test pred w r s t) = s ∷ t ∷ []
reads_of (Pick r c s t) = c ∷ s ∷ t ∷ []
reads_of (Load w r s) = s ∷ []
reads_of (Store w s t) = s ∷ t ∷ []
reads_of (FrameAt r at) = []
reads_of (GlobalAt r g) = []
reads_of (FunctionAt r f) = []
reads_of (Call f r args) = args
reads_of (CallAt s r args) = s ∷ args
reads_of (Outside which r args) = args

-- the register that it assigns
abbrev pub assigns_of : SelOp → Option ℕ
assigns_of (Set r n) = Some r
assigns_of (Copy r s) = Some r
assigns_of (Alu op w r s t) = Some r
assigns_of (Div signed rest w r s t) = Some r
assigns_of (Widen signed from to r s) = Some r
assigns_of (Test pred w r s t) = Some r
assigns_of (Pick r c s t) = Some r
assigns_of (Load w r s) = Some r
assigns_of (Store w s t) = None
assigns_of (FrameAt r at) = Some r
assigns_of (GlobalAt r g) = Some r
assigns_of (FunctionAt r f) = Some r
assigns_of (Call f r args) = r
assigns_of (CallAt s r args) = r
assigns_of (Outside which r args) = r

-- the registers that an end reads
abbrev pub end_reads : SelEnd → List ℕ
end_reads (Go b) = []
end_reads (If c b d) = c ∷ []
end_reads (Ret (Some r)) = r ∷ []
end_reads (Ret None) = []
end_reads Trap = []

-- the blocks to which it leads
abbrev pub leads_to : SelEnd → List ℕ
leads_to (Go b) = b ∷ []
leads_to (If c b d) = b ∷ d ∷ []
leads_to (Ret r) = []
leads_to Trap = []

-- all operations of a function
abbrev pub ops_of : SelFun → List SelOp
ops_of f = flat_map (λ (b : SelBlock). b.ops) f.blocks

-- a number among others
abbrev pub IsOneOf : ℕ → List ℕ → Type 0
IsOneOf n [] = ⊥
IsOneOf n (m ∷ ms) = (n ≡ m) ⊎ IsOneOf n ms
