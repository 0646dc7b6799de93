-- The bodies of a module's own blocks stand for the module.
use Rattle.std.proofs.Common.{◌≡◌, List, [], ◌∷◌, refl, ap, ◌∙◌}
use Rattle.std.specs.Prelude.{map}
use Rattle.ir_core.specs.declared.instruction.Inst.{Inst}
use Rattle.ir_core.specs.declared.instruction.Op.{Op}
use Rattle.ir_core.specs.declared.instruction.Op.TheVariants.{Bin, Compare, Cast, Select, Freeze, Alloca, Load, Store, Gep, Phi, Call}
use Rattle.ir_core.specs.declared.module.Block.{Block}
use Rattle.ir_core.specs.declared.module.Function.{Function}
use Rattle.ir_core.specs.declared.module.Module.{Module}
use Rattle.low_core.specs.Plain.{op_of, move_op_of, inst_of, move_of, block_of, chunk_of, with_bodies, plain, bodies_of}

own_op : (op : Op) → op_of (move_op_of op) ≡ op
own_op (Bin op ty a b) = refl
own_op (Compare pred ty a b) = refl
own_op (Cast op from a to) = refl
own_op (Select condition ty a ty2 b) = refl
own_op (Freeze ty a) = refl
own_op (Alloca ty count) = refl
own_op (Load ty p) = refl
own_op (Store ty a p) = refl
own_op (Gep ty p indices) = refl
own_op (Phi ty entries) = refl
own_op (Call ret callee args) = refl

pub own_insts : (is : List Inst) → map inst_of (map move_of is) ≡ is
own_insts [] = refl
own_insts (i ∷ is) = ap (λ (op : Op). record { result = i.result; op = op } ∷ map inst_of (map move_of is)) (own_op i.op) ∙ ap (λ rest. i ∷ rest) (own_insts is)

own_blocks : (bs : List Block) → map block_of (map chunk_of bs) ≡ bs
own_blocks [] = refl
own_blocks (b ∷ bs) = ap (λ is. record { label = b.label; insts = is; end = b.end } ∷ map block_of (map chunk_of bs)) (own_insts b.insts) ∙ ap (λ rest. b ∷ rest) (own_blocks bs)

own_functions : (fs : List Function) → with_bodies fs (map (λ (f : Function). record { chunks = map chunk_of f.blocks }) fs) ≡ fs
own_functions [] = refl
own_functions (f ∷ fs) =
    ap (λ bs. record f { blocks = bs } ∷ with_bodies fs (map (λ (g : Function). record { chunks = map chunk_of g.blocks }) fs)) (own_blocks f.blocks)
    ∙ ap (λ rest. f ∷ rest) (own_functions fs)

pub own_module : (m : Module) → plain m (bodies_of m) ≡ m
own_module m = ap (λ fs. record m { functions = fs }) (own_functions m.functions)
