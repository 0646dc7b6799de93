-- What fits an environment fits one with more names.
use Rattle.std.proofs.Common.{◌≡◌, ℕ, Bool, true, List, [], ◌∷◌, Option, Some, None, refl, sym, subst}
use Rattle.std.specs.Prelude.{◌&&◌}
use Rattle.std.proofs.lemmas.Bool.{and_parts, and_from}
use Rattle.ir_core.specs.declared.operand.Operand.{Operand}
use Rattle.ir_core.specs.declared.operand.Operand.TheVariants.{Local as LocalName}
use Rattle.ir_core.specs.declared.instruction.Op.{Op}
use Rattle.ir_core.specs.declared.instruction.Op.TheVariants.{Bin, Compare, Cast, Select, Freeze, Alloca, Load, Store, Gep, Phi, Call}
use Rattle.ir_core.specs.declared.instruction.Arg.{Arg}
use Rattle.ir_core.specs.declared.instruction.Entry.{Entry}
use Rattle.ir_core.specs.declared.instruction.Inst.{Inst}
use Rattle.ir_core.specs.declared.instruction.Term.{Term}
use Rattle.ir_core.specs.declared.instruction.Term.TheVariants.{Ret, RetValue, Br, BrIf, Switch, Unreachable}
use Rattle.ir_core.specs.declared.module.Module.{Module}
use Rattle.rd_num.specs.declared.width.Width.TheVariants.{W1}
use Rattle.ir_core.specs.declared.kind.Kind.{Kind}
use Rattle.ir_core.specs.declared.kind.Kind.TheVariants.{Number, Pointer}
use Rattle.ir_core.specs.Kinds.{kind_of, same_kind}
use Rattle.ir_core.specs.Typing.{Env, is_index, has_kind, operand_fits, kinds_of, callee_fits, arg_fits, op_fits, kind_given, into_fits, inst_fits, term_fits}
use Rattle.std.specs.List.{list_all}
use Rattle.ir_sound.proofs.SameLaws.{kind_is, has_kind_is}

-- a test that follows from another, of all
all_more : {X : Type 0} (p q : X → Bool) (xs : List X) → ((x : X) → p x ≡ true → q x ≡ true) → list_all p xs ≡ true → list_all q xs ≡ true
all_more p q [] go all = refl
all_more p q (x ∷ xs) go all = let h = and_parts _ _ all in and_from _ _ (go x h.0) (all_more p q xs go h.1)

-- what is the same kind as itself
kind_same : (j k : Kind) → same_kind j k ≡ true → same_kind k k ≡ true
kind_same j k e = subst (λ i. same_kind i k ≡ true) (kind_is j k e) e

module _ (m : Module) (env more : Env) (wider : (name : List ℕ) (k : Kind) → env name ≡ Some k → more name ≡ Some k) where
  -- a name of a kind
  known_more : (name : List ℕ) (k : Kind) → has_kind (env name) k ≡ true → has_kind (more name) k ≡ true
  known_more name k e =
      let is = has_kind_is (env name) k e in
      subst (λ o. has_kind o k ≡ true) (sym (wider name k is)) (subst (λ o. has_kind o k ≡ true) is e)

  -- an operand
  pub operand_more : (kind : Kind) (a : Operand) → operand_fits m env kind a ≡ true → operand_fits m more kind a ≡ true
  operand_more kind (LocalName name) e = let p = and_parts _ _ e in and_from _ _ p.0 (known_more name kind p.1)
  operand_more kind a e = e

  -- an argument
  arg_more : (a : Arg) → arg_fits m env a ≡ true → arg_fits m more a ≡ true
  arg_more a e = let p = and_parts _ _ e in and_from _ _ p.0 (operand_more (kind_of a.ty) a.value p.1)

  -- a callee
  callee_more : (ret : Kind) (kinds : List Kind) (a : Operand) → callee_fits m env ret kinds a ≡ true → callee_fits m more ret kinds a ≡ true
  callee_more ret kinds (LocalName name) e = known_more name Pointer e
  callee_more ret kinds a e = e

  -- an instruction
  pub op_more : (op : Op) → op_fits m env op ≡ true → op_fits m more op ≡ true
  op_more (Bin op ty a b) e = let p = and_parts _ _ e in let q = and_parts _ _ p.1 in and_from _ _ p.0 (and_from _ _ (operand_more (kind_of ty) a q.0) (operand_more (kind_of ty) b q.1))
  op_more (Compare pred ty a b) e = let p = and_parts _ _ e in let q = and_parts _ _ p.1 in and_from _ _ p.0 (and_from _ _ (operand_more (kind_of ty) a q.0) (operand_more (kind_of ty) b q.1))
  op_more (Cast op from a to) e = let p = and_parts _ _ e in and_from _ _ p.0 (operand_more (kind_of from) a p.1)
  op_more (Select c ty a ty2 b) e =
      let p = and_parts _ _ e in let q = and_parts _ _ p.1 in let r = and_parts _ _ q.1 in
      and_from _ _ (operand_more (Number W1) c p.0) (and_from _ _ q.0 (and_from _ _ (operand_more (kind_of ty) a r.0) (operand_more (kind_of ty2) b r.1)))
  op_more (Freeze ty a) e = let p = and_parts _ _ e in and_from _ _ p.0 (operand_more (kind_of ty) a p.1)
  op_more (Alloca ty count) e = refl
  op_more (Load ty a) e = let p = and_parts _ _ e in and_from _ _ p.0 (operand_more Pointer a p.1)
  op_more (Store ty a b) e = let p = and_parts _ _ e in let q = and_parts _ _ p.1 in and_from _ _ p.0 (and_from _ _ (operand_more (kind_of ty) a q.0) (operand_more Pointer b q.1))
  op_more (Gep ty a indices) e =
      let p = and_parts _ _ e in let q = and_parts _ _ p.1 in
      and_from _ _ (operand_more Pointer a p.0) (and_from _ _ (all_more (λ (i : Arg). is_index (kind_of i.ty) && operand_fits m env (kind_of i.ty) i.value) (λ (i : Arg). is_index (kind_of i.ty) && operand_fits m more (kind_of i.ty) i.value) indices (λ i f. let r = and_parts _ _ f in and_from _ _ r.0 (operand_more (kind_of i.ty) i.value r.1)) q.0) q.1)
  op_more (Phi ty entries) e =
      let p = and_parts _ _ e in
      and_from _ _ p.0 (all_more (λ (i : Entry). operand_fits m env (kind_of ty) i.value) (λ (i : Entry). operand_fits m more (kind_of ty) i.value) entries (λ i f. operand_more (kind_of ty) i.value f) p.1)
  op_more (Call ret callee arguments) e =
      let p = and_parts _ _ e in let q = and_parts _ _ p.1 in
      and_from _ _ p.0 (and_from _ _ (callee_more (kind_of ret) (kinds_of arguments) callee q.0) (all_more (arg_fits m env) (arg_fits m more) arguments arg_more q.1))

  -- with its result
  pub inst_more : (i : Inst) → inst_fits m env i ≡ true → inst_fits m more i ≡ true
  inst_more i e = let p = and_parts _ _ e in and_from _ _ (op_more i.op p.0) (into_more i.result (kind_given i.op) p.1)
    where
      into_more : (into : Option (List ℕ)) (k : Kind) → into_fits env into k ≡ true → into_fits more into k ≡ true
      into_more (Some name) k f = let q = and_parts _ _ f in and_from _ _ q.0 (known_more name k q.1)
      into_more None k f = refl

  -- a terminator
  pub term_more : (ret : Kind) (t : Term) → term_fits m env ret t ≡ true → term_fits m more ret t ≡ true
  term_more ret Ret e = e
  term_more ret (RetValue ty a) e = let p = and_parts _ _ e in let q = and_parts _ _ p.1 in and_from _ _ p.0 (and_from _ _ q.0 (operand_more ret a q.1))
  term_more ret (Br to) e = refl
  term_more ret (BrIf condition taken other) e = operand_more (Number W1) condition e
  term_more ret (Switch ty a default cases) e = let p = and_parts _ _ e in let q = and_parts _ _ p.1 in and_from _ _ p.0 (and_from _ _ (operand_more (kind_of ty) a q.0) q.1)
  term_more ret Unreachable e = refl
