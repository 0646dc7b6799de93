-- Operands that fit their kinds are read as their origins, and pointers move along the paths of their indices.
use Rattle.std.proofs.Common.{◌≡◌, ℕ, Bool, true, List, [], ◌∷◌, ◌++◌, map, sym}
use Rattle.std.specs.Prelude.{◌&&◌, is_some}
use Rattle.std.specs.List.{list_all}
use Rattle.std.proofs.lemmas.Bool.{and_parts}
use Rattle.ir_core.specs.declared.ty.Ty.{Ty}
use Rattle.ir_core.specs.declared.ty.NamedTy.{NamedTy}
use Rattle.ir_core.specs.declared.operand.Operand.{Operand}
use Rattle.ir_core.specs.declared.operand.Operand.TheVariants.{Const}
use Rattle.ir_core.specs.declared.operand.Place0.{Place0}
use Rattle.ir_core.specs.declared.instruction.Arg.{Arg}
use Rattle.ir_core.specs.declared.instruction.Op.TheVariants.{Gep}
use Rattle.ir_core.specs.declared.module.Module.{Module}
use Rattle.ir_core.specs.declared.kind.Kind.{Kind}
use Rattle.ir_core.specs.declared.kind.Kind.TheVariants.{Pointer}
use Rattle.ir_core.specs.Kinds.{kind_of, same_kind}
use Rattle.ir_core.specs.Mentions.{Mention, of_operand, of_typed, of_args, of_op}
use Rattle.ir_core.specs.Operands.{global_number}
use Rattle.ir_core.specs.Typing.{Env, known_index, known_arg, leads_from, place_fits, operand_fits, is_index, op_fits}
use Rattle.ir_context.specs.Origins.{arg_origin}
use Rattle.ir_context.specs.Reads.{IsPlaced, ArePlaced}
use Rattle.ir_context.specs.Small.{IsSmall, FieldsAreSmall, AreSmallMentions}
use Rattle.ir_context.specs.Laws.{ReadsAsOrigin, MovesAlong}
use Rattle.ir_context.proofs.LeadLaws.{has_path_from}
use Rattle.ir_context.proofs.MoveLaws.{move_read}
use Rattle.ir_context.proofs.PlaceLaws.{place_read}
use Rattle.ir_context.proofs.ValueLaws.{value_read}
use Rattle.ir_context.proofs.WideLaws.{wide_args, args_known}

-- what is mentioned, in two parts
pub small_parts : (types : List NamedTy) (xs ys : List Mention) → AreSmallMentions types (xs ++ ys) → AreSmallMentions types xs × AreSmallMentions types ys
small_parts types [] ys small = (tt, small)
small_parts types (x ∷ xs) ys small = let p = small_parts types xs ys small.1 in ((small.0, p.0), p.1)

-- a constant place that fits, and whose types are small
pub is_placed : (m : Module) (env : Env) (kind : Kind) (a : Operand) → FieldsAreSmall m.types m.types → AreSmallMentions m.types (of_operand a) → operand_fits m env kind a ≡ true → IsPlaced m a
is_placed m env kind (Const place) all small fits =
    let leads = λ (place : Place0). leads_from m.types place.source (map known_index place.indices) in
    let p = and_parts (same_kind kind Pointer) (place_fits m place) fits in
    let q = and_parts (is_some (global_number m place.base)) _ p.1 in
    let r = and_parts _ (leads place) q.1 in
    λ registers. place_read m place registers all small.0 r.1
is_placed m env kind other all small fits = tt

-- arguments or indices whose operands fit their kinds
pub are_placed : (m : Module) (env : Env) (test : Arg → Bool) (args : List Arg) → FieldsAreSmall m.types m.types → ((a : Arg) → test a ≡ true → operand_fits m env (kind_of a.ty) a.value ≡ true) → AreSmallMentions m.types (of_args args) → list_all test args ≡ true → ArePlaced m args
are_placed m env test [] all go small fits = tt
are_placed m env test (a ∷ as') all go small fits =
    let p = and_parts (test a) (list_all test as') fits in
    let s = small_parts m.types (of_typed a.ty a.value) (of_args as') small in
    (is_placed m env (kind_of a.ty) a.value all s.0.1 (go a p.0), are_placed m env test as' all go s.1 p.1)

-- an operand
pub operand_read : (m : Module) (env : Env) (names : List (List ℕ)) (kind : Kind) (a : Operand) → FieldsAreSmall m.types m.types → AreSmallMentions m.types (of_operand a) → operand_fits m env kind a ≡ true → ReadsAsOrigin m names kind a
operand_read m env names kind a all small fits registers locals stand = sym (value_read m names registers locals stand kind a (is_placed m env kind a all small fits))

-- a pointer whose indices lead somewhere
pub pointer_moves : (m : Module) (names : List (List ℕ)) (ty : Ty) (p : Operand) (indices : List Arg) → FieldsAreSmall m.types m.types → IsSmall m.types ty → IsPlaced m p → ArePlaced m indices → leads_from m.types ty (map known_arg indices) ≡ true → MovesAlong m names ty p indices
pointer_moves m names ty p indices all small base placed leads =
    let path = has_path_from m.types all (map known_arg indices) (map (arg_origin m names) indices) ty (args_known m names indices) small leads in
    record {
      path = path.path;
      is = path.is;
      moves = λ objects registers locals stand. sym (move_read m names registers locals stand objects ty p indices path.path base placed (wide_args m names indices) all small path.is);
    }

-- a `getelementptr` that fits
pub gep_moves : (m : Module) (env : Env) (names : List (List ℕ)) (ty : Ty) (p : Operand) (indices : List Arg) → FieldsAreSmall m.types m.types → AreSmallMentions m.types (of_op (Gep ty p indices)) → op_fits m env (Gep ty p indices) ≡ true → MovesAlong m names ty p indices
gep_moves m env names ty p indices all small fits =
    let test : Arg → Bool = λ a. is_index (kind_of a.ty) && operand_fits m env (kind_of a.ty) a.value in
    let q = and_parts (operand_fits m env Pointer p) (list_all test indices && leads_from m.types ty (map known_arg indices)) fits in
    let r = and_parts (list_all test indices) (leads_from m.types ty (map known_arg indices)) q.1 in
    let s = small_parts m.types (of_typed ty p) (of_args indices) small in
    pointer_moves m names ty p indices all s.0.0 (is_placed m env Pointer p all s.0.1 q.0)
    (are_placed m env test indices all (λ a e. (and_parts (is_index (kind_of a.ty)) (operand_fits m env (kind_of a.ty) a.value) e).1) s.1 r.0) r.1
