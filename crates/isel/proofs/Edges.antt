-- Along an edge both runs come to the start of the same block.
use Rattle.std.proofs.Common.{◌≡◌, ℕ, zero, suc, ◌+◌, true, false, List, [], ◌∷◌, length, take, Option, Some, None, Ok, slice_get, refl, ap, sym, ◌∙◌, subst, inl, inr, arith}
use Rattle.std.specs.Prelude.{not, if◌then◌else◌, option_map}
use Rattle.std.proofs.lemmas.Bool.{and_parts, eqb-true}
use Rattle.std.proofs.lemmas.List.Sums.{sum_by-cons}
use Rattle.behavior.specs.System.{iter}
use Rattle.ir_core.specs.declared.instruction.Inst.{Inst}
use Rattle.ir_core.specs.declared.instruction.Op.{Op}
use Rattle.ir_core.specs.declared.instruction.Op.TheVariants.{Alloca, Phi}
use Rattle.ir_core.specs.declared.module.Block.{Block}
use Rattle.ir_core.specs.declared.module.Module.{Module}
use Rattle.ir_core.specs.declared.ty.NamedTy.{NamedTy}
use Rattle.ir_core.specs.Counts.{alloca_bytes}
use Rattle.ir_core.specs.Definitions.{label_names}
use Rattle.ir_core.specs.Names.{same_name, number_where}
use Rattle.ir_core.specs.State.{Frame, State, Nothing, turned}
use Rattle.ir_core.specs.Step.{Choice, choices_of, given_at_once, in_block, goes_to}
use Rattle.ir_core.specs.Stops.{and_then, found_or, Malformed}
use Rattle.ir_core.specs.Valid.{LocalKind, alloca_fits, is_phi, is_entry}
use Rattle.ir_core.proofs.LookupLaws.{number-names}
use Rattle.ir_sound.specs.Typed.{no_phi}
use Rattle.ir_sound.proofs.RowLaws.{all_at}
use Rattle.ir_sound.proofs.SameLaws.{not_true, some_is, differ_back}
use Rattle.low_core.specs.Flat.{Bytes}
use Rattle.low_core.specs.Plan.{Plan, Content}
use Rattle.low_core.specs.Bridge.{Setting}
use Rattle.low_core.specs.SelState.{SelFrame, SelState}
use Rattle.low_core.specs.SelStep.{sel_step}
use Rattle.flat_memory.specs.Accesses.{AreFree}
use Rattle.isel_rows.specs.Variables.{variables_of, number_or_first}
use Rattle.isel_rows.specs.Rows.{block_number}
use Rattle.isel_rows.specs.Functions.{allocas_in}
use Rattle.isel_rows.specs.Selected.{module_selected}
use Rattle.isel.proofs.Beside.{allocas_before, setting_of, Meets}
use Rattle.isel.proofs.Here.{IsHere, now}
use Rattle.isel.proofs.Operands.{IsReady}
use Rattle.isel.proofs.Places.{take_whole}
use Rattle.isel.proofs.Premises.{Premises, rules_at, moves_at}
use Rattle.isel.proofs.Straight.{going}

-- without phis a block begins with none
pub no_choices : (insts : List Inst) → no_phi insts ≡ true → choices_of insts ≡ []
no_choices [] e = refl
no_choices (i ∷ is) e = by i.op (and_parts (not (is_phi i.op)) (no_phi is) e).0
  where
    by : (op : Op) → not (is_phi op) ≡ true → choices_of ((record { result = i.result; op = op }) ∷ is) ≡ []
    by (Phi ty entries) t = not_true t
    by op t = refl

-- only the entry block has allocas
no_alloca : (types : List NamedTy) (k : ℕ) (op : Op) → alloca_fits (suc k) op ≡ true → alloca_bytes types op ≡ 0
no_alloca types k (Alloca ty count) e = let same : suc k ≡ 0 = eqb-true (suc k) 0 e in absurd (omega (arith, same))
no_alloca types k op e = refl

none_in : (types : List NamedTy) (insts : List Inst) → ((j : ℕ) (i : Inst) → slice_get insts j ≡ Some i → alloca_bytes types i.op ≡ 0) → allocas_in types insts ≡ 0
none_in types [] none = refl
none_in types (i ∷ is) none =
    let all = sum_by-cons (λ (j : Inst). alloca_bytes types j.op) i is in
    let first = none 0 i refl in
    let others = none_in types is (λ j k at. none (suc j) k at) in
    omega (arith, all, first, others)

module _ (types : List NamedTy) where
  abbrev NoneBehind : List Block → Type 0
  NoneBehind blocks = (k : ℕ) (c : Block) → slice_get blocks (suc k) ≡ Some c → allocas_in types c.insts ≡ 0

  none_before : (blocks : List Block) → ((k : ℕ) (c : Block) → slice_get blocks k ≡ Some c → allocas_in types c.insts ≡ 0) → (n : ℕ) → allocas_before types blocks n ≡ 0
  none_before [] none n = refl
  none_before (b ∷ bs) none zero = refl
  none_before (b ∷ bs) none (suc n) =
      let first = none 0 b refl in
      let others = none_before bs (λ k c at. none (suc k) c at) n in
      omega (arith, first, others)

  -- so all allocas stand in front of a later block, and none behind its start
  same_allocas : (blocks : List Block) → NoneBehind blocks → (k : ℕ) (b : Block) → slice_get blocks k ≡ Some b → (n : ℕ) → allocas_before types blocks k + allocas_in types b.insts ≡ allocas_before types blocks (suc n)
  same_allocas [] none k b at n = absurd (cc)
  same_allocas (c ∷ bs) none zero b at n =
      let same : c ≡ b = some_is c b at in
      let others = none_before bs none n in
      let bytes : allocas_in types c.insts ≡ allocas_in types b.insts = ap (λ (d : Block). allocas_in types d.insts) same in
      omega (arith, others, bytes)
  same_allocas (c ∷ bs) none (suc k) b at n =
      let before = none_before bs none k in
      let others = none_before bs none n in
      let bytes = none k b at in
      omega (arith, before, others, bytes)

-- a block that is found by a label that isn't the entry's is another one
not_first : (blocks : List Block) (to : List ℕ) (number : ℕ) → is_entry blocks to ≡ false → number_where (λ (b : Block). same_name b.label to) blocks ≡ Some number → (n : ℕ) × (number ≡ suc n)
not_first [] to number spared e = absurd (cc)
not_first (b ∷ bs) to number spared e = by (number_where (λ (c : Block). same_name c.label to) bs) (sym (ap (λ t. if t then Some 0 else option_map (λ n. suc n) (number_where (λ (c : Block). same_name c.label to) bs)) (differ_back to b.label spared)) ∙ e)
  where
    by : (o : Option ℕ) → option_map (λ n. suc n) o ≡ Some number → (n : ℕ) × (number ≡ suc n)
    by (Some n) is = (n, sym (some_is (suc n) number is))
    by None is = absurd (cc)

module _ (m : Module) (plan : Plan) (contents : List Content) (p : Premises m plan contents) (input : List ℕ) (s : State) (f : Frame) (fs : List Frame) (h : SelFrame) (hs : List SelFrame) (bytes : Bytes)
    (x : IsHere m (setting_of m plan contents) s f fs h hs bytes) where
  abbrev g : Setting
  g = setting_of m plan contents

  abbrev V : List LocalKind
  V = variables_of x.call.fn

  abbrev blocks : List Block
  blocks = x.call.fn.blocks

  abbrev spot : SelState
  spot = now m plan contents p input s f fs h hs bytes x

  -- the call in front of a block, with words in its registers
  abbrev pub at_block : ℕ → List (Option ℕ) → SelFrame
  at_block number after = record h { block = number; next = 0; registers = after }

  none_behind : NoneBehind m.types blocks
  none_behind k c at = none_in m.types c.insts (λ j i there. no_alloca m.types k i.op (rules_at m plan contents p f.function x.call.fn x.call.in_module (suc k) c at j i there).alloca)

  -- both stand at the start of a block
  lands_block : slice_get x.call.block.insts f.next ≡ None → (n : ℕ) (b : Block) → slice_get blocks (suc n) ≡ Some b → (after : List (Option ℕ)) → IsReady x.at V x.call.holds.values after → length after ≡ length h.registers
      → (count : ℕ) → iter (sel_step (module_selected m) plan contents input) count spot ≡ going (at_block (suc n) after ∷ hs) bytes s.printed s.taken
      → Meets m g input count spot (turned s (Ok (record { frames = record f { block = suc n; next = 0 } ∷ fs; objects = s.objects; exchange = Nothing })))
  lands_block none n b there after prepared many count is =
      let all : allocas_in m.types (take f.next x.call.block.insts) ≡ allocas_in m.types x.call.block.insts = ap (allocas_in m.types) (take_whole x.call.block.insts f.next none) in
      let same = same_allocas m.types blocks none_behind f.block x.call.block x.call.in_function n in
      let used : allocas_before m.types blocks f.block + allocas_in m.types (take f.next x.call.block.insts) ≡ allocas_before m.types blocks (suc n) + allocas_in m.types (take 0 b.insts) = omega (arith, all, same) in
      inr (inl (record {
        frames = at_block (suc n) after ∷ hs;
        bytes = bytes;
        is = is;
        beside = record {
          at = x.at;
          calls = (
            record {
              fn = x.call.fn;
              block = b;
              in_module = x.call.in_module;
              in_function = there;
              function = x.call.function;
              same_block = refl;
              next = refl;
              registers = many ∙ x.call.registers;
              holds = record { values = x.call.holds.values; count = x.call.holds.count; stand = x.call.holds.stand; words = prepared.have; known = x.call.holds.known };
              size = x.call.size;
              writable = x.call.writable;
              left = x.call.left;
              whole = ap (λ k. k + x.call.left) (sym used) ∙ x.call.whole;
              free = subst (λ k. AreFree g s.objects x.at (h.own.start + k) x.call.left) used x.call.free;
            },
            record { frame = x.on_top.frame; planned = x.on_top.planned; base = x.on_top.base; start = x.on_top.start; inside = x.on_top.inside; room = x.on_top.room },
            x.waits,
            x.callers,
          );
          tied = x.tied;
        };
      }))

  -- along an edge to a label
  pub goes_met : slice_get x.call.block.insts f.next ≡ None → (to : List ℕ) → is_entry blocks to ≡ false → (after : List (Option ℕ)) → IsReady x.at V x.call.holds.values after → length after ≡ length h.registers
      → (count : ℕ) → iter (sel_step (module_selected m) plan contents input) count spot ≡ going (at_block (block_number (label_names x.call.fn) to) after ∷ hs) bytes s.printed s.taken
      → Meets m g input count spot (turned s (goes_to m s f fs x.call.fn x.call.block.label to))
  goes_met none to spared after prepared many count is = by (number_where (λ (b : Block). same_name b.label to) blocks) refl
    where
      of_block : (n : ℕ) → block_number (label_names x.call.fn) to ≡ suc n → (o : Option Block) → slice_get blocks (suc n) ≡ o
          → Meets m g input count spot (turned s (and_then (found_or Malformed o) (λ b. in_block m s f fs x.call.block.label (suc n) b)))
      of_block n number None there = inl refl
      of_block n number (Some b) there =
          let phis : no_phi b.insts ≡ true = all_at (λ (c : Block). no_phi c.insts) blocks (suc n) b (moves_at m plan contents p f.function x.call.fn x.call.in_module).no_phis there in
          subst (λ (cs : List Choice). Meets m g input count spot (turned s (and_then (given_at_once m f.locals x.call.block.label cs) (λ locals. Ok (record { frames = record f { block = suc n; next = length cs; locals = locals } ∷ fs; objects = s.objects; exchange = Nothing }))))) (sym (no_choices b.insts phis))
          (lands_block none n b there after prepared many count (is ∙ ap (λ k. going (at_block k after ∷ hs) bytes s.printed s.taken) number))

      by : (o : Option ℕ) → number_where (λ (b : Block). same_name b.label to) blocks ≡ o
          → Meets m g input count spot (turned s (and_then (found_or Malformed o) (λ number. and_then (found_or Malformed (slice_get blocks number)) (λ b. in_block m s f fs x.call.block.label number b))))
      by None e = inl refl
      by (Some number) e =
          let other = not_first blocks to number spared e in
          let named : block_number (label_names x.call.fn) to ≡ number = ap number_or_first (sym (number-names (λ (b : Block). b.label) blocks to) ∙ e) in
          subst (λ k. Meets m g input count spot (turned s (and_then (found_or Malformed (slice_get blocks k)) (λ b. in_block m s f fs x.call.block.label k b)))) (sym other.1)
          (of_block other.0 (named ∙ other.1) (slice_get blocks (suc other.0)) refl)
