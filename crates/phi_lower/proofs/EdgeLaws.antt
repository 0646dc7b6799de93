-- An edge of a module, and the same edge of the module without phis.
use Rattle.std.proofs.Common.{◌≡◌, ℕ, zero, suc, ◌+◌, ◌*◌, ◌≤◌, true, List, [], ◌∷◌, map, length, drop, Option, Some, None, Ok, Err, refl, ap, sym, ◌∙◌, subst, inl, inr, ◌⊎◌, arith}
use Rattle.std.specs.Prelude.{slice_get, option_map}
use Rattle.std.specs.List.{list_all, flat_map}
use Rattle.std.proofs.lemmas.Bool.{and_parts}
use Rattle.behavior.specs.Ending.{Going, is_left}
use Rattle.behavior.specs.Simulation.{Comes}
use Rattle.behavior.proofs.Stretch.{comes_none, comes_one, comes_join, comes_wider}
use Rattle.ir_core.specs.declared.instruction.Inst.{Inst}
use Rattle.ir_core.specs.declared.instruction.Op.{Op}
use Rattle.ir_core.specs.declared.instruction.Op.TheVariants.{Phi}
use Rattle.ir_core.specs.declared.module.Block.{Block}
use Rattle.ir_core.specs.declared.module.Function.{Function}
use Rattle.ir_core.specs.declared.module.Module.{Module}
use Rattle.ir_core.specs.Names.{same_name, first_where}
use Rattle.ir_core.specs.Definitions.{is_among}
use Rattle.ir_core.specs.Stops.{Malformed, Answer, and_then, found_or}
use Rattle.ir_core.specs.State.{Local, Frame, State, Turn, Nothing, turned}
use Rattle.ir_core.specs.Counts.{greatest}
use Rattle.ir_core.specs.Operands.{local_value}
use Rattle.ir_core.specs.Step.{choices_of, choices_with, given_at_once, in_block, goes_to, source_step}
use Rattle.ir_core.specs.Built.{name_built, inst_built}
use Rattle.ir_core.proofs.Steps.{step_here}
use Rattle.ir_sound.proofs.SameLaws.{not_true, some_is, none_is}
use Rattle.ir_sound.proofs.RowLaws.{all_at}
use Rattle.low_core.specs.declared.moves.Move.{Move}
use Rattle.low_core.specs.declared.moves.Chunk.{Chunk}
use Rattle.low_core.specs.declared.moves.MoveOp.{MoveOp}
use Rattle.low_core.specs.declared.moves.MoveOp.TheVariants.{Keep, Copy}
use Rattle.low_core.specs.Plain.{op_of, inst_of, block_of}
use Rattle.low_core.proofs.Own.{own_insts}
use Rattle.phi_lower.specs.Lowered.{edge_label, PhiPart, phis_of, phis_with, phis_to, phis_in, block_of_label, way_to, first_on_way, behind_phis, copies, chunk_of_block, chunks_of_block, targets_of}
use Rattle.phi_lower.specs.Bound.{most_phis}
use Rattle.phi_lower.proofs.Same.{NamesAgree, Same}
use Rattle.phi_lower.proofs.Turns.{lowered, without_phis, IsBeside, AreBeside, with_frames}
use Rattle.phi_lower.proofs.Finds.{first_map, Numbered, numbered, none_numbered, block_found, edge_chunk, edge_found}
use Rattle.phi_lower.proofs.Moves.{AreCopied, copied}
use Rattle.phi_lower.proofs.Lefts.{Lefts, given_lefts}
use Rattle.phi_lower.proofs.Runs.{is_copy, copies_value, runs, all_copies, copies_length, drop_none}

-- a phi is a choice
choice_with : (into : Option (List ℕ)) (op : Op) (is : List Inst) → length (choices_of is) ≡ length (phis_of is) → length (choices_with into op (choices_of is)) ≡ length (phis_with into op (phis_of is))
choice_with into (Phi ty entries) is go = ap (λ n. suc n) go
choice_with into op is go = refl

pub as_many_choices : (is : List Inst) → length (choices_of is) ≡ length (phis_of is)
as_many_choices [] = refl
as_many_choices (i ∷ is) = choice_with i.result i.op is (as_many_choices is)

-- behind the phis of a block there are none
behind_with : (i : Inst) (op : Op) (is : List Inst) → i.op ≡ op → choices_of (drop (length (phis_of is)) is) ≡ [] → choices_of (drop (length (phis_with i.result op (phis_of is))) (i ∷ is)) ≡ []
behind_with i (Phi ty entries) is e go = go
behind_with i op is e go = ap (λ o. choices_with i.result o (choices_of is)) e

pub none_behind : (is : List Inst) → choices_of (behind_phis is) ≡ []
none_behind [] = refl
none_behind (i ∷ is) = behind_with i i.op is refl (none_behind is)

-- nor in the chunk of the block
pub chunk_insts : (blocks : List Block) (b : Block) → (block_of (chunk_of_block blocks b)).insts ≡ behind_phis b.insts
chunk_insts blocks b = own_insts (behind_phis b.insts)

pub chunk_choices : (blocks : List Block) (b : Block) → choices_of (block_of (chunk_of_block blocks b)).insts ≡ []
chunk_choices blocks b = ap choices_of (chunk_insts blocks b) ∙ none_behind b.insts

-- copies are no phis
copy_choices : (ms : List Move) → list_all is_copy ms ≡ true → choices_of (map inst_of ms) ≡ []
copy_choices [] copy = refl
copy_choices (x ∷ xs) copy = by_op x.to x.op (and_parts (is_copy x) (list_all is_copy xs) copy).0
  where
    by_op : (to : Option (List ℕ)) (op : MoveOp) → copies_value op ≡ true → choices_with to (op_of op) (choices_of (map inst_of xs)) ≡ []
    by_op to (Keep op) c = not_true c
    by_op to (Copy ty a) c = refl

-- where an edge leads
pub record Arrives (m : Module) (s : State) (f : Frame) (callers : List Frame) (fn : Function) (from label : List ℕ) : Type 0 where
  pub block : Block
  pub number : ℕ
  pub locals : List Local
  pub first : block_of_label fn.blocks label ≡ Some block
  pub at_number : slice_get fn.blocks number ≡ Some block
  pub given : given_at_once m f.locals from (choices_of block.insts) ≡ Ok locals
  pub is : goes_to m s f callers fn from label ≡ Ok (record { frames = record f { block = number; next = length (choices_of block.insts); locals = locals } ∷ callers; objects = s.objects; exchange = Nothing })

-- an edge leads to a block, or out of the meaning
pub arrives : (m : Module) (s : State) (f : Frame) (callers : List Frame) (fn : Function) (from label : List ℕ) → is_left (turned s (goes_to m s f callers fn from label)).ending ≡ true ⊎ Arrives m s f callers fn from label
arrives m s f callers fn from label = of_first (first_where (λ (b : Block). same_name b.label label) fn.blocks) refl
  where
    of_given : (b : Block) (n : Numbered (λ (c : Block). same_name c.label label) fn.blocks b) → block_of_label fn.blocks label ≡ Some b → (a : Answer (List Local)) → given_at_once m f.locals from (choices_of b.insts) ≡ a → Lefts a → is_left (turned s (goes_to m s f callers fn from label)).ending ≡ true ⊎ Arrives m s f callers fn from label
    of_given b n first (Ok locals) given l = inr (record {
      block = b;
      number = n.number;
      locals = locals;
      first = first;
      at_number = n.at_number;
      given = given;
      is =
          ap (λ o. and_then (found_or Malformed o) (λ number. and_then (found_or Malformed (slice_get fn.blocks number)) (λ c. in_block m s f callers from number c))) n.numbered
          ∙ ap (λ o. and_then (found_or Malformed o) (λ c. in_block m s f callers from n.number c)) n.at_number
          ∙ ap (λ a. and_then a (λ l2. Ok (record { frames = record f { block = n.number; next = length (choices_of b.insts); locals = l2 } ∷ callers; objects = s.objects; exchange = Nothing }))) given;
    })
    of_given b n first (Err stop) given l = inl (
        ap (λ a. is_left (turned s a).ending) (ap (λ o. and_then (found_or Malformed o) (λ number. and_then (found_or Malformed (slice_get fn.blocks number)) (λ c. in_block m s f callers from number c))) n.numbered
        ∙ ap (λ o. and_then (found_or Malformed o) (λ c. in_block m s f callers from n.number c)) n.at_number
        ∙ ap (λ a. and_then a (λ l2. Ok (record { frames = record f { block = n.number; next = length (choices_of b.insts); locals = l2 } ∷ callers; objects = s.objects; exchange = Nothing }))) given)
        ∙ l)

    of_first : (o : Option Block) → first_where (λ (b : Block). same_name b.label label) fn.blocks ≡ o → is_left (turned s (goes_to m s f callers fn from label)).ending ≡ true ⊎ Arrives m s f callers fn from label
    of_first (Some b) e = of_given b (numbered (λ (c : Block). same_name c.label label) fn.blocks b e) e (given_at_once m f.locals from (choices_of b.insts)) refl (given_lefts m f.locals from (choices_of b.insts))
    of_first None e = inl (ap (λ o. is_left (turned s (and_then (found_or Malformed o) (λ number. and_then (found_or Malformed (slice_get fn.blocks number)) (λ c. in_block m s f callers from number c)))).ending) (none_numbered (λ (c : Block). same_name c.label label) fn.blocks e))

-- an edge to a block without phis
pub goes_plain : (m : Module) (s : State) (f : Frame) (callers : List Frame) (fn : Function) (from label : List ℕ) (b : Block) (n : Numbered (λ (c : Block). same_name c.label label) fn.blocks b) → choices_of b.insts ≡ [] → goes_to m s f callers fn from label ≡ Ok (record { frames = record f { block = n.number; next = 0 } ∷ callers; objects = s.objects; exchange = Nothing })
goes_plain m s f callers fn from label b n none =
    ap (λ o. and_then (found_or Malformed o) (λ number. and_then (found_or Malformed (slice_get fn.blocks number)) (λ c. in_block m s f callers from number c))) n.numbered
    ∙ ap (λ o. and_then (found_or Malformed o) (λ c. in_block m s f callers from n.number c)) n.at_number
    ∙ ap (λ cs. and_then (given_at_once m f.locals from cs) (λ l. Ok (record { frames = record f { block = n.number; next = length cs; locals = l } ∷ callers; objects = s.objects; exchange = Nothing }))) none

-- a number isn't above the greatest
at_most : {X : Type 0} (count : X → ℕ) (xs : List X) (k : ℕ) (x : X) → slice_get xs k ≡ Some x → count x ≤ greatest (map count xs)
at_most count [] k x e = none_is x e
at_most count (y ∷ ys) zero x e = let same = ap count (some_is y x e) in omega arith
at_most count (y ∷ ys) (suc k) x e = let go = at_most count ys k x e in omega arith

-- so are the phis of a block
pub few_phis : (m : Module) (number k : ℕ) (fn : Function) (b : Block) → slice_get m.functions number ≡ Some fn → slice_get fn.blocks k ≡ Some b → length (phis_of b.insts) ≤ most_phis m
few_phis m number k fn b at at_block =
    let one = at_most (λ (c : Block). length (phis_of c.insts)) fn.blocks k b at_block in
    let two = at_most (λ (f : Function). greatest (map (λ (c : Block). length (phis_of c.insts)) f.blocks)) m.functions number fn at in
    omega arith

-- an edge is met: from where it goes first on, in at most so many steps
pub record EdgeMet (m : Module) (input : List ℕ) (s : State) (f g : Frame) (fs gs : List Frame) (fn : Function) (from label way : List ℕ) : Type 0 where
  pub turn : Turn
  pub is : goes_to m s f fs fn from label ≡ Ok turn
  pub frames : List Frame
  pub comes : Comes (source_step (without_phis m) input) 0 (1 + 2 * most_phis m) (turned (with_frames s (g ∷ gs)) (goes_to (without_phis m) (with_frames s (g ∷ gs)) g gs (lowered fn) from way)) (with_frames (turned s (Ok turn)) frames)
  pub beside : AreBeside m turn.frames frames

module _ (m : Module) (input : List ℕ) (agree : NamesAgree m (map lowered m.functions)) (s : State) (f g : Frame) (fs gs : List Frame) (x : IsBeside m f g) (callers : AreBeside m fs gs) (insts_built : (k : ℕ) (b : Block) → slice_get x.fn.blocks k ≡ Some b → list_all inst_built b.insts ≡ true) (labels_built : list_all (λ (b : Block). name_built b.label) x.fn.blocks ≡ true) (in_lowered : slice_get (without_phis m).functions g.function ≡ Some (lowered x.fn)) (label : List ℕ) (label_built : name_built label ≡ true) (among : is_among (targets_of x.block.end) label ≡ true) where
  abbrev pub from : List ℕ
  from = x.block.label

  abbrev pub chunks : List Chunk
  chunks = flat_map (chunks_of_block x.fn.blocks) x.fn.blocks

  abbrev pub w : Module
  w = without_phis m

  -- the block of the label in the function without phis
  there : (b : Block) → block_of_label x.fn.blocks label ≡ Some b → Numbered (λ (c : Block). same_name c.label label) (lowered x.fn).blocks (block_of (chunk_of_block x.fn.blocks b))
  there b first =
      numbered (λ (c : Block). same_name c.label label) (lowered x.fn).blocks (block_of (chunk_of_block x.fn.blocks b))
      (first_map (λ (c : Block). same_name c.label label) block_of chunks ∙ ap (option_map block_of) (block_found x.fn.blocks x.fn.blocks label label_built ∙ ap (option_map (chunk_of_block x.fn.blocks)) first))

  -- calls in the block beside each other
  lands : (a : Arrives m s f fs x.fn from label) (locals2 : List Local) → Same a.locals locals2 → let n = there a.block a.first in IsBeside m (record f { block = a.number; next = length (choices_of a.block.insts); locals = a.locals }) (record g { block = n.number; next = 0; locals = locals2 })
  lands a locals2 same = record {
    fn = x.fn;
    block = a.block;
    in_module = x.in_module;
    in_function = a.at_number;
    in_lowered = (there a.block a.first).at_number;
    function = x.function;
    next = let e = as_many_choices a.block.insts in omega arith;
    locals = same;
    objects = x.objects;
    into = x.into;
  }

  -- by the phis of the block
  by_phis : (a : Arrives m s f fs x.fn from label) (ps : List PhiPart) → phis_of a.block.insts ≡ ps → AreCopied w from ps a.locals g.locals → EdgeMet m input s f g fs gs x.fn from label (way_to from label ps)
  by_phis a [] phis c =
      let n = there a.block a.first in
      let goes = goes_plain w (with_frames s (g ∷ gs)) g gs (lowered x.fn) from label (block_of (chunk_of_block x.fn.blocks a.block)) n (chunk_choices x.fn.blocks a.block) in
      record {
        turn = record { frames = record f { block = a.number; next = length (choices_of a.block.insts); locals = a.locals } ∷ fs; objects = s.objects; exchange = Nothing };
        is = a.is;
        frames = record g { block = n.number; next = 0 } ∷ gs;
        comes = comes_wider (source_step w input) 0 0 0 (1 + 2 * most_phis m) _ _ (omega arith) (omega arith) (comes_none (source_step w input) _ _ (ap (turned (with_frames s (g ∷ gs))) goes));
        beside = (lands a g.locals (λ name nb. c.same name nb ∙ ap (λ l. local_value l name) (ok_is c.after2 g.locals (sym c.moves))), callers);
      }
    where
      ok_is : (a b : List Local) → let r : Answer (List Local) = Ok a in r ≡ Ok b → a ≡ b
      ok_is a b e = cc
  by_phis a (p ∷ ps) phis c =
      let n = there a.block a.first in
      let t0 = with_frames s (g ∷ gs) in
      let to_phis : phis_to x.fn.blocks label ≡ p ∷ ps = ap phis_in a.first ∙ phis in
      let chunk = edge_chunk from label (p ∷ ps) in
      let label2 = edge_label from label in
      let from_built = all_at (λ (b : Block). name_built b.label) x.fn.blocks f.block x.block labels_built x.in_function in
      let found = edge_found x.fn.blocks from label from_built x.fn.blocks f.block x.block p ps labels_built x.in_function refl to_phis among ∙ ap (λ l. Some (edge_chunk from label l)) to_phis in
      let k = numbered (λ (b : Block). same_name b.label label2) (lowered x.fn).blocks (block_of chunk) (first_map (λ (b : Block). same_name b.label label2) block_of chunks ∙ ap (option_map block_of) found) in
      let ms = copies from (p ∷ ps) in
      let copy = all_copies from (p ∷ ps) in
      let goes = goes_plain w t0 g gs (lowered x.fn) from label2 (block_of chunk) k (copy_choices ms copy) in
      let run = runs w input s g gs k.number (lowered x.fn) (block_of chunk) in_lowered k.at_number ms 0 g.locals c.after2 refl copy c.moves in
      let g2 : Frame = record g { block = k.number; next = 0 + length ms; locals = c.after2 } in
      let s2 : State = record { frames = g2 ∷ gs; objects = s.objects; printed = s.printed; taken = s.taken; ending = Going } in
      let over = drop_none (0 + length ms) (map inst_of ms) (all_dropped ms) in
      let last = step_here w input s2 g2 gs (lowered x.fn) (block_of chunk) None refl refl (record { in_module = in_lowered; in_function = k.at_number; in_block = over })
      ∙ ap (turned s2) (goes_plain w s2 g2 gs (lowered x.fn) label2 label (block_of (chunk_of_block x.fn.blocks a.block)) n (chunk_choices x.fn.blocks a.block)) in
      let few = few_phis m f.function a.number x.fn a.block x.in_module a.at_number in
      let many = copies_length from (p ∷ ps) in
      let same_many : length (phis_of a.block.insts) ≡ length (p ∷ ps) = ap length phis in
      let end : State = with_frames (turned s (Ok (record { frames = record f { block = a.number; next = length (choices_of a.block.insts); locals = a.locals } ∷ fs; objects = s.objects; exchange = Nothing }))) (record g { block = n.number; next = 0; locals = c.after2 } ∷ gs) in
      let whole = comes_join (source_step w input) (length ms) (length ms) 1 1 _ _ end run (comes_one (source_step w input) s2 end last) in
      record {
        turn = record { frames = record f { block = a.number; next = length (choices_of a.block.insts); locals = a.locals } ∷ fs; objects = s.objects; exchange = Nothing };
        is = a.is;
        frames = record g { block = n.number; next = 0; locals = c.after2 } ∷ gs;
        comes = subst (λ t. Comes (source_step w input) 0 (1 + 2 * most_phis m) t end) (sym (ap (turned t0) goes)) (comes_wider (source_step w input) (length ms + 1) (length ms + 1) 0 (1 + 2 * most_phis m) _ _ (omega arith) (omega arith) whole);
        beside = (lands a c.after2 c.same, callers);
      }
    where
      all_dropped : (ms : List Move) → drop (0 + length ms) (map inst_of ms) ≡ []
      all_dropped ms = let e : 0 + length ms ≡ length ms = omega arith in ap (λ n. drop n (map inst_of ms)) e ∙ of_row ms
        where
          of_row : (ms : List Move) → drop (length ms) (map inst_of ms) ≡ []
          of_row [] = refl
          of_row (x ∷ xs) = of_row xs

  -- an edge leaves the meaning, or is met
  pub edge_met : is_left (turned s (goes_to m s f fs x.fn from label)).ending ≡ true ⊎ EdgeMet m input s f g fs gs x.fn from label (first_on_way x.fn.blocks from label)
  edge_met = elim (arrives m s f fs x.fn from label) [
    | inl l ↦ inl l
    | inr a ↦
        let c = copied m (map lowered m.functions) agree from a.block.insts f.locals g.locals a.locals x.locals (insts_built a.number a.block a.at_number) a.given in
        inr (subst (EdgeMet m input s f g fs gs x.fn from label) (ap (way_to from label) (sym (ap phis_in a.first))) (by_phis a (phis_of a.block.insts) refl c))
  ]
