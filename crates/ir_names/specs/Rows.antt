-- What rows of parts of a module mention.
use Rattle.std.specs.Prelude.{List, ◌∷◌, map}
use Rattle.std.specs.List.{flat_map}
use Rattle.ir_core.specs.declared.init.Elem.{Elem}
use Rattle.ir_core.specs.declared.instruction.Inst.{Inst}
use Rattle.ir_core.specs.declared.ty.NamedTy.{NamedTy}
use Rattle.ir_core.specs.Mentions.{Mention, OfType, of_init, of_op}

-- an element of an initialiser, its type in front
abbrev pub element_mentions : Elem → List Mention
element_mentions e = OfType e.ty ∷ of_init e.init

-- instructions
abbrev pub insts_mention : List Inst → List Mention
insts_mention insts = flat_map (λ (i : Inst). of_op i.op) insts

-- named types
abbrev pub named_mention : List NamedTy → List Mention
named_mention types = map (λ (t : NamedTy). OfType t.fields) types
