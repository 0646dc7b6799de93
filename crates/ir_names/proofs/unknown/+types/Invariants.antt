-- the first name of what is left is that of all
use Rattle.std.proofs.Common.{◌≡◌, drop}
use Rattle.std.specs.List.{flat_map}
use Rattle.ir_core.specs.Mentions.{names_of}
use Rattle.ir_names.specs.Reached.{undefined_type}
use Rattle.ir_names.specs.Firsts.{first_name}
use Rattle.ir_names.proofs.unknown.+types.Given as goal

abbrev pub invariant-unknown_field-loop-field : goal.invariant-unknown_field-loop-field
invariant-unknown_field-loop-field l = first_name (flat_map (undefined_type l.tables) (flat_map names_of (drop l.field-index l.fields))) ≡ first_name (flat_map (undefined_type l.tables) (flat_map names_of l.fields))
