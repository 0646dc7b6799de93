-- The items of a module text.
use Rattle.std.specs.Prelude.{[], ◌∷◌, true, false, codes}
use Rattle.ir_grammar.specs.Grammar.{Grammar, give, either, ◌▸◌, ◌▹◌}
use Rattle.ir_grammar.specs.Parts.{the_word, the_mark, a_local, a_global, skip, behind_comma}
use Rattle.ir_syntax.specs.declared.item.Item.{Item}
use Rattle.ir_syntax.specs.declared.item.Item.TheVariants as item_of
use Rattle.ir_syntax.specs.Words.{one_word, by_word, maybe, a_str, a_hash, aligned, in_section, link}
use Rattle.ir_syntax.specs.Types.{ty, fields_type}
use Rattle.ir_syntax.specs.Initialisers.{init}
use Rattle.ir_syntax.specs.Metadata.{group, any_meta, metadata, attach}
use Rattle.ir_syntax.specs.Functions.{define, declare}

-- "source_filename" "=" Str
unfoldable pub source_item : Grammar Item
source_item = give item_of.Nothing ▹ the_word (codes "source_filename") ▹ the_mark 61 ▹ a_str

-- "target" ( "datalayout" | "triple" ) "=" Str
unfoldable pub target_item : Grammar Item
target_item = give item_of.Nothing ▹ the_word (codes "target") ▹ one_word (codes "datalayout triple") ▹ the_mark 61 ▹ a_str

-- Local "=" "type" struct
unfoldable pub type_item : Grammar Item
type_item = give (λ n t. item_of.Type (record { name = n; fields = t })) ▸ a_local ▹ the_mark 61 ▹ the_word (codes "type") ▸ fields_type

-- gtail = "align" Int | "section" Str | attach
unfoldable pub global_tail : Grammar (Unit {0})
global_tail = either aligned (either in_section attach)

-- Global "=" { LINK } ( "global" | "constant" ) type init { "," gtail }
unfoldable pub global_item : Grammar Item
global_item =
    give (λ n c t i. item_of.Global (record { name = n; constant = c; ty = t; init = i })) ▸ a_global ▹ the_mark 61 ▹ skip link
    ▸ by_word (codes "global", false) ((codes "constant", true) ∷ []) ▸ ty ▸ init ▹ skip (behind_comma global_tail)

-- "attributes" Hash "=" group
unfoldable pub attributes_item : Grammar Item
attributes_item = give item_of.Nothing ▹ the_word (codes "attributes") ▹ a_hash ▹ the_mark 61 ▹ group

-- Meta "=" [ "distinct" ] meta
unfoldable pub metadata_item : Grammar Item
metadata_item = give item_of.Nothing ▹ any_meta ▹ the_mark 61 ▹ maybe (the_word (codes "distinct")) ▹ metadata

-- item, by its first token
unfoldable pub item : Grammar Item
item =
    either source_item
    (either target_item
    (either type_item (either global_item (either declare (either (give item_of.Function ▸ define) (either attributes_item metadata_item))))))
