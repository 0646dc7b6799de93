-- Initialisers of globals.
use Rattle.std.specs.Prelude.{ℕ, zero, suc, codes}
use Rattle.ir_core.specs.declared.init.Init.{Init}
use Rattle.ir_core.specs.declared.init.Init.TheVariants as init_of
use Rattle.ir_core.specs.declared.init.Elem.{Elem}
use Rattle.ir_grammar.specs.Grammar.{Grammar, give, either, ◌▸◌, ◌▹◌}
use Rattle.ir_grammar.specs.Parts.{the_word, the_mark, listed}
use Rattle.ir_syntax.specs.Words.{a_cstr}
use Rattle.ir_syntax.specs.Types.{ty}
use Rattle.ir_syntax.specs.Values.{fixed_value}

-- type init, by the grammar of the initialiser
unfoldable pub element : Grammar Init → Grammar Elem
element g = give (λ t i. record { ty = t; init = i }) ▸ ty ▸ g

-- value other than Local | "zeroinitializer" | CStr
unfoldable pub simple_init : Grammar Init
simple_init =
    either (give init_of.Value ▸ fixed_value) (either (give init_of.Zero ▹ the_word (codes "zeroinitializer")) (give init_of.Text ▸ a_cstr))

-- "[" [ type init { "," type init } ] "]"
unfoldable pub array_init : Grammar Init → Grammar Init
array_init g = give init_of.Array ▹ the_mark 91 ▸ listed 93 (element g)

-- "{" [ type init { "," type init } ] "}"
unfoldable pub struct_init : Grammar Init → Grammar Init
struct_init g = give init_of.Struct ▹ the_mark 123 ▸ listed 125 (element g)

-- "<" "{" [ type init { "," type init } ] "}" ">"
unfoldable pub packed_init : Grammar Init → Grammar Init
packed_init g = give init_of.Packed ▹ the_mark 60 ▹ the_mark 123 ▸ listed 125 (element g) ▹ the_mark 62

-- an initialiser with elements
unfoldable pub deep_init : Grammar Init → Grammar Init
deep_init g = either (array_init g) (either (struct_init g) (packed_init g))

-- an initialiser of so many levels at most
unfoldable pub init_at : ℕ → Grammar Init
init_at zero = simple_init
init_at (suc n) = either simple_init (deep_init (init_at n))

-- init = value other than Local | "zeroinitializer" | CStr | "[" [ elems ] "]" | "{" [ elems ] "}" | "<" "{" [ elems ] "}" ">"
-- elems = type init { "," type init }
unfoldable pub init : Grammar Init
init = init_at 64
