use Rattle.std.proofs.Common.{◌≡◌, ◌++◌, ◌∙◌, ap, sym, subst}
use Rattle.std.specs.Prelude.{OnOk}
use Rattle.std.specs.List.{flat_map}
use Rattle.ir_core.specs.Mentions.{of_init}
use Rattle.ir_core.proofs.InitRules.{mentions-array, mentions-struct, mentions-packed}
use Rattle.isel_rows.specs.Symbols.{symbols_in, element_symbols}
use Rattle.isel_rows.proofs.SymbolLaws.{elements_symbols}
use Rattle.isel_rows.proofs.symbols.Symbols.+init.Goals as goal

pub add_init-returns-in-Array : goal.add_init-returns-in-Array
add_init-returns-in-Array t c =
    subst (λ ms. OnOk c.add_elements.result (c.add_elements.new.self ≡ c.args.self.now ++ ms))
    (ap (flat_map element_symbols) c.as_slice.ensures ∙ sym (elements_symbols c.in-Array.es) ∙ ap symbols_in (sym (mentions-array c.in-Array.es)) ∙ ap (λ i. symbols_in (of_init i)) (sym c.in-Array.is)) c.add_elements.ensures

pub add_init-returns-in-Struct : goal.add_init-returns-in-Struct
add_init-returns-in-Struct t c =
    subst (λ ms. OnOk c.add_elements-in-Struct.result (c.add_elements-in-Struct.new.self ≡ c.args.self.now ++ ms))
    (ap (flat_map element_symbols) c.as_slice-in-Struct.ensures ∙ sym (elements_symbols c.in-Struct.es) ∙ ap symbols_in (sym (mentions-struct c.in-Struct.es)) ∙ ap (λ i. symbols_in (of_init i)) (sym c.in-Struct.is)) c.add_elements-in-Struct.ensures

pub add_init-returns-in-Packed : goal.add_init-returns-in-Packed
add_init-returns-in-Packed t c =
    subst (λ ms. OnOk c.add_elements-in-Packed.result (c.add_elements-in-Packed.new.self ≡ c.args.self.now ++ ms))
    (ap (flat_map element_symbols) c.as_slice-in-Packed.ensures ∙ sym (elements_symbols c.in-Packed.es) ∙ ap symbols_in (sym (mentions-packed c.in-Packed.es)) ∙ ap (λ i. symbols_in (of_init i)) (sym c.in-Packed.is)) c.add_elements-in-Packed.ensures
