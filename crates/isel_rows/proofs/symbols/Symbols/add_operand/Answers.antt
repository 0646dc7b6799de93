use Rattle.std.proofs.Common.{◌++◌, ap, sym, ◌∙◌}
use Rattle.std.proofs.lemmas.List.{append-nil}
use Rattle.ir_core.specs.Mentions.{of_operand}
use Rattle.isel_rows.specs.Symbols.{symbols_in}
use Rattle.isel_rows.proofs.SymbolLaws.{none_in_place}
use Rattle.isel_rows.proofs.symbols.Symbols.add_operand.Goals as goal

pub returns-in-Const : goal.returns-in-Const
returns-in-Const c =
    sym (ap (λ ns. c.args.self.now ++ ns) (ap (λ a. symbols_in (of_operand a)) c.in-Const.is ∙ none_in_place c.in-Const.field-0) ∙ append-nil c.args.self.now)
