-- What an answer that names a refusal of a module says of its text.
use Rattle.std.proofs.Common.{ℕ, List}
use Rattle.ir_core.specs.declared.module.Module.{Module}
use Rattle.ir_check.specs.Answers.{IsRefusedBy}
use Rattle.ir_check.specs.declared.CheckFault.{CheckFault}
use Rattle.ir_check.specs.declared.CheckFault.TheVariants as fault
use Rattle.ir_print.specs.ReadsBack.{ReadsBack}
use Rattle.rd_top.specs.Files.{Unread}
use Rattle.rd_top.specs.Kinds.{answer_to, module_text}

-- a module's first refusal is why its text is that of no valid module
pub refused_so : (text : List ℕ) (m : Module) (f : CheckFault) → ReadsBack text m → IsRefusedBy m f → Unread module_text text (answer_to f)
refused_so text m (fault.Doubled name) t first = record { whole = m; text_of = t; first = first }
refused_so text m (fault.Unknown name) t first = record { whole = m; text_of = t; first = first }
refused_so text m (fault.Limit which count) t first = record { whole = m; text_of = t; first = first }
refused_so text m (fault.External name) t first = record { whole = m; text_of = t; first = first }
refused_so text m fault.NoMain t first = record { whole = m; text_of = t; first = first }
refused_so text m (fault.BadType spot) t first = record { whole = m; text_of = t; first = first }
refused_so text m fault.NoMemory t first = tt
