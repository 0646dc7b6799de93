-- The answer is that of the decoding, of which the laws say what it is.
use Rattle.std.proofs.Common.{◌∙◌, sym}
use Rattle.x86_core.proofs.Laws.{begins_one, one_begins, one_length, short_cut, cut_short, cut_unknown, unknown_none, none_unknown}
use Rattle.x86_decode.proofs.decode_one.Goals as goal

pub returns-clause-one : goal.returns-clause-one
returns-clause-one c = λ i b. c.first_instruction.ensures ∙ begins_one c.args.bytes.now i b

pub returns-clause-begins : goal.returns-clause-begins
returns-clause-begins c = λ i n e. (one_begins c.args.bytes.now i n c.bytes_known.ensures (sym c.first_instruction.ensures ∙ e), one_length c.args.bytes.now i n c.bytes_known.ensures (sym c.first_instruction.ensures ∙ e))

pub returns-clause-short : goal.returns-clause-short
returns-clause-short c = λ cut. c.first_instruction.ensures ∙ cut_short c.args.bytes.now c.bytes_known.ensures cut

pub returns-clause-cut : goal.returns-clause-cut
returns-clause-cut c = λ e. short_cut c.args.bytes.now c.bytes_known.ensures (sym c.first_instruction.ensures ∙ e)

pub returns-clause-unknown : goal.returns-clause-unknown
returns-clause-unknown c = λ none uncut. c.first_instruction.ensures ∙ none_unknown c.args.bytes.now c.bytes_known.ensures none uncut

pub returns-clause-neither : goal.returns-clause-neither
returns-clause-neither c = λ e. (λ i. unknown_none c.args.bytes.now i (sym c.first_instruction.ensures ∙ e), cut_unknown c.args.bytes.now c.bytes_known.ensures (sym c.first_instruction.ensures ∙ e))
