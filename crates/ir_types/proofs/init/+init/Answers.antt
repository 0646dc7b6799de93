use Rattle.std.proofs.Common.{◌∙◌, ap, sym, length}
use Rattle.std.specs.Prelude.{◌&&◌, nat_eq}
use Rattle.std.proofs.lemmas.Bool.{eq-eqb, eqb-true}
use Rattle.ir_types.specs.Fitting.{elements_fit}
use Rattle.ir_types.proofs.ArrayLaws.{array_law, only}
use Rattle.ir_types.proofs.init.+init.Goals as goal

pub fits_array-returns-then-es-n : goal.fits_array-returns-then-es-n
fits_array-returns-then-es-n t c =
    c.fits_elements.ensures ∙ ap (λ of. elements_fit c.args.tables.now of c.args.es.now) c.get.ensures
    ∙ sym (ap (λ b. b && elements_fit c.args.tables.now c.in-Array.of c.args.es.now) (eq-eqb (length c.args.es.now) c.in-Array.n c.if-es-n.true))
    ∙ sym (array_law c.args.tables.now c.args.es.now c.in-Array.n c.in-Array.of c.args.ty.now c.in-Array.is)

pub fits_array-returns-else-es-n : goal.fits_array-returns-else-es-n
fits_array-returns-else-es-n t c =
    only (nat_eq (length c.args.es.now) c.in-Array.n) (elements_fit c.args.tables.now c.in-Array.of c.args.es.now) (λ e. c.if-es-n.false (eqb-true (length c.args.es.now) c.in-Array.n e))
    ∙ sym (array_law c.args.tables.now c.args.es.now c.in-Array.n c.in-Array.of c.args.ty.now c.in-Array.is)
