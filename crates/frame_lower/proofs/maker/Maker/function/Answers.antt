use Rattle.std.proofs.Common.{◌<◌, ◌^◌, ap, sym, subst, ◌∙◌, arith}
use Rattle.std.specs.List.{All}
use Rattle.std.proofs.lemmas.List.Elements.{All-take}
use Rattle.frame_lower.specs.declared.code.Code.{Code}
use Rattle.frame_lower.specs.declared.code.Linked.{Linked}
use Rattle.frame_lower.specs.Functions.{function_row, with_cuts}
use Rattle.frame_lower.specs.Making.{making}
use Rattle.frame_lower.proofs.Functions.{function_of, function_written}
use Rattle.frame_lower.proofs.Sizes.{function_light}
use Rattle.frame_lower.proofs.Written.{whole_links_inside, whole_cuts_inside}
use Rattle.frame_lower.proofs.maker.Maker.function.Goals as goal

pub finished-requires-clause-links : goal.finished-requires-clause-links
finished-requires-clause-links c =
    let by = making c.args.self.now in
    let row = function_row by c.args.first c.args.function.now in
    let few = function_light by c.requires.fit.five c.args.first c.args.function.now c.requires.params in
    let light = c.requires.light in
    subst (λ (d : Code). All (λ (l : Linked). l.at < 2 ^ 32) d.links) (sym c.in_ok-code.ensures) (whole_links_inside (2 ^ 32) row (omega arith))

pub finished-requires-clause-cuts : goal.finished-requires-clause-cuts
finished-requires-clause-cuts c =
    let by = making c.args.self.now in
    let row = function_row by c.args.first c.args.function.now in
    let few = function_light by c.requires.fit.five c.args.first c.args.function.now c.requires.params in
    let light = c.requires.light in
    All-take (λ n. n < 2 ^ 32) c.args.most _ (subst (λ (d : Code). All (λ n. n < 2 ^ 32) d.cuts) (sym c.in_ok-code.ensures) (whole_cuts_inside (2 ^ 32) row (omega arith)))

pub returns : goal.returns
returns c =
    c.in_ok-f.ensures
    ∙ ap (with_cuts c.args.most) (ap function_of c.in_ok-code.ensures ∙ function_written (function_row (making c.args.self.now) c.args.first c.args.function.now))
