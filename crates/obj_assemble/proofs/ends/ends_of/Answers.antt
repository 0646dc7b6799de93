use Rattle.std.proofs.Common.{◌≡◌, ◌+◌, suc, ◌∷◌, length, drop, ap, sym, subst, ◌∙◌, arith}
use Rattle.std.proofs.lemmas.List.{drop_more}
use Rattle.obj_core.specs.declared.object.Func.{Func}
use Rattle.obj_core.specs.Object.{Each}
use Rattle.obj_assemble.specs.Linked.{IsLinkTo}
use Rattle.obj_assemble.specs.Noted.{noted, all_noted}
use Rattle.obj_assemble.proofs.NotedLaws.{noted_long}
use Rattle.obj_assemble.proofs.ends.ends_of.Goals as goal

pub loop-n-preserved : goal.loop-n-preserved
loop-n-preserved c =
    let fs = c.args.functions.now in
    let n = c.loop-n.n in
    let f = c.index-functions-n.result in
    let rest = drop (n + 1) fs in
    let split : drop n fs ≡ f ∷ rest = drop_more fs n f c.loop-n-test.true ∙ ap (λ x. x ∷ rest) (sym c.index-functions-n.is) in
    let links : c.as_slice.result.now ≡ f.links = c.as_slice.ensures ∙ ap (λ (g : Func). g.links) (sym c.index-functions-n.is) in
    let new : c.note.new.ends ≡ noted n f.links c.loop-n.ends = c.note.ensures ∙ ap (λ ls. noted n ls c.loop-n.ends) links in
    record {
      rest =
          ap (all_noted (n + 1) rest) new ∙ ap (λ k. all_noted k rest (noted n f.links c.loop-n.ends)) (let e : n + 1 ≡ suc n = omega arith in e)
          ∙ ap (λ xs. all_noted n xs c.loop-n.ends) (sym split) ∙ c.loop-n.invariant.rest;
      inside = (subst (Each (λ (g : Func). Each (IsLinkTo c.args.slots) g.links)) split c.loop-n.invariant.inside).1;
      same = ap length new ∙ noted_long n f.links c.loop-n.ends ∙ c.loop-n.invariant.same;
    }
