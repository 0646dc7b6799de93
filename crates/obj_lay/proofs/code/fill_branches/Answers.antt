use Rattle.std.proofs.Common.{◌≡◌, ◌∙◌, ℕ, drop, sym, ap, subst}
use Rattle.x86_core.specs.declared.instr.Instr.{Instr}
use Rattle.x86_core.specs.declared.instr.Decoded.TheVariants.{One}
use Rattle.x86_core.specs.Decoding.{decode}
use Rattle.obj_core.specs.declared.code.CodeBuilder.{CodeBuilder}
use Rattle.obj_core.specs.Plans.{planned}
use Rattle.obj_core.specs.Disassembly.{instrs_from}
use Rattle.obj_core.specs.Layout.{ways_of}
use Rattle.std.specs.Prelude.{List}
use Rattle.obj_lay.specs.Putting.{IsDecoded, put_ways}
use Rattle.obj_lay.proofs.Put.{branch_put, none_put, builder_is}
use Rattle.obj_lay.proofs.code.fill_branches.Goals as goal

pub fill_branch-requires-clause-whole : goal.fill_branch-requires-clause-whole
fill_branch-requires-clause-whole c = c.in-Some.ensures.whole

pub loop-at-preserved : goal.loop-at-preserved
loop-at-preserved c =
    let f = c.args.function.now in
    let b = c.loop-at.builder in
    let here : IsDecoded f.bytes c.loop-at.at c.in-Some.here = subst (λ bs. IsDecoded bs c.loop-at.at c.in-Some.here) c.as_slice-bytes.ensures c.in-Some.ensures in
    record {
      same_start = ap (λ (x : CodeBuilder). x.start) c.fill_branch.ensures ∙ c.loop-at.invariant.same_start;
      same_runs = ap (λ (x : CodeBuilder). x.runs) c.fill_branch.ensures ∙ c.loop-at.invariant.same_runs;
      within = here.inside;
      left =
          ap (λ (x : CodeBuilder). put_ways x.runs x.start c.args.front (ways_of (planned c.args.plan.now) c.args.number f (instrs_from 0 c.in-Some.here.end (drop c.in-Some.here.end f.bytes))) x.bytes) c.fill_branch.ensures ∙
          sym (branch_put b.runs b.start c.args.front (planned c.args.plan.now) c.args.number f c.loop-at.at c.in-Some.here b.bytes here) ∙
          c.loop-at.invariant.left;
    }

pub returns-in-None : goal.returns-in-None
returns-in-None c =
    let f = c.args.function.now in
    let b = c.loop-at.builder in
    let none : (i : Instr) (size : ℕ) → decode (drop c.loop-at.at f.bytes) ≡ One i size → ⊥ = subst (λ (bs : List ℕ). (i : Instr) (size : ℕ) → decode (drop c.loop-at.at bs) ≡ One i size → ⊥) c.as_slice-bytes.ensures c.in-None.ensures in
    builder_is b c.args.builder.now _ c.loop-at.invariant.same_start c.loop-at.invariant.same_runs
    (sym (none_put b.runs b.start c.args.front (planned c.args.plan.now) c.args.number f c.loop-at.at b.bytes none) ∙ c.loop-at.invariant.left)
