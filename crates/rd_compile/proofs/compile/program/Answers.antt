use Rattle.rd_compile.proofs.Programs.{program_is, program_names, program_keeps, program_within}
use Rattle.rd_compile.proofs.compile.program.Goals as goal

pub returns-clause-is : goal.returns-clause-is
returns-clause-is c =
    program_is c.args.valid.now.kept c.in_ok-low.low.base.now c.in_ok-lean.lean.base.now c.in_ok-low.low.bodies c.in_ok-lean.lean.bodies c.in_ok-sel.sel
    c.in_ok-low.ensures.base c.in_ok-low.ensures.bodies c.in_ok-lean.ensures.base c.in_ok-lean.ensures.bodies c.in_ok-sel.ensures.is

pub returns-clause-names : goal.returns-clause-names
returns-clause-names c =
    program_names c.args.valid.now.kept c.in_ok-low.low.base.now c.in_ok-lean.lean.base.now c.in_ok-low.low.bodies c.in_ok-lean.lean.bodies c.in_ok-sel.sel
    c.in_ok-low.ensures.base c.in_ok-low.ensures.bodies c.in_ok-lean.ensures.base c.in_ok-lean.ensures.bodies c.in_ok-sel.ensures.is c.in_ok-sel.ensures.names

pub returns-clause-keeps : goal.returns-clause-keeps
returns-clause-keeps c =
    program_keeps c.args.valid.now.kept c.in_ok-low.low.base.now c.in_ok-lean.lean.base.now c.in_ok-low.low.bodies c.in_ok-lean.lean.bodies c.in_ok-sel.sel
    c.in_ok-low.ensures.base c.in_ok-low.ensures.bodies c.in_ok-lean.ensures.base c.in_ok-lean.ensures.bodies c.in_ok-sel.ensures.is
    c.in_ok-low.ensures.keeps c.in_ok-lean.ensures.keeps c.in_ok-sel.ensures.keeps

pub returns-clause-within : goal.returns-clause-within
returns-clause-within c =
    program_within c.args.valid.now.kept c.in_ok-low.low.base.now c.in_ok-lean.lean.base.now c.in_ok-low.low.bodies c.in_ok-lean.lean.bodies c.in_ok-sel.sel
    c.in_ok-low.ensures.base c.in_ok-low.ensures.bodies c.in_ok-lean.ensures.base c.in_ok-lean.ensures.bodies c.in_ok-sel.ensures.is
    c.in_ok-low.ensures.within c.in_ok-lean.ensures.within c.in_ok-sel.ensures.within
