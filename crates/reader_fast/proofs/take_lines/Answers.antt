use mathlib.Core.Path.{refl, ◌∙◌}
use Rattle.reader_work.proofs.Numbers.{counts_stay}
use Rattle.reader_fast.proofs.take_lines.Goals as goal

pub loop-p-init : goal.loop-p-init
loop-p-init c = (refl, refl)

pub returns-then-q-p-clause-rest : goal.returns-then-q-p-clause-rest
returns-then-q-p-clause-rest c = c.take_rule-q.ensures.rest ∙ c.loop-p.invariant.0 ∙ c.take_atoms_line-p.ensures _ _ _

pub returns-then-q-p-clause-counts : goal.returns-then-q-p-clause-counts
returns-then-q-p-clause-counts c = counts_stay c.args.program.now c.loop-p.program c.take_rule-q.ensures.counts c.loop-p.invariant.1

pub loop-p-preserved : goal.loop-p-preserved
loop-p-preserved c = (c.take_rule-q.ensures.rest ∙ c.loop-p.invariant.0, counts_stay c.args.program.now c.loop-p.program c.take_rule-q.ensures.counts c.loop-p.invariant.1)

pub returns-clause-rest : goal.returns-clause-rest
returns-clause-rest c = c.loop-p.invariant.0 ∙ c.take_atoms_line-p.ensures _ _ _
