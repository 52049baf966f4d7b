use Rattle.reader_work.specs.Work.{ended_of, ended_heads, ended_bodies}
use borrow.Author.Tests.{eq-eqb, ne_eqb}
use native.Mathlib.Omega.{arith}
use Rattle.reader_work.proofs.end_number.Goals as goal

pub returns-in-7-clause-counts : goal.returns-in-7-clause-counts
unfolding ended_of
returns-in-7-clause-counts c = simp (eq-eqb _ _ c.in-7.is) c.end_atoms.ensures

pub returns-in-7-clause-arrays : goal.returns-in-7-clause-arrays
unfolding ended_heads ended_bodies
returns-in-7-clause-arrays c = simp (eq-eqb _ _ c.in-7.is)

pub returns-in-16-clause-counts : goal.returns-in-16-clause-counts
unfolding ended_of
returns-in-16-clause-counts c = simp c.in-16.is c.end_head.ensures.0

pub returns-in-16-clause-arrays : goal.returns-in-16-clause-arrays
unfolding ended_heads ended_bodies
returns-in-16-clause-arrays c = simp (c.in-16.is, c.end_head.ensures.1)

pub returns-in_default-clause-counts : goal.returns-in_default-clause-counts
unfolding ended_of
returns-in_default-clause-counts c = simp (ne_eqb c.args.x.k 7 (omega arith), ne_eqb c.args.x.k 16 (omega arith)) c.end_body.ensures.0

pub returns-in_default-clause-arrays : goal.returns-in_default-clause-arrays
unfolding ended_heads ended_bodies
returns-in_default-clause-arrays c = simp (ne_eqb c.args.x.k 7 (omega arith), ne_eqb c.args.x.k 16 (omega arith), c.end_body.ensures.1)
