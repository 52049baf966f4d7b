use Rattle.reader_form.specs.Automaton.{act_at}
use borrow.Author.Tests.{ne_eqb}
use native.Mathlib.Omega.{arith}
use Rattle.reader_form.proofs.act_at.Goals as goal

pub returns-in-10 : goal.returns-in-10
unfolding act_at
returns-in-10 c = simp c.in-10.is

pub returns-in-21 : goal.returns-in-21
unfolding act_at
returns-in-21 c = simp c.in-21.is

pub returns-in-26 : goal.returns-in-26
unfolding act_at
returns-in-26 c = simp c.in-26.is

pub returns-in_default : goal.returns-in_default
unfolding act_at
returns-in_default c = simp (ne_eqb c.args.k 10 (omega arith), ne_eqb c.args.k 21 (omega arith), ne_eqb c.args.k 26 (omega arith))
