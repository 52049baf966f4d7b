use Rattle.clause_counts.proofs.Before.{rule_here, rules_more, rules_add, rules_done}
use Rattle.clause_table_laws.proofs.Cells.{arrays}
use native.Mathlib.Omega.{arith}
use Rattle.clause_counts.proofs.rules_size.Goals as goal

pub invariant_of-block : goal.invariant_of-block
invariant_of-block c = let p = c.requires in record { stands = rule_here (arrays c.args.table.ready) c.args.g p.0 p.1 p.2 p.3 c.loop-r.r (omega (arith, c.loop-r-test.true, p.4)) }

pub overflow_add-n : goal.overflow_add-n
overflow_add-n c = let p = c.requires in omega (arith, rules_add (arrays c.args.table.ready) c.args.g p.0 p.1 p.2 p.3 c.loop-r.r (omega (arith, c.loop-r-test.true, p.4)) c.loop-r.invariant c.size.ensures c.from-n.ensures)

pub loop-r-preserved : goal.loop-r-preserved
loop-r-preserved c = let p = c.requires in rules_more (arrays c.args.table.ready) c.args.g p.0 p.1 p.2 p.3 c.loop-r.r (omega (arith, c.loop-r-test.true, p.4)) c.loop-r.invariant c.size.ensures c.from-n.ensures

pub returns : goal.returns
returns c = rules_done (arrays c.args.table.ready) c.args.g c.requires.0 c.requires.1 c.loop-r.auto.r-end c.loop-r-test.false c.loop-r.invariant
