use borrow.Author.Rules.{rules}
use native.Mathlib.Omega.{arith}
use Rattle.clause_finding.proofs.Falling.{falls_more}
use Rattle.clause_finding.proofs.Coded.{last_in, in_last, before_last}
use Rattle.clause_table_laws.proofs.Cells.{opened}
use mathlib.Core.Path.{ap}
use Rattle.clause_tables.specs.declared.Totals.{Totals}
use Rattle.clause_tables.specs.Tables.{code_in}
use Rattle.clause_counts.specs.Counts.{group_size}
use Rattle.clause_finding.proofs.find_group.Goals as goal

pub overflow_sub-last : goal.overflow_sub-last
overflow_sub-last c = last_in (opened c.args.table.ready c.s.view_is c.totals-t.ensures) c.from.ensures

pub returns-then-last-left : goal.returns-then-last-left
returns-then-last-left c = in_last (opened c.args.table.ready c.s.view_is c.totals-t.ensures) c.from.ensures c.if-last-left.true (omega (arith, c.requires, ap (λ (t : Totals). t.clauses) c.totals-t.ensures))

pub returns : goal.returns
returns c = falls_more (omega arith) (c.find_part.ensures (group_size (code_in c.args.table.cells.now)) (λ k x p h q. search rules) (before_last (opened c.args.table.ready c.s.view_is c.totals-t.ensures) c.from.ensures c.if-last-left.false))
