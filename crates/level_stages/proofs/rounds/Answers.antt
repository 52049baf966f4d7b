use Rattle.clause_tables.specs.declared.Totals.{Totals}
use Rattle.encoding.specs.Variables.{Sizes}
use Rattle.clause_table_laws.proofs.Cells.{arrays}
use mathlib.Core.Path.{ap}
use native.Mathlib.Omega.{arith}
use Rattle.level_stages.proofs.Turns.{first_round, next_round, last_round, rounds_over}
use Rattle.level_stages.proofs.rounds.Goals as goal

pub loop-i-init : goal.loop-i-init
loop-i-init c = first_round (arrays c.args.set.table.ready) c.args.set.bytes.now c.args.levels.now c.requires.1

pub returns-then-not-round : goal.returns-then-not-round
returns-then-not-round c = last_round (arrays c.args.set.table.ready) c.args.set.bytes.now c.args.levels.now c.loop-i.invariant (omega (arith, c.loop-i-test.true, ap (λ (s : Sizes). s.n) c.s.view_is, ap (λ (t : Totals). t.sizes.n) c.totals-s.ensures)) c.round.ensures c.if-not-round.true

pub loop-i-preserved : goal.loop-i-preserved
loop-i-preserved c = next_round (arrays c.args.set.table.ready) c.args.set.bytes.now c.args.levels.now c.loop-i.invariant (omega (arith, c.loop-i-test.true, ap (λ (s : Sizes). s.n) c.s.view_is, ap (λ (t : Totals). t.sizes.n) c.totals-s.ensures)) c.round.ensures c.round.auto.levels

pub returns : goal.returns
returns c = rounds_over (arrays c.args.set.table.ready) c.args.set.bytes.now c.args.levels.now c.loop-i.invariant (omega (arith, c.loop-i-test.false, ap (λ (s : Sizes). s.n) c.s.view_is, ap (λ (t : Totals). t.sizes.n) c.totals-s.ensures))
