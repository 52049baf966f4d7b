use mathlib.Core.Path.{refl, ap}
use native.Mathlib.Omega.{arith}
use Rattle.clause_tables.specs.declared.Totals.{Totals}
use Rattle.encoding.specs.Variables.{Sizes}
use Rattle.clause_table_laws.proofs.Cells.{arrays}
use Rattle.level_stages.proofs.Turns.{begins, goes, ends}
use Rattle.level_stages.proofs.round.Goals as goal

pub loop-r-init : goal.loop-r-init
loop-r-init c = begins (arrays c.args.set.table.ready) c.args.set.bytes.now c.args.levels.now c.args.i c.requires.1

pub loop-r-preserved : goal.loop-r-preserved
loop-r-preserved c = goes (arrays c.args.set.table.ready) c.args.set.bytes.now c.args.levels.now c.args.i c.loop-r.invariant c.requires.0 (omega (arith, c.loop-r-test.true, ap (λ (s : Sizes). s.m) c.s.view_is, ap (λ (t : Totals). t.sizes.m) c.totals-s.ensures)) c.put_rule-given.auto.levels c.put_rule-given.ensures refl

pub returns : goal.returns
returns c = ends (arrays c.args.set.table.ready) c.args.set.bytes.now c.args.levels.now c.args.i c.loop-r.invariant (omega (arith, c.loop-r-test.false, ap (λ (s : Sizes). s.m) c.s.view_is, ap (λ (t : Totals). t.sizes.m) c.totals-s.ensures))
