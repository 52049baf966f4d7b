use Rattle.truth_rules.proofs.BodyLaws.{atom_in, body_more, fails_more, body_all}
use Rattle.truth_literals.proofs.Gathered.{or_none}
use Rattle.truth_rules.specs.Rules.{body_fails}
use Rattle.truth_literals.specs.Values.{value_in}
use mathlib.Core.Path.{refl}
use Rattle.truth_rules.proofs.body_holds.Goals as goal

pub loop-j-init : goal.loop-j-init
loop-j-init c = (refl, or_none c.stands-long.result (body_fails (value_in c.args.assignment.now) c.args.atoms.now c.args.p))

pub implies-ok-requires : goal.implies-ok-requires
implies-ok-requires c = (c.requires.0, atom_in c.args.assignment.now c.args.atoms.now c.requires.1 c.loop-j.j c.loop-j-test.true c.from-b.ensures)

pub stands-long-requires-in-loop-j : goal.stands-long-requires-in-loop-j
stands-long-requires-in-loop-j c = atom_in c.args.assignment.now c.args.atoms.now c.requires.1 c.loop-j.j c.loop-j-test.true c.from-b.ensures

pub loop-j-preserved : goal.loop-j-preserved
loop-j-preserved c = (body_more (value_in c.args.assignment.now) c.args.atoms.now c.args.p c.loop-j.j c.from-b.ensures c.args.t.0 c.loop-j.invariant.0 c.implies-ok.ensures, fails_more (value_in c.args.assignment.now) c.args.atoms.now c.args.p c.loop-j.j c.from-b.ensures c.stands-long.result c.loop-j.invariant.1 c.stands-long-in-loop-j.ensures)

pub returns : goal.returns
returns c = body_all (value_in c.args.assignment.now) c.args.t.0 c.args.atoms.now c.args.p c.loop-j.auto.j-end c.loop-j-test.false c.loop-j.invariant.0 c.stands-long.ensures c.loop-j.invariant.1
