use Rattle.truth_levels.proofs.LevelLaws.{level_has, next_has, lower_more, low_more, long_is}
use Rattle.truth_literals.specs.Values.{value_in}
use native.Mathlib.Omega.{arith}
use mathlib.Core.Path.{ap}
use mathlib.Core.Bool.{not}
use Prim.Native.Nat.{◌+◌}
use Rattle.truth_levels.proofs.bit_of_next_holds.Goals as goal

pub lower_holds-ok-requires : goal.lower_holds-ok-requires
lower_holds-ok-requires c = (level_has c.requires.0 c.loop-j.j (omega (arith, c.loop-j-test.true, c.requires.1)) c.level_var-x.ensures, next_has c.requires.0 c.args.i c.requires.1 c.next_var-u.ensures, level_has c.requires.0 c.args.i c.requires.1 c.level_var-v.ensures)

pub is_true-requires : goal.is_true-requires
is_true-requires c = level_has c.requires.0 c.loop-j.j (omega (arith, c.loop-j-test.true, c.requires.1)) c.level_var-x.ensures

pub loop-j-preserved : goal.loop-j-preserved
loop-j-preserved c = (lower_more (value_in c.args.assignment.now) c.args.s c.args.a.0 (c.args.i + 1) c.loop-j.j (omega (arith, c.loop-j-test.true)) c.level_var-x.ensures c.next_var-u.ensures c.level_var-v.ensures c.lower_holds-ok.ensures c.loop-j.invariant.0, low_more (value_in c.args.assignment.now) c.args.s c.args.a.0 (c.args.i + 1) c.loop-j.j c.level_var-x.ensures c.loop-j.invariant.1 (ap not c.is_true.ensures))

pub long_hold-requires : goal.long_hold-requires
long_hold-requires c = (next_has c.requires.0 c.args.i c.requires.1 c.next_var-u.ensures, level_has c.requires.0 c.args.i c.requires.1 c.level_var-v.ensures)

pub returns : goal.returns
returns c = long_is (value_in c.args.assignment.now) c.args.s c.args.a.0 (c.args.i + 1) c.loop-j.j
    (omega (arith, c.loop-j.auto.j-end)) (omega (arith, c.loop-j-test.false)) c.next_var-u.ensures c.level_var-v.ensures c.loop-j.invariant.0 c.loop-j.invariant.1
    c.long_hold.ensures
