use native.Mathlib.Omega.{arith}
use native.Mathlib.Numerals.{add-one}
use mathlib.Core.Path.{sym, ap}
use Rattle.checker_model.proofs.Listed.{wrote_next, next_start, next_room}
use Rattle.truth_literals.specs.Values.{value_in}
use Rattle.checker_model.proofs.put_of_true.Goals as goal

pub slice_bounds-put_shown-count : goal.slice_bounds-put_shown-count
slice_bounds-put_shown-count g c = let q = c.requires.1 in next_start (value_in c.args.atoms.now) q.number c.loop-a.a (c.loop-a.invariant q.number q.by) (ap (value_in c.args.atoms.now) (sym (add-one c.loop-a.a))) (q.by _ _ (omega arith) (omega (arith, c.loop-a-test.true)) c.number-x.ensures) c.loop-a-test.true q.room

pub slice_bounds-put_shown-start : goal.slice_bounds-put_shown-start
slice_bounds-put_shown-start g c = let q = c.requires.1 in next_start (value_in c.args.atoms.now) q.number c.loop-a.a (c.loop-a.invariant q.number q.by) (ap (value_in c.args.atoms.now) (sym (add-one c.loop-a.a))) (q.by _ _ (omega arith) (omega (arith, c.loop-a-test.true)) c.number-x.ensures) c.loop-a-test.true q.room

pub put_shown-to-requires : goal.put_shown-to-requires
put_shown-to-requires g c = let q = c.requires.1 in next_room (value_in c.args.atoms.now) q.number c.loop-a.a (c.loop-a.invariant q.number q.by) (ap (value_in c.args.atoms.now) (sym (add-one c.loop-a.a))) (q.by _ _ (omega arith) (omega (arith, c.loop-a-test.true)) c.number-x.ensures) c.loop-a-test.true q.room

pub loop-a-preserved : goal.loop-a-preserved
loop-a-preserved g c f by = wrote_next (value_in c.args.atoms.now) f c.loop-a.a (c.loop-a.invariant f by) (ap (value_in c.args.atoms.now) (sym (add-one c.loop-a.a))) (by _ _ (omega arith) (omega (arith, c.loop-a-test.true)) c.number-x.ensures) c.put_shown-to.ensures
