use Rattle.level_bits.proofs.Steps.{less_next, less_goes, bits_equal, bits_differ}
use Rattle.encoding.specs.Fill.{less_at}
use mathlib.Core.Path.{◌≡◌, ◌∙◌, refl}
use mathlib.Core.Bool.{cond}
use lib.Dec.{eqb}
use Prim.Native.Nat.{◌%◌}
use Rattle.level_bits.proofs.Writes.{put_room, put_next}
use Rattle.level_bits.proofs.put_less.Goals as goal
use Rattle.level_bits.proofs.put_less.Goals.{then-p-q, else-p-q}

pub bounds-buf-i : goal.bounds-buf-i
bounds-buf-i c = put_room (less_at c.args.x c.args.y) c.args.w c.requires c.loop-i.invariant.3 c.loop-i-test.true

pub loop-i-preserved : goal.loop-i-preserved
loop-i-preserved c =
    let l = c.loop-i in
    let e : c.if-p-q.less ≡ cond (eqb (l.p % 2) (l.q % 2)) l.less (l.q % 2) =
    elim c.if-p-q.branch [
      | then-p-q w ↦ w.less-is ∙ bits_differ l.less (l.q % 2) w.if-p-q.true
      | else-p-q w ↦ w.less-is ∙ bits_equal l.less (l.q % 2) w.if-p-q.false
    ] in
    let s = less_goes c.args.x c.args.y l.i l.invariant.0 l.invariant.1 l.invariant.2 e in
    (s.0, s.1, s.2, put_next (less_at c.args.x c.args.y) c.args.w c.requires l.invariant.3 c.loop-i-test.true refl (less_next c.args.x c.args.y l.i l.invariant.0 l.invariant.1 l.invariant.2 e))
