use Rattle.truth_literals.specs.Values.{number_true}
use mir.Facts.{to_z-of_z}
use lib.IntN.{ℤ}
use mathlib.Core.Path.{◌∙◌, ap, ap₂}
use mathlib.Core.Bool.{◌||◌}
use Rattle.truth_literals.proofs.three_hold.Goals as goal

pub returns : goal.returns
returns c = let t = number_true c.args.assignment.now in
    ap₂ ◌||◌ (c.two_hold.ensures ∙ ap₂ (λ (x y : ℤ). t x || t y) (to_z-of_z c.ranges.x) (to_z-of_z c.ranges.y)) (c.holds.ensures ∙ ap t (to_z-of_z c.ranges.z))
