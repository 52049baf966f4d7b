use mir.Facts.{to_z-of_z}
use mathlib.Core.Path.{◌∙◌, ap}
use lib.IntN.{nat_abs}
use Rattle.answer_bytes.specs.Bytes.{number_value}
use Rattle.answer_bytes.proofs.Putting.{put_stray}
use Rattle.answer_bytes.proofs.put_value.Goals as goal

pub returns-then-values-k : goal.returns-then-values-k
returns-then-values-k c = put_stray _ _ _ (number_value c.args.x) _ _ (c.magnitude-k.ensures ∙ ap nat_abs (to_z-of_z c.ranges.x)) c.if-values-k.true
