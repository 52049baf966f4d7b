use Rattle.answer_values.proofs.OnePass.{next_put, next_kept}
use Prim.Native.Nat.{◌^◌, ◌<◌}
use lib.IntN.{ℤ, nat_abs}
use mathlib.Core.Path.{sym, subst}
use mir.Facts.{to_z-of_z}
use Rattle.answer_values.proofs.put_next_value.Goals as goal

pub put_value-requires : goal.put_value-requires
put_value-requires c = (subst (λ (x : ℤ). 0 < nat_abs x) (sym (to_z-of_z c.ranges.x)) c.requires.0, subst (λ (x : ℤ). nat_abs x < 2 ^ 31) (sym (to_z-of_z c.ranges.x)) c.requires.1, c.requires.2)

pub returns-in-Ok : goal.returns-in-Ok
returns-in-Ok c = next_put _ c.in-Ok.is _ _ _ _ (to_z-of_z c.ranges.x) _ _ _ c.put_value.ensures

pub returns-in-Err : goal.returns-in-Err
returns-in-Err c = next_kept _ c.in-Err.is _ _ _
