use Rattle.clause_numerals.proofs.Numerals.{one_put}
use mathlib.Core.Path.{refl}
use Rattle.clause_numerals.proofs.lines.put_one.Goals as goal

pub returns : goal.returns
returns c = one_put c.args.x c.requires c.put-at.ensures _ _ refl refl
