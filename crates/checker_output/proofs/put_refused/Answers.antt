use Rattle.checker_output.proofs.Shown.{line_of_lem}
use Rattle.fixed_lines.proofs.Parts.{refused_small}
use Rattle.fixed_lines.specs.Lines.{refused_text}
use mathlib.Core.Path.{refl, ap₂}
use native.Mathlib.Omega.{arith}
use Rattle.digits.proofs.Wrote.{wrote_as, wrote_none}
use Rattle.checker_output.proofs.put_refused.Goals as goal

pub put_refusal-requires : goal.put_refusal-requires
put_refusal-requires c = omega (arith, refused_small c.number.result c.spot.result (omega (arith, c.number.type_inv)) (omega (arith, c.spot.type_inv)), c.requires)

pub returns-in-Ok : goal.returns-in-Ok
returns-in-Ok c = wrote_as (line_of_lem c.in-Ok.is refl) (wrote_none c.args.out.now)

pub returns-in-Err : goal.returns-in-Err
returns-in-Err c = wrote_as (line_of_lem c.in-Err.is (ap₂ refused_text c.number.ensures c.spot.ensures)) c.put_refusal.ensures
