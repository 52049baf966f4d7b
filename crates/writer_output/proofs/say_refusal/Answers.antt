use lib.ListN.{length}
use mathlib.Core.Path.{◌∙◌, ap, ap₂}
use native.Mathlib.Omega.{arith}
use Rattle.fixed_lines.proofs.Parts.{refused_small}
use Rattle.files.proofs.Begun.{wrote_counts}
use Rattle.fixed_lines.specs.Lines.{refused_text}
use Rattle.writer_output.proofs.say_refusal.Goals as goal

pub put_refusal-n-requires : goal.put_refusal-n-requires
put_refusal-n-requires c =
    omega (arith, refused_small c.number.result c.spot.result (omega (arith, c.number.type_inv)) (omega (arith, c.spot.type_inv)))

pub slice_bounds-out-end : goal.slice_bounds-out-end
slice_bounds-out-end c = (wrote_counts c.put_refusal-n.ensures).0

pub slice_bounds-write_all-end : goal.slice_bounds-write_all-end
slice_bounds-write_all-end c = (wrote_counts c.put_refusal-n.ensures).1

pub returns : goal.returns
returns c = c.put_refusal-n.ensures.count ∙ ap length (ap₂ refused_text c.number.ensures c.spot.ensures)
