use Rattle.files.proofs.Begun.{wrote_counts}
use Rattle.checker_output.proofs.show_model.Goals as goal

pub slice_bounds-out-end : goal.slice_bounds-out-end
slice_bounds-out-end c = (wrote_counts c.put_output-z.ensures).0

pub slice_bounds-write_all-end : goal.slice_bounds-write_all-end
slice_bounds-write_all-end c = (wrote_counts c.put_output-z.ensures).1
