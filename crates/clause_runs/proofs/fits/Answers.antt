use borrow.Author.Tests.{le-leb}
use mathlib.Core.Path.{◌∙◌}
use Rattle.clause_runs.proofs.Placed.{short_fits}
use Rattle.clause_table_laws.proofs.Cells.{arrays}
use Rattle.clause_runs.proofs.fits.Goals as goal

pub returns-then-room-ge-LONGEST_LINE : goal.returns-then-room-ge-LONGEST_LINE
returns-then-room-ge-LONGEST_LINE c = le-leb 3008 c.args.room c.if-room-ge-LONGEST_LINE.true ∙ short_fits (arrays c.args.line.table.ready) c.args.line.place.number c.args.line.within c.if-room-ge-LONGEST_LINE.true
