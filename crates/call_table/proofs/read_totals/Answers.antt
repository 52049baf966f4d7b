use Rattle.call_table.proofs.Reading.{read_given, read_stored, totals_accepted}
use Rattle.call_table.proofs.read_totals.Goals as goal

pub program_totals-requires : goal.program_totals-requires
program_totals-requires c = read_stored c.args.text.now c.read_program.ensures.program c.in_ok-read_program.ensures.verdict

pub returns : goal.returns
returns c = totals_accepted (read_given c.args.text.now c.read_program.ensures.program c.in_ok-read_program.ensures.verdict) c.program_totals.ensures
