use mathlib.Core.Path.{refl}
use Rattle.reader_words.specs.Standing.{read_rest}
use Rattle.reader.proofs.Loop.{ends_of_lem}
use Rattle.reader.proofs.Verdicts.{not_overlong, verdict_is, program_left}
use Rattle.reader.proofs.read_into.Goals as goal

pub returns-clause-counts : goal.returns-clause-counts
unfolding read_rest
returns-clause-counts c = ends_of_lem _ _ _ _ _ _ c.take_lines-p.ensures.rest c.finish-c.ensures.ends

pub returns-clause-verdict : goal.returns-clause-verdict
unfolding read_rest
returns-clause-verdict c =
    let e = ends_of_lem _ _ _ _ _ _ c.take_lines-p.ensures.rest c.finish-c.ensures.ends in
    verdict_is _ e refl refl (not_overlong c.args.program.now.heads c.args.program.now.starts c.args.program.now.bodies c.args.text.now)

pub returns-clause-program : goal.returns-clause-program
unfolding read_rest
returns-clause-program c = program_left (ends_of_lem _ _ _ _ _ _ c.take_lines-p.ensures.rest c.finish-c.ensures.ends)
