use Rattle.reader.specs.Verdict.{verdict_told}
use Rattle.reader.proofs.Verdicts.{verdict_read, program_read, verdict_long, program_long}
use mathlib.Core.Path.{sym, ◌∙◌, ap}
use Rattle.reader.proofs.read_program.Goals as goal

pub returns-then-text-gt-MAX_TEXT-clause-verdict : goal.returns-then-text-gt-MAX_TEXT-clause-verdict
returns-then-text-gt-MAX_TEXT-clause-verdict c = verdict_long c.args.text.now c.requires c.if-text-gt-MAX_TEXT.true

pub returns-then-text-gt-MAX_TEXT-clause-program : goal.returns-then-text-gt-MAX_TEXT-clause-program
returns-then-text-gt-MAX_TEXT-clause-program c = program_long c.args.text.now c.requires c.if-text-gt-MAX_TEXT.true

pub returns-in-None-clause-verdict : goal.returns-in-None-clause-verdict
returns-in-None-clause-verdict c = sym (ap verdict_told c.in-None.is) ∙ c.read_into.ensures.verdict ∙ verdict_read c.args.text.now c.requires c.if-text-gt-MAX_TEXT.false

pub returns-in-None-clause-program : goal.returns-in-None-clause-program
returns-in-None-clause-program c = c.read_into.ensures.program ∙ program_read c.args.text.now c.requires c.if-text-gt-MAX_TEXT.false

pub returns-in-Some-clause-verdict : goal.returns-in-Some-clause-verdict
returns-in-Some-clause-verdict c = sym (ap verdict_told c.in-Some.is) ∙ c.read_into.ensures.verdict ∙ verdict_read c.args.text.now c.requires c.if-text-gt-MAX_TEXT.false

pub returns-in-Some-clause-program : goal.returns-in-Some-clause-program
returns-in-Some-clause-program c = c.read_into.ensures.program ∙ program_read c.args.text.now c.requires c.if-text-gt-MAX_TEXT.false
