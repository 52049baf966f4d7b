use Rattle.reader_form.proofs.Digits.{ascii_digit}
use mathlib.Core.Path.{◌∙◌}
use Rattle.reader_form.proofs.is_digit.Goals as goal

pub returns : goal.returns
returns c = c.is_ascii_digit.ensures.value ∙ ascii_digit c.args.b
