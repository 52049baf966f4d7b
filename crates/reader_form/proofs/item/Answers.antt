use Rattle.reader_form.specs.Automaton.{item_of}
use mathlib.Core.Path.{sym, ◌∙◌}
use Rattle.reader_form.proofs.item.Goals as goal

pub returns-then-is_digit : goal.returns-then-is_digit
unfolding item_of
returns-then-is_digit c = simp (sym c.is_digit.ensures ∙ c.if-is_digit.true) c.digit.ensures

pub returns : goal.returns
unfolding item_of
returns c = simp (sym c.is_digit.ensures ∙ c.if-is_digit.false) c.leave.ensures
