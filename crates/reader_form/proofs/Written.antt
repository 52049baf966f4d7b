-- The form as a text: `#` stands for a number, `*` for a list of numbers.
-- Assumes nothing.
use mathlib.Core.Path.{◌≡◌, refl}
use Rattle.lists.specs.Ascii.{ascii}
use Rattle.reader_form.specs.Automaton.{form_bytes}

pub form_written : form_bytes ≡ ascii "(atoms #)\n(rule # (*) (*))\n"
unfolding ascii
form_written = refl
