-- The numbers of modes and actions: those of the automaton's definitions.
--   mode_number, act_number  the number of a mode, of an action
--   numbered p               place, mode and action, as numbers
-- Assumes nothing.
use Rattle.std.specs.Prelude.{ℕ}
use Rattle.reader_form.specs.declared.Mode.{Mode}
use Rattle.reader_form.specs.declared.Mode.TheVariants.{AtPlace, InZero, InNumber, AtSpace, Dead}
use Rattle.reader_form.specs.declared.Action.{Action}
use Rattle.reader_form.specs.declared.Action.TheVariants.{Nothing, BeginNumber, GrowNumber, EndNumber, BeginRule, EndList, EndRule}
use Rattle.reader_form.specs.declared.FormState.{FormState}
use Rattle.reader_form.specs.Automaton.{Step}

abbrev pub mode_number : Mode → ℕ
mode_number AtPlace = 0
mode_number InZero = 1
mode_number InNumber = 2
mode_number AtSpace = 3
mode_number Dead = 4

abbrev pub act_number : Action → ℕ
act_number Nothing = 0
act_number BeginNumber = 1
act_number GrowNumber = 2
act_number EndNumber = 3
act_number BeginRule = 4
act_number EndList = 5
act_number EndRule = 6

abbrev pub numbered : FormState → Step
numbered p = record { k = p.k; mode = mode_number p.mode; act = act_number p.act }
