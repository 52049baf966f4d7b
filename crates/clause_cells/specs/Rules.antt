-- The number of a rule, if there is one.
-- Assumes nothing.
use Rattle.std.specs.Prelude.{ℕ, Option, Some, None}
use Rattle.numbers.specs.declared.Rule.{Rule}

abbrev pub rule_number : Option Rule → Option ℕ
rule_number None = None
rule_number (Some r) = Some r.0
