-- The literal in a slot, and the variables of rules in the clauses that run over all rules.
--   slot_number ls       the number of the literal in a slot, if it has one
--   rule_var S founds r  s(r) where founds holds, else t(r)
--   is_founds x          x is s(r)
-- Assumes nothing.
use Rattle.std.specs.Prelude.{ℕ, Bool, true, false, List, [], ◌∷◌, ℤ, Option, None, Some}
use Rattle.encoding.specs.Literal.{Literal, literal_number}
use Rattle.encoding.specs.Variables.{Sizes, body_var, founds_var}
use Rattle.clause_slots.specs.declared.RuleVar.{RuleVar}
use Rattle.clause_slots.specs.declared.RuleVar.TheVariants.{Body, Founds}

abbrev pub slot_number : List Literal → Option ℤ
slot_number [] = None
slot_number (l ∷ ls) = Some (literal_number l)

abbrev pub rule_var : Sizes → Bool → ℕ → ℕ
rule_var S true = founds_var S
rule_var S false = body_var S

abbrev pub is_founds : RuleVar → Bool
is_founds Body = false
is_founds Founds = true
