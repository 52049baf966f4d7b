use native.Mathlib.Omega.{arith}
use mathlib.Core.Path.{◌∙◌, ap}
use Rattle.clause_literals.specs.declared.Sizes.{Sizes}
use Rattle.clause_tables.specs.declared.Totals.{Totals}
use Rattle.clause_iter.proofs.Literals.of.Goals as goal

pub invariant_of-result : goal.invariant_of-result
invariant_of-result c =
    record {
      rules_are = ap (λ (s : Sizes). s.m) c.s.view_is ∙ ap (λ (t : Totals). t.sizes.m) c.totals-s.ensures;
      slots_are = c.slots.ensures;
      done_held = λ h. absurd (omega (arith, h));
    }
