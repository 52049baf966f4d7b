use Rattle.reader_form.proofs.Bounds.{form_below}
use Rattle.reader_form.specs.Automaton.{form_step}
use mathlib.Core.Path.{sym, ◌∙◌}
use mathlib.Core.Logic.{inl, inr}
use borrow.Author.Tests.{eq-eqb, ne_eqb}
use native.Mathlib.Omega.{arith}
use Rattle.reader_form.proofs.step.Goals as goal

pub item-requires : goal.item-requires
unfolding form_step
item-requires c = elim c.in-35.is [ inl e ↦ form_below _ 34 (sym c.form_at.ensures ∙ e) | inr e ↦ form_below _ 41 (sym c.form_at.ensures ∙ e) ]

pub returns-in-35 : goal.returns-in-35
unfolding form_step
returns-in-35 c =
    elim c.in-35.is [
      | inl e ↦ simp (← c.form_at.ensures, eq-eqb _ _ e) c.item.ensures
      | inr e ↦ simp (← c.form_at.ensures, ne_eqb c.form_at.result 35 (omega (arith, e)), eq-eqb _ _ e) c.item.ensures
    ]

pub returns-in_default : goal.returns-in_default
unfolding form_step
returns-in_default c =
    simp (← c.form_at.ensures, ne_eqb c.form_at.result 35 (grind arith), ne_eqb c.form_at.result 42 (grind arith), ← c.act_at.ensures) c.literal.ensures
