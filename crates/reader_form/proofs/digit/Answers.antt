use Rattle.reader_form.specs.Automaton.{digit_of}
use borrow.Author.Tests.{eq-eqb, ne_eqb, eqb-true}
use mathlib.Core.Path.{sym, ◌∙◌}
use Rattle.reader_form.proofs.Modes.{in_zero, in_number}
use Rattle.reader_form.proofs.digit.Goals as goal

pub returns-then-eq : goal.returns-then-eq
unfolding digit_of
returns-then-eq c = simp (sym (in_zero _) ∙ sym c.eq.ensures ∙ c.if-eq.true) c.dead.ensures

pub returns-then-eq-2 : goal.returns-then-eq-2
unfolding digit_of
returns-then-eq-2 c =
    let n = eqb-true _ _ (sym (in_number _) ∙ sym c.eq-2.ensures ∙ c.if-eq-2.true) in
    rw n

pub returns-then-b-eq48 : goal.returns-then-b-eq48
unfolding digit_of
returns-then-b-eq48 c = simp (sym (in_zero _) ∙ sym c.eq.ensures ∙ c.if-eq.false, sym (in_number _) ∙ sym c.eq-2.ensures ∙ c.if-eq-2.false, eq-eqb _ _ c.if-b-eq48.true)

pub returns-else-b-eq48 : goal.returns-else-b-eq48
unfolding digit_of
returns-else-b-eq48 c = simp (sym (in_zero _) ∙ sym c.eq.ensures ∙ c.if-eq.false, sym (in_number _) ∙ sym c.eq-2.ensures ∙ c.if-eq-2.false, ne_eqb _ _ c.if-b-eq48.false)
