use Rattle.reader_work.specs.Work.{begin_after}
use mathlib.Core.Path.{sym, ◌∙◌}
use Rattle.reader_form.proofs.Modes.{begins, grows}
use Rattle.reader_work.proofs.begin_after.Goals as goal

pub returns-then-eq : goal.returns-then-eq
unfolding begin_after
returns-then-eq c = simp (sym (begins _) ∙ sym c.eq.ensures ∙ c.if-eq.true)

pub returns-then-eq-2 : goal.returns-then-eq-2
unfolding begin_after
returns-then-eq-2 c = simp (sym (begins _) ∙ sym c.eq.ensures ∙ c.if-eq.false, sym (grows _) ∙ sym c.eq-else-eq.ensures ∙ c.if-eq-2.true)

pub returns-else-eq-2 : goal.returns-else-eq-2
unfolding begin_after
returns-else-eq-2 c = simp (sym (begins _) ∙ sym c.eq.ensures ∙ c.if-eq.false, sym (grows _) ∙ sym c.eq-else-eq.ensures ∙ c.if-eq-2.false)
