use Rattle.reader_work.specs.Work.{value_after}
use mathlib.Core.Path.{sym, ◌∙◌}
use Rattle.reader_form.proofs.Modes.{begins, grows}
use Rattle.reader_work.proofs.value_after.Goals as goal

pub returns-then-eq : goal.returns-then-eq
unfolding value_after
returns-then-eq c = simp (sym (begins _) ∙ sym c.eq.ensures ∙ c.if-eq.true) c.grown.ensures

pub returns-then-eq-2 : goal.returns-then-eq-2
unfolding value_after
returns-then-eq-2 c = simp (sym (begins _) ∙ sym c.eq.ensures ∙ c.if-eq.false, sym (grows _) ∙ sym c.eq-else-eq.ensures ∙ c.if-eq-2.true) c.grown-then-eq-2.ensures

pub returns-else-eq-2 : goal.returns-else-eq-2
unfolding value_after
returns-else-eq-2 c = simp (sym (begins _) ∙ sym c.eq.ensures ∙ c.if-eq.false, sym (grows _) ∙ sym c.eq-else-eq.ensures ∙ c.if-eq-2.false)
