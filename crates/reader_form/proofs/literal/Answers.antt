use Rattle.reader_form.specs.Automaton.{literal_of}
use borrow.Author.Tests.{lt-ltb, le-ltb, eq-eqb, ne_eqb}
use mathlib.Core.Path.{sym, ◌∙◌}
use Rattle.reader_form.proofs.Bounds.{none_behind}
use Rattle.reader_form.proofs.literal.Goals as goal
use Rattle.reader_form.proofs.literal.Goals.{then-b-form_at-via-then-b-form_at, then-b-form_at-via-else-b-form_at+then-k-ge-FORM_LENGTH}

pub returns-then-b-form_at : goal.returns-then-b-form_at
unfolding literal_of
returns-then-b-form_at c =
    elim c.then-b-form_at.branch [
      | then-b-form_at-via-then-b-form_at w ↦ simp (← c.form_at.ensures, ne_eqb _ _ w.if-b-form_at.true) c.dead.ensures
      | then-b-form_at-via-else-b-form_at+then-k-ge-FORM_LENGTH w ↦
          simp (w.if-b-form_at.false, c.form_at.ensures, none_behind _ w.if-k-ge-FORM_LENGTH.true, le-ltb _ _ w.if-k-ge-FORM_LENGTH.true) c.dead.ensures
    ]

pub returns-then-b-eq10 : goal.returns-then-b-eq10
unfolding literal_of
returns-then-b-eq10 c = simp (← c.form_at.ensures, eq-eqb _ _ c.if-b-form_at.false, eq-eqb _ _ (sym c.if-b-form_at.false ∙ c.if-b-eq10.true))

pub returns-else-b-eq10 : goal.returns-else-b-eq10
unfolding literal_of
returns-else-b-eq10 c = simp (← c.form_at.ensures, eq-eqb _ _ c.if-b-form_at.false, ne_eqb _ 10 (λ e. c.if-b-eq10.false (c.if-b-form_at.false ∙ e)), lt-ltb _ _ c.if-k-ge-FORM_LENGTH.false)
