use borrow.Author.Tests.{eq-eqb, ne_eqb, eqb-true}
use mathlib.Core.Path.{sym, ◌∙◌}
use Rattle.reader_form.proofs.Modes.{at_place}
use Rattle.reader_words.specs.Standing.{ready_at}
use Rattle.reader_words.proofs.ready.Goals as goal
use Rattle.reader_words.proofs.ready.Goals.{then-s-k, else-s-k}

pub returns-then-eq : goal.returns-then-eq
unfolding ready_at
returns-then-eq c =
    elim c.if-s-k.branch [
      | then-s-k w ↦ simp (eq-eqb _ _ w.if-s-k.true, ← at_place c.args.s.mode, ← w.eq.ensures, ← w.value-is, c.if-eq.true)
      | else-s-k w ↦ absurd (w.if-s-k.false (eqb-true _ _ (sym w.value-is ∙ c.if-eq.true)))
    ]

pub returns-else-eq : goal.returns-else-eq
unfolding ready_at
returns-else-eq c =
    elim c.if-s-k.branch [
      | then-s-k w ↦ simp (eq-eqb _ _ w.if-s-k.true, ← at_place c.args.s.mode, ← w.eq.ensures, ← w.value-is, c.if-eq.false)
      | else-s-k w ↦ simp (ne_eqb _ _ w.if-s-k.false, w.value-is)
    ]
