use Rattle.reader_form.specs.Automaton.{leave_of}
use Rattle.reader_form.specs.declared.Mode.TheVariants.{AtPlace, AtSpace}
use borrow.Author.Tests.{eq-eqb, ne_eqb}
use borrow.Author.Rules.{rules}
use mathlib.Core.Path.{◌≡◌}
use Rattle.reader_form.proofs.Modes.{other_mode}
use Rattle.reader_form.proofs.leave.Goals as goal
use Rattle.reader_form.proofs.leave.Goals.{then-c-eq42-2+else-b-eq32, else-c-eq42-2, in-AtPlace+else-c-eq42, in-AtSpace-1}

pub returns-in-AtPlace : goal.returns-in-AtPlace
unfolding leave_of
returns-in-AtPlace c = simp (c.in-AtPlace.is, eq-eqb _ _ c.if-c-eq42.true) c.literal.ensures

pub returns-in_default : goal.returns-in_default
unfolding leave_of
returns-in_default c = simp (other_mode _ AtPlace c.in_default.not-AtPlace, other_mode _ AtSpace c.in_default.not-AtSpace, eq-eqb _ _ c.if-c-eq42-2.true, eq-eqb _ _ c.if-b-eq32.true)

pub returns-in_default-2 : goal.returns-in_default-2
unfolding leave_of
returns-in_default-2 c =
    elim c.if-c-eq42-2.branch [
      | then-c-eq42-2+else-b-eq32 w ↦
          simp (other_mode _ AtPlace c.in_default.not-AtPlace, other_mode _ AtSpace c.in_default.not-AtSpace, eq-eqb _ _ w.if-c-eq42-2.true, ne_eqb _ _ w.if-b-eq32.false) c.literal-in_default-2.ensures
      | else-c-eq42-2 w ↦
          simp (other_mode _ AtPlace c.in_default.not-AtPlace, other_mode _ AtSpace c.in_default.not-AtSpace, ne_eqb _ _ w.if-c-eq42-2.false) c.literal-in_default-2.ensures
    ]

pub returns-in-AtPlace-2 : goal.returns-in-AtPlace-2
unfolding leave_of
returns-in-AtPlace-2 c =
    elim c.in-AtPlace-2-1.branch [
      | in-AtPlace+else-c-eq42 w ↦ simp (w.in-AtPlace.is, ne_eqb _ _ w.if-c-eq42.false) c.dead.ensures
      | in-AtSpace-1 w ↦ let e : c.args.mode ≡ AtSpace = search rules in simp e c.dead.ensures
    ]
