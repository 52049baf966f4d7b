use borrow.Author.Tests.{ne_eqb}
use Rattle.reader_words.specs.Standing.{list_at}
use Rattle.reader_words.proofs.is_list.Goals as goal

pub returns-then-k-eq-FORM_POSITIVE : goal.returns-then-k-eq-FORM_POSITIVE
unfolding list_at
returns-then-k-eq-FORM_POSITIVE c = simp c.if-k-eq-FORM_POSITIVE.true

pub returns-else-k-eq-FORM_POSITIVE : goal.returns-else-k-eq-FORM_POSITIVE
unfolding list_at
returns-else-k-eq-FORM_POSITIVE c = simp (ne_eqb _ _ c.if-k-eq-FORM_POSITIVE.false)
