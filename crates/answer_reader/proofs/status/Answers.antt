use native.Mathlib.Omega.{arith}
use Rattle.answer_reader.proofs.StatusLine.{found_yes, found_no, found_unknown, found_left, spot_within}
use Rattle.answer_form.specs.Answer.{satisfiable_text, status_text}
use Rattle.lists.specs.Ascii.{ascii}
use Rattle.answer_reader.proofs.status.Goals as goal

pub returns-then-yes-eq14 : goal.returns-then-yes-eq14
unfolding ascii satisfiable_text status_text
returns-then-yes-eq14 c = found_yes c.args.answer.now _ c.first_line-at.ensures.0 _ c.common_bytes-yes.ensures c.if-yes-eq14.true

pub returns-then-no-eq16 : goal.returns-then-no-eq16
unfolding ascii satisfiable_text status_text
returns-then-no-eq16 c = found_no c.args.answer.now _ c.first_line-at.ensures.0 _ c.common_bytes-yes.ensures c.if-yes-eq14.false _ c.common_bytes-no.ensures c.if-no-eq16.true

pub returns-then-unknown-eq10 : goal.returns-then-unknown-eq10
unfolding ascii satisfiable_text status_text
returns-then-unknown-eq10 c = found_unknown c.args.answer.now _ c.first_line-at.ensures.0 _ c.common_bytes-yes.ensures c.if-yes-eq14.false _ c.common_bytes-no.ensures c.if-no-eq16.false _ c.common_bytes-unknown.ensures c.if-unknown-eq10.true

pub overflow_add-result-2 : goal.overflow_add-result-2
unfolding ascii satisfiable_text status_text
overflow_add-result-2 c = let s = spot_within c.args.answer.now _ c.first_line-at.ensures.0 _ c.common_bytes-yes.ensures c.if-yes-eq14.false _ c.common_bytes-no.ensures c.if-no-eq16.false _ c.common_bytes-unknown.ensures _ c.max.ensures _ c.max-2.ensures c.first_line-at.ensures.1 in omega (arith, s)

pub returns : goal.returns
unfolding ascii satisfiable_text status_text
returns c = found_left c.args.answer.now _ c.first_line-at.ensures.0 _ c.common_bytes-yes.ensures c.if-yes-eq14.false _ c.common_bytes-no.ensures c.if-no-eq16.false _ c.common_bytes-unknown.ensures _ c.max.ensures _ c.max-2.ensures c.if-unknown-eq10.false
