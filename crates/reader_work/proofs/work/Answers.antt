use Rattle.reader_work.specs.Work.{bracket_of, bracket_starts, work_of, work_heads, work_starts, work_bodies}
use mathlib.Core.Path.{sym, ◌∙◌}
use mathlib.Core.Logic.{inl, inr}
use Rattle.reader_work.proofs.Numbers.{some_number, no_number, either}
use Rattle.reader_work.proofs.work.Goals as goal

pub returns-then-is_some-clause-counts : goal.returns-then-is_some-clause-counts
unfolding work_of
returns-then-is_some-clause-counts c = simp (some_number _ (sym c.is_some.ensures ∙ c.if-is_some.true), either)

pub returns-then-is_some-clause-arrays : goal.returns-then-is_some-clause-arrays
unfolding work_heads work_starts work_bodies
returns-then-is_some-clause-arrays c = simp (some_number _ (sym c.is_some.ensures ∙ c.if-is_some.true), either)

pub returns-in-Nothing-clause-counts : goal.returns-in-Nothing-clause-counts
unfolding work_of
returns-in-Nothing-clause-counts c = elim c.in-Nothing.is [ inl e ↦ simp e | inr o ↦ elim o [ inl e ↦ simp e | inr e ↦ simp e ] ]

pub returns-in-Nothing-clause-arrays : goal.returns-in-Nothing-clause-arrays
unfolding work_heads work_starts work_bodies
returns-in-Nothing-clause-arrays c = elim c.in-Nothing.is [ inl e ↦ simp e | inr o ↦ elim o [ inl e ↦ simp e | inr e ↦ simp e ] ]

pub returns-in-EndNumber-clause-counts : goal.returns-in-EndNumber-clause-counts
unfolding work_of
returns-in-EndNumber-clause-counts c = simp (c.in-EndNumber.is, no_number _ (sym c.is_some.ensures ∙ c.if-is_some.false)) c.end_number.ensures.counts

pub returns-in-EndNumber-clause-arrays : goal.returns-in-EndNumber-clause-arrays
unfolding work_heads work_starts work_bodies
returns-in-EndNumber-clause-arrays c = simp (c.in-EndNumber.is, no_number _ (sym c.is_some.ensures ∙ c.if-is_some.false)) c.end_number.ensures.arrays

pub returns-in-BeginRule-clause-counts : goal.returns-in-BeginRule-clause-counts
unfolding bracket_of work_of
returns-in-BeginRule-clause-counts c = simp (c.in-BeginRule.is, no_number _ (sym c.is_some.ensures ∙ c.if-is_some.false)) c.open_rule.ensures

pub returns-in-BeginRule-clause-arrays : goal.returns-in-BeginRule-clause-arrays
unfolding bracket_starts work_heads work_starts work_bodies
returns-in-BeginRule-clause-arrays c = simp (c.in-BeginRule.is, no_number _ (sym c.is_some.ensures ∙ c.if-is_some.false))

pub returns-in-EndList-clause-counts : goal.returns-in-EndList-clause-counts
unfolding bracket_of work_of
returns-in-EndList-clause-counts c = simp (c.in-EndList.is, no_number _ (sym c.is_some.ensures ∙ c.if-is_some.false))

pub returns-in-EndList-clause-arrays : goal.returns-in-EndList-clause-arrays
unfolding bracket_starts work_heads work_starts work_bodies
returns-in-EndList-clause-arrays c = simp (c.in-EndList.is, no_number _ (sym c.is_some.ensures ∙ c.if-is_some.false), c.close_list.ensures)

pub returns-in-EndRule-clause-counts : goal.returns-in-EndRule-clause-counts
unfolding bracket_of work_of
returns-in-EndRule-clause-counts c = simp (c.in-EndRule.is, no_number _ (sym c.is_some.ensures ∙ c.if-is_some.false)) c.close_rule.ensures

pub returns-in-EndRule-clause-arrays : goal.returns-in-EndRule-clause-arrays
unfolding bracket_starts work_heads work_starts work_bodies
returns-in-EndRule-clause-arrays c = simp (c.in-EndRule.is, no_number _ (sym c.is_some.ensures ∙ c.if-is_some.false), c.close_list-in-EndRule.ensures)
