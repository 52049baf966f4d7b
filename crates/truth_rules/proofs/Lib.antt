-- BodyLaws: truth of the clauses of group 1, over plain numbers
-- RuleLaws: those of group 6
-- RuleItems: the items of these groups in the walk
pub mod BodyLaws
pub mod RuleLaws
pub mod RuleItems
