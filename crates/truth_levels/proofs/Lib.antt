-- LevelLaws: truth of the clauses of groups 3 and 4, over plain numbers
-- ChainLaws: that of the clauses of group 5
-- LevelItems: the items of these groups, from the tables
pub mod LevelLaws
pub mod ChainLaws
pub mod LevelItems
