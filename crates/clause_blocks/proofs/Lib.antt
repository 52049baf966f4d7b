-- Opposites: the lines from literals and their opposites
-- NextBlocks: the blocks of group 4, clause by clause
-- BlockTexts: the blocks of groups 4 and 5 from the tables
pub mod Opposites
pub mod NextBlocks
pub mod BlockTexts
