-- Parts: parts of lists, and what stands in them
-- Groups: the numbers of a code whose tables are given, group by group
-- Passed: the slots that are passed because they are empty
pub mod Parts
pub mod Groups
pub mod Passed
-- BlockChains: the chain of a block, and the slots of group 5 from it
pub mod BlockChains
