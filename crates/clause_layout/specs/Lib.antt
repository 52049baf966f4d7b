-- Numbers: numbers of items, blocks and clauses, from the totals and the heads
-- BlockChain: the variables of a chain's bit
pub mod Numbers
pub mod BlockChain
-- Clauses: a clause by its place in the walk over a table
pub mod Clauses
