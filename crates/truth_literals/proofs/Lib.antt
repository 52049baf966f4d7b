-- Values: truth of single literals
-- BitLaws: the clauses of a chain's bit, over plain numbers
-- Gathered: tests of the numbers 1 to n, one after the other, as a loop gathers them
-- Variables: the variables of atoms, rules, counters and pairs are among all variables
-- Items: blocks and items of the walk, by the literals in their slots
pub mod Values
pub mod BitLaws
pub mod Gathered
pub mod Variables
pub mod Items
