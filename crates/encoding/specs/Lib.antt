-- Width: the counter width and its table
-- Literal: literals, clauses and assignments with their truth
-- Variables: the variables' numbers
-- Counter: bits of a number, chains and successors
-- Clauses: groups 1 to 7, and their number
-- Fill: the filled-out assignment of a set
-- Code: the encoding with open atoms and inside pairs, in one record
pub mod Width
pub mod Literal
pub mod Variables
pub mod Counter
pub mod Clauses
pub mod Fill
pub mod Code
