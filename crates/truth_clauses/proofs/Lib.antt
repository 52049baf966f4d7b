-- Fronts: the clauses before an item
-- Computed: the tests on the fact, computed
-- Numbered: the clauses of an item by their numbers
-- Clauses: truth of a clause, and the first false one
pub mod Fronts
pub mod Computed
pub mod Numbered
pub mod Clauses
