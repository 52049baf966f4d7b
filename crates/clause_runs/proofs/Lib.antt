-- Placed: the lines by the places of the clauses
-- Runs: a run of lines, line by line
-- ItemTexts: the lines of whole items of groups 4 and 5
-- Steps: one line, and the lines of an item
pub mod Placed
pub mod Runs
pub mod ItemTexts
pub mod Steps
