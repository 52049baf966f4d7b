-- Ahead: the coordinates of the clauses follow one another
-- Steps: the steps of the search for the next clause
-- HeadBlock: the next block of an atom of group 2 that holds a clause
-- Numbers: the clauses by their numbers
pub mod Ahead
pub mod Steps
pub mod HeadBlock
pub mod Numbers
