-- Links: the rules of an atom, one after the other
-- Tables: the table of pairs and the totals of a program
pub mod Links
pub mod Tables
