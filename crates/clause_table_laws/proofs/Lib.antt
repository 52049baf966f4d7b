-- Elements: what the tables of a program hold, by number
-- Bounds: the bounds of all numbers and lines
-- Cells: the regions of the table of a code
-- Links: the rules of an atom, from one to the next
pub mod Elements
pub mod Bounds
pub mod Cells
pub mod Links
