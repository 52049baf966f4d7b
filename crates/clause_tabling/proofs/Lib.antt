-- Products: the products in the number of clauses are bounded
-- Stores: what stores leave of a list, and of an array with zeros after its list
-- Regions: what stores into one of several lists leave of them all
-- Held: the arrays of a stored program are lists, filled up with zeros
-- Kept: what they hold of a rule
-- Sums: the tally of a loop over the rules
-- Laid: the regions of the table, written one after the other
-- Turns: the loop over the rules that writes the pairs
-- Totals: the counts of the table of a stored program
-- Links: the links are the last that is written
pub mod Products
pub mod Stores
pub mod Regions
pub mod Held
pub mod Kept
pub mod Sums
pub mod Laid
pub mod Turns
pub mod Totals
pub mod Links
