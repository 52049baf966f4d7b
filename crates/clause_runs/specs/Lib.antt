-- Lines: the lines of a clause file, and a run of them
-- Items: the lines of a whole item
-- Taken: some lines, written into the front of a buffer
pub mod Lines
pub mod Items
pub mod Taken
