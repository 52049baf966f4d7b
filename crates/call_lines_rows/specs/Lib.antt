-- Verdicts: the verdicts of the two calls
-- Lines: what the two calls answer and write
-- Rows: rows 8 and 9 in the table's words, and the row that is answered
-- Parts: the parts that runs of lines make of a clause file
pub mod Verdicts
pub mod Lines
pub mod Rows
pub mod Parts
