-- Assign: literals assigned one after the other to a buffer, and the variables that none names
-- Rows: rows 13 and 14 for the literals of an answer
pub mod Assign
pub mod Rows
