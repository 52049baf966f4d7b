-- Verdict: the verdict of filling out
-- FillOut: what filling out answers and leaves in its buffers
-- Rows: its rows in the words of the table, their order, and what an accepted set gives
pub mod Verdict
pub mod FillOut
pub mod Rows
