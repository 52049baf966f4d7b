-- Verdict: the verdict of the check
-- Check: what the check answers and leaves in its buffers
-- Rows: its rows in the words of the table, their order, and what an accepted answer shows
pub mod Verdict
pub mod Check
pub mod Rows
