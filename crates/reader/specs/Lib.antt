-- Verdict: the reader's whole answer
-- Counted: the answer from the front of a text and its length
pub mod Verdict
pub mod Counted
