-- Loop: one turn of the reader's loop, and its ends
pub mod Loop
-- Verdicts: the verdict of a state, from what the reader keeps
pub mod Verdicts
-- Computed: number and spot of a table of texts
pub mod Computed
-- Counted: the front of a text and its length give the answer to the whole
pub mod Counted
