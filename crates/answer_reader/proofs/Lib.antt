-- Turns: one turn of each loop, and its end
-- StatusLine: the status by what its line has in common with the three lines
-- Numbers: literals from their digits on
-- Given: from an answer of the code back to the definition's
-- Whole: the form, literal by literal and by the status
-- Promised: what the form says of a text
-- Computed: the answers at written texts
pub mod Turns
pub mod StatusLine
pub mod Numbers
pub mod Given
pub mod Whole
pub mod Promised
pub mod Computed
