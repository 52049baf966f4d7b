-- Tail: a buffer whose tail was lent and came back
-- Wrote: texts at the front of a buffer, one after the other
-- Lengths: how many digits a number has, and lengths and appending of literals as bytes
-- Writing: the last digit of a number, and the text of a literal by its sign
-- DigitLaws: numbers below 10,000 by their digits
-- Computed: lines of three clauses
pub mod Tail
pub mod Wrote
pub mod Lengths
pub mod Writing
pub mod DigitLaws
pub mod Computed
