-- Machine: any automaton, and where a text leaves it
-- Steps: what a byte does in each state
-- Accepted: a text of the form is accepted
-- Sound: an accepted text has the form
-- Spot: a text that is not accepted is malformed at the byte where it leaves the form
-- Digits: reading back numbers and literals
-- Unique: a text is that of one answer
-- Passing: the next literal and the end, read piece by piece, beside the automaton
-- StatusLaws: the status line, beside the automaton and in printed answers
-- PieceLaws: reading literal by literal
-- Whole: what a text is, by what is read of it
-- FirstBytes: what the text has at the spots of literals
-- Turns: the same functions by the index of a byte, for loops
-- Computed: written texts, accepted or left at their spots
pub mod Machine
pub mod Steps
pub mod Accepted
pub mod Sound
pub mod Spot
pub mod Digits
pub mod Unique
pub mod Passing
pub mod StatusLaws
pub mod PieceLaws
pub mod Whole
pub mod FirstBytes
pub mod Turns
pub mod Computed
