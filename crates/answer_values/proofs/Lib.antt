-- Capped: a literal whose number is capped
-- Taking: the literals of an answer one after the other
-- Passing: literals passed over at once keep the form, the outcome and the buffer
-- OnePass: the form and the literals in one pass
-- Steps: the outcome and the buffer of a list of literals, by its places
-- Rows: what the outcome, the buffer and the number of variables without a value say of the literals
-- Computed: answers as they are written
pub mod Capped
pub mod Taking
pub mod Passing
pub mod OnePass
pub mod Steps
pub mod Rows
pub mod Computed
