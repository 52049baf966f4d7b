-- Rules: the number of a rule, if there is one
pub mod Rules
-- Held: the code that a table holds
pub mod Held
