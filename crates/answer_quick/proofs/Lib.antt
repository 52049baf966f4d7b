-- Reading: a literal in its common form is the next literal
-- Passing: one literal after the other, and the end
pub mod Reading
pub mod Passing
