-- Full: the slots that hold a literal
-- Left: the literals that are left after some slots
-- Next: the next literal of a clause, and the empty slots before it
-- Numbers: the numbers of the literals of a clause, and their bounds
pub mod Full
pub mod Left
pub mod Next
pub mod Numbers
