-- Held: a slot of a clause with a literal
-- Left: the literals of a clause that are left
pub mod Held
pub mod Left
