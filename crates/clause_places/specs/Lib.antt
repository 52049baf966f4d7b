-- Places: the places of the clauses, in their order
-- Ahead: what follows a place, and the search for the next clause
pub mod Places
pub mod Ahead
