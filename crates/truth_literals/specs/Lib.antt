-- Values: truth of literals under an assignment of bytes
-- Clauses: truth of clauses of two and three literals, and of a chain's bit
-- Items: truth of whole blocks and items of the walk
pub mod Values
pub mod Clauses
pub mod Items
-- Valued: a table with values of its variables
pub mod Valued
