-- Bytes: sets of atoms and levels as bytes, and what they say of the lists of a rule
pub mod Bytes
-- Sets: a set of atoms beside its table, and a rule of the table
pub mod Sets
