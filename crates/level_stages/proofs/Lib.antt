-- Scans: bytes read and written one after the other
-- OneRound: what the bytes hold after some rules had their turn
-- Levels: the bytes after a round are the levels of its stage; a round that gives none is the last; the least model
-- Turns: the same for a program in its tables
-- Computed: facts that compute
pub mod Scans
pub mod OneRound
pub mod Levels
pub mod Turns
pub mod Computed
