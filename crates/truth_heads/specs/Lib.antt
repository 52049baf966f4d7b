-- Heads: truth of whole items of groups 2 and 7
pub mod Heads
