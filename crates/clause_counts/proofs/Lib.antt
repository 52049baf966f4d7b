-- Counted: how many clauses items and groups have
-- Before: how many clauses stand before an item
-- Sized: what the code asks and answers, over plain numbers and heads
pub mod Counted
pub mod Sized
pub mod Before
