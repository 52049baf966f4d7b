-- Counts: how many clauses items and groups have
pub mod Counts
