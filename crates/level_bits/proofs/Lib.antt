-- Writes: tables of truth values written at the front of a buffer
pub mod Writes
-- Steps: bits and comparisons, one bit after the other
pub mod Steps
-- Pairs: what the levels and the pairs ask and write
pub mod Pairs
-- Computed: facts that compute
pub mod Computed
