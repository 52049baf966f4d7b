-- Proved: what is promised, proved by one term
-- Contracts: the contracts of the open calls, and laws of the code's own definitions
-- Examples: document 01's examples and wrong turns, computed
pub mod Proved
pub mod Contracts
pub mod Examples
