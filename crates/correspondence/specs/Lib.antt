-- Accepted: accepted assignments, and sets as bytes
pub mod Accepted
