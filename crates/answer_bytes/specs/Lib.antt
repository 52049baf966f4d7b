-- Bytes: the bytes of an assignment
pub mod Bytes
-- Refusals: the check's refusal of a literal that is not assigned
pub mod Refusals
