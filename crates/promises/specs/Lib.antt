-- Promised: what is promised, as one record of statements
pub mod Promised
