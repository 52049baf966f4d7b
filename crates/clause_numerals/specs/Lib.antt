-- Numbered: a literal's number and the digits of its variable
-- Numerals: numerals as literals
pub mod Numbered
pub mod Numerals
