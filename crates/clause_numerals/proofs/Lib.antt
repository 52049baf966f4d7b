-- Numerals: literals with the digits of their variables, and their texts
pub mod Numerals
