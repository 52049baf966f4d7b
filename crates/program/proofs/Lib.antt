-- Pads: the length of an array filled up with zeros
-- Decode: the arrays kept of a program hold it
pub mod Pads
pub mod Decode
