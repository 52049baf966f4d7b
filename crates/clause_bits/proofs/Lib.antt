-- Bits: the lines of whole bits of chains
-- Opposites: the lines of a first bit from literals and their opposites
pub mod Bits
pub mod Opposites
