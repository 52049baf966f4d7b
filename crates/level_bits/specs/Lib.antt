-- Bits: the bits of levels and the chains, as bytes
pub mod Bits
