-- Signed: the sign of a number
pub mod Signed
-- Sizes: the bounds of the sizes of a program
pub mod Sizes
