-- Nonzero: numbers of which 0 stands for none
pub mod Nonzero
