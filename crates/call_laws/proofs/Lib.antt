-- Tabled: the tables of a program that was read
-- Texts: what an accepted or a refused text says of other programs and rows
pub mod Tabled
pub mod Texts
