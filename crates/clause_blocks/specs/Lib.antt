-- Texts: the lines of whole blocks of group 4
pub mod Texts
