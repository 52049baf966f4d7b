-- Linked: the table before and after the rules of each atom are linked
pub mod Linked
