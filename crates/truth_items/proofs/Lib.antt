-- Chosen: an item of a group that is known by its number
pub mod Chosen
