-- Levels: truth of whole items of groups 3, 4 and 5
pub mod Levels
