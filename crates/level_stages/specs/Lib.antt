-- Levels: the stages of a reduct in bytes, one round over the rules for each
pub mod Levels
