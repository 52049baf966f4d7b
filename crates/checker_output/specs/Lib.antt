-- Output: all that the checker prints
pub mod Output
