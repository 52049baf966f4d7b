-- Output: all that the writer prints
pub mod Output
