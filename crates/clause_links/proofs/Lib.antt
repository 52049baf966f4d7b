-- Linking: the loop that links the rules, from the last to the first
pub mod Linking
