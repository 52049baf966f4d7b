-- Loaded: what reading a text gives a call, its table or its totals
pub mod Loaded
