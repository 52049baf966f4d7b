-- Told: a reply from the verdict, or the number and spot given
pub mod Told
