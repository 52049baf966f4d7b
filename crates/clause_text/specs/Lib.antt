-- Blocks: whole blocks of the walk
pub mod Blocks
