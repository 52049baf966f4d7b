-- Begun: a buffer that begins with a text counts its bytes
-- Count: what the reads of an input come to
pub mod Begun
pub mod Count
