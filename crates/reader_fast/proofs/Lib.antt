-- Tokens: the reading from a stand, over fixed bytes, numbers and lists
pub mod Tokens
-- Pieces: what each function returns
pub mod Pieces
