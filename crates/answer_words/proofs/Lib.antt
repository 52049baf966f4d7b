-- Pieces: one turn of each loop, and its end
-- Digits: numbers from their digits on
pub mod Pieces
pub mod Digits
