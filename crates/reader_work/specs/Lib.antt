-- Work: what the reader keeps, and what each byte does to it
-- Fold: the reader as a fold over the bytes
-- Numbers: what the reader keeps, by the numbers of the definitions
pub mod Work
pub mod Fold
pub mod Numbers
