-- Words: a fixed word in the text
pub mod Words
-- Digits: a number of one to three digits, digit by digit
pub mod Digits
