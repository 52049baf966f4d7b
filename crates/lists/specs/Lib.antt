-- Lists: tests, tables and sums, counted from 1
-- Ascii: the bytes of a text in ASCII
pub mod Lists
pub mod Ascii
