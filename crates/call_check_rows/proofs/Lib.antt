-- Agree: what is computed of the values depends on the first V bytes alone
-- Rows: the result of the check, by the tests that the code makes
-- Open: the check on a text
-- Spots: the literals of an answer, one list whose spots ascend
-- Valued: values as bytes and as truth values
-- Verdicts: the answer is the first row met, and accepts exactly if none is
-- Buffers: what is left in the buffers
pub mod Agree
pub mod Rows
pub mod Open
pub mod Spots
pub mod Valued
pub mod Verdicts
pub mod Buffers
