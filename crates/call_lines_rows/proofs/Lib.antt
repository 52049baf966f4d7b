-- Cases: answers and bytes for a program, by the tests on j and on the room
-- Answer: the answers of the two calls
-- Open: the two calls on a text
-- Rows: the row answered is the first met
-- Calls: what the two calls write
-- File: the clause file of a program within the limits
-- Parts: the parts that runs of lines make of it, joined, are the clause file
pub mod Cases
pub mod Answer
pub mod Open
pub mod Rows
pub mod Calls
pub mod File
pub mod Parts
