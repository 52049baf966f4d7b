-- Values: the fold over a program's text is the program's work
-- Frozen: after a refusal nothing changes
-- Scanned: what the fold says of a text that is not accepted; a text of the form is accepted
-- Endings: every live place has an ending, and no other
-- Sound: an accepted text has the form
-- Spot: a text that is not accepted is malformed at the byte where it leaves the form
-- Unique: a text is that of one program
-- Outcomes: each step of a program's work passes or meets the first breach
-- Judged: the whole work of a program: accepted with its arrays, or stopped by the first breach
-- Order: breaches in text order ascend by spot, and by row at one spot
-- FirstBytes: what the text has at the spots of events and breaches
-- Rows: the answer is the first row met
-- Within: a program has no breach exactly if it is within the limits
-- Contents: what is kept of an accepted text, and of a refused one
pub mod Values
pub mod Frozen
pub mod Scanned
pub mod Endings
pub mod Sound
pub mod Spot
pub mod Unique
pub mod Outcomes
pub mod Judged
pub mod Order
pub mod FirstBytes
pub mod Rows
pub mod Within
pub mod Contents
