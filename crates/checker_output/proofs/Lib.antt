-- Shown: the lines, by what the check gave; the front of a text is enough
-- Printed: the line of a refusal, and the lines of a stable model
pub mod Shown
pub mod Printed
