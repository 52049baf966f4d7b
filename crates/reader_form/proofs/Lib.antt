-- Bounds: a place with a number or a list is one of the form's
pub mod Bounds
-- Digits: bytes that are digits
pub mod Digits
-- Written: the form as a text
pub mod Written
-- Modes: two modes are one where their numbers are
pub mod Modes
-- Steps: the step from any number for a mode
pub mod Steps
