-- Bytes: lists of bytes, and what stands where in a text
-- Spot: where a text leaves a form, for any form
-- Decimal: a number in decimal digits
-- Text: program texts, and the texts that have the form
-- Limits: the limits of a program text
pub mod Bytes
pub mod Spot
pub mod Standing
pub mod Decimal
pub mod Text
pub mod Limits
