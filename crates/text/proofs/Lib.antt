-- Decimals: the digits of a number, one by one
-- Standing: what stands where in a text
-- Each: what holds of each element of a list
-- Spots: where a text leaves a form, for any form
-- Computed: the texts of small programs
pub mod Decimals
pub mod Standing
pub mod Each
pub mod Spots
pub mod Computed
