-- Signed: range and magnitude of a literal, and its number as a call gave it
pub mod Signed
-- Products: the products in a variable's number fit
pub mod Products
