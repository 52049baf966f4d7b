-- Offered: the answer that gives each variable its value, and the one list of values that literals give
pub mod Offered
