-- Values: the bytes of the filled-out assignment, family by family
pub mod Values
