-- Chain: the variables of a bit of a chain
pub mod Chain
