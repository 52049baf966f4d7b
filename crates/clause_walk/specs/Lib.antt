-- Walk: the clause list by group, item, block, clause and slot
pub mod Walk
