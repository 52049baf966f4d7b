-- Falls: the part that a clause falls into, by the numbers of clauses
pub mod Falls
