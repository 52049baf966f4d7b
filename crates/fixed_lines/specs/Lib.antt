-- Lines: the first line of the clause file and the line of a refusal
pub mod Lines
