-- Model: the lines that the checker prints of a model
pub mod Model
