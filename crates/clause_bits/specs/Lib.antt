-- BitTexts: the lines of a chain's bit
pub mod BitTexts
