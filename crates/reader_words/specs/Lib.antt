-- Standing: where the reading stands between two words, numbers or lists, and what the text has there
pub mod Standing
